-- `==` of identifiers says whether they are equal.
use Rattle.std.proofs.Common.{◌≡◌, ◌∙◌, ℕ, true, refl, ap, arith}
use Rattle.std.proofs.lemmas.Bool.Decides.{nat_tests}
use Rattle.misra_base.specs.declared.place.Place.{Place}
use Rattle.c_names.specs.declared.declaration.NameSpace.{NameSpace}
use Rattle.c_names.specs.declared.declaration.NameSpace.TheVariants.{Ordinary, Tags, Members}
use Rattle.c_visibility.specs.declared.scopes.Identifier.{Identifier}
use Rattle.c_visibility.specs.Scopes.{same_identifier}

same_place : (p q : Place) → p.line ≡ q.line → p.column ≡ q.column → p ≡ q
same_place p q e f = ap (λ (n : ℕ). record p { line = n }) e ∙ ap (λ (n : ℕ). record q { column = n }) f

same_pair : (s t : NameSpace) (m n : ℕ) → same_identifier (record { space = s; name = m }) (record { space = t; name = n }) ≡ true
    → ◌≡◌ {A = Identifier} (record { space = s; name = m }) (record { space = t; name = n })
same_pair Ordinary Ordinary m n e = let h : m ≡ n = grind (arith, nat_tests) in ap (λ (k : ℕ). record { space = Ordinary; name = k }) h
same_pair Ordinary Tags m n e = absurd cc
same_pair Ordinary (Members q) m n e = absurd cc
same_pair Tags Ordinary m n e = absurd cc
same_pair Tags Tags m n e = let h : m ≡ n = grind (arith, nat_tests) in ap (λ (k : ℕ). record { space = Tags; name = k }) h
same_pair Tags (Members q) m n e = absurd cc
same_pair (Members p) Ordinary m n e = absurd cc
same_pair (Members p) Tags m n e = absurd cc
same_pair (Members p) (Members q) m n e =
    let h : m ≡ n = grind (arith, nat_tests) in
    let line : p.line ≡ q.line = grind (arith, nat_tests) in
    let column : p.column ≡ q.column = grind (arith, nat_tests) in
    ap (λ (k : ℕ). record { space = Members p; name = k }) h ∙ ap (λ (place : Place). record { space = Members place; name = n }) (same_place p q line column)

pub is_same : (i j : Identifier) → same_identifier i j ≡ true → i ≡ j
is_same i j e = same_pair i.space j.space i.name j.name e

pair_is_itself : (s : NameSpace) (n : ℕ) → same_identifier (record { space = s; name = n }) (record { space = s; name = n }) ≡ true
pair_is_itself Ordinary n = grind (arith, nat_tests)
pair_is_itself Tags n = grind (arith, nat_tests)
pair_is_itself (Members p) n = grind (arith, nat_tests)

pub is_itself : (i : Identifier) → same_identifier i i ≡ true
is_itself i = pair_is_itself i.space i.name
