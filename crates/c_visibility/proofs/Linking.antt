-- The first declaration with linkage behind one declaration more.
use Rattle.std.proofs.Common.{◌≡◌, ◌∙◌, ℕ, ◌==◌, Bool, true, false, List, ◌∷◌, Option, Some, None, refl, sym, ap, subst, arith}
use Rattle.std.proofs.lemmas.Bool.Decides.{nat_tests}
use Rattle.std.specs.Prelude.{if◌then◌else◌}
use Rattle.c_identifiers.specs.declared.event.Role.{Role}
use Rattle.c_visibility.specs.declared.spelled.Spot.{Spot}
use Rattle.c_visibility.specs.declared.spelled.Facts.{Facts}
use Rattle.c_visibility.specs.declared.spelled.Spelled.{Spelled}
use Rattle.c_visibility.specs.declared.spelled.Spelled.TheVariants.{Declare}
use Rattle.c_visibility.specs.declared.scopes.Binding.{Binding}
use Rattle.c_visibility.specs.declared.linkages.Linked.{Linked}
use Rattle.c_visibility.specs.Scopes.{is_refused, declares, declarations, linked, linked_by, known_at}

-- none is put in where none is to be found
none_before : (number : ℕ) (role : Role) (declares : Bool) (first : Option Linked) → linked_by number role declares first ≡ None → first ≡ None
none_before number role declares None e = refl
none_before number role declares (Some first) e = absurd cc

kept_by : (had : ℕ → Option Linked) (key name : ℕ) (same : Bool) → (same ≡ true → key ≡ name) → had key ≡ None → had name ≡ (if same then None else had name)
kept_by had key name true is e = subst (λ n. had n ≡ None) (is refl) e
kept_by had key name false is e = refl

is_same : (m n : ℕ) → (m == n) ≡ true → m ≡ n
is_same m n e = grind (arith, nat_tests)

pub kept : (had : ℕ → Option Linked) (key name : ℕ) (new : Option Linked) → new ≡ None → had key ≡ None → had name ≡ (if key == name then new else had name)
kept had key name new none e =
    kept_by had key name (key == name) (is_same key name) e ∙ ap (λ (o : Option Linked). if key == name then o else had name) (sym none)

pub none_put : (had : ℕ → Option Linked) (number : ℕ) (role : Role) (declares : Bool) (key name : ℕ) → linked_by number role declares (had key) ≡ None
    → had name ≡ (if key == name then linked_by number role declares (had key) else had name)
none_put had number role declares key name e = kept had key name (linked_by number role declares (had key)) e (none_before number role declares (had key) e)

pub linked_behind : (old new : ℕ → Option Linked) (number : ℕ) (role : Role) (facts : Facts) (word : Spot) (before : List Spelled) (b : Option Binding)
    → ((name : ℕ) → old name ≡ linked name before) → number ≡ declarations before → b ≡ known_at before (Declare role facts word)
    → ((name : ℕ) → new name
    ≡ (if word.name == name then linked_by number role (declares role (is_refused role facts (old word.name)) b) (old word.name) else old name))
    → (name : ℕ) → new name ≡ linked name (Declare role facts word ∷ before)
linked_behind old new number role facts word before b has at is step name =
    step name
    ∙ ap (λ (o : Option Linked). if word.name == name then linked_by number role (declares role (is_refused role facts o) b) o else old name) (has word.name)
    ∙ ap (λ (n : ℕ). if word.name == name then linked_by n role (declares role (is_refused role facts (linked word.name before)) b) (linked word.name before) else old name) at
    ∙ ap (λ (c : Option Binding). if word.name == name then linked_by (declarations before) role (declares role (is_refused role facts (linked word.name before)) c) (linked word.name before) else old name) is
    ∙ ap (λ (o : Option Linked). if word.name == name then linked_by (declarations before) role (declares role (is_refused role facts (linked word.name before)) (known_at before (Declare role facts word))) (linked word.name before) else o) (has name)
