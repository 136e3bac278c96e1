-- What a reader comes to that may go on often enough.
use Rattle.std.proofs.Common.{◌≡◌, ◌≢◌, ◌∙◌, ◌≤◌, ◌==◌, ℕ, zero, suc, false, List, [], ◌∷◌, ◌++◌, append_assoc, refl, sym, ap, subst, arith}
use Rattle.std.proofs.lemmas.Bool.{ne_eqb}
use Rattle.c_lexer.specs.declared.token.Token.{Token}
use Rattle.c_reader.specs.Pieces.{Piece, Spells}
use Rattle.tree_laws.proofs.Beginnings.{strength}
use Rattle.tree_laws.proofs.Reading.{Got, got, class_of, class_is}
use Rattle.tree_laws.proofs.Readers.{Readers}
use Rattle.tree_laws.proofs.StatementReaders.{readers}

pub record Ends {X : Type 0} (text : List ℕ) (f : Readers → Got X) (x : X) (rest : List Token) : Type 0 where
  pub enough : ℕ
  pub reads : (n : ℕ) → enough ≤ n → f (readers text n) ≡ got x rest

pub again : {X : Type 0} (text : List ℕ) (f : Readers → Got X) (x : X) (rest : List Token) (enough : ℕ) → ((n : ℕ) → enough ≤ n → f (readers text (suc n)) ≡ got x rest)
    → Ends text f x rest
again text f x rest enough h = record { enough = suc enough; reads = from }
  where
    from : (n : ℕ) → suc enough ≤ n → f (readers text n) ≡ got x rest
    from zero le = absurd (omega (arith, le))
    from (suc n) le = h n (omega (arith, le))

-- a reading in two
pub record Parts (text : List ℕ) (ps qs : List Piece) (tokens others : List Token) : Type 0 where
  pub between : List Token
  pub front : Spells text ps tokens between
  pub behind : Spells text qs between others

pub parts : (text : List ℕ) (ps qs : List Piece) (tokens others : List Token) → Spells text (ps ++ qs) tokens others → Parts text ps qs tokens others
parts text [] qs tokens others s = record { between = tokens; front = refl; behind = s }
parts text (p ∷ ps) qs tokens others s =
    let more = parts text ps qs s.1 others s.4 in
    record { between = more.between; front = (s.0, s.1, s.2, s.3, more.front); behind = more.behind }

-- a line of the printer joins its parts from the left
pub three : (text : List ℕ) (tokens others : List Token) (ps qs rs : List Piece) → Spells text ((ps ++ qs) ++ rs) tokens others → Spells text (ps ++ (qs ++ rs)) tokens others
three text tokens others ps qs rs s = subst (λ (ps : List Piece). Spells text ps tokens others) (append_assoc ps qs rs) s

pub four : (text : List ℕ) (tokens others : List Token) (ps qs rs us : List Piece) → Spells text (((ps ++ qs) ++ rs) ++ us) tokens others
    → Spells text (ps ++ ((qs ++ rs) ++ us)) tokens others
four text tokens others ps qs rs us s =
    subst (λ (ps : List Piece). Spells text ps tokens others) (ap (λ ps. ps ++ us) (append_assoc ps qs rs) ∙ append_assoc ps (qs ++ rs) us) s

-- ---- what stands behind

pub weak : {ts more : List Token} {t : Token} (k n : ℕ) → ts ≡ t ∷ more → t.class ≡ k → strength k ≤ n → strength (class_of ts) ≤ n
weak k n e c h = subst (λ (k : ℕ). strength k ≤ n) (sym (class_is e c)) h

pub weak_in : {ts us : List Token} (n : ℕ) → ts ≡ us → strength (class_of us) ≤ n → strength (class_of ts) ≤ n
weak_in n e h = subst (λ (ts : List Token). strength (class_of ts) ≤ n) (sym e) h

pub not_equal : (a b : ℕ) → a ≢ b → (a == b) ≡ false
not_equal a b h = ne_eqb a b h
