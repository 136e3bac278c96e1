-- The end of a list in braces: a comma may stand there, and a brace does.
use Rattle.std.proofs.Common.{◌≡◌, ◌==◌, ℕ, Bool, true, false, List, [], ◌∷◌, ◌++◌, refl, ap}
use Rattle.misra_base.specs.declared.place.Place.{Place}
use Rattle.c_lexer.specs.declared.token.Token.{Token}
use Rattle.c_lexer.specs.declared.token_class.TokenClass.TheVariants as T
use Rattle.c_reader.specs.Pieces.{Spells, at}
use Rattle.c_reader.specs.SpelledExpressions as spelled
use Rattle.tree_laws.proofs.Beginnings.{kind}
use Rattle.tree_laws.proofs.Reading.{Got, got, class_of, class_is, passed, holds, fails, pass, test}
use Rattle.tree_laws.proofs.Readers as R
use Rattle.tree_laws.proofs.StatementReaders.{readers}

module _ (text : List ℕ) where
  -- the comma at the end of a list, if there is one, and the brace
  pub record Tail (comma : Bool) (close : Place) (ts rest : List Token) : Type 0 where
    pub after : List Token
    pub reads : (n : ℕ) → R.trailing text (readers text n) ts ≡ got comma after
    pub closes : Spells text (at T.RightBrace close ∷ []) after rest

  pub trailing_end : (comma : Bool) (close : Place) (ts rest : List Token) → Spells text (spelled.trailing comma ++ at T.RightBrace close ∷ []) ts rest → Tail comma close ts rest
  trailing_end true close ts rest s = record { after = s.1; reads = λ n. holds _ (ap (λ k. k == 79) (class_is s.2 s.3)) (passed _ s.2 refl); closes = s.4 }
  trailing_end false close ts rest s = record { after = ts; reads = λ n. fails _ (ap (λ k. k == 79) (class_is s.2 s.3.0)) refl; closes = s }

  -- a list ends before that comma
  pub no_more : {X : Type 0} (x : X) (comma : Bool) (close : Place) (ts rest : List Token) → Spells text (spelled.trailing comma ++ at T.RightBrace close ∷ []) ts rest → (go_on : List Token → Got X)
      → test (class_of ts == 79) (pass ts (λ t us. test (kind (class_of us) == 4) (got x ts) (go_on us))) (got x ts) ≡ got x ts
  no_more x true close ts rest s go_on = holds _ (ap (λ k. k == 79) (class_is s.2 s.3)) (passed _ s.2 (let u = s.4 in holds _ (ap (λ k. kind k == 4) (class_is u.2 u.3.0)) refl))
  no_more x false close ts rest s go_on = fails _ (ap (λ k. k == 79) (class_is s.2 s.3.0)) refl
