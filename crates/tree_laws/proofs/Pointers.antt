-- Pointers are read whole.
use Rattle.std.proofs.Common.{◌≡◌, ◌∙◌, ◌+◌, ◌==◌, ℕ, List, [], ◌∷◌, None, refl, ap, arith}
use Rattle.c_lexer.specs.declared.token.Token.{Token}
use Rattle.c_tree.specs.declared.expression.Qualifier.{Qualifier}
use Rattle.c_tree.specs.Expressions
use Rattle.c_reader.specs.Pieces.{Spells}
use Rattle.c_reader.specs.SpelledExpressions as spelled
use Rattle.tree_laws.proofs.Ends.{Ends, again, parts}
use Rattle.tree_laws.proofs.Firsts.{NoPointer, no_qualifier}
use Rattle.tree_laws.proofs.Beginnings.{row_with, qualifiers_of, qualifier_is}
use Rattle.tree_laws.proofs.Reading.{got, class_of, class_is, bound, passed, holds, fails, found, missing}

qualifiers_end : (text : List ℕ) (qs : List Qualifier) (ts rest : List Token) → Spells text (spelled.qualifiers qs) ts rest → row_with qualifiers_of (class_of rest) ≡ None
    → Ends text (λ r. r.qualifiers ts) qs rest
qualifiers_end text [] ts rest s behind =
    again text (λ r. r.qualifiers ts) [] rest 0 (λ n le. missing _ (ap (λ ts. row_with qualifiers_of (class_of ts)) s ∙ behind) (ap (λ ts. got [] ts) s))
qualifiers_end text (q ∷ qs) ts rest s behind =
    let more = qualifiers_end text qs s.1 rest s.4 behind in
    again text (λ r. r.qualifiers ts) (q ∷ qs) rest more.enough (λ n le.
    found _ _ (ap (row_with qualifiers_of) (class_is s.2 s.3) ∙ qualifier_is q) (passed _ s.2 (bound _ (more.reads n le) refl)))

pub pointers_end : (text : List ℕ) (ps : List Expressions.PointerData) (ts rest : List Token) → Spells text (spelled.pointers ps) ts rest → NoPointer rest
    → Ends text (λ r. r.pointers ts) ps rest
pointers_end text [] ts rest s behind =
    again text (λ r. r.pointers ts) [] rest 0 (λ n le. fails _ (ap (λ ts. class_of ts == 46) s ∙ behind.1) (ap (λ ts. got [] ts) s))
pointers_end text (p ∷ ps) ts rest s behind =
    let cut = parts text (spelled.qualifiers p.qualifiers) (spelled.pointers ps) s.1 rest s.4 in
    let here = qualifiers_end text p.qualifiers s.1 cut.between cut.front (no_qualifier text ps cut.between rest cut.behind behind.0) in
    let more = pointers_end text ps cut.between rest cut.behind behind in
    again text (λ r. r.pointers ts) (p ∷ ps) rest (here.enough + more.enough) (λ n le.
    holds _ (ap (λ k. k == 46) (class_is s.2 s.3.0))
    (passed _ s.2 (bound _ (here.reads n (omega (arith, le))) (bound _ (more.reads n (omega (arith, le))) (ap (λ x. got (record { place = x; qualifiers = p.qualifiers } ∷ ps) rest) s.3.1)))))
