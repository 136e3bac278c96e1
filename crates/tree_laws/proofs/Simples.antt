-- The parts of statements are read whole.
use Rattle.std.proofs.Common.{◌≡◌, ◌∙◌, ◌≤◌, ◌+◌, ◌==◌, ℕ, false, List, [], ◌∷◌, ◌++◌, Option, None, Some, inl, inr, ◌⊎◌, refl, sym, ap, arith}
use Rattle.c_lexer.specs.TokenClasses.{class_number}
use Rattle.c_lexer.specs.declared.token.Token.{Token}
use Rattle.c_lexer.specs.declared.token_class.TokenClass.TheVariants as T
use Rattle.c_tree.specs.declared.statement.AssignmentOperator.{AssignmentOperator}
use Rattle.c_tree.specs.declared.statement.AssignmentOperator.TheVariants as A
use Rattle.c_tree.specs.declared.statement.Step.{Step}
use Rattle.c_tree.specs.declared.statement.Step.TheVariants as P
use Rattle.c_tree.specs.Expressions as E
use Rattle.c_tree.specs.Statements as D
use Rattle.c_reader.specs.Pieces.{Spells, any, at, word}
use Rattle.c_reader.specs.Signs.{assignment_sign, step_sign}
use Rattle.c_reader.specs.GroupedStatements.{IsGroupedSimple, IsGroupedStep, IsGroupedOption, IsGroupedLeave, IsGroupedStart, AreGroupedLabels}
use Rattle.c_reader.specs.SpelledExpressions as spelled
use Rattle.c_reader.specs.SpelledStatements as printed
use Rattle.tree_laws.proofs.Beginnings.{strength, kind, row_with, assignments, qualifiers_of, assignment_is}
use Rattle.tree_laws.proofs.Ends.{Ends, again, parts, three, weak}
use Rattle.tree_laws.proofs.Expressions.{expression_end, specifiers_end}
use Rattle.tree_laws.proofs.Firsts.{kind_is, kind_closes, reach, first_expression, first_specifiers, pointers_begin}
use Rattle.tree_laws.proofs.Operands.{both, all_three}
use Rattle.tree_laws.proofs.Pointers.{pointers_end}
use Rattle.tree_laws.proofs.Reading.{Got, got, class_of, class_is, bound, passed, holds, fails, found, missing, chosen, by}
use Rattle.tree_laws.proofs.StatementReaders as S
use Rattle.tree_laws.proofs.StatementReaders.{readers, step_of}

assignment_calm : (o : AssignmentOperator) → strength (class_number (assignment_sign o)) ≤ 0
assignment_calm A.Assign = omega arith
assignment_calm A.Multiply = omega arith
assignment_calm A.Divide = omega arith
assignment_calm A.Remainder = omega arith
assignment_calm A.Add = omega arith
assignment_calm A.Subtract = omega arith
assignment_calm A.ShiftLeft = omega arith
assignment_calm A.ShiftRight = omega arith
assignment_calm A.And = omega arith
assignment_calm A.Xor = omega arith
assignment_calm A.Or = omega arith

step_calm : (s : Step) → strength (class_number (step_sign s)) ≤ 0
step_calm P.Increment = omega arith
step_calm P.Decrement = omega arith

step_kind : (s : Step) → kind (class_number (step_sign s)) ≡ 5
step_kind P.Increment = refl
step_kind P.Decrement = refl

no_assignment : (s : Step) → row_with assignments (class_number (step_sign s)) ≡ None
no_assignment P.Increment = refl
no_assignment P.Decrement = refl

step_is : (s : Step) → step_of (class_number (step_sign s)) ≡ s
step_is P.Increment = refl
step_is P.Decrement = refl

-- nothing goes on there that a simple statement could
pub record IsQuiet (ts : List Token) : Type 0 where
  pub calm : strength (class_of ts) ≤ 0
  pub no_assignment : row_with assignments (class_of ts) ≡ None
  pub no_step : (kind (class_of ts) == 5) ≡ false

pub quiet : {ts more : List Token} {t : Token} (k : ℕ) → ts ≡ t ∷ more → t.class ≡ k → strength k ≤ 0 → row_with assignments k ≡ None → (kind k == 5) ≡ false → IsQuiet ts
quiet k e c calm none no_step =
    record { calm = weak k 0 e c calm; no_assignment = ap (row_with assignments) (class_is e c) ∙ none; no_step = ap (λ k. kind k == 5) (class_is e c) ∙ no_step }

module _ (text : List ℕ) where
  pub first_simple : (s : D.SimpleData) (ts rest : List Token) → Spells text (printed.simple s) ts rest → (kind (class_of ts) ≡ 1) ⊎ (kind (class_of ts) ≡ 5)
  first_simple (D.simple_expression e) ts rest s = inl (first_expression text e ts rest s)
  first_simple (D.assignment t place o v) ts rest s =
      let p = parts text (spelled.expression t) (at (assignment_sign o) place ∷ spelled.expression v) ts rest s in inl (first_expression text t ts p.between p.front)
  first_simple (D.prefix_step place o e) ts rest s = inr (ap kind (class_is s.2 s.3.0) ∙ step_kind o)
  first_simple (D.postfix_step e place o) ts rest s =
      let p = parts text (spelled.expression e) (at (step_sign o) place ∷ []) ts rest s in inl (first_expression text e ts p.between p.front)

  pub simple_end : (d : D.SimpleData) (ts rest : List Token) → IsGroupedSimple d → Spells text (printed.simple d) ts rest → IsQuiet rest → Ends text (λ r. S.simple text r ts) d rest
  simple_end (D.simple_expression e) ts rest g s behind =
      let inner = expression_end text e ts rest s g 0 (omega arith) behind.calm in
      record {
        enough = inner.enough;
        reads = λ n le. fails _ (ap (λ k. k == 5) (first_expression text e ts rest s)) (bound _ (inner.reads n le) (missing _ behind.no_assignment (fails _ behind.no_step refl)));
      }
  simple_end (D.assignment t place o v) ts rest g s behind =
      let p = parts text (spelled.expression t) (at (assignment_sign o) place ∷ spelled.expression v) ts rest s in
      let q = p.behind in
      let target = expression_end text t ts p.between p.front g.0 0 (omega arith) (weak (class_number (assignment_sign o)) 0 q.2 q.3.0 (assignment_calm o)) in
      let value = expression_end text v q.1 rest q.4 g.1 0 (omega arith) behind.calm in
      record {
        enough = target.enough + value.enough;
        reads = λ n le. fails _ (ap (λ k. k == 5) (first_expression text t ts p.between p.front)) (bound _ (target.reads n (omega (arith, le)))
            (found _ _ (ap (row_with assignments) (class_is q.2 q.3.0) ∙ assignment_is o) (passed _ q.2 (bound _ (value.reads n (omega (arith, le))) (ap (λ x. got (D.assignment t x o v) rest) q.3.1)))));
      }
  simple_end (D.prefix_step place o e) ts rest g s behind =
      let inner = expression_end text e s.1 rest s.4 g.1 11 (reach e 11 g.0 (omega arith)) (let h = behind.calm in omega (arith, h)) in
      record {
        enough = inner.enough;
        reads = λ n le. holds _ (ap (λ k. kind k == 5) (class_is s.2 s.3.0) ∙ ap (λ k. k == 5) (step_kind o)) (passed _ s.2 (bound _ (inner.reads n le)
            (both (λ x o. got (D.prefix_step x o e) rest) s.3.1 (ap step_of s.3.0 ∙ step_is o))));
      }
  simple_end (D.postfix_step e place o) ts rest g s behind =
      let p = parts text (spelled.expression e) (at (step_sign o) place ∷ []) ts rest s in
      let q = p.behind in
      let inner = expression_end text e ts p.between p.front g 0 (omega arith) (weak (class_number (step_sign o)) 0 q.2 q.3.0 (step_calm o)) in
      record {
        enough = inner.enough;
        reads = λ n le. fails _ (ap (λ k. k == 5) (first_expression text e ts p.between p.front)) (bound _ (inner.reads n le)
            (missing _ (ap (row_with assignments) (class_is q.2 q.3.0) ∙ no_assignment o) (holds _ (ap (λ k. kind k == 5) (class_is q.2 q.3.0) ∙ ap (λ k. k == 5) (step_kind o)) (passed _ q.2
            (all_three (λ x o ts. got (D.postfix_step e x o) ts) q.3.1 (ap step_of q.3.0 ∙ step_is o) q.4)))));
      }

  pub optional_expression_end : (o : Option E.ExpressionData) (ts rest : List Token) (v : Token) (after : List Token) → rest ≡ v ∷ after → v.class ≡ 67 → IsGroupedOption o
      → Spells text (printed.optional_expression o) ts rest → Ends text (λ r. S.optional_expression text r ts) o rest
  optional_expression_end None ts rest v after e c g s =
      record { enough = 0; reads = λ n le. fails _ (ap (λ ts. kind (class_of ts) == 1) s ∙ ap (λ k. kind k == 1) (class_is e c)) (ap (λ ts. got None ts) s) }
  optional_expression_end (Some x) ts rest v after e c g s =
      let inner = expression_end text x ts rest s g 0 (omega arith) (weak 67 0 e c (omega arith)) in
      record { enough = inner.enough; reads = λ n le. holds _ (ap (λ k. k == 1) (first_expression text x ts rest s)) (bound _ (inner.reads n le) refl) }

  -- by how it begins, a simple statement is read
  some_simple : {X : Type 0} (f : ℕ → Got X) (d : D.SimpleData) (ts rest : List Token) (h : Got X) → Spells text (printed.simple d) ts rest → f 1 ≡ h → f 5 ≡ h → by (kind (class_of ts)) f ≡ h
  some_simple f d ts rest h s one step = here (first_simple d ts rest s)
    where
      here : (kind (class_of ts) ≡ 1) ⊎ (kind (class_of ts) ≡ 5) → by (kind (class_of ts)) f ≡ h
      here (inl k) = chosen _ k one
      here (inr k) = chosen _ k step

  pub optional_simple_end : (o : Option D.SimpleData) (ts rest : List Token) (v : Token) (after : List Token) → rest ≡ v ∷ after → v.class ≡ 38 → IsGroupedStep o
      → Spells text (printed.optional_simple o) ts rest → Ends text (λ r. S.optional_simple text r ts) o rest
  optional_simple_end None ts rest v after e c g s =
      record { enough = 0; reads = λ n le. chosen _ (ap (λ ts. kind (class_of ts)) s ∙ ap kind (class_is e c)) (ap (λ ts. got None ts) s) }
  optional_simple_end (Some d) ts rest v after e c g s =
      let inner = simple_end d ts rest g s (quiet 38 e c (omega arith) refl refl) in
      record { enough = inner.enough; reads = λ n le. some_simple _ d ts rest (got (Some d) rest) s (bound _ (inner.reads n le) refl) (bound _ (inner.reads n le) refl) }

  pub start_end : (o : Option D.ForStartData) (ts rest : List Token) (v : Token) (after : List Token) → rest ≡ v ∷ after → v.class ≡ 67 → IsGroupedStart o
      → Spells text (printed.start o) ts rest → Ends text (λ r. S.start text r ts) o rest
  start_end None ts rest v after e c g s =
      record { enough = 0; reads = λ n le. chosen _ (ap (λ ts. kind (class_of ts)) s ∙ ap kind (class_is e c)) (ap (λ ts. got None ts) s) }
  start_end (Some (D.start_simple d)) ts rest v after e c g s =
      let inner = simple_end d ts rest g s (quiet 67 e c (omega arith) refl refl) in
      record { enough = inner.enough; reads = λ n le. some_simple _ d ts rest (got (Some (D.start_simple d)) rest) s (bound _ (inner.reads n le) refl) (bound _ (inner.reads n le) refl) }
  start_end (Some (D.start_declaration ss ps w place x)) ts rest v after e c g s =
      let p = parts text (spelled.specifiers ss) (spelled.pointers ps ++ word T.Identifier w ∷ at T.Assign place ∷ spelled.expression x) ts rest (three text _ _ (spelled.specifiers ss) (spelled.pointers ps) (word T.Identifier w ∷ at T.Assign place ∷ spelled.expression x) s) in
      let o = parts text (spelled.pointers ps) (word T.Identifier w ∷ at T.Assign place ∷ spelled.expression x) p.between rest p.behind in
      let q = o.behind in
      let u = q.4 in
      let first = specifiers_end text ss ts p.between g.0.1 p.front (kind_closes _ (pointers_begin text ps p.between o.between o.front (kind_is 0 q.2 q.3.0))) in
      let stars = pointers_end text ps p.between o.between o.front (ap (row_with qualifiers_of) (class_is q.2 q.3.0), ap (λ k. k == 46) (class_is q.2 q.3.0)) in
      let value = expression_end text x u.1 rest u.4 g.1 0 (omega arith) (weak 67 0 e c (omega arith)) in
      record {
        enough = first.enough + (stars.enough + value.enough);
        reads = λ n le. chosen _ (first_specifiers text ss ts p.between g.0.0 p.front) (bound _ (first.reads n (omega (arith, le))) (bound _ (stars.reads n (omega (arith, le)))
            (passed _ q.2 (passed _ u.2 (bound _ (value.reads n (omega (arith, le))) (both (λ w y. got (Some (D.start_declaration ss ps w y x)) rest) (sym q.3.1) u.3.1))))));
      }

  pub leave_end : (l : D.LeaveData) (ts rest : List Token) → IsGroupedLeave l → Spells text (printed.leave l) ts rest → Ends text (λ r. S.leave text r ts) l rest
  leave_end (D.breaks place) ts rest g s =
      let u = s.4 in
      record {
        enough = 0;
        reads = λ n le. holds _ (ap (λ k. kind k == 12) (class_is s.2 s.3.0)) (passed _ s.2 (passed _ u.2 (both (λ x ts. got (D.breaks x) ts) s.3.1 u.4)));
      }
  leave_end (D.returns place o) ts rest g s =
      let p = parts text (printed.optional_expression o) (any T.Semicolon ∷ []) s.1 rest s.4 in
      let q = p.behind in
      let inner = optional_expression_end o s.1 p.between q.0 q.1 q.2 q.3 g p.front in
      record {
        enough = inner.enough;
        reads = λ n le. fails _ (ap (λ k. kind k == 12) (class_is s.2 s.3.0)) (passed _ s.2 (bound _ (inner.reads n le) (passed _ q.2 (both (λ x ts. got (D.returns x o) ts) s.3.1 q.4))));
      }

  pub first_leave : (l : D.LeaveData) (ts rest : List Token) → Spells text (printed.leave l) ts rest → (kind (class_of ts) ≡ 12) ⊎ (kind (class_of ts) ≡ 13)
  first_leave (D.breaks place) ts rest s = inl (kind_is 31 s.2 s.3.0)
  first_leave (D.returns place o) ts rest s = inr (kind_is 33 s.2 s.3.0)

  pub labels_end : (ls : List D.CaseLabelData) (ts rest : List Token) → AreGroupedLabels ls → Spells text (printed.labels ls) ts rest → (kind (class_of rest) == 16) ≡ false
      → Ends text (λ r. r.labels ts) ls rest
  labels_end [] ts rest g s behind = again text (λ r. r.labels ts) [] rest 0 (λ n le. fails _ (ap (λ ts. kind (class_of ts) == 16) s ∙ behind) (ap (λ ts. got [] ts) s))
  labels_end (l ∷ ls) ts rest g s behind =
      let p = parts text (spelled.expression l.value) (any T.Colon ∷ printed.labels ls) s.1 rest s.4 in
      let q = p.behind in
      let value = expression_end text l.value s.1 p.between p.front g.0 0 (omega arith) (weak 66 0 q.2 q.3 (omega arith)) in
      let more = labels_end ls q.1 rest g.1 q.4 behind in
      again text (λ r. r.labels ts) (l ∷ ls) rest (value.enough + more.enough) (λ n le.
      holds _ (ap (λ k. kind k == 16) (class_is s.2 s.3.0)) (passed _ s.2 (bound _ (value.reads n (omega (arith, le))) (passed _ q.2 (bound _ (more.reads n (omega (arith, le)))
      (ap (λ x. got (record { place = x; value = l.value } ∷ ls) rest) s.3.1))))))
