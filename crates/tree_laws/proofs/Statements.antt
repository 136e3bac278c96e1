-- Statements are read whole.
use Rattle.std.proofs.Common.{◌≡◌, ◌∙◌, ◌+◌, ◌==◌, ℕ, false, List, [], ◌∷◌, ◌++◌, inl, inr, ◌⊎◌, refl, sym, ap, subst, true≢false, arith}
use Rattle.c_lexer.specs.declared.token.Token.{Token}
use Rattle.c_lexer.specs.declared.token_class.TokenClass.TheVariants as T
use Rattle.c_tree.specs.Statements as D
use Rattle.c_reader.specs.Pieces.{Spells, any, at}
use Rattle.c_reader.specs.GroupedStatements.{HasLabel, IsGroupedBlock, AreGroupedItems, IsGroupedItem, IsGroupedStatement, IsGroupedIf, IsGroupedElse, AreGroupedClauses, IsGroupedDefault, IsGroupedBody, AreGroupedStatements}
use Rattle.c_reader.specs.SpelledExpressions as spelled
use Rattle.c_reader.specs.SpelledStatements as printed
use Rattle.tree_laws.proofs.Beginnings.{kind}
use Rattle.tree_laws.proofs.Ends.{Ends, again, parts, three, four, weak, not_equal}
use Rattle.tree_laws.proofs.Expressions.{expression_end}
use Rattle.tree_laws.proofs.Declarations.{declaration_end}
use Rattle.tree_laws.proofs.Firsts.{kind_is, first_specifiers}
use Rattle.tree_laws.proofs.Operands.{both, all_three}
use Rattle.tree_laws.proofs.Reading.{got, class_of, class_is, bound, passed, holds, fails, chosen}
use Rattle.tree_laws.proofs.Simples.{quiet, first_simple, simple_end, optional_expression_end, optional_simple_end, start_end, leave_end, first_leave, labels_end}
use Rattle.tree_laws.proofs.StatementReaders as S

-- a statement begins there, and no declaration, jump or brace that closes, and no `else`
abbrev Starts : ℕ → Type 0
Starts k = ((k == 2) ≡ false) × ((k == 12) ≡ false) × ((k == 13) ≡ false) × ((k == 4) ≡ false) × ((k == 16) ≡ false) × ((k == 0) ≡ false)

starts_as : {j : ℕ} (k : ℕ) → j ≡ k → Starts k → Starts j
starts_as k e h = subst Starts (sym e) h

-- none of these words is `else`
not_else : (k : ℕ) → (kind k == 0) ≡ false → (k == 24) ≡ false
not_else k h = not_equal k 24 (λ e. true≢false (sym (ap (λ k. kind k == 0) e) ∙ h))

module _ (text : List ℕ) where
  first_if : (i : D.IfData) (ts rest : List Token) → Spells text (printed.if_statement i) ts rest → kind (class_of ts) ≡ 7
  first_if (D.if_then place c b o) ts rest s = kind_is 23 s.2 s.3.0

  first_block : (b : D.BlockData) (ts rest : List Token) → Spells text (printed.block b) ts rest → kind (class_of ts) ≡ 3
  first_block (D.block place is close) ts rest s = kind_is 39 s.2 s.3.0

  first_statement : (d : D.StatementData) (ts rest : List Token) → Spells text (printed.statement d) ts rest → Starts (kind (class_of ts))
  first_statement (D.block_statement b) ts rest s = starts_as 3 (first_block b ts rest s) (refl, refl, refl, refl, refl, refl)
  first_statement (D.if_statement i) ts rest s = starts_as 7 (first_if i ts rest s) (refl, refl, refl, refl, refl, refl)
  first_statement (D.while_statement place c b) ts rest s = starts_as 8 (kind_is 25 s.2 s.3.0) (refl, refl, refl, refl, refl, refl)
  first_statement (D.do_statement place b w c) ts rest s = starts_as 9 (kind_is 26 s.2 s.3.0) (refl, refl, refl, refl, refl, refl)
  first_statement (D.for_statement place o c t b) ts rest s = starts_as 10 (kind_is 27 s.2 s.3.0) (refl, refl, refl, refl, refl, refl)
  first_statement (D.switch_statement place e cs d close) ts rest s = starts_as 11 (kind_is 28 s.2 s.3.0) (refl, refl, refl, refl, refl, refl)
  first_statement (D.continue_statement place) ts rest s = starts_as 14 (kind_is 32 s.2 s.3.0) (refl, refl, refl, refl, refl, refl)
  first_statement (D.empty_statement place) ts rest s = starts_as 15 (kind_is 67 s.2 s.3.0) (refl, refl, refl, refl, refl, refl)
  first_statement (D.simple_statement d) ts rest s =
      let p = parts text (printed.simple d) (any T.Semicolon ∷ []) ts rest s in here (first_simple text d ts p.between p.front)
    where
      here : (kind (class_of ts) ≡ 1) ⊎ (kind (class_of ts) ≡ 5) → Starts (kind (class_of ts))
      here (inl k) = starts_as 1 k (refl, refl, refl, refl, refl, refl)
      here (inr k) = starts_as 5 k (refl, refl, refl, refl, refl, refl)

  first_item : (i : D.ItemData) (ts rest : List Token) → IsGroupedItem i → Spells text (printed.item i) ts rest → ((kind (class_of ts) == 4) ≡ false) × ((kind (class_of ts) == 0) ≡ false)
  first_item (D.declaration_item d) ts rest g s =
      let p = parts text (spelled.specifiers d.specifiers) (printed.objects d.declarators ++ any T.Semicolon ∷ []) ts rest (three text _ _ (spelled.specifiers d.specifiers) (printed.objects d.declarators) (any T.Semicolon ∷ []) s) in
      let k = first_specifiers text d.specifiers ts p.between g.0.0 p.front in (ap (λ k. k == 4) k, ap (λ k. k == 0) k)
  first_item (D.statement_item d) ts rest g s = let h = first_statement d ts rest s in (h.3, h.5)
  first_item (D.leave_item l) ts rest g s = here (first_leave text l ts rest s)
    where
      here : (kind (class_of ts) ≡ 12) ⊎ (kind (class_of ts) ≡ 13) → ((kind (class_of ts) == 4) ≡ false) × ((kind (class_of ts) == 0) ≡ false)
      here (inl k) = (ap (λ k. k == 4) k, ap (λ k. k == 0) k)
      here (inr k) = (ap (λ k. k == 4) k, ap (λ k. k == 0) k)

  -- behind an item stands another, or the brace
  items_go_on : (is : D.Items) (ts rest : List Token) (v : Token) (after : List Token) → rest ≡ v ∷ after → v.class ≡ 40 → AreGroupedItems is → Spells text (printed.items is) ts rest
      → (class_of ts == 24) ≡ false
  items_go_on D.no_items ts rest v after e c g s = ap (λ ts. class_of ts == 24) s ∙ ap (λ k. k == 24) (class_is e c)
  items_go_on (D.item_first i is) ts rest v after e c g s =
      let p = parts text (printed.item i) (printed.items is) ts rest s in not_else (class_of ts) (first_item i ts p.between g.0 p.front).1

  -- behind a statement of a clause stands another, or the jump
  statements_go_on : (ss : D.Statements) (l : D.LeaveData) (ts between rest : List Token) → Spells text (printed.statements ss) ts between → Spells text (printed.leave l) between rest
      → (class_of ts == 24) ≡ false
  statements_go_on D.no_statements l ts between rest s t = ap (λ ts. class_of ts == 24) s ∙ here (first_leave text l between rest t)
    where
      here : (kind (class_of between) ≡ 12) ⊎ (kind (class_of between) ≡ 13) → (class_of between == 24) ≡ false
      here (inl k) = not_else (class_of between) (ap (λ k. k == 0) k)
      here (inr k) = not_else (class_of between) (ap (λ k. k == 0) k)
  statements_go_on (D.statement_first d ss) l ts between rest s t =
      let p = parts text (printed.statement d) (printed.statements ss) ts between s in not_else (class_of ts) (first_statement d ts p.between p.front).5

  -- a body begins with no label
  body_begins : (b : D.BodyData) (ts rest : List Token) → Spells text (printed.body b) ts rest → (kind (class_of ts) == 16) ≡ false
  body_begins (D.body D.no_statements l) ts rest s = here (first_leave text l ts rest s)
    where
      here : (kind (class_of ts) ≡ 12) ⊎ (kind (class_of ts) ≡ 13) → (kind (class_of ts) == 16) ≡ false
      here (inl k) = ap (λ k. k == 16) k
      here (inr k) = ap (λ k. k == 16) k
  body_begins (D.body (D.statement_first d ss) l) ts rest s =
      let o = parts text (printed.statement d ++ printed.statements ss) (printed.leave l) ts rest s in
      let p = parts text (printed.statement d) (printed.statements ss) ts o.between o.front in (first_statement d ts p.between p.front).4

  -- behind the clauses stands `default`, or the brace
  default_begins : (d : D.MaybeBody) (ts rest : List Token) (v : Token) (after : List Token) → rest ≡ v ∷ after → v.class ≡ 40 → Spells text (printed.default d) ts rest
      → (kind (class_of ts) == 16) ≡ false
  default_begins D.no_body ts rest v after e c s = ap (λ ts. kind (class_of ts) == 16) s ∙ ap (λ k. kind k == 16) (class_is e c)
  default_begins (D.some_body b) ts rest v after e c s = ap (λ k. kind k == 16) (class_is s.2 s.3)

  first_labels : (ls : List D.CaseLabelData) (ts rest : List Token) → HasLabel ls → Spells text (printed.labels ls) ts rest → kind (class_of ts) ≡ 16
  first_labels [] ts rest has s = absurd has
  first_labels (l ∷ ls) ts rest has s = kind_is 29 s.2 s.3.0

  mutual
    pub block_end : (b : D.BlockData) (ts rest : List Token) → IsGroupedBlock b → Spells text (printed.block b) ts rest → Ends text (λ r. r.block ts) b rest
    block_end (D.block place is close) ts rest g s =
        let p = parts text (printed.items is) (at T.RightBrace close ∷ []) s.1 rest s.4 in
        let q = p.behind in
        let inner = items_end is s.1 p.between q.0 q.1 q.2 q.3.0 g p.front in
        again text (λ r. r.block ts) (D.block place is close) rest inner.enough (λ n le.
        passed _ s.2 (bound _ (inner.reads n le) (passed _ q.2 (all_three (λ x y ts. got (D.block x is y) ts) s.3.1 q.3.1 q.4))))

    items_end : (is : D.Items) (ts rest : List Token) (v : Token) (after : List Token) → rest ≡ v ∷ after → v.class ≡ 40 → AreGroupedItems is → Spells text (printed.items is) ts rest
        → Ends text (λ r. r.items ts) is rest
    items_end D.no_items ts rest v after e c g s =
        again text (λ r. r.items ts) D.no_items rest 0 (λ n le. holds _ (ap (λ ts. kind (class_of ts) == 4) s ∙ ap (λ k. kind k == 4) (class_is e c)) (ap (λ ts. got D.no_items ts) s))
    items_end (D.item_first i is) ts rest v after e c g s =
        let p = parts text (printed.item i) (printed.items is) ts rest s in
        let first = item_end i ts p.between g.0 p.front (items_go_on is p.between rest v after e c g.1 p.behind) in
        let more = items_end is p.between rest v after e c g.1 p.behind in
        again text (λ r. r.items ts) (D.item_first i is) rest (first.enough + more.enough) (λ n le.
        fails _ (first_item i ts p.between g.0 p.front).0 (bound _ (first.reads n (omega (arith, le))) (bound _ (more.reads n (omega (arith, le))) refl)))

    item_end : (i : D.ItemData) (ts rest : List Token) → IsGroupedItem i → Spells text (printed.item i) ts rest → (class_of rest == 24) ≡ false → Ends text (λ r. S.item text r ts) i rest
    item_end (D.declaration_item d) ts rest g s behind =
        let p = parts text (spelled.specifiers d.specifiers) (printed.objects d.declarators ++ any T.Semicolon ∷ []) ts rest (three text _ _ (spelled.specifiers d.specifiers) (printed.objects d.declarators) (any T.Semicolon ∷ []) s) in
        let inner = declaration_end text d ts rest g s in
        record { enough = inner.enough; reads = λ n le. holds _ (ap (λ k. k == 2) (first_specifiers text d.specifiers ts p.between g.0.0 p.front)) (bound _ (inner.reads n le) refl) }
    item_end (D.statement_item d) ts rest g s behind =
        let inner = statement_end d ts rest g s behind in
        let k = first_statement d ts rest s in
        record { enough = inner.enough; reads = λ n le. fails _ k.0 (fails _ k.1 (fails _ k.2 (bound _ (inner.reads n le) refl))) }
    item_end (D.leave_item l) ts rest g s behind =
        let inner = leave_end text l ts rest g s in
        here inner (first_leave text l ts rest s)
      where
        here : Ends text (λ r. S.leave text r ts) l rest → (kind (class_of ts) ≡ 12) ⊎ (kind (class_of ts) ≡ 13) → Ends text (λ r. S.item text r ts) (D.leave_item l) rest
        here inner (inl k) = record { enough = inner.enough; reads = λ n le. fails _ (ap (λ k. k == 2) k) (holds _ (ap (λ k. k == 12) k) (bound _ (inner.reads n le) refl)) }
        here inner (inr k) =
            record { enough = inner.enough; reads = λ n le. fails _ (ap (λ k. k == 2) k) (fails _ (ap (λ k. k == 12) k) (holds _ (ap (λ k. k == 13) k) (bound _ (inner.reads n le) refl))) }

    statement_end : (d : D.StatementData) (ts rest : List Token) → IsGroupedStatement d → Spells text (printed.statement d) ts rest → (class_of rest == 24) ≡ false
        → Ends text (λ r. S.statement text r ts) d rest
    statement_end (D.block_statement b) ts rest g s behind =
        let inner = block_end b ts rest g s in
        record { enough = inner.enough; reads = λ n le. chosen _ (first_block b ts rest s) (bound _ (inner.reads n le) refl) }
    statement_end (D.if_statement i) ts rest g s behind =
        let inner = branch_end i ts rest g s behind in
        record { enough = inner.enough; reads = λ n le. chosen _ (first_if i ts rest s) (bound _ (inner.reads n le) refl) }
    statement_end (D.while_statement place x b) ts rest g s behind =
        let u = s.4 in
        let p = parts text (spelled.expression x) (any T.RightParenthesis ∷ printed.block b) u.1 rest u.4 in
        let q = p.behind in
        let condition = expression_end text x u.1 p.between p.front g.0 0 (omega arith) (weak 38 0 q.2 q.3 (omega arith)) in
        let inner = block_end b q.1 rest g.1 q.4 in
        record {
          enough = condition.enough + inner.enough;
          reads = λ n le. chosen _ (kind_is 25 s.2 s.3.0) (passed _ s.2 (passed _ u.2 (bound _ (condition.reads n (omega (arith, le))) (passed _ q.2 (bound _ (inner.reads n (omega (arith, le)))
              (ap (λ y. got (D.while_statement y x b) rest) s.3.1))))));
        }
    statement_end (D.do_statement place b while_place x) ts rest g s behind =
        let p = parts text (printed.block b) (at T.While while_place ∷ any T.LeftParenthesis ∷ spelled.expression x ++ any T.RightParenthesis ∷ any T.Semicolon ∷ []) s.1 rest (three text _ _ (printed.block b) (at T.While while_place ∷ any T.LeftParenthesis ∷ spelled.expression x) (any T.RightParenthesis ∷ any T.Semicolon ∷ []) s.4) in
        let q = p.behind in
        let u = q.4 in
        let o = parts text (spelled.expression x) (any T.RightParenthesis ∷ any T.Semicolon ∷ []) u.1 rest u.4 in
        let v = o.behind in
        let w = v.4 in
        let inner = block_end b s.1 p.between g.0 p.front in
        let condition = expression_end text x u.1 o.between o.front g.1 0 (omega arith) (weak 38 0 v.2 v.3 (omega arith)) in
        record {
          enough = inner.enough + condition.enough;
          reads = λ n le. chosen _ (kind_is 26 s.2 s.3.0) (passed _ s.2 (bound _ (inner.reads n (omega (arith, le))) (passed _ q.2 (passed _ u.2 (bound _ (condition.reads n (omega (arith, le)))
              (passed _ v.2 (passed _ w.2 (all_three (λ y z ts. got (D.do_statement y b z x) ts) s.3.1 q.3.1 w.4))))))));
        }
    statement_end (D.for_statement place o x t b) ts rest g s behind =
        let u = s.4 in
        let a = parts text (printed.start o) (any T.Semicolon ∷ printed.optional_expression x ++ any T.Semicolon ∷ printed.optional_simple t ++ any T.RightParenthesis ∷ printed.block b) u.1 rest (four text _ _ (printed.start o) (any T.Semicolon ∷ printed.optional_expression x) (any T.Semicolon ∷ printed.optional_simple t) (any T.RightParenthesis ∷ printed.block b) u.4) in
        let v = a.behind in
        let c = parts text (printed.optional_expression x) (any T.Semicolon ∷ printed.optional_simple t ++ any T.RightParenthesis ∷ printed.block b) v.1 rest (three text _ _ (printed.optional_expression x) (any T.Semicolon ∷ printed.optional_simple t) (any T.RightParenthesis ∷ printed.block b) v.4) in
        let w = c.behind in
        let d = parts text (printed.optional_simple t) (any T.RightParenthesis ∷ printed.block b) w.1 rest w.4 in
        let y = d.behind in
        let starting = start_end text o u.1 a.between v.0 v.1 v.2 v.3 g.0 a.front in
        let condition = optional_expression_end text x v.1 c.between w.0 w.1 w.2 w.3 g.1 c.front in
        let step = optional_simple_end text t w.1 d.between y.0 y.1 y.2 y.3 g.2 d.front in
        let inner = block_end b y.1 rest g.3 y.4 in
        record {
          enough = starting.enough + (condition.enough + (step.enough + inner.enough));
          reads = λ n le. chosen _ (kind_is 27 s.2 s.3.0) (passed _ s.2 (passed _ u.2 (bound _ (starting.reads n (omega (arith, le))) (passed _ v.2 (bound _ (condition.reads n (omega (arith, le)))
              (passed _ w.2 (bound _ (step.reads n (omega (arith, le))) (passed _ y.2 (bound _ (inner.reads n (omega (arith, le))) (ap (λ z. got (D.for_statement z o x t b) rest) s.3.1))))))))));
        }
    statement_end (D.switch_statement place x cs d close) ts rest g s behind =
        let u = s.4 in
        let a = parts text (spelled.expression x) (any T.RightParenthesis ∷ any T.LeftBrace ∷ printed.clauses cs ++ printed.default d ++ at T.RightBrace close ∷ []) u.1 rest (four text _ _ (spelled.expression x) (any T.RightParenthesis ∷ any T.LeftBrace ∷ printed.clauses cs) (printed.default d) (at T.RightBrace close ∷ []) u.4) in
        let v = a.behind in
        let w = v.4 in
        let c = parts text (printed.clauses cs) (printed.default d ++ at T.RightBrace close ∷ []) w.1 rest (three text _ _ (printed.clauses cs) (printed.default d) (at T.RightBrace close ∷ []) w.4) in
        let o = parts text (printed.default d) (at T.RightBrace close ∷ []) c.between rest c.behind in
        let y = o.behind in
        let value = expression_end text x u.1 a.between a.front g.0 0 (omega arith) (weak 38 0 v.2 v.3 (omega arith)) in
        let listed = clauses_end cs w.1 c.between g.1 c.front (default_begins d c.between o.between y.0 y.1 y.2 y.3.0 o.front) in
        let other = default_end d c.between o.between y.0 y.1 y.2 y.3.0 g.2 o.front in
        record {
          enough = value.enough + (listed.enough + other.enough);
          reads = λ n le. chosen _ (kind_is 28 s.2 s.3.0) (passed _ s.2 (passed _ u.2 (bound _ (value.reads n (omega (arith, le))) (passed _ v.2 (passed _ w.2 (bound _ (listed.reads n (omega (arith, le)))
              (bound _ (other.reads n (omega (arith, le))) (passed _ y.2 (all_three (λ z q ts. got (D.switch_statement z x cs d q) ts) s.3.1 y.3.1 y.4)))))))));
        }
    statement_end (D.continue_statement place) ts rest g s behind =
        let u = s.4 in
        record { enough = 0; reads = λ n le. chosen _ (kind_is 32 s.2 s.3.0) (passed _ s.2 (passed _ u.2 (both (λ x ts. got (D.continue_statement x) ts) s.3.1 u.4))) }
    statement_end (D.simple_statement d) ts rest g s behind =
        let p = parts text (printed.simple d) (any T.Semicolon ∷ []) ts rest s in
        let q = p.behind in
        let inner = simple_end text d ts p.between g p.front (quiet 67 q.2 q.3 (omega arith) refl refl) in
        here inner (first_simple text d ts p.between p.front) q.2 q.4
      where
        here : {between after : List Token} {v : Token} → Ends text (λ r. S.simple text r ts) d between → (kind (class_of ts) ≡ 1) ⊎ (kind (class_of ts) ≡ 5) → between ≡ v ∷ after → after ≡ rest
            → Ends text (λ r. S.statement text r ts) (D.simple_statement d) rest
        here inner (inl k) e f = record { enough = inner.enough; reads = λ n le. chosen _ k (bound _ (inner.reads n le) (passed _ e (ap (λ ts. got (D.simple_statement d) ts) f))) }
        here inner (inr k) e f = record { enough = inner.enough; reads = λ n le. chosen _ k (bound _ (inner.reads n le) (passed _ e (ap (λ ts. got (D.simple_statement d) ts) f))) }
    statement_end (D.empty_statement place) ts rest g s behind =
        record { enough = 0; reads = λ n le. chosen _ (kind_is 67 s.2 s.3.0) (passed _ s.2 (both (λ x ts. got (D.empty_statement x) ts) s.3.1 s.4)) }

    branch_end : (i : D.IfData) (ts rest : List Token) → IsGroupedIf i → Spells text (printed.if_statement i) ts rest → (class_of rest == 24) ≡ false → Ends text (λ r. r.branch ts) i rest
    branch_end (D.if_then place x b o) ts rest g s behind =
        let u = s.4 in
        let p = parts text (spelled.expression x) (any T.RightParenthesis ∷ printed.block b ++ printed.maybe_otherwise o) u.1 rest (three text _ _ (spelled.expression x) (any T.RightParenthesis ∷ printed.block b) (printed.maybe_otherwise o) u.4) in
        let q = p.behind in
        let c = parts text (printed.block b) (printed.maybe_otherwise o) q.1 rest q.4 in
        let condition = expression_end text x u.1 p.between p.front g.0 0 (omega arith) (weak 38 0 q.2 q.3 (omega arith)) in
        let inner = block_end b q.1 c.between g.1 c.front in
        let other = otherwise_end o c.between rest g.2 c.behind behind in
        again text (λ r. r.branch ts) (D.if_then place x b o) rest (condition.enough + (inner.enough + other.enough)) (λ n le.
        passed _ s.2 (passed _ u.2 (bound _ (condition.reads n (omega (arith, le))) (passed _ q.2 (bound _ (inner.reads n (omega (arith, le))) (bound _ (other.reads n (omega (arith, le)))
        (ap (λ y. got (D.if_then y x b o) rest) s.3.1)))))))

    otherwise_end : (o : D.MaybeOtherwise) (ts rest : List Token) → IsGroupedElse o → Spells text (printed.maybe_otherwise o) ts rest → (class_of rest == 24) ≡ false
        → Ends text (λ r. S.maybe_otherwise text r ts) o rest
    otherwise_end D.no_otherwise ts rest g s behind =
        record { enough = 0; reads = λ n le. fails _ (ap (λ ts. class_of ts == 24) s ∙ behind) (ap (λ ts. got D.no_otherwise ts) s) }
    otherwise_end (D.some_otherwise (D.otherwise_block b)) ts rest g s behind =
        let inner = block_end b s.1 rest g s.4 in
        record {
          enough = inner.enough;
          reads = λ n le. holds _ (ap (λ k. k == 24) (class_is s.2 s.3)) (passed _ s.2 (holds _ (ap (λ k. k == 3) (first_block b s.1 rest s.4)) (bound _ (inner.reads n le) refl)));
        }
    otherwise_end (D.some_otherwise (D.otherwise_if i)) ts rest g s behind =
        let inner = branch_end i s.1 rest g s.4 behind in
        record {
          enough = inner.enough;
          reads = λ n le. holds _ (ap (λ k. k == 24) (class_is s.2 s.3)) (passed _ s.2 (fails _ (ap (λ k. k == 3) (first_if i s.1 rest s.4)) (bound _ (inner.reads n le) refl)));
        }

    clauses_end : (cs : D.Clauses) (ts rest : List Token) → AreGroupedClauses cs → Spells text (printed.clauses cs) ts rest → (kind (class_of rest) == 16) ≡ false
        → Ends text (λ r. r.clauses ts) cs rest
    clauses_end D.no_clauses ts rest g s behind =
        again text (λ r. r.clauses ts) D.no_clauses rest 0 (λ n le. fails _ (ap (λ ts. kind (class_of ts) == 16) s ∙ behind) (ap (λ ts. got D.no_clauses ts) s))
    clauses_end (D.clause_first ls b cs) ts rest g s behind =
        let p = parts text (printed.labels ls) (printed.body b ++ printed.clauses cs) ts rest (three text _ _ (printed.labels ls) (printed.body b) (printed.clauses cs) s) in
        let q = parts text (printed.body b) (printed.clauses cs) p.between rest p.behind in
        let first = labels_end text ls ts p.between g.1 p.front (body_begins b p.between q.between q.front) in
        let inner = body_end b p.between q.between g.2 q.front in
        let more = clauses_end cs q.between rest g.3 q.behind behind in
        again text (λ r. r.clauses ts) (D.clause_first ls b cs) rest (first.enough + (inner.enough + more.enough)) (λ n le.
        holds _ (ap (λ k. k == 16) (first_labels ls ts p.between g.0 p.front)) (bound _ (first.reads n (omega (arith, le))) (bound _ (inner.reads n (omega (arith, le)))
        (bound _ (more.reads n (omega (arith, le))) refl))))

    default_end : (d : D.MaybeBody) (ts rest : List Token) (v : Token) (after : List Token) → rest ≡ v ∷ after → v.class ≡ 40 → IsGroupedDefault d → Spells text (printed.default d) ts rest
        → Ends text (λ r. S.default text r ts) d rest
    default_end D.no_body ts rest v after e c g s =
        record { enough = 0; reads = λ n le. fails _ (ap (λ ts. kind (class_of ts) == 17) s ∙ ap (λ k. kind k == 17) (class_is e c)) (ap (λ ts. got D.no_body ts) s) }
    default_end (D.some_body b) ts rest v after e c g s =
        let u = s.4 in
        let inner = body_end b u.1 rest g u.4 in
        record { enough = inner.enough; reads = λ n le. holds _ (ap (λ k. kind k == 17) (class_is s.2 s.3)) (passed _ s.2 (passed _ u.2 (bound _ (inner.reads n le) refl))) }

    body_end : (b : D.BodyData) (ts rest : List Token) → IsGroupedBody b → Spells text (printed.body b) ts rest → Ends text (λ r. S.body text r ts) b rest
    body_end (D.body ss l) ts rest g s =
        let p = parts text (printed.statements ss) (printed.leave l) ts rest s in
        let inner = statements_end ss l ts p.between rest g.0 p.front p.behind in
        let last = leave_end text l p.between rest g.1 p.behind in
        record { enough = inner.enough + last.enough; reads = λ n le. bound _ (inner.reads n (omega (arith, le))) (bound _ (last.reads n (omega (arith, le))) refl) }

    statements_end : (ss : D.Statements) (l : D.LeaveData) (ts between rest : List Token) → AreGroupedStatements ss → Spells text (printed.statements ss) ts between
        → Spells text (printed.leave l) between rest → Ends text (λ r. r.statements ts) ss between
    statements_end D.no_statements l ts between rest g s t = here (first_leave text l between rest t)
      where
        here : (kind (class_of between) ≡ 12) ⊎ (kind (class_of between) ≡ 13) → Ends text (λ r. r.statements ts) D.no_statements between
        here (inl k) = again text (λ r. r.statements ts) D.no_statements between 0 (λ n le. holds _ (ap (λ ts. kind (class_of ts) == 12) s ∙ ap (λ k. k == 12) k) (ap (λ ts. got D.no_statements ts) s))
        here (inr k) =
            again text (λ r. r.statements ts) D.no_statements between 0 (λ n le.
            fails _ (ap (λ ts. kind (class_of ts) == 12) s ∙ ap (λ k. k == 12) k) (holds _ (ap (λ ts. kind (class_of ts) == 13) s ∙ ap (λ k. k == 13) k) (ap (λ ts. got D.no_statements ts) s)))
    statements_end (D.statement_first d ss) l ts between rest g s t =
        let p = parts text (printed.statement d) (printed.statements ss) ts between s in
        let first = statement_end d ts p.between g.0 p.front (statements_go_on ss l p.between between rest p.behind t) in
        let more = statements_end ss l p.between between rest g.1 p.behind t in
        let k = first_statement d ts p.between p.front in
        again text (λ r. r.statements ts) (D.statement_first d ss) between (first.enough + more.enough) (λ n le.
        fails _ k.1 (fails _ k.2 (bound _ (first.reads n (omega (arith, le))) (bound _ (more.reads n (omega (arith, le))) refl))))
