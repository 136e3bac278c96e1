-- Each expression that groups as C groups is what its own tokens are read as, and so are the parts of declarations in it.
use Rattle.std.proofs.Common.{◌≡◌, ◌∙◌, ◌≤◌, ◌+◌, ◌==◌, ℕ, suc, Bool, false, List, [], ◌∷◌, ◌++◌, None, Some, refl, sym, ap, subst, arith}
use Rattle.misra_base.specs.declared.place.Place.{Place}
use Rattle.c_lexer.specs.declared.token.Token.{Token}
use Rattle.c_lexer.specs.declared.token_class.TokenClass.TheVariants as T
use Rattle.c_tree.specs.Expressions as E
use Rattle.c_reader.specs.Pieces.{Spells, any, at, word}
use Rattle.c_reader.specs.Grouping.{binding, row_of_first, HasDeclarator, HasEnumerator, IsGrouped, AreGrouped, ArePostfixes, IsPostfix, AreArguments, IsGroupedType, AreSpecifiers, IsSpecifier, AreMembers, AreDeclarators, IsDeclarator, AreBounds, IsBound, IsMaybe, AreEnumerators}
use Rattle.c_reader.specs.SpelledExpressions as spelled
use Rattle.tree_laws.proofs.Ends.{Ends, again, parts, three, weak, weak_in}
use Rattle.tree_laws.proofs.Firsts.{Closes, kind_closes, name_closes, level, reach, first_row_most, first_expression, first_specifiers, first_type, first_declarators, first_operation, pointers_close, no_brace, no_bound, more_arguments_weak, enumerators_weak}
use Rattle.tree_laws.proofs.Beginnings.{strength, kind, row_with, binaries, unaries, keywords, qualifiers_of, unary_is, binary_is, keyword_is, binary_strength}
use Rattle.tree_laws.proofs.Lists.{trailing_end, no_more}
use Rattle.tree_laws.proofs.Operands.{no_operations_end, at_row, as_unary, word_end, bracket_end, whole, to, none_behind, postfixes_from, chained_is, equal, both, all_three, all_four, not_zero, not_most}
use Rattle.tree_laws.proofs.Pointers.{pointers_end}
use Rattle.tree_laws.proofs.Reading.{got, class_of, class_is, bound, passed, holds, fails, found, missing, chosen}
use Rattle.tree_laws.proofs.Readers as R
use Rattle.tree_laws.proofs.StatementReaders.{readers}
use Rattle.tree_laws.proofs.Readers.{Readers, with_postfixes}

module _ (text : List ℕ) where
  first_bound : (b : E.BoundData) (ts rest : List Token) → Spells text (spelled.bound b) ts rest → class_of ts ≡ 35
  first_bound (E.bound m close) ts rest s = class_is s.2 s.3

  mutual
    pub expression_end : (e : E.ExpressionData) (ts rest : List Token) → Spells text (spelled.expression e) ts rest → IsGrouped e → (row : ℕ) → row ≤ level e
        → strength (class_of rest) ≤ row → Ends text (λ r. r.expression row ts) e rest
    expression_end (E.identifier w) ts rest s g row below behind =
        at_row text row (E.identifier w) ts rest below behind (as_unary text (E.identifier w) ts rest
        (word_end text 0 s.0 (E.identifier w) E.no_postfixes ts s.1 rest s.2 s.3.0 refl refl refl (ap E.identifier (sym s.3.1)) (none_behind text s.4 (omega (arith, below, behind)))))
    expression_end (E.constant w) ts rest s g row below behind =
        at_row text row (E.constant w) ts rest below behind (as_unary text (E.constant w) ts rest
        (word_end text 4 s.0 (E.constant w) E.no_postfixes ts s.1 rest s.2 s.3.0 refl refl refl (ap E.constant (sym s.3.1)) (none_behind text s.4 (omega (arith, below, behind)))))
    expression_end (E.parenthesized e) ts rest s g row below behind =
        let p = parts text (spelled.expression e) (any T.RightParenthesis ∷ []) s.1 rest s.4 in
        let q = p.behind in
        let inner = expression_end e s.1 p.between p.front g 0 (omega arith) (weak 38 0 q.2 q.3 (omega arith)) in
        at_row text row (E.parenthesized e) ts rest below behind (as_unary text (E.parenthesized e) ts rest
        (bracket_end text s.0 q.0 e E.no_postfixes ts s.1 p.between q.1 rest s.2 s.3 (first_expression text e s.1 p.between p.front) q.2 inner
        (none_behind text q.4 (omega (arith, below, behind)))))
    expression_end (E.binary e os) ts rest s g row below behind =
        let p = parts text (spelled.expression e) (spelled.operations os) ts rest s in
        let most = first_row_most os in
        let last : strength (class_of rest) ≤ row_of_first os = omega (arith, below, behind) in
        let first = expression_end e ts p.between p.front g.2 (suc (row_of_first os)) (reach e (suc (row_of_first os)) (let h = g.1 in omega (arith, h)) (omega (arith, most)))
        (first_operation text os (row_of_first os) p.between rest g.3 p.behind last) in
        let more = operations_end os (row_of_first os) p.between rest most g.3 p.behind last in
        at_row text row (E.binary e os) ts rest below behind
        (again text (λ r. r.expression (row_of_first os) ts) (E.binary e os) rest (first.enough + more.enough) (λ n le.
        fails _ (not_zero (row_of_first os) g.0) (fails _ (not_most (row_of_first os) most)
        (bound _ (first.reads n (omega (arith, le))) (bound _ (more.reads n (omega (arith, le))) (ap (λ e. got e rest) (chained_is e os g.0)))))))
    expression_end (E.conditional c place a b) ts rest s g row below behind =
        let p = parts text (spelled.expression c) (at T.Question place ∷ spelled.expression a ++ any T.Colon ∷ spelled.expression b) ts rest s in
        let q = p.behind in
        let o = parts text (spelled.expression a) (any T.Colon ∷ spelled.expression b) q.1 rest q.4 in
        let u = o.behind in
        let condition = expression_end c ts p.between p.front g.1 1 (reach c 1 (let h = g.0 in omega (arith, h)) (omega arith)) (weak 65 1 q.2 q.3.0 (omega arith)) in
        let one = expression_end a q.1 o.between o.front g.2 0 (omega arith) (weak 66 0 u.2 u.3 (omega arith)) in
        let other = expression_end b u.1 rest u.4 g.3 0 (omega arith) (omega (arith, below, behind)) in
        at_row text row (E.conditional c place a b) ts rest below behind
        (again text (λ r. r.expression 0 ts) (E.conditional c place a b) rest (condition.enough + (one.enough + other.enough)) (λ n le.
        holds _ refl (bound _ (condition.reads n (omega (arith, le))) (holds _ (ap (λ k. k == 65) (class_is q.2 q.3.0))
        (passed _ q.2 (bound _ (one.reads n (omega (arith, le))) (passed _ u.2 (bound _ (other.reads n (omega (arith, le))) (ap (λ x. got (E.conditional c x a b) rest) q.3.1)))))))))
    expression_end (E.unary place o e) ts rest s g row below behind =
        let inner = expression_end e s.1 rest s.4 g.1 11 (reach e 11 g.0 (omega arith)) (omega (arith, below, behind)) in
        at_row text row (E.unary place o e) ts rest below behind (as_unary text (E.unary place o e) ts rest (record {
          enough = inner.enough;
          reads = λ n le. found _ _ (ap (row_with unaries) (class_is s.2 s.3.0) ∙ unary_is o) (passed _ s.2 (bound _ (inner.reads n le) (ap (λ x. got (E.unary x o e) rest) s.3.1)));
        }))
    expression_end (E.sizeof_expression place e) ts rest s g row below behind =
        let u = s.4 in
        let p = parts text (spelled.expression e) (any T.RightParenthesis ∷ []) u.1 rest u.4 in
        let q = p.behind in
        let inner = expression_end e u.1 p.between p.front g 0 (omega arith) (weak 38 0 q.2 q.3 (omega arith)) in
        at_row text row (E.sizeof_expression place e) ts rest below behind (as_unary text (E.sizeof_expression place e) ts rest (record {
          enough = inner.enough;
          reads = λ n le.
              missing _ (ap (row_with unaries) (class_is s.2 s.3.0)) (holds _ (ap (λ k. k == 34) (class_is s.2 s.3.0)) (passed _ s.2 (passed _ u.2
              (chosen _ (first_expression text e u.1 p.between p.front) (fails _ refl (bound _ (inner.reads n le) (passed _ q.2
              (both (λ x ts. got (E.sizeof_expression x e) ts) s.3.1 q.4))))))));
        }))
    expression_end (E.sizeof_type place t) ts rest s g row below behind =
        let u = s.4 in
        let p = parts text (spelled.type_name t) (any T.RightParenthesis ∷ []) u.1 rest u.4 in
        let q = p.behind in
        let inner = type_end t u.1 p.between p.front g q.0 q.1 q.2 q.3 in
        at_row text row (E.sizeof_type place t) ts rest below behind (as_unary text (E.sizeof_type place t) ts rest (record {
          enough = inner.enough;
          reads = λ n le.
              missing _ (ap (row_with unaries) (class_is s.2 s.3.0)) (holds _ (ap (λ k. k == 34) (class_is s.2 s.3.0)) (passed _ s.2 (passed _ u.2
              (chosen _ (first_type text t u.1 p.between g p.front) (holds _ refl (bound _ (inner.reads n le) (passed _ q.2
              (both (λ x ts. got (E.sizeof_type x t) ts) s.3.1 q.4))))))));
        }))
    expression_end (E.cast place t e) ts rest s g row below behind =
        let p = parts text (spelled.type_name t) (any T.RightParenthesis ∷ spelled.expression e) s.1 rest s.4 in
        let q = p.behind in
        let to_type = type_end t s.1 p.between p.front g.0 q.0 q.1 q.2 q.3 in
        let inner = expression_end e q.1 rest q.4 g.2 11 (reach e 11 g.1 (omega arith)) (omega (arith, below, behind)) in
        at_row text row (E.cast place t e) ts rest below behind (as_unary text (E.cast place t e) ts rest (record {
          enough = to_type.enough + inner.enough;
          reads = λ n le.
              missing _ (ap (row_with unaries) (class_is s.2 s.3.0)) (fails _ (ap (λ k. k == 34) (class_is s.2 s.3.0)) (holds _ (ap (λ k. k == 37) (class_is s.2 s.3.0)) (passed _ s.2
              (chosen _ (first_type text t s.1 p.between g.0 p.front) (holds _ refl (bound _ (to_type.reads n (omega (arith, le))) (passed _ q.2 (bound _ (inner.reads n (omega (arith, le)))
              (ap (λ x. got (E.cast x t e) rest) s.3.1)))))))));
        }))
    expression_end (E.postfix e ps) ts rest s g row below behind =
        let p = parts text (spelled.expression e) (spelled.postfixes ps) ts rest s in
        let more = postfixes_end ps p.between rest g.3 p.behind (omega (arith, below, behind)) in
        at_row text row (E.postfix e ps) ts rest below behind (as_unary text (E.postfix e ps) ts rest
        (whole text (λ r. R.unary text r ts) e ps rest g.2 (operand_end e ps ts p.between rest p.front g.0 g.1 more)))

    operand_end : (e : E.ExpressionData) (ps : E.Postfixes) (ts between rest : List Token) → Spells text (spelled.expression e) ts between → 13 ≤ binding e → IsGrouped e
        → Ends text (λ r. r.postfixes between) ps rest → Ends text (λ r. R.unary text r ts) (with_postfixes e ps) rest
    operand_end (E.identifier w) ps ts between rest s tight g more =
        word_end text 0 s.0 (E.identifier w) ps ts s.1 rest s.2 s.3.0 refl refl refl (ap E.identifier (sym s.3.1)) (postfixes_from text ps s.4 more)
    operand_end (E.constant w) ps ts between rest s tight g more =
        word_end text 4 s.0 (E.constant w) ps ts s.1 rest s.2 s.3.0 refl refl refl (ap E.constant (sym s.3.1)) (postfixes_from text ps s.4 more)
    operand_end (E.parenthesized e) ps ts between rest s tight g more =
        let p = parts text (spelled.expression e) (any T.RightParenthesis ∷ []) s.1 between s.4 in
        let q = p.behind in
        let inner = expression_end e s.1 p.between p.front g 0 (omega arith) (weak 38 0 q.2 q.3 (omega arith)) in
        bracket_end text s.0 q.0 e ps ts s.1 p.between q.1 rest s.2 s.3 (first_expression text e s.1 p.between p.front) q.2 inner (postfixes_from text ps q.4 more)
    operand_end (E.binary e os) ps ts between rest s tight g more = let most = first_row_most os in absurd (omega (arith, tight, most))
    operand_end (E.conditional c place a b) ps ts between rest s tight g more = absurd (omega (arith, tight))
    operand_end (E.unary place o e) ps ts between rest s tight g more = absurd (omega (arith, tight))
    operand_end (E.sizeof_expression place e) ps ts between rest s tight g more = absurd (omega (arith, tight))
    operand_end (E.sizeof_type place t) ps ts between rest s tight g more = absurd (omega (arith, tight))
    operand_end (E.cast place t e) ps ts between rest s tight g more = absurd (omega (arith, tight))
    operand_end (E.postfix e qs) ps ts between rest s tight g more = absurd (omega (arith, tight))

    operations_end : (os : E.Operations) (row : ℕ) (ts rest : List Token) → row ≤ 10 → AreGrouped os row → Spells text (spelled.operations os) ts rest → strength (class_of rest) ≤ row
        → Ends text (λ r. r.operations row ts) os rest
    operations_end E.no_operations row ts rest most g s behind =
        to text (λ r. r.operations row ts) E.no_operations s (no_operations_end text row ts (weak_in row s behind))
    operations_end (E.operation place o e os) row ts rest most g s behind =
        let p = parts text (spelled.expression e) (spelled.operations os) s.1 rest s.4 in
        let first = expression_end e s.1 p.between p.front g.2 (suc row) (reach e (suc row) (let h = g.1 in omega (arith, h)) (omega (arith, most))) (first_operation text os row p.between rest g.3 p.behind behind) in
        let more = operations_end os row p.between rest most g.3 p.behind behind in
        again text (λ r. r.operations row ts) (E.operation place o e os) rest (first.enough + more.enough) (λ n le.
        holds _ (equal (strength (class_of ts)) (suc row) (ap strength (class_is s.2 s.3.0) ∙ binary_strength o ∙ ap suc g.0))
        (passed _ s.2 (found _ _ (ap (row_with binaries) s.3.0 ∙ binary_is o) (bound _ (first.reads n (omega (arith, le))) (bound _ (more.reads n (omega (arith, le)))
        (ap (λ x. got (E.operation x o e os) rest) s.3.1))))))

    postfixes_end : (ps : E.Postfixes) (ts rest : List Token) → ArePostfixes ps → Spells text (spelled.postfixes ps) ts rest → strength (class_of rest) ≤ 12
        → Ends text (λ r. r.postfixes ts) ps rest
    postfixes_end E.no_postfixes ts rest g s behind = none_behind text s behind
    postfixes_end (E.postfix_first p ps) ts rest g s behind =
        let cut = parts text (spelled.postfix p) (spelled.postfixes ps) ts rest s in
        postfix_end p ps ts cut.between rest g.0 cut.front (postfixes_end ps cut.between rest g.1 cut.behind behind)

    postfix_end : (p : E.PostfixData) (ps : E.Postfixes) (ts between rest : List Token) → IsPostfix p → Spells text (spelled.postfix p) ts between
        → Ends text (λ r. r.postfixes between) ps rest → Ends text (λ r. r.postfixes ts) (E.postfix_first p ps) rest
    postfix_end (E.index place e) ps ts between rest g s more =
        let p = parts text (spelled.expression e) (any T.RightBracket ∷ []) s.1 between s.4 in
        let q = p.behind in
        let inner = expression_end e s.1 p.between p.front g 0 (omega arith) (weak 36 0 q.2 q.3 (omega arith)) in
        let others = postfixes_from text ps q.4 more in
        again text (λ r. r.postfixes ts) (E.postfix_first (E.index place e) ps) rest (inner.enough + others.enough) (λ n le.
        holds _ (ap (λ k. k == 35) (class_is s.2 s.3.0)) (passed _ s.2 (bound _ (inner.reads n (omega (arith, le))) (passed _ q.2 (bound _ (others.reads n (omega (arith, le)))
        (ap (λ x. got (E.postfix_first (E.index x e) ps) rest) s.3.1))))))
    postfix_end (E.call place es) ps ts between rest g s more =
        let p = parts text (spelled.arguments es) (any T.RightParenthesis ∷ []) s.1 between s.4 in
        let q = p.behind in
        let inner = arguments_end es s.1 p.between q.0 q.1 q.2 q.3 g p.front in
        let others = postfixes_from text ps q.4 more in
        again text (λ r. r.postfixes ts) (E.postfix_first (E.call place es) ps) rest (inner.enough + others.enough) (λ n le.
        fails _ (ap (λ k. k == 35) (class_is s.2 s.3.0)) (holds _ (ap (λ k. k == 37) (class_is s.2 s.3.0))
        (passed _ s.2 (bound _ (inner.reads n (omega (arith, le))) (passed _ q.2 (bound _ (others.reads n (omega (arith, le)))
        (ap (λ x. got (E.postfix_first (E.call x es) ps) rest) s.3.1)))))))
    postfix_end (E.member place w) ps ts between rest g s more =
        let u = s.4 in
        let others = postfixes_from text ps u.4 more in
        again text (λ r. r.postfixes ts) (E.postfix_first (E.member place w) ps) rest others.enough (λ n le.
        fails _ (ap (λ k. k == 35) (class_is s.2 s.3.0)) (fails _ (ap (λ k. k == 37) (class_is s.2 s.3.0)) (holds _ (ap (λ k. k == 41) (class_is s.2 s.3.0))
        (passed _ s.2 (passed _ u.2 (bound _ (others.reads n le) (both (λ x w. got (E.postfix_first (E.member x w) ps) rest) s.3.1 (sym u.3.1))))))))
    postfix_end (E.arrow place w) ps ts between rest g s more =
        let u = s.4 in
        let others = postfixes_from text ps u.4 more in
        again text (λ r. r.postfixes ts) (E.postfix_first (E.arrow place w) ps) rest others.enough (λ n le.
        fails _ (ap (λ k. k == 35) (class_is s.2 s.3.0)) (fails _ (ap (λ k. k == 37) (class_is s.2 s.3.0)) (fails _ (ap (λ k. k == 41) (class_is s.2 s.3.0)) (holds _ (ap (λ k. k == 42) (class_is s.2 s.3.0))
        (passed _ s.2 (passed _ u.2 (bound _ (others.reads n le) (both (λ x w. got (E.postfix_first (E.arrow x w) ps) rest) s.3.1 (sym u.3.1)))))))))

    arguments_end : (es : E.Expressions) (ts rest : List Token) (v : Token) (after : List Token) → rest ≡ v ∷ after → v.class ≡ 38 → AreArguments es
        → Spells text (spelled.arguments es) ts rest → Ends text (λ r. R.arguments text r ts) es rest
    arguments_end E.no_expressions ts rest v after e c g s =
        record { enough = 0; reads = λ n le. fails _ (ap (λ ts. kind (class_of ts) == 1) s ∙ ap (λ k. kind k == 1) (class_is e c)) (ap (λ ts. got E.no_expressions ts) s) }
    arguments_end (E.expression x es) ts rest v after e c g s =
        let p = parts text (spelled.expression x) (spelled.more_arguments es) ts rest s in
        let first = expression_end x ts p.between p.front g.0 0 (omega arith) (more_arguments_weak text es p.between rest p.behind (weak 38 0 e c (omega arith))) in
        let more = more_arguments_end es p.between rest v after e c g.1 p.behind in
        record {
          enough = first.enough + more.enough;
          reads = λ n le. holds _ (ap (λ k. k == 1) (first_expression text x ts p.between p.front)) (bound _ (first.reads n (omega (arith, le))) (bound _ (more.reads n (omega (arith, le))) refl));
        }

    more_arguments_end : (es : E.Expressions) (ts rest : List Token) (v : Token) (after : List Token) → rest ≡ v ∷ after → v.class ≡ 38 → AreArguments es
        → Spells text (spelled.more_arguments es) ts rest → Ends text (λ r. r.arguments ts) es rest
    more_arguments_end E.no_expressions ts rest v after e c g s =
        again text (λ r. r.arguments ts) E.no_expressions rest 0 (λ n le. fails _ (ap (λ ts. class_of ts == 79) s ∙ ap (λ k. k == 79) (class_is e c)) (ap (λ ts. got E.no_expressions ts) s))
    more_arguments_end (E.expression x es) ts rest v after e c g s =
        let p = parts text (spelled.expression x) (spelled.more_arguments es) s.1 rest s.4 in
        let first = expression_end x s.1 p.between p.front g.0 0 (omega arith) (more_arguments_weak text es p.between rest p.behind (weak 38 0 e c (omega arith))) in
        let more = more_arguments_end es p.between rest v after e c g.1 p.behind in
        again text (λ r. r.arguments ts) (E.expression x es) rest (first.enough + more.enough) (λ n le.
        holds _ (ap (λ k. k == 79) (class_is s.2 s.3)) (passed _ s.2 (bound _ (first.reads n (omega (arith, le))) (bound _ (more.reads n (omega (arith, le))) refl))))

    type_end : (t : E.TypeNameData) (ts rest : List Token) → Spells text (spelled.type_name t) ts rest → IsGroupedType t → (v : Token) (after : List Token) → rest ≡ v ∷ after
        → v.class ≡ 38 → Ends text (λ r. R.type_name text r ts) t rest
    type_end (E.type_name ss ps) ts rest s g v after e c =
        let p = parts text (spelled.specifiers ss) (spelled.pointers ps) ts rest s in
        let first = specifiers_end ss ts p.between g.1 p.front (pointers_close text ps p.between rest p.behind (ap (λ k. kind k == 2) (class_is e c), ap (λ k. kind k == 3) (class_is e c))) in
        let more = pointers_end text ps p.between rest p.behind (ap (row_with qualifiers_of) (class_is e c), ap (λ k. k == 46) (class_is e c)) in
        record { enough = first.enough + more.enough; reads = λ n le. bound _ (first.reads n (omega (arith, le))) (bound _ (more.reads n (omega (arith, le))) refl) }

    pub specifiers_end : (ss : E.Specifiers) (ts rest : List Token) → AreSpecifiers ss → Spells text (spelled.specifiers ss) ts rest → Closes rest → Ends text (λ r. r.specifiers ts) ss rest
    specifiers_end E.no_specifiers ts rest g s behind =
        again text (λ r. r.specifiers ts) E.no_specifiers rest 0 (λ n le. fails _ (ap (λ ts. kind (class_of ts) == 2) s ∙ behind.0) (ap (λ ts. got E.no_specifiers ts) s))
    specifiers_end (E.specifier d ss) ts rest g s behind =
        let p = parts text (spelled.specifier d) (spelled.specifiers ss) ts rest s in
        let first = specifier_end d ts p.between g.0 p.front (no_brace text ss p.between rest p.behind behind.1) in
        let more = specifiers_end ss p.between rest g.1 p.behind behind in
        again text (λ r. r.specifiers ts) (E.specifier d ss) rest (first.enough + more.enough) (λ n le.
        holds _ (ap (λ k. k == 2) (first_specifiers text (E.specifier d ss) ts rest tt s)) (bound _ (first.reads n (omega (arith, le))) (bound _ (more.reads n (omega (arith, le))) refl)))

    specifier_end : (d : E.SpecifierData) (ts rest : List Token) → IsSpecifier d → Spells text (spelled.specifier d) ts rest → (kind (class_of rest) == 3) ≡ false
        → Ends text (λ r. R.specifier text r ts) d rest
    specifier_end (E.keyword w k) ts rest g s behind =
        record { enough = 0; reads = λ n le. found _ _ (ap (row_with keywords) (class_is s.2 s.3.0) ∙ keyword_is k) (passed _ s.2 (both (λ w ts. got (E.keyword w k) ts) (sym s.3.1) s.4)) }
    specifier_end (E.library_type w) ts rest g s behind =
        record {
          enough = 0;
          reads = λ n le. missing _ (ap (row_with keywords) (class_is s.2 s.3.0)) (holds _ (ap (λ k. k == 2) (class_is s.2 s.3.0)) (passed _ s.2 (both (λ w ts. got (E.library_type w) ts) (sym s.3.1) s.4)));
        }
    specifier_end (E.typedef_name w) ts rest g s behind =
        record {
          enough = 0;
          reads = λ n le. missing _ (ap (row_with keywords) (class_is s.2 s.3.0)) (fails _ (ap (λ k. k == 2) (class_is s.2 s.3.0)) (holds _ (ap (λ k. k == 1) (class_is s.2 s.3.0))
              (passed _ s.2 (both (λ w ts. got (E.typedef_name w) ts) (sym s.3.1) s.4))));
        }
    specifier_end (E.structure_reference place w) ts rest g s behind =
        let u = s.4 in
        record {
          enough = 0;
          reads = λ n le.
              missing _ (ap (row_with keywords) (class_is s.2 s.3.0)) (fails _ (ap (λ k. k == 2) (class_is s.2 s.3.0)) (fails _ (ap (λ k. k == 1) (class_is s.2 s.3.0)) (holds _ (ap (λ k. k == 21) (class_is s.2 s.3.0))
              (passed _ s.2 (fails _ (ap (λ k. kind k == 3) (class_is u.2 refl) ∙ name_closes u.0.class u.3.0) (passed _ u.2 (fails _ (ap (λ ts. kind (class_of ts) == 3) u.4 ∙ behind)
              (all_three (λ x w ts. got (E.structure_reference x w) ts) s.3.1 (sym u.3.1) u.4))))))));
        }
    specifier_end (E.structure_declaration place None ms close) ts rest g s behind =
        let u = s.4 in
        let p = parts text (spelled.members ms) (at T.RightBrace close ∷ []) u.1 rest u.4 in
        let q = p.behind in
        let inner = members_end ms u.1 p.between q.0 q.1 q.2 q.3.0 g p.front in
        record {
          enough = inner.enough;
          reads = λ n le.
              missing _ (ap (row_with keywords) (class_is s.2 s.3.0)) (fails _ (ap (λ k. k == 2) (class_is s.2 s.3.0)) (fails _ (ap (λ k. k == 1) (class_is s.2 s.3.0)) (holds _ (ap (λ k. k == 21) (class_is s.2 s.3.0))
              (passed _ s.2 (holds _ (ap (λ k. kind k == 3) (class_is u.2 u.3)) (passed _ u.2 (bound _ (inner.reads n le) (passed _ q.2
              (all_three (λ x y ts. got (E.structure_declaration x None ms y) ts) s.3.1 q.3.1 q.4)))))))));
        }
    specifier_end (E.structure_declaration place (Some w) ms close) ts rest g s behind =
        let t = s.4 in
        let u = t.4 in
        let p = parts text (spelled.members ms) (at T.RightBrace close ∷ []) u.1 rest u.4 in
        let q = p.behind in
        let inner = members_end ms u.1 p.between q.0 q.1 q.2 q.3.0 g p.front in
        record {
          enough = inner.enough;
          reads = λ n le.
              missing _ (ap (row_with keywords) (class_is s.2 s.3.0)) (fails _ (ap (λ k. k == 2) (class_is s.2 s.3.0)) (fails _ (ap (λ k. k == 1) (class_is s.2 s.3.0)) (holds _ (ap (λ k. k == 21) (class_is s.2 s.3.0))
              (passed _ s.2 (fails _ (ap (λ k. kind k == 3) (class_is t.2 refl) ∙ name_closes t.0.class t.3.0) (passed _ t.2 (holds _ (ap (λ k. kind k == 3) (class_is u.2 u.3)) (passed _ u.2 (bound _ (inner.reads n le) (passed _ q.2
              (all_four (λ x w y ts. got (E.structure_declaration x (Some w) ms y) ts) s.3.1 (sym t.3.1) q.3.1 q.4)))))))))));
        }
    specifier_end (E.enumeration_reference place w) ts rest g s behind =
        let u = s.4 in
        record {
          enough = 0;
          reads = λ n le.
              missing _ (ap (row_with keywords) (class_is s.2 s.3.0)) (fails _ (ap (λ k. k == 2) (class_is s.2 s.3.0)) (fails _ (ap (λ k. k == 1) (class_is s.2 s.3.0)) (fails _ (ap (λ k. k == 21) (class_is s.2 s.3.0))
              (passed _ s.2 (fails _ (ap (λ k. kind k == 3) (class_is u.2 refl) ∙ name_closes u.0.class u.3.0) (passed _ u.2 (fails _ (ap (λ ts. kind (class_of ts) == 3) u.4 ∙ behind)
              (all_three (λ x w ts. got (E.enumeration_reference x w) ts) s.3.1 (sym u.3.1) u.4))))))));
        }
    specifier_end (E.enumeration_declaration place None es comma close) ts rest g s behind =
        let u = s.4 in
        let p = parts text (spelled.enumerators es) (spelled.trailing comma ++ at T.RightBrace close ∷ []) u.1 rest (three text _ _ (spelled.enumerators es) (spelled.trailing comma) (at T.RightBrace close ∷ []) u.4) in
        let inner = enumerators_end es comma close u.1 p.between rest g.0 g.1 p.front p.behind in
        let tail = trailing_end text comma close p.between rest p.behind in
        record {
          enough = inner.enough;
          reads = λ n le.
              missing _ (ap (row_with keywords) (class_is s.2 s.3.0)) (fails _ (ap (λ k. k == 2) (class_is s.2 s.3.0)) (fails _ (ap (λ k. k == 1) (class_is s.2 s.3.0)) (fails _ (ap (λ k. k == 21) (class_is s.2 s.3.0))
              (passed _ s.2 (holds _ (ap (λ k. kind k == 3) (class_is u.2 u.3)) (passed _ u.2 (bound _ (inner.reads n le) (bound _ (tail.reads n) (passed _ tail.closes.2
              (all_three (λ x y ts. got (E.enumeration_declaration x None es comma y) ts) s.3.1 tail.closes.3.1 tail.closes.4))))))))));
        }
    specifier_end (E.enumeration_declaration place (Some w) es comma close) ts rest g s behind =
        let t = s.4 in
        let u = t.4 in
        let p = parts text (spelled.enumerators es) (spelled.trailing comma ++ at T.RightBrace close ∷ []) u.1 rest (three text _ _ (spelled.enumerators es) (spelled.trailing comma) (at T.RightBrace close ∷ []) u.4) in
        let inner = enumerators_end es comma close u.1 p.between rest g.0 g.1 p.front p.behind in
        let tail = trailing_end text comma close p.between rest p.behind in
        record {
          enough = inner.enough;
          reads = λ n le.
              missing _ (ap (row_with keywords) (class_is s.2 s.3.0)) (fails _ (ap (λ k. k == 2) (class_is s.2 s.3.0)) (fails _ (ap (λ k. k == 1) (class_is s.2 s.3.0)) (fails _ (ap (λ k. k == 21) (class_is s.2 s.3.0))
              (passed _ s.2 (fails _ (ap (λ k. kind k == 3) (class_is t.2 refl) ∙ name_closes t.0.class t.3.0) (passed _ t.2 (holds _ (ap (λ k. kind k == 3) (class_is u.2 u.3)) (passed _ u.2 (bound _ (inner.reads n le)
              (bound _ (tail.reads n) (passed _ tail.closes.2
              (all_four (λ x w y ts. got (E.enumeration_declaration x (Some w) es comma y) ts) s.3.1 (sym t.3.1) tail.closes.3.1 tail.closes.4))))))))))));
        }

    members_end : (ms : E.Members) (ts rest : List Token) (v : Token) (after : List Token) → rest ≡ v ∷ after → v.class ≡ 40 → AreMembers ms
        → Spells text (spelled.members ms) ts rest → Ends text (λ r. r.members ts) ms rest
    members_end E.no_members ts rest v after e c g s =
        again text (λ r. r.members ts) E.no_members rest 0 (λ n le. fails _ (ap (λ ts. kind (class_of ts) == 2) s ∙ ap (λ k. kind k == 2) (class_is e c)) (ap (λ ts. got E.no_members ts) s))
    members_end (E.members ss ds ms) ts rest v after e c g s =
        let p = parts text (spelled.specifiers ss) (spelled.declarators ds ++ any T.Semicolon ∷ spelled.members ms) ts rest (three text _ _ (spelled.specifiers ss) (spelled.declarators ds) (any T.Semicolon ∷ spelled.members ms) s) in
        let o = parts text (spelled.declarators ds) (any T.Semicolon ∷ spelled.members ms) p.between rest p.behind in
        let q = o.behind in
        let first = specifiers_end ss ts p.between g.1 p.front (kind_closes _ (first_declarators text ds p.between o.between g.2 o.front)) in
        let listed = declarators_end ds p.between o.between q.0 q.1 q.2 q.3 g.2 g.4 o.front in
        let more = members_end ms q.1 rest v after e c g.5 q.4 in
        again text (λ r. r.members ts) (E.members ss ds ms) rest (first.enough + (listed.enough + more.enough)) (λ n le.
        holds _ (ap (λ k. k == 2) (first_specifiers text ss ts p.between g.0 p.front)) (bound _ (first.reads n (omega (arith, le))) (bound _ (listed.reads n (omega (arith, le)))
        (passed _ q.2 (bound _ (more.reads n (omega (arith, le))) refl)))))

    declarators_end : (ds : E.Declarators) (ts rest : List Token) (v : Token) (after : List Token) → rest ≡ v ∷ after → v.class ≡ 67 → HasDeclarator ds → AreDeclarators ds
        → Spells text (spelled.declarators ds) ts rest → Ends text (λ r. R.declarators text r ts) ds rest
    declarators_end E.no_declarators ts rest v after e c has g s = absurd has
    declarators_end (E.declarator_first d ds) ts rest v after e c has g s =
        let p = parts text (spelled.declarator d) (spelled.more_declarators ds) ts rest s in
        let first = declarator_end d ts p.between g.0 p.front (no_bound text ds p.between rest p.behind (ap (λ k. k == 35) (class_is e c))) in
        let more = more_declarators_end ds p.between rest v after e c g.1 p.behind in
        record { enough = first.enough + more.enough; reads = λ n le. bound _ (first.reads n (omega (arith, le))) (bound _ (more.reads n (omega (arith, le))) refl) }

    more_declarators_end : (ds : E.Declarators) (ts rest : List Token) (v : Token) (after : List Token) → rest ≡ v ∷ after → v.class ≡ 67 → AreDeclarators ds
        → Spells text (spelled.more_declarators ds) ts rest → Ends text (λ r. r.declarators ts) ds rest
    more_declarators_end E.no_declarators ts rest v after e c g s =
        again text (λ r. r.declarators ts) E.no_declarators rest 0 (λ n le. fails _ (ap (λ ts. class_of ts == 79) s ∙ ap (λ k. k == 79) (class_is e c)) (ap (λ ts. got E.no_declarators ts) s))
    more_declarators_end (E.declarator_first d ds) ts rest v after e c g s =
        let p = parts text (spelled.declarator d) (spelled.more_declarators ds) s.1 rest s.4 in
        let first = declarator_end d s.1 p.between g.0 p.front (no_bound text ds p.between rest p.behind (ap (λ k. k == 35) (class_is e c))) in
        let more = more_declarators_end ds p.between rest v after e c g.1 p.behind in
        again text (λ r. r.declarators ts) (E.declarator_first d ds) rest (first.enough + more.enough) (λ n le.
        holds _ (ap (λ k. k == 79) (class_is s.2 s.3)) (passed _ s.2 (bound _ (first.reads n (omega (arith, le))) (bound _ (more.reads n (omega (arith, le))) refl))))

    pub declarator_end : (d : E.DeclaratorData) (ts rest : List Token) → IsDeclarator d → Spells text (spelled.declarator d) ts rest → (class_of rest == 35) ≡ false
        → Ends text (λ r. R.declarator text r ts) d rest
    declarator_end (E.declarator ps w bs) ts rest g s behind =
        let p = parts text (spelled.pointers ps) (word T.Identifier w ∷ spelled.bounds bs) ts rest s in
        let q = p.behind in
        let stars = pointers_end text ps ts p.between p.front (ap (row_with qualifiers_of) (class_is q.2 q.3.0), ap (λ k. k == 46) (class_is q.2 q.3.0)) in
        let sizes = bounds_end bs q.1 rest g q.4 behind in
        record {
          enough = stars.enough + sizes.enough;
          reads = λ n le. bound _ (stars.reads n (omega (arith, le))) (passed _ q.2 (bound _ (sizes.reads n (omega (arith, le))) (ap (λ w. got (E.declarator ps w bs) rest) (sym q.3.1))));
        }

    bounds_end : (bs : E.Bounds) (ts rest : List Token) → AreBounds bs → Spells text (spelled.bounds bs) ts rest → (class_of rest == 35) ≡ false → Ends text (λ r. r.bounds ts) bs rest
    bounds_end E.no_bounds ts rest g s behind =
        again text (λ r. r.bounds ts) E.no_bounds rest 0 (λ n le. fails _ (ap (λ ts. class_of ts == 35) s ∙ behind) (ap (λ ts. got E.no_bounds ts) s))
    bounds_end (E.bound_first b bs) ts rest g s behind =
        let p = parts text (spelled.bound b) (spelled.bounds bs) ts rest s in
        let first = bound_end b ts p.between g.0 p.front in
        let more = bounds_end bs p.between rest g.1 p.behind behind in
        again text (λ r. r.bounds ts) (E.bound_first b bs) rest (first.enough + more.enough) (λ n le.
        holds _ (ap (λ k. k == 35) (first_bound b ts p.between p.front)) (bound _ (first.reads n (omega (arith, le))) (bound _ (more.reads n (omega (arith, le))) refl)))

    pub bound_end : (b : E.BoundData) (ts rest : List Token) → IsBound b → Spells text (spelled.bound b) ts rest → Ends text (λ r. R.bound text r ts) b rest
    bound_end (E.bound m close) ts rest g s =
        let p = parts text (spelled.optional m) (at T.RightBracket close ∷ []) s.1 rest s.4 in
        let q = p.behind in
        let inner = optional_end m s.1 p.between q.0 q.1 q.2 q.3.0 g p.front in
        record {
          enough = inner.enough;
          reads = λ n le. passed _ s.2 (bound _ (inner.reads n le) (passed _ q.2 (both (λ y ts. got (E.bound m y) ts) q.3.1 q.4)));
        }

    optional_end : (m : E.MaybeExpression) (ts rest : List Token) (v : Token) (after : List Token) → rest ≡ v ∷ after → v.class ≡ 36 → IsMaybe m → Spells text (spelled.optional m) ts rest
        → Ends text (λ r. R.optional text r ts) m rest
    optional_end E.no_expression ts rest v after e c g s =
        record { enough = 0; reads = λ n le. fails _ (ap (λ ts. kind (class_of ts) == 1) s ∙ ap (λ k. kind k == 1) (class_is e c)) (ap (λ ts. got E.no_expression ts) s) }
    optional_end (E.some_expression x) ts rest v after e c g s =
        let inner = expression_end x ts rest s g 0 (omega arith) (weak 36 0 e c (omega arith)) in
        record { enough = inner.enough; reads = λ n le. holds _ (ap (λ k. k == 1) (first_expression text x ts rest s)) (bound _ (inner.reads n le) refl) }

    enumerators_end : (es : E.Enumerators) (comma : Bool) (close : Place) (ts between rest : List Token) → HasEnumerator es → AreEnumerators es
        → Spells text (spelled.enumerators es) ts between → Spells text (spelled.trailing comma ++ at T.RightBrace close ∷ []) between rest
        → Ends text (λ r. R.enumerators text r ts) es between
    enumerators_end E.no_enumerators comma close ts between rest has g s end = absurd has
    enumerators_end (E.enumerator w m es) comma close ts between rest has g s end =
        let p = parts text (spelled.initial m) (spelled.more_enumerators es) s.1 between s.4 in
        let behind = enumerators_weak text es comma close p.between between rest p.behind end in
        let first = initial_end m s.1 p.between g.0 p.front behind.0 behind.1 in
        let more = more_enumerators_end es comma close p.between between rest g.1 p.behind end in
        record {
          enough = first.enough + more.enough;
          reads = λ n le. passed _ s.2 (bound _ (first.reads n (omega (arith, le))) (bound _ (more.reads n (omega (arith, le))) (ap (λ w. got (E.enumerator w m es) between) (sym s.3.1))));
        }

    more_enumerators_end : (es : E.Enumerators) (comma : Bool) (close : Place) (ts between rest : List Token) → AreEnumerators es
        → Spells text (spelled.more_enumerators es) ts between → Spells text (spelled.trailing comma ++ at T.RightBrace close ∷ []) between rest
        → Ends text (λ r. r.enumerators ts) es between
    more_enumerators_end E.no_enumerators comma close ts between rest g s end =
        to text (λ r. r.enumerators ts) E.no_enumerators s (again text (λ r. r.enumerators ts) E.no_enumerators ts 0 (λ n le.
        no_more text E.no_enumerators comma close ts rest (subst (λ (us : List Token). Spells text (spelled.trailing comma ++ at T.RightBrace close ∷ []) us rest) (sym s) end) (λ us. R.enumerators text (readers text n) us)))
    more_enumerators_end (E.enumerator w m es) comma close ts between rest g s end =
        let u = s.4 in
        let p = parts text (spelled.initial m) (spelled.more_enumerators es) u.1 between u.4 in
        let behind = enumerators_weak text es comma close p.between between rest p.behind end in
        let first = initial_end m u.1 p.between g.0 p.front behind.0 behind.1 in
        let more = more_enumerators_end es comma close p.between between rest g.1 p.behind end in
        again text (λ r. r.enumerators ts) (E.enumerator w m es) between (first.enough + more.enough) (λ n le.
        holds _ (ap (λ k. k == 79) (class_is s.2 s.3)) (passed _ s.2 (fails _ (ap (λ k. kind k == 4) (class_is u.2 u.3.0)) (passed _ u.2 (bound _ (first.reads n (omega (arith, le)))
        (bound _ (more.reads n (omega (arith, le))) (ap (λ w. got (E.enumerator w m es) between) (sym u.3.1))))))))

    initial_end : (m : E.MaybeExpression) (ts rest : List Token) → IsMaybe m → Spells text (spelled.initial m) ts rest → strength (class_of rest) ≤ 0 → (class_of rest == 68) ≡ false
        → Ends text (λ r. R.initial text r ts) m rest
    initial_end E.no_expression ts rest g s behind other =
        record { enough = 0; reads = λ n le. fails _ (ap (λ ts. class_of ts == 68) s ∙ other) (ap (λ ts. got E.no_expression ts) s) }
    initial_end (E.some_expression x) ts rest g s behind other =
        let inner = expression_end x s.1 rest s.4 g 0 (omega arith) behind in
        record { enough = inner.enough; reads = λ n le. holds _ (ap (λ k. k == 68) (class_is s.2 s.3)) (passed _ s.2 (bound _ (inner.reads n le) refl)) }
