-- A plain reader of expressions and of what declarations are made of: what stands at the front of a list of tokens, and
-- what is behind it. `Readers` are the readers that a reader goes on with.
use Rattle.std.proofs.Common.{◌==◌, ℕ, suc, Bool, true, false, cond, List, [], ◌∷◌, Option, None, Some}
use Rattle.c_lexer.specs.declared.token.Token.{Token}
use Rattle.c_tree.specs.declared.expression.Qualifier.{Qualifier}
use Rattle.c_tree.specs.declared.expression.Word.{Word}
use Rattle.c_tree.specs.Expressions
use Rattle.c_tree.specs.Statements
use Rattle.c_reader.specs.Grouping.{chained}
use Rattle.tree_laws.proofs.Beginnings.{strength, kind, row_with, binaries, unaries, keywords, qualifiers_of}
use Rattle.tree_laws.proofs.Reading.{Got, got, class_of, word_of, bind, pass, test, on_some, by}

pub record Readers : Type 0 where
  pub expression : ℕ → List Token → Got Expressions.ExpressionData
  pub operations : ℕ → List Token → Got Expressions.Operations
  pub postfixes : List Token → Got Expressions.Postfixes
  pub arguments : List Token → Got Expressions.Expressions
  pub specifiers : List Token → Got Expressions.Specifiers
  pub members : List Token → Got Expressions.Members
  pub declarators : List Token → Got Expressions.Declarators
  pub bounds : List Token → Got Expressions.Bounds
  pub enumerators : List Token → Got Expressions.Enumerators
  pub pointers : List Token → Got (List Expressions.PointerData)
  pub qualifiers : List Token → Got (List Qualifier)
  pub initializer : List Token → Got Statements.InitializerData
  pub initializers : List Token → Got Statements.Initializers
  pub objects : List Token → Got (List Statements.InitDeclaratorData)
  pub block : List Token → Got Statements.BlockData
  pub items : List Token → Got Statements.Items
  pub branch : List Token → Got Statements.IfData
  pub labels : List Token → Got (List Statements.CaseLabelData)
  pub clauses : List Token → Got Statements.Clauses
  pub statements : List Token → Got Statements.Statements
  pub parameters : List Token → Got (List Statements.ParameterData)
  pub externals : List Token → Got (List Statements.ExternalData)

abbrev pub with_postfixes : Expressions.ExpressionData → Expressions.Postfixes → Expressions.ExpressionData
with_postfixes e Expressions.no_postfixes = e
with_postfixes e (Expressions.postfix_first p ps) = Expressions.postfix e (Expressions.postfix_first p ps)

abbrev pub atom : ℕ → Word → Expressions.ExpressionData
atom k w = cond (k == 0) (Expressions.identifier w) (Expressions.constant w)

module _ (text : List ℕ) (r : Readers) where
  -- ---- pointers

  abbrev pub qualifiers : List Token → Got (List Qualifier)
  qualifiers ts = on_some (row_with qualifiers_of (class_of ts)) (λ q. pass ts (λ t ts. bind (r.qualifiers ts) (λ qs ts. got (q ∷ qs) ts))) (got [] ts)

  abbrev pub pointers : List Token → Got (List Expressions.PointerData)
  pointers ts =
      test (class_of ts == 46)
      (pass ts (λ t ts. bind (r.qualifiers ts) (λ qs ts. bind (r.pointers ts) (λ ps ts. got (record { place = t.place; qualifiers = qs } ∷ ps) ts))))
      (got [] ts)

  -- ---- expressions

  abbrev pub conditional_tail : Expressions.ExpressionData → List Token → Got Expressions.ExpressionData
  conditional_tail c ts =
      test (class_of ts == 65)
      (pass ts (λ t ts. bind (r.expression 0 ts) (λ a ts. pass ts (λ u ts. bind (r.expression 0 ts) (λ b ts. got (Expressions.conditional c t.place a b) ts)))))
      (got c ts)

  abbrev pub behind : Expressions.ExpressionData → List Token → Got Expressions.ExpressionData
  behind e ts = bind (r.postfixes ts) (λ ps ts. got (with_postfixes e ps) ts)

  abbrev pub type_name : List Token → Got Expressions.TypeNameData
  type_name ts = bind (r.specifiers ts) (λ ss ts. bind (r.pointers ts) (λ ps ts. got (Expressions.type_name ss ps) ts))

  abbrev pub size : Token → ℕ → List Token → Got Expressions.ExpressionData
  size t k ts =
      test (k == 2)
      (bind (type_name ts) (λ n ts. pass ts (λ v ts. got (Expressions.sizeof_type t.place n) ts)))
      (bind (r.expression 0 ts) (λ e ts. pass ts (λ v ts. got (Expressions.sizeof_expression t.place e) ts)))

  abbrev pub bracket : Token → ℕ → List Token → Got Expressions.ExpressionData
  bracket t k ts =
      test (k == 2)
      (bind (type_name ts) (λ n ts. pass ts (λ v ts. bind (r.expression 11 ts) (λ e ts. got (Expressions.cast t.place n e) ts))))
      (bind (r.expression 0 ts) (λ e ts. pass ts (λ v ts. behind (Expressions.parenthesized e) ts)))

  abbrev pub unary : List Token → Got Expressions.ExpressionData
  unary ts =
      on_some (row_with unaries (class_of ts)) (λ o. pass ts (λ t ts. bind (r.expression 11 ts) (λ e ts. got (Expressions.unary t.place o e) ts)))
      (test (class_of ts == 34) (pass ts (λ t ts. pass ts (λ u ts. by (kind (class_of ts)) (λ k. size t k ts))))
      (test (class_of ts == 37) (pass ts (λ t ts. by (kind (class_of ts)) (λ k. bracket t k ts)))
      (pass ts (λ t ts. behind (atom t.class (word_of text t)) ts))))

  -- a conditional, operands of a row of operators, or a unary expression
  abbrev pub expression : ℕ → List Token → Got Expressions.ExpressionData
  expression row ts =
      test (row == 0) (bind (r.expression 1 ts) conditional_tail)
      (test (row == 11) (unary ts)
      (bind (r.expression (suc row) ts) (λ e ts. bind (r.operations row ts) (λ os ts. got (chained e os) ts))))

  abbrev pub operations : ℕ → List Token → Got Expressions.Operations
  operations row ts =
      test (strength (class_of ts) == suc row)
      (pass ts (λ t ts. on_some (row_with binaries t.class) (λ o. bind (r.expression (suc row) ts) (λ e ts. bind (r.operations row ts) (λ os ts. got (Expressions.operation t.place o e os) ts)))
      (got Expressions.no_operations ts)))
      (got Expressions.no_operations ts)

  abbrev pub arguments : List Token → Got Expressions.Expressions
  arguments ts =
      test (kind (class_of ts) == 1) (bind (r.expression 0 ts) (λ e ts. bind (r.arguments ts) (λ es ts. got (Expressions.expression e es) ts))) (got Expressions.no_expressions ts)

  abbrev pub more_arguments : List Token → Got Expressions.Expressions
  more_arguments ts =
      test (class_of ts == 79) (pass ts (λ t ts. bind (r.expression 0 ts) (λ e ts. bind (r.arguments ts) (λ es ts. got (Expressions.expression e es) ts))))
      (got Expressions.no_expressions ts)

  abbrev pub more_postfixes : Expressions.PostfixData → List Token → Got Expressions.Postfixes
  more_postfixes p ts = bind (r.postfixes ts) (λ ps ts. got (Expressions.postfix_first p ps) ts)

  abbrev pub postfixes : List Token → Got Expressions.Postfixes
  postfixes ts =
      test (class_of ts == 35) (pass ts (λ t ts. bind (r.expression 0 ts) (λ e ts. pass ts (λ u ts. more_postfixes (Expressions.index t.place e) ts))))
      (test (class_of ts == 37) (pass ts (λ t ts. bind (arguments ts) (λ es ts. pass ts (λ u ts. more_postfixes (Expressions.call t.place es) ts))))
      (test (class_of ts == 41) (pass ts (λ t ts. pass ts (λ u ts. more_postfixes (Expressions.member t.place (word_of text u)) ts)))
      (test (class_of ts == 42) (pass ts (λ t ts. pass ts (λ u ts. more_postfixes (Expressions.arrow t.place (word_of text u)) ts)))
      (got Expressions.no_postfixes ts))))

  -- ---- declarators

  abbrev pub optional : List Token → Got Expressions.MaybeExpression
  optional ts = test (kind (class_of ts) == 1) (bind (r.expression 0 ts) (λ e ts. got (Expressions.some_expression e) ts)) (got Expressions.no_expression ts)

  abbrev pub initial : List Token → Got Expressions.MaybeExpression
  initial ts = test (class_of ts == 68) (pass ts (λ t ts. bind (r.expression 0 ts) (λ e ts. got (Expressions.some_expression e) ts))) (got Expressions.no_expression ts)

  abbrev pub bound : List Token → Got Expressions.BoundData
  bound ts = pass ts (λ t ts. bind (optional ts) (λ e ts. pass ts (λ u ts. got (Expressions.bound e u.place) ts)))

  abbrev pub bounds : List Token → Got Expressions.Bounds
  bounds ts = test (class_of ts == 35) (bind (bound ts) (λ b ts. bind (r.bounds ts) (λ bs ts. got (Expressions.bound_first b bs) ts))) (got Expressions.no_bounds ts)

  abbrev pub declarator : List Token → Got Expressions.DeclaratorData
  declarator ts = bind (r.pointers ts) (λ ps ts. pass ts (λ t ts. bind (r.bounds ts) (λ bs ts. got (Expressions.declarator ps (word_of text t) bs) ts)))

  abbrev pub declarators : List Token → Got Expressions.Declarators
  declarators ts = bind (declarator ts) (λ d ts. bind (r.declarators ts) (λ ds ts. got (Expressions.declarator_first d ds) ts))

  abbrev pub more_declarators : List Token → Got Expressions.Declarators
  more_declarators ts = test (class_of ts == 79) (pass ts (λ t ts. declarators ts)) (got Expressions.no_declarators ts)

  -- ---- specifiers

  abbrev pub members : List Token → Got Expressions.Members
  members ts =
      test (kind (class_of ts) == 2)
      (bind (r.specifiers ts) (λ ss ts. bind (declarators ts) (λ ds ts. pass ts (λ t ts. bind (r.members ts) (λ ms ts. got (Expressions.members ss ds ms) ts)))))
      (got Expressions.no_members ts)

  abbrev pub enumerators : List Token → Got Expressions.Enumerators
  enumerators ts = pass ts (λ t ts. bind (initial ts) (λ e ts. bind (r.enumerators ts) (λ es ts. got (Expressions.enumerator (word_of text t) e es) ts)))

  -- a comma goes on with the list where no brace stands behind it
  abbrev pub more_enumerators : List Token → Got Expressions.Enumerators
  more_enumerators ts =
      test (class_of ts == 79) (pass ts (λ t us. test (kind (class_of us) == 4) (got Expressions.no_enumerators ts) (enumerators us))) (got Expressions.no_enumerators ts)

  abbrev pub trailing : List Token → Got Bool
  trailing ts = test (class_of ts == 79) (pass ts (λ t ts. got true ts)) (got false ts)

  abbrev pub structure_body : Token → Option Word → List Token → Got Expressions.SpecifierData
  structure_body t tag ts =
      pass ts (λ u ts. bind (r.members ts) (λ ms ts. pass ts (λ v ts. got (Expressions.structure_declaration t.place tag ms v.place) ts)))

  abbrev pub structure : Token → List Token → Got Expressions.SpecifierData
  structure t ts =
      test (kind (class_of ts) == 3) (structure_body t None ts)
      (pass ts (λ u ts. test (kind (class_of ts) == 3) (structure_body t (Some (word_of text u)) ts) (got (Expressions.structure_reference t.place (word_of text u)) ts)))

  abbrev pub enumeration_body : Token → Option Word → List Token → Got Expressions.SpecifierData
  enumeration_body t tag ts =
      pass ts (λ u ts. bind (enumerators ts) (λ es ts. bind (trailing ts) (λ c ts. pass ts (λ v ts. got (Expressions.enumeration_declaration t.place tag es c v.place) ts))))

  abbrev pub enumeration : Token → List Token → Got Expressions.SpecifierData
  enumeration t ts =
      test (kind (class_of ts) == 3) (enumeration_body t None ts)
      (pass ts (λ u ts. test (kind (class_of ts) == 3) (enumeration_body t (Some (word_of text u)) ts) (got (Expressions.enumeration_reference t.place (word_of text u)) ts)))

  abbrev pub specifier : List Token → Got Expressions.SpecifierData
  specifier ts =
      on_some (row_with keywords (class_of ts)) (λ k. pass ts (λ t ts. got (Expressions.keyword (word_of text t) k) ts))
      (test (class_of ts == 2) (pass ts (λ t ts. got (Expressions.library_type (word_of text t)) ts))
      (test (class_of ts == 1) (pass ts (λ t ts. got (Expressions.typedef_name (word_of text t)) ts))
      (test (class_of ts == 21) (pass ts structure)
      (pass ts enumeration))))

  abbrev pub specifiers : List Token → Got Expressions.Specifiers
  specifiers ts =
      test (kind (class_of ts) == 2) (bind (specifier ts) (λ s ts. bind (r.specifiers ts) (λ ss ts. got (Expressions.specifier s ss) ts))) (got Expressions.no_specifiers ts)
