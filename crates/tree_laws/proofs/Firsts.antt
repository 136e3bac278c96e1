-- What expressions, specifiers and declarators begin with.
use Rattle.std.proofs.Common.{◌≡◌, ◌∙◌, ◌≤◌, ◌==◌, ℕ, suc, Bool, true, false, List, [], ◌∷◌, ◌++◌, None, inl, inr, ◌⊎◌, sym, ap, subst, arith}
use Rattle.c_lexer.specs.declared.token.Token.{Token}
use Rattle.c_tree.specs.declared.expression.BinaryOperator.{BinaryOperator}
use Rattle.c_tree.specs.declared.expression.BinaryOperator.TheVariants as B
use Rattle.c_tree.specs.Expressions
use Rattle.misra_base.specs.declared.place.Place.{Place}
use Rattle.c_lexer.specs.declared.token_class.TokenClass.TheVariants as T
use Rattle.c_reader.specs.Pieces.{Spells, at}
use Rattle.c_reader.specs.Grouping.{binding, row_of, row_of_first, HasSpecifier, HasDeclarator, AreGrouped, IsGroupedType}
use Rattle.c_reader.specs.SpelledExpressions as spelled
use Rattle.tree_laws.proofs.Ends.{parts, weak, weak_in}
use Rattle.tree_laws.proofs.Beginnings.{strength, kind, unary_kind, keyword_kind, binary_strength, row_with, qualifiers_of}
use Rattle.tree_laws.proofs.Reading.{class_of, class_is}

pub kind_is : {ts more : List Token} {t : Token} (k : ℕ) → ts ≡ t ∷ more → t.class ≡ k → kind (class_of ts) ≡ kind k
kind_is k e c = ap kind (class_is e c)

pub first_expression : (text : List ℕ) (e : Expressions.ExpressionData) (ts rest : List Token) → Spells text (spelled.expression e) ts rest → kind (class_of ts) ≡ 1
first_expression text (Expressions.identifier w) ts rest s = kind_is 0 s.2 s.3.0
first_expression text (Expressions.constant w) ts rest s = kind_is 4 s.2 s.3.0
first_expression text (Expressions.parenthesized e) ts rest s = kind_is 37 s.2 s.3
first_expression text (Expressions.binary e os) ts rest s =
    let p = parts text (spelled.expression e) (spelled.operations os) ts rest s in first_expression text e ts p.between p.front
first_expression text (Expressions.conditional c q a b) ts rest s =
    let p = parts text (spelled.expression c) _ ts rest s in first_expression text c ts p.between p.front
first_expression text (Expressions.unary p o e) ts rest s = ap kind (class_is s.2 s.3.0) ∙ unary_kind o
first_expression text (Expressions.sizeof_expression p e) ts rest s = kind_is 34 s.2 s.3.0
first_expression text (Expressions.sizeof_type p t) ts rest s = kind_is 34 s.2 s.3.0
first_expression text (Expressions.cast p t e) ts rest s = kind_is 37 s.2 s.3.0
first_expression text (Expressions.postfix e ps) ts rest s =
    let p = parts text (spelled.expression e) (spelled.postfixes ps) ts rest s in first_expression text e ts p.between p.front

first_specifier : (text : List ℕ) (d : Expressions.SpecifierData) (ts rest : List Token) → Spells text (spelled.specifier d) ts rest → kind (class_of ts) ≡ 2
first_specifier text (Expressions.keyword w k) ts rest s = ap kind (class_is s.2 s.3.0) ∙ keyword_kind k
first_specifier text (Expressions.library_type w) ts rest s = kind_is 2 s.2 s.3.0
first_specifier text (Expressions.typedef_name w) ts rest s = kind_is 1 s.2 s.3.0
first_specifier text (Expressions.structure_reference p w) ts rest s = kind_is 21 s.2 s.3.0
first_specifier text (Expressions.structure_declaration p tag ms q) ts rest s = kind_is 21 s.2 s.3.0
first_specifier text (Expressions.enumeration_reference p w) ts rest s = kind_is 22 s.2 s.3.0
first_specifier text (Expressions.enumeration_declaration p tag es comma q) ts rest s = kind_is 22 s.2 s.3.0

pub first_specifiers : (text : List ℕ) (ss : Expressions.Specifiers) (ts rest : List Token) → HasSpecifier ss → Spells text (spelled.specifiers ss) ts rest → kind (class_of ts) ≡ 2
first_specifiers text Expressions.no_specifiers ts rest has s = absurd has
first_specifiers text (Expressions.specifier d ss) ts rest has s =
    let p = parts text (spelled.specifier d) (spelled.specifiers ss) ts rest s in first_specifier text d ts p.between p.front

-- ---- rows

row_most : (o : BinaryOperator) → row_of o ≤ 10
row_most B.Multiply = omega arith
row_most B.Divide = omega arith
row_most B.Remainder = omega arith
row_most B.Add = omega arith
row_most B.Subtract = omega arith
row_most B.ShiftLeft = omega arith
row_most B.ShiftRight = omega arith
row_most B.Less = omega arith
row_most B.Greater = omega arith
row_most B.LessEqual = omega arith
row_most B.GreaterEqual = omega arith
row_most B.Equal = omega arith
row_most B.NotEqual = omega arith
row_most B.And = omega arith
row_most B.Xor = omega arith
row_most B.Or = omega arith
row_most B.LogicalAnd = omega arith
row_most B.LogicalOr = omega arith

pub first_row_most : (os : Expressions.Operations) → row_of_first os ≤ 10
first_row_most Expressions.no_operations = omega arith
first_row_most (Expressions.operation p o e os) = row_most o

-- the row at which an expression is read first
abbrev pub level : Expressions.ExpressionData → ℕ
level (Expressions.conditional c p a b) = 0
level (Expressions.binary e os) = row_of_first os
level e = 11

pub level_most : (e : Expressions.ExpressionData) → level e ≤ 11
level_most (Expressions.identifier w) = omega arith
level_most (Expressions.constant w) = omega arith
level_most (Expressions.parenthesized e) = omega arith
level_most (Expressions.binary e os) = let h = first_row_most os in omega (arith, h)
level_most (Expressions.conditional c p a b) = omega arith
level_most (Expressions.unary p o e) = omega arith
level_most (Expressions.sizeof_expression p e) = omega arith
level_most (Expressions.sizeof_type p t) = omega arith
level_most (Expressions.cast p t e) = omega arith
level_most (Expressions.postfix e ps) = omega arith

pub reach : (e : Expressions.ExpressionData) (row : ℕ) → row ≤ binding e → row ≤ 11 → row ≤ level e
reach (Expressions.identifier w) row h most = most
reach (Expressions.constant w) row h most = most
reach (Expressions.parenthesized e) row h most = most
reach (Expressions.binary e os) row h most = h
reach (Expressions.conditional c p a b) row h most = h
reach (Expressions.unary p o e) row h most = most
reach (Expressions.sizeof_expression p e) row h most = most
reach (Expressions.sizeof_type p t) row h most = most
reach (Expressions.cast p t e) row h most = most
reach (Expressions.postfix e ps) row h most = most

-- behind an operand stands an operator of the row, or what stands behind all
pub first_operation : (text : List ℕ) (os : Expressions.Operations) (row : ℕ) (ts rest : List Token) → AreGrouped os row → Spells text (spelled.operations os) ts rest
    → strength (class_of rest) ≤ row → strength (class_of ts) ≤ suc row
first_operation text Expressions.no_operations row ts rest g s behind = let h = weak_in row s behind in omega (arith, h)
first_operation text (Expressions.operation p o e os) row ts rest g s behind =
    let h : strength (class_of ts) ≡ suc row = ap strength (class_is s.2 s.3.0) ∙ binary_strength o ∙ ap suc g.0 in omega (arith, h)

pub trailing_weak : (text : List ℕ) (comma : Bool) (q : Place) (ts rest : List Token) → Spells text (spelled.trailing comma ++ at T.RightBrace q ∷ []) ts rest
    → (strength (class_of ts) ≤ 0) × ((class_of ts == 68) ≡ false)
trailing_weak text true q ts rest s = (weak 79 0 s.2 s.3 (omega arith), ap (λ k. k == 68) (class_is s.2 s.3))
trailing_weak text false q ts rest s = (weak 40 0 s.2 s.3.0 (omega arith), ap (λ k. k == 68) (class_is s.2 s.3.0))

-- ---- what begins there, as the tests of a reader ask it

-- no specifier, and no brace
abbrev pub Closes : List Token → Type 0
Closes ts = ((kind (class_of ts) == 2) ≡ false) × ((kind (class_of ts) == 3) ≡ false)

-- no qualifier, and no pointer
abbrev pub NoPointer : List Token → Type 0
NoPointer ts = (row_with qualifiers_of (class_of ts) ≡ None) × ((class_of ts == 46) ≡ false)

pub kind_closes : (ts : List Token) → kind (class_of ts) ≡ 1 → Closes ts
kind_closes ts h = (ap (λ k. k == 2) h, ap (λ k. k == 3) h)

pub first_type : (text : List ℕ) (n : Expressions.TypeNameData) (ts rest : List Token) → IsGroupedType n → Spells text (spelled.type_name n) ts rest → kind (class_of ts) ≡ 2
first_type text (Expressions.type_name ss ps) ts rest g s =
    let p = parts text (spelled.specifiers ss) (spelled.pointers ps) ts rest s in first_specifiers text ss ts p.between g.0 p.front

pub pointers_close : (text : List ℕ) (ps : List Expressions.PointerData) (ts rest : List Token) → Spells text (spelled.pointers ps) ts rest → Closes rest → Closes ts
pointers_close text [] ts rest s h = subst Closes (sym s) h
pointers_close text (p ∷ ps) ts rest s h = kind_closes ts (kind_is 46 s.2 s.3.0)

pub pointers_begin : (text : List ℕ) (ps : List Expressions.PointerData) (ts rest : List Token) → Spells text (spelled.pointers ps) ts rest → kind (class_of rest) ≡ 1 → kind (class_of ts) ≡ 1
pointers_begin text [] ts rest s h = ap (λ ts. kind (class_of ts)) s ∙ h
pointers_begin text (p ∷ ps) ts rest s h = kind_is 46 s.2 s.3.0

pub no_qualifier : (text : List ℕ) (ps : List Expressions.PointerData) (ts rest : List Token) → Spells text (spelled.pointers ps) ts rest → row_with qualifiers_of (class_of rest) ≡ None
    → row_with qualifiers_of (class_of ts) ≡ None
no_qualifier text [] ts rest s h = ap (λ ts. row_with qualifiers_of (class_of ts)) s ∙ h
no_qualifier text (p ∷ ps) ts rest s h = ap (row_with qualifiers_of) (class_is s.2 s.3.0)

pub first_declarator : (text : List ℕ) (d : Expressions.DeclaratorData) (ts rest : List Token) → Spells text (spelled.declarator d) ts rest → kind (class_of ts) ≡ 1
first_declarator text (Expressions.declarator ps w bs) ts rest s =
    let p = parts text (spelled.pointers ps) _ ts rest s in pointers_begin text ps ts p.between p.front (kind_is 0 p.behind.2 p.behind.3.0)

pub first_declarators : (text : List ℕ) (ds : Expressions.Declarators) (ts rest : List Token) → HasDeclarator ds → Spells text (spelled.declarators ds) ts rest → kind (class_of ts) ≡ 1
first_declarators text Expressions.no_declarators ts rest has s = absurd has
first_declarators text (Expressions.declarator_first d ds) ts rest has s =
    let p = parts text (spelled.declarator d) (spelled.more_declarators ds) ts rest s in first_declarator text d ts p.between p.front

-- a specifier goes on by the next, or by what stands behind all
pub no_brace : (text : List ℕ) (ss : Expressions.Specifiers) (ts rest : List Token) → Spells text (spelled.specifiers ss) ts rest → (kind (class_of rest) == 3) ≡ false
    → (kind (class_of ts) == 3) ≡ false
no_brace text Expressions.no_specifiers ts rest s h = ap (λ ts. kind (class_of ts) == 3) s ∙ h
no_brace text (Expressions.specifier d ss) ts rest s h =
    let p = parts text (spelled.specifier d) (spelled.specifiers ss) ts rest s in ap (λ k. k == 3) (first_specifier text d ts p.between p.front)

pub more_arguments_weak : (text : List ℕ) (es : Expressions.Expressions) (ts rest : List Token) → Spells text (spelled.more_arguments es) ts rest → strength (class_of rest) ≤ 0
    → strength (class_of ts) ≤ 0
more_arguments_weak text Expressions.no_expressions ts rest s h = weak_in 0 s h
more_arguments_weak text (Expressions.expression e es) ts rest s h = weak 79 0 s.2 s.3 (omega arith)

pub no_bound : (text : List ℕ) (ds : Expressions.Declarators) (ts rest : List Token) → Spells text (spelled.more_declarators ds) ts rest → (class_of rest == 35) ≡ false
    → (class_of ts == 35) ≡ false
no_bound text Expressions.no_declarators ts rest s h = ap (λ ts. class_of ts == 35) s ∙ h
no_bound text (Expressions.declarator_first d ds) ts rest s h = ap (λ k. k == 35) (class_is s.2 s.3)

pub name_closes : (k : ℕ) → (k ≡ 0) ⊎ (k ≡ 1) → (kind k == 3) ≡ false
name_closes k (inl e) = ap (λ k. kind k == 3) e
name_closes k (inr e) = ap (λ k. kind k == 3) e

-- behind a value of a list stands the comma of the next, or of the end, or the brace
pub enumerators_weak : (text : List ℕ) (es : Expressions.Enumerators) (comma : Bool) (q : Place) (ts between rest : List Token) → Spells text (spelled.more_enumerators es) ts between
    → Spells text (spelled.trailing comma ++ at T.RightBrace q ∷ []) between rest → (strength (class_of ts) ≤ 0) × ((class_of ts == 68) ≡ false)
enumerators_weak text Expressions.no_enumerators comma q ts between rest s end =
    let h = trailing_weak text comma q between rest end in (weak_in 0 s h.0, ap (λ ts. class_of ts == 68) s ∙ h.1)
enumerators_weak text (Expressions.enumerator w e es) comma q ts between rest s end = (weak 79 0 s.2 s.3 (omega arith), ap (λ k. k == 68) (class_is s.2 s.3))
