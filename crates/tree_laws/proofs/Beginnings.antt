-- What the class of a token says of what begins or goes on there.
use Rattle.std.proofs.Common.{◌≡◌, ◌==◌, ℕ, List, [], ◌∷◌, Option, None, Some, refl, if◌then◌else◌, suc}
use Rattle.c_lexer.specs.TokenClasses.{class_number}
use Rattle.c_lexer.specs.declared.token_class.TokenClass.TheVariants as T
use Rattle.c_tree.specs.declared.expression.BinaryOperator.{BinaryOperator}
use Rattle.c_tree.specs.declared.expression.BinaryOperator.TheVariants as B
use Rattle.c_tree.specs.declared.expression.UnaryOperator.{UnaryOperator}
use Rattle.c_tree.specs.declared.expression.UnaryOperator.TheVariants as U
use Rattle.c_tree.specs.declared.expression.Keyword.{Keyword}
use Rattle.c_tree.specs.declared.expression.Keyword.TheVariants as K
use Rattle.c_tree.specs.declared.expression.Qualifier.{Qualifier}
use Rattle.c_tree.specs.declared.expression.Qualifier.TheVariants as Q
use Rattle.c_tree.specs.declared.statement.AssignmentOperator.{AssignmentOperator}
use Rattle.c_tree.specs.declared.statement.AssignmentOperator.TheVariants as A
use Rattle.c_reader.specs.Signs.{binary_sign, unary_sign, keyword_sign, qualifier_sign, assignment_sign}
use Rattle.c_reader.specs.Grouping.{row_of}

-- the first of these that has the class
abbrev pub row_with : {X : Type 0} → List (ℕ × X) → ℕ → Option X
row_with [] k = None
row_with (r ∷ rs) k = if k == r.0 then Some r.1 else row_with rs k

abbrev pub number_with : List (ℕ × ℕ) → ℕ → ℕ
number_with [] k = 0
number_with (r ∷ rs) k = if k == r.0 then r.1 else number_with rs k

-- ---- how tightly what goes on there binds: a conditional, the rows of operators, what stands behind an operand

abbrev pub strengths : List (ℕ × ℕ)
strengths =
    (class_number T.Question, 1) ∷ (class_number T.Or, 2) ∷ (class_number T.And, 3) ∷ (class_number T.Bar, 4) ∷ (class_number T.Caret, 5) ∷ (class_number T.Ampersand, 6)
    ∷ (class_number T.Equal, 7) ∷ (class_number T.NotEqual, 7) ∷ (class_number T.Less, 8) ∷ (class_number T.Greater, 8) ∷ (class_number T.LessEqual, 8) ∷ (class_number T.GreaterEqual, 8)
    ∷ (class_number T.ShiftLeft, 9) ∷ (class_number T.ShiftRight, 9) ∷ (class_number T.Plus, 10) ∷ (class_number T.Minus, 10)
    ∷ (class_number T.Asterisk, 11) ∷ (class_number T.Slash, 11) ∷ (class_number T.Percent, 11)
    ∷ (class_number T.LeftBracket, 13) ∷ (class_number T.LeftParenthesis, 13) ∷ (class_number T.Dot, 13) ∷ (class_number T.Arrow, 13) ∷ []

abbrev pub strength : ℕ → ℕ
strength k = number_with strengths k

abbrev pub binaries : List (ℕ × BinaryOperator)
binaries =
    (class_number T.Or, B.LogicalOr) ∷ (class_number T.And, B.LogicalAnd) ∷ (class_number T.Bar, B.Or) ∷ (class_number T.Caret, B.Xor) ∷ (class_number T.Ampersand, B.And)
    ∷ (class_number T.Equal, B.Equal) ∷ (class_number T.NotEqual, B.NotEqual)
    ∷ (class_number T.Less, B.Less) ∷ (class_number T.Greater, B.Greater) ∷ (class_number T.LessEqual, B.LessEqual) ∷ (class_number T.GreaterEqual, B.GreaterEqual)
    ∷ (class_number T.ShiftLeft, B.ShiftLeft) ∷ (class_number T.ShiftRight, B.ShiftRight) ∷ (class_number T.Plus, B.Add) ∷ (class_number T.Minus, B.Subtract)
    ∷ (class_number T.Asterisk, B.Multiply) ∷ (class_number T.Slash, B.Divide) ∷ (class_number T.Percent, B.Remainder) ∷ []

pub binary_is : (o : BinaryOperator) → row_with binaries (class_number (binary_sign o)) ≡ Some o
binary_is B.Multiply = refl
binary_is B.Divide = refl
binary_is B.Remainder = refl
binary_is B.Add = refl
binary_is B.Subtract = refl
binary_is B.ShiftLeft = refl
binary_is B.ShiftRight = refl
binary_is B.Less = refl
binary_is B.Greater = refl
binary_is B.LessEqual = refl
binary_is B.GreaterEqual = refl
binary_is B.Equal = refl
binary_is B.NotEqual = refl
binary_is B.And = refl
binary_is B.Xor = refl
binary_is B.Or = refl
binary_is B.LogicalAnd = refl
binary_is B.LogicalOr = refl

pub binary_strength : (o : BinaryOperator) → strength (class_number (binary_sign o)) ≡ suc (row_of o)
binary_strength B.Multiply = refl
binary_strength B.Divide = refl
binary_strength B.Remainder = refl
binary_strength B.Add = refl
binary_strength B.Subtract = refl
binary_strength B.ShiftLeft = refl
binary_strength B.ShiftRight = refl
binary_strength B.Less = refl
binary_strength B.Greater = refl
binary_strength B.LessEqual = refl
binary_strength B.GreaterEqual = refl
binary_strength B.Equal = refl
binary_strength B.NotEqual = refl
binary_strength B.And = refl
binary_strength B.Xor = refl
binary_strength B.Or = refl
binary_strength B.LogicalAnd = refl
binary_strength B.LogicalOr = refl

abbrev pub unaries : List (ℕ × UnaryOperator)
unaries =
    (class_number T.Ampersand, U.Address) ∷ (class_number T.Asterisk, U.Indirection) ∷ (class_number T.Plus, U.Plus) ∷ (class_number T.Minus, U.Minus)
    ∷ (class_number T.Tilde, U.Complement) ∷ (class_number T.Exclamation, U.Not) ∷ []

pub unary_is : (o : UnaryOperator) → row_with unaries (class_number (unary_sign o)) ≡ Some o
unary_is U.Address = refl
unary_is U.Indirection = refl
unary_is U.Plus = refl
unary_is U.Minus = refl
unary_is U.Complement = refl
unary_is U.Not = refl

abbrev pub keywords : List (ℕ × Keyword)
keywords =
    (class_number T.Static, K.Static) ∷ (class_number T.Extern, K.Extern) ∷ (class_number T.Inline, K.Inline) ∷ (class_number T.ThreadLocal, K.ThreadLocal)
    ∷ (class_number T.Const, K.Const) ∷ (class_number T.Volatile, K.Volatile) ∷ (class_number T.Atomic, K.Atomic) ∷ (class_number T.Void, K.Void)
    ∷ (class_number T.Char, K.Char) ∷ (class_number T.Short, K.Short) ∷ (class_number T.Int, K.Int) ∷ (class_number T.Long, K.Long)
    ∷ (class_number T.Signed, K.Signed) ∷ (class_number T.Unsigned, K.Unsigned) ∷ (class_number T.Bool, K.Bool) ∷ []

pub keyword_is : (k : Keyword) → row_with keywords (class_number (keyword_sign k)) ≡ Some k
keyword_is K.Static = refl
keyword_is K.Extern = refl
keyword_is K.Inline = refl
keyword_is K.ThreadLocal = refl
keyword_is K.Const = refl
keyword_is K.Volatile = refl
keyword_is K.Atomic = refl
keyword_is K.Void = refl
keyword_is K.Char = refl
keyword_is K.Short = refl
keyword_is K.Int = refl
keyword_is K.Long = refl
keyword_is K.Signed = refl
keyword_is K.Unsigned = refl
keyword_is K.Bool = refl

abbrev pub qualifiers_of : List (ℕ × Qualifier)
qualifiers_of = (class_number T.Const, Q.Const) ∷ (class_number T.Volatile, Q.Volatile) ∷ []

pub qualifier_is : (q : Qualifier) → row_with qualifiers_of (class_number (qualifier_sign q)) ≡ Some q
qualifier_is Q.Const = refl
qualifier_is Q.Volatile = refl

abbrev pub assignments : List (ℕ × AssignmentOperator)
assignments =
    (class_number T.Assign, A.Assign) ∷ (class_number T.MultiplyAssign, A.Multiply) ∷ (class_number T.DivideAssign, A.Divide) ∷ (class_number T.RemainderAssign, A.Remainder)
    ∷ (class_number T.AddAssign, A.Add) ∷ (class_number T.SubtractAssign, A.Subtract) ∷ (class_number T.ShiftLeftAssign, A.ShiftLeft) ∷ (class_number T.ShiftRightAssign, A.ShiftRight)
    ∷ (class_number T.AndAssign, A.And) ∷ (class_number T.XorAssign, A.Xor) ∷ (class_number T.OrAssign, A.Or) ∷ []

pub assignment_is : (o : AssignmentOperator) → row_with assignments (class_number (assignment_sign o)) ≡ Some o
assignment_is A.Assign = refl
assignment_is A.Multiply = refl
assignment_is A.Divide = refl
assignment_is A.Remainder = refl
assignment_is A.Add = refl
assignment_is A.Subtract = refl
assignment_is A.ShiftLeft = refl
assignment_is A.ShiftRight = refl
assignment_is A.And = refl
assignment_is A.Xor = refl
assignment_is A.Or = refl

-- ---- what begins there

-- 1 an expression, 2 a specifier, 3 and 4 the braces, 5 a step, 6 to 15 what has a word or a sign of its own
abbrev pub kinds : List (ℕ × ℕ)
kinds =
    (class_number T.Identifier, 1) ∷ (class_number T.Constant, 1) ∷ (class_number T.Sizeof, 1) ∷ (class_number T.LeftParenthesis, 1) ∷ (class_number T.Ampersand, 1) ∷ (class_number T.Asterisk, 1)
    ∷ (class_number T.Plus, 1) ∷ (class_number T.Minus, 1) ∷ (class_number T.Tilde, 1) ∷ (class_number T.Exclamation, 1)
    ∷ (class_number T.TypedefName, 2) ∷ (class_number T.LibraryType, 2) ∷ (class_number T.Static, 2) ∷ (class_number T.Extern, 2) ∷ (class_number T.Inline, 2) ∷ (class_number T.ThreadLocal, 2)
    ∷ (class_number T.Const, 2) ∷ (class_number T.Volatile, 2) ∷ (class_number T.Atomic, 2) ∷ (class_number T.Void, 2) ∷ (class_number T.Char, 2) ∷ (class_number T.Short, 2) ∷ (class_number T.Int, 2)
    ∷ (class_number T.Long, 2) ∷ (class_number T.Signed, 2) ∷ (class_number T.Unsigned, 2) ∷ (class_number T.Bool, 2) ∷ (class_number T.Struct, 2) ∷ (class_number T.Enum, 2)
    ∷ (class_number T.LeftBrace, 3) ∷ (class_number T.RightBrace, 4) ∷ (class_number T.Increment, 5) ∷ (class_number T.Decrement, 5) ∷ (class_number T.Typedef, 6)
    ∷ (class_number T.If, 7) ∷ (class_number T.While, 8) ∷ (class_number T.Do, 9) ∷ (class_number T.For, 10) ∷ (class_number T.Switch, 11) ∷ (class_number T.Break, 12) ∷ (class_number T.Return, 13)
    ∷ (class_number T.Continue, 14) ∷ (class_number T.Semicolon, 15) ∷ (class_number T.Case, 16) ∷ (class_number T.Default, 17) ∷ []

abbrev pub kind : ℕ → ℕ
kind k = number_with kinds k

pub unary_kind : (o : UnaryOperator) → kind (class_number (unary_sign o)) ≡ 1
unary_kind U.Address = refl
unary_kind U.Indirection = refl
unary_kind U.Plus = refl
unary_kind U.Minus = refl
unary_kind U.Complement = refl
unary_kind U.Not = refl

pub keyword_kind : (k : Keyword) → kind (class_number (keyword_sign k)) ≡ 2
keyword_kind K.Static = refl
keyword_kind K.Extern = refl
keyword_kind K.Inline = refl
keyword_kind K.ThreadLocal = refl
keyword_kind K.Const = refl
keyword_kind K.Volatile = refl
keyword_kind K.Atomic = refl
keyword_kind K.Void = refl
keyword_kind K.Char = refl
keyword_kind K.Short = refl
keyword_kind K.Int = refl
keyword_kind K.Long = refl
keyword_kind K.Signed = refl
keyword_kind K.Unsigned = refl
keyword_kind K.Bool = refl
