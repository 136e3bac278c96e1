-- What scopes see of expressions and of the types in them, in the order in which scopes begin (C11 6.2.1).
use Rattle.std.specs.Prelude.{Bool, true, false, if◌then◌else◌, List, [], ◌∷◌, ◌++◌, Option, Some, None, Box, codes}
use Rattle.std.specs.declared.alloc.Global.{Global}
use Rattle.misra_base.specs.declared.place.Place.{Place}
use Rattle.c_names.specs.declared.declaration.NameSpace.{NameSpace}
use Rattle.c_names.specs.declared.declaration.NameSpace.TheVariants.{Ordinary, Tags}
use Rattle.c_names.specs.declared.declaration.Kind.{Kind}
use Rattle.c_names.specs.declared.declaration.Kind.TheVariants as a
use Rattle.c_tree.specs.declared.expression.Word.{Word}
use Rattle.c_tree.specs.declared.expression.Expression.{Expression}
use Rattle.c_tree.specs.Views.{boxed_view}
use Rattle.c_tree.specs.Expressions
use Rattle.c_identifiers.specs.declared.event.Role.{Role}
use Rattle.c_identifiers.specs.declared.event.Form.{Form}
use Rattle.c_identifiers.specs.declared.event.Form.TheVariants.{Other as unjudged}
use Rattle.c_identifiers.specs.declared.event.Usage.{Usage}
use Rattle.c_identifiers.specs.declared.event.Usage.TheVariants.{Unevaluated, Evaluated, Called}
use Rattle.c_identifiers.specs.declared.event.Event.{Event}
use Rattle.c_identifiers.specs.declared.event.Event.TheVariants.{Mention, Declare, Use}
use Rattle.c_identifiers.specs.declared.expression_events.Argument.{Argument}
use Rattle.c_identifiers.specs.declared.expression_events.Argument.TheVariants as expects
use Rattle.c_identifiers.specs.Types.{is_text}
use Rattle.c_identifiers.specs.Roles.{tag_role, member_role, enumerator_role}

abbrev pub use_of : NameSpace → Usage → Word → List Event
use_of space usage word = Use space usage word ∷ []

abbrev pub declaration_of : Role → Form → Word → List Event
declaration_of role form word = Declare role form word ∷ []

abbrev pub mention_of : Word → List Event
mention_of word = Mention word ∷ []

-- a tag begins to be visible before what stands in its braces
abbrev pub tag_events : Kind → Option Word → List Event
tag_events kind None = []
tag_events kind (Some word) = declaration_of (tag_role kind true) unjudged word

-- ---- what is called

-- how the parts of an expression are used
abbrev pub inner : Usage → Usage
inner Unevaluated = Unevaluated
inner Evaluated = Evaluated
inner Called = Evaluated

abbrev pub called : Usage → Usage
called Unevaluated = Unevaluated
called Evaluated = Called
called Called = Called

-- what stands before postfixes is called where the first of them calls, but in the operand of `sizeof`
abbrev pub callee : Usage → Expressions.Postfixes → Usage
callee usage Expressions.no_postfixes = inner usage
callee usage (Expressions.postfix_first (Expressions.call place arguments) rest) = called usage
callee usage (Expressions.postfix_first _ rest) = inner usage

abbrev pub is_thread_creation : Expressions.ExpressionData → Bool
is_thread_creation (Expressions.identifier word) = is_text (codes "thrd_create") word
is_thread_creation (Expressions.parenthesized expression) = is_thread_creation expression
is_thread_creation _ = false

-- a call of `thrd_create` has the function of the thread as its second argument
abbrev pub creates : Usage → Expressions.ExpressionData → Argument
creates Unevaluated operand = expects.Other
creates Evaluated operand = expects.Other
creates Called operand = if is_thread_creation operand then expects.Thread else expects.Other

abbrev pub argument_usage : Usage → Argument → Usage
argument_usage usage expects.Function = Called
argument_usage usage expects.Thread = usage
argument_usage usage expects.Other = usage

abbrev pub next_argument : Argument → Argument
next_argument expects.Thread = expects.Function
next_argument expects.Function = expects.Other
next_argument expects.Other = expects.Other

-- ---- expressions, and the types in them

abbrev mutual
  pub expression_events : Usage → Expressions.ExpressionData → List Event
  expression_events usage (Expressions.identifier word) = use_of Ordinary usage word
  expression_events usage (Expressions.constant word) = []
  expression_events usage (Expressions.parenthesized expression) = expression_events usage expression
  expression_events usage (Expressions.binary first rest) = expression_events (inner usage) first ++ operations_events (inner usage) rest
  expression_events usage (Expressions.conditional condition question chosen otherwise) =
      expression_events (inner usage) condition ++ expression_events (inner usage) chosen ++ expression_events (inner usage) otherwise
  expression_events usage (Expressions.unary place operator operand) = expression_events (inner usage) operand
  expression_events usage (Expressions.sizeof_expression place operand) = expression_events Unevaluated operand
  expression_events usage (Expressions.sizeof_type place name) = type_name_events Unevaluated name
  expression_events usage (Expressions.cast place name operand) = type_name_events (inner usage) name ++ expression_events (inner usage) operand
  expression_events usage (Expressions.postfix operand rest) =
      expression_events (callee usage rest) operand ++ postfixes_events (inner usage) (creates (callee usage rest) operand) rest

  pub optional_events : Usage → Expressions.MaybeExpression → List Event
  optional_events usage Expressions.no_expression = []
  optional_events usage (Expressions.some_expression expression) = expression_events usage expression

  pub expressions_events : Usage → Argument → Expressions.Expressions → List Event
  expressions_events usage argument Expressions.no_expressions = []
  expressions_events usage argument (Expressions.expression first rest) =
      expression_events (argument_usage usage argument) first ++ expressions_events usage (next_argument argument) rest

  pub operations_events : Usage → Expressions.Operations → List Event
  operations_events usage Expressions.no_operations = []
  operations_events usage (Expressions.operation place operator operand rest) = expression_events usage operand ++ operations_events usage rest

  pub postfixes_events : Usage → Argument → Expressions.Postfixes → List Event
  postfixes_events usage argument Expressions.no_postfixes = []
  postfixes_events usage argument (Expressions.postfix_first first rest) =
      postfix_events usage argument first ++ postfixes_events usage expects.Other rest

  -- which structure a member belongs to is known by types alone
  pub postfix_events : Usage → Argument → Expressions.PostfixData → List Event
  postfix_events usage argument (Expressions.index place operand) = expression_events usage operand
  postfix_events usage argument (Expressions.call place arguments) = expressions_events usage argument arguments
  postfix_events usage argument (Expressions.member place word) = mention_of word
  postfix_events usage argument (Expressions.arrow place word) = mention_of word

  pub type_name_events : Usage → Expressions.TypeNameData → List Event
  type_name_events usage (Expressions.type_name specifiers pointers) = specifiers_events usage specifiers

  pub specifiers_events : Usage → Expressions.Specifiers → List Event
  specifiers_events usage Expressions.no_specifiers = []
  specifiers_events usage (Expressions.specifier first rest) = specifier_events usage first ++ specifiers_events usage rest

  pub specifier_events : Usage → Expressions.SpecifierData → List Event
  specifier_events usage (Expressions.keyword word which) = []
  specifier_events usage (Expressions.library_type word) = []
  specifier_events usage (Expressions.typedef_name word) = use_of Ordinary usage word
  specifier_events usage (Expressions.structure_reference place tag) = use_of Tags usage tag
  specifier_events usage (Expressions.structure_declaration place tag list close) = tag_events a.Structure tag ++ members_events usage place list
  specifier_events usage (Expressions.enumeration_reference place tag) = use_of Tags usage tag
  specifier_events usage (Expressions.enumeration_declaration place tag list comma close) =
      tag_events a.Enumeration tag ++ enumerators_events usage list

  pub members_events : Usage → Place → Expressions.Members → List Event
  members_events usage structure Expressions.no_members = []
  members_events usage structure (Expressions.members specifiers declarators rest) =
      (specifiers_events usage specifiers ++ declarators_events usage structure declarators) ++ members_events usage structure rest

  pub declarators_events : Usage → Place → Expressions.Declarators → List Event
  declarators_events usage structure Expressions.no_declarators = []
  declarators_events usage structure (Expressions.declarator_first first rest) =
      declarator_events usage (member_role structure) first ++ declarators_events usage structure rest

  -- an identifier begins to be visible behind its declarator
  pub declarator_events : Usage → Role → Expressions.DeclaratorData → List Event
  declarator_events usage role (Expressions.declarator pointers name bounds) =
      mention_of name ++ bounds_events usage bounds ++ declaration_of role unjudged name

  pub bounds_events : Usage → Expressions.Bounds → List Event
  bounds_events usage Expressions.no_bounds = []
  bounds_events usage (Expressions.bound_first first rest) = bound_events usage first ++ bounds_events usage rest

  pub bound_events : Usage → Expressions.BoundData → List Event
  bound_events usage (Expressions.bound size close) = optional_events usage size

  -- an enumerator begins to be visible behind its value
  pub enumerators_events : Usage → Expressions.Enumerators → List Event
  enumerators_events usage Expressions.no_enumerators = []
  enumerators_events usage (Expressions.enumerator name value rest) =
      (mention_of name ++ optional_events usage value ++ declaration_of enumerator_role unjudged name) ++ enumerators_events usage rest

abbrev pub optional_view : Option (Box Expression Global) → Expressions.MaybeExpression
optional_view None = Expressions.no_expression
optional_view (Some e) = Expressions.some_expression (boxed_view e)
