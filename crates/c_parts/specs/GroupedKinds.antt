-- The kinds of parts by groups, as the parts themselves are grouped.
pub data ExpressionKind : Type 0 where
  operand : ExpressionKind
  optional_expression : ExpressionKind
  infix_operator : ExpressionKind
  operations : ExpressionKind
  prefix_operator : ExpressionKind
  postfix : ExpressionKind
  postfixes : ExpressionKind
  arguments : ExpressionKind
  type_name : ExpressionKind
  branches : ExpressionKind
  sizeof_operand : ExpressionKind
  bracketed : ExpressionKind
  assignment_sign : ExpressionKind
  step_sign : ExpressionKind

pub data DeclarationKind : Type 0 where
  qualifiers : DeclarationKind
  pointers : DeclarationKind
  specifier : DeclarationKind
  specifiers : DeclarationKind
  bounds : DeclarationKind
  declarator : DeclarationKind
  declarators : DeclarationKind
  members : DeclarationKind
  optional_members : DeclarationKind
  structure : DeclarationKind
  enumerators : DeclarationKind
  optional_enumerators : DeclarationKind
  enumeration : DeclarationKind
  initializer : DeclarationKind
  initializers : DeclarationKind
  initialization : DeclarationKind
  init_declarators : DeclarationKind
  objects : DeclarationKind

pub data ExternalKind : Type 0 where
  optional_bound : ExternalKind
  parameter_name : ExternalKind
  parameter : ExternalKind
  parameters : ExternalKind
  optional_block : ExternalKind
  function_rest : ExternalKind
  name_rest : ExternalKind
  external_rest : ExternalKind
  external : ExternalKind
  externals : ExternalKind

pub data StatementKind : Type 0 where
  block : StatementKind
  item : StatementKind
  items : StatementKind
  statement : StatementKind
  statements : StatementKind
  if_statement : StatementKind
  otherwise : StatementKind
  otherwise_branch : StatementKind
  for_start : StatementKind
  optional_for_start : StatementKind
  simple : StatementKind
  optional_simple : StatementKind
  simple_rest : StatementKind
  case_labels : StatementKind
  clause : StatementKind
  clauses : StatementKind
  body : StatementKind
  optional_body : StatementKind
  leave : StatementKind
