-- A plain reader of declarations, statements and translation units, over that of expressions.
use Rattle.std.proofs.Common.{◌==◌, ℕ, zero, suc, cond, List, [], ◌∷◌, Option, None, Some}
use Rattle.c_lexer.specs.declared.token.Token.{Token}
use Rattle.misra_base.specs.declared.place.Place.{Place}
use Rattle.c_tree.specs.declared.statement.Step.{Step}
use Rattle.c_tree.specs.declared.statement.Step.TheVariants as S
use Rattle.c_tree.specs.Expressions
use Rattle.c_tree.specs.Statements
use Rattle.tree_laws.proofs.Beginnings.{kind, row_with, assignments}
use Rattle.tree_laws.proofs.Reading.{Got, got, class_of, word_of, bind, pass, test, on_some, by}
use Rattle.tree_laws.proofs.Readers as R
use Rattle.tree_laws.proofs.Readers.{Readers, declarator, trailing, bound}

abbrev pub step_of : ℕ → Step
step_of k = cond (k == 43) S.Increment S.Decrement

module _ (text : List ℕ) (r : Readers) where
  -- ---- declarations

  abbrev pub initializers : List Token → Got Statements.Initializers
  initializers ts = bind (r.initializer ts) (λ i ts. bind (r.initializers ts) (λ is ts. got (Statements.initializer i is) ts))

  abbrev pub more_initializers : List Token → Got Statements.Initializers
  more_initializers ts =
      test (class_of ts == 79) (pass ts (λ t us. test (kind (class_of us) == 4) (got Statements.no_initializers ts) (initializers us))) (got Statements.no_initializers ts)

  abbrev pub initializer : List Token → Got Statements.InitializerData
  initializer ts =
      test (kind (class_of ts) == 3)
      (pass ts (λ t ts. bind (initializers ts) (λ is ts. bind (trailing text r ts) (λ c ts. pass ts (λ u ts. got (Statements.initial_list t.place is c u.place) ts)))))
      (bind (r.expression 0 ts) (λ e ts. got (Statements.initial_expression e) ts))

  abbrev pub initialization : List Token → Got (Option Statements.InitializationData)
  initialization ts = test (class_of ts == 68) (pass ts (λ t ts. bind (r.initializer ts) (λ i ts. got (Some (record { place = t.place; value = i })) ts))) (got None ts)

  abbrev pub objects : List Token → Got (List Statements.InitDeclaratorData)
  objects ts =
      bind (declarator text r ts) (λ d ts. bind (initialization ts) (λ i ts. bind (r.objects ts) (λ ds ts. got (record { declarator = d; initialization = i } ∷ ds) ts)))

  abbrev pub more_objects : List Token → Got (List Statements.InitDeclaratorData)
  more_objects ts = test (class_of ts == 79) (pass ts (λ t ts. objects ts)) (got [] ts)

  -- behind the specifiers
  abbrev pub declared : List Token → Got (List Statements.InitDeclaratorData)
  declared ts = test (kind (class_of ts) == 15) (got [] ts) (objects ts)

  abbrev pub declaration : List Token → Got Statements.DeclarationData
  declaration ts = bind (r.specifiers ts) (λ ss ts. bind (declared ts) (λ ds ts. pass ts (λ t ts. got (record { specifiers = ss; declarators = ds }) ts)))

  -- ---- parts of statements

  abbrev pub optional_expression : List Token → Got (Option Expressions.ExpressionData)
  optional_expression ts = test (kind (class_of ts) == 1) (bind (r.expression 0 ts) (λ e ts. got (Some e) ts)) (got None ts)

  abbrev pub simple_tail : Expressions.ExpressionData → List Token → Got Statements.SimpleData
  simple_tail e ts =
      on_some (row_with assignments (class_of ts)) (λ o. pass ts (λ t ts. bind (r.expression 0 ts) (λ v ts. got (Statements.assignment e t.place o v) ts)))
      (test (kind (class_of ts) == 5) (pass ts (λ t ts. got (Statements.postfix_step e t.place (step_of t.class)) ts)) (got (Statements.simple_expression e) ts))

  abbrev pub simple : List Token → Got Statements.SimpleData
  simple ts =
      test (kind (class_of ts) == 5)
      (pass ts (λ t ts. bind (r.expression 11 ts) (λ e ts. got (Statements.prefix_step t.place (step_of t.class) e) ts)))
      (bind (r.expression 0 ts) simple_tail)

  abbrev pub optional_simple : List Token → Got (Option Statements.SimpleData)
  optional_simple ts =
      by (kind (class_of ts)) (λ k. cond (k == 1) (bind (simple ts) (λ s ts. got (Some s) ts)) (cond (k == 5) (bind (simple ts) (λ s ts. got (Some s) ts)) (got None ts)))

  abbrev pub leave : List Token → Got Statements.LeaveData
  leave ts =
      test (kind (class_of ts) == 12) (pass ts (λ t ts. pass ts (λ u ts. got (Statements.breaks t.place) ts)))
      (pass ts (λ t ts. bind (optional_expression ts) (λ e ts. pass ts (λ u ts. got (Statements.returns t.place e) ts))))

  abbrev pub declared_start : List Token → Got (Option Statements.ForStartData)
  declared_start ts =
      bind (r.specifiers ts) (λ ss ts. bind (r.pointers ts) (λ ps ts. pass ts (λ t ts. pass ts (λ u ts. bind (r.expression 0 ts)
      (λ e ts. got (Some (Statements.start_declaration ss ps (word_of text t) u.place e)) ts)))))

  abbrev pub start : List Token → Got (Option Statements.ForStartData)
  start ts =
      by (kind (class_of ts)) (λ k.
      cond (k == 1) (bind (simple ts) (λ s ts. got (Some (Statements.start_simple s)) ts))
      (cond (k == 5) (bind (simple ts) (λ s ts. got (Some (Statements.start_simple s)) ts))
      (cond (k == 2) (declared_start ts) (got None ts))))

  abbrev pub labels : List Token → Got (List Statements.CaseLabelData)
  labels ts =
      test (kind (class_of ts) == 16)
      (pass ts (λ t ts. bind (r.expression 0 ts) (λ e ts. pass ts (λ u ts. bind (r.labels ts) (λ ls ts. got (record { place = t.place; value = e } ∷ ls) ts)))))
      (got [] ts)

  -- ---- statements

  abbrev pub block : List Token → Got Statements.BlockData
  block ts = pass ts (λ t ts. bind (r.items ts) (λ is ts. pass ts (λ u ts. got (Statements.block t.place is u.place) ts)))

  abbrev pub maybe_otherwise : List Token → Got Statements.MaybeOtherwise
  maybe_otherwise ts =
      test (class_of ts == 24)
      (pass ts (λ t ts. test (kind (class_of ts) == 3)
      (bind (r.block ts) (λ b ts. got (Statements.some_otherwise (Statements.otherwise_block b)) ts))
      (bind (r.branch ts) (λ b ts. got (Statements.some_otherwise (Statements.otherwise_if b)) ts))))
      (got Statements.no_otherwise ts)

  abbrev pub branch : List Token → Got Statements.IfData
  branch ts =
      pass ts (λ t ts. pass ts (λ u ts. bind (r.expression 0 ts) (λ c ts. pass ts (λ v ts. bind (r.block ts) (λ b ts. bind (maybe_otherwise ts)
      (λ o ts. got (Statements.if_then t.place c b o) ts))))))

  abbrev pub while_loop : List Token → Got Statements.StatementData
  while_loop ts =
      pass ts (λ t ts. pass ts (λ u ts. bind (r.expression 0 ts) (λ c ts. pass ts (λ v ts. bind (r.block ts) (λ b ts. got (Statements.while_statement t.place c b) ts)))))

  abbrev pub do_loop : List Token → Got Statements.StatementData
  do_loop ts =
      pass ts (λ t ts. bind (r.block ts) (λ b ts. pass ts (λ w ts. pass ts (λ u ts. bind (r.expression 0 ts) (λ c ts. pass ts (λ v ts. pass ts
      (λ x ts. got (Statements.do_statement t.place b w.place c) ts)))))))

  abbrev pub for_loop : List Token → Got Statements.StatementData
  for_loop ts =
      pass ts (λ t ts. pass ts (λ u ts. bind (start ts) (λ s ts. pass ts (λ v ts. bind (optional_expression ts) (λ c ts. pass ts (λ x ts. bind (optional_simple ts) (λ p ts. pass ts
      (λ y ts. bind (r.block ts) (λ b ts. got (Statements.for_statement t.place s c p b) ts)))))))))

  abbrev pub body : List Token → Got Statements.BodyData
  body ts = bind (r.statements ts) (λ ss ts. bind (leave ts) (λ l ts. got (Statements.body ss l) ts))

  abbrev pub default : List Token → Got Statements.MaybeBody
  default ts = test (kind (class_of ts) == 17) (pass ts (λ t ts. pass ts (λ u ts. bind (body ts) (λ b ts. got (Statements.some_body b) ts)))) (got Statements.no_body ts)

  abbrev pub choice : List Token → Got Statements.StatementData
  choice ts =
      pass ts (λ t ts. pass ts (λ u ts. bind (r.expression 0 ts) (λ e ts. pass ts (λ v ts. pass ts (λ x ts. bind (r.clauses ts) (λ cs ts. bind (default ts) (λ d ts. pass ts
      (λ y ts. got (Statements.switch_statement t.place e cs d y.place) ts))))))))

  abbrev pub simple_statement : List Token → Got Statements.StatementData
  simple_statement ts = bind (simple ts) (λ s ts. pass ts (λ t ts. got (Statements.simple_statement s) ts))

  abbrev pub statement_by : List Token → ℕ → Got Statements.StatementData
  statement_by ts k =
      cond (k == 1) (simple_statement ts)
      (cond (k == 5) (simple_statement ts)
      (cond (k == 3) (bind (r.block ts) (λ b ts. got (Statements.block_statement b) ts))
      (cond (k == 7) (bind (r.branch ts) (λ b ts. got (Statements.if_statement b) ts))
      (cond (k == 8) (while_loop ts)
      (cond (k == 9) (do_loop ts)
      (cond (k == 10) (for_loop ts)
      (cond (k == 11) (choice ts)
      (cond (k == 14) (pass ts (λ t ts. pass ts (λ u ts. got (Statements.continue_statement t.place) ts)))
      (pass ts (λ t ts. got (Statements.empty_statement t.place) ts))))))))))

  abbrev pub statement : List Token → Got Statements.StatementData
  statement ts = by (kind (class_of ts)) (λ k. statement_by ts k)

  abbrev pub item : List Token → Got Statements.ItemData
  item ts =
      test (kind (class_of ts) == 2) (bind (declaration ts) (λ d ts. got (Statements.declaration_item d) ts))
      (test (kind (class_of ts) == 12) (bind (leave ts) (λ l ts. got (Statements.leave_item l) ts))
      (test (kind (class_of ts) == 13) (bind (leave ts) (λ l ts. got (Statements.leave_item l) ts))
      (bind (statement ts) (λ s ts. got (Statements.statement_item s) ts))))

  abbrev pub items : List Token → Got Statements.Items
  items ts =
      test (kind (class_of ts) == 4) (got Statements.no_items ts) (bind (item ts) (λ i ts. bind (r.items ts) (λ is ts. got (Statements.item_first i is) ts)))

  abbrev pub more_statements : List Token → Got Statements.Statements
  more_statements ts = bind (statement ts) (λ s ts. bind (r.statements ts) (λ ss ts. got (Statements.statement_first s ss) ts))

  -- a `break` or `return` ends them
  abbrev pub statements : List Token → Got Statements.Statements
  statements ts =
      test (kind (class_of ts) == 12) (got Statements.no_statements ts) (test (kind (class_of ts) == 13) (got Statements.no_statements ts) (more_statements ts))

  abbrev pub clauses : List Token → Got Statements.Clauses
  clauses ts =
      test (kind (class_of ts) == 16) (bind (r.labels ts) (λ ls ts. bind (body ts) (λ b ts. bind (r.clauses ts) (λ cs ts. got (Statements.clause_first ls b cs) ts))))
      (got Statements.no_clauses ts)

  -- ---- translation units

  abbrev pub bound_behind : List Token → Got (Option Expressions.BoundData)
  bound_behind ts = test (class_of ts == 35) (bind (bound text r ts) (λ b ts. got (Some b) ts)) (got None ts)

  abbrev pub parameter : List Token → Got Statements.ParameterData
  parameter ts =
      bind (r.specifiers ts) (λ ss ts. bind (r.pointers ts) (λ ps ts. test (class_of ts == 0)
      (pass ts (λ t ts. bind (bound_behind ts) (λ b ts. got (record { specifiers = ss; pointers = ps; name = Some (word_of text t); bound = b }) ts)))
      (got (record { specifiers = ss; pointers = ps; name = None; bound = None }) ts)))

  abbrev pub parameters : List Token → Got (List Statements.ParameterData)
  parameters ts = bind (parameter ts) (λ p ts. bind (r.parameters ts) (λ ps ts. got (p ∷ ps) ts))

  abbrev pub more_parameters : List Token → Got (List Statements.ParameterData)
  more_parameters ts = test (class_of ts == 79) (pass ts (λ t ts. parameters ts)) (got [] ts)

  abbrev pub function_body : List Token → Got (Option Statements.BlockData)
  function_body ts = test (kind (class_of ts) == 3) (bind (r.block ts) (λ b ts. got (Some b) ts)) (pass ts (λ t ts. got None ts))

  abbrev pub type_definition : List Token → Got Statements.ExternalData
  type_definition ts =
      pass ts (λ t ts. bind (r.specifiers ts) (λ ss ts. bind (r.pointers ts) (λ ps ts. pass ts (λ u ts. pass ts
      (λ v ts. got (Statements.type_definition (record { place = t.place; specifiers = ss; pointers = ps; name = word_of text u })) ts)))))

  abbrev pub function : Expressions.Specifiers → List Expressions.PointerData → Token → List Token → Got Statements.ExternalData
  function ss ps t ts =
      pass ts (λ u ts. bind (parameters ts) (λ qs ts. pass ts (λ v ts. bind (function_body ts)
      (λ b ts. got (Statements.function (record { specifiers = ss; pointers = ps; name = word_of text t; parameters = qs; body = b })) ts))))

  abbrev pub declaration_behind : Expressions.Specifiers → List Token → Got Statements.ExternalData
  declaration_behind ss ts = bind (declared ts) (λ ds ts. pass ts (λ t ts. got (Statements.declaration (record { specifiers = ss; declarators = ds })) ts))

  -- a function has its parameters behind its name
  abbrev pub named : Expressions.Specifiers → List Token → Got Statements.ExternalData
  named ss ts = bind (r.pointers ts) (λ ps us. pass us (λ t us. test (class_of us == 37) (function ss ps t us) (declaration_behind ss ts)))

  abbrev pub external_behind : Expressions.Specifiers → List Token → Got Statements.ExternalData
  external_behind ss ts = test (kind (class_of ts) == 15) (declaration_behind ss ts) (named ss ts)

  abbrev pub external : List Token → Got Statements.ExternalData
  external ts = test (kind (class_of ts) == 6) (type_definition ts) (bind (r.specifiers ts) external_behind)

  abbrev pub externals : List Token → Got (List Statements.ExternalData)
  externals ts = test (kind (class_of ts) == 0) (got [] ts) (bind (external ts) (λ e ts. bind (r.externals ts) (λ es ts. got (e ∷ es) ts)))

-- ---- readers that go on so often

abbrev nowhere : Place
nowhere = record { line = 0; column = 0 }

abbrev nothing : Expressions.ExpressionData
nothing = Expressions.identifier (record { place = nowhere; text = [] })

abbrev empty_block : Statements.BlockData
empty_block = Statements.block nowhere Statements.no_items nowhere

abbrev tired : Readers
tired = record {
  expression = λ row ts. got nothing ts;
  operations = λ row ts. got Expressions.no_operations ts;
  postfixes = λ ts. got Expressions.no_postfixes ts;
  arguments = λ ts. got Expressions.no_expressions ts;
  specifiers = λ ts. got Expressions.no_specifiers ts;
  members = λ ts. got Expressions.no_members ts;
  declarators = λ ts. got Expressions.no_declarators ts;
  bounds = λ ts. got Expressions.no_bounds ts;
  enumerators = λ ts. got Expressions.no_enumerators ts;
  pointers = λ ts. got [] ts;
  qualifiers = λ ts. got [] ts;
  initializer = λ ts. got (Statements.initial_expression nothing) ts;
  initializers = λ ts. got Statements.no_initializers ts;
  objects = λ ts. got [] ts;
  block = λ ts. got empty_block ts;
  items = λ ts. got Statements.no_items ts;
  branch = λ ts. got (Statements.if_then nowhere nothing empty_block Statements.no_otherwise) ts;
  labels = λ ts. got [] ts;
  clauses = λ ts. got Statements.no_clauses ts;
  statements = λ ts. got Statements.no_statements ts;
  parameters = λ ts. got [] ts;
  externals = λ ts. got [] ts;
}

abbrev once_more : List ℕ → Readers → Readers
once_more text r = record {
  expression = R.expression text r;
  operations = R.operations text r;
  postfixes = R.postfixes text r;
  arguments = R.more_arguments text r;
  specifiers = R.specifiers text r;
  members = R.members text r;
  declarators = R.more_declarators text r;
  bounds = R.bounds text r;
  enumerators = R.more_enumerators text r;
  pointers = R.pointers text r;
  qualifiers = R.qualifiers text r;
  initializer = initializer text r;
  initializers = more_initializers text r;
  objects = more_objects text r;
  block = block text r;
  items = items text r;
  branch = branch text r;
  labels = labels text r;
  clauses = clauses text r;
  statements = statements text r;
  parameters = more_parameters text r;
  externals = externals text r;
}

abbrev pub readers : List ℕ → ℕ → Readers
readers text zero = tired
readers text (suc n) = once_more text (readers text n)
