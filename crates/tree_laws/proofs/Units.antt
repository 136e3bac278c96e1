-- Translation units are read whole, so a text has one tree.
use Rattle.std.proofs.Common.{◌≡◌, ◌∙◌, ◌+◌, ◌==◌, ℕ, false, List, [], ◌∷◌, ◌++◌, Option, None, Some, refl, sym, ap, subst, arith}
use Rattle.c_lexer.specs.declared.token.Token.{Token}
use Rattle.c_lexer.specs.declared.token_class.TokenClass.TheVariants as T
use Rattle.c_tree.specs.declared.expression.Word.{Word}
use Rattle.c_tree.specs.Expressions as E
use Rattle.c_tree.specs.Statements as D
use Rattle.c_reader.specs.Pieces.{Spells, any, word}
use Rattle.c_reader.specs.Grouping.{AreGroupedSpecifiers}
use Rattle.c_reader.specs.GroupedStatements.{AreGroupedObjects, IsGroupedBound, AreGroupedParameters, HasParameter, IsGroupedDefinition, IsGroupedExternal, AreGroupedExternals}
use Rattle.c_reader.specs.SpelledExpressions as spelled
use Rattle.c_reader.specs.SpelledStatements as printed
use Rattle.c_reader.specs.SpelledExternals as whole
use Rattle.c_reader.specs.SpelledExternals.{IsTree}
use Rattle.tree_laws.specs.Laws.{TreeIsOne}
use Rattle.tree_laws.proofs.Beginnings.{kind, row_with, qualifiers_of}
use Rattle.tree_laws.proofs.Declarations.{declared_end, declared_closes, first_object}
use Rattle.tree_laws.proofs.Ends.{Ends, again, parts, three, four}
use Rattle.tree_laws.proofs.Expressions.{specifiers_end, bound_end}
use Rattle.tree_laws.proofs.Firsts.{Closes, NoPointer, kind_is, kind_closes, first_specifiers, pointers_close, pointers_begin}
use Rattle.tree_laws.proofs.Operands.{both, all_three}
use Rattle.tree_laws.proofs.Pointers.{pointers_end}
use Rattle.tree_laws.proofs.Reading.{got, class_of, class_is, class_nothing, bound, passed, holds, fails}
use Rattle.tree_laws.proofs.StatementReaders as S
use Rattle.tree_laws.proofs.Statements.{block_end}

-- what stands behind a parameter
record IsBehind (ts : List Token) : Type 0 where
  pub no_name : (class_of ts == 0) ≡ false
  pub no_size : (class_of ts == 35) ≡ false
  pub no_pointer : NoPointer ts
  pub closes : Closes ts

behind_as : (ts : List Token) (k : ℕ) → class_of ts ≡ k → (k == 0) ≡ false → (k == 35) ≡ false → row_with qualifiers_of k ≡ None → (k == 46) ≡ false → (kind k == 2) ≡ false → (kind k == 3) ≡ false → IsBehind ts
behind_as ts k e a b c d f g =
    record {
      no_name = ap (λ k. k == 0) e ∙ a;
      no_size = ap (λ k. k == 35) e ∙ b;
      no_pointer = (ap (row_with qualifiers_of) e ∙ c, ap (λ k. k == 46) e ∙ d);
      closes = (ap (λ k. kind k == 2) e ∙ f, ap (λ k. kind k == 3) e ∙ g);
    }

module _ (text : List ℕ) where
  -- ---- parameters

  bound_behind_end : (o : Option E.BoundData) (w : Word) (ts rest : List Token) → IsGroupedBound (Some w) o → Spells text (whole.optional_bound o) ts rest → (class_of rest == 35) ≡ false
      → Ends text (λ r. S.bound_behind text r ts) o rest
  bound_behind_end None w ts rest g s behind = record { enough = 0; reads = λ n le. fails _ (ap (λ ts. class_of ts == 35) s ∙ behind) (ap (λ ts. got None ts) s) }
  bound_behind_end (Some (E.bound m close)) w ts rest g s behind =
      let inner = bound_end text (E.bound m close) ts rest g s in
      record { enough = inner.enough; reads = λ n le. holds _ (ap (λ k. k == 35) (class_is s.2 s.3)) (bound _ (inner.reads n le) refl) }

  parameter_end : (ss : E.Specifiers) (ps : List E.PointerData) (name : Option Word) (o : Option E.BoundData) (ts rest : List Token) → AreGroupedSpecifiers ss → IsGroupedBound name o
      → Spells text (whole.parameter (record { specifiers = ss; pointers = ps; name = name; bound = o })) ts rest → IsBehind rest
      → Ends text (λ r. S.parameter text r ts) (record { specifiers = ss; pointers = ps; name = name; bound = o }) rest
  parameter_end ss ps None None ts rest g h s behind =
      let p = parts text (spelled.specifiers ss) ((spelled.pointers ps ++ []) ++ []) ts rest (four text _ _ (spelled.specifiers ss) (spelled.pointers ps) [] [] s) in
      let q = parts text (spelled.pointers ps) [] p.between rest (three text _ _ (spelled.pointers ps) [] [] p.behind) in
      let first = specifiers_end text ss ts p.between g.1 p.front (pointers_close text ps p.between q.between q.front (subst Closes (sym q.behind) behind.closes)) in
      let stars = pointers_end text ps p.between q.between q.front (subst NoPointer (sym q.behind) behind.no_pointer) in
      record {
        enough = first.enough + stars.enough;
        reads = λ n le. bound _ (first.reads n (omega (arith, le))) (bound _ (stars.reads n (omega (arith, le))) (fails _ (ap (λ ts. class_of ts == 0) q.behind ∙ behind.no_name)
            (ap (λ ts. got (record { specifiers = ss; pointers = ps; name = None; bound = None }) ts) q.behind)));
      }
  parameter_end ss ps None (Some b) ts rest g h s behind = absurd h
  parameter_end ss ps (Some w) o ts rest g h s behind =
      let p = parts text (spelled.specifiers ss) ((spelled.pointers ps ++ word T.Identifier w ∷ []) ++ whole.optional_bound o) ts rest
      (four text _ _ (spelled.specifiers ss) (spelled.pointers ps) (word T.Identifier w ∷ []) (whole.optional_bound o) s) in
      let c = parts text (spelled.pointers ps) (word T.Identifier w ∷ whole.optional_bound o) p.between rest (three text _ _ (spelled.pointers ps) (word T.Identifier w ∷ []) (whole.optional_bound o) p.behind) in
      let q = c.behind in
      let first = specifiers_end text ss ts p.between g.1 p.front (kind_closes _ (pointers_begin text ps p.between c.between c.front (kind_is 0 q.2 q.3.0))) in
      let stars = pointers_end text ps p.between c.between c.front (ap (row_with qualifiers_of) (class_is q.2 q.3.0), ap (λ k. k == 46) (class_is q.2 q.3.0)) in
      let size = bound_behind_end o w q.1 rest h q.4 behind.no_size in
      record {
        enough = first.enough + (stars.enough + size.enough);
        reads = λ n le. bound _ (first.reads n (omega (arith, le))) (bound _ (stars.reads n (omega (arith, le))) (holds _ (ap (λ k. k == 0) (class_is q.2 q.3.0))
            (passed _ q.2 (bound _ (size.reads n (omega (arith, le))) (ap (λ w. got (record { specifiers = ss; pointers = ps; name = Some w; bound = o }) rest) (sym q.3.1))))));
      }

  parameters_behind : (ps : List D.ParameterData) (ts rest : List Token) (v : Token) (after : List Token) → rest ≡ v ∷ after → v.class ≡ 38 → Spells text (whole.more_parameters ps) ts rest → IsBehind ts
  parameters_behind [] ts rest v after e c s = behind_as ts 38 (ap class_of s ∙ class_is e c) refl refl refl refl refl refl
  parameters_behind (p ∷ ps) ts rest v after e c s = behind_as ts 79 (class_is s.2 s.3) refl refl refl refl refl refl

  more_parameters_end : (ps : List D.ParameterData) (ts rest : List Token) (v : Token) (after : List Token) → rest ≡ v ∷ after → v.class ≡ 38 → AreGroupedParameters ps
      → Spells text (whole.more_parameters ps) ts rest → Ends text (λ r. r.parameters ts) ps rest
  more_parameters_end [] ts rest v after e c g s =
      again text (λ r. r.parameters ts) [] rest 0 (λ n le. fails _ (ap (λ ts. class_of ts == 79) s ∙ ap (λ k. k == 79) (class_is e c)) (ap (λ ts. got [] ts) s))
  more_parameters_end (p ∷ ps) ts rest v after e c g s =
      let cut = parts text (whole.parameter p) (whole.more_parameters ps) s.1 rest s.4 in
      let first = parameter_end p.specifiers p.pointers p.name p.bound s.1 cut.between g.0.0 g.0.1 cut.front (parameters_behind ps cut.between rest v after e c cut.behind) in
      let more = more_parameters_end ps cut.between rest v after e c g.1 cut.behind in
      again text (λ r. r.parameters ts) (p ∷ ps) rest (first.enough + more.enough) (λ n le.
      holds _ (ap (λ k. k == 79) (class_is s.2 s.3)) (passed _ s.2 (bound _ (first.reads n (omega (arith, le))) (bound _ (more.reads n (omega (arith, le))) refl))))

  parameters_end : (ps : List D.ParameterData) (ts rest : List Token) (v : Token) (after : List Token) → rest ≡ v ∷ after → v.class ≡ 38 → HasParameter ps → AreGroupedParameters ps
      → Spells text (whole.parameters ps) ts rest → Ends text (λ r. S.parameters text r ts) ps rest
  parameters_end [] ts rest v after e c has g s = absurd has
  parameters_end (p ∷ ps) ts rest v after e c has g s =
      let cut = parts text (whole.parameter p) (whole.more_parameters ps) ts rest s in
      let first = parameter_end p.specifiers p.pointers p.name p.bound ts cut.between g.0.0 g.0.1 cut.front (parameters_behind ps cut.between rest v after e c cut.behind) in
      let more = more_parameters_end ps cut.between rest v after e c g.1 cut.behind in
      record { enough = first.enough + more.enough; reads = λ n le. bound _ (first.reads n (omega (arith, le))) (bound _ (more.reads n (omega (arith, le))) refl) }

  -- ---- externals

  function_body_end : (o : Option D.BlockData) (ts rest : List Token) → IsGroupedDefinition o → Spells text (whole.body o) ts rest → Ends text (λ r. S.function_body text r ts) o rest
  function_body_end None ts rest g s =
      record { enough = 0; reads = λ n le. fails _ (ap (λ k. kind k == 3) (class_is s.2 s.3)) (passed _ s.2 (ap (λ ts. got None ts) s.4)) }
  function_body_end (Some (D.block place is close)) ts rest g s =
      let inner = block_end text (D.block place is close) ts rest g s in
      record { enough = inner.enough; reads = λ n le. holds _ (ap (λ k. kind k == 3) (class_is s.2 s.3.0)) (bound _ (inner.reads n le) refl) }

  -- an object begins with its pointers and its name, and no `(` stands behind these
  record Named (ts : List Token) : Type 0 where
    pub stars : List E.PointerData
    pub between : List Token
    pub name : Token
    pub others : List Token
    pub front : Spells text (spelled.pointers stars) ts between
    pub tokens : between ≡ name ∷ others
    pub class : name.class ≡ 0
    pub no_function : (class_of others == 37) ≡ false

  objects_no_function : (ds : List D.InitDeclaratorData) (ts rest : List Token) (v : Token) (after : List Token) → rest ≡ v ∷ after → v.class ≡ 67 → Spells text (printed.more_objects ds) ts rest
      → (class_of ts == 37) ≡ false
  objects_no_function [] ts rest v after e c s = ap (λ ts. class_of ts == 37) s ∙ ap (λ k. k == 37) (class_is e c)
  objects_no_function (d ∷ ds) ts rest v after e c s = ap (λ k. k == 37) (class_is s.2 s.3)

  value_no_function : (o : Option D.InitializationData) (ts rest : List Token) → Spells text (printed.initialization o) ts rest → (class_of rest == 37) ≡ false → (class_of ts == 37) ≡ false
  value_no_function None ts rest s h = ap (λ ts. class_of ts == 37) s ∙ h
  value_no_function (Some i) ts rest s h = ap (λ k. k == 37) (class_is s.2 s.3.0)

  bounds_no_function : (bs : E.Bounds) (ts rest : List Token) → Spells text (spelled.bounds bs) ts rest → (class_of rest == 37) ≡ false → (class_of ts == 37) ≡ false
  bounds_no_function E.no_bounds ts rest s h = ap (λ ts. class_of ts == 37) s ∙ h
  bounds_no_function (E.bound_first (E.bound m close) bs) ts rest s h = ap (λ k. k == 37) (class_is s.2 s.3)

  named_object : (d : E.DeclaratorData) (o : Option D.InitializationData) (ds : List D.InitDeclaratorData) (ts rest : List Token) (v : Token) (after : List Token) → rest ≡ v ∷ after → v.class ≡ 67
      → Spells text ((spelled.declarator d ++ printed.initialization o) ++ printed.more_objects ds) ts rest → Named ts
  named_object (E.declarator ps w bs) o ds ts rest v after e c s =
      let a = parts text (spelled.declarator (E.declarator ps w bs)) (printed.initialization o ++ printed.more_objects ds) ts rest
      (three text _ _ (spelled.declarator (E.declarator ps w bs)) (printed.initialization o) (printed.more_objects ds) s) in
      let b = parts text (printed.initialization o) (printed.more_objects ds) a.between rest a.behind in
      let p = parts text (spelled.pointers ps) (word T.Identifier w ∷ spelled.bounds bs) ts a.between a.front in
      let q = p.behind in
      record {
        stars = ps;
        between = p.between;
        name = q.0;
        others = q.1;
        front = p.front;
        tokens = q.2;
        class = q.3.0;
        no_function = bounds_no_function bs q.1 a.between q.4 (value_no_function o a.between b.between b.front (objects_no_function ds b.between rest v after e c b.behind));
      }

  -- declarations behind their specifiers, as an external reader comes to them
  behind_specifiers : (ss : E.Specifiers) (ds : List D.InitDeclaratorData) (ts rest : List Token) → AreGroupedObjects ds → Spells text (printed.objects ds ++ any T.Semicolon ∷ []) ts rest
      → Ends text (λ r. S.external_behind text r ss ts) (D.declaration (record { specifiers = ss; declarators = ds })) rest
  behind_specifiers ss [] ts rest g s =
      let listed = declared_end text [] ts ts s.0 s.1 s.2 s.3 tt refl in
      record {
        enough = listed.enough;
        reads = λ n le. holds _ (ap (λ k. kind k == 15) (class_is s.2 s.3)) (bound _ (listed.reads n le) (passed _ s.2 (ap (λ ts. got (D.declaration (record { specifiers = ss; declarators = [] })) ts) s.4)));
      }
  behind_specifiers ss (d ∷ ds) ts rest g s =
      let p = parts text (printed.objects (d ∷ ds)) (any T.Semicolon ∷ []) ts rest s in
      let q = p.behind in
      let listed = declared_end text (d ∷ ds) ts p.between q.0 q.1 q.2 q.3 g p.front in
      let named = named_object d.declarator d.initialization ds ts p.between q.0 q.1 q.2 q.3 p.front in
      let stars = pointers_end text named.stars ts named.between named.front
      (ap (row_with qualifiers_of) (class_is named.tokens named.class), ap (λ k. k == 46) (class_is named.tokens named.class)) in
      record {
        enough = listed.enough + stars.enough;
        reads = λ n le. fails _ (ap (λ k. k == 15) (first_object text d ds ts p.between p.front)) (bound _ (stars.reads n (omega (arith, le))) (passed _ named.tokens (fails _ named.no_function
            (bound _ (listed.reads n (omega (arith, le))) (passed _ q.2 (ap (λ ts. got (D.declaration (record { specifiers = ss; declarators = d ∷ ds })) ts) q.4))))));
      }

  closes_behind : (ds : List D.InitDeclaratorData) (ts rest : List Token) → Spells text (printed.objects ds ++ any T.Semicolon ∷ []) ts rest → Closes ts
  closes_behind ds ts rest s =
      let p = parts text (printed.objects ds) (any T.Semicolon ∷ []) ts rest s in
      let q = p.behind in
      declared_closes text ds ts p.between q.0 q.1 q.2 q.3 p.front

  external_end : (x : D.ExternalData) (ts rest : List Token) → IsGroupedExternal x → Spells text (whole.external x) ts rest → Ends text (λ r. S.external text r ts) x rest
  external_end (D.type_definition d) ts rest g s =
      let p = parts text (spelled.specifiers d.specifiers) (spelled.pointers d.pointers ++ word T.Identifier d.name ∷ any T.Semicolon ∷ []) s.1 rest
      (three text _ _ (spelled.specifiers d.specifiers) (spelled.pointers d.pointers) (word T.Identifier d.name ∷ any T.Semicolon ∷ []) s.4) in
      let c = parts text (spelled.pointers d.pointers) (word T.Identifier d.name ∷ any T.Semicolon ∷ []) p.between rest p.behind in
      let q = c.behind in
      let u = q.4 in
      let first = specifiers_end text d.specifiers s.1 p.between g.1 p.front (kind_closes _ (pointers_begin text d.pointers p.between c.between c.front (kind_is 0 q.2 q.3.0))) in
      let stars = pointers_end text d.pointers p.between c.between c.front (ap (row_with qualifiers_of) (class_is q.2 q.3.0), ap (λ k. k == 46) (class_is q.2 q.3.0)) in
      record {
        enough = first.enough + stars.enough;
        reads = λ n le. holds _ (ap (λ k. kind k == 6) (class_is s.2 s.3.0)) (passed _ s.2 (bound _ (first.reads n (omega (arith, le))) (bound _ (stars.reads n (omega (arith, le)))
            (passed _ q.2 (passed _ u.2 (all_three (λ x w ts. got (D.type_definition (record { place = x; specifiers = d.specifiers; pointers = d.pointers; name = w })) ts) s.3.1 (sym q.3.1) u.4))))));
      }
  external_end (D.declaration d) ts rest g s =
      let p = parts text (spelled.specifiers d.specifiers) (printed.objects d.declarators ++ any T.Semicolon ∷ []) ts rest
      (three text _ _ (spelled.specifiers d.specifiers) (printed.objects d.declarators) (any T.Semicolon ∷ []) s) in
      let first = specifiers_end text d.specifiers ts p.between g.0.1 p.front (closes_behind d.declarators p.between rest p.behind) in
      let more = behind_specifiers d.specifiers d.declarators p.between rest g.1 p.behind in
      record {
        enough = first.enough + more.enough;
        reads = λ n le. fails _ (ap (λ k. k == 6) (first_specifiers text d.specifiers ts p.between g.0.0 p.front)) (bound _ (first.reads n (omega (arith, le))) (more.reads n (omega (arith, le))));
      }
  external_end (D.function d) ts rest g s =
      let front = word T.Identifier d.name ∷ any T.LeftParenthesis ∷ whole.parameters d.parameters in
      let p = parts text (spelled.specifiers d.specifiers) ((spelled.pointers d.pointers ++ front) ++ any T.RightParenthesis ∷ whole.body d.body) ts rest
      (four text _ _ (spelled.specifiers d.specifiers) (spelled.pointers d.pointers) front (any T.RightParenthesis ∷ whole.body d.body) s) in
      let c = parts text (spelled.pointers d.pointers) (front ++ any T.RightParenthesis ∷ whole.body d.body) p.between rest
      (three text _ _ (spelled.pointers d.pointers) front (any T.RightParenthesis ∷ whole.body d.body) p.behind) in
      let q = c.behind in
      let u = q.4 in
      let o = parts text (whole.parameters d.parameters) (any T.RightParenthesis ∷ whole.body d.body) u.1 rest u.4 in
      let v = o.behind in
      let begins = pointers_begin text d.pointers p.between c.between c.front (kind_is 0 q.2 q.3.0) in
      let first = specifiers_end text d.specifiers ts p.between g.0.1 p.front (kind_closes _ begins) in
      let stars = pointers_end text d.pointers p.between c.between c.front (ap (row_with qualifiers_of) (class_is q.2 q.3.0), ap (λ k. k == 46) (class_is q.2 q.3.0)) in
      let listed = parameters_end d.parameters u.1 o.between v.0 v.1 v.2 v.3 g.1 g.2 o.front in
      let inner = function_body_end d.body v.1 rest g.3 v.4 in
      record {
        enough = first.enough + (stars.enough + (listed.enough + inner.enough));
        reads = λ n le. fails _ (ap (λ k. k == 6) (first_specifiers text d.specifiers ts p.between g.0.0 p.front)) (bound _ (first.reads n (omega (arith, le)))
            (fails _ (ap (λ k. k == 15) begins) (bound _ (stars.reads n (omega (arith, le))) (passed _ q.2 (holds _ (ap (λ k. k == 37) (class_is u.2 u.3)) (passed _ u.2
            (bound _ (listed.reads n (omega (arith, le))) (passed _ v.2 (bound _ (inner.reads n (omega (arith, le)))
            (ap (λ w. got (D.function (record { specifiers = d.specifiers; pointers = d.pointers; name = w; parameters = d.parameters; body = d.body })) rest) (sym q.3.1)))))))))));
      }

  first_external : (x : D.ExternalData) (ts rest : List Token) → IsGroupedExternal x → Spells text (whole.external x) ts rest → (kind (class_of ts) == 0) ≡ false
  first_external (D.type_definition d) ts rest g s = ap (λ k. kind k == 0) (class_is s.2 s.3.0)
  first_external (D.declaration d) ts rest g s =
      let p = parts text (spelled.specifiers d.specifiers) (printed.objects d.declarators ++ any T.Semicolon ∷ []) ts rest
      (three text _ _ (spelled.specifiers d.specifiers) (printed.objects d.declarators) (any T.Semicolon ∷ []) s) in
      ap (λ k. k == 0) (first_specifiers text d.specifiers ts p.between g.0.0 p.front)
  first_external (D.function d) ts rest g s =
      let front = word T.Identifier d.name ∷ any T.LeftParenthesis ∷ whole.parameters d.parameters in
      let p = parts text (spelled.specifiers d.specifiers) ((spelled.pointers d.pointers ++ front) ++ any T.RightParenthesis ∷ whole.body d.body) ts rest
      (four text _ _ (spelled.specifiers d.specifiers) (spelled.pointers d.pointers) front (any T.RightParenthesis ∷ whole.body d.body) s) in
      ap (λ k. k == 0) (first_specifiers text d.specifiers ts p.between g.0.0 p.front)

  externals_end : (es : List D.ExternalData) (ts : List Token) → AreGroupedExternals es → Spells text (whole.externals es) ts [] → Ends text (λ r. r.externals ts) es []
  externals_end [] ts g s = again text (λ r. r.externals ts) [] [] 0 (λ n le. holds _ (ap (λ ts. kind (class_of ts) == 0) s ∙ ap (λ k. kind k == 0) class_nothing) (ap (λ ts. got [] ts) s))
  externals_end (x ∷ es) ts g s =
      let p = parts text (whole.external x) (whole.externals es) ts [] s in
      let first = external_end x ts p.between g.0 p.front in
      let more = externals_end es p.between g.1 p.behind in
      again text (λ r. r.externals ts) (x ∷ es) [] (first.enough + more.enough) (λ n le.
      fails _ (first_external x ts p.between g.0 p.front) (bound _ (first.reads n (omega (arith, le))) (bound _ (more.reads n (omega (arith, le))) refl)))

pub one_tree : TreeIsOne
one_tree text tokens a b is also =
    let one = externals_end text a.externals tokens is.grouped is.spells in
    let other = externals_end text b.externals tokens also.grouped also.spells in
    let n = one.enough + other.enough in
    let same = ap (λ g. g.value) (sym (one.reads n (omega arith)) ∙ other.reads n (omega arith)) in
    both (λ es end. record { externals = es; end = end }) same (is.end ∙ sym also.end)
