-- Declarations and the parts of statements are read whole.
use Rattle.std.proofs.Common.{◌≡◌, ◌∙◌, ◌≤◌, ◌+◌, ◌==◌, ℕ, Bool, false, List, [], ◌∷◌, ◌++◌, Option, None, Some, refl, sym, ap, subst, arith}
use Rattle.misra_base.specs.declared.place.Place.{Place}
use Rattle.c_lexer.specs.declared.token.Token.{Token}
use Rattle.c_lexer.specs.declared.token_class.TokenClass.TheVariants as T
use Rattle.c_tree.specs.Statements as D
use Rattle.c_reader.specs.Pieces.{Spells, any, at}
use Rattle.c_reader.specs.GroupedStatements.{HasInitializer, IsGroupedInitializer, AreGroupedInitializers, IsGroupedInitialization, AreGroupedObjects, IsGroupedDeclaration}
use Rattle.c_reader.specs.SpelledExpressions as spelled
use Rattle.c_reader.specs.SpelledStatements as printed
use Rattle.tree_laws.proofs.Beginnings.{strength, kind}
use Rattle.tree_laws.proofs.Ends.{Ends, again, parts, three, weak, weak_in}
use Rattle.tree_laws.proofs.Expressions.{expression_end, specifiers_end, declarator_end}
use Rattle.tree_laws.proofs.Firsts.{Closes, kind_closes, first_expression, first_declarator, trailing_weak}
use Rattle.tree_laws.proofs.Lists.{trailing_end, no_more}
use Rattle.tree_laws.proofs.Operands.{to, all_three}
use Rattle.tree_laws.proofs.Reading.{got, class_of, class_is, bound, passed, holds, fails}
use Rattle.tree_laws.proofs.StatementReaders as S
use Rattle.tree_laws.proofs.StatementReaders.{readers, step_of}

module _ (text : List ℕ) where
  -- ---- initialisers

  first_initializer : (i : D.InitializerData) (ts rest : List Token) → Spells text (printed.initializer i) ts rest → (kind (class_of ts) == 4) ≡ false
  first_initializer (D.initial_expression e) ts rest s = ap (λ k. k == 4) (first_expression text e ts rest s)
  first_initializer (D.initial_list p is comma q) ts rest s = ap (λ k. kind k == 4) (class_is s.2 s.3.0)

  initializers_weak : (is : D.Initializers) (comma : Bool) (q : Place) (ts between rest : List Token) → Spells text (printed.more_initializers is) ts between
      → Spells text (spelled.trailing comma ++ at T.RightBrace q ∷ []) between rest → strength (class_of ts) ≤ 0
  initializers_weak D.no_initializers comma q ts between rest s end = weak_in 0 s (trailing_weak text comma q between rest end).0
  initializers_weak (D.initializer i is) comma q ts between rest s end = weak 79 0 s.2 s.3 (omega arith)

  mutual
    initializer_end : (i : D.InitializerData) (ts rest : List Token) → IsGroupedInitializer i → Spells text (printed.initializer i) ts rest → strength (class_of rest) ≤ 0
        → Ends text (λ r. r.initializer ts) i rest
    initializer_end (D.initial_expression e) ts rest g s behind =
        let inner = expression_end text e ts rest s g 0 (omega arith) behind in
        again text (λ r. r.initializer ts) (D.initial_expression e) rest inner.enough (λ n le.
        fails _ (ap (λ k. k == 3) (first_expression text e ts rest s)) (bound _ (inner.reads n le) refl))
    initializer_end (D.initial_list place is comma close) ts rest g s behind =
        let p = parts text (printed.initializers is) (spelled.trailing comma ++ at T.RightBrace close ∷ []) s.1 rest (three text _ _ (printed.initializers is) (spelled.trailing comma) (at T.RightBrace close ∷ []) s.4) in
        let inner = initializers_end is comma close s.1 p.between rest g.0 g.1 p.front p.behind in
        let tail = trailing_end text comma close p.between rest p.behind in
        again text (λ r. r.initializer ts) (D.initial_list place is comma close) rest inner.enough (λ n le.
        holds _ (ap (λ k. kind k == 3) (class_is s.2 s.3.0)) (passed _ s.2 (bound _ (inner.reads n le) (bound _ (tail.reads n) (passed _ tail.closes.2
        (all_three (λ x y ts. got (D.initial_list x is comma y) ts) s.3.1 tail.closes.3.1 tail.closes.4))))))

    initializers_end : (is : D.Initializers) (comma : Bool) (close : Place) (ts between rest : List Token) → HasInitializer is → AreGroupedInitializers is
        → Spells text (printed.initializers is) ts between → Spells text (spelled.trailing comma ++ at T.RightBrace close ∷ []) between rest
        → Ends text (λ r. S.initializers text r ts) is between
    initializers_end D.no_initializers comma close ts between rest has g s end = absurd has
    initializers_end (D.initializer i is) comma close ts between rest has g s end =
        let p = parts text (printed.initializer i) (printed.more_initializers is) ts between s in
        let first = initializer_end i ts p.between g.0 p.front (initializers_weak is comma close p.between between rest p.behind end) in
        let more = more_initializers_end is comma close p.between between rest g.1 p.behind end in
        record { enough = first.enough + more.enough; reads = λ n le. bound _ (first.reads n (omega (arith, le))) (bound _ (more.reads n (omega (arith, le))) refl) }

    more_initializers_end : (is : D.Initializers) (comma : Bool) (close : Place) (ts between rest : List Token) → AreGroupedInitializers is
        → Spells text (printed.more_initializers is) ts between → Spells text (spelled.trailing comma ++ at T.RightBrace close ∷ []) between rest
        → Ends text (λ r. r.initializers ts) is between
    more_initializers_end D.no_initializers comma close ts between rest g s end =
        to text (λ r. r.initializers ts) D.no_initializers s (again text (λ r. r.initializers ts) D.no_initializers ts 0 (λ n le.
        no_more text D.no_initializers comma close ts rest (subst (λ (us : List Token). Spells text (spelled.trailing comma ++ at T.RightBrace close ∷ []) us rest) (sym s) end)
        (λ us. S.initializers text (readers text n) us)))
    more_initializers_end (D.initializer i is) comma close ts between rest g s end =
        let p = parts text (printed.initializer i) (printed.more_initializers is) s.1 between s.4 in
        let first = initializer_end i s.1 p.between g.0 p.front (initializers_weak is comma close p.between between rest p.behind end) in
        let more = more_initializers_end is comma close p.between between rest g.1 p.behind end in
        again text (λ r. r.initializers ts) (D.initializer i is) between (first.enough + more.enough) (λ n le.
        holds _ (ap (λ k. k == 79) (class_is s.2 s.3)) (passed _ s.2 (fails _ (first_initializer i s.1 p.between p.front)
        (bound _ (first.reads n (omega (arith, le))) (bound _ (more.reads n (omega (arith, le))) refl)))))

  initialization_end : (o : Option D.InitializationData) (ts rest : List Token) → IsGroupedInitialization o → Spells text (printed.initialization o) ts rest → strength (class_of rest) ≤ 0
      → (class_of rest == 68) ≡ false → Ends text (λ r. S.initialization text r ts) o rest
  initialization_end None ts rest g s behind other = record { enough = 0; reads = λ n le. fails _ (ap (λ ts. class_of ts == 68) s ∙ other) (ap (λ ts. got None ts) s) }
  initialization_end (Some i) ts rest g s behind other =
      let inner = initializer_end i.value s.1 rest g s.4 behind in
      record {
        enough = inner.enough;
        reads = λ n le. holds _ (ap (λ k. k == 68) (class_is s.2 s.3.0)) (passed _ s.2 (bound _ (inner.reads n le) (ap (λ x. got (Some (record { place = x; value = i.value })) rest) s.3.1)));
      }

  -- ---- declarations

  no_bound_behind : (o : Option D.InitializationData) (ts rest : List Token) → Spells text (printed.initialization o) ts rest → (class_of rest == 35) ≡ false → (class_of ts == 35) ≡ false
  no_bound_behind None ts rest s h = ap (λ ts. class_of ts == 35) s ∙ h
  no_bound_behind (Some i) ts rest s h = ap (λ k. k == 35) (class_is s.2 s.3.0)

  -- behind an object stands a comma, or the semicolon
  record IsBehind (ts : List Token) : Type 0 where
    pub calm : strength (class_of ts) ≤ 0
    pub no_value : (class_of ts == 68) ≡ false
    pub no_size : (class_of ts == 35) ≡ false

  objects_behind : (ds : List D.InitDeclaratorData) (ts rest : List Token) (v : Token) (after : List Token) → rest ≡ v ∷ after → v.class ≡ 67 → Spells text (printed.more_objects ds) ts rest
      → IsBehind ts
  objects_behind [] ts rest v after e c s =
      let h : class_of ts ≡ 67 = ap class_of s ∙ class_is e c in
      record { calm = weak 67 0 (s ∙ e) c (omega arith); no_value = ap (λ k. k == 68) h; no_size = ap (λ k. k == 35) h }
  objects_behind (d ∷ ds) ts rest v after e c s =
      record { calm = weak 79 0 s.2 s.3 (omega arith); no_value = ap (λ k. k == 68) (class_is s.2 s.3); no_size = ap (λ k. k == 35) (class_is s.2 s.3) }

  object_end : (d : D.InitDeclaratorData) (ds : List D.InitDeclaratorData) (ts rest : List Token) (v : Token) (after : List Token) → rest ≡ v ∷ after → v.class ≡ 67
      → AreGroupedObjects (d ∷ ds) → Spells text (printed.objects (d ∷ ds)) ts rest
      → ((between : List Token) → Spells text (printed.more_objects ds) between rest → Ends text (λ r. r.objects between) ds rest)
      → Ends text (λ r. S.objects text r ts) (d ∷ ds) rest
  object_end d ds ts rest v after e c g s others =
      let p = parts text (spelled.declarator d.declarator) (printed.initialization d.initialization ++ printed.more_objects ds) ts rest (three text _ _ (spelled.declarator d.declarator) (printed.initialization d.initialization) (printed.more_objects ds) s) in
      let q = parts text (printed.initialization d.initialization) (printed.more_objects ds) p.between rest p.behind in
      let behind = objects_behind ds q.between rest v after e c q.behind in
      let first = declarator_end text d.declarator ts p.between g.0 p.front (no_bound_behind d.initialization p.between q.between q.front behind.no_size) in
      let value = initialization_end d.initialization p.between q.between g.1 q.front behind.calm behind.no_value in
      let more = others q.between q.behind in
      record {
        enough = first.enough + (value.enough + more.enough);
        reads = λ n le. bound _ (first.reads n (omega (arith, le))) (bound _ (value.reads n (omega (arith, le))) (bound _ (more.reads n (omega (arith, le))) refl));
      }

  more_objects_end : (ds : List D.InitDeclaratorData) (rest : List Token) (v : Token) (after : List Token) → rest ≡ v ∷ after → v.class ≡ 67 → AreGroupedObjects ds
      → (ts : List Token) → Spells text (printed.more_objects ds) ts rest → Ends text (λ r. r.objects ts) ds rest
  more_objects_end [] rest v after e c g ts s =
      again text (λ r. r.objects ts) [] rest 0 (λ n le. fails _ (ap (λ ts. class_of ts == 79) s ∙ ap (λ k. k == 79) (class_is e c)) (ap (λ ts. got [] ts) s))
  more_objects_end (d ∷ ds) rest v after e c g ts s =
      let inner = object_end d ds s.1 rest v after e c g s.4 (more_objects_end ds rest v after e c g.2) in
      again text (λ r. r.objects ts) (d ∷ ds) rest inner.enough (λ n le. holds _ (ap (λ k. k == 79) (class_is s.2 s.3)) (passed _ s.2 (inner.reads n le)))

  pub first_object : (d : D.InitDeclaratorData) (ds : List D.InitDeclaratorData) (ts rest : List Token) → Spells text (printed.objects (d ∷ ds)) ts rest → kind (class_of ts) ≡ 1
  first_object d ds ts rest s =
      let p = parts text (spelled.declarator d.declarator) (printed.initialization d.initialization ++ printed.more_objects ds) ts rest (three text _ _ (spelled.declarator d.declarator) (printed.initialization d.initialization) (printed.more_objects ds) s) in
      first_declarator text d.declarator ts p.between p.front

  -- what is declared behind the specifiers
  pub declared_end : (ds : List D.InitDeclaratorData) (ts rest : List Token) (v : Token) (after : List Token) → rest ≡ v ∷ after → v.class ≡ 67 → AreGroupedObjects ds
      → Spells text (printed.objects ds) ts rest → Ends text (λ r. S.declared text r ts) ds rest
  declared_end [] ts rest v after e c g s =
      record { enough = 0; reads = λ n le. holds _ (ap (λ ts. kind (class_of ts) == 15) s ∙ ap (λ k. kind k == 15) (class_is e c)) (ap (λ ts. got [] ts) s) }
  declared_end (d ∷ ds) ts rest v after e c g s =
      let inner = object_end d ds ts rest v after e c g s (more_objects_end ds rest v after e c g.2) in
      record { enough = inner.enough; reads = λ n le. fails _ (ap (λ k. k == 15) (first_object d ds ts rest s)) (inner.reads n le) }

  pub declared_closes : (ds : List D.InitDeclaratorData) (ts rest : List Token) (v : Token) (after : List Token) → rest ≡ v ∷ after → v.class ≡ 67 → Spells text (printed.objects ds) ts rest → Closes ts
  declared_closes [] ts rest v after e c s = (ap (λ ts. kind (class_of ts) == 2) s ∙ ap (λ k. kind k == 2) (class_is e c), ap (λ ts. kind (class_of ts) == 3) s ∙ ap (λ k. kind k == 3) (class_is e c))
  declared_closes (d ∷ ds) ts rest v after e c s = kind_closes _ (first_object d ds ts rest s)

  pub declaration_end : (d : D.DeclarationData) (ts rest : List Token) → IsGroupedDeclaration d → Spells text (printed.declaration d) ts rest → Ends text (λ r. S.declaration text r ts) d rest
  declaration_end d ts rest g s =
      let p = parts text (spelled.specifiers d.specifiers) (printed.objects d.declarators ++ any T.Semicolon ∷ []) ts rest (three text _ _ (spelled.specifiers d.specifiers) (printed.objects d.declarators) (any T.Semicolon ∷ []) s) in
      let o = parts text (printed.objects d.declarators) (any T.Semicolon ∷ []) p.between rest p.behind in
      let q = o.behind in
      let first = specifiers_end text d.specifiers ts p.between g.0.1 p.front (declared_closes d.declarators p.between o.between q.0 q.1 q.2 q.3 o.front) in
      let listed = declared_end d.declarators p.between o.between q.0 q.1 q.2 q.3 g.1 o.front in
      record {
        enough = first.enough + listed.enough;
        reads = λ n le. bound _ (first.reads n (omega (arith, le))) (bound _ (listed.reads n (omega (arith, le))) (passed _ q.2 (ap (λ ts. got d ts) q.4)));
      }
