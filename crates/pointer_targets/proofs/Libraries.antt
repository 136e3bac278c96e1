-- What holds a library object, and where it lies: of the program alone.
use Rattle.std.proofs.Common.{◌≡◌, refl, sym, subst, ap, ◌∙◌, Bool, true, false, not, cond, ◌&&◌, ◌||◌, ℕ, zero, suc, List, [], ◌∷◌, Option, Some, None, eqb-true}
use Rattle.std.specs.List.{list_any, list_all}
use Rattle.std.specs.Prelude.{option_map, option_and_then, unwrap_or, slice_get, nat_lt}
use Rattle.c_program.specs.declared.types.Base.{Base}
use Rattle.c_program.specs.declared.types.Base.TheVariants as base
use Rattle.c_program.specs.declared.types.CType.{CType}
use Rattle.c_program.specs.declared.types.Member.{Member as MemberOf}
use Rattle.c_program.specs.declared.types.Structure.{Structure as StructureOf}
use Rattle.c_program.specs.declared.program.Program.{Program}
use Rattle.c_program.specs.Types.{same_bools, same_numbers, same_base, same_pointers, same_type, part_in, part_of_base, member_type, const_too, made_const, type_at, declared_type, base_holds, holds_library}
use Rattle.c_program.specs.Values.{Root, Static, Of_thread, Of_frame, Cell, Location, location_of, step_in, steps_of}
use Rattle.c_program.specs.WellFormed.{IsWellFormed, structures_marked, member_holds, is_same_bool, member_is_before}
use Rattle.c_program.proofs.Cells.{and_true}
use Rattle.pointer_targets.specs.LibraryObjects.{is_of}
use Rattle.pointer_targets.specs.Laws.{OneCellIsMeant}

pub same_some : {A : Type 0} (a b : A) → Some a ≡ Some b → a ≡ b
same_some a b e = cc

is_none : (ps : List Bool) → same_bools ps [] ≡ true → ps ≡ []
is_none [] e = refl
is_none (p ∷ ps) e = absurd (cc)

module _ (program : Program) (well : IsWellFormed program) where
  -- ---- structures are marked

  same_bool_is : (a b : Bool) → is_same_bool program a b ≡ true → b ≡ true → a ≡ true
  same_bool_is true b e f = refl
  same_bool_is false true e f = absurd (cc)
  same_bool_is false false e f = absurd (cc)

  marked : (n : ℕ) (structures : List StructureOf) (s : ℕ) (structure : StructureOf) → structures_marked program n structures ≡ true → slice_get structures s ≡ Some structure
      → is_same_bool program structure.holds_library (list_any (member_holds program) structure.members) ≡ true
  marked n [] s structure e q = absurd (cc)
  marked n (own ∷ structures) zero structure e q = subst (λ (x : StructureOf). is_same_bool program x.holds_library (list_any (member_holds program) x.members) ≡ true) (same_some own structure q)
      (and_true (list_all (member_is_before program n) own.members) _ (and_true _ _ e).0).1
  marked n (own ∷ structures) (suc s) structure e q = marked (suc n) structures s structure (and_true _ _ e).1 q

  or_here : (a b : Bool) → a ≡ true → (a || b) ≡ true
  or_here true b e = refl
  or_here false b e = absurd (cc)

  or_there : (a b : Bool) → b ≡ true → (a || b) ≡ true
  or_there true b e = refl
  or_there false b e = e

  pub any_at : {A : Type 0} (test : A → Bool) (xs : List A) (n : ℕ) (x : A) → slice_get xs n ≡ Some x → test x ≡ true → list_any test xs ≡ true
  any_at test [] n x q e = absurd (cc)
  any_at test (y ∷ ys) zero x q e = or_here (test y) _ (subst (λ z. test z ≡ true) (sym (same_some y x q)) e)
  any_at test (y ∷ ys) (suc n) x q e = or_there (test y) _ (any_at test ys n x q e)

  -- ---- the whole holds what its part holds

  no_pointer : (ps : List Bool) → same_bools ps [] ≡ true → list_any (λ (p : Bool). true) ps ≡ false
  no_pointer [] e = refl
  no_pointer (p ∷ ps) e = absurd (cc)

  member_does : (member : MemberOf) → holds_library program member.c_type ≡ true → member_holds program member ≡ true
  member_does member h = let d = and_true _ _ h in both (list_any (λ (p : Bool). true) member.c_type.pointers) _ (no_pointer member.c_type.pointers d.0) d.1
    where
      both : (a b : Bool) → a ≡ false → b ≡ true → (not a && b) ≡ true
      both false b e f = f
      both true b e f = absurd (cc)

  const_down : (c : Bool) (t : CType) → holds_library program (const_too c t) ≡ true → holds_library program t ≡ true
  const_down false t h = h
  const_down true t h = go t.pointers h
    where
      go : (ps : List Bool) → holds_library program (made_const t ps) ≡ true → holds_library program t ≡ true
      go [] h = h
      go (p ∷ ps) h = absurd (cc)

  member_up : (s m : ℕ) (t : CType) → member_type program s m ≡ Some t → holds_library program t ≡ true → base_holds program (base.Structure s) ≡ true
  member_up s m t q h = go (slice_get program.structures s) refl q
    where
      at_member : (structure : StructureOf) → slice_get program.structures s ≡ Some structure → (o : Option MemberOf) → slice_get structure.members m ≡ o → option_map (λ (x : MemberOf). x.c_type) o ≡ Some t
          → structure.holds_library ≡ true
      at_member structure p None e q = absurd (cc)
      at_member structure p (Some member) e q = same_bool_is structure.holds_library _ (marked 0 program.structures s structure well.structures p)
          (any_at (member_holds program) structure.members m member e (member_does member (subst (λ (x : CType). holds_library program x ≡ true) (sym (same_some member.c_type t q)) h)))

      go : (o : Option StructureOf) → slice_get program.structures s ≡ o → option_and_then (λ (x : StructureOf). option_map (λ (member : MemberOf). member.c_type) (slice_get x.members m)) o ≡ Some t
          → unwrap_or (option_map (λ (x : StructureOf). x.holds_library) o) false ≡ true
      go None p q = absurd (cc)
      go (Some structure) p q = at_member structure p (slice_get structure.members m) refl q

  base_up : (c : Bool) (b : Base) (k : ℕ) (t : CType) → part_of_base program c b k ≡ Some t → holds_library program t ≡ true → base_holds program b ≡ true
  base_up c (base.Structure s) k t q h = go (member_type program s k) refl q
    where
      go : (o : Option CType) → member_type program s k ≡ o → option_map (const_too c) o ≡ Some t → base_holds program (base.Structure s) ≡ true
      go None e q = absurd (cc)
      go (Some own) e q = member_up s k own e (const_down c own (subst (λ (x : CType). holds_library program x ≡ true) (sym (same_some (const_too c own) t q)) h))
  base_up c _ k t q h = absurd (cc)

  part_up : (whole : CType) (ps : List Bool) (ns : List ℕ) (k : ℕ) (t : CType) → whole.pointers ≡ ps → part_in program whole ps ns k ≡ Some t → holds_library program t ≡ true → holds_library program whole ≡ true
  part_up whole ps (n ∷ ns) k t p q h = go (nat_lt k n) q
    where
      go : (b : Bool) → cond b (Some (record whole { sizes = ns })) None ≡ Some t → holds_library program whole ≡ true
      go true q = subst (λ (x : CType). holds_library program x ≡ true) (sym (same_some (record whole { sizes = ns }) t q)) h
      go false q = absurd (cc)
  part_up whole [] [] k t p q h = ap (λ l. same_bools l [] && base_holds program whole.base) p ∙ base_up whole.is_const whole.base k t q h
  part_up whole (x ∷ ps) [] k t p q h = absurd (cc)

  -- the type of what a part is of
  pub part_of : (whole : Option CType) (k : ℕ) (path : List ℕ) (t : CType) → type_at program whole (k ∷ path) ≡ Some t → holds_library program t ≡ true
      → (own : CType) × ((type_at program whole path ≡ Some own) × (holds_library program own ≡ true))
  part_of whole k path t q h = go (type_at program whole path) q
    where
      go : (o : Option CType) → option_and_then (λ (own : CType). part_in program own own.pointers own.sizes k) o ≡ Some t → (own : CType) × ((o ≡ Some own) × (holds_library program own ≡ true))
      go None q = absurd (cc)
      go (Some own) q = (own, (refl, part_up own own.pointers own.sizes k t refl q h))

  pub whole_holds : (whole : Option CType) (path : List ℕ) (t : CType) → type_at program whole path ≡ Some t → holds_library program t ≡ true
      → (own : CType) × ((whole ≡ Some own) × (holds_library program own ≡ true))
  whole_holds whole [] t q h = (t, (q, h))
  whole_holds whole (k ∷ path) t q h = let p = part_of whole k path t q h in whole_holds whole path p.0 p.1.0 p.1.1

  -- ---- each part that holds a library object is a location of its own

  apart : (own : CType) (k : ℕ) → holds_library program own ≡ true → step_in program (Some own) k ≡ Some k
  apart own k h = go (same_numbers own.sizes []) (holds_library program own) h
    where
      go : (a b : Bool) → b ≡ true → cond (a || b) (Some k) None ≡ Some k
      go true b e = refl
      go false true e = refl
      go false false e = absurd (cc)

  path_told : (whole : Option CType) (path other : List ℕ) (t u : CType) → type_at program whole path ≡ Some t → type_at program whole other ≡ Some u → holds_library program t ≡ true → holds_library program u ≡ true
      → steps_of program whole path ≡ steps_of program whole other → path ≡ other
  path_told whole [] [] t u p q h g e = refl
  path_told whole [] (k ∷ other) t u p q h g e = absurd (cc)
  path_told whole (k ∷ path) [] t u p q h g e = absurd (cc)
  path_told whole (k ∷ path) (j ∷ other) t u p q h g e =
      let a = part_of whole k path t p h in
      let b = part_of whole j other u q g in
      let k_is : step_in program (type_at program whole path) k ≡ Some k = ap (λ o. step_in program o k) a.1.0 ∙ apart a.0 k a.1.1 in
      let j_is : step_in program (type_at program whole other) j ≡ Some j = ap (λ o. step_in program o j) b.1.0 ∙ apart b.0 j b.1.1 in
      ap (λ n. n ∷ path) (same_some k j (sym k_is ∙ heads _ _ _ _ e ∙ j_is)) ∙ ap (λ l. j ∷ l) (path_told whole path other a.0 b.0 a.1.0 b.1.0 a.1.1 b.1.1 (tails _ _ _ _ e))
    where
      heads : (x y : Option ℕ) (xs ys : List (Option ℕ)) → x ∷ xs ≡ y ∷ ys → x ≡ y
      heads x y xs ys e = cc

      tails : (x y : Option ℕ) (xs ys : List (Option ℕ)) → x ∷ xs ≡ y ∷ ys → xs ≡ ys
      tails x y xs ys e = cc

  -- ---- types

  same_base_holds : (a b : Base) → same_base a b ≡ true → base_holds program a ≡ true → base_holds program b ≡ true
  same_base_holds base.Mutex base.Mutex e h = refl
  same_base_holds base.Condition base.Condition e h = refl
  same_base_holds base.Thread base.Thread e h = refl
  same_base_holds base.Key base.Key e h = refl
  same_base_holds (base.Structure s) (base.Structure t) e h = subst (λ n. base_holds program (base.Structure n) ≡ true) (eqb-true s t e) h
  same_base_holds base.Void b e h = absurd (cc)
  same_base_holds (base.Integer t) b e h = absurd (cc)
  same_base_holds (base.Atomic t) b e h = absurd (cc)
  same_base_holds _ _ e h = absurd (cc)

  same_none : (a b : Bool) (ps qs : List Bool) → same_pointers a b ps qs ≡ true → same_bools ps [] ≡ true → same_bools qs [] ≡ true
  same_none a b [] [] e h = refl
  same_none a b [] (q ∷ qs) e h = absurd (cc)
  same_none a b (p ∷ ps) qs e h = absurd (cc)

  pub same_type_holds : (t own : CType) → same_type t own ≡ true → holds_library program t ≡ true → holds_library program own ≡ true
  same_type_holds t own e h = let d = and_true (same_base t.base own.base && same_pointers t.is_const own.is_const t.pointers own.pointers) (same_numbers t.sizes own.sizes) e in
      let f = and_true (same_base t.base own.base) _ d.0 in let g = and_true (same_bools t.pointers []) _ h in
      both _ _ (same_none t.is_const own.is_const t.pointers own.pointers f.1 g.0) (same_base_holds t.base own.base f.0 g.1)
    where
      both : (a b : Bool) → a ≡ true → b ≡ true → (a && b) ≡ true
      both true b e f = f
      both false b e f = absurd (cc)

  has_own : (t : CType) (o : Option CType) → unwrap_or (option_map (same_type t) o) false ≡ true → holds_library program t ≡ true → (own : CType) × ((o ≡ Some own) × (holds_library program own ≡ true))
  has_own t None e h = absurd (cc)
  has_own t (Some own) e h = (own, (refl, same_type_holds t own e h))

  pub one_cell : OneCellIsMeant program
  one_cell t h first second location x y e f = go first.path second.path first.root second.root x y e f
    where
      cell_at : Root → List ℕ → Cell
      cell_at r l = record { root = r; path = l }

      place_at : ℕ → List (Option ℕ) → Location
      place_at n s = record { object = n; steps = s }

      objects : (n m : ℕ) (s r : List (Option ℕ)) → Some (place_at n s) ≡ Some location → Some (place_at m r) ≡ Some location → (n ≡ m) × (s ≡ r)
      objects n m s r e f = let g : place_at n s ≡ place_at m r = same_some _ location e ∙ sym (same_some _ location f) in (ap (λ (l : Location). l.object) g, ap (λ (l : Location). l.steps) g)

      go : (p q : List ℕ) (a b : Root) → is_of program t (record { root = a; path = p }) ≡ true → is_of program t (record { root = b; path = q }) ≡ true → location_of program (record { root = a; path = p }) ≡ Some location
          → location_of program (record { root = b; path = q }) ≡ Some location → cell_at a p ≡ cell_at b q
      go p q (Static n) (Static m) x y e f =
          let o = objects n m _ _ e f in
          let k = has_own t _ x h in
          let l = has_own t _ (subst (λ i. is_of program t (record { root = Static i; path = q }) ≡ true) (sym o.0) y) h in
          let s : steps_of program (declared_type program n) p ≡ steps_of program (declared_type program n) q = o.1 ∙ ap (λ i. steps_of program (declared_type program i) q) (sym o.0) in
          ap (λ l. cell_at (Static n) l) (path_told (declared_type program n) p q k.0 l.0 k.1.0 l.1.0 k.1.1 l.1.1 s) ∙ ap (λ i. cell_at (Static i) q) o.0
      go p q (Static n) (Of_thread u m) x y e f = absurd (cc)
      go p q (Static n) (Of_frame u m) x y e f = absurd (cc)
      go p q (Of_thread u n) b x y e f = absurd (cc)
      go p q (Of_frame u n) b x y e f = absurd (cc)
