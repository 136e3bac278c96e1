-- Whatever the sound answers, Directive 5.1 has a finding where two threads write an object without a lock.
use Rattle.std.proofs.Common.{◌≡◌, ◌∙◌, refl, subst, ap, inl, inr, ℕ, true, false, List, [], ◌∷◌, Some, None}
use Rattle.misra_base.specs.declared.guideline.Guideline.TheVariants.{D5_1}
use Rattle.misra_base.specs.declared.kind.Kind.TheVariants as kinds
use Rattle.c_program.specs.declared.expression.Expr.{Object}
use Rattle.c_program.specs.declared.statement.Statement.{Do}
use Rattle.c_program.specs.Syntax.{c_int, act_at, body_at}
use Rattle.c_program.specs.Values.{Static, Location}
use Rattle.c_program.specs.Control.{Run, Move, Spot, Point, entered}
use Rattle.c_program.specs.Paths.{LeadsTo, initial, by_creation, spots_of, IsPoint}
use Rattle.c_program.proofs.Members.{to_contains}
use Rattle.path_simulation.specs.Tracks.{at_entry, by_move}
use Rattle.pointer_targets.specs.Places.{Of_all}
use Rattle.pointer_targets.specs.PointsTo
use Rattle.pointer_targets.specs.Names.{IsExact}
use Rattle.pointer_targets.specs.Accesses.{writes_at, at_scalar}
use Rattle.pointer_targets.specs.Manners.{Manner, MayAccessAt}
use Rattle.static_facts.specs.Points.{IsReachable, thread_of}
use Rattle.static_facts.specs.Depths.{marked, passes, MayHold}
use Rattle.static_facts.specs.ObjectStates.{Is_unmade, Is_live, Is_joined}
use Rattle.static_facts.specs.ObjectPaths.{At, succeeds}
use Rattle.static_facts.specs.ThreadStates.{MayBe, along}
use Rattle.static_facts.specs.Order.{IsPlain, IsSettled, Ordered, in_initial, first_initial, second_initial, in_one, apart}
use Rattle.static_facts.specs.Facts.{Facts}
use Rattle.static_facts.specs.Analyses.{AreSound}
use Rattle.guideline_findings.specs.Races.{MayRace}
use Rattle.guideline_findings.specs.Findings.{Finding, own, race, Named_location}
use Rattle.litmus.specs.Pieces.{at, x, t, w, main, null}
use Rattle.litmus.specs.Guidelines.{two_writes}
use Rattle.silence_samples.specs.Samples.{static}

abbrev spot : ℕ → Spot
spot number = record { action = number; rounds = [] }

-- the thread that is made at the creation
abbrev worker : List Spot
worker = spot 2 ∷ []

abbrev at_create : Move
at_create = record { action = 2; left = Run (Do 3) ∷ Run (Do 4) ∷ [] }

abbrev creation_point : Point
creation_point = record { string = []; spot = spot 2 }

abbrev main_write : Point
main_write = record { string = []; spot = spot 3 }

abbrev worker_write : Point
worker_write = record { string = worker; spot = spot 0 }

leads : LeadsTo two_writes worker worker w
unfolding act_at
leads = by_creation [] [] main (spot 2) w (Object t) null None initial (to_contains (spot 2) (spots_of [] (body_at two_writes main)) (inl refl)) refl

main_point : IsPoint two_writes [] main_write
main_point = record { function = main; leads = initial; has = to_contains (spot 3) (spots_of [] (body_at two_writes main)) (inr (inl refl)) }

worker_point : IsPoint two_writes worker worker_write
worker_point = record { function = w; leads = leads; has = to_contains (spot 0) (spots_of [] (body_at two_writes w)) (inl refl) }

main_reachable : IsReachable two_writes [] main_write
unfolding act_at
main_reachable = record {
  function = main;
  leads = initial;
  reached = (Run (Do 3) ∷ Run (Do 4) ∷ [], record { action = 3; left = Run (Do 4) ∷ [] }, (record { control = entered two_writes main; state = 0 } ∷ [], ((at_create, (0, refl), refl, refl), (refl, refl))), (0, refl), refl);
}

worker_reachable : IsReachable two_writes worker worker_write
unfolding act_at
worker_reachable = record {
  function = w;
  leads = leads;
  reached = (entered two_writes w, record { action = 0; left = Run (Do 1) ∷ [] }, ([], (refl, refl)), (0, refl), refl);
}

-- ---- both write x

abbrev plain_write : Manner
plain_write = record { writes = true; is_atomic = false }

writes_in_main : MayAccessAt two_writes main_write (static x) plain_write
unfolding act_at
writes_in_main = record {
  access = writes_at (Object x) c_int false;
  number = 0;
  has = refl;
  as_write = refl;
  as_atomic = refl;
  region = at_scalar (record { site = Of_all x; path = [] }) (static x) refl (PointsTo.object [] [] x) (record { own = c_int; has_type = refl; is_data = refl }) refl;
}

writes_in_worker : MayAccessAt two_writes worker_write (static x) plain_write
unfolding act_at
writes_in_worker = record {
  access = writes_at (Object x) c_int false;
  number = 0;
  has = refl;
  as_write = refl;
  as_atomic = refl;
  region = at_scalar (record { site = Of_all x; path = [] }) (static x) refl (PointsTo.object worker [] x) (record { own = c_int; has_type = refl; is_data = refl }) refl;
}

module _ (facts : Facts) (sound : AreSound two_writes facts) where
  -- before the write in main no mutex is surely held
  held_by_none : (mutex : Location) → MayHold two_writes facts.names mutex [] main_write 0
  unfolding act_at
  held_by_none mutex = (
    None,
    record {
      function = main;
      leads = initial;
      control = Run (Do 3) ∷ Run (Do 4) ∷ [];
      move = record { action = 3; left = Run (Do 4) ∷ [] };
      comes = by_move (entered two_writes main) 0 at_create (marked 0 None) (marked 0 None) (at_entry (marked 0 None) refl) refl (passes 0 None refl refl);
      offers = (0, refl);
      here = refl;
    },
  )

  -- ---- no order: the created thread may be live there

  may_be_live : (object : Location) → IsExact facts.names creation_point 0 object → MayBe two_writes facts.names object [] main_write Is_live
  unfolding act_at
  may_be_live object e = along main_write Is_live tt (
    None,
    record {
      function = main;
      leads = initial;
      control = Run (Do 3) ∷ Run (Do 4) ∷ [];
      move = record { action = 3; left = Run (Do 4) ∷ [] };
      comes = by_move (entered two_writes main) 0 at_create (At Is_unmade None) (At Is_live None) (at_entry (At Is_unmade None) (inl (refl, refl))) refl (succeeds Is_unmade None refl e);
      offers = (0, refl);
      here = refl;
    },
  )

  same_creation : (creation : Point) → thread_of creation ≡ worker → creation ≡ creation_point
  same_creation creation e = go creation.spot creation.string (head creation.spot creation.string e) (tail creation.spot creation.string e)
    where
      head : (s : Spot) (l : List Spot) → s ∷ l ≡ worker → s ≡ spot 2
      head s l e = cc

      tail : (s : Spot) (l : List Spot) → s ∷ l ≡ worker → l ≡ []
      tail s l e = cc

      go : (s : Spot) (l : List Spot) → s ≡ spot 2 → l ≡ [] → record { string = l; spot = s } ≡ creation_point
      go s l a b = ap (λ (m : List Spot). record { string = m; spot = s }) b ∙ ap (λ (r : Spot). record { string = []; spot = r }) a

  not_settled : (Is_live ≡ Is_unmade) → ⊥
  not_settled e = absurd (cc)

  not_joined : (Is_live ≡ Is_joined) → ⊥
  not_joined e = absurd (cc)

  unsettled : (creation : Point) (object : Location) → IsPlain two_writes facts.names creation object → thread_of creation ≡ worker → IsSettled two_writes facts.names object main_write → ⊥
  unsettled creation object plain e settled = elim (settled Is_live (may_be_live object (subst (λ (p : Point). IsExact facts.names p 0 object) (same_creation creation e) plain.exact))) [
    | inl n ↦ not_settled n
    | inr n ↦ not_joined n
  ]

  not_ordered : (s r : List Spot) (p q : Point) → s ≡ [] → r ≡ worker → p ≡ main_write → Ordered two_writes facts.names s p r q → ⊥
  not_ordered _ _ _ _ e f g (in_initial a b) = absurd (cc)
  not_ordered _ _ _ _ e f g (first_initial creation object a b plain settled) = unsettled creation object plain f (subst (IsSettled two_writes facts.names object) g settled)
  not_ordered _ _ _ _ e f g (second_initial creation object a b plain settled) = absurd (cc)
  not_ordered _ _ _ _ e f g (in_one creation object a b plain) = absurd (cc)
  not_ordered _ _ _ _ e f g (apart one other u v a b plain also settled too) = absurd (cc)

  may_race : MayRace two_writes facts [] main_write (static x) worker worker_write
  may_race = record {
    is_region = record { cell = record { root = Static x; path = [] }; is_data = refl; here = refl };
    reachable = main_reachable;
    other_reachable = worker_reachable;
    manner = plain_write;
    accesses = sound.accesses [] main_write (static x) plain_write main_point writes_in_main;
    other_manner = plain_write;
    other_accesses = sound.accesses worker worker_write (static x) plain_write worker_point writes_in_worker;
    conflict = (refl, refl);
    unordered = λ e. not_ordered [] worker main_write worker_write refl refl refl (sound.ordered [] worker main_write worker_write main_point worker_point e);
    unlocked = λ share. share.at_first (held_by_none share.mutex);
  }

  pub has_finding : Finding two_writes facts D5_1 (at 5 50) (Named_location (static x)) kinds.Race (Some (at 4 27))
  unfolding act_at
  has_finding = own _ _ _ _ (race [] worker main_write worker_write (static x) may_race)
