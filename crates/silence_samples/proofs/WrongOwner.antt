-- Whatever the sound answers, Rule 22.17 has a finding where a thread unlocks what `main` owns.
use Rattle.std.proofs.Common.{refl, inl, inr, ℕ, List, [], ◌∷◌, None}
use Rattle.misra_base.specs.declared.guideline.Guideline.TheVariants.{R22_17}
use Rattle.misra_base.specs.declared.kind.Kind.TheVariants as kinds
use Rattle.c_program.specs.declared.expression.Expr.{Object}
use Rattle.c_program.specs.declared.action.LibraryCall.TheVariants.{MutexUnlock}
use Rattle.c_program.specs.declared.statement.Statement.{Do}
use Rattle.c_program.specs.Syntax.{act_at, body_at}
use Rattle.c_program.specs.Values.{Static}
use Rattle.c_program.specs.Control.{Run, Spot, Point, entered}
use Rattle.c_program.specs.Requests.{mutex_type}
use Rattle.c_program.specs.Paths.{LeadsTo, initial, by_creation, spots_of, IsPoint}
use Rattle.c_program.proofs.Members.{to_contains}
use Rattle.path_simulation.specs.Tracks.{at_entry}
use Rattle.pointer_targets.specs.Places.{Of_all}
use Rattle.pointer_targets.specs.PointsTo
use Rattle.pointer_targets.specs.Candidates.{MayName}
use Rattle.static_facts.specs.Points.{IsReachable}
use Rattle.static_facts.specs.Depths.{marked, MayHold}
use Rattle.static_facts.specs.Facts.{Facts}
use Rattle.static_facts.specs.Analyses.{AreSound}
use Rattle.guideline_findings.specs.Findings.{Finding, own, given_up, Named_location}
use Rattle.litmus.specs.Pieces.{at, m, t, w, null}
use Rattle.silence_samples.specs.Samples.{static, unlock_by_another}

abbrev spot : ℕ → Spot
spot number = record { action = number; rounds = [] }

-- the thread that is made at the creation
abbrev worker : List Spot
worker = spot 4 ∷ []

abbrev unlock_point : Point
unlock_point = record { string = worker; spot = spot 0 }

leads : LeadsTo unlock_by_another worker worker w
unfolding act_at
leads = by_creation [] [] 1 (spot 4) w (Object t) null None initial (to_contains (spot 4) (spots_of [] (body_at unlock_by_another 1)) (inr (inr (inl refl)))) refl

is_point : IsPoint unlock_by_another worker unlock_point
is_point = record { function = w; leads = leads; has = to_contains (spot 0) (spots_of [] (body_at unlock_by_another w)) (inl refl) }

reachable : IsReachable unlock_by_another worker unlock_point
unfolding act_at
reachable = record { function = w; leads = leads; reached = (entered unlock_by_another w, record { action = 0; left = Run (Do 1) ∷ [] }, ([], (refl, refl)), (0, refl), refl) }

names_it : MayName unlock_by_another unlock_point 0 (static m)
unfolding act_at
names_it = record {
  place = record { site = Of_all m; path = [] };
  means = record { expression = Object m; is = record { call = MutexUnlock (Object m); into = None; is_call = refl; has = refl }; names = PointsTo.object worker [] m };
  no_array = record { own = mutex_type; has_type = refl; no_sizes = refl };
  at = refl;
}

module _ (facts : Facts) (sound : AreSound unlock_by_another facts) where
  -- the thread begins without the mutex
  may_be_free : MayHold unlock_by_another facts.names (static m) worker unlock_point 0
  may_be_free = (
    None,
    record {
      function = w;
      leads = leads;
      control = entered unlock_by_another w;
      move = record { action = 0; left = Run (Do 1) ∷ [] };
      comes = at_entry (marked 0 None) refl;
      offers = (0, refl);
      here = refl;
    },
  )

  pub has_finding : Finding unlock_by_another facts R22_17 (at 4 33) (Named_location (static m)) kinds.Unlock None
  unfolding act_at
  has_finding = own _ _ _ _ (given_up worker unlock_point (static m) reachable (record {
    argument = 0;
    gives = refl;
    candidate = record {
      named = sound.names.may_name worker unlock_point 0 (static m) is_point names_it;
      cell = record { root = Static m; path = [] };
      here = refl;
      of_sort = refl;
    };
    may_be_free = may_be_free;
  }))
