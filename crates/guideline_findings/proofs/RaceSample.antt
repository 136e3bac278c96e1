-- A finding of a race in a small program, from facts that are right for it.
use Rattle.std.proofs.Common.{refl, ◌==◌, ◌&&◌, true, false, not, ℕ, List, [], ◌∷◌, Some, None, inl}
use Rattle.std.specs.Prelude.{pos}
use Rattle.c_program.specs.declared.types.Base.TheVariants.{Thread}
use Rattle.c_program.specs.declared.expression.Expr.{Constant, Object}
use Rattle.c_program.specs.declared.action.Act.TheVariants.{Library, Write}
use Rattle.c_program.specs.declared.action.LibraryCall.TheVariants.{ThreadCreate}
use Rattle.c_program.specs.declared.statement.Statement.{Do}
use Rattle.misra_base.specs.declared.guideline.Guideline.TheVariants.{D5_1}
use Rattle.c_program.specs.declared.program.Program.{Program}
use Rattle.c_program.specs.Syntax.{c_int, act_at, body_at}
use Rattle.c_program.specs.Types.{plain_type}
use Rattle.c_program.specs.Values.{Static, Location}
use Rattle.c_program.specs.Control.{Run, Move, Spot, Point, entered}
use Rattle.c_program.specs.Paths.{LeadsTo, initial, by_creation, spots_of}
use Rattle.c_program.proofs.Build.{action, return_0, static_object, argument, function, block2, block3}
use Rattle.c_program.proofs.Members.{to_contains}
use Rattle.path_simulation.specs.Tracks.{at_entry, by_move}
use Rattle.static_facts.specs.Depths.{marked, passes, MayHold}
use Rattle.static_facts.specs.Facts.{Facts}
use Rattle.guideline_findings.specs.Races.{MayRace}
use Rattle.guideline_findings.specs.Text.{place_of}
use Rattle.guideline_findings.specs.Findings.{Finding, own, race, Named_location}
use Rattle.misra_base.specs.declared.kind.Kind.TheVariants as kinds
use Rattle.static_facts.specs.Points.{IsReachable}

-- thrd_t t; int x; int w(void *arg) { x = 2; return 0; } int main(void) { thrd_create(&t, w, NULL); x = 1; return 0; }
abbrev racer : Program
racer = record {
  structures = [];
  objects = static_object (plain_type Thread) ∷ static_object c_int ∷ argument ∷ [];
  functions = function [] (block3 (Do 0) (Do 1) (Do 2)) ∷ function (2 ∷ []) (block2 (Do 3) (Do 4)) ∷ [];
  actions = action (Library (ThreadCreate (Object 0) 1 (Constant (pos 0))) None)
      ∷ action (Write (Object 1) c_int (Constant (pos 1))) ∷ return_0
      ∷ action (Write (Object 1) c_int (Constant (pos 2))) ∷ return_0 ∷ [];
  main = 0;
}

abbrev spot : ℕ → Spot
spot number = record { action = number; rounds = [] }

-- the creation is action 0, and the two writes of x, object 1, are actions 1 and 3
abbrev facts : Facts
facts = record {
  names = record { may_name = λ point argument location. (point.spot.action == 0) && (location.object == 0); is_exact = λ point argument location. (point.spot.action == 0) && (location.object == 0) };
  accesses = λ point region manner. manner.writes && (not manner.is_atomic && (region.object == 1));
  ordered = λ s p t q. false;
  thread_may_be = λ thread point object state. true;
  plain_object = λ thread. None;
  life_may_be = λ thread point sort location state. false;
}

abbrev worker : List Spot
worker = spot 0 ∷ []

abbrev x : Location
x = record { object = 1; steps = [] }

abbrev at_create : Move
at_create = record { action = 0; left = Run (Do 1) ∷ Run (Do 2) ∷ [] }

abbrev main_write : Point
main_write = record { string = []; spot = spot 1 }

abbrev worker_write : Point
worker_write = record { string = worker; spot = spot 3 }

leads : LeadsTo racer worker worker 1
unfolding act_at
leads = by_creation [] [] 0 (spot 0) 1 (Object 0) (Constant (pos 0)) None initial (to_contains (spot 0) (spots_of [] (body_at racer 0)) (inl refl)) refl

main_reachable : IsReachable racer [] main_write
unfolding act_at
main_reachable = record {
  function = 0;
  leads = initial;
  reached = (Run (Do 1) ∷ Run (Do 2) ∷ [], record { action = 1; left = Run (Do 2) ∷ [] }, (record { control = entered racer 0; state = 0 } ∷ [], ((at_create, (0, refl), refl, refl), (refl, refl))), (0, refl), refl);
}

worker_reachable : IsReachable racer worker worker_write
unfolding act_at
worker_reachable = record {
  function = 1;
  leads = leads;
  reached = (entered racer 1, record { action = 3; left = Run (Do 4) ∷ [] }, ([], (refl, refl)), (0, refl), refl);
}

-- before the write in main no mutex is surely held
held_by_none : (mutex : Location) → MayHold racer facts.names mutex [] main_write 0
unfolding act_at
held_by_none mutex = (
  None,
  record {
    function = 0;
    leads = initial;
    control = Run (Do 1) ∷ Run (Do 2) ∷ [];
    move = record { action = 1; left = Run (Do 2) ∷ [] };
    comes = by_move (entered racer 0) 0 at_create (marked 0 None) (marked 0 None) (at_entry (marked 0 None) refl) refl (passes 0 None refl refl);
    offers = (0, refl);
    here = refl;
  },
)

may_race : MayRace racer facts [] main_write x worker worker_write
unfolding act_at
may_race = record {
  is_region = record { cell = record { root = Static 1; path = [] }; is_data = refl; here = refl };
  reachable = main_reachable;
  other_reachable = worker_reachable;
  manner = record { writes = true; is_atomic = false };
  accesses = refl;
  other_manner = record { writes = true; is_atomic = false };
  other_accesses = refl;
  conflict = (refl, refl);
  unordered = λ e. cc;
  unlocked = λ share. share.at_first (held_by_none share.mutex);
}

pub has_finding : Finding racer facts D5_1 (place_of racer 1) (Named_location x) kinds.Race (Some (place_of racer 3))
has_finding = own _ _ _ _ (race [] worker main_write worker_write x may_race)
