-- An argument that leads to an object of a run has it among its candidates.
use Rattle.std.proofs.Common.{◌≡◌, refl, subst, Bool, true, false, cond, ◌&&◌, ℕ, List, Option, Some, None}
use Rattle.std.specs.Prelude.{slice_get, option_and_then}
use Rattle.c_program.specs.declared.expression.Expr.{Expr}
use Rattle.c_program.specs.declared.action.Local.{Local}
use Rattle.c_program.specs.declared.action.LibraryCall.{LibraryCall}
use Rattle.c_program.specs.declared.action.Act.{Act}
use Rattle.c_program.specs.declared.action.Act.TheVariants as act
use Rattle.c_program.specs.declared.program.Program.{Program}
use Rattle.c_program.specs.Syntax.{act_at}
use Rattle.c_program.specs.Values.{Cell, Value, Number, Address, Location, location_of}
use Rattle.c_program.specs.Control.{Control, Move, Point}
use Rattle.c_program.specs.Evaluation.{Here, eval, place_at, object_at_type}
use Rattle.c_program.specs.State.{Running, Frame, here}
use Rattle.c_program.specs.Faults.{Sort}
use Rattle.c_program.specs.Step.{Choice}
use Rattle.c_program.specs.Runs.{IsGoodRun, state_after}
use Rattle.c_program.specs.Counters.{arguments_of}
use Rattle.c_program.specs.Paths.{Offers, stands_at}
use Rattle.static_facts.specs.Facts.{Facts}
use Rattle.guideline_findings.proofs.Given.{Premises}
use Rattle.pointer_targets.specs.LibraryObjects.{type_of_sort, is_of_sort, LeadsToObject}
use Rattle.static_facts.specs.Candidates.{IsCandidate}

-- an argument of the call leads to the object
pub record Leads (here : Here) (action : Act) (argument : ℕ) (sort : Sort) (object : Cell) : Type 0 where
  pub call : LibraryCall
  pub into : Option Local
  pub expression : Expr
  pub is_call : action ≡ act.Library call into
  pub has : slice_get (arguments_of call) argument ≡ Some expression
  pub leads : place_at here (type_of_sort sort) expression ≡ Some object

pub place_sort : (here : Here) (sort : Sort) (e : Expr) (c : Cell) → place_at here (type_of_sort sort) e ≡ Some c → is_of_sort here.program sort c ≡ true
place_sort here sort e c p = go (eval here e) p
  where
    same_place : (a b : Cell) → Some a ≡ Some b → a ≡ b
    same_place a b q = cc

    at : (cell : Cell) (a b : Bool) → cond (a && b) (Some cell) None ≡ Some c → (b ≡ true) × (cell ≡ c)
    at cell true true r = (refl, same_place cell c r)
    at cell true false r = absurd (cc)
    at cell false b r = absurd (cc)

    go : (o : Option Value) → option_and_then (object_at_type here (type_of_sort sort)) o ≡ Some c → is_of_sort here.program sort c ≡ true
    go None q = absurd (cc)
    go (Some (Number z)) q = absurd (cc)
    go (Some (Address cell)) q = let f = at cell (here.is_alive cell.root) (is_of_sort here.program sort cell) q in
        subst (λ (x : Cell). is_of_sort here.program sort x ≡ true) f.1 f.0

pub leads_to : (program : Program) (run : List Choice) (thread : ℕ) (control : Control) (frames : List Frame) (move : Move) (argument : ℕ) (sort : Sort) (object : Cell)
    → ((state_after program run).thread thread).stand ≡ Running control frames None → Offers control move
    → Leads (here program (state_after program run) thread) (act_at program move.action) argument sort object
    → LeadsToObject program (type_of_sort sort) run thread (stands_at ((state_after program run).thread thread).origin control move) argument object
leads_to program run thread control frames move argument sort object s o l = record {
  control = control;
  frames = frames;
  move = move;
  call = l.call;
  into = l.into;
  expression = l.expression;
  stands = s;
  offers = o;
  here_is = refl;
  is_call = l.is_call;
  has = l.has;
  leads = l.leads;
}

-- the object has a location, and that is a candidate
pub record Located (program : Program) (facts : Facts) (point : Point) (argument : ℕ) (sort : Sort) (object : Cell) : Type 0 where
  pub location : Location
  pub here : location_of program object ≡ Some location
  pub of_sort : is_of_sort program sort object ≡ true
  pub candidate : IsCandidate program facts.names point argument sort location

module _ (program : Program) (facts : Facts) (premises : Premises program facts) where
  pub located : (run : List Choice) → IsGoodRun program run → (thread : ℕ) (point : Point) (argument : ℕ) (sort : Sort) (object : Cell)
      → LeadsToObject program (type_of_sort sort) run thread point argument object → Located program facts point argument sort object
  located run good thread point argument sort object l = let s = premises.static run thread point sort argument object good l in
      let q = place_sort (here program (state_after program run) thread) sort l.expression object l.leads in record {
        location = s.0;
        here = s.1;
        of_sort = q;
        candidate = record { named = premises.names.may_name run thread point sort argument object s.0 good l s.1; cell = object; here = s.1; of_sort = q };
      }

  pub located_at : (run : List Choice) → IsGoodRun program run → (thread : ℕ) (control : Control) (frames : List Frame) (move : Move) (argument : ℕ) (sort : Sort) (object : Cell)
      → ((state_after program run).thread thread).stand ≡ Running control frames None → Offers control move
      → Leads (here program (state_after program run) thread) (act_at program move.action) argument sort object
      → Located program facts (stands_at ((state_after program run).thread thread).origin control move) argument sort object
  located_at run good thread control frames move argument sort object s o l =
      located run good thread (stands_at ((state_after program run).thread thread).origin control move) argument sort object (leads_to program run thread control frames move argument sort object s o l)
