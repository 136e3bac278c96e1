-- Each typed action asks for what fits, or has a cause.
use Rattle.std.proofs.Common.{◌≡◌, true, ℕ, ℤ, List, [], Some, None}
use Rattle.c_program.specs.declared.types.CType.{CType}
use Rattle.c_program.specs.declared.types.Base.TheVariants as base
use Rattle.c_program.specs.declared.types.Integer.TheVariants.{Int}
use Rattle.c_program.specs.Values.{Cell, Number}
use Rattle.c_program.specs.Evaluation.{Here}
use Rattle.c_program.specs.Requests.{Touches, Turn, Leaves}
use Rattle.c_program.specs.Typing.{A_number}
use Rattle.c_program.proofs.Cells.{and_true}
use Rattle.type_safety.specs.Fitting.{MemoryFits}
use Rattle.type_safety.proofs.Judging.{AskFits, Judged, none_judged, one_judged, asks_judged, not_asked}
use Rattle.type_safety.proofs.Acting.{into_fits}
use Rattle.c_program.specs.declared.action.AtomicOperation.TheVariants as atomic
use Rattle.c_program.specs.declared.action.LibraryCall.TheVariants as lib
use Rattle.c_program.specs.WellFormed.{starts_with_timespec}
use Rattle.c_program.specs.Requests.{success}
use Rattle.type_safety.proofs.Acts.{plain_good, turns_good, bare_good}
use Rattle.c_program.specs.declared.action.Act.{Act}
use Rattle.c_program.specs.declared.action.Act.TheVariants as act
use Rattle.c_program.specs.Requests.{asked, retakes}
use Rattle.c_program.specs.Typing.{act_is_typed}
use Rattle.type_safety.specs.ActionCauses.{ActFails}
use Rattle.type_safety.proofs.Acts.{read_good, write_good, update_good, assign_good, copy_good, unless_good, fill_good, call_good, external_good, return_good, evaluate_good, branch_good, switch_good}
use Rattle.type_safety.proofs.Calling.{library_good}

module _ (here : Here) (timed : starts_with_timespec here.program here.program.structures ≡ true) (memory : MemoryFits here.program here.memory) (result : CType) where
  pub action_good : (action : Act) (pair : ℕ) (values : List ℤ) → act_is_typed here.program result action ≡ true → Judged (ActFails here action) (AskFits here.program result) (asked here action pair values)
  action_good (act.Read e t local) pair values y = let p = and_true _ _ y in read_good here memory result e t local values p.0 p.1
  action_good (act.Write e t v) pair values y = let p = and_true _ _ y in write_good here memory result e t v values p.0 p.1
  action_good (act.Update e t op u v) pair values y = let p = and_true _ _ y in update_good here memory result e t op u v values (and_true _ _ p.0).0 p.1
  action_good (act.Assign local e) pair values y = assign_good here memory result local e values y
  action_good (act.Declare object) pair values y = none_judged _ (AskFits here.program result) values _ (unless_good here memory result _ object _ (plain_good here memory result _ [] _ (tt, tt)))
  action_good (act.Copy e t f) pair values y = let p = and_true _ _ (and_true _ _ y).0 in copy_good here memory result e t f values p.0 p.1
  action_good (act.Fill object parts) pair values y = fill_good here memory result object parts values y
  action_good (act.Touch e t what) pair values y = none_judged _ (AskFits here.program result) values _ (bare_good here memory result _ Touches tt)
  action_good (act.Library call into) pair values y = library_good here timed memory result call into values y
  action_good (act.External name arguments value into) pair values y = let p = and_true _ _ y in external_good here memory result arguments value into values p.0 p.1
  action_good (act.Call function arguments into) pair values y = call_good here memory result function arguments into values (and_true _ _ y).0
  action_good act.Turn pair values y = none_judged _ (AskFits here.program result) values _ (plain_good here memory result _ [] [] tt)
  action_good (act.Return None) pair values y = none_judged _ (AskFits here.program result) values _ (turns_good here memory result _ (Leaves None) tt)
  action_good (act.Return (Some e)) pair values y = return_good here memory result e values y
  action_good act.End pair values y = none_judged _ (AskFits here.program result) values _ (turns_good here memory result _ (Leaves None) tt)
  action_good (act.Evaluate e) pair values y = evaluate_good here memory result e values y
  action_good (act.Branch e into) pair values y = let p = and_true _ _ y in branch_good here memory result e into pair values p.0 p.1
  action_good (act.Switch e clauses) pair values y = switch_good here memory result e clauses pair values y

  -- the second step of a wait evaluates nothing
  pub again_good : (action : Act) (m : Cell) (values : List ℤ) → act_is_typed here.program result action ≡ true → Judged ⊥ (AskFits here.program result) (retakes action m values)
  again_good (act.Library (lib.ConditionWait e d) into) m values y = none_judged ⊥ (AskFits here.program result) values _ (asks_judged ⊥ (AskFits here.program result) _
      (record { stores = tt; given = into_fits here.program into (A_number Int) success (and_true _ _ y).1 tt; request = tt; turn = tt }))
  again_good (act.Library (lib.ConditionTimedWait e d t) into) m values y = one_judged ⊥ (AskFits here.program result) _ values _ (λ z. asks_judged ⊥ (AskFits here.program result) _
      (record { stores = tt; given = into_fits here.program into (A_number Int) (Number z) (and_true _ _ (and_true _ _ y).1).1 tt; request = tt; turn = tt }))
  again_good _ m values y = not_asked ⊥ (AskFits here.program result)
