-- What an action does to control, in four kinds.
use Rattle.std.proofs.Common.{◌≡◌, refl, ap, false, ℕ, List, [], map, Option, Some, slice_get}
use Rattle.c_program.specs.declared.expression.Expr.{Expr}
use Rattle.c_program.specs.declared.action.Local.{Local}
use Rattle.c_program.specs.declared.action.Act.{Act}
use Rattle.c_program.specs.declared.action.Act.TheVariants.{Library, Return, End}
use Rattle.c_program.specs.declared.action.Act.TheVariants as act
use Rattle.c_program.specs.declared.action.LibraryCall.TheVariants.{ThreadCreate, ThreadExit}
use Rattle.c_program.specs.declared.program.Program.{Program}
use Rattle.c_program.specs.Control.{Control, returned, left_behind}
use Rattle.c_program.specs.WellFormed.{is_branch, is_switch}
use Rattle.flow_points.specs.declared.transfer.Transfer.{Transfer}
use Rattle.flow_points.specs.declared.transfer.Transfer.TheVariants as transfer
use Rattle.flow_points.specs.declared.graph.Graph.{Graph}
use Rattle.flow_points.specs.Graphs.{next_at}
use Rattle.flow_points.specs.PointLists.{at, leads_to}
use Rattle.control_flow.specs.Labels.{Does}

-- it leads to what comes next in the function
abbrev pub GoesOn : Transfer → Type 0
GoesOn t = (graph : Graph) (n : ℕ) (string : List ℕ) → leads_to graph n string t ≡ map (at string) (next_at graph n)

pub data Deed (program : Program) (order : List ℕ) (action : ℕ) (a : Act) (t : Transfer) : Type 0 where
  goes : GoesOn t → ((left : Control) → left_behind program action a left ≡ left) → Deed program order action a t
  calls : (callee function : ℕ) (arguments : List Expr) (result : Option Local) → t ≡ transfer.Call callee → a ≡ act.Call function arguments result
      → slice_get order callee ≡ Some function → Deed program order action a t
  returns : t ≡ transfer.Return → ((left : Control) → left_behind program action a left ≡ returned left) → is_branch a ≡ false → is_switch a ≡ false → Deed program order action a t
  exits : t ≡ transfer.Exit → ((left : Control) → left_behind program action a left ≡ []) → Deed program order action a t

pub deed : (program : Program) (order : List ℕ) (action : ℕ) (a : Act) (t : Transfer) → Does order a t → Deed program order action a t
deed program order action (act.Call function arguments result) t d = calls d.0 function arguments result d.1 refl d.2
deed program order action (Library (ThreadCreate object function argument) result) t d = goes (λ graph n string. ap (leads_to graph n string) d.1) (λ left. refl)
deed program order action (Return value) t d = returns d (λ left. refl) refl refl
deed program order action End t d = returns d (λ left. refl) refl refl
deed program order action (Library (ThreadExit value) result) t d = exits d (λ left. refl)
deed program order action _ t d = goes (λ graph n string. ap (leads_to graph n string) d) (λ left. refl)
