-- Runs of the desk machine: one request after another.
use Rattle.std.specs.Prelude.{ℕ, List, [], ◌∷◌, Option, Result}
use Rattle.misra_base.specs.declared.report.Report.{Report}
use Rattle.desk_tables.specs.declared.command.Command.{Command}
use Rattle.desk_tables.specs.declared.reply.Reply.{Reply}
use Rattle.desk_tables.specs.Tables.{Tables}
use Rattle.desk_core.specs.declared.caller.Caller.{Caller}
use Rattle.desk_core.specs.declared.stop.DeskStop.{DeskStop}
use Rattle.desk_core.specs.Step.{desk_step}

-- who asks, the request's id, the command and the report on a submitted text
pub record Request : Type 0 where
  pub caller : Caller
  pub id : Option (List ℕ)
  pub command : Command
  pub report : Option Report

abbrev pub reply_of : Tables → Request → Result Reply DeskStop
reply_of t r = (desk_step t r.caller r.id r.command r.report).0

abbrev pub step_of : Tables → Request → Tables
step_of t r = (desk_step t r.caller r.id r.command r.report).1

-- the replies to the requests in their order, and the tables after them
abbrev pub desk_run : Tables → List Request → List (Result Reply DeskStop) × Tables
desk_run t [] = ([], t)
desk_run t (r ∷ requests) = (reply_of t r ∷ (desk_run (step_of t r) requests).0, (desk_run (step_of t r) requests).1)

abbrev pub tables_after : Tables → List Request → Tables
tables_after t requests = (desk_run t requests).1
