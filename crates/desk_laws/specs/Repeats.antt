-- A request that comes again.
use Rattle.std.specs.Prelude.{◌≡◌, ℕ, Bool, true, false, List, Ok, Option, Some, None}
use Rattle.misra_base.specs.declared.report.Report.{Report}
use Rattle.desk_tables.specs.declared.command.Command.{Command}
use Rattle.desk_tables.specs.declared.command.Command.TheVariants as commands
use Rattle.desk_tables.specs.declared.reply.Reply.{Reply}
use Rattle.desk_tables.specs.declared.rows.KeptRow.{KeptRow}
use Rattle.desk_tables.specs.Tables.{Tables, kept_by}
use Rattle.desk_core.specs.declared.caller.Caller.TheVariants.{Member}
use Rattle.desk_core.specs.Forms.{bad_text}
use Rattle.desk_core.specs.Same.{same_command}
use Rattle.desk_core.specs.Step.{desk_step}
use Rattle.desk_laws.specs.Runs.{Request, tables_after}

-- where the request's forms are right, what was kept for it answers it
abbrev pub RepeatsAreAnswered : Type 0
RepeatsAreAnswered = (t : Tables) (name id : List ℕ) (command : Command) (report : Option Report) (row : KeptRow)
    → bad_text (Member name) (Some id) command ≡ None
    → kept_by name id t ≡ Some row → same_command row.command command ≡ true
    → desk_step t (Member name) (Some id) command report ≡ (Ok row.reply, t)

-- reads change nothing, and have no request id
abbrev pub is_changing : Command → Bool
is_changing (commands.ReadSummary project) = false
is_changing (commands.ReadFindings project) = false
is_changing (commands.ReadClaim project) = false
is_changing _ = true

-- a changing request that was accepted gets the same reply when it comes again, whatever report comes with it, and changes nothing
abbrev pub AcceptedRequestsAreRepeated : Type 0
AcceptedRequestsAreRepeated = (t : Tables) (name id : List ℕ) (command : Command) (report again : Option Report) (reply : Reply)
    → is_changing command ≡ true
    → (desk_step t (Member name) (Some id) command report).0 ≡ Ok reply
    → desk_step (desk_step t (Member name) (Some id) command report).1 (Member name) (Some id) command again
    ≡ (Ok reply, (desk_step t (Member name) (Some id) command report).1)

-- what is kept of a request is kept for good, whatever requests follow
abbrev pub KeptForGood : Type 0
KeptForGood = (t : Tables) (requests : List Request) (name id : List ℕ) (row : KeptRow)
    → kept_by name id t ≡ Some row → kept_by name id (tables_after t requests) ≡ Some row

-- so a changing request that was accepted gets the same reply, and changes nothing, whatever requests came in between
abbrev pub RunsRepeatReplies : Type 0
RunsRepeatReplies = (t : Tables) (name id : List ℕ) (command : Command) (report again : Option Report) (reply : Reply) (between : List Request)
    → is_changing command ≡ true
    → (desk_step t (Member name) (Some id) command report).0 ≡ Ok reply
    → (let u = tables_after (desk_step t (Member name) (Some id) command report).1 between in
    desk_step u (Member name) (Some id) command again ≡ (Ok reply, u))
