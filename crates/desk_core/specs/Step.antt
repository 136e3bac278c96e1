-- The desk machine: what it answers to a command, and the tables after it.
use Rattle.std.specs.Prelude.{ℕ, if◌then◌else◌, List, Result, Ok, Err, Option, Some, None}
use Rattle.std.specs.Option.{option_map_or, option_and_then}
use Rattle.misra_base.specs.declared.report.Report.{Report}
use Rattle.desk_tables.specs.declared.command.Command.{Command}
use Rattle.desk_tables.specs.declared.reply.Reply.{Reply}
use Rattle.desk_tables.specs.declared.rows.KeptRow.{KeptRow}
use Rattle.desk_tables.specs.Tables.{Tables, after_change}
use Rattle.desk_core.specs.declared.caller.Caller.{Caller}
use Rattle.desk_core.specs.declared.caller.Caller.TheVariants as callers
use Rattle.desk_core.specs.declared.decision.Decision.{Decision}
use Rattle.desk_core.specs.declared.stop.DeskStop.{DeskStop}
use Rattle.desk_core.specs.declared.stop.DeskStop.TheVariants as stops
use Rattle.desk_core.specs.Callers.{name_of}
use Rattle.desk_core.specs.Forms.{bad_text}
use Rattle.desk_core.specs.Refusals.{first_refusal}
use Rattle.desk_core.specs.Rows.{row_for, project_of}
use Rattle.desk_core.specs.Same.{same_command}
use Rattle.desk_core.specs.View.{View, view_of, kept_row}

-- ---- a request that comes again

-- the kept reply, or refusal 11
abbrev pub repeated : KeptRow → Command → Result (Option Reply) DeskStop
repeated row command = if same_command row.command command then Ok (Some row.reply) else Err (stops.RequestIdReused row.command)

-- what was kept for the request, where the caller has one
abbrev pub kept_answer : View → Option (List ℕ) → Command → Result (Option Reply) DeskStop
kept_answer v request command = option_map_or (λ row. repeated row command) (option_and_then (λ id. kept_row id v) request) (Ok None)

-- refusal 13 comes before what was kept
abbrev pub unless_bad : Option DeskStop → Result (Option Reply) DeskStop → Result (Option Reply) DeskStop
unless_bad None answer = answer
unless_bad (Some stop) answer = Err stop

abbrev pub seen_answer : View → Caller → Option (List ℕ) → Command → Result (Option Reply) DeskStop
seen_answer v caller request command = unless_bad (bad_text caller request command) (kept_answer v request command)

-- ---- a step

-- nothing is kept without a request id
abbrev pub row_to_keep : Caller → Option (List ℕ) → Command → Reply → Option KeptRow
row_to_keep (callers.Member name) (Some id) command reply = Some (record { caller = name; request = id; command = command; reply = reply })
row_to_keep _ _ command reply = None

-- the tables after an accepted command
abbrev pub effected : Tables → Caller → Option (List ℕ) → Command → Decision → Tables
effected t caller request command decision =
    option_map_or (λ write. after_change (record { write = write; kept = row_to_keep caller request command decision.reply }) t) decision.effect t

-- a refusal leaves the tables
abbrev pub by_row : Option DeskStop → Reply → Tables → Tables → Result Reply DeskStop × Tables
by_row None reply before after = (Ok reply, after)
by_row (Some stop) reply before after = (Err stop, before)

abbrev pub unless_kept : Result (Option Reply) DeskStop → Tables → Result Reply DeskStop × Tables → Result Reply DeskStop × Tables
unless_kept (Ok None) t step = step
unless_kept (Ok (Some reply)) t step = (Ok reply, t)
unless_kept (Err stop) t step = (Err stop, t)

-- the tables, who asks, the request's id, the command and the report on a submitted text; the answer and the tables after it
abbrev pub desk_step : Tables → Caller → Option (List ℕ) → Command → Option Report → Result Reply DeskStop × Tables
desk_step t caller request command report =
    let v = view_of (name_of caller) (project_of command) t in
    let row = row_for v caller command report in
    unless_kept (seen_answer v caller request command) t (by_row (first_refusal row.refusals) row.reply t (effected t caller request command (record { effect = row.effect; reply = row.reply })))
