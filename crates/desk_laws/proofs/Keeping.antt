-- What each command's effect keeps, each step keeps.
use Rattle.std.proofs.Common.{◌≡◌, ℕ, List, [], ◌∷◌, Result, Ok, Err, Option, Some, None, refl, zero, suc, get_or}
use Rattle.misra_base.specs.declared.report.Report.{Report}
use Rattle.desk_tables.specs.declared.change.Write.{Write}
use Rattle.desk_tables.specs.declared.command.Command.{Command}
use Rattle.desk_tables.specs.declared.reply.Reply.{Reply}
use Rattle.desk_tables.specs.declared.rows.KeptRow.{KeptRow}
use Rattle.desk_tables.specs.Tables.{Tables, after_keeping, after_write}
use Rattle.desk_core.specs.declared.caller.Caller.{Caller}
use Rattle.desk_core.specs.declared.stop.DeskStop.{DeskStop}
use Rattle.desk_core.specs.Callers.{name_of}
use Rattle.desk_core.specs.Refusals.{first_refusal}
use Rattle.desk_core.specs.Rows.{project_of, row_for}
use Rattle.desk_core.specs.Step.{by_row, desk_step, effected, row_to_keep, seen_answer, unless_kept}
use Rattle.desk_core.specs.View.{view_of}

-- ---- where no refusal holds

pub none_at : (l : List (Option DeskStop)) (i : ℕ) → first_refusal l ≡ None → get_or l i None ≡ None
none_at [] i e = refl
none_at (None ∷ l) zero e = refl
none_at (None ∷ l) (suc i) e = none_at l i e
none_at (Some stop ∷ l) i e = cc

pub later_refusal : (first : Option DeskStop) (l : List (Option DeskStop)) → first_refusal (first ∷ l) ≡ None → first_refusal l ≡ None
later_refusal None l e = e
later_refusal (Some stop) l e = cc

-- ---- a step

abbrev pub AfterEffect : (Tables → Type 0) → Option Write → Tables → Type 0
AfterEffect P None t = Unit {0}
AfterEffect P (Some write) t = P (after_write write t)

-- what is kept of requests does not matter
abbrev pub LeavesKept : (Tables → Type 0) → Type 0
LeavesKept P = (kept : Option KeptRow) (t : Tables) → P t → P (after_keeping kept t)

effect_keeps : (P : Tables → Type 0) (t : Tables) (caller : Caller) (request : Option (List ℕ)) (command : Command) (effect : Option Write) (reply : Reply)
    → LeavesKept P → AfterEffect P effect t → P t → P (effected t caller request command (record { effect = effect; reply = reply }))
effect_keeps P t caller request command None reply leaves a h = h
effect_keeps P t caller request command (Some write) reply leaves a h = leaves (row_to_keep caller request command reply) (after_write write t) a

row_keeps : (P : Tables → Type 0) (refusal : Option DeskStop) (reply : Reply) (t u : Tables) → P t → (refusal ≡ None → P u) → P (by_row refusal reply t u).1
row_keeps P None reply t u h after = after refl
row_keeps P (Some stop) reply t u h after = h

kept_keeps : (P : Tables → Type 0) (kept : Result (Option Reply) DeskStop) (t : Tables) (step : Result Reply DeskStop × Tables) → P t → P step.1
    → P (unless_kept kept t step).1
kept_keeps P (Ok None) t step h after = after
kept_keeps P (Ok (Some reply)) t step h after = h
kept_keeps P (Err stop) t step h after = h

pub step_keeps : (P : Tables → Type 0) (t : Tables) (caller : Caller) (request : Option (List ℕ)) (command : Command) (report : Option Report)
    → LeavesKept P
    → (first_refusal (row_for (view_of (name_of caller) (project_of command) t) caller command report).refusals ≡ None
    → AfterEffect P (row_for (view_of (name_of caller) (project_of command) t) caller command report).effect t)
    → P t → P (desk_step t caller request command report).1
step_keeps P t caller request command report leaves does h =
    let v = view_of (name_of caller) (project_of command) t in
    let row = row_for v caller command report in
    let done = effected t caller request command (record { effect = row.effect; reply = row.reply }) in
    kept_keeps P (seen_answer v caller request command) t (by_row (first_refusal row.refusals) row.reply t done) h
    (row_keeps P (first_refusal row.refusals) row.reply t done h
    (λ none. effect_keeps P t caller request command row.effect row.reply leaves (does none) h))
