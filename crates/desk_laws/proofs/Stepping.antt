-- The laws of one step that follow from its shape.
use Rattle.std.proofs.Common.{◌≡◌, ◌∙◌, ℕ, List, Result, Ok, Err, Option, Some, None, refl, sym, ap, map, [], ◌∷◌}
use Rattle.std.specs.List.{sum_by}
use Rattle.misra_base.specs.declared.finding.Finding.{Finding}
use Rattle.misra_base.specs.declared.deviation.Deviation.{Deviation}
use Rattle.misra_base.specs.declared.category.Plan.{Plan}
use Rattle.misra_base.specs.declared.report.Report.{Report}
use Rattle.misra_base.specs.declared.summary.SummaryRow.{SummaryRow}
use Rattle.compliance_core.specs.Laws.{findings_in}
use Rattle.compliance_core.specs.Levels.{summary_of}
use Rattle.compliance_core.proofs.Counting.{summary_has_all}
use Rattle.desk_tables.specs.declared.command.Command.{Command}
use Rattle.desk_tables.specs.declared.command.Command.TheVariants as commands
use Rattle.desk_tables.specs.declared.reply.Reply.{Reply}
use Rattle.desk_tables.specs.declared.reply.Reply.TheVariants as replies
use Rattle.desk_tables.specs.declared.found.Found.{Found}
use Rattle.desk_tables.specs.declared.change.Write.{Write}
use Rattle.desk_tables.specs.Keys.{IsKeyed}
use Rattle.desk_tables.specs.Tables.{Tables, no_tables}
use Rattle.desk_tables.proofs.Keyed.{keyed_change}
use Rattle.desk_core.specs.declared.caller.Caller.{Caller}
use Rattle.desk_core.specs.declared.stop.DeskStop.{DeskStop}
use Rattle.desk_core.specs.Callers.{name_of}
use Rattle.desk_core.specs.Covering.{found_rows}
use Rattle.desk_core.specs.Forms.{bad_text}
use Rattle.desk_core.specs.Refusals.{first_refusal}
use Rattle.desk_core.specs.Rows.{row_for, project_of}
use Rattle.desk_core.specs.Step.{by_row, desk_step, effected, row_to_keep, seen_answer, unless_bad, unless_kept}
use Rattle.desk_core.specs.View.{View, plan_of, revision_of, view_of}
use Rattle.desk_laws.specs.Laws.{Agree, FindingsAreRead, NoFindingIsLost, ProjectsAreApart, RefusalsChangeNothing, StepsKeepKeys}

-- ---- refusals change nothing

row_refuses : (refusal : Option DeskStop) (reply : Reply) (t u : Tables) (stop : DeskStop)
    → (by_row refusal reply t u).0 ≡ Err stop → (by_row refusal reply t u).1 ≡ t
row_refuses None reply t u stop e = cc
row_refuses (Some s) reply t u stop e = refl

refuses : (kept : Result (Option Reply) DeskStop) (t : Tables) (step : Result Reply DeskStop × Tables) (stop : DeskStop)
    → (step.0 ≡ Err stop → step.1 ≡ t) → (unless_kept kept t step).0 ≡ Err stop → (unless_kept kept t step).1 ≡ t
refuses (Ok None) t step stop h e = h e
refuses (Ok (Some reply)) t step stop h e = refl
refuses (Err s) t step stop h e = refl

pub refusals_change_nothing : RefusalsChangeNothing
refusals_change_nothing t caller request command report stop e =
    refuses _ t _ stop (row_refuses _ _ t _ stop) e

-- ---- projects are kept apart

answer_by_row : (refusal : Option DeskStop) (reply : Reply) (t t' u u' : Tables) → (by_row refusal reply t t').0 ≡ (by_row refusal reply u u').0
answer_by_row None reply t t' u u' = refl
answer_by_row (Some stop) reply t t' u u' = refl

answer_unless : (kept : Result (Option Reply) DeskStop) (t u : Tables) (a b : Result Reply DeskStop × Tables) → a.0 ≡ b.0 → (unless_kept kept t a).0 ≡ (unless_kept kept u b).0
answer_unless (Ok None) t u a b e = e
answer_unless (Ok (Some reply)) t u a b e = refl
answer_unless (Err stop) t u a b e = refl

-- the answer, which is a function of the view
answer : View → Caller → Option (List ℕ) → Command → Option Report → Result Reply DeskStop
answer v caller request command report =
    let row = row_for v caller command report in
    (unless_kept (seen_answer v caller request command) no_tables (by_row (first_refusal row.refusals) row.reply no_tables no_tables)).0

is_answer : (t : Tables) (caller : Caller) (request : Option (List ℕ)) (command : Command) (report : Option Report)
    → (desk_step t caller request command report).0 ≡ answer (view_of (name_of caller) (project_of command) t) caller request command report
unfolding answer
is_answer t caller request command report = answer_unless _ t no_tables _ _ (answer_by_row _ _ t _ no_tables no_tables)

same_view : (caller project : List ℕ) (t u : Tables) → Agree caller project t u → view_of caller project t ≡ view_of caller project u
same_view caller project t u a = λ i. record {
  project = a.project_row i;
  findings = a.findings i;
  deviations = a.deviations i;
  permits = a.permits i;
  kept = a.kept i;
  counts = a.counts i;
}

pub projects_are_apart : ProjectsAreApart
projects_are_apart t u caller request command report a =
    is_answer t caller request command report
    ∙ ap (λ v. answer v caller request command report) (same_view (name_of caller) (project_of command) t u a)
    ∙ sym (is_answer u caller request command report)

-- ---- no finding is lost

summary_has : (v : View) (caller : Caller) (refusal : Option DeskStop) (t u : Tables) (number : ℕ) (rows all : List SummaryRow) (revision : ℕ)
    → (by_row refusal (replies.Summary revision all) t u).0 ≡ Ok (replies.Summary number rows) → all ≡ rows
summary_has v caller None t u number rows all revision e = cc
summary_has v caller (Some stop) t u number rows all revision e = cc

read_step : (bad : Option DeskStop) (t : Tables) (step : Result Reply DeskStop × Tables) (reply : Reply)
    → (unless_kept (unless_bad bad (Ok None)) t step).0 ≡ Ok reply → step.0 ≡ Ok reply
read_step None t step reply e = e
read_step (Some stop) t step reply e = cc

pub no_finding_is_lost : NoFindingIsLost
no_finding_is_lost t caller project number rows e =
    let v = view_of (name_of caller) project t in
    let row = row_for v caller (commands.ReadSummary project) None in
    let answered = read_step (bad_text caller None (commands.ReadSummary project)) t (by_row (first_refusal row.refusals) row.reply t t) (replies.Summary number rows) e in
    let same = summary_has v caller (first_refusal row.refusals) t t number rows (summary_of (plan_of v) v.deviations v.findings) (revision_of v) answered in
    ap (sum_by findings_in) (sym same) ∙ summary_has_all (plan_of v) v.deviations v.findings

-- ---- the findings that are read

rows_read : (refusal : Option DeskStop) (t u : Tables) (number revision : ℕ) (rows all : List Found)
    → (by_row refusal (replies.Findings revision all) t u).0 ≡ Ok (replies.Findings number rows) → all ≡ rows
rows_read None t u number revision rows all e = cc
rows_read (Some stop) t u number revision rows all e = cc

findings_kept : (plan : Plan) (deviations : List Deviation) (findings : List Finding) → map (λ row. row.finding) (found_rows plan deviations findings) ≡ findings
unfolding found_rows
findings_kept plan deviations [] = refl
findings_kept plan deviations (f ∷ findings) = ap (λ l. f ∷ l) (findings_kept plan deviations findings)

pub findings_are_read : FindingsAreRead
findings_are_read t caller project number rows e =
    let v = view_of (name_of caller) project t in
    let row = row_for v caller (commands.ReadFindings project) None in
    let answered = read_step (bad_text caller None (commands.ReadFindings project)) t (by_row (first_refusal row.refusals) row.reply t t) (replies.Findings number rows) e in
    let same = rows_read (first_refusal row.refusals) t t number (revision_of v) rows (found_rows (plan_of v) v.deviations v.findings) answered in
    ap (map (λ row. row.finding)) (sym same) ∙ findings_kept (plan_of v) v.deviations v.findings

-- ---- keys

effect_keyed : (t : Tables) (caller : Caller) (request : Option (List ℕ)) (command : Command) (effect : Option Write) (reply : Reply)
    → IsKeyed t → IsKeyed (effected t caller request command (record { effect = effect; reply = reply }))
effect_keyed t caller request command None reply h = h
effect_keyed t caller request command (Some write) reply h =
    keyed_change (record { write = write; kept = row_to_keep caller request command reply }) t h

row_keyed : (refusal : Option DeskStop) (reply : Reply) (t u : Tables) → IsKeyed t → IsKeyed u → IsKeyed (by_row refusal reply t u).1
row_keyed None reply t u h after = after
row_keyed (Some stop) reply t u h after = h

seen_keyed : (kept : Result (Option Reply) DeskStop) (t : Tables) (step : Result Reply DeskStop × Tables) → IsKeyed t → IsKeyed step.1
    → IsKeyed (unless_kept kept t step).1
seen_keyed (Ok None) t step h after = after
seen_keyed (Ok (Some reply)) t step h after = h
seen_keyed (Err stop) t step h after = h

pub steps_keep_keys : StepsKeepKeys
steps_keep_keys t caller request command report h =
    let v = view_of (name_of caller) (project_of command) t in
    let row = row_for v caller command report in
    let done = effected t caller request command (record { effect = row.effect; reply = row.reply }) in
    seen_keyed (seen_answer v caller request command) t (by_row (first_refusal row.refusals) row.reply t done) h
    (row_keyed (first_refusal row.refusals) row.reply t done h (effect_keyed t caller request command row.effect row.reply h))
