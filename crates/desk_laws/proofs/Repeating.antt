-- A request that comes again gets the reply that was kept for it.
use Rattle.std.proofs.Common.{◌≡◌, ◌∙◌, ℕ, Bool, true, false, cond, List, [], ◌∷◌, Result, Ok, Err, Option, Some, None, refl, sym, ap, subst}
use Rattle.std.specs.Prelude.{filter}
use Rattle.std.specs.List.{find}
use Rattle.std.specs.Option.{is_none, is_some, option_eq, option_map, option_map_or}
use Rattle.std.specs.Str.{bytes_eq}
use Rattle.std.proofs.lemmas.Bool.{eq-eqb}
use Rattle.misra_base.specs.Guidelines.{guideline_number, same_guideline}
use Rattle.misra_base.specs.Names.{names_eq_equiv}
use Rattle.misra_base.specs.declared.guideline.Guideline.{Guideline}
use Rattle.misra_base.specs.declared.report.Report.{Report}
use Rattle.misra_base.specs.declared.deviation.Deviation.{Deviation}
use Rattle.misra_base.specs.declared.category.Category.{Category}
use Rattle.misra_base.specs.declared.category.Category.TheVariants as categories
use Rattle.desk_tables.specs.declared.change.Write.{Write}
use Rattle.desk_tables.specs.declared.command.Command.{Command}
use Rattle.desk_tables.specs.declared.command.Command.TheVariants as commands
use Rattle.desk_tables.specs.declared.reply.Reply.{Reply}
use Rattle.desk_tables.specs.declared.rows.KeptRow.{KeptRow}
use Rattle.desk_tables.specs.Tables.{Tables, after_write, kept_by, put, same_request}
use Rattle.desk_core.specs.declared.caller.Caller.{Caller}
use Rattle.desk_core.specs.declared.caller.Caller.TheVariants.{Member}
use Rattle.desk_core.specs.declared.stop.DeskStop.{DeskStop}
use Rattle.desk_core.specs.declared.stop.DeskStop.TheVariants as stops
use Rattle.desk_core.specs.Entries.{Entry, same_category, same_entries}
use Rattle.desk_core.specs.Forms.{bad_text}
use Rattle.desk_core.specs.Refusals.{first_refusal, refuse_if}
use Rattle.desk_core.specs.Rows.{project_of, row_for}
use Rattle.desk_core.specs.Same.{same_command}
use Rattle.desk_core.specs.Step.{by_row, desk_step, effected, kept_answer, repeated, seen_answer, unless_bad, unless_kept}
use Rattle.desk_core.specs.View.{View, deviation_with, view_of}
use Rattle.desk_laws.specs.Repeats.{AcceptedRequestsAreRepeated, RepeatsAreAnswered, RunsRepeatReplies, is_changing}
use Rattle.desk_laws.specs.Runs.{tables_after}
use Rattle.desk_laws.proofs.Putting.{find_both, found_put, itself}
use Rattle.desk_laws.proofs.Keeping.{none_at}
use Rattle.desk_laws.proofs.Staying.{kept_for_good}

pub repeats_are_answered : RepeatsAreAnswered
repeats_are_answered t name id command report row formed found same = rw (formed, found, same) refl

-- ---- a command is itself

same_guideline_itself : (g : Guideline) → same_guideline g g ≡ true
same_guideline_itself g = eq-eqb (guideline_number g) (guideline_number g) refl

same_category_itself : (c : Category) → same_category c c ≡ true
same_category_itself categories.Mandatory = refl
same_category_itself categories.Required = refl
same_category_itself categories.Advisory = refl
same_category_itself categories.Disapplied = refl

entries_itself : (entries : List Entry) → same_entries entries entries ≡ true
entries_itself [] = refl
entries_itself (e ∷ entries) = rw (same_guideline_itself e.0, same_category_itself e.1) (entries_itself entries)

same_choice_itself : (name : Option (List ℕ)) → option_eq bytes_eq name name ≡ true
same_choice_itself None = refl
same_choice_itself (Some name) = itself name

same_itself : (c : Command) → same_command c c ≡ true
same_itself (commands.MakeProject name members) = rw (itself name, names_eq_equiv.refl members) refl
same_itself (commands.Submit project length) = rw (itself project, eq-eqb length length refl) refl
same_itself (commands.Raise project guideline function object reason permit) =
    rw (itself project, same_guideline_itself guideline, itself function, itself object, itself reason, same_choice_itself permit) refl
same_itself (commands.Approve project id) = rw (itself project, eq-eqb id id refl) refl
same_itself (commands.Reject project id) = rw (itself project, eq-eqb id id refl) refl
same_itself (commands.Withdraw project id) = rw (itself project, eq-eqb id id refl) refl
same_itself (commands.AddPermit name guideline reason) = rw (itself name, same_guideline_itself guideline, itself reason) refl
same_itself (commands.ApplyPlan project entries) = rw (itself project) (entries_itself entries)
same_itself (commands.ReadFindings project) = itself project
same_itself (commands.Recategorise project guideline category) =
    rw (itself project, same_guideline_itself guideline, same_category_itself category) refl
same_itself (commands.ReadSummary project) = itself project
same_itself (commands.ReadClaim project) = itself project

-- ---- a changing command that is accepted writes

there : (found : Option Deviation) (write : Deviation → Write) (stop : DeskStop) → refuse_if (is_none found) stop ≡ None
    → is_some (option_map write found) ≡ true
there None write stop e = cc
there (Some d) write stop e = refl

writes : (v : View) (caller : Caller) (command : Command) (report : Option Report) → is_changing command ≡ true
    → first_refusal (row_for v caller command report).refusals ≡ None → is_some (row_for v caller command report).effect ≡ true
writes v caller (commands.MakeProject name members) report e none = refl
writes v caller (commands.Submit project length) report e none = refl
writes v caller (commands.Raise project guideline function object reason permit) report e none = refl
writes v caller (commands.Approve project id) report e none =
    there (deviation_with id v) _ stops.NoDeviation (none_at (row_for v caller (commands.Approve project id) report).refusals 2 none)
writes v caller (commands.Reject project id) report e none =
    there (deviation_with id v) _ stops.NoDeviation (none_at (row_for v caller (commands.Reject project id) report).refusals 2 none)
writes v caller (commands.Withdraw project id) report e none =
    there (deviation_with id v) _ stops.NoDeviation (none_at (row_for v caller (commands.Withdraw project id) report).refusals 2 none)
writes v caller (commands.AddPermit name guideline reason) report e none = refl
writes v caller (commands.ApplyPlan project entries) report e none = refl
writes v caller (commands.ReadFindings project) report e none = cc
writes v caller (commands.Recategorise project guideline category) report e none = refl
writes v caller (commands.ReadSummary project) report e none = cc
writes v caller (commands.ReadClaim project) report e none = cc

-- ---- the second step

-- the row that was just put is found for its caller and request
kept_now : (row : KeptRow) (rows : List KeptRow)
    → find (λ r. bytes_eq r.request row.request) (filter (λ r. bytes_eq r.caller row.caller) (put (same_request row) row rows)) ≡ Some row
kept_now row rows =
    let own : same_request row row ≡ true = rw (itself row.caller, itself row.request) refl in
    sym (find_both (λ r. bytes_eq r.caller row.caller) (λ r. bytes_eq r.request row.request) (put (same_request row) row rows))
    ∙ found_put (same_request row) row own rows

-- the request's row, with the reply that was given
record Kept (t : Tables) (name id : List ℕ) (command : Command) (reply : Reply) : Type 0 where
  formed : bad_text (Member name) (Some id) command ≡ None
  row : KeptRow
  found : kept_by name id t ≡ Some row
  same : same_command row.command command ≡ true
  answers : row.reply ≡ reply

accepted : (t : Tables) (name id : List ℕ) (command : Command) (reply answer : Reply) (effect : Option Write)
    → is_some effect ≡ true → bad_text (Member name) (Some id) command ≡ None → (let given : Result Reply DeskStop = Ok answer in given ≡ Ok reply)
    → Kept (effected t (Member name) (Some id) command (record { effect = effect; reply = answer })) name id command reply
accepted t name id command reply answer None some formed h = absurd cc
accepted t name id command reply answer (Some write) some formed h =
    let made : KeptRow = record { caller = name; request = id; command = command; reply = answer } in
    record { formed = formed; row = made; found = kept_now made (after_write write t).kept; same = same_itself command; answers = cc }

by_refusal : (t : Tables) (name id : List ℕ) (command : Command) (reply answer : Reply) (effect : Option Write) (refusal : Option DeskStop)
    → (refusal ≡ None → is_some effect ≡ true) → bad_text (Member name) (Some id) command ≡ None
    → (by_row refusal answer t (effected t (Member name) (Some id) command (record { effect = effect; reply = answer }))).0 ≡ Ok reply
    → Kept (by_row refusal answer t (effected t (Member name) (Some id) command (record { effect = effect; reply = answer }))).1 name id command reply
by_refusal t name id command reply answer effect None writing formed h = accepted t name id command reply answer effect (writing refl) formed h
by_refusal t name id command reply answer effect (Some stop) writing formed h = absurd cc

formed_of : (bad : Option DeskStop) (kept : Result (Option Reply) DeskStop) → unless_bad bad kept ≡ Ok None → bad ≡ None
formed_of None kept e = refl
formed_of (Some stop) kept e = cc

repeated_row : (t : Tables) (name id : List ℕ) (command : Command) (answer : Reply) (row : KeptRow) (b : Bool)
    → same_command row.command command ≡ b → kept_by name id t ≡ Some row → bad_text (Member name) (Some id) command ≡ None
    → (let kept : Result (Option Reply) DeskStop = cond b (Ok (Some row.reply)) (Err (stops.RequestIdReused row.command)) in kept ≡ Ok (Some answer))
    → Kept t name id command answer
repeated_row t name id command answer row true same found formed e = record { formed = formed; row = row; found = found; same = same; answers = cc }
repeated_row t name id command answer row false same found formed e = absurd cc

found_row_of : (t : Tables) (name id : List ℕ) (command : Command) (answer : Reply) (bad : Option DeskStop) (found : Option KeptRow)
    → bad_text (Member name) (Some id) command ≡ bad → kept_by name id t ≡ found
    → unless_bad bad (option_map_or (λ row. repeated row command) found (Ok None)) ≡ Ok (Some answer) → Kept t name id command answer
found_row_of t name id command answer None None formed is e = absurd cc
found_row_of t name id command answer None (Some row) formed is e =
    repeated_row t name id command answer row (same_command row.command command) refl is formed e
found_row_of t name id command answer (Some stop) found formed is e = absurd cc

same_reply : (t : Tables) (name id : List ℕ) (command : Command) (answer reply : Reply) → (let given : Result Reply DeskStop = Ok answer in given ≡ Ok reply)
    → Kept t name id command answer → Kept t name id command reply
same_reply t name id command answer reply e k = subst (λ r. Kept t name id command r) (let s : answer ≡ reply = cc in s) k

by_kept : (t : Tables) (name id : List ℕ) (command : Command) (report : Option Report) (reply : Reply) (kept : Result (Option Reply) DeskStop)
    → seen_answer (view_of name (project_of command) t) (Member name) (Some id) command ≡ kept
    → is_changing command ≡ true
    → (let row = row_for (view_of name (project_of command) t) (Member name) command report in
    let step = unless_kept kept t (by_row (first_refusal row.refusals) row.reply t (effected t (Member name) (Some id) command (record { effect = row.effect; reply = row.reply }))) in
    step.0 ≡ Ok reply → Kept step.1 name id command reply)
by_kept t name id command report reply (Ok None) e changing h =
    let row = row_for (view_of name (project_of command) t) (Member name) command report in
    by_refusal t name id command reply row.reply row.effect (first_refusal row.refusals)
    (writes (view_of name (project_of command) t) (Member name) command report changing)
    (formed_of (bad_text (Member name) (Some id) command) (kept_answer (view_of name (project_of command) t) (Some id) command) e) h
by_kept t name id command report reply (Ok (Some answer)) e changing h =
    same_reply t name id command answer reply h
    (found_row_of t name id command answer (bad_text (Member name) (Some id) command) (kept_by name id t) refl refl e)
by_kept t name id command report reply (Err stop) e changing h = absurd cc

is_kept : (t : Tables) (name id : List ℕ) (command : Command) (report : Option Report) (reply : Reply) → is_changing command ≡ true
    → (desk_step t (Member name) (Some id) command report).0 ≡ Ok reply → Kept (desk_step t (Member name) (Some id) command report).1 name id command reply
is_kept t name id command report reply changing h =
    by_kept t name id command report reply (seen_answer (view_of name (project_of command) t) (Member name) (Some id) command) refl changing h

answered : (t : Tables) (name id : List ℕ) (command : Command) (again : Option Report) (reply : Reply) → Kept t name id command reply
    → desk_step t (Member name) (Some id) command again ≡ (Ok reply, t)
answered t name id command again reply k =
    repeats_are_answered t name id command again k.row k.formed k.found k.same ∙ ap (λ r. (Ok r, t)) k.answers

pub accepted_requests_are_repeated : AcceptedRequestsAreRepeated
accepted_requests_are_repeated t name id command report again reply changing h =
    answered (desk_step t (Member name) (Some id) command report).1 name id command again reply (is_kept t name id command report reply changing h)

-- ---- kept for good

pub runs_repeat_replies : RunsRepeatReplies
runs_repeat_replies t name id command report again reply between changing h =
    let k = is_kept t name id command report reply changing h in
    let after = (desk_step t (Member name) (Some id) command report).1 in
    answered (tables_after after between) name id command again reply
    (record { formed = k.formed; row = k.row; found = kept_for_good after between name id k.row k.found; same = k.same; answers = k.answers })
