-- What is kept of a request stays, whatever follows.
use Rattle.std.proofs.Common.{◌≡◌, ◌∙◌, ℕ, Bool, true, false, ◌&&◌, List, [], ◌∷◌, Result, Ok, Err, Option, Some, None, refl, sym, ap, subst}
use Rattle.std.specs.Prelude.{cond, filter}
use Rattle.std.specs.List.{find}
use Rattle.std.specs.Option.{option_map_or}
use Rattle.std.specs.Str.{bytes_eq}
use Rattle.desk_tables.specs.declared.change.Write.{Write}
use Rattle.desk_tables.specs.declared.change.Write.TheVariants as writes
use Rattle.desk_tables.specs.declared.command.Command.{Command}
use Rattle.desk_tables.specs.declared.reply.Reply.{Reply}
use Rattle.desk_tables.specs.declared.rows.KeptRow.{KeptRow}
use Rattle.desk_tables.specs.declared.rows.ProjectRow.{ProjectRow}
use Rattle.desk_tables.specs.Tables.{Tables, after_keeping, after_write, kept_by, project_named, put, put_plan, put_revision, same_request}
use Rattle.desk_core.specs.declared.caller.Caller.{Caller}
use Rattle.desk_core.specs.declared.caller.Caller.TheVariants.{Console, Member}
use Rattle.desk_core.specs.declared.stop.DeskStop.{DeskStop}
use Rattle.desk_core.specs.declared.stop.DeskStop.TheVariants as stops
use Rattle.desk_core.specs.Callers.{name_of}
use Rattle.desk_core.specs.Forms.{bad_text}
use Rattle.desk_core.specs.Refusals.{first_refusal}
use Rattle.desk_core.specs.Rows.{project_of, row_for}
use Rattle.desk_core.specs.Same.{same_command}
use Rattle.desk_core.specs.Step.{by_row, effected, repeated, row_to_keep, seen_answer, unless_bad, unless_kept}
use Rattle.desk_core.specs.View.{view_of}
use Rattle.desk_laws.specs.Repeats.{KeptForGood}
use Rattle.desk_laws.specs.Runs.{Request, step_of}
use Rattle.desk_laws.proofs.Putting.{and_left, and_right, find_both, other_put, same_name}

-- ---- what is kept of another request

-- whether a row is the one of this caller and request
is_of : List ℕ → List ℕ → KeptRow → Bool
is_of name id r = bytes_eq r.caller name && bytes_eq r.request id

by_both : (name id : List ℕ) (rows : List KeptRow)
    → find (is_of name id) rows ≡ find (λ r. bytes_eq r.request id) (filter (λ r. bytes_eq r.caller name) rows)
unfolding is_of
by_both name id rows = find_both (λ r. bytes_eq r.caller name) (λ r. bytes_eq r.request id) rows

differs_by : (t : Tables) (name id caller request : List ℕ) (row : KeptRow) (b : Bool)
    → kept_by caller request t ≡ None → kept_by name id t ≡ Some row
    → (b ≡ true → caller ≡ name) → (b ≡ true → request ≡ id) → b ≡ false
differs_by t name id caller request row true none found one other =
    let a : kept_by name request t ≡ None = subst (λ n. kept_by n request t ≡ None) (one refl) none in
    let b : kept_by name id t ≡ None = subst (λ n. kept_by name n t ≡ None) (other refl) a in
    cc
differs_by t name id caller request row false none found one other = refl

differs : (t : Tables) (name id : List ℕ) (new row r : KeptRow) → kept_by new.caller new.request t ≡ None → kept_by name id t ≡ Some row
    → r.caller ≡ new.caller → r.request ≡ new.request → is_of name id r ≡ false
unfolding is_of
differs t name id new row r none found caller request =
    differs_by t name id new.caller new.request row (is_of name id r) none found
    (λ e. sym caller ∙ same_name r.caller name (and_left (bytes_eq r.caller name) (bytes_eq r.request id) e))
    (λ e. sym request ∙ same_name r.request id (and_right (bytes_eq r.caller name) (bytes_eq r.request id) e))

stays_put : (t : Tables) (name id : List ℕ) (new row : KeptRow) → kept_by new.caller new.request t ≡ None → kept_by name id t ≡ Some row
    → kept_by name id (record t { kept = put (same_request new) new t.kept }) ≡ Some row
stays_put t name id new row none found =
    sym (by_both name id (put (same_request new) new t.kept))
    ∙ other_put (same_request new) (is_of name id) new (differs t name id new row new none found refl refl)
    (λ r e. differs t name id new row r none found
    (same_name r.caller new.caller (and_left (bytes_eq r.caller new.caller) (bytes_eq r.request new.request) e))
    (same_name r.request new.request (and_right (bytes_eq r.caller new.caller) (bytes_eq r.request new.request) e)))
    t.kept
    ∙ by_both name id t.kept ∙ found

-- ---- a write leaves what is kept

revision_leaves : (found : Option ProjectRow) (project : List ℕ) (number : ℕ) (findings : _) (t : Tables) → (put_revision found project number findings t).kept ≡ t.kept
revision_leaves None project number findings t = refl
revision_leaves (Some row) project number findings t = refl

plan_leaves : (found : Option ProjectRow) (project : List ℕ) (plan : _) (t : Tables) → (put_plan found project plan t).kept ≡ t.kept
plan_leaves None project plan t = refl
plan_leaves (Some row) project plan t = refl

write_leaves : (write : Write) (t : Tables) → (after_write write t).kept ≡ t.kept
write_leaves (writes.NewProject row) t = refl
write_leaves (writes.NewRevision project number findings) t = revision_leaves (project_named project t) project number findings t
write_leaves (writes.NewDeviation project d) t = refl
write_leaves (writes.SetDeviation project d) t = refl
write_leaves (writes.NewPermit permit) t = refl
write_leaves (writes.SetPlan project plan) t = plan_leaves (project_named project t) project plan t

same_kept : (name id : List ℕ) (t u : Tables) → t.kept ≡ u.kept → kept_by name id t ≡ kept_by name id u
same_kept name id t u e = ap (λ (rows : List KeptRow). find (λ r. bytes_eq r.request id) (filter (λ r. bytes_eq r.caller name) rows)) e

-- ---- a step

-- the request's own row is not there
not_kept_by : (command : Command) (bad : Option DeskStop) (found : Option KeptRow)
    → unless_bad bad (option_map_or (λ row. repeated row command) found (Ok None)) ≡ Ok None → found ≡ None
not_kept_by command bad None e = refl
not_kept_by command None (Some row) e = repeats (same_command row.command command) e where
  repeats : (b : Bool) → (let kept : Result (Option Reply) DeskStop = cond b (Ok (Some row.reply)) (Err (stops.RequestIdReused row.command)) in kept ≡ Ok None) → Some row ≡ None
  repeats true f = absurd cc
  repeats false f = absurd cc
not_kept_by command (Some stop) (Some row) e = absurd cc

keeping_stays : (t u : Tables) (caller : Caller) (request : Option (List ℕ)) (command : Command) (reply : Reply) (name id : List ℕ) (row : KeptRow)
    → u.kept ≡ t.kept → seen_answer (view_of (name_of caller) (project_of command) t) caller request command ≡ Ok None
    → kept_by name id t ≡ Some row → kept_by name id (after_keeping (row_to_keep caller request command reply) u) ≡ Some row
keeping_stays t u (Member caller) (Some request) command reply name id row same seen found =
    let none : kept_by caller request t ≡ None =
    not_kept_by command (bad_text (Member caller) (Some request) command) (kept_by caller request t) seen in
    let new : KeptRow = record { caller = caller; request = request; command = command; reply = reply } in
    stays_put u name id new row (same_kept caller request u t same ∙ none) (same_kept name id u t same ∙ found)
keeping_stays t u (Member caller) None command reply name id row same seen found = same_kept name id u t same ∙ found
keeping_stays t u Console request command reply name id row same seen found = same_kept name id u t same ∙ found

effect_stays : (t : Tables) (caller : Caller) (request : Option (List ℕ)) (command : Command) (effect : Option Write) (reply : Reply) (name id : List ℕ) (row : KeptRow)
    → seen_answer (view_of (name_of caller) (project_of command) t) caller request command ≡ Ok None
    → kept_by name id t ≡ Some row → kept_by name id (effected t caller request command (record { effect = effect; reply = reply })) ≡ Some row
effect_stays t caller request command None reply name id row seen found = found
effect_stays t caller request command (Some write) reply name id row seen found =
    keeping_stays t (after_write write t) caller request command reply name id row (write_leaves write t) seen found

row_stays : (refusal : Option DeskStop) (reply : Reply) (t u : Tables) (name id : List ℕ) (row : KeptRow)
    → kept_by name id t ≡ Some row → kept_by name id u ≡ Some row → kept_by name id (by_row refusal reply t u).1 ≡ Some row
row_stays None reply t u name id row before after = after
row_stays (Some stop) reply t u name id row before after = before

seen_stays : (kept : Result (Option Reply) DeskStop) (t : Tables) (step : Result Reply DeskStop × Tables) (name id : List ℕ) (row : KeptRow)
    → kept_by name id t ≡ Some row → (kept ≡ Ok None → kept_by name id step.1 ≡ Some row) → kept_by name id (unless_kept kept t step).1 ≡ Some row
seen_stays (Ok None) t step name id row before after = after refl
seen_stays (Ok (Some reply)) t step name id row before after = before
seen_stays (Err stop) t step name id row before after = before

step_stays : (t : Tables) (r : Request) (name id : List ℕ) (row : KeptRow) → kept_by name id t ≡ Some row → kept_by name id (step_of t r) ≡ Some row
step_stays t r name id row found =
    let v = view_of (name_of r.caller) (project_of r.command) t in
    let does = row_for v r.caller r.command r.report in
    let done = effected t r.caller r.id r.command (record { effect = does.effect; reply = does.reply }) in
    seen_stays (seen_answer v r.caller r.id r.command) t (by_row (first_refusal does.refusals) does.reply t done) name id row found
    (λ seen. row_stays (first_refusal does.refusals) does.reply t done name id row found
    (effect_stays t r.caller r.id r.command does.effect does.reply name id row seen found))

pub kept_for_good : KeptForGood
kept_for_good t [] name id row found = found
kept_for_good t (r ∷ requests) name id row found = kept_for_good (step_of t r) requests name id row (step_stays t r name id row found)
