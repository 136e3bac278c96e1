-- Each step keeps that no approved deviation is from a mandatory guideline.
use Rattle.std.proofs.Common.{◌≡◌, ◌⊎◌, inl, inr, ℕ, ◌==◌, Bool, true, false, not, ◌&&◌, List, [], ◌∷◌, map, fold, Option, Some, None, refl, sym, subst}
use Rattle.std.specs.Prelude.{count_by, filter}
use Rattle.std.specs.List.{find, list_all}
use Rattle.std.specs.Option.{is_none, is_some, option_and_then, option_map, option_map_or}
use Rattle.std.specs.Str.{bytes_eq}
use Rattle.std.proofs.lemmas.Bool.{eqb-true}
use Rattle.misra_base.specs.Guidelines.{all_guidelines, same_guideline}
use Rattle.misra_base.specs.declared.guideline.Guideline.{Guideline}
use Rattle.misra_base.specs.declared.report.Report.{Report}
use Rattle.misra_base.specs.declared.deviation.Deviation.{Deviation}
use Rattle.misra_base.specs.declared.deviation.Status.{Status}
use Rattle.misra_base.specs.declared.deviation.Status.TheVariants as statuses
use Rattle.misra_base.specs.declared.category.Category.{Category}
use Rattle.misra_base.specs.declared.category.Plan.{Plan}
use Rattle.compliance_core.specs.Categories.{is_mandatory, misra_plan, plan_with, revised_category}
use Rattle.compliance_core.specs.Covers.{is_approved}
use Rattle.desk_tables.specs.declared.change.Write.TheVariants as writes
use Rattle.desk_tables.specs.declared.command.Command.{Command}
use Rattle.desk_tables.specs.declared.command.Command.TheVariants as commands
use Rattle.desk_tables.specs.declared.rows.ProjectRow.{ProjectRow}
use Rattle.desk_tables.specs.declared.rows.DeviationRow.{DeviationRow}
use Rattle.desk_tables.specs.declared.rows.KeptRow.{KeptRow}
use Rattle.desk_tables.specs.Tables.{Tables, after_keeping, deviations_of, is_deviation, is_deviation_of, is_named, no_tables, project_named, put, put_deviation, put_plan, put_project, put_revision, rows_of}
use Rattle.desk_core.specs.declared.caller.Caller.{Caller}
use Rattle.desk_core.specs.declared.stop.DeskStop.{DeskStop}
use Rattle.desk_core.specs.declared.stop.DeskStop.TheVariants as stops
use Rattle.desk_core.specs.Callers.{name_of}
use Rattle.desk_core.specs.Entries.{Entry, category_in, entries_refused, entry_refused, with_all_entries, with_entry}
use Rattle.desk_core.specs.Refusals.{approved_against, approved_for, first_refusal, lowered, no_project, not_member, refuse_if}
use Rattle.desk_core.specs.Rows.{approved_by, project_of, row_for, with_status}
use Rattle.desk_core.specs.View.{deviation_with, view_of}
use Rattle.desk_laws.specs.Mandatory.{HasNoMandatoryDeviated, NoMandatoryIsDeviated, NoRunDeviatesMandatory, deviates_from_mandatory, may_stand}
use Rattle.desk_laws.specs.Runs.{Request, step_of, tables_after}
use Rattle.desk_laws.proofs.Keeping.{AfterEffect, later_refusal, none_at, step_keeps}
use Rattle.desk_laws.proofs.Putting.{all_more, all_put, all_two, and_both, apart, found_put, itself, other_put, passes, same_name}
use Rattle.desk_laws.proofs.Sorting.{count_sorted}
use Rattle.desk_laws.proofs.Replanning.{none_passes, revised_with}

-- ---- a project's row is put

stands_by : (ps : List ProjectRow) (name : List ℕ) (row : ProjectRow) (dr : DeviationRow) (b : Bool) → bytes_eq name dr.project ≡ b
    → bytes_eq row.name name ≡ true
    → (bytes_eq name dr.project ≡ true → may_stand (find (is_named dr.project) ps) dr.deviation ≡ true → may_stand (Some row) dr.deviation ≡ true)
    → may_stand (find (is_named dr.project) ps) dr.deviation ≡ true
    → may_stand (find (is_named dr.project) (put (is_named name) row ps)) dr.deviation ≡ true
stands_by ps name row dr true e own changed before =
    let found = subst (λ n. find (is_named n) (put (is_named name) row ps) ≡ Some row) (same_name name dr.project e) (found_put (is_named name) row own ps) in
    subst (λ o. may_stand o dr.deviation ≡ true) (sym found) (changed e before)
stands_by ps name row dr false e own changed before =
    let same = other_put (is_named name) (is_named dr.project) row (apart name dr.project e row.name own) (λ r. apart name dr.project e r.name) ps in
    subst (λ o. may_stand o dr.deviation ≡ true) (sym same) before

stands_put : (ps : List ProjectRow) (name : List ℕ) (row : ProjectRow) → bytes_eq row.name name ≡ true → (dr : DeviationRow)
    → (bytes_eq name dr.project ≡ true → may_stand (find (is_named dr.project) ps) dr.deviation ≡ true → may_stand (Some row) dr.deviation ≡ true)
    → may_stand (find (is_named dr.project) ps) dr.deviation ≡ true
    → may_stand (find (is_named dr.project) (put (is_named name) row ps)) dr.deviation ≡ true
stands_put ps name row own dr changed before = stands_by ps name row dr (bytes_eq name dr.project) refl own changed before

-- what is found under one name is found under an equal one
found_under : (ps : List ProjectRow) (name other : List ℕ) (found : Option ProjectRow) → bytes_eq name other ≡ true
    → find (is_named name) ps ≡ found → find (is_named other) ps ≡ found
found_under ps name other found e f = subst (λ n. find (is_named n) ps ≡ found) (same_name name other e) f

none_stands : (d : Deviation) {G : Type 0} → may_stand None d ≡ true → G
none_stands d e = cc

made : (t : Tables) (row : ProjectRow) → project_named row.name t ≡ None → HasNoMandatoryDeviated t → HasNoMandatoryDeviated (put_project row t)
made t row free h = all_more
    (λ dr. may_stand (project_named dr.project t) dr.deviation)
    (λ dr. may_stand (find (is_named dr.project) (put (is_named row.name) row t.projects)) dr.deviation)
    (λ dr before. stands_put t.projects row.name row (itself row.name) dr
    (λ e still. none_stands dr.deviation (subst (λ o. may_stand o dr.deviation ≡ true) (found_under t.projects row.name dr.project None e free) still))
    before)
    t.deviations h

submitted : (t : Tables) (project : List ℕ) (found : Option ProjectRow) (number : ℕ) (findings : _) → project_named project t ≡ found
    → HasNoMandatoryDeviated t → HasNoMandatoryDeviated (put_revision found project number findings t)
submitted t project None number findings f h = h
submitted t project (Some row) number findings f h =
    let own = passes (is_named project) t.projects row f in
    let after = record row { revision = number } in
    all_more
    (λ dr. may_stand (project_named dr.project t) dr.deviation)
    (λ dr. may_stand (find (is_named dr.project) (put (is_named project) after t.projects)) dr.deviation)
    (λ dr before. stands_put t.projects project after own dr
    (λ e still. subst (λ o. may_stand o dr.deviation ≡ true) (found_under t.projects project dr.project (Some row) e f) still) before)
    t.deviations h

-- no deviation of the project is against the new plan
abbrev pub leaves_room : List ℕ → Plan → DeviationRow → Bool
leaves_room project plan dr = not (is_deviation_of project dr && deviates_from_mandatory plan dr.deviation)

of_project : (b x : Bool) → b ≡ true → not (b && x) ≡ true → not x ≡ true
of_project true x e f = f
of_project false x e f = cc

replanned : (t : Tables) (project : List ℕ) (found : Option ProjectRow) (plan : Plan) → project_named project t ≡ found
    → list_all (leaves_room project plan) t.deviations ≡ true
    → HasNoMandatoryDeviated t → HasNoMandatoryDeviated (put_plan found project plan t)
replanned t project None plan f room h = h
replanned t project (Some row) plan f room h =
    let own = passes (is_named project) t.projects row f in
    let after = record row { plan = plan } in
    all_two
    (λ dr. may_stand (project_named dr.project t) dr.deviation)
    (leaves_room project plan)
    (λ dr. may_stand (find (is_named dr.project) (put (is_named project) after t.projects)) dr.deviation)
    (λ dr before free. stands_put t.projects project after own dr
    (λ e still. of_project (is_deviation_of project dr) (deviates_from_mandatory plan dr.deviation)
    (subst (λ n. bytes_eq n project ≡ true) (same_name project dr.project e) (itself project)) free) before)
    t.deviations h room

-- ---- a deviation is put

deviated : (t : Tables) (project : List ℕ) (d : Deviation) → may_stand (project_named project t) d ≡ true
    → HasNoMandatoryDeviated t → HasNoMandatoryDeviated (put_deviation project d t)
deviated t project d own h = all_put
    (λ dr. may_stand (project_named dr.project t) dr.deviation)
    (is_deviation project d.id) (record { project = project; deviation = d }) own t.deviations h

-- ---- refusal 10

swapped : (a m : Bool) → not (m && (a && true)) ≡ true → not (a && m) ≡ true
swapped true true e = e
swapped true false e = refl
swapped false m e = refl

room_at : (a s : Bool) (old new c : Category) → not (a && is_mandatory old) ≡ true → not (is_mandatory c && (a && s)) ≡ true
    → (new ≡ old) ⊎ ((s ≡ true) × (new ≡ c)) → not (a && is_mandatory new) ≡ true
room_at a s old new c before none (inl e) = subst (λ x. not (a && is_mandatory x) ≡ true) (sym e) before
room_at a s old new c before none (inr e) =
    subst (λ x. not (a && is_mandatory x) ≡ true) (sym e.1)
    (swapped a (is_mandatory c) (subst (λ x. not (is_mandatory c && (a && x)) ≡ true) e.0 none))

room_by : (plan : Plan) (g : Guideline) (c : Category) (d : Deviation) (b : Bool) → not (b && deviates_from_mandatory plan d) ≡ true
    → not (b && (is_mandatory c && (is_approved d.status && same_guideline d.guideline g))) ≡ true
    → not (b && deviates_from_mandatory (plan_with g c plan) d) ≡ true
room_by plan g c d true before none =
    room_at (is_approved d.status) (same_guideline d.guideline g) (revised_category plan d.guideline)
    (revised_category (plan_with g c plan) d.guideline) c before none (revised_with g d.guideline c plan)
room_by plan g c d false before none = refl

all_free : {R : Type 0} (p : R → Bool) (rows : List R) → list_all (λ x. not (p x && false)) rows ≡ true
all_free p [] = refl
all_free p (r ∷ rows) = and_both (not (p r && false)) (list_all (λ x. not (p x && false)) rows) (free (p r)) (all_free p rows) where
  free : (b : Bool) → not (b && false) ≡ true
  free true = refl
  free false = refl

no_count : (n : ℕ) (b : Bool) (stop : DeskStop) → (n == 0) ≡ b → refuse_if (not b) stop ≡ None → n ≡ 0
no_count n true stop e r = eqb-true n 0 e
no_count n false stop e r = cc

none_by : {R D : Type 0} (m : Bool) (p : R → Bool) (f : D → Bool) (v : R → D) (rows : List R) (stop : DeskStop)
    → refuse_if (m && not (count_by f (map v (filter p rows)) == 0)) stop ≡ None
    → list_all (λ x. not (p x && (m && f (v x)))) rows ≡ true
none_by true p f v rows stop e =
    none_passes p f v rows (no_count (count_by f (map v (filter p rows))) (count_by f (map v (filter p rows)) == 0) stop refl e)
none_by false p f v rows stop e = all_free p rows

-- where refusal 10 does not hold, the plan with the new category leaves room too
room : (t : Tables) (project : List ℕ) (plan : Plan) (g : Guideline) (c : Category) → approved_against g c (deviations_of project t) ≡ None
    → list_all (leaves_room project plan) t.deviations ≡ true → list_all (leaves_room project (plan_with g c plan)) t.deviations ≡ true
room t project plan g c free h = all_two
    (leaves_room project plan)
    (λ dr. not (is_deviation_of project dr && (is_mandatory c && (is_approved dr.deviation.status && same_guideline dr.deviation.guideline g))))
    (leaves_room project (plan_with g c plan))
    (λ dr before none. room_by plan g c dr.deviation (is_deviation_of project dr) before none)
    t.deviations h
    (none_by (is_mandatory c) (is_deviation_of project) (λ d. is_approved d.status && same_guideline d.guideline g) (λ r. r.deviation) t.deviations
    (stops.HasApprovedDeviations (approved_for g (rows_of project t)))
    (subst (λ n. refuse_if (is_mandatory c && not (n == 0)) (stops.HasApprovedDeviations n) ≡ None)
    (count_sorted (λ d. is_approved d.status && same_guideline d.guideline g) (rows_of project t)) free))

-- the same of one guideline's entry, and of all entries
entry_room : (t : Tables) (project : List ℕ) (plan : Plan) (g : Guideline) (found : Option Category)
    → option_and_then (λ c. first_refusal (lowered g c ∷ approved_against g c (deviations_of project t) ∷ [])) found ≡ None
    → list_all (leaves_room project plan) t.deviations ≡ true
    → list_all (leaves_room project (option_map_or (λ c. plan_with g c plan) found plan)) t.deviations ≡ true
entry_room t project plan g None e h = h
entry_room t project plan g (Some c) e h =
    room t project plan g c (none_at (lowered g c ∷ approved_against g c (deviations_of project t) ∷ []) 1 e) h

entries_room : (t : Tables) (project : List ℕ) (entries : List Entry) (gs : List Guideline) (plan : Plan)
    → first_refusal (map (entry_refused entries (deviations_of project t)) gs) ≡ None
    → list_all (leaves_room project plan) t.deviations ≡ true
    → list_all (leaves_room project (fold (with_entry entries) plan gs)) t.deviations ≡ true
entries_room t project entries [] plan e h = h
entries_room t project entries (g ∷ gs) plan e h =
    let all = map (entry_refused entries (deviations_of project t)) (g ∷ gs) in
    entries_room t project entries gs (with_entry entries plan g)
    (later_refusal (entry_refused entries (deviations_of project t) g) (map (entry_refused entries (deviations_of project t)) gs) e)
    (entry_room t project plan g (category_in g entries) (none_at all 0 e) h)

first_room_by : (t : Tables) (project : List ℕ) (row : ProjectRow) (dr : DeviationRow) (b : Bool) → is_deviation_of project dr ≡ b
    → project_named project t ≡ Some row → may_stand (project_named dr.project t) dr.deviation ≡ true
    → not (b && deviates_from_mandatory row.plan dr.deviation) ≡ true
first_room_by t project row dr true e f before =
    let found = subst (λ n. project_named n t ≡ Some row) (sym (same_name dr.project project e)) f in
    subst (λ o. may_stand o dr.deviation ≡ true) found before
first_room_by t project row dr false e f before = refl

-- the plan as it stands leaves room
first_room : (t : Tables) (project : List ℕ) (row : ProjectRow) → project_named project t ≡ Some row → HasNoMandatoryDeviated t
    → list_all (leaves_room project row.plan) t.deviations ≡ true
first_room t project row f h = all_more
    (λ dr. may_stand (project_named dr.project t) dr.deviation)
    (leaves_room project row.plan)
    (λ dr before. first_room_by t project row dr (is_deviation_of project dr) refl f before)
    t.deviations h

-- ---- each command

not_refused : (b : Bool) (stop : DeskStop) → refuse_if b stop ≡ None → b ≡ false
not_refused true stop e = cc
not_refused false stop e = refl

not_there : (found : Option ProjectRow) (stop : DeskStop) → refuse_if (is_some found) stop ≡ None → found ≡ None
not_there None stop e = refl
not_there (Some row) stop e = cc

raise_ok : (t : Tables) (project : List ℕ) (d : Deviation) (found : Option ProjectRow) → project_named project t ≡ found
    → refuse_if (is_none found) stops.NoProject ≡ None → is_approved d.status ≡ false → HasNoMandatoryDeviated t → HasNoMandatoryDeviated (put_deviation project d t)
raise_ok t project d None f there fresh h = cc
raise_ok t project d (Some row) f there fresh h =
    let free : may_stand (Some row) d ≡ true = rw fresh refl in
    deviated t project d (subst (λ o. may_stand o d ≡ true) (sym f) free) h

approve_ok : (t : Tables) (project : List ℕ) (caller : Caller) (found : Option ProjectRow) (d : Option Deviation) → project_named project t ≡ found
    → refuse_if (is_none found) stops.NoProject ≡ None
    → option_and_then (λ d. refuse_if (is_mandatory (revised_category (option_map_or (λ row. row.plan) found misra_plan) d.guideline)) (stops.MandatoryNotDeviable d.guideline)) d ≡ None
    → HasNoMandatoryDeviated t → AfterEffect HasNoMandatoryDeviated (option_map (λ d. writes.SetDeviation project (approved_by caller d)) d) t
approve_ok t project caller found None f there free h = tt
approve_ok t project caller None (Some d) f there free h = cc
approve_ok t project caller (Some row) (Some d) f there free h =
    let optional = not_refused (is_mandatory (revised_category row.plan d.guideline)) (stops.MandatoryNotDeviable d.guideline) free in
    let stands : may_stand (Some row) (approved_by caller d) ≡ true = rw optional refl in
    deviated t project (approved_by caller d) (subst (λ o. may_stand o (approved_by caller d) ≡ true) (sym f) stands) h

recategorise_ok : (t : Tables) (project : List ℕ) (g : Guideline) (c : Category) (found : Option ProjectRow) → project_named project t ≡ found
    → approved_against g c (deviations_of project t) ≡ None → HasNoMandatoryDeviated t
    → HasNoMandatoryDeviated (put_plan found project (plan_with g c (option_map_or (λ row. row.plan) found misra_plan)) t)
recategorise_ok t project g c None f free h = h
recategorise_ok t project g c (Some row) f free h =
    replanned t project (Some row) (plan_with g c row.plan) f (room t project row.plan g c free (first_room t project row f h)) h

plan_ok : (t : Tables) (project : List ℕ) (entries : List Entry) (found : Option ProjectRow) → project_named project t ≡ found
    → first_refusal (entries_refused entries (deviations_of project t)) ≡ None → HasNoMandatoryDeviated t
    → HasNoMandatoryDeviated (put_plan found project (with_all_entries entries (option_map_or (λ row. row.plan) found misra_plan)) t)
unfolding entries_refused with_all_entries
plan_ok t project entries None f free h = h
plan_ok t project entries (Some row) f free h =
    replanned t project (Some row) (fold (with_entry entries) row.plan all_guidelines) f
    (entries_room t project entries all_guidelines row.plan free (first_room t project row f h)) h

-- a deviation that is rejected or withdrawn is not approved
closed_ok : (t : Tables) (project : List ℕ) (status : Status) (found : Option ProjectRow) (d : Option Deviation) → project_named project t ≡ found
    → refuse_if (is_none found) stops.NoProject ≡ None → is_approved status ≡ false → HasNoMandatoryDeviated t
    → AfterEffect HasNoMandatoryDeviated (option_map (λ d. writes.SetDeviation project (with_status status d)) d) t
closed_ok t project status found None f there fresh h = tt
closed_ok t project status found (Some d) f there fresh h = raise_ok t project (with_status status d) found f there fresh h

command_ok : (t : Tables) (caller : Caller) (command : Command) (report : Option Report)
    → first_refusal (row_for (view_of (name_of caller) (project_of command) t) caller command report).refusals ≡ None
    → HasNoMandatoryDeviated t → AfterEffect HasNoMandatoryDeviated (row_for (view_of (name_of caller) (project_of command) t) caller command report).effect t
command_ok t caller (commands.MakeProject name members) report e h =
    let row = row_for (view_of (name_of caller) name t) caller (commands.MakeProject name members) report in
    made t _ (not_there (project_named name t) stops.NameTaken (none_at row.refusals 0 e)) h
command_ok t caller (commands.Submit project length) report e h = submitted t project (project_named project t) _ _ refl h
command_ok t caller (commands.Raise project guideline function object reason permit) report e h =
    let row = row_for (view_of (name_of caller) project t) caller (commands.Raise project guideline function object reason permit) report in
    raise_ok t project _ (project_named project t) refl (none_at row.refusals 0 e) refl h
command_ok t caller (commands.Approve project id) report e h =
    let v = view_of (name_of caller) project t in
    let row = row_for v caller (commands.Approve project id) report in
    approve_ok t project caller (project_named project t) (deviation_with id v) refl (none_at row.refusals 0 e) (none_at row.refusals 5 e) h
command_ok t caller (commands.Recategorise project guideline category) report e h =
    let row = row_for (view_of (name_of caller) project t) caller (commands.Recategorise project guideline category) report in
    recategorise_ok t project guideline category (project_named project t) refl (none_at row.refusals 3 e) h
command_ok t caller (commands.Reject project id) report e h =
    let v = view_of (name_of caller) project t in
    let row = row_for v caller (commands.Reject project id) report in
    closed_ok t project statuses.Rejected (project_named project t) (deviation_with id v) refl (none_at row.refusals 0 e) refl h
command_ok t caller (commands.Withdraw project id) report e h =
    let v = view_of (name_of caller) project t in
    let row = row_for v caller (commands.Withdraw project id) report in
    closed_ok t project statuses.Withdrawn (project_named project t) (deviation_with id v) refl (none_at row.refusals 0 e) refl h
command_ok t caller (commands.AddPermit name guideline reason) report e h = h
command_ok t caller (commands.ApplyPlan project entries) report e h =
    let v = view_of (name_of caller) project t in
    let rest = entries_refused entries v.deviations in
    plan_ok t project entries (project_named project t) refl
    (later_refusal (not_member caller v) rest (later_refusal (no_project v) (not_member caller v ∷ rest) e)) h
command_ok t caller (commands.ReadSummary project) report e h = tt
command_ok t caller (commands.ReadFindings project) report e h = tt
command_ok t caller (commands.ReadClaim project) report e h = tt

-- ---- each step

keeping : (kept : Option KeptRow) (t : Tables) → HasNoMandatoryDeviated t → HasNoMandatoryDeviated (after_keeping kept t)
keeping None t h = h
keeping (Some row) t h = h

pub no_mandatory_is_deviated : NoMandatoryIsDeviated
no_mandatory_is_deviated t caller request command report h =
    step_keeps HasNoMandatoryDeviated t caller request command report keeping (λ none. command_ok t caller command report none h) h

run_ok : (t : Tables) (requests : List Request) → HasNoMandatoryDeviated t → HasNoMandatoryDeviated (tables_after t requests)
run_ok t [] h = h
run_ok t (r ∷ requests) h = run_ok (step_of t r) requests (no_mandatory_is_deviated t r.caller r.id r.command r.report h)

pub no_run_deviates_mandatory : NoRunDeviatesMandatory
no_run_deviates_mandatory requests = run_ok no_tables requests refl
