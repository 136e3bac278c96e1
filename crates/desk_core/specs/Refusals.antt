-- The refusals of the desk, each by itself: what stands against a command, where it does.
use Rattle.std.specs.Prelude.{ℕ, Bool, true, false, not, ◌&&◌, ◌||◌, ◌==◌, nat_lt, if◌then◌else◌, List, [], ◌∷◌, count_by, Option, Some, None}
use Rattle.std.specs.Option.{is_some, is_none, option_and_then}
use Rattle.std.specs.List.{find}
use Rattle.std.specs.Str.{bytes_eq}
use Rattle.misra_base.specs.Guidelines.{same_guideline}
use Rattle.misra_base.specs.declared.guideline.Guideline.{Guideline}
use Rattle.misra_base.specs.declared.deviation.Deviation.{Deviation}
use Rattle.misra_base.specs.declared.permit.Permit.{Permit}
use Rattle.misra_base.specs.declared.deviation.Status.{Status}
use Rattle.misra_base.specs.declared.deviation.Status.TheVariants as statuses
use Rattle.misra_base.specs.declared.category.Category.{Category}
use Rattle.compliance_core.specs.Categories.{is_allowed, is_mandatory, revised_category}
use Rattle.compliance_core.specs.Covers.{is_approved}
use Rattle.desk_tables.specs.declared.rows.Counts.{Counts}
use Rattle.desk_tables.specs.Tables.{is_permit}
use Rattle.desk_core.specs.declared.caller.Caller.{Caller}
use Rattle.desk_core.specs.declared.caller.Caller.TheVariants as callers
use Rattle.desk_core.specs.declared.stop.DeskStop.{DeskStop}
use Rattle.desk_core.specs.declared.stop.DeskStop.TheVariants as stops
use Rattle.desk_core.specs.Callers.{is_member_of, name_of}
use Rattle.desk_core.specs.View.{View, plan_of, revision_of, deviation_with}

abbrev pub refuse_if : Bool → DeskStop → Option DeskStop
refuse_if test stop = if test then Some stop else None

-- 1, 2, 12, 15: the project
abbrev pub no_project : View → Option DeskStop
no_project v = refuse_if (is_none v.project) stops.NoProject

abbrev pub name_taken : View → Option DeskStop
name_taken v = refuse_if (is_some v.project) stops.NameTaken

abbrev pub permit_taken : List ℕ → View → Option DeskStop
permit_taken name v = refuse_if (is_some (find (is_permit name) v.permits)) stops.NameTaken

abbrev pub not_member : Caller → View → Option DeskStop
not_member caller v = option_and_then (λ project. refuse_if (not (is_member_of caller project)) stops.NotMember) v.project

abbrev pub no_revision : View → Option DeskStop
no_revision v = refuse_if (revision_of v == 0) stops.NoRevision

-- 3, 4, 5: the deviation
abbrev pub no_deviation : ℕ → View → Option DeskStop
no_deviation id v = refuse_if (is_none (deviation_with id v)) stops.NoDeviation

abbrev pub is_raised : Status → Bool
is_raised statuses.Raised = true
is_raised _ = false

abbrev pub not_raised : ℕ → View → Option DeskStop
not_raised id v = option_and_then (λ d. refuse_if (not (is_raised d.status)) (stops.WrongState d.status)) (deviation_with id v)

-- a deviation that is raised or approved may be withdrawn
abbrev pub not_open : ℕ → View → Option DeskStop
not_open id v =
    option_and_then (λ d. refuse_if (not (is_raised d.status || is_approved d.status)) (stops.WrongState d.status)) (deviation_with id v)

-- who raised a deviation does not approve it
abbrev pub same_person : Caller → ℕ → View → Option DeskStop
same_person caller id v =
    option_and_then (λ d. refuse_if (bytes_eq d.raiser (name_of caller)) (stops.SamePerson (name_of caller))) (deviation_with id v)

-- 6: no deviation from a mandatory guideline
abbrev pub mandatory : Guideline → View → Option DeskStop
mandatory guideline v = refuse_if (is_mandatory (revised_category (plan_of v) guideline)) (stops.MandatoryNotDeviable guideline)

abbrev pub deviates_from_mandatory : ℕ → View → Option DeskStop
deviates_from_mandatory id v = option_and_then (λ d. mandatory d.guideline v) (deviation_with id v)

-- 7, 8: the permit that is cited
abbrev pub cited_permit : Option (List ℕ) → List Permit → Option Permit
cited_permit cited permits = option_and_then (λ name. find (λ row. bytes_eq row.name name) permits) cited

abbrev pub no_permit : Option (List ℕ) → View → Option DeskStop
no_permit cited v = refuse_if (is_some cited && is_none (cited_permit cited v.permits)) stops.NoPermit

abbrev pub permit_for_other : Guideline → Option (List ℕ) → View → Option DeskStop
permit_for_other guideline cited v =
    option_and_then (λ p. refuse_if (not (same_guideline p.guideline guideline)) (stops.PermitForOther p.guideline)) (cited_permit cited v.permits)

-- 9, 10: the plan
abbrev pub lowered : Guideline → Category → Option DeskStop
lowered guideline category = refuse_if (not (is_allowed guideline category)) (stops.Lowered guideline)

abbrev pub approved_for : Guideline → List Deviation → ℕ
approved_for guideline deviations = count_by (λ d. is_approved d.status && same_guideline d.guideline guideline) deviations

abbrev pub approved_against : Guideline → Category → List Deviation → Option DeskStop
approved_against guideline category deviations =
    refuse_if (is_mandatory category && not (approved_for guideline deviations == 0)) (stops.HasApprovedDeviations (approved_for guideline deviations))

abbrev pub still_deviated : Guideline → Category → View → Option DeskStop
still_deviated guideline category v = approved_against guideline category v.deviations

-- 14: one more would pass the limit
abbrev pub at_limit : ℕ → ℕ → Option DeskStop
at_limit most count = refuse_if (not (nat_lt count most)) (stops.LimitReached most)

-- nothing is kept for the console
abbrev pub too_many_of : Caller → Counts → Option DeskStop
too_many_of callers.Console counts = None
too_many_of (callers.Member name) counts = at_limit 100000 counts.kept

abbrev pub too_many_kept : Caller → View → Option DeskStop
too_many_kept caller v = too_many_of caller v.counts

-- the first of them that stands against the command
abbrev pub first_refusal : List (Option DeskStop) → Option DeskStop
first_refusal [] = None
first_refusal (None ∷ later) = first_refusal later
first_refusal (Some stop ∷ later) = Some stop
