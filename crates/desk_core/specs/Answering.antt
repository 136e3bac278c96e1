-- How a call of the desk answers, beside what the machine answers.
use Rattle.std.specs.Prelude.{◌≡◌, ◌≤◌, ◌⊎◌, ◌&&◌, ◌||◌, ℕ, Bool, true, false, List, Result, Ok, Err, Option, Some, None}
use Rattle.std.specs.Option.{is_some, is_none}
use Rattle.misra_base.specs.declared.permit.Permit.{Permit}
use Rattle.desk_tables.specs.declared.keeper.KeepStop.{KeepStop}
use Rattle.desk_tables.specs.declared.keeper.KeepStop.TheVariants as keep_stops
use Rattle.desk_tables.specs.declared.reply.Reply.{Reply}
use Rattle.desk_tables.specs.Causes.{Rose}
use Rattle.desk_tables.specs.Keepable.{is_keepable}
use Rattle.desk_tables.specs.Tables.{Tables}
use Rattle.desk_core.specs.declared.decision.Decision.{Decision}
use Rattle.desk_core.specs.declared.stop.DeskStop.{DeskStop}
use Rattle.desk_core.specs.declared.stop.DeskStop.TheVariants as stops
use Rattle.desk_core.specs.Refusals.{cited_permit, first_refusal}
use Rattle.desk_core.specs.Rows.{Row}

abbrev pub stop_for : KeepStop → DeskStop
stop_for keep_stops.Failed = stops.KeeperFault
stop_for keep_stops.Memory = stops.Memory

abbrev pub is_keeper_fault : DeskStop → Bool
is_keeper_fault stops.KeeperFault = true
is_keeper_fault _ = false

abbrev pub is_fault : {A : Type 0} → Result A DeskStop → Bool
is_fault (Ok a) = false
is_fault (Err stop) = is_keeper_fault stop

abbrev pub CountedIf : Bool → ℕ → ℕ → Type 0
CountedIf true before now = (before ≤ now) × Rose before now
CountedIf false before now = now ≡ before

-- a fault is answered exactly where the keeper's count rose in the call
abbrev pub Counted : {A : Type 0} → Result A DeskStop → ℕ → ℕ → Type 0
Counted result before now = CountedIf (is_fault result) before now

-- without an answer of the machine: a fault of the keeper, or want of memory
abbrev pub IsCutShort : DeskStop → Type 0
IsCutShort stop = (stop ≡ stops.KeeperFault) ⊎ (stop ≡ stops.Memory)

-- what was looked for is there, or is missing and refused so
abbrev pub Finds : {A : Type 0} → Option A → DeskStop → Result A DeskStop → Type 0
Finds found missing (Ok a) = found ≡ Some a
Finds found missing (Err stop) = ((found ≡ None) × (missing ≡ stop)) ⊎ IsCutShort stop

-- the permit that is cited, if one is; one that is not there is refused
abbrev pub Cites : Option (List ℕ) → List Permit → Result (Option Permit) DeskStop → Type 0
Cites cited permits (Ok found) = (found ≡ cited_permit cited permits) × ((is_some cited && is_none found) ≡ false)
Cites cited permits (Err stop) = (((is_some cited && is_none (cited_permit cited permits)) ≡ true) × (stops.NoPermit ≡ stop)) ⊎ IsCutShort stop

-- the refusal does not hold, or it answers
abbrev pub Passes : Option DeskStop → Result (Unit {0}) DeskStop → Type 0
Passes refusal (Ok a) = refusal ≡ None
Passes refusal (Err stop) = (refusal ≡ Some stop) ⊎ IsCutShort stop

-- the machine's answer, or none
abbrev pub Answers : {A : Type 0} → Result A DeskStop → Result A DeskStop → Type 0
Answers expected (Ok a) = expected ≡ Ok a
Answers expected (Err stop) = (expected ≡ Err stop) ⊎ IsCutShort stop

-- no refusal of the row holds, or the first answers
abbrev pub Decides : Row → Result Decision DeskStop → Type 0
Decides row (Ok d) = (first_refusal row.refusals ≡ None) × (d ≡ record { effect = row.effect; reply = row.reply })
Decides row (Err stop) = (first_refusal row.refusals ≡ Some stop) ⊎ IsCutShort stop

-- a decision that changes the tables has a reply that can be kept
abbrev pub is_keepable_decision : Decision → Bool
is_keepable_decision d = is_none d.effect || is_keepable d.reply

-- cut short: without memory the tables are as they were, after a keeper's fault they may be those of the whole command
abbrev pub LeavesCutShort : Tables → Tables → DeskStop → Option Tables → Type 0
LeavesCutShort before done stop after =
    ((stop ≡ stops.Memory) × (after ≡ Some before)) ⊎ ((stop ≡ stops.KeeperFault) × ((after ≡ Some before) ⊎ (after ≡ Some done)))

-- the change is made, or it is cut short
abbrev pub Makes : Tables → Tables → Result (Unit {0}) DeskStop → Option Tables → Type 0
Makes before done (Ok a) after = after ≡ Some done
Makes before done (Err stop) after = LeavesCutShort before done stop after

-- the machine's answer and its tables, or the command is cut short
abbrev pub Acts : Tables → Result Reply DeskStop × Tables → Result Reply DeskStop → Option Tables → Type 0
Acts before step (Ok reply) after = (step.0 ≡ Ok reply) × (after ≡ Some step.1)
Acts before step (Err stop) after = ((step.0 ≡ Err stop) × (after ≡ Some step.1)) ⊎ LeavesCutShort before step.1 stop after
