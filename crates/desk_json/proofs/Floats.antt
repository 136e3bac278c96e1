-- No body has a float, so the text of each is the one of its value.
use Rattle.std.proofs.Common.{◌≡◌, ℕ, Bool, List, [], ◌∷◌, ◌||◌, false, map, Some, None, refl, arith}
use Rattle.serde_json.specs.View.{items_of}
use Rattle.serde_json.specs.Written.{has_float, items_have_float}
use Rattle.misra_base.specs.declared.refusal.Refusal.{Refusal}
use Rattle.misra_base.specs.declared.summary.SummaryRow.{SummaryRow}
use Rattle.desk_tables.specs.declared.found.Found.{Found}
use Rattle.desk_tables.specs.declared.reply.Reply.{Reply}
use Rattle.desk_tables.specs.declared.reply.Reply.TheVariants as replies
use Rattle.desk_core.specs.declared.stop.DeskStop.{DeskStop}
use Rattle.desk_core.specs.declared.stop.DeskStop.TheVariants as stops
use Rattle.desk_json.specs.Refusals.{stop_data}
use Rattle.desk_json.specs.Replies.{found_data, refusal_data, reply_data, row_data}

found_rows_have_none : (rows : List Found) → items_have_float (items_of (map found_data rows)) ≡ false
found_rows_have_none [] = refl
found_rows_have_none (row ∷ rows) = found_rows_have_none rows

summary_rows_have_none : (rows : List SummaryRow) → items_have_float (items_of (map row_data rows)) ≡ false
summary_rows_have_none [] = refl
summary_rows_have_none (row ∷ rows) = summary_rows_have_none rows

or_false : (b : Bool) → b ≡ false → b || false ≡ false
or_false b is = grind (arith, is)

pub reply_has_none : (reply : Reply) → has_float (reply_data reply) ≡ false
reply_has_none (replies.Made name) = refl
reply_has_none (replies.Revision number findings) = refl
reply_has_none (replies.Raised id) = refl
reply_has_none replies.Done = refl
reply_has_none (replies.Summary revision rows) = or_false (items_have_float (items_of (map row_data rows))) (summary_rows_have_none rows)
reply_has_none (replies.Findings revision rows) = or_false (items_have_float (items_of (map found_data rows))) (found_rows_have_none rows)
reply_has_none (replies.Claim revision None) = refl
reply_has_none (replies.Claim revision (Some guideline)) = refl

pub refusal_has_none : (refusal : Refusal) → has_float (refusal_data refusal) ≡ false
refusal_has_none refusal = refl

pub stop_has_none : (stop : DeskStop) → has_float (stop_data stop) ≡ false
stop_has_none stops.NoProject = refl
stop_has_none stops.NameTaken = refl
stop_has_none stops.NoDeviation = refl
stop_has_none (stops.WrongState status) = refl
stop_has_none (stops.SamePerson name) = refl
stop_has_none (stops.MandatoryNotDeviable guideline) = refl
stop_has_none (stops.PermitForOther guideline) = refl
stop_has_none stops.NoPermit = refl
stop_has_none (stops.Lowered guideline) = refl
stop_has_none (stops.HasApprovedDeviations count) = refl
stop_has_none (stops.RequestIdReused command) = refl
stop_has_none stops.NotMember = refl
stop_has_none (stops.BadText field) = refl
stop_has_none (stops.LimitReached most) = refl
stop_has_none stops.NoRevision = refl
stop_has_none stops.KeeperFault = refl
stop_has_none stops.Memory = refl
