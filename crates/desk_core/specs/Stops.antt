-- The numbers and the names of refusals, and the names of fields.
use Rattle.std.specs.Prelude.{ℕ, List, codes}
use Rattle.desk_core.specs.declared.stop.DeskStop.{DeskStop}
use Rattle.desk_core.specs.declared.stop.DeskStop.TheVariants as stops
use Rattle.desk_core.specs.declared.stop.Field.{Field}
use Rattle.desk_core.specs.declared.stop.Field.TheVariants as fields

abbrev pub stop_number : DeskStop → ℕ
stop_number stops.NoProject = 1
stop_number stops.NameTaken = 2
stop_number stops.NoDeviation = 3
stop_number (stops.WrongState status) = 4
stop_number (stops.SamePerson name) = 5
stop_number (stops.MandatoryNotDeviable guideline) = 6
stop_number (stops.PermitForOther guideline) = 7
stop_number stops.NoPermit = 8
stop_number (stops.Lowered guideline) = 9
stop_number (stops.HasApprovedDeviations count) = 10
stop_number (stops.RequestIdReused command) = 11
stop_number stops.NotMember = 12
stop_number (stops.BadText field) = 13
stop_number (stops.LimitReached most) = 14
stop_number stops.NoRevision = 15
stop_number stops.KeeperFault = 16
stop_number stops.Memory = 17

abbrev pub stop_name : DeskStop → List ℕ
stop_name stops.NoProject = codes "NoProject"
stop_name stops.NameTaken = codes "NameTaken"
stop_name stops.NoDeviation = codes "NoDeviation"
stop_name (stops.WrongState status) = codes "WrongState"
stop_name (stops.SamePerson name) = codes "SamePerson"
stop_name (stops.MandatoryNotDeviable guideline) = codes "MandatoryNotDeviable"
stop_name (stops.PermitForOther guideline) = codes "PermitForOther"
stop_name stops.NoPermit = codes "NoPermit"
stop_name (stops.Lowered guideline) = codes "Lowered"
stop_name (stops.HasApprovedDeviations count) = codes "HasApprovedDeviations"
stop_name (stops.RequestIdReused command) = codes "RequestIdReused"
stop_name stops.NotMember = codes "NotMember"
stop_name (stops.BadText field) = codes "BadText"
stop_name (stops.LimitReached most) = codes "LimitReached"
stop_name stops.NoRevision = codes "NoRevision"
stop_name stops.KeeperFault = codes "KeeperFault"
stop_name stops.Memory = codes "Memory"

abbrev pub field_name : Field → List ℕ
field_name fields.Caller = codes "Caller"
field_name fields.Request = codes "Request"
field_name fields.Project = codes "Project"
field_name fields.Name = codes "Name"
field_name fields.Members = codes "Members"
field_name fields.Function = codes "Function"
field_name fields.Object = codes "Object"
field_name fields.Reason = codes "Reason"
field_name fields.Permit = codes "Permit"
field_name fields.Entries = codes "Entries"
