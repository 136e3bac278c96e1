-- The body of the reply to a command that the desk refuses: the refusal's name and number, and what stands against the command.
use Rattle.std.specs.Prelude.{ℕ, List, codes}
use Rattle.serde_json.specs.Data.{Data, null, number, unsigned, string, object, member, no_members}
use Rattle.misra_base.specs.Guidelines.{guideline_text}
use Rattle.misra_base.specs.Words.{status_word}
use Rattle.desk_tables.specs.declared.command.Command.{Command}
use Rattle.desk_tables.specs.declared.command.Command.TheVariants as commands
use Rattle.desk_core.specs.Stops.{field_name, stop_name, stop_number}
use Rattle.desk_core.specs.declared.stop.DeskStop.{DeskStop}
use Rattle.desk_core.specs.declared.stop.DeskStop.TheVariants as stops
use Rattle.desk_json.specs.Replies.{count_data, text_data}

abbrev pub command_name : Command → List ℕ
command_name (commands.MakeProject name members) = codes "MakeProject"
command_name (commands.Submit project length) = codes "Submit"
command_name (commands.Raise project guideline function target reason permit) = codes "Raise"
command_name (commands.Approve project deviation) = codes "Approve"
command_name (commands.Reject project deviation) = codes "Reject"
command_name (commands.Withdraw project deviation) = codes "Withdraw"
command_name (commands.AddPermit name guideline reason) = codes "AddPermit"
command_name (commands.Recategorise project guideline category) = codes "Recategorise"
command_name (commands.ApplyPlan project entries) = codes "ApplyPlan"
command_name (commands.ReadSummary project) = codes "ReadSummary"
command_name (commands.ReadFindings project) = codes "ReadFindings"
command_name (commands.ReadClaim project) = codes "ReadClaim"

-- the status that stands, the person, the guideline, the count, the field, the limit, or the name of the kept command
abbrev pub against : DeskStop → Data
against stops.NoProject = null
against stops.NameTaken = null
against stops.NoDeviation = null
against (stops.WrongState status) = string (status_word status)
against (stops.SamePerson name) = text_data name
against (stops.MandatoryNotDeviable guideline) = string (guideline_text guideline)
against (stops.PermitForOther guideline) = string (guideline_text guideline)
against stops.NoPermit = null
against (stops.Lowered guideline) = string (guideline_text guideline)
against (stops.HasApprovedDeviations count) = count_data count
against (stops.RequestIdReused command) = string (command_name command)
against stops.NotMember = null
against (stops.BadText field) = string (field_name field)
against (stops.LimitReached most) = count_data most
against stops.NoRevision = null
against stops.KeeperFault = null
against stops.Memory = null

abbrev pub stop_data : DeskStop → Data
stop_data stop =
    object (member (codes "name") (string (stop_name stop))
    (member (codes "refusal") (count_data (stop_number stop))
    (member (codes "value") (against stop) no_members)))
