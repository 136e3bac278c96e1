-- The codings of kept rows and of changes.
use Rattle.std.specs.Prelude.{ℕ, Bool, true, false, ◌==◌, if◌then◌else◌, List, [], ◌∷◌, Option, Some, None}
use Rattle.misra_base.specs.declared.category.Plan.{Plan}
use Rattle.misra_base.specs.declared.deviation.Deviation.{Deviation}
use Rattle.misra_base.specs.declared.finding.Finding.{Finding}
use Rattle.desk_tables.specs.declared.change.Change.{Change}
use Rattle.desk_tables.specs.declared.change.Write.{Write}
use Rattle.desk_tables.specs.declared.change.Write.TheVariants as writes
use Rattle.desk_tables.specs.declared.command.Command.{Command}
use Rattle.desk_tables.specs.declared.reply.Reply.{Reply}
use Rattle.desk_tables.specs.declared.reply.Reply.TheVariants as replies
use Rattle.desk_tables.specs.declared.rows.KeptRow.{KeptRow}
use Rattle.desk_tables.specs.declared.rows.ProjectRow.{ProjectRow}
use Rattle.desk_coding.specs.Codings.{Coding, both, fields, number32, number64, optional, text}
use Rattle.desk_coding.specs.Commands.{command, made}
use Rattle.desk_coding.specs.Parts.{deviation, findings, names, optional_text, permit, plan}

-- ---- replies: the four that are kept

unfoldable pub revision : Coding (ℕ × ℕ)
revision = both number32 number64

abbrev pub reply_written : Reply → List ℕ
reply_written (replies.Made name) = 0 ∷ text.written name
reply_written (replies.Revision number found) = 1 ∷ revision.written (number, found)
reply_written (replies.Raised id) = 2 ∷ number32.written id
reply_written replies.Done = 3 ∷ []
reply_written _ = []

abbrev pub reply_fits : Reply → Bool
reply_fits (replies.Made name) = text.fits name
reply_fits (replies.Revision number found) = revision.fits (number, found)
reply_fits (replies.Raised id) = number32.fits id
reply_fits replies.Done = true
reply_fits _ = false

abbrev pub reply_by : ℕ → List ℕ → Option (Reply × List ℕ)
reply_by number bytes =
    if number == 0 then made text replies.Made bytes
    else (if number == 1 then made revision (λ p. replies.Revision p.0 p.1) bytes
    else (if number == 2 then made number32 replies.Raised bytes
    else (if number == 3 then Some (replies.Done, bytes)
    else None)))

abbrev pub reply_front : List ℕ → Option (Reply × List ℕ)
reply_front [] = None
reply_front (number ∷ bytes) = reply_by number bytes

unfoldable pub reply : Coding Reply
reply = record { written = reply_written; front = reply_front; fits = reply_fits }

-- ---- rows

abbrev pub kept_parts : KeptRow → List ℕ × (List ℕ × (Command × Reply))
kept_parts row = (row.caller, (row.request, (row.command, row.reply)))

abbrev pub kept_of : List ℕ × (List ℕ × (Command × Reply)) → KeptRow
kept_of p = record { caller = p.0; request = p.1.0; command = p.1.1.0; reply = p.1.1.1 }

unfoldable pub kept : Coding KeptRow
kept = fields kept_parts kept_of (both text (both text (both command reply)))

abbrev pub project_parts : ProjectRow → List ℕ × (Option (List ℕ) × (List (List ℕ) × (Plan × ℕ)))
project_parts row = (row.name, (row.maker, (row.members, (row.plan, row.revision))))

abbrev pub project_of : List ℕ × (Option (List ℕ) × (List (List ℕ) × (Plan × ℕ))) → ProjectRow
project_of p = record { name = p.0; maker = p.1.0; members = p.1.1.0; plan = p.1.1.1.0; revision = p.1.1.1.1 }

unfoldable pub project : Coding ProjectRow
project = fields project_parts project_of (both text (both optional_text (both names (both plan number32))))

-- ---- changes

unfoldable pub revising : Coding (List ℕ × (ℕ × List Finding))
revising = both text (both number32 findings)

unfoldable pub deviating : Coding (List ℕ × Deviation)
deviating = both text deviation

unfoldable pub replanning : Coding (List ℕ × Plan)
replanning = both text plan

abbrev pub write_written : Write → List ℕ
write_written (writes.NewProject row) = 0 ∷ project.written row
write_written (writes.NewRevision name number found) = 1 ∷ revising.written (name, (number, found))
write_written (writes.NewDeviation name d) = 2 ∷ deviating.written (name, d)
write_written (writes.SetDeviation name d) = 3 ∷ deviating.written (name, d)
write_written (writes.NewPermit row) = 4 ∷ permit.written row
write_written (writes.SetPlan name p) = 5 ∷ replanning.written (name, p)

abbrev pub write_fits : Write → Bool
write_fits (writes.NewProject row) = project.fits row
write_fits (writes.NewRevision name number found) = revising.fits (name, (number, found))
write_fits (writes.NewDeviation name d) = deviating.fits (name, d)
write_fits (writes.SetDeviation name d) = deviating.fits (name, d)
write_fits (writes.NewPermit row) = permit.fits row
write_fits (writes.SetPlan name p) = replanning.fits (name, p)

abbrev pub write_by : ℕ → List ℕ → Option (Write × List ℕ)
write_by number bytes =
    if number == 0 then made project writes.NewProject bytes
    else (if number == 1 then made revising (λ p. writes.NewRevision p.0 p.1.0 p.1.1) bytes
    else (if number == 2 then made deviating (λ p. writes.NewDeviation p.0 p.1) bytes
    else (if number == 3 then made deviating (λ p. writes.SetDeviation p.0 p.1) bytes
    else (if number == 4 then made permit writes.NewPermit bytes
    else (if number == 5 then made replanning (λ p. writes.SetPlan p.0 p.1) bytes
    else None)))))

abbrev pub write_front : List ℕ → Option (Write × List ℕ)
write_front [] = None
write_front (number ∷ bytes) = write_by number bytes

unfoldable pub write : Coding Write
write = record { written = write_written; front = write_front; fits = write_fits }

unfoldable pub optional_kept : Coding (Option KeptRow)
optional_kept = optional kept

abbrev pub change_parts : Change → Write × Option KeptRow
change_parts c = (c.write, c.kept)

abbrev pub change_of : Write × Option KeptRow → Change
change_of p = record { write = p.0; kept = p.1 }

unfoldable pub change : Coding Change
change = fields change_parts change_of (both write optional_kept)
