-- Whether two commands are the same.
use Rattle.std.specs.Prelude.{ℕ, Bool, false, ◌&&◌, ◌==◌, List, Option}
use Rattle.std.specs.Option.{option_eq}
use Rattle.std.specs.Str.{bytes_eq}
use Rattle.misra_base.specs.Guidelines.{same_guideline}
use Rattle.misra_base.specs.Names.{names_eq}
use Rattle.misra_base.specs.declared.guideline.Guideline.{Guideline}
use Rattle.misra_base.specs.declared.category.Category.{Category}
use Rattle.desk_tables.specs.declared.command.Command.{Command}
use Rattle.desk_tables.specs.declared.command.Command.TheVariants as commands
use Rattle.desk_core.specs.Entries.{Entry, same_category, same_entries}

-- whether a command is this one, word for word; a submission goes by its project and its length
abbrev pub is_make_project : List ℕ → List (List ℕ) → Command → Bool
is_make_project name members (commands.MakeProject n ms) = bytes_eq name n && names_eq members ms
is_make_project name members _ = false

abbrev pub is_submit : List ℕ → ℕ → Command → Bool
is_submit project length (commands.Submit p l) = bytes_eq project p && length == l
is_submit project length _ = false

abbrev pub is_raise : List ℕ → Guideline → List ℕ → List ℕ → List ℕ → Option (List ℕ) → Command → Bool
is_raise project guideline function object reason permit (commands.Raise p g f o r c) = bytes_eq project p && same_guideline guideline g && bytes_eq function f && bytes_eq object o && bytes_eq reason r && option_eq bytes_eq permit c
is_raise project guideline function object reason permit _ = false

abbrev pub is_approve : List ℕ → ℕ → Command → Bool
is_approve project deviation (commands.Approve p d) = bytes_eq project p && deviation == d
is_approve project deviation _ = false

abbrev pub is_reject : List ℕ → ℕ → Command → Bool
is_reject project deviation (commands.Reject p d) = bytes_eq project p && deviation == d
is_reject project deviation _ = false

abbrev pub is_withdraw : List ℕ → ℕ → Command → Bool
is_withdraw project deviation (commands.Withdraw p d) = bytes_eq project p && deviation == d
is_withdraw project deviation _ = false

abbrev pub is_add_permit : List ℕ → Guideline → List ℕ → Command → Bool
is_add_permit name guideline reason (commands.AddPermit n g r) = bytes_eq name n && same_guideline guideline g && bytes_eq reason r
is_add_permit name guideline reason _ = false

abbrev pub is_recategorise : List ℕ → Guideline → Category → Command → Bool
is_recategorise project guideline category (commands.Recategorise p g c) = bytes_eq project p && same_guideline guideline g && same_category category c
is_recategorise project guideline category _ = false

abbrev pub is_apply_plan : List ℕ → List Entry → Command → Bool
is_apply_plan project entries (commands.ApplyPlan p es) = bytes_eq project p && same_entries entries es
is_apply_plan project entries _ = false

abbrev pub is_read_summary : List ℕ → Command → Bool
is_read_summary project (commands.ReadSummary p) = bytes_eq project p
is_read_summary project _ = false

abbrev pub is_read_findings : List ℕ → Command → Bool
is_read_findings project (commands.ReadFindings p) = bytes_eq project p
is_read_findings project _ = false

abbrev pub is_read_claim : List ℕ → Command → Bool
is_read_claim project (commands.ReadClaim p) = bytes_eq project p
is_read_claim project _ = false

abbrev pub same_command : Command → Command → Bool
same_command (commands.MakeProject name members) b = is_make_project name members b
same_command (commands.Submit project length) b = is_submit project length b
same_command (commands.Raise project guideline function object reason permit) b = is_raise project guideline function object reason permit b
same_command (commands.Approve project deviation) b = is_approve project deviation b
same_command (commands.Reject project deviation) b = is_reject project deviation b
same_command (commands.Withdraw project deviation) b = is_withdraw project deviation b
same_command (commands.AddPermit name guideline reason) b = is_add_permit name guideline reason b
same_command (commands.Recategorise project guideline category) b = is_recategorise project guideline category b
same_command (commands.ApplyPlan project entries) b = is_apply_plan project entries b
same_command (commands.ReadSummary project) b = is_read_summary project b
same_command (commands.ReadFindings project) b = is_read_findings project b
same_command (commands.ReadClaim project) b = is_read_claim project b
