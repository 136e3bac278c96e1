-- The coding of commands: the byte of the variant, in the order of the commands' table, and its fields.
use Rattle.std.specs.Prelude.{ℕ, Bool, ◌==◌, if◌then◌else◌, List, [], ◌∷◌, Option, None}
use Rattle.std.specs.Option.{option_map}
use Rattle.misra_base.specs.declared.category.Category.{Category}
use Rattle.misra_base.specs.declared.guideline.Guideline.{Guideline}
use Rattle.desk_tables.specs.declared.command.Command.{Command}
use Rattle.desk_tables.specs.declared.command.Command.TheVariants as commands
use Rattle.desk_coding.specs.Codings.{Coding, both, number32, text}
use Rattle.desk_coding.specs.Parts.{category, entries, guideline, names, optional_text}

unfoldable pub making : Coding (List ℕ × List (List ℕ))
making = both text names

-- a project and a number: a length, or the id of a deviation
unfoldable pub numbered : Coding (List ℕ × ℕ)
numbered = both text number32

unfoldable pub raising : Coding (List ℕ × (Guideline × (List ℕ × (List ℕ × (List ℕ × Option (List ℕ))))))
raising = both text (both guideline (both text (both text (both text optional_text))))

unfoldable pub permitting : Coding (List ℕ × (Guideline × List ℕ))
permitting = both text (both guideline text)

unfoldable pub recategorising : Coding (List ℕ × (Guideline × Category))
recategorising = both text (both guideline category)

unfoldable pub planning : Coding (List ℕ × List (Guideline × Category))
planning = both text entries

abbrev pub command_written : Command → List ℕ
command_written (commands.MakeProject name members) = 0 ∷ making.written (name, members)
command_written (commands.Submit project length) = 1 ∷ numbered.written (project, length)
command_written (commands.Raise project of function object reason cited) = 2 ∷ raising.written (project, (of, (function, (object, (reason, cited)))))
command_written (commands.Approve project id) = 3 ∷ numbered.written (project, id)
command_written (commands.Reject project id) = 4 ∷ numbered.written (project, id)
command_written (commands.Withdraw project id) = 5 ∷ numbered.written (project, id)
command_written (commands.AddPermit name of reason) = 6 ∷ permitting.written (name, (of, reason))
command_written (commands.Recategorise project of to) = 7 ∷ recategorising.written (project, (of, to))
command_written (commands.ApplyPlan project all) = 8 ∷ planning.written (project, all)
command_written (commands.ReadSummary project) = 9 ∷ text.written project
command_written (commands.ReadFindings project) = 10 ∷ text.written project
command_written (commands.ReadClaim project) = 11 ∷ text.written project

abbrev pub command_fits : Command → Bool
command_fits (commands.MakeProject name members) = making.fits (name, members)
command_fits (commands.Submit project length) = numbered.fits (project, length)
command_fits (commands.Raise project of function object reason cited) = raising.fits (project, (of, (function, (object, (reason, cited)))))
command_fits (commands.Approve project id) = numbered.fits (project, id)
command_fits (commands.Reject project id) = numbered.fits (project, id)
command_fits (commands.Withdraw project id) = numbered.fits (project, id)
command_fits (commands.AddPermit name of reason) = permitting.fits (name, (of, reason))
command_fits (commands.Recategorise project of to) = recategorising.fits (project, (of, to))
command_fits (commands.ApplyPlan project all) = planning.fits (project, all)
command_fits (commands.ReadSummary project) = text.fits project
command_fits (commands.ReadFindings project) = text.fits project
command_fits (commands.ReadClaim project) = text.fits project

-- a variant by its fields
abbrev pub made : {X P : Type 0} → Coding P → (P → X) → List ℕ → Option (X × List ℕ)
made coding variant bytes = option_map (λ p. (variant p.0, p.1)) (coding.front bytes)

abbrev pub command_by : ℕ → List ℕ → Option (Command × List ℕ)
command_by number bytes =
    if number == 0 then made making (λ p. commands.MakeProject p.0 p.1) bytes
    else (if number == 1 then made numbered (λ p. commands.Submit p.0 p.1) bytes
    else (if number == 2 then made raising (λ p. commands.Raise p.0 p.1.0 p.1.1.0 p.1.1.1.0 p.1.1.1.1.0 p.1.1.1.1.1) bytes
    else (if number == 3 then made numbered (λ p. commands.Approve p.0 p.1) bytes
    else (if number == 4 then made numbered (λ p. commands.Reject p.0 p.1) bytes
    else (if number == 5 then made numbered (λ p. commands.Withdraw p.0 p.1) bytes
    else (if number == 6 then made permitting (λ p. commands.AddPermit p.0 p.1.0 p.1.1) bytes
    else (if number == 7 then made recategorising (λ p. commands.Recategorise p.0 p.1.0 p.1.1) bytes
    else (if number == 8 then made planning (λ p. commands.ApplyPlan p.0 p.1) bytes
    else (if number == 9 then made text commands.ReadSummary bytes
    else (if number == 10 then made text commands.ReadFindings bytes
    else (if number == 11 then made text commands.ReadClaim bytes
    else None)))))))))))

abbrev pub command_front : List ℕ → Option (Command × List ℕ)
command_front [] = None
command_front (number ∷ bytes) = command_by number bytes

unfoldable pub command : Coding Command
command = record { written = command_written; front = command_front; fits = command_fits }
