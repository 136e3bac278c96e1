-- Refusal 13: the forms of names and texts. Where several fields are faulty, the first answers.
use Rattle.std.specs.Prelude.{ℕ, Bool, true, not, ◌&&◌, ◌||◌, ◌==◌, nat_le, List, [], ◌∷◌, length, Option, Some, None}
use Rattle.std.specs.Char.{is_ascii_alphanumeric, is_ascii_graphic}
use Rattle.std.specs.List.{list_all, list_any}
use Rattle.std.specs.Str.{bytes_eq}
use Rattle.desk_tables.specs.declared.command.Command.{Command}
use Rattle.desk_tables.specs.declared.command.Command.TheVariants as commands
use Rattle.desk_core.specs.declared.caller.Caller.{Caller}
use Rattle.desk_core.specs.declared.caller.Caller.TheVariants as callers
use Rattle.desk_core.specs.declared.stop.DeskStop.{DeskStop}
use Rattle.desk_core.specs.declared.stop.DeskStop.TheVariants as stops
use Rattle.desk_core.specs.declared.stop.Field.{Field}
use Rattle.desk_core.specs.declared.stop.Field.TheVariants as fields
use Rattle.desk_core.specs.Entries.{are_single}
use Rattle.desk_core.specs.Refusals.{first_refusal, refuse_if}

abbrev pub has_length : {A : Type 0} → ℕ → ℕ → List A → Bool
has_length least most items = nat_le least (length items) && nat_le (length items) most

-- letters, digits, `_`, `-` and `.`
abbrev pub is_name_byte : ℕ → Bool
is_name_byte b = is_ascii_alphanumeric b || b == 95 || b == 45 || b == 46

-- of a project, a permit, a caller, a member and a request
abbrev pub is_name : List ℕ → Bool
is_name name = has_length 1 64 name && list_all is_name_byte name

-- of a function or an object; `*` is one too
abbrev pub is_word : List ℕ → Bool
is_word word = has_length 1 256 word && list_all is_ascii_graphic word

abbrev pub is_printable : ℕ → Bool
is_printable b = b == 32 || is_ascii_graphic b

abbrev pub is_reason : List ℕ → Bool
is_reason reason = has_length 1 1000 reason && list_all is_printable reason

abbrev pub are_different : List (List ℕ) → Bool
are_different [] = true
are_different (name ∷ names) = not (list_any (λ other. bytes_eq other name) names) && are_different names

abbrev pub are_members : List (List ℕ) → Bool
are_members members = has_length 1 32 members && list_all is_name members && are_different members

-- ---- what stands against a request

abbrev pub unless_formed : Field → Bool → Option DeskStop
unless_formed field formed = refuse_if (not formed) (stops.BadText field)

abbrev pub bad_caller : Caller → Option DeskStop
bad_caller callers.Console = None
bad_caller (callers.Member name) = unless_formed fields.Caller (is_name name)

-- an id or a permit that may be left out
abbrev pub bad_choice : Field → Option (List ℕ) → Option DeskStop
bad_choice field None = None
bad_choice field (Some name) = unless_formed field (is_name name)

abbrev pub bad_project : List ℕ → Option DeskStop
bad_project project = unless_formed fields.Project (is_name project)

abbrev pub bad_fields : Command → List (Option DeskStop)
bad_fields (commands.MakeProject name members) =
    unless_formed fields.Name (is_name name) ∷ unless_formed fields.Members (are_members members) ∷ []
bad_fields (commands.Submit project length) = bad_project project ∷ []
bad_fields (commands.Raise project guideline function object reason permit) =
    bad_project project ∷ unless_formed fields.Function (is_word function) ∷ unless_formed fields.Object (is_word object)
    ∷ unless_formed fields.Reason (is_reason reason) ∷ bad_choice fields.Permit permit ∷ []
bad_fields (commands.Approve project deviation) = bad_project project ∷ []
bad_fields (commands.Reject project deviation) = bad_project project ∷ []
bad_fields (commands.Withdraw project deviation) = bad_project project ∷ []
bad_fields (commands.AddPermit name guideline reason) =
    unless_formed fields.Name (is_name name) ∷ unless_formed fields.Reason (is_reason reason) ∷ []
bad_fields (commands.Recategorise project guideline category) = bad_project project ∷ []
bad_fields (commands.ApplyPlan project entries) = bad_project project ∷ unless_formed fields.Entries (are_single entries) ∷ []
bad_fields (commands.ReadSummary project) = bad_project project ∷ []
bad_fields (commands.ReadFindings project) = bad_project project ∷ []
bad_fields (commands.ReadClaim project) = bad_project project ∷ []

abbrev pub bad_text : Caller → Option (List ℕ) → Command → Option DeskStop
bad_text caller request command = first_refusal (bad_caller caller ∷ bad_choice fields.Request request ∷ bad_fields command)
