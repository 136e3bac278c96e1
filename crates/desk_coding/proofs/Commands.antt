-- The coding of commands is exact.
use Rattle.std.proofs.Common.{◌≡◌, ℕ, true, List, [], ◌∷◌, ◌++◌, Some, refl}
use Rattle.std.proofs.lemmas.Option.{none-some}
use Rattle.desk_tables.specs.declared.command.Command.{Command}
use Rattle.desk_tables.specs.declared.command.Command.TheVariants as commands
use Rattle.desk_coding.specs.Codings.{text}
use Rattle.desk_coding.specs.Commands.{making, numbered, raising, permitting, recategorising, planning, command, command_by, command_fits, command_front, command_written}
use Rattle.desk_coding.proofs.Exactness.{Exact, IsBytes, bytes_rest, exact_both, exact_number32, exact_text}
use Rattle.desk_coding.proofs.Parts.{exact_category, exact_entries, exact_guideline, exact_names, exact_optional_text}
use Rattle.desk_coding.proofs.Tagged.{TakenSo, by_variant, one_of}

pub exact_making : Exact making
unfolding making
exact_making = exact_both exact_text exact_names

pub exact_numbered : Exact numbered
unfolding numbered
exact_numbered = exact_both exact_text exact_number32

pub exact_raising : Exact raising
unfolding raising
exact_raising = exact_both exact_text (exact_both exact_guideline (exact_both exact_text (exact_both exact_text (exact_both exact_text exact_optional_text))))

pub exact_permitting : Exact permitting
unfolding permitting
exact_permitting = exact_both exact_text (exact_both exact_guideline exact_text)

pub exact_recategorising : Exact recategorising
unfolding recategorising
exact_recategorising = exact_both exact_text (exact_both exact_guideline exact_category)

pub exact_planning : Exact planning
unfolding planning
exact_planning = exact_both exact_text exact_entries

taken_by_command : (number : ℕ) (bytes : List ℕ) (y : Command × List ℕ) → IsBytes bytes → command_by number bytes ≡ Some y → TakenSo command_written command_fits (number ∷ bytes) y
taken_by_command number bytes y is e0 =
    one_of number 0 _ _ y e0 (by_variant making exact_making command_written command_fits (λ p. commands.MakeProject p.0 p.1) 0 (λ p. refl) (λ p. refl) number bytes y is) (λ e1.
    one_of number 1 _ _ y e1 (by_variant numbered exact_numbered command_written command_fits (λ p. commands.Submit p.0 p.1) 1 (λ p. refl) (λ p. refl) number bytes y is) (λ e2.
    one_of number 2 _ _ y e2 (by_variant raising exact_raising command_written command_fits (λ p. commands.Raise p.0 p.1.0 p.1.1.0 p.1.1.1.0 p.1.1.1.1.0 p.1.1.1.1.1) 2 (λ p. refl) (λ p. refl) number bytes y is) (λ e3.
    one_of number 3 _ _ y e3 (by_variant numbered exact_numbered command_written command_fits (λ p. commands.Approve p.0 p.1) 3 (λ p. refl) (λ p. refl) number bytes y is) (λ e4.
    one_of number 4 _ _ y e4 (by_variant numbered exact_numbered command_written command_fits (λ p. commands.Reject p.0 p.1) 4 (λ p. refl) (λ p. refl) number bytes y is) (λ e5.
    one_of number 5 _ _ y e5 (by_variant numbered exact_numbered command_written command_fits (λ p. commands.Withdraw p.0 p.1) 5 (λ p. refl) (λ p. refl) number bytes y is) (λ e6.
    one_of number 6 _ _ y e6 (by_variant permitting exact_permitting command_written command_fits (λ p. commands.AddPermit p.0 p.1.0 p.1.1) 6 (λ p. refl) (λ p. refl) number bytes y is) (λ e7.
    one_of number 7 _ _ y e7 (by_variant recategorising exact_recategorising command_written command_fits (λ p. commands.Recategorise p.0 p.1.0 p.1.1) 7 (λ p. refl) (λ p. refl) number bytes y is) (λ e8.
    one_of number 8 _ _ y e8 (by_variant planning exact_planning command_written command_fits (λ p. commands.ApplyPlan p.0 p.1) 8 (λ p. refl) (λ p. refl) number bytes y is) (λ e9.
    one_of number 9 _ _ y e9 (by_variant text exact_text command_written command_fits commands.ReadSummary 9 (λ p. refl) (λ p. refl) number bytes y is) (λ e10.
    one_of number 10 _ _ y e10 (by_variant text exact_text command_written command_fits commands.ReadFindings 10 (λ p. refl) (λ p. refl) number bytes y is) (λ e11.
    one_of number 11 _ _ y e11 (by_variant text exact_text command_written command_fits commands.ReadClaim 11 (λ p. refl) (λ p. refl) number bytes y is) (λ e12.
    absurd (none-some y e12)))))))))))))

taken_command : (bytes : List ℕ) (x : Command) (rest : List ℕ) → IsBytes bytes → command_front bytes ≡ Some (x, rest) → (bytes ≡ command_written x ++ rest) × (command_fits x ≡ true)
taken_command [] x rest is e = absurd cc
taken_command (number ∷ bytes) x rest is e = taken_by_command number bytes (x, rest) (bytes_rest number bytes is) e

again_command : (x : Command) (rest : List ℕ) → command_fits x ≡ true → command_front (command_written x ++ rest) ≡ Some (x, rest)
again_command (commands.MakeProject name members) rest fits = rw (exact_making.again (name, members) rest fits) refl
again_command (commands.Submit project length) rest fits = rw (exact_numbered.again (project, length) rest fits) refl
again_command (commands.Raise project of function object reason cited) rest fits = rw (exact_raising.again (project, (of, (function, (object, (reason, cited))))) rest fits) refl
again_command (commands.Approve project id) rest fits = rw (exact_numbered.again (project, id) rest fits) refl
again_command (commands.Reject project id) rest fits = rw (exact_numbered.again (project, id) rest fits) refl
again_command (commands.Withdraw project id) rest fits = rw (exact_numbered.again (project, id) rest fits) refl
again_command (commands.AddPermit name of reason) rest fits = rw (exact_permitting.again (name, (of, reason)) rest fits) refl
again_command (commands.Recategorise project of to) rest fits = rw (exact_recategorising.again (project, (of, to)) rest fits) refl
again_command (commands.ApplyPlan project all) rest fits = rw (exact_planning.again (project, all) rest fits) refl
again_command (commands.ReadSummary project) rest fits = rw (exact_text.again project rest fits) refl
again_command (commands.ReadFindings project) rest fits = rw (exact_text.again project rest fits) refl
again_command (commands.ReadClaim project) rest fits = rw (exact_text.again project rest fits) refl

pub exact_command : Exact command
unfolding command
exact_command = record { again = again_command; takes = taken_command }
