-- The codings of kept rows and of changes are exact.
use Rattle.std.proofs.Common.{◌≡◌, ℕ, true, List, [], ◌∷◌, ◌++◌, Some, refl, ap, subst}
use Rattle.std.proofs.lemmas.Option.{none-some, same_Some}
use Rattle.desk_tables.specs.declared.change.Write.{Write}
use Rattle.desk_tables.specs.declared.change.Write.TheVariants as writes
use Rattle.desk_tables.specs.declared.reply.Reply.{Reply}
use Rattle.desk_tables.specs.declared.reply.Reply.TheVariants as replies
use Rattle.desk_coding.specs.Codings.{number32, text}
use Rattle.desk_coding.specs.Parts.{permit}
use Rattle.desk_coding.specs.Rows.{revision, reply, reply_by, reply_fits, reply_front, reply_written, kept, kept_parts, kept_of, project, project_parts, project_of, revising, deviating, replanning, write, write_by, write_fits, write_front, write_written, optional_kept, change, change_parts, change_of}
use Rattle.desk_coding.proofs.Commands.{exact_command}
use Rattle.desk_coding.proofs.Exactness.{Exact, IsBytes, bytes_rest, exact_both, exact_fields, exact_number32, exact_number64, exact_optional, exact_text}
use Rattle.desk_coding.proofs.Parts.{exact_deviation, exact_findings, exact_names, exact_optional_text, exact_permit, exact_plan}
use Rattle.desk_coding.proofs.Tagged.{TakenSo, by_variant, one_of}

pub exact_revision : Exact revision
unfolding revision
exact_revision = exact_both exact_number32 exact_number64

taken_by_reply : (number : ℕ) (bytes : List ℕ) (y : Reply × List ℕ) → IsBytes bytes → reply_by number bytes ≡ Some y → TakenSo reply_written reply_fits (number ∷ bytes) y
taken_by_reply number bytes y is e0 =
    one_of number 0 _ _ y e0 (by_variant text exact_text reply_written reply_fits replies.Made 0 (λ p. refl) (λ p. refl) number bytes y is) (λ e1.
    one_of number 1 _ _ y e1 (by_variant revision exact_revision reply_written reply_fits (λ p. replies.Revision p.0 p.1) 1 (λ p. refl) (λ p. refl) number bytes y is) (λ e2.
    one_of number 2 _ _ y e2 (by_variant number32 exact_number32 reply_written reply_fits replies.Raised 2 (λ p. refl) (λ p. refl) number bytes y is) (λ e3.
    one_of number 3 _ _ y e3 (λ n f. subst (TakenSo reply_written reply_fits (number ∷ bytes)) (same_Some (replies.Done, bytes) y f) (ap (λ (k : ℕ). k ∷ bytes) n, refl)) (λ e4.
    absurd (none-some y e4)))))

taken_reply : (bytes : List ℕ) (x : Reply) (rest : List ℕ) → IsBytes bytes → reply_front bytes ≡ Some (x, rest) → (bytes ≡ reply_written x ++ rest) × (reply_fits x ≡ true)
taken_reply [] x rest is e = absurd cc
taken_reply (number ∷ bytes) x rest is e = taken_by_reply number bytes (x, rest) (bytes_rest number bytes is) e

again_reply : (x : Reply) (rest : List ℕ) → reply_fits x ≡ true → reply_front (reply_written x ++ rest) ≡ Some (x, rest)
again_reply (replies.Made name) rest fits = rw (exact_text.again name rest fits) refl
again_reply (replies.Revision number found) rest fits = rw (exact_revision.again (number, found) rest fits) refl
again_reply (replies.Raised id) rest fits = rw (exact_number32.again id rest fits) refl
again_reply replies.Done rest fits = refl
again_reply _ rest fits = absurd cc

pub exact_reply : Exact reply
unfolding reply
exact_reply = record { again = again_reply; takes = taken_reply }

pub exact_kept : Exact kept
unfolding kept
exact_kept = exact_fields kept_parts kept_of (λ x. refl) (λ p. refl) (exact_both exact_text (exact_both exact_text (exact_both exact_command exact_reply)))

pub exact_project : Exact project
unfolding project
exact_project = exact_fields project_parts project_of (λ x. refl) (λ p. refl) (exact_both exact_text (exact_both exact_optional_text (exact_both exact_names (exact_both exact_plan exact_number32))))

pub exact_revising : Exact revising
unfolding revising
exact_revising = exact_both exact_text (exact_both exact_number32 exact_findings)

pub exact_deviating : Exact deviating
unfolding deviating
exact_deviating = exact_both exact_text exact_deviation

pub exact_replanning : Exact replanning
unfolding replanning
exact_replanning = exact_both exact_text exact_plan

taken_by_write : (number : ℕ) (bytes : List ℕ) (y : Write × List ℕ) → IsBytes bytes → write_by number bytes ≡ Some y → TakenSo write_written write_fits (number ∷ bytes) y
taken_by_write number bytes y is e0 =
    one_of number 0 _ _ y e0 (by_variant project exact_project write_written write_fits writes.NewProject 0 (λ p. refl) (λ p. refl) number bytes y is) (λ e1.
    one_of number 1 _ _ y e1 (by_variant revising exact_revising write_written write_fits (λ p. writes.NewRevision p.0 p.1.0 p.1.1) 1 (λ p. refl) (λ p. refl) number bytes y is) (λ e2.
    one_of number 2 _ _ y e2 (by_variant deviating exact_deviating write_written write_fits (λ p. writes.NewDeviation p.0 p.1) 2 (λ p. refl) (λ p. refl) number bytes y is) (λ e3.
    one_of number 3 _ _ y e3 (by_variant deviating exact_deviating write_written write_fits (λ p. writes.SetDeviation p.0 p.1) 3 (λ p. refl) (λ p. refl) number bytes y is) (λ e4.
    one_of number 4 _ _ y e4 (by_variant permit exact_permit write_written write_fits writes.NewPermit 4 (λ p. refl) (λ p. refl) number bytes y is) (λ e5.
    one_of number 5 _ _ y e5 (by_variant replanning exact_replanning write_written write_fits (λ p. writes.SetPlan p.0 p.1) 5 (λ p. refl) (λ p. refl) number bytes y is) (λ e6.
    absurd (none-some y e6)))))))

taken_write : (bytes : List ℕ) (x : Write) (rest : List ℕ) → IsBytes bytes → write_front bytes ≡ Some (x, rest) → (bytes ≡ write_written x ++ rest) × (write_fits x ≡ true)
taken_write [] x rest is e = absurd cc
taken_write (number ∷ bytes) x rest is e = taken_by_write number bytes (x, rest) (bytes_rest number bytes is) e

again_write : (x : Write) (rest : List ℕ) → write_fits x ≡ true → write_front (write_written x ++ rest) ≡ Some (x, rest)
again_write (writes.NewProject row) rest fits = rw (exact_project.again row rest fits) refl
again_write (writes.NewRevision name number found) rest fits = rw (exact_revising.again (name, (number, found)) rest fits) refl
again_write (writes.NewDeviation name d) rest fits = rw (exact_deviating.again (name, d) rest fits) refl
again_write (writes.SetDeviation name d) rest fits = rw (exact_deviating.again (name, d) rest fits) refl
again_write (writes.NewPermit row) rest fits = rw (exact_permit.again row rest fits) refl
again_write (writes.SetPlan name p) rest fits = rw (exact_replanning.again (name, p) rest fits) refl

pub exact_write : Exact write
unfolding write
exact_write = record { again = again_write; takes = taken_write }

pub exact_optional_kept : Exact optional_kept
unfolding optional_kept
exact_optional_kept = exact_optional exact_kept

pub exact_change : Exact change
unfolding change
exact_change = exact_fields change_parts change_of (λ x. refl) (λ p. refl) (exact_both exact_write exact_optional_kept)
