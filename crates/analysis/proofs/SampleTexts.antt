-- The sample programs are those of texts.
use Rattle.std.proofs.Common.{◌≡◌, ◌≢◌, ℕ, List, [], ◌∷◌, None, Bool, true, false, refl, sym, ap, ◌∙◌, arith}
use Rattle.std.proofs.lemmas.Bool.{true≢false}
use Rattle.misra_base.specs.declared.finding.Finding.{Finding}
use Rattle.c_lexer.specs.Integers.{integer_literal}
use Rattle.c_lexer.specs.Identifiers.{is_reserved}
use Rattle.c_lexer.specs.Limits.{lexical_fault}
use Rattle.c_lexer.specs.Punctuators.{threes, pairs}
use Rattle.c_lexer.specs.TokenClasses.{class_rows, number_rows, class_of}
use Rattle.c_lexer.specs.Tokens.{lexed_of, tokens_of}
use Rattle.c_lexer.specs.TypedefNames.{with_typedef_names}
use Rattle.analysis.specs.Depths.{is_possible}
use Rattle.analysis.specs.Faults.{IsSupportedAs}
use Rattle.analysis.specs.Findings.{findings_of}
use Rattle.analysis.specs.Form.{Program, IsOfForm, words_of, words_in, IsProgramOf}
use Rattle.analysis.specs.Premises.{FormIsSupported, unlock_text, lock_text}
use Rattle.analysis.specs.Samples.{unlock_alone, lock_and_unlock}

unlock_form : IsOfForm unlock_alone
unfolding is_reserved number_rows class_rows
unlock_form = record { declarable = (refl, refl, tt); few = omega arith; declared = (omega arith, (omega arith, tt)) }

unlock_lexed : lexical_fault unlock_text ≡ None
unfolding unlock_text lexed_of integer_literal threes pairs
unlock_lexed = refl

unlock_words : words_in unlock_text ≡ words_of unlock_alone
unfolding unlock_text lexed_of tokens_of with_typedef_names integer_literal threes pairs class_of class_rows
unlock_words = refl

unlock_program : IsProgramOf unlock_text unlock_alone
unfolding unlock_text lexed_of tokens_of with_typedef_names integer_literal threes pairs class_of class_rows
unlock_program = record { of_form = unlock_form; words = unlock_words; places = refl }

pub unlock_supported : FormIsSupported → IsSupportedAs unlock_text unlock_alone
unlock_supported law =
    record { lexed = unlock_lexed; parsed = (law unlock_text unlock_alone unlock_lexed unlock_form unlock_words).1.parsed; program = unlock_program }

abbrev is_some_found : List Finding → Bool
is_some_found [] = false
is_some_found (f ∷ fs) = true

some_found : is_some_found (findings_of unlock_alone) ≡ true
unfolding is_possible
some_found = refl

pub unlock_finding : findings_of unlock_alone ≢ []
unlock_finding e = true≢false (sym some_found ∙ ap (λ (fs : List Finding). is_some_found fs) e)

lock_form : IsOfForm lock_and_unlock
unfolding is_reserved number_rows class_rows
lock_form = record { declarable = (refl, refl, tt); few = omega arith; declared = (omega arith, (omega arith, (omega arith, tt))) }

lock_lexed : lexical_fault lock_text ≡ None
unfolding lock_text lexed_of integer_literal threes pairs
lock_lexed = refl

lock_words : words_in lock_text ≡ words_of lock_and_unlock
unfolding lock_text lexed_of tokens_of with_typedef_names integer_literal threes pairs class_of class_rows
lock_words = refl

lock_program : IsProgramOf lock_text lock_and_unlock
unfolding lock_text lexed_of tokens_of with_typedef_names integer_literal threes pairs class_of class_rows
lock_program = record { of_form = lock_form; words = lock_words; places = refl }

pub lock_supported : FormIsSupported → IsSupportedAs lock_text lock_and_unlock
lock_supported law =
    record { lexed = lock_lexed; parsed = (law lock_text lock_and_unlock lock_lexed lock_form lock_words).1.parsed; program = lock_program }

pub lock_clean : findings_of lock_and_unlock ≡ []
unfolding is_possible
lock_clean = refl
