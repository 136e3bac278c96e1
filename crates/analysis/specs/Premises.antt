-- That the premises of the laws are met: texts of the form are supported, and the sample programs are those of texts.
use Rattle.std.specs.Prelude.{◌≡◌, ◌≢◌, ℕ, List, [], ◌∷◌, ◌++◌, flat_map, codes, None}
use Rattle.c_lexer.specs.Limits.{lexical_fault}
use Rattle.analysis.specs.Form.{Program, IsOfForm, words_of, words_in}
use Rattle.analysis.specs.Faults.{IsSupportedAs}

-- a text whose tokens have no fault and are those of the form has a syntax and a program
abbrev pub FormIsSupported : Type 0
FormIsSupported = (text : List ℕ) (p : Program) → lexical_fault text ≡ None → IsOfForm p → words_in text ≡ words_of p → (q : Program) × IsSupportedAs text q

-- ---- texts, line by line

abbrev pub lines : List (List ℕ) → List ℕ
lines texts = flat_map (λ line. line ++ 10 ∷ []) texts

abbrev pub sample_text : List (List ℕ) → List ℕ
sample_text calls =
    lines (codes "#include <threads.h>" ∷ codes "static mtx_t m;" ∷ codes "int main(void)" ∷ codes "{" ∷ codes "    (void)mtx_init(&m, mtx_plain);" ∷ [])
    ++ (lines calls ++ lines (codes "    return 0;" ∷ codes "}" ∷ []))

-- the text of the program that unlocks what it does not own
unfoldable pub unlock_text : List ℕ
unlock_text = sample_text (codes "    (void)mtx_unlock(&m);" ∷ [])

-- and of the one that locks first
unfoldable pub lock_text : List ℕ
lock_text = sample_text (codes "    (void)mtx_lock(&m);" ∷ codes "    (void)mtx_unlock(&m);" ∷ [])
