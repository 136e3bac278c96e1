-- The form of a deviation's object: a pattern where `[*]` stands in it.
use Rattle.std.specs.Prelude.{ℕ, Bool, false, ◌||◌, if◌then◌else◌, List, [], ◌∷◌, take, codes}
use Rattle.std.specs.Str.{bytes_eq}
use Rattle.misra_base.specs.declared.deviation.Form.{Form}
use Rattle.misra_base.specs.declared.deviation.Form.TheVariants as forms

abbrev pub begins_with_any_index : List ℕ → Bool
begins_with_any_index text = bytes_eq (take 3 text) (codes "[*]")

abbrev pub has_any_index : List ℕ → Bool
has_any_index [] = false
has_any_index (b ∷ text) = begins_with_any_index (b ∷ text) || has_any_index text

abbrev pub form_of : List ℕ → Form
form_of object = if has_any_index object then forms.Pattern else forms.Text
