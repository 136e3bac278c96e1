-- Names by the numbers of their spellings, in the order of first appearance.
use Rattle.std.specs.Prelude.{ℕ, Bool, if◌then◌else◌, List, [], ◌∷◌, ◌++◌, map, length, position, unwrap_or}
use Rattle.std.specs.List.{list_any}
use Rattle.std.specs.Str.{bytes_eq}
use Rattle.std.specs.declared.vec.Vec.{Vec}
use Rattle.std.specs.declared.alloc.Global.{Global}
use Rattle.indexmap.specs.IndexSet.{IndexSet}
use Rattle.c_tree.specs.declared.expression.Word.{Word}
use Rattle.c_identifiers.specs.declared.event.Event.{Event}
use Rattle.c_identifiers.specs.declared.event.Event.TheVariants.{Open, Close, Mention, Parameter, Declare, Use}
use Rattle.c_visibility.specs.declared.spelled.Spot.{Spot}

module _ {S : Type 0} where
  -- the texts of a set
  abbrev pub texts : IndexSet (Vec ℕ Global) S → List (List ℕ)
  texts names = map (λ v. v.items) names.keys

abbrev pub with_word : List (List ℕ) → Word → List (List ℕ)
with_word names word = if list_any (bytes_eq word.text) names then names else names ++ word.text ∷ []

abbrev pub with_event : List (List ℕ) → Event → List (List ℕ)
with_event names Open = names
with_event names Close = names
with_event names (Mention word) = with_word names word
with_event names (Parameter form) = names
with_event names (Declare role form word) = with_word names word
with_event names (Use space usage word) = with_word names word

abbrev pub texts_from : List (List ℕ) → List Event → List (List ℕ)
texts_from names [] = names
texts_from names (e ∷ es) = texts_from (with_event names e) es

-- the spellings, each at its first appearance
abbrev pub texts_of : List Event → List (List ℕ)
texts_of = texts_from []

-- where a word stands among the spellings
abbrev pub number_of : List (List ℕ) → Word → ℕ
number_of names word = unwrap_or (position (bytes_eq word.text) names) (length names)

abbrev pub spot : List (List ℕ) → Word → Spot
spot names word = record { place = word.place; name = number_of names word }
