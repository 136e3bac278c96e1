-- The lines of a schedule: `THREAD PAIR` and up to three values, parted by one space, and LF.
use Rattle.std.specs.Prelude.{ℕ, Bool, false, not, ◌&&◌, ◌==◌, ◌-◌, ◌^◌, nat_le, ℤ, pos, ◌-ℤ◌, if◌then◌else◌, List, [], ◌∷◌, map, Option, Some, None, option_map}
use Rattle.std.specs.List.{list_all, slice_split}
use Rattle.std.specs.Char.{is_ascii_digit}
use Rattle.std.specs.Str.Parse.{digits_value}
use Rattle.schedules.specs.declared.choice.Choice.{Choice}

-- ---- numbers

abbrev pub has_leading_zero : List ℕ → Bool
has_leading_zero (first ∷ next ∷ digits) = first == 48
has_leading_zero _ = false

-- one or more decimal digits, without a leading zero
abbrev pub is_numeral : List ℕ → Bool
is_numeral [] = false
is_numeral (d ∷ ds) = not (has_leading_zero (d ∷ ds)) && list_all is_ascii_digit (d ∷ ds)

abbrev pub number_up_to : ℕ → List ℕ → Option ℕ
number_up_to most digits = if is_numeral digits && nat_le (digits_value 10 digits) most then Some (digits_value 10 digits) else None

-- the number of a thread or of a move, below 2^32
abbrev pub index : List ℕ → Option ℕ
index field = number_up_to (2 ^ 32 - 1) field

-- a value, from -2^63 to 2^64 - 1, which `-` (45) may stand before; `-0` is 0
abbrev pub negative : List ℕ → Option ℤ
negative digits = option_map (λ n. pos 0 -ℤ pos n) (number_up_to (2 ^ 63) digits)

abbrev pub value : List ℕ → Option ℤ
value [] = None
value (first ∷ digits) = if first == 45 then negative digits else option_map pos (number_up_to (2 ^ 64 - 1) (first ∷ digits))

-- ---- lines

-- up to three values, and how many they are
abbrev pub values_of : List (Option ℤ) → Option (List ℤ × ℕ)
values_of [] = Some (pos 0 ∷ pos 0 ∷ pos 0 ∷ [], 0)
values_of (Some a ∷ []) = Some (a ∷ pos 0 ∷ pos 0 ∷ [], 1)
values_of (Some a ∷ Some b ∷ []) = Some (a ∷ b ∷ pos 0 ∷ [], 2)
values_of (Some a ∷ Some b ∷ Some c ∷ []) = Some (a ∷ b ∷ c ∷ [], 3)
values_of _ = None

abbrev pub chosen : Option ℕ → Option ℕ → Option (List ℤ × ℕ) → Option Choice
chosen (Some thread) (Some pair) (Some values) = Some (record { thread = thread; pair = pair; values = values.0; count = values.1 })
chosen _ _ _ = None

abbrev pub choice_of_fields : List (List ℕ) → Option Choice
choice_of_fields (thread ∷ pair ∷ values) = chosen (index thread) (index pair) (values_of (map value values))
choice_of_fields _ = None

-- the choice that a line writes, without its LF; None where it is outside the form
abbrev pub choice_of_line : List ℕ → Option Choice
choice_of_line line = choice_of_fields (slice_split (λ b. b == 32) line)

-- bytes behind the last LF are a line outside the form
abbrev pub unended : List ℕ → List (Option Choice)
unended [] = []
unended (b ∷ bs) = None ∷ []

-- a line before others, each of which ends the one before it
abbrev pub lines_from : List ℕ → List (List ℕ) → List (Option Choice)
lines_from line [] = unended line
lines_from line (next ∷ more) = choice_of_line line ∷ lines_from next more

abbrev pub lines_in : List (List ℕ) → List (Option Choice)
lines_in [] = []
lines_in (line ∷ more) = lines_from line more

-- what each line of a text writes, None where it is outside the form
abbrev pub lines : List ℕ → List (Option Choice)
lines text = lines_in (slice_split (λ b. b == 10) text)

abbrev pub first_of : List (Option Choice) → Option (Option Choice)
first_of [] = None
first_of (choice ∷ choices) = Some choice

abbrev pub first_written : List ℕ → Option (Option Choice)
first_written text = first_of (lines text)
