-- The lines of a text, one after the other.
use Rattle.std.proofs.Common.{◌≡◌, ◌<◌, ◌≤◌, ◌+◌, ℕ, suc, ◌==◌, List, [], ◌∷◌, ◌++◌, length, map, refl, sym, ap, ◌∙◌, arith, Some, None, Option, Ok, Err, length-append, zero-add}
use Rattle.std.specs.List.{slice_split, filter_map, position_from}
use Rattle.std.specs.Option.{is_none}
use Rattle.std.proofs.lemmas.List.Splits.{length-slice_split}
use Rattle.schedules.specs.declared.choice.Choice.{Choice}
use Rattle.schedules.specs.declared.schedule.ScheduleStop.TheVariants.{Form}
use Rattle.schedules.specs.Lines.{lines, lines_in, unended, choice_of_line, first_of, first_written}
use Rattle.schedules.specs.Schedules.{schedule_in, judged}

-- a line that an LF ends, and what stands behind it
from_ended : (line : List ℕ) (pieces : List (List ℕ)) → 0 < length pieces → lines_in (line ∷ pieces) ≡ choice_of_line line ∷ lines_in pieces
from_ended line [] some = absurd (omega arith)
from_ended line (next ∷ more) some = refl

pub ended_line : (text line behind : List ℕ) → slice_split (λ b. b == 10) text ≡ line ∷ slice_split (λ b. b == 10) behind
    → lines text ≡ choice_of_line line ∷ lines behind
ended_line text line behind is =
    ap lines_in is ∙ from_ended line (slice_split (λ b. b == 10) behind) (let e : length (slice_split (λ b. b == 10) behind) ≡ _ = length-slice_split (λ b. b == 10) behind in omega (arith, e))

not_empty : (text : List ℕ) → 0 < length text → unended text ≡ None ∷ []
not_empty [] some = absurd (omega arith)
not_empty (b ∷ bs) some = refl

pub unended_line : (text : List ℕ) → 0 < length text → slice_split (λ b. b == 10) text ≡ text ∷ [] → lines text ≡ None ∷ []
unended_line text some is = ap lines_in is ∙ not_empty text some

pub counted_ended : (text line behind : List ℕ) → slice_split (λ b. b == 10) text ≡ line ∷ slice_split (λ b. b == 10) behind → length (lines text) ≡ suc (length (lines behind))
counted_ended text line behind is = ap length (ended_line text line behind is)

pub first_outside : (text : List ℕ) (o : Option Choice) (more : List (Option Choice)) → lines text ≡ o ∷ more → o ≡ None → first_written text ≡ Some None
first_outside text o more is none = ap first_of is ∙ ap Some none

-- ---- all lines

all_read : (choices : List Choice) (n : ℕ) → (position_from is_none n (map Some choices ++ []) ≡ None) × (filter_map (λ choice. choice) (map Some choices ++ []) ≡ choices)
all_read [] n = (refl, refl)
all_read (c ∷ choices) n = let rest : (position_from is_none (n + 1) (map Some choices ++ []) ≡ None) × (filter_map (λ choice. choice) (map Some choices ++ []) ≡ choices) = all_read choices (n + 1) in
    (rest.0, ap (λ cs. c ∷ cs) rest.1)

pub read_all : (text : List ℕ) (choices : List Choice) → lines text ≡ map Some choices ++ [] → schedule_in (lines text) ≡ Ok choices
read_all text choices is = ap schedule_in is ∙ ap (λ o. judged o (map Some choices ++ [])) (all_read choices 1).0 ∙ ap Ok (all_read choices 1).1

pub read_to_end : (text rest : List ℕ) (choices : List Choice) → length rest ≡ 0 → lines text ≡ map Some choices ++ lines rest → schedule_in (lines text) ≡ Ok choices
read_to_end text [] choices end is = read_all text choices is
read_to_end text (b ∷ bs) choices end is = absurd (omega arith)

first_place : (choices : List Choice) (n : ℕ) (more : List (Option Choice)) → position_from is_none n (map Some choices ++ None ∷ more) ≡ Some (length choices + n)
first_place [] n more = ap Some (sym (zero-add n))
first_place (c ∷ choices) n more = first_place choices (n + 1) more ∙ ap Some (omega arith)

outside_first : (all more : List (Option Choice)) (choices : List Choice) → all ≡ map Some choices ++ more → first_of more ≡ Some None
    → schedule_in all ≡ Err (Form (length choices + 1))
outside_first all [] choices is first = cc
outside_first all (Some c ∷ more) choices is first = cc
outside_first all (None ∷ more) choices is first = ap schedule_in is ∙ ap (λ o. judged o (map Some choices ++ None ∷ more)) (first_place choices 1 more)

pub stops : (text rest : List ℕ) (choices : List Choice) → lines text ≡ map Some choices ++ lines rest → first_written rest ≡ Some None
    → schedule_in (lines text) ≡ Err (Form (length choices + 1))
stops text rest choices is first = outside_first (lines text) (lines rest) choices is first

more_mapped : (choices : List Choice) (c : Choice) (more : List (Option Choice)) → map Some choices ++ Some c ∷ more ≡ map Some (choices ++ c ∷ []) ++ more
more_mapped [] c more = refl
more_mapped (d ∷ choices) c more = ap (λ all. Some d ∷ all) (more_mapped choices c more)

pub one_more : (text rest behind : List ℕ) (choices : List Choice) (c : Choice) → lines text ≡ map Some choices ++ lines rest → lines rest ≡ Some c ∷ lines behind
    → lines text ≡ map Some (choices ++ c ∷ []) ++ lines behind
one_more text rest behind choices c is next = is ∙ ap (λ more. map Some choices ++ more) next ∙ more_mapped choices c (lines behind)

length_of_map : (choices : List Choice) → length (map Some choices) ≡ length choices
length_of_map [] = refl
length_of_map (c ∷ choices) = ap suc (length_of_map choices)

-- where a line is left, no more choices are read than there are lines but one
pub choices_below : (text rest : List ℕ) (choices : List Choice) → lines text ≡ map Some choices ++ lines rest → length choices ≤ length (lines text)
choices_below text rest choices is =
    omega (arith, ap length is, length-append (map Some choices) (lines rest), length_of_map choices)
