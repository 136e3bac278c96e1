-- The spots of lists of statements and of conditions, as code has them.
use Rattle.std.specs.Prelude.{ℕ, List, [], ◌∷◌, ◌++◌}
use Rattle.c_program.specs.declared.statement.Condition.{Condition}
use Rattle.c_program.specs.declared.statement.Counter.{Counter}
use Rattle.c_program.specs.declared.statement.Statement.{Statement}
use Rattle.c_program.specs.Control.{Round, Spot, round_of}
use Rattle.c_program.specs.Paths.{in_rounds, spots_of, spots_of_condition}

abbrev pub spots_of_list : List Round → List Statement → List Spot
spots_of_list rounds [] = []
spots_of_list rounds (s ∷ all) = spots_of rounds s ++ spots_of_list rounds all

abbrev pub spots_of_operands : List Round → List Condition → List Spot
spots_of_operands rounds [] = []
spots_of_operands rounds (c ∷ all) = spots_of_condition rounds c ++ spots_of_operands rounds all

-- the step and the body of a counted loop in a turn
abbrev pub spots_of_turn : Counter → Statement → List Round → ℕ → List Spot
spots_of_turn counter body rounds turn = in_rounds (round_of counter turn ∷ rounds) counter.step ∷ spots_of (round_of counter turn ∷ rounds) body
