-- The sets of the grammar as lists, each member with the production that puts it there by the members before it, as
-- tools/tables.py writes them.
use Rattle.std.specs.Prelude.{ℕ, List, [], ◌∷◌}
use Rattle.ll_core.specs.ListedSets.{Member, TokenMember, ListedSets}

abbrev pub member : ℕ → ℕ → Member
member symbol number = record { symbol = symbol; number = number }

abbrev pub token_member : ℕ → ℕ → ℕ → TokenMember
token_member symbol token number = record { symbol = symbol; token = token; number = number }

unfoldable pub sentences : List Member
sentences =
    member 0 1 ∷ member 1 2 ∷ member 2 8 ∷ member 3 11 ∷ member 5 14 ∷ member 7 17 ∷ member 9 21 ∷ member 11
    25 ∷ member 13 29 ∷ member 16 36 ∷ member 17 37 ∷ member 18 41 ∷ member 19 43 ∷ member 15 33 ∷ member 14
    32 ∷ member 12 26 ∷ member 10 22 ∷ member 8 18 ∷ member 6 15 ∷ member 4 12 ∷ []

unfoldable pub nothing : List Member
nothing =
    member 0 1 ∷ member 2 9 ∷ member 3 11 ∷ member 5 14 ∷ member 7 17 ∷ member 9 21 ∷ member 11 25 ∷ member 13
    29 ∷ member 16 36 ∷ member 18 41 ∷ member 19 43 ∷ []

unfoldable pub first : List TokenMember
first =
    token_member 1 20 2 ∷ token_member 1 22 3 ∷ token_member 1 25 4 ∷ token_member 1 26 5 ∷ token_member 1 28
    6 ∷ token_member 2 31 8 ∷ token_member 5 32 13 ∷ token_member 7 33 16 ∷ token_member 9 34 19 ∷
    token_member 9 35 20 ∷ token_member 11 36 23 ∷ token_member 11 37 24 ∷ token_member 13 38 27 ∷
    token_member 13 39 28 ∷ token_member 14 37 30 ∷ token_member 14 40 31 ∷ token_member 16 23 34 ∷
    token_member 16 41 35 ∷ token_member 17 29 37 ∷ token_member 17 43 38 ∷ token_member 17 23 39 ∷
    token_member 19 44 42 ∷ token_member 0 20 0 ∷ token_member 0 22 0 ∷ token_member 0 25 0 ∷ token_member 0
    26 0 ∷ token_member 0 28 0 ∷ token_member 12 37 26 ∷ token_member 12 40 26 ∷ token_member 15 23 33 ∷
    token_member 15 29 33 ∷ token_member 15 43 33 ∷ token_member 10 37 22 ∷ token_member 10 40 22 ∷
    token_member 14 23 32 ∷ token_member 14 29 32 ∷ token_member 14 43 32 ∷ token_member 8 37 18 ∷
    token_member 8 40 18 ∷ token_member 12 23 26 ∷ token_member 12 29 26 ∷ token_member 12 43 26 ∷
    token_member 6 37 15 ∷ token_member 6 40 15 ∷ token_member 10 23 22 ∷ token_member 10 29 22 ∷ token_member
    10 43 22 ∷ token_member 4 37 12 ∷ token_member 4 40 12 ∷ token_member 8 23 18 ∷ token_member 8 29 18 ∷
    token_member 8 43 18 ∷ token_member 18 37 40 ∷ token_member 18 40 40 ∷ token_member 1 37 7 ∷ token_member
    1 40 7 ∷ token_member 3 37 10 ∷ token_member 3 40 10 ∷ token_member 6 23 15 ∷ token_member 6 29 15 ∷
    token_member 6 43 15 ∷ token_member 0 37 0 ∷ token_member 0 40 0 ∷ token_member 4 23 12 ∷ token_member 4
    29 12 ∷ token_member 4 43 12 ∷ token_member 18 23 40 ∷ token_member 18 29 40 ∷ token_member 18 43 40 ∷
    token_member 1 23 7 ∷ token_member 1 29 7 ∷ token_member 1 43 7 ∷ token_member 3 23 10 ∷ token_member 3 29
    10 ∷ token_member 3 43 10 ∷ token_member 0 23 0 ∷ token_member 0 29 0 ∷ token_member 0 43 0 ∷ []

unfoldable pub follow : List TokenMember
follow =
    token_member 1 20 0 ∷ token_member 1 22 0 ∷ token_member 1 23 0 ∷ token_member 1 25 0 ∷ token_member 1 26
    0 ∷ token_member 1 28 0 ∷ token_member 1 29 0 ∷ token_member 1 37 0 ∷ token_member 1 40 0 ∷ token_member 1
    43 0 ∷ token_member 1 65535 0 ∷ token_member 0 21 2 ∷ token_member 2 20 3 ∷ token_member 2 22 3 ∷
    token_member 2 23 3 ∷ token_member 2 25 3 ∷ token_member 2 26 3 ∷ token_member 2 28 3 ∷ token_member 2 29
    3 ∷ token_member 2 37 3 ∷ token_member 2 40 3 ∷ token_member 2 43 3 ∷ token_member 2 65535 3 ∷
    token_member 4 24 3 ∷ token_member 3 27 5 ∷ token_member 4 27 6 ∷ token_member 5 24 12 ∷ token_member 5 27
    12 ∷ token_member 6 24 12 ∷ token_member 6 27 12 ∷ token_member 6 32 12 ∷ token_member 7 24 15 ∷
    token_member 7 27 15 ∷ token_member 7 32 15 ∷ token_member 8 24 15 ∷ token_member 8 27 15 ∷ token_member 8
    32 15 ∷ token_member 8 33 15 ∷ token_member 9 24 18 ∷ token_member 9 27 18 ∷ token_member 9 32 18 ∷
    token_member 9 33 18 ∷ token_member 10 24 18 ∷ token_member 10 27 18 ∷ token_member 10 32 18 ∷
    token_member 10 33 18 ∷ token_member 10 34 18 ∷ token_member 10 35 18 ∷ token_member 11 24 22 ∷
    token_member 11 27 22 ∷ token_member 11 32 22 ∷ token_member 11 33 22 ∷ token_member 11 34 22 ∷
    token_member 11 35 22 ∷ token_member 12 24 22 ∷ token_member 12 27 22 ∷ token_member 12 32 22 ∷
    token_member 12 33 22 ∷ token_member 12 34 22 ∷ token_member 12 35 22 ∷ token_member 12 36 22 ∷
    token_member 12 37 22 ∷ token_member 13 24 26 ∷ token_member 13 27 26 ∷ token_member 13 32 26 ∷
    token_member 13 33 26 ∷ token_member 13 34 26 ∷ token_member 13 35 26 ∷ token_member 13 36 26 ∷
    token_member 13 37 26 ∷ token_member 14 24 26 ∷ token_member 14 27 26 ∷ token_member 14 32 26 ∷
    token_member 14 33 26 ∷ token_member 14 34 26 ∷ token_member 14 35 26 ∷ token_member 14 36 26 ∷
    token_member 14 37 26 ∷ token_member 14 38 26 ∷ token_member 14 39 26 ∷ token_member 15 24 32 ∷
    token_member 15 27 32 ∷ token_member 15 32 32 ∷ token_member 15 33 32 ∷ token_member 15 34 32 ∷
    token_member 15 35 32 ∷ token_member 15 36 32 ∷ token_member 15 37 32 ∷ token_member 15 38 32 ∷
    token_member 15 39 32 ∷ token_member 16 24 33 ∷ token_member 16 27 33 ∷ token_member 16 32 33 ∷
    token_member 16 33 33 ∷ token_member 16 34 33 ∷ token_member 16 35 33 ∷ token_member 16 36 33 ∷
    token_member 16 37 33 ∷ token_member 16 38 33 ∷ token_member 16 39 33 ∷ token_member 17 23 33 ∷
    token_member 17 24 33 ∷ token_member 17 27 33 ∷ token_member 17 32 33 ∷ token_member 17 33 33 ∷
    token_member 17 34 33 ∷ token_member 17 35 33 ∷ token_member 17 36 33 ∷ token_member 17 37 33 ∷
    token_member 17 38 33 ∷ token_member 17 39 33 ∷ token_member 17 41 33 ∷ token_member 18 24 34 ∷
    token_member 4 42 35 ∷ token_member 4 44 40 ∷ token_member 19 24 40 ∷ token_member 1 21 0 ∷ token_member 2
    21 3 ∷ token_member 5 42 12 ∷ token_member 5 44 12 ∷ token_member 6 42 12 ∷ token_member 6 44 12 ∷
    token_member 7 42 15 ∷ token_member 7 44 15 ∷ token_member 8 42 15 ∷ token_member 8 44 15 ∷ token_member 9
    42 18 ∷ token_member 9 44 18 ∷ token_member 10 42 18 ∷ token_member 10 44 18 ∷ token_member 11 42 22 ∷
    token_member 11 44 22 ∷ token_member 12 42 22 ∷ token_member 12 44 22 ∷ token_member 13 42 26 ∷
    token_member 13 44 26 ∷ token_member 14 42 26 ∷ token_member 14 44 26 ∷ token_member 15 42 32 ∷
    token_member 15 44 32 ∷ token_member 16 42 33 ∷ token_member 16 44 33 ∷ token_member 17 42 33 ∷
    token_member 17 44 33 ∷ []

unfoldable pub lists : ListedSets
lists = record { sentences = sentences; nothing = nothing; first = first; follow = follow }
