-- What a track comes to is reached by a path, and a call string stays behind a move.
use Rattle.std.proofs.Common.{◌≡◌, refl, sym, ◌∙◌, ℕ, List, [], ◌∷◌}
use Rattle.c_program.specs.declared.program.Program.{Program}
use Rattle.c_program.specs.Control.{Control, Move, Spot, Point, string_of}
use Rattle.c_program.specs.Paths.{Stands, Offers, Comes as ComesPlainly, plain, IsReached}
use Rattle.c_program.proofs.Points.{stands_placed, at_site, text, left_within, string_within}
use Rattle.path_simulation.specs.Tracks.{Track, Comes, at_entry, by_move, IsPossible}

pub comes_plainly : {A : Type 0} (program : Program) (track : Track A) (thread : List Spot) (function : ℕ) (control : Control) (state : A)
    → Comes program track thread function control state → ComesPlainly program plain thread function control 0
comes_plainly program track thread function _ _ (at_entry state s) = ([], (refl, refl))
comes_plainly program track thread function _ _ (by_move control pair move before behind c o s) =
    let k = comes_plainly program track thread function control before c in
    (record { control = control; state = 0 } ∷ k.0, ((move, (pair, o), refl, refl), k.1))

pub is_reached : {A : Type 0} (program : Program) (track : Track A) (thread : List Spot) (point : Point) (state : A)
    → (p : IsPossible program track thread point state) → IsReached program thread p.function point
is_reached program track thread point state p = (p.control, p.move, comes_plainly program track thread p.function p.control state p.comes, p.offers, p.here)

pub string_left : (program : Program) (function : ℕ) (control : Control) (move : Move) → Stands program function control → Offers control move → string_of move.left ≡ string_of control
string_left program first control move st o = let p = stands_placed program first control st in let a = at_site program first control move p o in
    string_within program first (text program first p.function p.base) p.base move.left (left_within program first p.function p.base a.site move a.is_in a.has)
    ∙ sym (string_within program first (text program first p.function p.base) p.base control p.within)
