-- Lists of points as points of the text.
use Rattle.std.proofs.Common.{◌≡◌, refl, ap, ◌∙◌, inl, inr, ℕ, List, [], ◌∷◌, ◌++◌, map}
use Rattle.std.specs.List.{flat_map}
use Rattle.c_program.specs.Control.{Control, Move, Spot, Point, string_of, moves}
use Rattle.c_program.proofs.Members.{In}
use Rattle.flow_points.specs.PointLists.{at}
use Rattle.control_flow.specs.declared.flow.Flow.{Flow}
use Rattle.control_flow.specs.Labels.{spot_at, view}
use Rattle.control_flow.specs.Edges.{before, stops}
use Rattle.control_flow.proofs.Built.{begins, heads}

abbrev pub there : List Spot → Spot → Point
there string spot = record { string = string; spot = spot }

stops_begin : (thread : List Spot) (control : Control) (all : List Move) → before thread control all ≡ map (there (string_of control ++ thread)) (begins control all)
stops_begin thread control [] = refl
stops_begin thread control (move ∷ all) = refl

pub stops_are : (thread : List Spot) (control : Control) → stops thread control ≡ map (there (string_of control ++ thread)) (heads control)
stops_are thread control = stops_begin thread control (moves control)

pub view_all : (flow : Flow) (string numbers : List ℕ) → map (view flow) (map (at string) numbers) ≡ map (there (map (spot_at flow) string)) (map (spot_at flow) numbers)
view_all flow string [] = refl
view_all flow string (n ∷ numbers) = ap (λ l. there (map (spot_at flow) string) (spot_at flow n) ∷ l) (view_all flow string numbers)

pub map_joined : {X Y : Type 0} (h : X → Y) (xs ys : List X) → map h (xs ++ ys) ≡ map h xs ++ map h ys
map_joined h [] ys = refl
map_joined h (x ∷ xs) ys = ap (λ zs. h x ∷ zs) (map_joined h xs ys)

pub map_flat : {X Y Z : Type 0} (h : Y → Z) (f : X → List Y) (xs : List X) → map h (flat_map f xs) ≡ flat_map (λ x. map h (f x)) xs
map_flat h f [] = refl
map_flat h f (x ∷ xs) = map_joined h (f x) (flat_map f xs) ∙ ap (λ ys. map h (f x) ++ ys) (map_flat h f xs)

pub flat_same : {X Y : Type 0} (f g : X → List Y) (xs : List X) → ((x : X) → In x xs → f x ≡ g x) → flat_map f xs ≡ flat_map g xs
flat_same f g [] h = refl
flat_same f g (x ∷ xs) h = ap (λ ys. ys ++ flat_map f xs) (h x (inl refl)) ∙ ap (λ ys. g x ++ ys) (flat_same f g xs (λ y i. h y (inr i)))

abbrev pub nothing : {X Y : Type 0} → X → List Y
nothing x = []

pub flat_none : {X Y : Type 0} (xs : List X) → flat_map (nothing {Y = Y}) xs ≡ []
flat_none [] = refl
flat_none (x ∷ xs) = flat_none xs
