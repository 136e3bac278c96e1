-- The points of the locked text.
use Rattle.std.proofs.Common.{◌≡◌, subst, ap, inl, inr, Bool, true, false, ℕ, List, [], ◌∷◌, Some, None}
use Rattle.std.specs.List.{Contains}
use Rattle.c_program.specs.declared.action.LibraryCall.TheVariants.{ThreadCreate}
use Rattle.c_program.specs.declared.action.Act.{Act}
use Rattle.c_program.specs.declared.action.Act.TheVariants.{Library, Call}
use Rattle.c_program.specs.Syntax.{act_at, body_at}
use Rattle.c_program.specs.Control.{Spot, Point}
use Rattle.c_program.specs.Paths.{LeadsTo, initial, by_call, by_creation, spots_of, IsPoint}
use Rattle.c_program.proofs.Members.{In, from_contains}
use Rattle.static_facts.specs.Points.{is_creation}
use Rattle.silence_samples.specs.Locked.{locked_writes}

abbrev pub spot : ℕ → Spot
spot number = record { action = number; rounds = [] }

-- the thread that is made at the creation
abbrev pub worker : List Spot
worker = spot 5 ∷ []

abbrev pub at : List Spot → ℕ → Point
at string number = record { string = string; spot = spot number }

pub true_false : {A : Type 0} → true ≡ false → A
true_false e = absurd (cc)

pub false_true : {A : Type 0} → false ≡ true → A
false_true e = absurd (cc)

pub none_some : {A B : Type 0} (x : A) → None ≡ Some x → B
none_some x e = absurd (cc)

pub same_some : {A : Type 0} (a b : A) → Some a ≡ Some b → a ≡ b
same_some a b e = cc

pub main_cases : (P : Spot → Type 0) → P (spot 4) → P (spot 5) → P (spot 6) → P (spot 7) → P (spot 8) → P (spot 9)
    → (s : Spot) → Contains (spots_of [] (body_at locked_writes 1)) s → P s
main_cases P p4 p5 p6 p7 p8 p9 s has = go (from_contains s (spots_of [] (body_at locked_writes 1)) has)
  where
    go : In s (spots_of [] (body_at locked_writes 1)) → P s
    go (inl q) = subst P q p4
    go (inr (inl q)) = subst P q p5
    go (inr (inr (inl q))) = subst P q p6
    go (inr (inr (inr (inl q)))) = subst P q p7
    go (inr (inr (inr (inr (inl q))))) = subst P q p8
    go (inr (inr (inr (inr (inr (inl q)))))) = subst P q p9
    go (inr (inr (inr (inr (inr (inr q)))))) = absurd q

pub worker_cases : (P : Spot → Type 0) → P (spot 0) → P (spot 1) → P (spot 2) → P (spot 3) → (s : Spot) → Contains (spots_of [] (body_at locked_writes 0)) s → P s
worker_cases P p0 p1 p2 p3 s has = go (from_contains s (spots_of [] (body_at locked_writes 0)) has)
  where
    go : In s (spots_of [] (body_at locked_writes 0)) → P s
    go (inl q) = subst P q p0
    go (inr (inl q)) = subst P q p1
    go (inr (inr (inl q))) = subst P q p2
    go (inr (inr (inr (inl q)))) = subst P q p3
    go (inr (inr (inr (inr q)))) = absurd q

-- ---- what a call string leads to

pub data Led : List Spot → List Spot → ℕ → Type 0 where
  of_main : Led [] [] 1
  of_worker : Led worker worker 0

abbrev is_call : Act → Bool
is_call (Call callee arguments result) = true
is_call _ = false

abbrev callee_of : Act → ℕ
callee_of (Library (ThreadCreate object callee argument) result) = callee
callee_of _ = 0

uncalled : (string thread : List Spot) (f : ℕ) → Led string thread f → (s : Spot) → Contains (spots_of [] (body_at locked_writes f)) s
    → is_call (act_at locked_writes s.action) ≡ true → ⊥
unfolding act_at
uncalled _ _ _ of_main s has = main_cases (λ (s : Spot). is_call (act_at locked_writes s.action) ≡ true → ⊥) false_true false_true false_true false_true false_true false_true s has
uncalled _ _ _ of_worker s has = worker_cases (λ (s : Spot). is_call (act_at locked_writes s.action) ≡ true → ⊥) false_true false_true false_true false_true s has

created : (string thread : List Spot) (f : ℕ) → Led string thread f → (s : Spot) → Contains (spots_of [] (body_at locked_writes f)) s
    → is_creation (act_at locked_writes s.action) ≡ true → Led (s ∷ string) (s ∷ string) (callee_of (act_at locked_writes s.action))
unfolding act_at
created _ _ _ of_main s has =
    main_cases (λ (s : Spot). is_creation (act_at locked_writes s.action) ≡ true → Led (s ∷ []) (s ∷ []) (callee_of (act_at locked_writes s.action)))
    false_true (λ e. of_worker) false_true false_true false_true false_true s has
created _ _ _ of_worker s has =
    worker_cases (λ (s : Spot). is_creation (act_at locked_writes s.action) ≡ true → Led (s ∷ worker) (s ∷ worker) (callee_of (act_at locked_writes s.action)))
    false_true false_true false_true false_true s has

pub led : (string thread : List Spot) (f : ℕ) → LeadsTo locked_writes string thread f → Led string thread f
led _ _ _ initial = of_main
led _ _ _ (by_call string thread f s callee arguments result l has e) = absurd (uncalled string thread f (led string thread f l) s has (ap is_call e))
led _ _ _ (by_creation string thread f s callee object argument result l has e) =
    subst (Led (s ∷ string) (s ∷ string)) (ap callee_of e) (created string thread f (led string thread f l) s has (ap is_creation e))

-- ---- the ten points

pub point_cases : (P : List Spot → Point → Type 0) → P [] (at [] 4) → P [] (at [] 5) → P [] (at [] 6) → P [] (at [] 7) → P [] (at [] 8) → P [] (at [] 9)
    → P worker (at worker 0) → P worker (at worker 1) → P worker (at worker 2) → P worker (at worker 3)
    → (thread : List Spot) (point : Point) → IsPoint locked_writes thread point → P thread point
point_cases P p4 p5 p6 p7 p8 p9 p0 p1 p2 p3 thread point p = go point.string thread p.function (led point.string thread p.function p.leads) point.spot p.has
  where
    go : (string thread : List Spot) (f : ℕ) → Led string thread f → (s : Spot) → Contains (spots_of [] (body_at locked_writes f)) s → P thread (record { string = string; spot = s })
    go _ _ _ of_main s has = main_cases (λ (s : Spot). P [] (record { string = []; spot = s })) p4 p5 p6 p7 p8 p9 s has
    go _ _ _ of_worker s has = worker_cases (λ (s : Spot). P worker (record { string = worker; spot = s })) p0 p1 p2 p3 s has
