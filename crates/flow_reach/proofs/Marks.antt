-- One more mark, and how marks grow.
use Rattle.std.proofs.Common.{◌≡◌, ◌⊎◌, inl, inr, refl, sym, subst, ap, ◌∙◌, ℕ, ◌+◌, ◌*◌, ◌/◌, ◌%◌, ◌<◌, ◌≤◌, Bool, true, false, List, [], ◌∷◌, ◌++◌, length, get_or, set, sum_by, Contains, vec_len, arith, le_trans, le_of_eq, replicate}
use Rattle.std.proofs.Math.ListN.{get_or-eq_default}
use Rattle.std.proofs.lemmas.Nat.{mod-mul-add, div-mul-add}
use Rattle.std.proofs.lemmas.List.{get_or-set_same, get_or-set_other, get_or-replicate, length-replicate}
use Rattle.std.proofs.lemmas.List.Sums.{sum_by-set}
use Rattle.std.proofs.lemmas.List.Elements.{Contains-push, Contains-push_cases, Contains-append_left}
use Rattle.std.proofs.lemmas.Bool.Decides.{eqb_tells}
use Rattle.std.proofs.lemmas.Option.{slice_get_within}
use Rattle.flow_reach.specs.declared.kept.Reach.{Reach}
use Rattle.flow_reach.specs.declared.kept.Mark.{Mark}
use Rattle.flow_points.specs.declared.graph.Graph.{Graph}
use Rattle.flow_points.specs.PointLists.{points_of}
use Rattle.flow_reach.specs.Paths.{Transitions, Stop, Leads, Begins, IsPath, Arrives}
use Rattle.flow_reach.specs.Searches.{IsMarked, IsQueued, Grows, unmarked, left_at, IsSound, IsDone, IsClosed, IsStarted, IsFine}

pub same_place : (p q w s t : ℕ) → s < w → t < w → p * w + s ≡ q * w + t → (p ≡ q) × (s ≡ t)
same_place p q w s t a b e =
    (sym (div-mul-add p w s a) ∙ ap (λ n. n / w) e ∙ div-mul-add q w t b, sym (mod-mul-add p w s a) ∙ ap (λ n. n % w) e ∙ mod-mul-add q w t b)

-- of the places of the grid one more is marked
pub only_here : (marks : List Bool) (w point state p s : ℕ) → state < w → s < w → get_or (set marks (point * w + state) true) (p * w + s) false ≡ true
    → (get_or marks (p * w + s) false ≡ true) ⊎ ((p ≡ point) × (s ≡ state))
only_here marks w point state p s a b m = elim (eqb_tells (p * w + s) (point * w + state)) [
  | inl same ↦ inr (same_place p point w s state b a same.1)
  | inr other ↦ inl (sym (get_or-set_other marks (point * w + state) (p * w + s) true false other.1) ∙ m)
]

module _ (old new : Reach) (point state : ℕ) (size : new.size ≡ old.size) (points : new.points ≡ old.points) (p_in : point < old.points) (s_in : state < old.size)
    (within : point * old.size + state < length old.marks.items)
    (marks : new.marks.items ≡ set old.marks.items (point * old.size + state) true) (was : get_or old.marks.items (point * old.size + state) false ≡ false)
    (work : new.work.items ≡ old.work.items ++ record { point = point; state = state } ∷ []) (longer : vec_len new.work ≡ vec_len old.work + 1) where
  at : ℕ
  at = point * old.size + state

  look : (p s : ℕ) → get_or new.marks.items (p * new.size + s) false ≡ get_or (set old.marks.items at true) (p * old.size + s) false
  unfolding at
  look p s = ap (λ xs. get_or xs (p * new.size + s) false) marks ∙ ap (λ n. get_or (set old.marks.items at true) (p * n + s) false) size

  only : (p s : ℕ) → s < old.size → IsMarked new p s → IsMarked old p s ⊎ ((p ≡ point) × (s ≡ state))
  unfolding at
  only p s b m = only_here old.marks.items old.size point state p s s_in b (sym (look p s) ∙ m)

  kept : (p s : ℕ) → IsMarked old p s → IsMarked new p s
  unfolding at
  kept p s m = elim (eqb_tells (p * old.size + s) at) [
    | inl same ↦ look p s ∙ ap (λ n. get_or (set old.marks.items at true) n false) same.1 ∙ get_or-set_same old.marks.items at true false within
    | inr other ↦ look p s ∙ get_or-set_other old.marks.items at (p * old.size + s) true false other.1 ∙ m
  ]

  less : unmarked new + 1 ≡ unmarked old
  unfolding at
  less = let e = sum_by-set left_at old.marks.items at true false within in
      let f : sum_by left_at new.marks.items ≡ sum_by left_at (set old.marks.items at true) = ap (sum_by left_at) marks in
      let g : left_at (get_or old.marks.items at false) ≡ 1 = ap left_at was in
      omega arith

  queue : (p s : ℕ) → IsQueued old p s → IsQueued new p s
  queue p s q = subst (λ xs. Contains xs (record { point = p; state = s })) (sym work) (Contains-append_left old.work.items _ _ q)

  here : IsMarked new point state
  unfolding at
  here = look point state ∙ get_or-set_same old.marks.items at true false within

  pub grown : Grows old new
  grown = record {
    size = size;
    points = points;
    kept = kept;
    queue = queue;
    queued = λ p s a b m. elim (only p s b m) [
      | inl old_mark ↦ inl old_mark
      | inr here ↦ inr (subst (λ xs. Contains xs (record { point = p; state = s })) (sym work)
          (subst (λ k. Contains (old.work.items ++ record { point = point; state = state } ∷ []) (record { point = k; state = s })) (sym here.0)
          (subst (λ k. Contains (old.work.items ++ record { point = point; state = state } ∷ []) (record { point = point; state = k })) (sym here.1)
          (Contains-push old.work.items (record { point = point; state = state })))))
    ];
    from_queue = λ p s q. elim (Contains-push_cases old.work.items (record { point = point; state = state }) (record { point = p; state = s }) (subst (λ xs. Contains xs (record { point = p; state = s })) work q)) [
      | inl o ↦ inl o
      | inr e ↦ inr (subst (λ (m : Mark). (m.point < old.points) × (m.state < old.size) × IsMarked new m.point m.state) e (p_in, s_in, here))
    ];
    effort = let l : unmarked new + 1 ≡ unmarked old = less in omega arith;
  }

pub grows_same : (s : Reach) → Grows s s
grows_same s = record { size = refl; points = refl; kept = λ p t m. m; queue = λ p t q. q; queued = λ p t a b m. inl m; from_queue = λ p t q. inl q; effort = omega arith }

pub grows_on : (a b c : Reach) → Grows a b → Grows b c → Grows a c
grows_on a b c f g = record {
  size = g.size ∙ f.size;
  points = g.points ∙ f.points;
  kept = λ p t m. g.kept p t (f.kept p t m);
  queue = λ p t q. g.queue p t (f.queue p t q);
  queued = λ p t i j m. elim (g.queued p t (subst (λ n. p < n) (sym f.points) i) (subst (λ n. t < n) (sym f.size) j) m) [
    | inl k ↦ elim (f.queued p t i j k) [ inl o ↦ inl o | inr q ↦ inr (g.queue p t q) ]
    | inr q ↦ inr q
  ];
  from_queue = λ p t q. elim (g.from_queue p t q) [
    | inl k ↦ elim (f.from_queue p t k) [ inl o ↦ inl o | inr h ↦ inr (h.0, h.1, g.kept p t h.2) ]
    | inr h ↦ inr (subst (λ n. p < n) f.points h.0, subst (λ n. t < n) f.size h.1, h.2)
  ];
  effort = le_trans g.effort f.effort;
}

-- a path goes on by a step
pub arrives_on : (graph : Graph) (track : Transitions) (point state next after : ℕ) → Arrives graph track point state → Leads graph point next
    → track.step point next state after ≡ true → Arrives graph track next after
arrives_on graph track point state next after a l s = (a.0, (record { point = point; state = state } ∷ a.1.0, (l, s, a.1.1)))

pub enters : (graph : Graph) (track : Transitions) (thread point state : ℕ) → Begins graph thread point → track.start thread state ≡ true → Arrives graph track point state
enters graph track thread point state begins s = (thread, ([], (begins, s)))

-- marks stay sound by a mark where paths come
pub sound_on : (graph : Graph) (track : Transitions) (old new : Reach) (point state : ℕ) → IsSound graph track old → Grows old new
    → ((p s : ℕ) → p < old.points → s < old.size → IsMarked new p s → IsMarked old p s ⊎ ((p ≡ point) × (s ≡ state)))
    → Arrives graph track point state → IsSound graph track new
sound_on graph track old new point state sound grows only here p s a b m =
    let i : p < old.points = subst (λ n. p < n) grows.points a in
    let j : s < old.size = subst (λ n. s < n) grows.size b in
    elim (only p s i j m) [
      | inl k ↦ sound p s i j k
      | inr k ↦ subst (λ n. Arrives graph track n s) (sym k.0) (subst (λ n. Arrives graph track point n) (sym k.1) here)
    ]

module _ (graph : Graph) (track : Transitions) (old popped new : Reach) (from : Mark) (marks : popped.marks.items ≡ old.marks.items) (size : popped.size ≡ old.size) (points : popped.points ≡ old.points)
    (work : old.work.items ≡ popped.work.items ++ from ∷ []) (grows : Grows popped new) (done : IsDone graph track new from.point from.state) where
  same_mark : (p s : ℕ) → IsMarked old p s → IsMarked popped p s
  same_mark p s m = subst (λ n. get_or popped.marks.items (p * n + s) false ≡ true) (sym size) (subst (λ xs. get_or xs (p * old.size + s) false ≡ true) (sym marks) m)

  back : (p s : ℕ) → IsMarked popped p s → IsMarked old p s
  back p s m = subst (λ n. get_or old.marks.items (p * n + s) false ≡ true) size (subst (λ xs. get_or xs (p * popped.size + s) false ≡ true) marks m)

  pub closed_on : IsClosed graph track old → IsClosed graph track new
  closed_on closed p s a b m =
      let i : p < popped.points = subst (λ n. p < n) grows.points a in
      let j : s < popped.size = subst (λ n. s < n) grows.size b in
      elim (grows.queued p s i j m) [
        | inl k ↦ elim (closed p s (subst (λ n. p < n) points i) (subst (λ n. s < n) size j) (back p s k)) [
          | inl q ↦ elim (Contains-push_cases popped.work.items from (record { point = p; state = s }) (subst (λ xs. Contains xs (record { point = p; state = s })) work q)) [
            | inl r ↦ inl (grows.queue p s r)
            | inr e ↦ inr (subst (λ (x : Mark). IsDone graph track new x.point x.state) e done)
          ]
          | inr d ↦ inr (λ next after l t. grows.kept next after (same_mark next after (d next after l t)))
        ]
        | inr q ↦ inl q
      ]

  pub fine_on : IsFine old → IsFine new
  fine_on fine p s q = elim (grows.from_queue p s q) [
    | inl k ↦ (let f = fine p s (subst (λ xs. Contains xs (record { point = p; state = s })) (sym work) (Contains-append_left popped.work.items (from ∷ []) _ k)) in
        (subst (λ n. p < n) (sym (grows.points ∙ points)) f.0, subst (λ n. s < n) (sym (grows.size ∙ size)) f.1, grows.kept p s (same_mark p s f.2)))
    | inr h ↦ (subst (λ n. p < n) (sym grows.points) h.0, subst (λ n. s < n) (sym grows.size) h.1, h.2)
  ]

-- where all is done, whatever a path comes to is marked
module _ (graph : Graph) (track : Transitions) (search : Reach) (points : search.points ≡ length (points_of graph))
    (start_in : (thread state : ℕ) → track.start thread state ≡ true → state < search.size)
    (step_in : (point next state after : ℕ) → state < search.size → track.step point next state after ≡ true → after < search.size)
    (started : IsStarted graph track search)
    (done : (point state : ℕ) → point < search.points → state < search.size → IsMarked search point state → IsDone graph track search point state) where
  pub arrived : (thread point state : ℕ) (stops : List Stop) → IsPath graph track thread (record { point = point; state = state } ∷ stops)
      → (point < search.points) × (state < search.size) × IsMarked search point state
  arrived thread point state [] path = (
    subst (λ n. point < n) (sym points) (slice_get_within (points_of graph) point _ path.0.there),
    start_in thread state path.1,
    started thread point state path.0 path.1,
  )
  arrived thread point state (stop ∷ stops) path =
      let before = arrived thread stop.point stop.state stops path.2 in (
        subst (λ n. point < n) (sym points) (slice_get_within (points_of graph) point _ path.0.1.there),
        step_in stop.point point stop.state state before.1 path.1,
        done stop.point stop.state before.0 before.1 before.2 point state path.0 path.1,
      )

pub none_marked : (n i : ℕ) → get_or (replicate n false) i false ≡ true → ⊥
none_marked n i m = elim (split i n) [
  | inl l ↦ (let e : get_or (replicate n false) i false ≡ false = get_or-replicate n i false false l in cc)
  | inr g ↦ (let e : get_or (replicate n false) i false ≡ false = get_or-eq_default (replicate n false) false (le_trans (le_of_eq (length-replicate n false)) g) in cc)
]
  where
    split : (a b : ℕ) → (a < b) ⊎ (b ≤ a)
    split a b = grind arith

pub fine_start : (old new : Reach) → old.work.items ≡ [] → Grows old new → IsFine new
fine_start old new none grows p s q = elim (grows.from_queue p s q) [
  | inl k ↦ (let e = subst (λ (xs : List Mark). Contains xs (record { point = p; state = s })) none k in let l : e.0 < 0 = e.1 in absurd (omega arith))
  | inr h ↦ (subst (λ n. p < n) (sym grows.points) h.0, subst (λ n. s < n) (sym grows.size) h.1, h.2)
]
