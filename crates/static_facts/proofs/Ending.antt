-- Who ended an object, who accessed one, and which threads are settled there.
use Rattle.std.proofs.Common.{◌≡◌, ◌⊎◌, inl, inr, refl, sym, subst, ◌∙◌, Bool, true, false, ℕ, ◌<◌, ◌≤◌, List, [], ◌∷◌, length, Option, Some, None, eq-or-lt_of_le, arith}
use Rattle.std.specs.Prelude.{option_map, unwrap_or}
use Rattle.c_program.specs.declared.types.Base.{Base}
use Rattle.c_program.specs.declared.types.Base.TheVariants as base
use Rattle.c_program.specs.declared.types.CType.{CType}
use Rattle.c_program.specs.declared.program.Program.{Program}
use Rattle.c_program.specs.Types.{same_base, same_type}
use Rattle.c_program.specs.Values.{Cell, type_of_cell}
use Rattle.c_program.specs.Faults.{Sort, A_mutex, A_condition, A_key, A_thread}
use Rattle.c_program.specs.Effects.{Sync, Makes}
use Rattle.c_program.specs.Step.{Choice}
use Rattle.c_program.specs.Runs.{IsGoodRun, Moment, moment_at}
use Rattle.c_program.specs.Happens.{made_thread}
use Rattle.c_program.specs.WellFormed.{IsWellFormed}
use Rattle.c_program.specs.Tracks.{life_after}
use Rattle.c_program.proofs.Cells.{and_true}
use Rattle.static_facts.proofs.Moments.{at_longer, at_within, good_last}
use Rattle.static_facts.specs.ObjectStates.{IsNoThread, Doing, Begins, Joins_it, Detaches_it, Ends_it}
use Rattle.static_facts.specs.Seen.{use_by, use_with}
use Rattle.static_facts.proofs.Positions.{last_of, at_cases, same_moment}
use Rattle.static_facts.proofs.Changing.{change_by, life_opens}
use Rattle.static_facts.proofs.Lifetimes.{life, life_last}
use Rattle.pointer_targets.specs.LibraryObjects.{type_of_sort, is_of_sort}

-- ---- an object is of one sort

abbrev sort_of_base : Base → Option Sort
sort_of_base base.Mutex = Some A_mutex
sort_of_base base.Condition = Some A_condition
sort_of_base base.Key = Some A_key
sort_of_base base.Thread = Some A_thread
sort_of_base _ = None

by_base : (sort : Sort) (b : Base) → same_base (type_of_sort sort).base b ≡ true → sort_of_base b ≡ Some sort
by_base A_mutex base.Mutex e = refl
by_base A_mutex _ e = absurd (cc)
by_base A_condition base.Condition e = refl
by_base A_condition _ e = absurd (cc)
by_base A_key base.Key e = refl
by_base A_key _ e = absurd (cc)
by_base A_thread base.Thread e = refl
by_base A_thread _ e = absurd (cc)

by_type : (sort : Sort) (t : CType) → same_type (type_of_sort sort) t ≡ true → sort_of_base t.base ≡ Some sort
by_type sort t e = by_base sort t.base (and_true _ _ (and_true _ _ e).0).0

pub one_sort : (program : Program) (cell : Cell) (a b : Sort) → is_of_sort program a cell ≡ true → is_of_sort program b cell ≡ true → a ≡ b
one_sort program cell a b e f = go (type_of_cell program cell) e f
  where
    same : (a b : Sort) → Some a ≡ Some b → a ≡ b
    same a b e = cc

    go : (o : Option CType) → unwrap_or (option_map (same_type (type_of_sort a)) o) false ≡ true → unwrap_or (option_map (same_type (type_of_sort b)) o) false ≡ true → a ≡ b
    go None e f = absurd (cc)
    go (Some t) e f = same a b (sym (by_type a t e) ∙ by_type b t f)

-- ---- what is dead was ended

-- a step that makes a thread ends nothing
makes_no_end : (sort : Sort) → IsNoThread sort → (sync : Sync) (made thread : ℕ) (b : Bool) → made_thread sync made ≡ Some thread → use_by sync sort b ≡ Some Ends_it → ⊥
makes_no_end A_mutex n (Makes object f) made thread b e u = cc
makes_no_end A_condition n (Makes object f) made thread b e u = cc
makes_no_end A_key n (Makes object f) made thread b e u = cc
makes_no_end A_thread n (Makes object f) made thread b e u = n
makes_no_end sort n _ made thread b e u = cc

module _ (program : Program) (well : IsWellFormed program) (sort : Sort) (no_thread : IsNoThread sort) (cell : Cell) where
  pub record EndsAfter (run : List Choice) (p : ℕ) : Type 0 where
    pub position : ℕ
    pub moment : Moment
    pub at : moment_at program run position ≡ Some moment
    pub ends : use_with moment.effect sort cell ≡ Some Ends_it
    pub later : p ≤ position

  longer : (choice : Choice) (run : List Choice) (p : ℕ) → EndsAfter run p → EndsAfter (choice ∷ run) p
  longer choice run p x = record { position = x.position; moment = x.moment; at = at_longer program choice run x.position x.moment x.at; ends = x.ends; later = x.later }

  -- the last step ended it, or it was dead
  dead_by : (u : Option Doing) (l : ℕ) → life_after (change_by u) l ≡ 2 → (u ≡ Some Ends_it) ⊎ (l ≡ 2)
  dead_by None l e = inr e
  dead_by (Some Begins) l e = absurd (let f : 1 ≡ 2 = e in omega arith)
  dead_by (Some Ends_it) l e = inl refl
  dead_by (Some Joins_it) l e = inr e
  dead_by (Some Detaches_it) l e = inr e

  ended_now : (choice : Choice) (run : List Choice) → (r : IsGoodRun program (choice ∷ run)) → (p : ℕ) → p ≤ length run
      → use_with (good_last program choice run r).effect sort cell ≡ Some Ends_it → EndsAfter (choice ∷ run) p
  ended_now choice run r p l e = let last = good_last program choice run r in
      record { position = length run; moment = last_of program choice run last; at = last.at; ends = e; later = l }

  pub ended_some : (run : List Choice) → IsGoodRun program run → life program well sort no_thread cell run ≡ 2 → EndsAfter run 0
  ended_some [] r e = absurd (let f : 0 ≡ 2 = sym (life_opens program sort cell no_thread) ∙ e in omega arith)
  ended_some (choice ∷ run) r e = elim (dead_by _ _ (life_last program well sort no_thread cell choice run r 2 e)) [
    | inl u ↦ ended_now choice run r 0 (omega arith) u
    | inr l ↦ longer choice run 0 (ended_some run r.0 l)
  ]

  -- dead before a step, or ended since
  pub ended_since : (run : List Choice) → IsGoodRun program run → (p : ℕ) (m : Moment) → moment_at program run p ≡ Some m → life program well sort no_thread cell run ≡ 2
      → (life program well sort no_thread cell m.earlier ≡ 2) ⊎ EndsAfter run p
  ended_since [] r p m a e = absurd (cc)
  ended_since (choice ∷ run) r p m a e = elim (dead_by _ _ (life_last program well sort no_thread cell choice run r 2 e)) [
    | inl u ↦ inr (ended_now choice run r p (let w : p < length (choice ∷ run) = at_within program (choice ∷ run) p m a in omega arith) u)
    | inr l ↦ elim (at_cases program choice run (good_last program choice run r) p m a) [
      | inl q ↦ inl (subst (λ (x : Moment). life program well sort no_thread cell x.earlier ≡ 2) q.1 l)
      | inr f ↦ elim (ended_since run r.0 p m f l) [ inl d ↦ inl d | inr x ↦ inr (longer choice run p x) ]
    ]
  ]

  -- it was ended behind a step that makes a thread
  pub ends_behind : (run : List Choice) (p : ℕ) (m : Moment) → moment_at program run p ≡ Some m → (made thread : ℕ) → made_thread m.effect.sync made ≡ Some thread → (x : EndsAfter run p) → p < x.position
  ends_behind run p m a made thread e x = elim (eq-or-lt_of_le x.later) [
    | inl same ↦ absurd (makes_no_end sort no_thread m.effect.sync made thread _ e
        (subst (λ (y : Moment). use_with y.effect sort cell ≡ Some Ends_it) (same_moment program run x.position p x.moment m (sym same) x.at a) x.ends))
    | inr less ↦ less
  ]
