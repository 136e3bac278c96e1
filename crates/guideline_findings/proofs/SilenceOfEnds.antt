-- Where Rule 22.15 has no finding, no run breaks it.
use Rattle.std.proofs.Common.{◌≡◌, ◌⊎◌, inl, inr, refl, sym, subst, ap, ◌∙◌, Bool, true, false, not, ◌||◌, ◌&&◌, ◌==◌, ℕ, zero, suc, ◌<◌, ℤ, List, [], ◌∷◌, Option, Some, None, eqb-true, eq-eqb, arith}
use Rattle.std.proofs.lemmas.Grind.{common_steps}
use Rattle.std.specs.List.{list_any}
use Rattle.misra_base.specs.declared.guideline.Guideline.TheVariants.{R22_15}
use Rattle.c_program.specs.declared.program.Program.{Program}
use Rattle.c_program.specs.Syntax.{act_at}
use Rattle.c_program.specs.Values.{Cell, Location, location_of}
use Rattle.c_program.specs.Control.{Control, Move, Spot, Point}
use Rattle.c_program.specs.State.{State, Running, Frame, Life, Unmade, Live, Dead, has_ended, here, Mutex}
use Rattle.c_program.specs.Requests.{Request, Creates, Joins, Detaches, Inits, Locks, Tries, Tries_timed, Unlocks, Destroys, Opens, Signals, Waits, Retakes, Closes, Makes_key, Gets_key, Sets_key, Deletes_key}
use Rattle.c_program.specs.Faults.{Sort, A_mutex, A_condition, A_key, A_thread, How, Initialises, Uses, Ends_life, Access, accesses_of, some_below, is_busy, is_destruction, too_late, is_too_late}
use Rattle.c_program.specs.Step.{Choice}
use Rattle.c_program.specs.Runs.{IsGoodRun, IsRun, state_after}
use Rattle.c_program.specs.Happens.{state_at}
use Rattle.c_program.specs.Breaks.{Breaks, point_of}
use Rattle.c_program.specs.WellFormed.{IsWellFormed}
use Rattle.c_program.specs.Paths.{Offers, stands_at}
use Rattle.c_program.specs.Tracks.{life_number, life_of}
use Rattle.c_program.specs.Laws.{IsRequestBy, NamesAt}
use Rattle.c_program.proofs.Asking.{by_a_move}
use Rattle.c_program.proofs.Cells.{and_true}
use Rattle.c_program.proofs.Logic.{not_true}
use Rattle.path_simulation.specs.Simulates.{origin_in}
use Rattle.pointer_targets.specs.Names.{Names}
use Rattle.static_facts.proofs.Moments.{IsMoment, step_of, moment_is}
use Rattle.static_facts.specs.ObjectStates.{IsNoThread, Is_dead, Ends_it}
use Rattle.static_facts.specs.Lives.{MayLive, in_created}
use Rattle.guideline_findings.specs.Lives.{Accesses, IsUseOrEnd}
use Rattle.static_facts.specs.ThreadLaws.{LivesHere, origin_of}
use Rattle.guideline_findings.proofs.Unfound.{IsSettledThread, NoneEndedOutside, NoEnd}
use Rattle.static_facts.proofs.Accessing.{IsNamed, IsNamedAccess, EachAccess, found_access, named_accesses, both_each}
use Rattle.static_facts.proofs.Positions.{to_prefix, from_prefix, lasting}
use Rattle.static_facts.proofs.Births.{Birth, birth, initial_origin, initial_moment, initial_moves, same_point, born_before}
use Rattle.static_facts.proofs.Stopping.{point_is, moment_point, stands_initial}
use Rattle.static_facts.proofs.Ordering.{ended_keeps, joined_in}
use Rattle.static_facts.proofs.Lifetimes.{IsAlone, life, runs_made, initial_lives, dead_seen}
use Rattle.static_facts.proofs.Waits.{true_false, waits_live}
use Rattle.static_facts.proofs.Ending.{EndsAfter, ended_some, ended_since, ends_behind}
use Rattle.guideline_findings.proofs.SilenceOfLives.{StandsBefore, stands_before, does_before, created_thread}
use Rattle.guideline_findings.proofs.Accessed.{AccessedBy, accessed_by}
use Rattle.pointer_targets.specs.LibraryObjects.{IsObjectAt}
use Rattle.pointer_targets.proofs.Told.{Told, ObjectsAreStatic}
use Rattle.static_facts.specs.Points.{thread_of}

-- what is too late is dead, and no initialisation
late_life : {A : Type 0} (how : How) (life : Life A) → is_too_late how life ≡ true → (IsUseOrEnd how) × (life_number life ≡ 2)
late_life Initialises life e = absurd (cc)
late_life Uses Dead e = (tt, refl)
late_life Uses Unmade e = absurd (cc)
late_life Uses (Live a) e = absurd (cc)
late_life Ends_life Dead e = (tt, refl)
late_life Ends_life Unmade e = absurd (cc)
late_life Ends_life (Live a) e = absurd (cc)

late_number : (state : State) (how : How) (sort : Sort) (cell : Cell) → too_late state (record { how = how; sort = sort; cell = cell }) ≡ true
    → IsNoThread sort × ((IsUseOrEnd how) × (life_of state sort cell ≡ 2))
late_number state how A_mutex cell e = (tt, late_life how (state.mutex cell) e)
late_number state how A_condition cell e = (tt, late_life how (state.condition cell) e)
late_number state how A_key cell e = (tt, late_life how (state.key cell) e)
late_number state how A_thread cell e = absurd (cc)

-- some number below a bound passes the test
below_has : (n : ℕ) (test : ℕ → Bool) → some_below n test ≡ true → (k : ℕ) × (test k ≡ true)
below_has zero test e = absurd (cc)
below_has (suc n) test e = go (below_has n test) (test n) refl e
  where
    go : (some_below n test ≡ true → (k : ℕ) × (test k ≡ true)) → (b : Bool) → test n ≡ b → (b || some_below n test) ≡ true → (k : ℕ) × (test k ≡ true)
    go rest true f e = (n, f)
    go rest false f e = rest e

-- which thread makes it busy
pub record BusyBy (state : State) (thread : ℕ) (cell : Cell) : Type 0 where
  pub other : ℕ
  pub apart : (other == thread) ≡ false
  pub accessed : state.accessed cell other ≡ true
  pub runs : has_ended (state.thread other).stand ≡ false

busy_by : (state : State) (thread : ℕ) (cell : Cell) → is_busy state thread cell ≡ true → BusyBy state thread cell
busy_by state thread cell e = let k = below_has state.made _ e in
    let p = and_true (not (k.0 == thread) && state.accessed cell k.0) (not (has_ended (state.thread k.0).stand)) k.1 in
    let q = and_true (not (k.0 == thread)) (state.accessed cell k.0) p.0 in
    record { other = k.0; apart = not_true _ q.0; accessed = q.1; runs = not_true _ p.1 }

positive : (n : ℕ) → (n == 0) ≡ false → 0 < n
positive n e = grind (arith, common_steps)

module _ (program : Program) (well : IsWellFormed program) (names : Names) (premises : Told program names) (static : ObjectsAreStatic program) where
  -- ---- no finding

  -- the initial thread alone ends objects
  ended_alone : NoneEndedOutside program names → (sort : Sort) → IsNoThread sort → (cell : Cell) → IsAlone program sort cell Ends_it
  ended_alone none sort n cell choice run step z u = let b = does_before program well names premises static sort n cell Ends_it choice run step u in
      none sort n (origin_in program run choice.thread) (stands_at (origin_in program run choice.thread) step.by.control step.move) b.location (record {
        accesses = b.access;
        elsewhere = created_thread program well run step.good choice.thread step.by.control step.by.frames step.by.inside step.by.stands z;
      })

  pub dead_possible : (sort : Sort) → IsNoThread sort → NoneEndedOutside program names → (object : Cell) (location : Location) → IsObjectAt program sort object location
      → (run : List Choice) → IsGoodRun program run → (control : Control) (frames : List Frame) (inside : Option Cell) (move : Move)
      → ((state_after program run).thread 0).stand ≡ Running control frames inside → Offers control move
      → life_of (state_after program run) sort object ≡ 2 → LivesHere program names sort location run 0 control move Is_dead
  dead_possible sort n none object location at run good control frames inside move s o e = initial_lives program well sort n object names premises location at Is_dead tt run good control frames inside move s o
      (dead_seen program well sort n object (ended_alone none sort n object) run good e)

  module _ (none : NoEnd program names) where
    alone : (sort : Sort) → IsNoThread sort → (cell : Cell) → IsAlone program sort cell Ends_it
    alone = ended_alone none.outside

    module _ (run : List Choice) (good : IsGoodRun program run) (thread : ℕ) (control : Control) (frames : List Frame) (move : Move)
        (stands : ((state_after program run).thread thread).stand ≡ Running control frames None) (offers : Offers control move)
        (how : How) (sort : Sort) (no_thread : IsNoThread sort) (cell : Cell) (b : StandsBefore program well names premises static run thread control move how sort cell) where
      abbrev origin : List Spot
      origin = origin_in program run thread

      abbrev point : Point
      point = stands_at origin control move

      -- two locations of the object are one
      one_location : (l : Location) → location_of program cell ≡ Some l → l ≡ b.location
      one_location l e = same l b.location (sym e ∙ b.at.here)
        where
          same : (x y : Location) → Some x ≡ Some y → x ≡ y
          same x y e = cc

      running_now : has_ended ((state_after program run).thread thread).stand ≡ false
      running_now = ap has_ended stands

      -- ---- a destruction of what another thread needs

      busy_end : how ≡ Ends_life → thread ≡ 0 → BusyBy (state_after program run) thread cell → ⊥
      busy_end h z k = none.busy sort no_thread (stands_at [] control move) b.location
          (subst (λ (l : List Spot). Accesses program names l (stands_at l control move) Ends_life sort b.location) initial
          (subst (λ (x : How). Accesses program names origin point x sort b.location) h b.access))
          (origin_of program a.moment) (λ o. true_false (k.other == thread) (eq-eqb k.other thread (sym a.by ∙ initial_moves program well run a.position a.moment good a.at o ∙ sym z)) k.apart)
          (stands_at (origin_of program a.moment) a.is.by.control a.moment.move) a.how
          (subst (λ (l : Location). Accesses program names (origin_of program a.moment) (stands_at (origin_of program a.moment) a.is.by.control a.moment.move) a.how sort l)
          (one_location a.stands.location a.stands.at.here) a.stands.access)
          settled_ends
        where
          a : AccessedBy program well names premises static run k.other sort cell
          a = accessed_by program well names premises static sort no_thread cell b.at.of_sort run good k.other k.accessed

          initial : origin ≡ []
          initial = ap (λ n. origin_in program run n) z ∙ initial_origin program well run good

          settled_ends : IsSettledThread program names (origin_of program a.moment) (stands_at [] control move) → ⊥
          settled_ends s = let born = born_before program well run a.position a.moment s.is_plain.creation good a.at s.is_plain.is in
              let j = joined_in program well names premises run good control frames None move (ap (λ n. ((state_after program run).thread n).stand) (sym z) ∙ stands) offers s.is_plain.creation s.object s.is_plain.plain s.settled
              born.position born.moment born.at a.moment.choice.thread born.makes born.point in
              true_false (has_ended ((state_after program run).thread k.other).stand)
              (subst (λ n. has_ended ((state_after program run).thread n).stand ≡ true) a.by
              (lasting program (λ run. has_ended ((state_after program run).thread a.moment.choice.thread).stand ≡ true) (ended_keeps program well a.moment.choice.thread) run j.position j.moment good j.at j.ended))
              k.runs

      -- ---- a use of what is dead

      -- an end that a created thread needs
      module _ (created : (thread == 0) ≡ false) (birth : Birth program run thread origin) (x : EndsAfter program well sort no_thread cell run 0)
          (late : (birth.position < x.position) ⊎ ((birth.moment.choice.thread == 0) ≡ false)) where
        d : IsMoment program x.moment
        d = moment_is program run x.position x.moment good x.at

        ends_at : StandsBefore program well names premises static x.moment.earlier x.moment.choice.thread d.by.control x.moment.move Ends_life sort cell
        ends_at = does_before program well names premises static sort no_thread cell Ends_it x.moment.choice x.moment.earlier (step_of program x.moment d) x.ends

        by_initial : x.moment.choice.thread ≡ 0
        by_initial = go (x.moment.choice.thread == 0) refl
          where
            go : (c : Bool) → (x.moment.choice.thread == 0) ≡ c → x.moment.choice.thread ≡ 0
            go true e = eqb-true x.moment.choice.thread 0 e
            go false e = absurd (alone sort no_thread cell x.moment.choice x.moment.earlier (step_of program x.moment d) e x.ends)

        initial_end : origin_in program x.moment.earlier x.moment.choice.thread ≡ []
        initial_end = initial_moment program well run x.position x.moment good x.at by_initial

        not_settled : IsSettledThread program names origin (stands_at [] d.by.control x.moment.move) → ⊥
        not_settled s = go late
          where
            at_creation : point_of program birth.moment ≡ s.is_plain.creation
            at_creation = same_point program well (point_of program birth.moment) s.is_plain.creation (sym birth.point ∙ s.is_plain.is)

            go : (birth.position < x.position) ⊎ ((birth.moment.choice.thread == 0) ≡ false) → ⊥
            go (inr e) = true_false (birth.moment.choice.thread == 0)
                (eq-eqb birth.moment.choice.thread 0 (stands_initial program well run birth.position birth.moment s.is_plain.creation good birth.at s.is_plain.plain.point.is_point at_creation)) e
            go (inl l) = let j = joined_in program well names premises x.moment.earlier d.good d.by.control d.by.frames d.by.inside x.moment.move
                (ap (λ n. ((state_at program x.moment).thread n).stand) (sym by_initial) ∙ d.by.stands) (x.moment.choice.pair, d.by.offers) s.is_plain.creation s.object s.is_plain.plain s.settled
                birth.position birth.moment (to_prefix program run x.position birth.position x.moment birth.moment good x.at l birth.at) thread birth.makes at_creation in
                true_false (has_ended ((state_after program run).thread thread).stand)
                (lasting program (λ run. has_ended ((state_after program run).thread thread).stand ≡ true) (ended_keeps program well thread) run j.position j.moment good
                (from_prefix program run x.position j.position x.moment j.moment good x.at j.at) j.ended)
                running_now

        needed : ⊥
        needed = none.busy sort no_thread (stands_at [] d.by.control x.moment.move) b.location
            (subst (λ (l : Location). Accesses program names [] (stands_at [] d.by.control x.moment.move) Ends_life sort l) (one_location ends_at.location ends_at.at.here)
            (subst (λ (l : List Spot). Accesses program names l (stands_at l d.by.control x.moment.move) Ends_life sort ends_at.location) initial_end ends_at.access))
            origin (created_thread program well run good thread control frames None stands created) point how b.access not_settled

      dead_use : (IsUseOrEnd how) → life program well sort no_thread cell run ≡ 2 → ⊥
      dead_use start dead = by_thread (thread == 0) refl
        where
          found : MayLive program names sort b.location origin point Is_dead → ⊥
          found m = none.dead sort no_thread how start origin point b.location b.access m

          by_birth : (thread == 0) ≡ false → Birth program run thread origin → ⊥
          by_birth e birth = go (birth.moment.choice.thread == 0) refl
            where
              m : IsMoment program birth.moment
              m = moment_is program run birth.position birth.moment good birth.at

              was_dead : (birth.moment.choice.thread == 0) ≡ true → life program well sort no_thread cell birth.moment.earlier ≡ 2 → ⊥
              was_dead z l = found (subst (λ (o : List Spot). MayLive program names sort b.location o (stands_at o control move) Is_dead) (sym birth.point)
                  (in_created (origin_of program birth.moment) (point_of program birth.moment) (stands_at (thread_of (point_of program birth.moment)) control move) Is_dead
                  (moment_point program well run birth.position birth.moment good birth.at)
                  (subst (λ (p : Point). MayLive program names sort b.location (origin_of program birth.moment) p Is_dead) (sym (point_is program birth.moment m))
                  (subst (λ n. MayLive program names sort b.location (origin_in program birth.moment.earlier n) (stands_at (origin_in program birth.moment.earlier n) m.by.control birth.moment.move) Is_dead)
                  (sym (eqb-true birth.moment.choice.thread 0 z))
                  (initial_lives program well sort no_thread cell names premises b.location b.at Is_dead tt birth.moment.earlier m.good m.by.control m.by.frames m.by.inside birth.moment.move
                  (ap (λ n. ((state_at program birth.moment).thread n).stand) (sym (eqb-true birth.moment.choice.thread 0 z)) ∙ m.by.stands) (birth.moment.choice.pair, m.by.offers)
                  (dead_seen program well sort no_thread cell (alone sort no_thread cell) birth.moment.earlier m.good l))))))

              any_end : EndsAfter program well sort no_thread cell run birth.position → EndsAfter program well sort no_thread cell run 0
              any_end x = record { position = x.position; moment = x.moment; at = x.at; ends = x.ends; later = omega arith }

              go : (c : Bool) → (birth.moment.choice.thread == 0) ≡ c → ⊥
              go false z = needed e birth (ended_some program well sort no_thread cell run good dead) (inr z)
              go true z = elim (ended_since program well sort no_thread cell run good birth.position birth.moment birth.at dead) [
                | inl l ↦ was_dead z l
                | inr x ↦ needed e birth (any_end x) (inl (ends_behind program well sort no_thread cell run birth.position birth.moment birth.at (state_at program birth.moment).made thread birth.makes x))
              ]

          by_thread : (c : Bool) → (thread == 0) ≡ c → ⊥
          by_thread true e = let z = eqb-true thread 0 e in
              found (subst (λ n. MayLive program names sort b.location (origin_in program run n) (stands_at (origin_in program run n) control move) Is_dead) (sym z)
              (initial_lives program well sort no_thread cell names premises b.location b.at Is_dead tt run good control frames None move (ap (λ n. ((state_after program run).thread n).stand) (sym z) ∙ stands) offers
              (dead_seen program well sort no_thread cell (alone sort no_thread cell) run good dead)))
          by_thread false e = by_birth e (birth program well run thread good (positive thread e) (runs_made program well run good thread control frames None stands))

    -- ---- Rule 22.15

    abbrev Breaks_it : State → ℕ → Access → Bool
    Breaks_it state thread access = too_late state access || (is_destruction access.how && is_busy state thread access.cell)

    is_end : (how : How) → is_destruction how ≡ true → how ≡ Ends_life
    is_end Ends_life e = refl
    is_end Uses e = absurd (cc)
    is_end Initialises e = absurd (cc)

    either : (a b : Bool) → (a || b) ≡ true → (a ≡ true) ⊎ (b ≡ true)
    either true b e = inl refl
    either false b e = inr e

    -- threads have no life that ends
    abbrev EndsNoThread : Access → Type 0
    EndsNoThread access = is_destruction access.how ≡ true → IsNoThread access.sort

    ends_of : (request : Request) → EachAccess EndsNoThread (accesses_of request)
    ends_of (Inits m kind z) = ((λ e. tt), tt)
    ends_of (Locks m) = ((λ e. tt), tt)
    ends_of (Tries m z) = ((λ e. tt), tt)
    ends_of (Tries_timed m z) = ((λ e. tt), tt)
    ends_of (Unlocks m) = ((λ e. tt), tt)
    ends_of (Destroys m) = ((λ e. tt), tt)
    ends_of (Opens c z) = ((λ e. tt), tt)
    ends_of (Closes c) = ((λ e. tt), tt)
    ends_of (Signals c) = ((λ e. tt), tt)
    ends_of (Waits c m) = ((λ e. tt), ((λ e. tt), tt))
    ends_of (Makes_key k z) = ((λ e. tt), tt)
    ends_of (Gets_key k) = ((λ e. tt), tt)
    ends_of (Sets_key k v) = ((λ e. tt), tt)
    ends_of (Deletes_key k) = ((λ e. tt), tt)
    ends_of (Retakes m z) = ((λ e. tt), tt)
    ends_of (Creates object f v z) = ((λ e. absurd (cc)), tt)
    ends_of (Joins object into) = ((λ e. absurd (cc)), tt)
    ends_of (Detaches object) = ((λ e. absurd (cc)), tt)
    ends_of _ = tt

    module _ (run : List Choice) (good : IsGoodRun program run) (thread : ℕ) where
      now : State
      now = state_after program run

      -- an access that breaks it
      broken : (control : Control) (frames : List Frame) (move : Move) → ((state_after program run).thread thread).stand ≡ Running control frames None → Offers control move
          → (how : How) (sort : Sort) (cell : Cell) → (IsNoThread sort → IsNamed (here program (state_after program run) thread) (act_at program move.action) how sort cell)
          → (is_destruction how ≡ true → IsNoThread sort)
          → Breaks_it (state_after program run) thread (record { how = how; sort = sort; cell = cell }) ≡ true → ⊥
      broken control frames move s o how sort cell n t e = elim (either (too_late (state_after program run) (record { how = how; sort = sort; cell = cell })) _ e) [
        | inl l ↦ let k = late_number (state_after program run) how sort cell l in
            dead_use run good thread control frames move s o how sort k.0 cell (stands_before program well names premises static run good thread control frames move s o how sort cell (n k.0)) k.1.0 k.1.1
        | inr l ↦ let p = and_true (is_destruction how) (is_busy (state_after program run) thread cell) l in
            let nt = t p.0 in
            let b = stands_before program well names premises static run good thread control frames move s o how sort cell (n nt) in
            ends (thread == 0) refl nt p.0 b (busy_by (state_after program run) thread cell p.1)
      ]
        where
          ends : (c : Bool) → (thread == 0) ≡ c → (nt : IsNoThread sort) → is_destruction how ≡ true → StandsBefore program well names premises static run thread control move how sort cell
              → BusyBy (state_after program run) thread cell → ⊥
          ends true z nt d b k = busy_end run good thread control frames move s o how sort nt cell b (is_end how d) (eqb-true thread 0 z) k
          ends false z nt d b k = none.outside sort nt (origin_in program run thread) (stands_at (origin_in program run thread) control move) b.location (record {
            accesses = subst (λ (x : How). Accesses program names (origin_in program run thread) (stands_at (origin_in program run thread) control move) x sort b.location) (is_end how d) b.access;
            elsewhere = created_thread program well run good thread control frames None s z;
          })

      -- the second step of a wait finds its mutex live
      retaken : (control : Control) (frames : List Frame) (m : Cell) (z : ℤ) → ((state_after program run).thread thread).stand ≡ Running control frames (Some m)
          → list_any (Breaks_it (state_after program run) thread) (accesses_of (Retakes m z)) ≡ true → ⊥
      retaken control frames m z s e = unlike ((state_after program run).mutex m) (waits_live program well m run good thread control frames s).live e
        where
          unlike : (life : Life Mutex) → life_number life ≡ 1 → ((is_too_late Uses life || false) || false) ≡ true → ⊥
          unlike (Live a) l e = cc
          unlike Unmade l e = cc
          unlike Dead l e = cc

    in_time : (run : List Choice) → IsGoodRun program run → (choice : Choice) (request : Request) → IsRequestBy program (state_after program run) choice request
        → list_any (Breaks_it (state_after program run) choice.thread) (accesses_of request) ≡ true → ⊥
    in_time run good choice request w e = go w.inside w.stands w.names
      where
        go : (inside : Option Cell) → ((state_after program run).thread choice.thread).stand ≡ Running w.control w.frames inside
            → NamesAt (here program (state_after program run) choice.thread) (act_at program w.move.action) inside request → ⊥
        go None s n = let f = found_access (λ x. IsNamedAccess (here program (state_after program run) choice.thread) (act_at program w.move.action) x × EndsNoThread x)
            (Breaks_it (state_after program run) choice.thread) (accesses_of request)
            (both_each (IsNamedAccess (here program (state_after program run) choice.thread) (act_at program w.move.action)) EndsNoThread (accesses_of request)
            (named_accesses (here program (state_after program run) choice.thread) (act_at program w.move.action) request n) (ends_of request)) e in
            broken run good choice.thread w.control w.frames w.move s (choice.pair, w.offers) f.0.how f.0.sort f.0.cell f.1.0.0 f.1.0.1 f.1.1
        go (Some m) s n = retaken run good choice.thread w.control w.frames m n.0 s
            (subst (λ (q : Request). list_any (Breaks_it (state_after program run) choice.thread) (accesses_of q) ≡ true) n.1 e)

  pub silent_15 : NoEnd program names → (run : List Choice) → IsRun program run → Breaks R22_15 program run → ⊥
  silent_15 none [] r b = b
  silent_15 none (choice ∷ run) r b = in_time none run r.0 choice b.0 (by_a_move program (state_after program run) choice b.0 b.1) b.2
