-- Who accessed an object stood before a call that does.
use Rattle.std.proofs.Common.{◌≡◌, refl, sym, subst, ap, ◌∙◌, Bool, true, false, ◌||◌, ◌&&◌, ◌==◌, ℕ, List, [], ◌∷◌, length, Option, Some, None, eqb-true}
use Rattle.std.specs.List.{list_any}
use Rattle.c_program.specs.declared.program.Program.{Program}
use Rattle.c_program.specs.Syntax.{act_at}
use Rattle.c_program.specs.Values.{Cell, same_cell}
use Rattle.c_program.specs.State.{State, Running, opening, here}
use Rattle.c_program.specs.Requests.{Request, Asks}
use Rattle.c_program.specs.Faults.{Sort, How, Access, accesses_of}
use Rattle.c_program.specs.Effects.{Effect, effect_of, after}
use Rattle.c_program.specs.Step.{Choice, asked_by}
use Rattle.c_program.specs.Runs.{IsGoodRun, state_after, Moment, moment_at}
use Rattle.c_program.specs.Breaks.{request_in}
use Rattle.c_program.specs.WellFormed.{IsWellFormed}
use Rattle.c_program.proofs.Asks.{EachAsk, from_each}
use Rattle.c_program.proofs.Cells.{cell_same}
use Rattle.c_program.proofs.Named.{named}
use Rattle.pointer_targets.specs.Names.{Names}
use Rattle.static_facts.proofs.Moments.{IsMoment, at_longer, GoodLast, good_last}
use Rattle.static_facts.proofs.MutexAsks.{RetakesBy, retakes_by}
use Rattle.static_facts.specs.ObjectStates.{IsNoThread}
use Rattle.static_facts.proofs.Accessing.{IsNamed, IsNamedAccess, found_access, named_accesses, typed_accesses, both_each}
use Rattle.static_facts.proofs.Positions.{last_of}
use Rattle.static_facts.proofs.Waits.{waits_live}
use Rattle.static_facts.proofs.Ending.{one_sort}
use Rattle.guideline_findings.proofs.SilenceOfLives.{StandsBefore, stands_before}
use Rattle.c_program.specs.Evaluation.{Here}
use Rattle.c_program.specs.Laws.{Names as RequestNames}
use Rattle.pointer_targets.specs.LibraryObjects.{is_of_sort}
use Rattle.pointer_targets.proofs.Told.{Told, ObjectsAreStatic}

or_none : (b : Bool) → (b || false) ≡ true → b ≡ true
or_none true e = refl
or_none false e = e

or_right_of : (a b : Bool) → a ≡ false → (a || b) ≡ true → b ≡ true
or_right_of true b e f = absurd (cc)
or_right_of false b e f = f

and_right_off : (a b : Bool) → b ≡ false → (a && b) ≡ false
and_right_off true b e = e
and_right_off false b e = refl

and_left_off : (a b : Bool) → a ≡ false → (a && b) ≡ false
and_left_off true b e = absurd (cc)
and_left_off false b e = refl

module _ (program : Program) (well : IsWellFormed program) (names : Names) (premises : Told program names) (static : ObjectsAreStatic program) where
  -- ---- who accessed an object stood before a call that does

  pub record AccessedBy (run : List Choice) (thread : ℕ) (sort : Sort) (cell : Cell) : Type 0 where
    pub position : ℕ
    pub moment : Moment
    pub at : moment_at program run position ≡ Some moment
    pub by : moment.choice.thread ≡ thread
    pub is : IsMoment program moment
    pub how : How
    pub stands : StandsBefore program well names premises static moment.earlier moment.choice.thread is.by.control moment.move how sort cell

  module _ (sort : Sort) (no_thread : IsNoThread sort) (cell : Cell) (of_sort : is_of_sort program sort cell ≡ true) where
    access_longer : (choice : Choice) (run : List Choice) (thread : ℕ) → AccessedBy run thread sort cell → AccessedBy (choice ∷ run) thread sort cell
    access_longer choice run thread x = record {
      position = x.position;
      moment = x.moment;
      at = at_longer program choice run x.position x.moment x.at;
      by = x.by;
      is = x.is;
      how = x.how;
      stands = x.stands;
    }

    module _ (choice : Choice) (run : List Choice) (r : IsGoodRun program (choice ∷ run)) where
      last : GoodLast program choice run
      last = good_last program choice run r

      abbrev state : State
      state = state_after program run

      abbrev Ours : Access → Bool
      Ours access = same_cell access.cell cell

      abbrev now : Here
      now = here program state choice.thread

      -- the last step accesses it by one of its arguments
      module _ (stands : (state.thread choice.thread).stand ≡ Running (good_last program choice run r).is.by.control (good_last program choice run r).is.by.frames None) (x : Access)
          (is_named : IsNamedAccess now (act_at program (good_last program choice run r).move.action) x) (of_type : is_of_sort program x.sort x.cell ≡ true) (ours : same_cell x.cell cell ≡ true) where
        is_cell : x.cell ≡ cell
        is_cell = cell_same x.cell cell ours

        same_sort : x.sort ≡ sort
        same_sort = one_sort program cell x.sort sort (subst (λ (c : Cell). is_of_sort program x.sort c ≡ true) is_cell of_type) of_sort

        our_name : IsNamed now (act_at program (good_last program choice run r).move.action) x.how sort cell
        our_name = subst (λ (c : Cell). IsNamed now (act_at program (good_last program choice run r).move.action) x.how sort c) is_cell
            (subst (λ (y : Sort). IsNamed now (act_at program (good_last program choice run r).move.action) x.how y x.cell) same_sort (is_named (subst IsNoThread (sym same_sort) no_thread)))

        by_access : AccessedBy (choice ∷ run) choice.thread sort cell
        by_access = let last = good_last program choice run r in record {
          position = length run;
          moment = last_of program choice run last;
          at = last.at;
          by = refl;
          is = last.is;
          how = x.how;
          stands = stands_before program well names premises static run last.is.good choice.thread last.is.by.control last.is.by.frames last.move stands (choice.pair, last.is.by.offers) x.how sort cell our_name;
        }

      -- the last step accesses it
      accesses_now : (before : (thread : ℕ) → state.accessed cell thread ≡ true → AccessedBy run thread sort cell) → list_any Ours last.effect.used ≡ true → AccessedBy (choice ∷ run) choice.thread sort cell
      unfolding last effect_of
      accesses_now before e = go last.is.by.inside last.is.by.stands last.is.by.asks
        where
          used : list_any Ours (accesses_of last.is.by.ask.request) ≡ true
          used = sym (ap (λ (x : Effect). list_any Ours x.used) last.is.by.gives) ∙ e

          names_asked : asked_by program state choice last.move None ≡ Asks last.is.by.ask → RequestNames now (act_at program last.move.action) last.is.by.ask.request
          names_asked w = named now (act_at program last.move.action) choice.pair choice.values last.is.by.ask.request (ap request_in w)

          from_access : (state.thread choice.thread).stand ≡ Running last.is.by.control last.is.by.frames None
              → (x : Access) × ((IsNamedAccess now (act_at program last.move.action) x × (is_of_sort program x.sort x.cell ≡ true)) × (Ours x ≡ true)) → AccessedBy (choice ∷ run) choice.thread sort cell
          from_access s f = by_access s f.0 f.1.0.0 f.1.0.1 f.1.1

          go : (inside : Option Cell) → (state.thread choice.thread).stand ≡ Running last.is.by.control last.is.by.frames inside
              → asked_by program state choice last.move inside ≡ Asks last.is.by.ask → AccessedBy (choice ∷ run) choice.thread sort cell
          go None s w = from_access s (found_access (λ x. IsNamedAccess now (act_at program last.move.action) x × (is_of_sort program x.sort x.cell ≡ true)) Ours (accesses_of last.is.by.ask.request)
              (both_each (IsNamedAccess now (act_at program last.move.action)) (λ x. is_of_sort program x.sort x.cell ≡ true) (accesses_of last.is.by.ask.request)
              (named_accesses now (act_at program last.move.action) last.is.by.ask.request (names_asked w)) (typed_accesses now (act_at program last.move.action) last.is.by.ask.request (names_asked w))) used)
          go (Some m) s w = let k = from_each (RetakesBy (act_at program last.move.action) m) last.is.by.ask
              (subst (EachAsk (RetakesBy (act_at program last.move.action) m)) w (retakes_by (act_at program last.move.action) m choice.values)) in
              let c = cell_same m cell (or_none (same_cell m cell) (subst (λ (q : Request). list_any Ours (accesses_of q) ≡ true) k.asks used)) in
              access_longer choice run choice.thread (before choice.thread (subst (λ (x : Cell). state.accessed x choice.thread ≡ true) c
              (waits_live program well m run last.is.good choice.thread last.is.by.control last.is.by.frames s).accessed))

    pub accessed_by : (run : List Choice) → IsGoodRun program run → (thread : ℕ) → (state_after program run).accessed cell thread ≡ true → AccessedBy run thread sort cell
    unfolding state_after opening after last
    accessed_by [] r thread e = absurd (cc)
    accessed_by (choice ∷ run) r thread e = go (accessed_by run r.0) (list_any (λ access. same_cell access.cell cell) ended.effect.used) refl (thread == choice.thread) refl
        (sym (ap (λ (s : State). s.accessed cell thread) ended.is.leads) ∙ e)
      where
        ended : GoodLast program choice run
        ended = good_last program choice run r

        go : ((thread : ℕ) → (state_after program run).accessed cell thread ≡ true → AccessedBy run thread sort cell) → (b : Bool) → list_any (λ access. same_cell access.cell cell) ended.effect.used ≡ b
            → (c : Bool) → (thread == choice.thread) ≡ c
            → ((list_any (λ access. same_cell access.cell cell) ended.effect.used && (thread == choice.thread)) || (state_after program run).accessed cell thread) ≡ true → AccessedBy (choice ∷ run) thread sort cell
        go before true u true q f = subst (λ n. AccessedBy (choice ∷ run) n sort cell) (sym (eqb-true thread choice.thread q)) (accesses_now choice run r before u)
        go before b u false q f = access_longer choice run thread (before thread (or_right_of _ _ (and_right_off _ _ q) f))
        go before false u true q f = access_longer choice run thread (before thread (or_right_of _ _ (and_left_off _ _ u) f))
