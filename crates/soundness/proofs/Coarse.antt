-- The coarsest answers are sound of each program: everything may be, and nothing is exact or plain; of the order only the
-- initial thread's own steps are told. So sound answers are there for each program, and even these say something: where no
-- action creates a thread, no run has a race.
use Rattle.std.proofs.Common.{◌≡◌, refl, sym, subst, ap, ◌∙◌, Bool, true, false, ◌&&◌, ℕ, List, [], ◌∷◌, Option, Some, None}
use Rattle.misra_base.specs.declared.guideline.Guideline.TheVariants.{D5_1}
use Rattle.misra_base.specs.declared.kind.Kind.{Kind}
use Rattle.misra_base.specs.declared.place.Place.{Place}
use Rattle.c_program.specs.declared.program.Program.{Program}
use Rattle.c_program.specs.Syntax.{act_at}
use Rattle.c_program.specs.Control.{Spot, Point}
use Rattle.c_program.specs.Faults.{Sort, A_mutex, A_condition, A_key, A_thread}
use Rattle.c_program.specs.Step.{Choice}
use Rattle.c_program.specs.Runs.{IsRun}
use Rattle.c_program.specs.Breaks.{Breaks}
use Rattle.c_program.specs.WellFormed.{IsWellFormed}
use Rattle.c_program.specs.Paths.{LeadsTo, initial as at_main, by_call, by_creation}
use Rattle.c_program.proofs.Cells.{and_true}
use Rattle.static_facts.specs.Order.{Ordered, in_initial}
use Rattle.static_facts.specs.Facts.{Facts, AreOrdered}
use Rattle.guideline_findings.specs.Findings.{Subject, rule_of_sort, Found, race, before, second, made_outside, own, dependent, IsClean}
use Rattle.static_facts.specs.Analyses.{AreSound}
use Rattle.soundness.proofs.AllSilence.{silent}
use Rattle.static_facts.specs.Points.{is_creation}
use Rattle.guideline_findings.specs.Silence.{HasCleanText}

is_initial : List Spot → Bool
is_initial [] = true
is_initial _ = false

initial : (thread : List Spot) → is_initial thread ≡ true → thread ≡ []
unfolding is_initial
initial [] e = refl
initial (spot ∷ thread) e = absurd (cc)

pub coarse : Facts
coarse = record {
  names = record { may_name = λ point argument location. true; is_exact = λ point argument location. false };
  accesses = λ point region manner. true;
  ordered = λ s p t q. is_initial s && is_initial t;
  thread_may_be = λ thread point object state. true;
  plain_object = λ thread. None;
  life_may_be = λ thread point sort location state. true;
}

module _ (program : Program) where
  both_initial : (s t : List Spot) (p q : Point) → s ≡ [] → t ≡ [] → Ordered program coarse.names s p t q
  both_initial s t p q e f = subst (λ x. Ordered program coarse.names x p t q) (sym e) (subst (λ y. Ordered program coarse.names [] p y q) (sym f) (in_initial p q))

  pub coarse_sound : AreSound program coarse
  unfolding coarse
  coarse_sound = record {
    names = record {
      may_name = λ thread point argument location is c. refl;
      is_exact = λ thread point argument location is e. absurd (cc);
    };
    accesses = λ thread point region manner is c. refl;
    ordered = λ s t p q first second e. let b = and_true (is_initial s) (is_initial t) e in both_initial s t p q (initial s b.0) (initial t b.1);
    thread_may_be = λ thread point object state is at c. refl;
    plain = λ thread object e. absurd (cc);
    life_may_be = λ thread point sort location state is n at c. refl;
  }

-- ---- a program of one thread

module _ (program : Program) (alone : (action : ℕ) → is_creation (act_at program action) ≡ false) where
  false_true : false ≡ true → ⊥
  false_true e = absurd (cc)

  one_thread : (string thread : List Spot) (function : ℕ) → LeadsTo program string thread function → thread ≡ []
  one_thread _ _ _ at_main = refl
  one_thread _ _ _ (by_call string thread f spot callee arguments result l c e) = one_thread string thread f l
  one_thread _ _ _ (by_creation string thread f spot callee object argument result l c e) = absurd (false_true (sym (alone spot.action) ∙ ap is_creation e))

  ordered_so : (s t : List Spot) (p q : Point) → s ≡ [] → t ≡ [] → AreOrdered coarse s p t q
  unfolding coarse is_initial
  ordered_so s t p q e f = subst (λ x. (is_initial x && is_initial t) ≡ true) (sym e) (subst (λ y. is_initial y ≡ true) (sym f) refl)

  no_life_rule : (sort : Sort) → rule_of_sort sort ≡ Some D5_1 → ⊥
  no_life_rule A_mutex e = absurd (cc)
  no_life_rule A_condition e = absurd (cc)
  no_life_rule A_key e = absurd (cc)
  no_life_rule A_thread e = absurd (cc)

  not_found : (place : Place) (subject : Subject) (kind : Kind) (other : Option Place) → Found program coarse D5_1 place subject kind other → ⊥
  not_found _ _ _ _ (race s t p q region r) = r.unordered (ordered_so s t p q (one_thread s s r.reachable.function r.reachable.leads) (one_thread t t r.other_reachable.function r.other_reachable.leads))
  not_found _ _ _ _ (before rule sort e t p location f) = no_life_rule sort e
  not_found _ _ _ _ (second rule sort e t p location f) = no_life_rule sort e
  not_found _ _ _ _ (made_outside rule sort e t p location f) = no_life_rule sort e

  clean : HasCleanText program coarse → IsClean program coarse D5_1
  clean text place subject k other (own _ _ _ _ f) = not_found place subject k other f
  clean text place subject k other (dependent _ semantic f) = text place f.found

  -- a program of one thread has no race
  pub no_race : IsWellFormed program → HasCleanText program coarse → (run : List Choice) → IsRun program run → Breaks D5_1 program run → ⊥
  no_race well none = silent program well coarse (coarse_sound program) D5_1 (clean none)
