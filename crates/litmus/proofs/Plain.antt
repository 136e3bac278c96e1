-- A program without counted loops is well-formed where the tests hold.
use Rattle.std.proofs.Common.{◌≡◌, refl, Bool, true, false, ◌&&◌, ℕ, zero, suc, nat_lt, List, [], ◌∷◌, length}
use Rattle.std.specs.Prelude.{unwrap_or, option_map, slice_get}
use Rattle.std.specs.List.{list_all}
use Rattle.c_program.specs.declared.statement.Condition.{Condition, Test, And', Or', Row_of-Condition, more_of-Condition, end_of-Condition}
use Rattle.c_program.specs.declared.statement.Statement.{Statement, Do, Block', Switch', Break, Continue, Row_of-Statement, end_of-Statement, more_of-Statement}
use Rattle.c_program.specs.declared.program.Function.{Function}
use Rattle.c_program.specs.declared.program.Program.{Program}
use Rattle.c_program.specs.Syntax.{Not, After, If, Loop, Counted, body_at}
use Rattle.c_program.specs.Counters.{Counts, CountsAll, CountsCondition, CountsConditions, has_few_turns, all_have_few_turns, condition_has_few_turns, conditions_have_few_turns}
use Rattle.c_program.specs.Typing.{is_typed}
use Rattle.c_program.specs.WellFormed.{IsWellFormed, all_differ, text_actions, fits, body_leads_on, object_is_known, function_is_known, act_is_known, structures_marked, starts_with_timespec, takes, declares_named, holds_only_for_touch}
use Rattle.c_program.proofs.Cells.{and_true}

abbrev mutual
  pub has_no_counter : Statement → Bool
  has_no_counter (Do action) = true
  has_no_counter (Block' shape all) = none_has all
  has_no_counter (If c s t) = condition_has_none c && (has_no_counter s && has_no_counter t)
  has_no_counter (Loop s t) = has_no_counter s && has_no_counter t
  has_no_counter (Counted counter body) = false
  has_no_counter (Switch' action shape all) = none_has all
  has_no_counter Break = true
  has_no_counter Continue = true

  pub none_has : {n : _} → Row_of-Statement n → Bool
  none_has end_of-Statement = true
  none_has (more_of-Statement s all) = has_no_counter s && none_has all

  pub condition_has_none : Condition → Bool
  condition_has_none (Test action) = true
  condition_has_none (Not c) = condition_has_none c
  condition_has_none (And' shape all) = conditions_have_none all
  condition_has_none (Or' shape all) = conditions_have_none all
  condition_has_none (After s c) = has_no_counter s && condition_has_none c

  pub conditions_have_none : {n : _} → Row_of-Condition n → Bool
  conditions_have_none end_of-Condition = true
  conditions_have_none (more_of-Condition c all) = condition_has_none c && conditions_have_none all

both : (a b : Bool) → a ≡ true → b ≡ true → (a && b) ≡ true
both true true e f = refl
both true false e f = absurd (cc)
both false b e f = absurd (cc)

module _ (program : Program) where
  mutual
    counts : (s : Statement) → has_no_counter s ≡ true → Counts program [] s
    counts (Do action) h = refl
    counts (Block' shape all) h = count_all all h
    counts (If c s t) h = let p = and_true _ _ h in let q = and_true _ _ p.1 in (count_condition c p.0, counts s q.0, counts t q.1)
    counts (Loop s t) h = let p = and_true _ _ h in (counts s p.0, counts t p.1)
    counts (Counted counter body) h = absurd (cc)
    counts (Switch' action shape all) h = (refl, count_all all h)
    counts Break h = tt
    counts Continue h = tt

    count_all : {n : _} (all : Row_of-Statement n) → none_has all ≡ true → CountsAll program [] all
    count_all end_of-Statement h = tt
    count_all (more_of-Statement s all) h = let p = and_true _ _ h in (counts s p.0, count_all all p.1)

    count_condition : (c : Condition) → condition_has_none c ≡ true → CountsCondition program [] c
    count_condition (Test action) h = refl
    count_condition (Not c) h = count_condition c h
    count_condition (And' shape all) h = count_conditions all h
    count_condition (Or' shape all) h = count_conditions all h
    count_condition (After s c) h = let p = and_true _ _ h in (counts s p.0, count_condition c p.1)

    count_conditions : {n : _} (all : Row_of-Condition n) → conditions_have_none all ≡ true → CountsConditions program [] all
    count_conditions end_of-Condition h = tt
    count_conditions (more_of-Condition c all) h = let p = and_true _ _ h in (count_condition c p.0, count_conditions all p.1)

mutual
  few : (turns : ℕ) (s : Statement) → has_no_counter s ≡ true → has_few_turns turns s ≡ true
  few turns (Do action) h = refl
  few turns (Block' shape all) h = few_all turns all h
  few turns (If c s t) h = let p = and_true _ _ h in let q = and_true _ _ p.1 in both _ _ (both _ _ (few_condition turns c p.0) (few turns s q.0)) (few turns t q.1)
  few turns (Loop s t) h = let p = and_true _ _ h in both _ _ (few turns s p.0) (few turns t p.1)
  few turns (Counted counter body) h = absurd (cc)
  few turns (Switch' action shape all) h = few_all turns all h
  few turns Break h = refl
  few turns Continue h = refl

  few_all : {n : _} (turns : ℕ) (all : Row_of-Statement n) → none_has all ≡ true → all_have_few_turns turns all ≡ true
  few_all turns end_of-Statement h = refl
  few_all turns (more_of-Statement s all) h = let p = and_true _ _ h in both _ _ (few turns s p.0) (few_all turns all p.1)

  few_condition : (turns : ℕ) (c : Condition) → condition_has_none c ≡ true → condition_has_few_turns turns c ≡ true
  few_condition turns (Test action) h = refl
  few_condition turns (Not c) h = few_condition turns c h
  few_condition turns (And' shape all) h = few_conditions turns all h
  few_condition turns (Or' shape all) h = few_conditions turns all h
  few_condition turns (After s c) h = let p = and_true _ _ h in both _ _ (few turns s p.0) (few_condition turns c p.1)

  few_conditions : {n : _} (turns : ℕ) (all : Row_of-Condition n) → conditions_have_none all ≡ true → conditions_have_few_turns turns all ≡ true
  few_conditions turns end_of-Condition h = refl
  few_conditions turns (more_of-Condition c all) h = let p = and_true _ _ h in both _ _ (few_condition turns c p.0) (few_conditions turns all p.1)

abbrev body_in : List Function → ℕ → Statement
body_in functions n = unwrap_or (option_map (λ f. f.body) (slice_get functions n)) Break

none_in : (functions : List Function) (n : ℕ) → list_all (λ f. has_no_counter f.body) functions ≡ true → has_no_counter (body_in functions n) ≡ true
none_in [] n h = refl
none_in (f ∷ functions) zero h = (and_true _ _ h).0
none_in (f ∷ functions) (suc n) h = none_in functions n (and_true _ _ h).1

-- ---- all tests of a program as one

abbrev pub is_plain : Program → Bool
is_plain program =
    (all_differ (text_actions program) && (list_all (λ n. nat_lt n (length program.actions)) (text_actions program) && (list_all (λ f. fits program f.body) program.functions
    && list_all (body_leads_on program) program.functions)))
    && ((list_all (object_is_known program) program.objects && (list_all (function_is_known program) program.functions && list_all (λ action. act_is_known program action.act) program.actions))
    && ((structures_marked program 0 program.structures && (starts_with_timespec program program.structures && takes program program.main 0))
    && ((is_typed program && (list_all (λ action. declares_named program action.act) program.actions && list_all (holds_only_for_touch program) program.objects))
    && list_all (λ f. has_no_counter f.body) program.functions)))

pub plain : (program : Program) → is_plain program ≡ true → IsWellFormed program
plain program h = let p = and_true _ _ h in let a = and_true _ _ p.0 in let b = and_true _ _ a.1 in let c = and_true _ _ b.1 in
    let q = and_true _ _ p.1 in let d = and_true _ _ q.0 in let e = and_true _ _ d.1 in let r = and_true _ _ q.1 in let f = and_true _ _ r.0 in let g = and_true _ _ f.1 in let i = and_true _ _ r.1 in let j = and_true _ _ i.0 in let k = and_true _ _ j.1 in record {
      differ = a.0;
      numbered = b.0;
      fit = c.0;
      leads_on = c.1;
      objects = d.0;
      functions = e.0;
      actions = e.1;
      structures = f.0;
      timespec = g.0;
      main = g.1;
      typed = j.0;
      declarations = k.0;
      fresh = k.1;
      counts = record {
        counts = λ n. counts program (body_at program n) (none_in program.functions n i.1);
        few = λ n. few 1 (body_at program n) (none_in program.functions n i.1);
      };
    }
