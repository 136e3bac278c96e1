-- The steps before a step of a run, and what good steps keep.
use Rattle.std.proofs.Common.{◌≡◌, ◌⊎◌, inl, inr, sym, subst, ap, ◌∙◌, ℕ, ◌<◌, ◌≤◌, ◌==◌, List, [], ◌∷◌, length, Some, eqb-true, arith}
use Rattle.c_program.specs.declared.program.Program.{Program}
use Rattle.c_program.specs.Step.{Choice}
use Rattle.c_program.specs.Runs.{IsGoodRun, Moment, moment_at}
use Rattle.c_program.proofs.Logic.{if_cases}
use Rattle.static_facts.proofs.Moments.{at_within, at_longer, at_shorter, GoodLast, good_last}

pub split : (a b : ℕ) → (a < b) ⊎ (b ≤ a)
split a b = grind arith

pub same_some : {A : Type 0} (a b : A) → Some a ≡ Some b → a ≡ b
same_some a b e = cc

pub same_moment : (program : Program) (run : List Choice) (i j : ℕ) (m n : Moment) → i ≡ j → moment_at program run i ≡ Some m → moment_at program run j ≡ Some n → m ≡ n
same_moment program run i j m n e a b = same_some m n (sym a ∙ ap (λ k. moment_at program run k) e ∙ b)

-- the step is the last one, or an earlier one
abbrev pub last_of : (program : Program) (choice : Choice) (run : List Choice) → GoodLast program choice run → Moment
last_of program choice run last = record { choice = choice; earlier = run; move = last.move; effect = last.effect }

pub at_cases : (program : Program) (choice : Choice) (run : List Choice) (last : GoodLast program choice run) (i : ℕ) (m : Moment) → moment_at program (choice ∷ run) i ≡ Some m
    → ((i ≡ length run) × (last_of program choice run last ≡ m)) ⊎ (moment_at program run i ≡ Some m)
at_cases program choice run last i m e = if_cases (i == length run) _ _ _ e
    (λ s f. let h : i ≡ length run = eqb-true i (length run) s in inl (h, same_moment program (choice ∷ run) (length run) i (last_of program choice run last) m (sym h) last.at e))
    (λ _ f. inr f)

pub place : (program : Program) (run : List Choice) (i : ℕ) (m : Moment) → IsGoodRun program run → moment_at program run i ≡ Some m → length m.earlier ≡ i
place program [] i m r h = absurd (cc)
place program (choice ∷ run) i m r h = elim (at_cases program choice run (good_last program choice run r) i m h) [
  | inl e ↦ ap (λ (x : Moment). length x.earlier) (sym e.1) ∙ sym e.0
  | inr f ↦ place program run i m r.0 f
]

-- the steps before a step are those at lower positions
pub from_prefix : (program : Program) (run : List Choice) (j i : ℕ) (m n : Moment) → IsGoodRun program run → moment_at program run j ≡ Some m → moment_at program m.earlier i ≡ Some n
    → moment_at program run i ≡ Some n
from_prefix program [] j i m n r h k = absurd (cc)
from_prefix program (choice ∷ run) j i m n r h k = elim (at_cases program choice run (good_last program choice run r) j m h) [
  | inl e ↦ at_longer program choice run i n (subst (λ (x : Moment). moment_at program x.earlier i ≡ Some n) (sym e.1) k)
  | inr f ↦ at_longer program choice run i n (from_prefix program run j i m n r.0 f k)
]

pub to_prefix : (program : Program) (run : List Choice) (j i : ℕ) (m n : Moment) → IsGoodRun program run → moment_at program run j ≡ Some m → i < j → moment_at program run i ≡ Some n
    → moment_at program m.earlier i ≡ Some n
to_prefix program [] j i m n r h l k = absurd (cc)
to_prefix program (choice ∷ run) j i m n r h l k = elim (at_cases program choice run (good_last program choice run r) j m h) [
  | inl e ↦ subst (λ (x : Moment). moment_at program x.earlier i ≡ Some n) e.1 (at_shorter program choice run i n (subst (λ q. i < q) e.0 l) k)
  | inr f ↦ let w : j < length run = at_within program run j m f in to_prefix program run j i m n r.0 f l (at_shorter program choice run i n (omega arith) k)
]

-- what good steps keep lasts from a step to the end of a run
pub lasting : (program : Program) (P : List Choice → Type 0) → ((choice : Choice) (run : List Choice) → IsGoodRun program (choice ∷ run) → P run → P (choice ∷ run))
    → (run : List Choice) (i : ℕ) (m : Moment) → IsGoodRun program run → moment_at program run i ≡ Some m → P m.earlier → P run
lasting program P keeps [] i m r a h = absurd (cc)
lasting program P keeps (choice ∷ run) i m r a h = elim (at_cases program choice run (good_last program choice run r) i m a) [
  | inl e ↦ keeps choice run r (subst (λ (x : Moment). P x.earlier) (sym e.1) h)
  | inr f ↦ keeps choice run r (lasting program P keeps run i m r.0 f h)
]
