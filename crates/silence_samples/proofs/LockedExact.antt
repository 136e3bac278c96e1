-- The given answers of the locked text are exact; what its two writes access.
use Rattle.std.proofs.Common.{◌≡◌, refl, sym, subst, ap, ◌∙◌, Bool, true, false, not, ◌&&◌, ℕ, zero, suc, List, [], ◌∷◌, Some}
use Rattle.std.specs.Prelude.{slice_get}
use Rattle.c_program.specs.declared.expression.Expr.{Object}
use Rattle.c_program.specs.Syntax.{c_int, act_at}
use Rattle.c_program.specs.Values.{Location}
use Rattle.c_program.specs.Control.{Spot, Point}
use Rattle.c_program.specs.Paths.{IsPoint}
use Rattle.c_program.proofs.Cells.{and_true}
use Rattle.pointer_targets.specs.Places.{Of_all, Place}
use Rattle.pointer_targets.specs.PointsTo
use Rattle.pointer_targets.specs.Candidates.{LiesAt}
use Rattle.pointer_targets.specs.Accesses.{DataAccess, data_accesses, writes_at, at_scalar, at_part, MayAccess}
use Rattle.pointer_targets.specs.Manners.{Manner, MayAccessAt}
use Rattle.pointer_targets.specs.Tellings.{Tells}
use Rattle.static_facts.specs.Analyses.{AreExact}
use Rattle.litmus.specs.Pieces.{x}
use Rattle.silence_samples.specs.Samples.{static}
use Rattle.silence_samples.specs.Locked.{locked_writes, locked_facts, is_object}
use Rattle.silence_samples.proofs.LockedPoints.{spot, at, worker, true_false, false_true, none_some, same_some, point_cases}
use Rattle.silence_samples.proofs.LockedNames.{is_it, names, names_object}
use Rattle.silence_samples.proofs.LockedStates.{both}
use Rattle.silence_samples.proofs.LockedOrder.{thread_told, lives, plain_told, plain_is_told, ordered_told}

not_false : (b : Bool) → not b ≡ true → b ≡ false
not_false false e = refl
not_false true e = false_true e

abbrev the_write : DataAccess
the_write = writes_at (Object x) c_int false

abbrev x_place : Place
x_place = record { site = Of_all x; path = [] }

module _ (string : List Spot) (n : ℕ) (is : data_accesses (act_at locked_writes n) ≡ the_write ∷ []) where
  region_x : (region : Location) → MayAccess locked_writes string (spot n) the_write region → is_object x region ≡ true
  region_x _ (at_scalar place location s p d l) =
      subst (λ y. is_object x y ≡ true) (same_some (static x) location (subst (λ q. LiesAt locked_writes q location) (names_object string [] (Object x) place p x refl) l)) refl
  region_x _ (at_part place path location s u p d l) = true_false s

  one : (number : ℕ) (access : DataAccess) → slice_get (the_write ∷ []) number ≡ Some access → the_write ≡ access
  one zero access e = same_some the_write access e
  one (suc number) access e = none_some access e

  write_told : (region : Location) (manner : Manner) → Tells (is_object x region && (manner.writes && not manner.is_atomic)) (MayAccessAt locked_writes (at string n) region manner)
  write_told region manner = record { all = all; only = only }
    where
      manner_is : (a b : Bool) → true ≡ a → false ≡ b → (a && not b) ≡ true
      manner_is a b e f = subst (λ y. (y && not b) ≡ true) e (subst (λ y. not y ≡ true) f refl)

      all : MayAccessAt locked_writes (at string n) region manner → (is_object x region && (manner.writes && not manner.is_atomic)) ≡ true
      all a = let e = one a.number a.access (subst (λ l. slice_get l a.number ≡ Some a.access) is a.has) in
          both _ _ (region_x region (subst (λ y. MayAccess locked_writes string (spot n) y region) (sym e) a.region))
          (manner_is manner.writes manner.is_atomic (ap (λ (y : DataAccess). y.writes) e ∙ a.as_write) (ap (λ (y : DataAccess). y.is_atomic) e ∙ a.as_atomic))

      only : (is_object x region && (manner.writes && not manner.is_atomic)) ≡ true → MayAccessAt locked_writes (at string n) region manner
      only e = let b = and_true (is_object x region) (manner.writes && not manner.is_atomic) e in let c = and_true manner.writes (not manner.is_atomic) b.1 in record {
        access = the_write;
        number = 0;
        has = subst (λ l. slice_get l 0 ≡ Some the_write) (sym is) refl;
        as_write = sym c.0;
        as_atomic = sym (not_false manner.is_atomic c.1);
        region = subst (λ y. MayAccess locked_writes string (spot n) the_write y) (is_it x region b.0)
            (at_scalar x_place (static x) refl (PointsTo.object string [] x) (record { own = c_int; has_type = refl; is_data = refl }) refl);
      }

module _ (string : List Spot) (n : ℕ) (is : data_accesses (act_at locked_writes n) ≡ []) where
  none_told : (region : Location) (manner : Manner) → Tells false (MayAccessAt locked_writes (at string n) region manner)
  none_told region manner = record { all = λ a. none_some a.access (subst (λ l. slice_get l a.number ≡ Some a.access) is a.has); only = λ e. false_true e }

accesses : (thread : List Spot) (point : Point) → IsPoint locked_writes thread point → (region : Location) (manner : Manner)
    → Tells (locked_facts.accesses point region manner) (MayAccessAt locked_writes point region manner)
unfolding act_at
accesses = point_cases (λ thread point. (region : Location) (manner : Manner) → Tells (locked_facts.accesses point region manner) (MayAccessAt locked_writes point region manner))
    (none_told [] 4 refl) (none_told [] 5 refl) (none_told [] 6 refl) (write_told [] 7 refl) (none_told [] 8 refl) (none_told [] 9 refl)
    (none_told worker 0 refl) (write_told worker 1 refl) (none_told worker 2 refl) (none_told worker 3 refl)

pub exact : AreExact locked_writes locked_facts
exact = record {
  names = names;
  accesses = λ thread point region manner is. accesses thread point is region manner;
  ordered = λ s r p q first second. ordered_told s r p q first second;
  thread_may_be = λ thread point object state is at. thread_told thread point object state is;
  plain = λ thread object e. plain_told thread object e;
  all_plain = λ thread object p. plain_is_told thread object p;
  life_may_be = λ thread point sort location state is n at. lives sort location thread point is state;
}
