-- The local that gets the result of a try call.
use Rattle.std.proofs.Common.{◌≡◌, refl, sym, subst, ap, ◌∙◌, Bool, true, false, cond, not, ◌&&◌, ◌||◌, ◌==◌, ℕ, zero, suc, ◌<◌, ℤ, List, [], ◌∷◌, Option, Some, None, eq-eqb}
use Rattle.std.specs.List.{list_any}
use Rattle.std.specs.Prelude.{slice_get, option_map, unwrap_or}
use Rattle.c_program.specs.declared.types.Base.{Base}
use Rattle.c_program.specs.declared.types.Base.TheVariants.{Integer}
use Rattle.c_program.specs.declared.types.Integer.TheVariants.{Int}
use Rattle.c_program.specs.declared.action.Action.{Action}
use Rattle.c_program.specs.declared.action.Local.{Local}
use Rattle.c_program.specs.declared.action.Act.{Act}
use Rattle.c_program.specs.declared.action.Act.TheVariants as act
use Rattle.c_program.specs.declared.action.LibraryCall.TheVariants as lib
use Rattle.c_program.specs.declared.program.Initial.{Initial}
use Rattle.c_program.specs.declared.program.Object.{Object}
use Rattle.c_program.specs.declared.program.Storage.{Storage}
use Rattle.c_program.specs.declared.program.Storage.TheVariants as storage
use Rattle.c_program.specs.declared.program.Program.{Program}
use Rattle.c_program.specs.Syntax.{act_at, object_at}
use Rattle.c_program.specs.Types.{converted, same_numbers}
use Rattle.c_program.specs.Values.{Cell, Value, Number, Of_frame, same_cell}
use Rattle.c_program.specs.State.{initial_of}
use Rattle.c_program.specs.Faults.{is_result}
use Rattle.c_program.specs.Effects.{at_base, put_result, memory_after}
use Rattle.c_program.specs.Counters.{IsUnaddressed, addresses, expressions_of, storage_of}
use Rattle.c_program.specs.WellFormed.{is_automatic}
use Rattle.c_program.proofs.Cells.{and_true, numbers_same}
use Rattle.c_program.proofs.Far.{local_cell_of}
use Rattle.c_program.proofs.Logic.{not_true, or_false}
use Rattle.c_program.proofs.Onward.{Kind, kind_of, Goes_on}
use Rattle.static_facts.specs.Outcomes.{is_int, is_unaddressed, is_int_local}
use Rattle.static_facts.specs.Depths.{Doing, doing_of}
use Rattle.static_facts.proofs.MutexAsks.{cell_equal}
use Rattle.static_facts.proofs.Tests.{result_int}

pub record IsIntLocal (program : Program) (local : Local) : Type 0 where
  pub is_whole : local.path ≡ []
  pub as_int : (z : ℤ) → at_base local.c_type.base local.c_type.pointers (Number z) ≡ Number (converted Int z)
  pub automatic : storage_of program local.object ≡ storage.Automatic
  pub unaddressed : IsUnaddressed program local.object

int_base : (base : Base) (pointers : List Bool) (z : ℤ) → is_int base pointers ≡ true → at_base base pointers (Number z) ≡ Number (converted Int z)
int_base (Integer Int) [] z e = refl
int_base (Integer Int) (p ∷ ps) z e = absurd (cc)
int_base _ pointers z e = absurd (cc)

automatic_by : (program : Program) (object : ℕ) → is_automatic program object ≡ true → storage_of program object ≡ storage.Automatic
automatic_by program object e = go (storage_of program object) refl
  where
    go : (s : Storage) → storage_of program object ≡ s → s ≡ storage.Automatic
    go storage.Automatic f = refl
    go storage.Static f = absurd (let g : true ≡ false = sym e ∙ cc in cc)
    go storage.Thread f = absurd (let g : true ≡ false = sym e ∙ cc in cc)

-- what no entry of a table has, none has that is got from it
module _ {A B : Type 0} (test : A → Bool) (f : A → B) (g : B → Bool) (same : (a : A) → g (f a) ≡ test a) (d : B) (none : g d ≡ false) where
  none_got : (xs : List A) (n : ℕ) → list_any test xs ≡ false → g (unwrap_or (option_map f (slice_get xs n)) d) ≡ false
  none_got [] n e = none
  none_got (x ∷ xs) zero e = same x ∙ (or_false _ _ e).0
  none_got (x ∷ xs) (suc n) e = none_got xs n (or_false _ _ e).1

unaddressed_by : (program : Program) (object : ℕ) → is_unaddressed program object ≡ true → IsUnaddressed program object
unfolding act_at
unaddressed_by program object e = let p = and_true _ _ e in record {
  actions = λ n. none_got (λ (action : Action). list_any (addresses object) (expressions_of action.act)) (λ (action : Action). action.act)
      (λ (a : Act). list_any (addresses object) (expressions_of a)) (λ a. refl) act.Turn refl program.actions n (not_true _ p.0);
  initials = λ n. none_got (λ (other : Object). list_any (λ (part : Initial). addresses object part.value) other.initial) (λ (other : Object). other.initial)
      (λ (ps : List Initial). list_any (λ (part : Initial). addresses object part.value) ps) (λ a. refl) [] refl program.objects n (not_true _ p.1);
}

pub int_local : (program : Program) (local : Local) → is_int_local program local ≡ true → IsIntLocal program local
int_local program local e = let p = and_true _ _ e in let q = and_true _ _ p.0 in let r = and_true _ _ p.1 in record {
  is_whole = numbers_same local.path [] q.1;
  as_int = λ z. int_base local.c_type.base local.c_type.pointers z q.0;
  automatic = automatic_by program local.object r.0;
  unaddressed = unaddressed_by program local.object r.1;
}

-- behind the call it has the result
pub put_holds : {program : Program} (local : Local) (frame : ℕ) (z : ℤ) (memory : Cell → Option Value) → IsIntLocal program local → is_result z ≡ true
    → memory_after (put_result frame (Some local) (Some (Number z))) memory (local_cell_of frame local.object) ≡ Some (Number z)
put_holds local frame z memory n r = ap (λ b. cond b (Some (at_base local.c_type.base local.c_type.pointers (Number z))) (memory (local_cell_of frame local.object)))
    (cell_equal (record { root = Of_frame frame local.object; path = local.path }) (local_cell_of frame local.object) (ap (λ (p : List ℕ). record { root = Of_frame frame local.object; path = p }) n.is_whole))
    ∙ ap Some (n.as_int z) ∙ ap (λ x. Some (Number x)) (result_int z r)

pub doing_goes : (action : Act) (doing : Doing) → doing_of action ≡ Some doing → kind_of action ≡ Goes_on
doing_goes (act.Library (lib.MutexLock e) into) doing d = refl
doing_goes (act.Library (lib.MutexUnlock e) into) doing d = refl
doing_goes (act.Library (lib.MutexDestroy e) into) doing d = refl
doing_goes (act.Library (lib.MutexTryLock e) into) doing d = refl
doing_goes (act.Library (lib.MutexTimedLock e t) into) doing d = refl
doing_goes _ doing d = absurd (cc)
