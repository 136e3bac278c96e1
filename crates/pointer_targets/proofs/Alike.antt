-- What one step does to one data cell is all atomic, or none of it is.
use Rattle.std.proofs.Common.{◌≡◌, ◌⊎◌, inl, inr, refl, sym, subst, ap, ◌∙◌, Bool, true, false, cond, ℕ, zero, suc, List, [], ◌∷◌, ◌++◌, Some}
use Rattle.std.specs.Prelude.{slice_get}
use Rattle.c_program.specs.declared.types.Integer.{Integer as IntegerType}
use Rattle.c_program.specs.declared.types.Base.{Base}
use Rattle.c_program.specs.declared.types.Base.TheVariants as base
use Rattle.c_program.specs.declared.types.CType.{CType}
use Rattle.c_program.specs.declared.action.Part.{Part}
use Rattle.c_program.specs.declared.action.AtomicCall.{AtomicCall}
use Rattle.c_program.specs.declared.action.AtomicOperation.{AtomicOperation}
use Rattle.c_program.specs.declared.action.AtomicOperation.TheVariants as atomic
use Rattle.c_program.specs.declared.action.LibraryCall.{LibraryCall}
use Rattle.c_program.specs.declared.action.LibraryCall.TheVariants as lib
use Rattle.c_program.specs.declared.action.Act.{Act}
use Rattle.c_program.specs.declared.action.Act.TheVariants as act
use Rattle.c_program.specs.declared.program.Program.{Program}
use Rattle.c_program.specs.Types.{is_scalar, same_base, same_type, plain_type}
use Rattle.c_program.specs.Values.{Cell, type_of_cell, is_data_cell}
use Rattle.c_program.specs.Control.{Spot}
use Rattle.c_program.proofs.Cells.{and_true}
use Rattle.pointer_targets.specs.Accesses.{DataAccess, of_object, data_accesses, call_accesses, atomic_accesses, part_accesses, reads_at, compares}
use Rattle.pointer_targets.proofs.Regions.{whole_type}
use Rattle.pointer_targets.proofs.Touching.{Touched}

All : (DataAccess → Type 0) → List DataAccess → Type 0
All P [] = Unit {0}
All P (x ∷ xs) = P x × All P xs

all_at : (P : DataAccess → Type 0) (xs : List DataAccess) → All P xs → (n : ℕ) (x : DataAccess) → slice_get xs n ≡ Some x → P x
unfolding All
all_at P [] a n x q = absurd (cc)
all_at P (y ∷ ys) a zero x q = subst P (same y x q) a.0
  where
    same : (a b : DataAccess) → Some a ≡ Some b → a ≡ b
    same a b e = cc
all_at P (y ∷ ys) a (suc n) x q = all_at P ys a.1 n x q

-- scalars of two types that no object has both of
Differ : CType → CType → Type 0
Differ t u = (is_scalar t ≡ true) × (is_scalar u ≡ true) × ((own : CType) → same_type t own ≡ true → same_type u own ≡ true → ⊥)

atomic_differs : (i : IntegerType) (own : CType) → same_type (plain_type (base.Atomic i)) own ≡ true → same_type (plain_type (base.Integer i)) own ≡ true → ⊥
atomic_differs i own e f = go own.base (and_true _ _ (and_true _ _ e).0).0 (and_true _ _ (and_true _ _ f).0).0
  where
    go : (b : Base) → same_base (base.Atomic i) b ≡ true → same_base (base.Integer i) b ≡ true → ⊥
    go base.Void e f = absurd (cc)
    go (base.Integer j) e f = absurd (cc)
    go (base.Atomic j) e f = absurd (cc)
    go (base.Structure s) e f = absurd (cc)
    go base.Mutex e f = absurd (cc)
    go base.Condition e f = absurd (cc)
    go base.Thread e f = absurd (cc)
    go base.Key e f = absurd (cc)

Alike : DataAccess → DataAccess → Type 0
Alike x y = (x.is_atomic ≡ y.is_atomic) ⊎ (Differ x.c_type y.c_type ⊎ Differ y.c_type x.c_type)

Flag : Bool → DataAccess → Type 0
Flag b x = x.is_atomic ≡ b

-- the object, or what it is compared with
Either : AtomicCall → DataAccess → Type 0
Either call x = ((x.is_atomic ≡ true) × (x.c_type ≡ of_object call)) ⊎ ((x.is_atomic ≡ false) × (x.c_type ≡ plain_type (base.Integer call.integer)))

EachAlike : List DataAccess → Type 0
EachAlike xs = (n k : ℕ) (x y : DataAccess) → slice_get xs n ≡ Some x → slice_get xs k ≡ Some y → Alike x y

by_flag : (b : Bool) (xs : List DataAccess) → All (Flag b) xs → EachAlike xs
unfolding Flag EachAlike Alike
by_flag b xs a n k x y p q = inl (all_at (Flag b) xs a n x p ∙ sym (all_at (Flag b) xs a k y q))

differ : (call : AtomicCall) (x y : DataAccess) → x.c_type ≡ of_object call → y.c_type ≡ plain_type (base.Integer call.integer) → Differ x.c_type y.c_type
unfolding Differ
differ call x y p q = (ap is_scalar p, ap is_scalar q, λ own e f. atomic_differs call.integer own (subst (λ t. same_type t own ≡ true) p e) (subst (λ t. same_type t own ≡ true) q f))

by_either : (call : AtomicCall) (xs : List DataAccess) → All (Either call) xs → EachAlike xs
unfolding EachAlike Alike Either
by_either call xs a n k x y p q = go (all_at (Either call) xs a n x p) (all_at (Either call) xs a k y q)
  where
    go : Either call x → Either call y → Alike x y
    go (inl e) (inl f) = inl (e.0 ∙ sym f.0)
    go (inl e) (inr f) = inr (inl (differ call x y e.1 f.1))
    go (inr e) (inl f) = inr (inr (differ call y x f.1 e.1))
    go (inr e) (inr f) = inl (e.0 ∙ sym f.0)

parts_flag : (parts : List Part) → All (Flag false) (part_accesses parts)
unfolding All Flag
parts_flag [] = tt
parts_flag (p ∷ parts) = go (is_scalar p.c_type) (parts_flag parts)
  where
    go : (b : Bool) → All (Flag false) (part_accesses parts) → All (Flag false) (cond b (part_accesses parts) (reads_at p.value p.c_type false ∷ part_accesses parts))
    go true a = a
    go false a = (refl, a)

atomic_alike : (call : AtomicCall) (operation : AtomicOperation) → EachAlike (atomic_accesses call operation)
unfolding All Flag Either
atomic_alike call atomic.Init = by_flag false _ (refl, tt)
atomic_alike call atomic.Load = by_flag true _ (refl, tt)
atomic_alike call atomic.Store = by_flag true _ (refl, tt)
atomic_alike call atomic.CompareExchangeStrong = by_either call (compares call) (inl (refl, refl), (inl (refl, refl), (inr (refl, refl), (inr (refl, refl), tt))))
atomic_alike call atomic.CompareExchangeWeak = by_either call (compares call) (inl (refl, refl), (inl (refl, refl), (inr (refl, refl), (inr (refl, refl), tt))))
atomic_alike call atomic.Exchange = by_flag true _ (refl, (refl, tt))
atomic_alike call atomic.FetchAdd = by_flag true _ (refl, (refl, tt))
atomic_alike call atomic.FetchSubtract = by_flag true _ (refl, (refl, tt))
atomic_alike call atomic.FetchOr = by_flag true _ (refl, (refl, tt))
atomic_alike call atomic.FetchXor = by_flag true _ (refl, (refl, tt))
atomic_alike call atomic.FetchAnd = by_flag true _ (refl, (refl, tt))

call_alike : (call : LibraryCall) → EachAlike (call_accesses call)
unfolding All Flag
call_alike (lib.ThreadJoin o e) = by_flag false _ (refl, tt)
call_alike (lib.ThreadSleep e) = by_flag false _ (refl, tt)
call_alike (lib.TimespecGet e) = by_flag false _ (refl, tt)
call_alike (lib.MutexTimedLock e t) = by_flag false _ (refl, tt)
call_alike (lib.ConditionTimedWait e d t) = by_flag false _ (refl, tt)
call_alike (lib.Atomic call) = atomic_alike call call.operation
call_alike _ = by_flag false [] tt

act_alike : (action : Act) → EachAlike (data_accesses action)
unfolding All Flag
act_alike (act.Read e t local) = by_flag _ _ (refl, tt)
act_alike (act.Write e t v) = by_flag _ _ (refl, tt)
act_alike (act.Update e t op u v) = by_flag true _ (refl, (refl, tt))
act_alike (act.Copy e t f) = by_flag false _ (refl, (refl, tt))
act_alike (act.Fill object parts) = by_flag false _ (parts_flag parts)
act_alike (act.Library call into) = call_alike call
act_alike _ = by_flag false [] tt

-- two accesses of one action that reach one data cell
module _ (program : Program) (strings : ℕ → List Spot) (string : List Spot) (spot : Spot) (action : Act) where
  pub alike : (w v a b : Bool) (from other cell : Cell) (inner more : List ℕ) → Touched program strings string spot action w a from → Touched program strings string spot action v b other
      → from.root ≡ cell.root → inner ++ from.path ≡ cell.path → other.root ≡ cell.root → more ++ other.path ≡ cell.path → is_data_cell program cell ≡ true → a ≡ b
  unfolding EachAlike Alike Differ
  alike w v a b from other cell inner more x y r p s q d = go (act_alike action x.number y.number x.access y.access x.has y.has)
    where
      one_type : (t u : CType) → Differ t u → (own other : CType) → type_of_cell program cell ≡ Some own → same_type t own ≡ true → type_of_cell program cell ≡ Some other → same_type u other ≡ true → ⊥
      one_type t u f own other e g h k = f.2 own g (subst (λ z. same_type u z ≡ true) (same other own (sym h ∙ e)) k)
        where
          same : (a b : CType) → Some a ≡ Some b → a ≡ b
          same a b e = cc

      clash : Differ x.access.c_type y.access.c_type → ⊥
      clash f = let m = whole_type program strings string spot x.access from cell inner x.reaches r p d f.0 in let n = whole_type program strings string spot y.access other cell more y.reaches s q d f.1 in
          one_type x.access.c_type y.access.c_type f m.0 n.0 m.1.0 m.1.1 n.1.0 n.1.1

      clash_other : Differ y.access.c_type x.access.c_type → ⊥
      clash_other f = let m = whole_type program strings string spot x.access from cell inner x.reaches r p d f.1 in let n = whole_type program strings string spot y.access other cell more y.reaches s q d f.0 in
          one_type y.access.c_type x.access.c_type f n.0 m.0 n.1.0 n.1.1 m.1.0 m.1.1

      go : Alike x.access y.access → a ≡ b
      go (inl e) = sym x.as_atomic ∙ e ∙ y.as_atomic
      go (inr (inl f)) = absurd (clash f)
      go (inr (inr f)) = absurd (clash_other f)
