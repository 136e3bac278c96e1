-- Where the text has nothing that breaks Rules 21.25, 22.12 and 22.13, no run breaks them.
use Rattle.std.proofs.Common.{◌≡◌, ◌⊎◌, inl, inr, refl, sym, subst, ap, ◌∙◌, Bool, true, false, not, ◌||◌, ℕ, ℤ, suc, List, [], ◌∷◌, Option, Some, None}
use Rattle.std.specs.Prelude.{slice_get, option_map, unwrap_or}
use Rattle.std.specs.List.{list_any}
use Rattle.misra_base.specs.declared.guideline.Guideline.TheVariants.{R21_25, R22_12, R22_13}
use Rattle.c_program.specs.declared.action.LibraryCall.TheVariants as lib
use Rattle.c_program.specs.declared.action.Act.{Act}
use Rattle.c_program.specs.declared.action.Act.TheVariants as act
use Rattle.c_program.specs.declared.program.Storage.{Storage}
use Rattle.c_program.specs.declared.program.Storage.TheVariants as storage
use Rattle.c_program.specs.declared.program.Object.{Object}
use Rattle.c_program.specs.declared.program.Program.{Program}
use Rattle.c_program.specs.Syntax.{act_at, object_at}
use Rattle.c_program.specs.Types.{holds_library, declared_type}
use Rattle.c_program.specs.Values.{Cell}
use Rattle.c_program.specs.Evaluation.{Here}
use Rattle.c_program.specs.State.{State, here}
use Rattle.c_program.specs.Requests.{Request, Touches, Weakens, Declares, Retakes}
use Rattle.c_program.specs.Faults.{is_thread_library, has_thread_library, weakens, touches, declares}
use Rattle.c_program.specs.Step.{Choice}
use Rattle.c_program.specs.Runs.{state_after}
use Rattle.c_program.specs.WellFormed.{IsWellFormed, is_automatic, is_touch, declares_object, act_is_known}
use Rattle.c_program.specs.Laws.{Names as RequestNames, NamesAt, IsRequestBy}
use Rattle.c_program.proofs.Asking.{by_a_move}
use Rattle.c_program.proofs.Cells.{and_true}
use Rattle.c_program.proofs.Offering.{act_known}
use Rattle.static_facts.specs.Facts.{Facts}
use Rattle.guideline_findings.proofs.Named.{named}
use Rattle.guideline_findings.specs.Text.{is_weak, HoldsLibrary}
use Rattle.guideline_findings.specs.Findings.{weak_order, touch, automatic, thread_storage, own}
use Rattle.guideline_findings.specs.Silence.{IsSilent}

module _ (program : Program) (state : State) (choice : Choice) where
  -- a request that retakes nothing is made outside a wait
  pub named_so : (request : Request) → ((m : Cell) (z : ℤ) → request ≡ Retakes m z → ⊥) → (r : IsRequestBy program state choice request)
      → RequestNames (here program state choice.thread) (act_at program r.move.action) request
  named_so request unlike r = go r.inside r.names
    where
      go : (inside : Option Cell) → NamesAt (here program state choice.thread) (act_at program r.move.action) inside request → RequestNames (here program state choice.thread) (act_at program r.move.action) request
      go None n = n
      go (Some m) n = absurd (unlike m n.0 n.1)

weak_named : (at : Here) (action : Act) → RequestNames at action Weakens → is_weak action ≡ true
weak_named at (act.Library (lib.Atomic call) into) n = ap not n
weak_named at _ n = absurd n

touch_named : (at : Here) (action : Act) → RequestNames at action Touches → is_touch action ≡ true
touch_named at (act.Touch e t touched) n = refl
touch_named at (act.Library (lib.Atomic call) into) n = absurd n
touch_named at _ n = absurd n

is_weakening : (request : Request) → weakens request ≡ true → request ≡ Weakens
is_weakening Weakens e = refl
is_weakening _ e = absurd (cc)

is_touching : (request : Request) → touches request ≡ true → request ≡ Touches
is_touching Touches e = refl
is_touching _ e = absurd (cc)

is_declaring : (request : Request) → declares request ≡ true → request ≡ Declares
is_declaring Declares e = refl
is_declaring _ e = absurd (cc)

pub silent_orders : (program : Program) (facts : Facts) → IsSilent program facts R21_25
silent_orders program facts clean [] r b = b
silent_orders program facts clean (choice ∷ run) r b =
    let e = is_weakening b.0 b.2 in
    let q = by_a_move program (state_after program run) choice b.0 b.1 in
    clean _ _ _ _ (own _ _ _ _ (weak_order q.move.action (weak_named (here program (state_after program run) choice.thread) (act_at program q.move.action)
    (subst (RequestNames (here program (state_after program run) choice.thread) (act_at program q.move.action)) e
    (named_so program (state_after program run) choice b.0 (λ m z f. absurd (let g : Weakens ≡ Retakes m z = sym e ∙ f in cc)) q)))))

pub silent_touches : (program : Program) (facts : Facts) → IsSilent program facts R22_12
silent_touches program facts clean [] r b = b
silent_touches program facts clean (choice ∷ run) r b =
    let e = is_touching b.0 b.2 in
    let q = by_a_move program (state_after program run) choice b.0 b.1 in
    clean _ _ _ _ (own _ _ _ _ (touch q.move.action (touch_named (here program (state_after program run) choice.thread) (act_at program q.move.action)
    (subst (RequestNames (here program (state_after program run) choice.thread) (act_at program q.move.action)) e
    (named_so program (state_after program run) choice b.0 (λ m z f. absurd (let g : Touches ≡ Retakes m z = sym e ∙ f in cc)) q)))))

-- ---- Rule 22.13

record Found_one {A : Type 0} (test : A → Bool) (xs : List A) : Type 0 where
  number : ℕ
  one : A
  has : slice_get xs number ≡ Some one
  holds : test one ≡ true

found_one : {A : Type 0} (test : A → Bool) (xs : List A) → list_any test xs ≡ true → Found_one test xs
found_one test [] e = absurd (cc)
found_one test (x ∷ xs) e = go (λ f. found_one test xs f) (test x) refl e
  where
    further : Found_one test xs → Found_one test (x ∷ xs)
    further f = record { number = suc f.number; one = f.one; has = f.has; holds = f.holds }

    go : (list_any test xs ≡ true → Found_one test xs) → (b : Bool) → test x ≡ b → (b || list_any test xs) ≡ true → Found_one test (x ∷ xs)
    go rest true t f = record { number = 0; one = x; has = refl; holds = t }
    go rest false t f = further (rest f)

abbrev of_storage : Storage → Bool
of_storage storage.Automatic = true
of_storage _ = false

abbrev of_thread : Storage → Bool
of_thread storage.Thread = true
of_thread _ = false

is_stored : (s : Storage) → of_storage s ≡ true → s ≡ storage.Automatic
is_stored storage.Automatic e = refl
is_stored storage.Static e = absurd (cc)
is_stored storage.Thread e = absurd (cc)

is_of_thread : (s : Storage) → of_thread s ≡ true → s ≡ storage.Thread
is_of_thread storage.Thread e = refl
is_of_thread storage.Static e = absurd (cc)
is_of_thread storage.Automatic e = absurd (cc)

record FoundAutomatic (program : Program) (n : ℕ) : Type 0 where
  object : Object
  has : object_at program n ≡ Some object
  holds : HoldsLibrary program storage.Automatic object

record DeclaresLibrary (program : Program) (action : Act) : Type 0 where
  number : ℕ
  declares : declares_object action ≡ Some number
  found : FoundAutomatic program number

-- an object by its number that is automatic and holds a library object
held_automatic : (program : Program) (n : ℕ) → is_automatic program n ≡ true → unwrap_or (option_map (holds_library program) (declared_type program n)) false ≡ true
    → FoundAutomatic program n
held_automatic program n a h = go (object_at program n) refl
    a h
  where
    go : (found : Option Object) → object_at program n ≡ found → of_storage (unwrap_or (option_map (λ (o : Object). o.storage) found) storage.Static) ≡ true
        → unwrap_or (option_map (holds_library program) (option_map (λ (o : Object). o.c_type) found)) false ≡ true → FoundAutomatic program n
    go None f a h = absurd (cc)
    go (Some o) f a h = record { object = o; has = f; holds = record { number = n; has = f; stored = is_stored o.storage a; holds = h } }

declared : (program : Program) (at : Here) → at.program ≡ program → (action : Act) → act_is_known program action ≡ true → RequestNames at action Declares → DeclaresLibrary program action
declared program at p (act.Declare object) k n = record { number = object; declares = refl; found = held_automatic program object k (subst (λ (x : Program). unwrap_or (option_map (holds_library x) (declared_type x object)) false ≡ true) p n) }
declared program at p (act.Fill object parts) k n = record { number = object; declares = refl; found = held_automatic program object (and_true _ _ k).0 (subst (λ (x : Program). unwrap_or (option_map (holds_library x) (declared_type x object)) false ≡ true) p n) }
declared program at p (act.Library (lib.Atomic call) into) k n = absurd n
declared program at p _ k n = absurd n

thread_object : (program : Program) → has_thread_library program ≡ true → (o : Object) × HoldsLibrary program storage.Thread o
thread_object program e = let f = found_one (is_thread_library program) program.objects e in let h = and_true (of_thread f.one.storage) _ f.holds in
    (f.one, record { number = f.number; has = f.has; stored = is_of_thread f.one.storage h.0; holds = h.1 })

or_cases : (a b : Bool) → (a || b) ≡ true → (a ≡ true) ⊎ (b ≡ true)
or_cases true b e = inl refl
or_cases false b e = inr e

pub silent_objects : (program : Program) → IsWellFormed program → (facts : Facts) → IsSilent program facts R22_13
silent_objects program well facts clean [] r b = b
silent_objects program well facts clean (choice ∷ run) r b = elim (or_cases _ _ b.2) [
  | inl d ↦ (
      let e = is_declaring b.0 d in
      let q = by_a_move program (state_after program run) choice b.0 b.1 in
      let o = declared program (here program (state_after program run) choice.thread) refl (act_at program q.move.action) (act_known program well q.move.action)
      (subst (RequestNames (here program (state_after program run) choice.thread) (act_at program q.move.action)) e
      (named_so program (state_after program run) choice b.0 (λ m z f. absurd (let g : Declares ≡ Retakes m z = sym e ∙ f in cc)) q)) in
      clean _ _ _ _ (own _ _ _ _ (automatic o.found.object (named program well q.move.action o.number o.declares o.found.object o.found.has) o.found.holds)))
  | inr n ↦ (let o = thread_object program (and_true _ _ n).1 in clean _ _ _ _ (own _ _ _ _ (thread_storage o.0 o.1)))
]
