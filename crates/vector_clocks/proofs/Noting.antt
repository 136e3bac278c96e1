-- What a detector keeps is what is to be kept.
use Rattle.std.proofs.Common.{◌≡◌, ◌⊎◌, inl, inr, refl, sym, ap, subst, ◌∙◌, Bool, true, false, cond, not, ◌&&◌, ◌||◌, ℕ, ◌<◌, ◌==◌, ◌↔◌, eqb-true, eq-eqb, arith}
use Rattle.vector_clocks.specs.declared.event.Access.{Access}
use Rattle.vector_clocks.specs.declared.event.Access.TheVariants.{Read, Write, AtomicRead, AtomicWrite, AtomicUpdate}
use Rattle.vector_clocks.specs.declared.event.Action.{Action}
use Rattle.vector_clocks.specs.declared.event.Action.TheVariants.{Create, Join, Take, Release, Access as Accesses, Other}
use Rattle.vector_clocks.specs.Steps.{Step, writes, accesses, accesses_plainly}
use Rattle.vector_clocks.specs.Clocks.{Counts, nothing_known, joined, put_at}
use Rattle.vector_clocks.specs.Kept.{Kept, moved, heard, Lists, HasRival}
use Rattle.vector_clocks.specs.Events.{step_of, is_plain, is_write, is_taken, joined_by, taken_by, is_accessed, is_atomic_read, is_atomic_write, read_atomically_by}
use Rattle.vector_clocks.specs.Held.{changed, is_of, noted, written, heard_by}
use Rattle.vector_clocks.proofs.Cases.{same_function, tested}

pub same_kept : (a b : Kept ℕ) → a.births ≡ b.births → a.threads ≡ b.threads → a.mutexes ≡ b.mutexes → a.values ≡ b.values → a.last ≡ b.last → a ≡ b
same_kept a b p q r s t = λ i. record { births = p i; threads = q i; mutexes = r i; values = s i; last = t i }

one_of : (a b : ℕ) → ((a == b) ≡ true) ↔ ((b ≡ a) ⊎ ⊥)
one_of a b = (λ t. inl (sym (eqb-true a b t)), λ o. elim o [ inl e ↦ eq-eqb a b (sym e) | inr n ↦ absurd n ])

none_of : (false ≡ true) ↔ ⊥
none_of = (λ t. absurd (cc), λ n. absurd n)

pub lists_taken : (action : Action) → Lists (is_taken action) (taken_by action)
lists_taken (Take mutex) cell = one_of mutex cell
lists_taken _ cell = none_of

pub lists_read : (action : Action) → Lists (is_accessed is_atomic_read action) (read_atomically_by action)
lists_read (Accesses c AtomicRead) cell = one_of c cell
lists_read (Accesses c AtomicUpdate) cell = one_of c cell
lists_read _ cell = none_of

-- ---- the four kinds

pub all_of : (access : Access) → is_of false false access ≡ true
all_of Read = refl
all_of Write = refl
all_of AtomicRead = refl
all_of AtomicWrite = refl
all_of AtomicUpdate = refl

pub plain_of : (access : Access) → is_of false true access ≡ is_plain access
plain_of Read = refl
plain_of Write = refl
plain_of AtomicRead = refl
plain_of AtomicWrite = refl
plain_of AtomicUpdate = refl

pub writes_of : (access : Access) → is_of true false access ≡ is_write access
writes_of Read = refl
writes_of Write = refl
writes_of AtomicRead = refl
writes_of AtomicWrite = refl
writes_of AtomicUpdate = refl

pub plain_writes_of : (access : Access) → is_of true true access ≡ (is_write access && is_plain access)
plain_writes_of Read = refl
plain_writes_of Write = refl
plain_writes_of AtomicRead = refl
plain_writes_of AtomicWrite = refl
plain_writes_of AtomicUpdate = refl

pub each_noted : (new last : Bool → Bool → ℕ → Counts) (access : Access) (cell : ℕ) (change : Counts → Counts) (plain writing writing_plainly : Bool)
    → plain ≡ is_plain access → writing ≡ is_write access → writing_plainly ≡ (is_write access && is_plain access)
    → new false false ≡ changed (last false false) cell change
    → new false true ≡ cond plain (changed (last false true) cell change) (last false true)
    → new true false ≡ cond writing (changed (last true false) cell change) (last true false)
    → new true true ≡ cond writing_plainly (changed (last true true) cell change) (last true true)
    → new ≡ noted last access cell change
each_noted new last access cell change plain writing writing_plainly p w b all_is plain_is writing_is both_is = same_function _ _ (λ w. same_function _ _ (λ p. each w p))
  where
    one : (w p test : Bool) → is_of w p access ≡ test → new w p ≡ cond test (changed (last w p) cell change) (last w p) → new w p ≡ noted last access cell change w p
    one w p test e n = n ∙ ap (λ b. cond b (changed (last w p) cell change) (last w p)) (sym e)

    each : (w p : Bool) → new w p ≡ noted last access cell change w p
    each false false = one false false true (all_of access) all_is
    each false true = one false true plain (plain_of access ∙ sym p) plain_is
    each true false = one true false writing (writes_of access ∙ sym w) writing_is
    each true true = one true true writing_plainly (plain_writes_of access ∙ sym b) both_is

-- ---- an access as a step

-- whether it is of a kind, by whether it is at the cell
abbrev shape : Access → Bool → Bool → Bool → Bool
shape access here w p =
    let reads = (is_plain access && not (is_write access)) && here in let writes = (is_plain access && is_write access) && here in
    let gets = is_atomic_read access && here in let sets = is_atomic_write access && here in
    ((reads || writes) || gets || sets) && ((writes || sets) || not w) && ((reads || writes) || not p)

shape_is : (access : Access) (here w p : Bool) → shape access here w p ≡ cond here (is_of w p access) false
shape_is Read true w p = refl
shape_is Read false w p = refl
shape_is Write true w p = refl
shape_is Write false w p = refl
shape_is AtomicRead true w p = refl
shape_is AtomicRead false w p = refl
shape_is AtomicWrite true w p = refl
shape_is AtomicWrite false w p = refl
shape_is AtomicUpdate true w p = refl
shape_is AtomicUpdate false w p = refl

-- whether it writes, is plain, and is one at all, by whether it is at the cell
abbrev writing : Access → Bool → Bool
writing access here = (is_plain access && is_write access) && here || is_atomic_write access && here

abbrev plain : Access → Bool → Bool
plain access here = (is_plain access && not (is_write access)) && here || (is_plain access && is_write access) && here

abbrev accessing : Access → Bool → Bool
accessing access here = plain access here || is_atomic_read access && here || is_atomic_write access && here

writing_here : (access : Access) → writing access true ≡ is_write access
writing_here Read = refl
writing_here Write = refl
writing_here AtomicRead = refl
writing_here AtomicWrite = refl
writing_here AtomicUpdate = refl

plain_here : (access : Access) → plain access true ≡ is_plain access
plain_here Read = refl
plain_here Write = refl
plain_here AtomicRead = refl
plain_here AtomicWrite = refl
plain_here AtomicUpdate = refl

accessing_here : (access : Access) → accessing access true ≡ true
accessing_here Read = refl
accessing_here Write = refl
accessing_here AtomicRead = refl
accessing_here AtomicWrite = refl
accessing_here AtomicUpdate = refl

not_elsewhere : (access : Access) → accessing access false ≡ false
not_elsewhere Read = refl
not_elsewhere Write = refl
not_elsewhere AtomicRead = refl
not_elsewhere AtomicWrite = refl
not_elsewhere AtomicUpdate = refl

-- ---- what a step changes

module _ (thread lane cell : ℕ) (access : Access) (kept : Kept ℕ) (clock : Counts) where
  abbrev step : Step ℕ
  step = step_of (record { thread = thread; action = Accesses cell access })

  pub last_moved : noted kept.last access cell (λ own. put_at own lane (clock lane)) ≡ (moved kept step lane clock).last
  last_moved = same_function _ _ (λ w. same_function _ _ (λ p. same_function _ _ (λ other. by_kind w p other)))
    where
      nested : (here kind : Bool) (x y : Counts) → cond (cond here kind false) x y ≡ cond kind (cond here x y) y
      nested true true x y = refl
      nested true false x y = refl
      nested false true x y = refl
      nested false false x y = refl

      pushed : (kind : Bool) (f g : ℕ → Counts) (other : ℕ) → cond kind f g other ≡ cond kind (f other) (g other)
      pushed true f g other = refl
      pushed false f g other = refl

      by_kind : (w p : Bool) (other : ℕ) → noted kept.last access cell (λ own. put_at own lane (clock lane)) w p other ≡ (moved kept step lane clock).last w p other
      by_kind w p other = pushed (is_of w p access) _ _ other ∙ sym (nested (cell == other) (is_of w p access) _ _)
          ∙ ap (λ b. cond b (put_at (kept.last w p other) lane (clock lane)) (kept.last w p other)) (sym (shape_is access (cell == other) w p))

  pub values_moved : written kept.values cell access clock ≡ (moved kept step lane clock).values
  values_moved = by_access access
    where
      by_access : (a : Access) → written kept.values cell a clock ≡ (moved kept (step_of (record { thread = thread; action = Accesses cell a })) lane clock).values
      by_access Read = refl
      by_access Write = refl
      by_access AtomicRead = refl
      by_access AtomicWrite = refl
      by_access AtomicUpdate = refl

module _ (thread cell : ℕ) (access : Access) (kept : Kept ℕ) (clock : Counts) where
  abbrev its_step : Step ℕ
  its_step = step_of (record { thread = thread; action = Accesses cell access })

  -- the step has a rival only at its own cell, and of the kind that conflicts with its access
  pub rival_here : ((lane : ℕ) × (clock lane < kept.last (not (is_write access)) (not (is_plain access)) cell lane)) ↔ ((other : ℕ) × HasRival kept its_step clock other)
  rival_here = (
    λ r. (
      cell,
      (
        ap (accessing access) (eq-eqb cell cell refl) ∙ accessing_here access,
        (r.0, subst (λ last. clock r.0 < last cell r.0) (sym (rivals_are cell (eq-eqb cell cell refl))) r.1),
      ),
    ),
    λ h. tested (cell == h.0)
        (λ here. let same : cell ≡ h.0 = eqb-true cell h.0 here in (
          h.1.1.0,
          subst (λ other. clock h.1.1.0 < kept.last (not (is_write access)) (not (is_plain access)) other h.1.1.0) (sym same)
              (subst (λ last. clock h.1.1.0 < last h.0 h.1.1.0) (rivals_are h.0 here) h.1.1.1),
        ))
        (λ elsewhere. absurd (let none : accesses its_step h.0 ≡ false = ap (accessing access) elsewhere ∙ not_elsewhere access in
        let some : accesses its_step h.0 ≡ true = h.1.0 in cc)),
  )
    where
      rivals_are : (other : ℕ) → (cell == other) ≡ true
          → kept.last (not (writes its_step other)) (not (accesses_plainly its_step other)) ≡ kept.last (not (is_write access)) (not (is_plain access))
      rivals_are other here =
          let w : writes its_step other ≡ is_write access = ap (writing access) here ∙ writing_here access in
          let p : accesses_plainly its_step other ≡ is_plain access = ap (plain access) here ∙ plain_here access in
          ap (λ b. kept.last (not b) (not (accesses_plainly its_step other))) w ∙ ap (λ b. kept.last (not (is_write access)) (not b)) p

-- ---- what a step hears

pub joined_nothing : (clock : Counts) → clock ≡ joined clock nothing_known
joined_nothing clock = same_function _ _ (λ thread. omega arith)

pub heard_is : (kept : Kept ℕ) (action : Action) → heard_by kept action ≡ heard kept (joined_by action) (taken_by action) (read_atomically_by action)
heard_is kept (Create thread) = same_function _ _ (λ t. omega arith)
heard_is kept (Join thread) = same_function _ _ (λ t. omega arith)
heard_is kept (Take mutex) = same_function _ _ (λ t. omega arith)
heard_is kept (Release mutex) = same_function _ _ (λ t. omega arith)
heard_is kept (Accesses cell Read) = same_function _ _ (λ t. omega arith)
heard_is kept (Accesses cell Write) = same_function _ _ (λ t. omega arith)
heard_is kept (Accesses cell AtomicRead) = same_function _ _ (λ t. omega arith)
heard_is kept (Accesses cell AtomicWrite) = same_function _ _ (λ t. omega arith)
heard_is kept (Accesses cell AtomicUpdate) = same_function _ _ (λ t. omega arith)
heard_is kept Other = same_function _ _ (λ t. omega arith)

pub unheard : (kept : Kept ℕ) (action : Action) → ((thread : ℕ) → action ≡ Join thread → ⊥) → ((mutex : ℕ) → action ≡ Take mutex → ⊥)
    → ((cell : ℕ) (access : Access) → action ≡ Accesses cell access → ⊥) → heard_by kept action ≡ nothing_known
unheard kept (Create thread) j t a = refl
unheard kept (Join thread) j t a = absurd (j thread refl)
unheard kept (Take mutex) j t a = absurd (t mutex refl)
unheard kept (Release mutex) j t a = refl
unheard kept (Accesses cell access) j t a = absurd (a cell access refl)
unheard kept Other j t a = refl

pub begun : (opened with_birth with_own all birth own heard_so heard : Counts) → opened ≡ nothing_known → with_birth ≡ joined opened birth → with_own ≡ joined with_birth own
    → all ≡ joined with_own heard_so → heard_so ≡ heard → all ≡ joined (joined birth own) heard
begun opened with_birth with_own all birth own heard_so heard o b w a h =
    a ∙ ap (λ c. joined c heard_so) (w ∙ ap (λ c. joined c own) (b ∙ ap (λ c. joined c birth) o ∙ same_function _ _ (λ t. omega arith))) ∙ ap (λ c. joined (joined birth own) c) h
