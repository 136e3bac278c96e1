-- What a guideline without a finding says of points, lives and thread states, in the words of their definitions.
use Rattle.std.proofs.Common.{◌≡◌, ◌≢◌, ◌⊎◌, inl, inr, refl, sym, subst, ◌∙◌, Bool, true, false, ℕ, List, [], Option, Some, None}
use Rattle.misra_base.specs.declared.guideline.Guideline.{Guideline}
use Rattle.misra_base.specs.declared.guideline.Guideline.TheVariants.{D5_3, R22_11, R22_14, R22_15, R22_20}
use Rattle.c_program.specs.declared.program.Program.{Program}
use Rattle.c_program.specs.Values.{Location}
use Rattle.c_program.specs.Control.{Spot, Point}
use Rattle.c_program.specs.Faults.{Sort, A_mutex, A_condition, A_key, A_thread, How, Initialises, Ends_life, is_key}
use Rattle.c_program.specs.Paths.{IsPoint}
use Rattle.c_program.specs.WellFormed.{IsWellFormed}
use Rattle.pointer_targets.specs.Names.{Names}
use Rattle.pointer_targets.specs.LibraryObjects.{IsLocationOf}
use Rattle.static_facts.specs.Candidates.{IsCandidate}
use Rattle.guideline_findings.specs.Threads.{CreatesOutside, CreatesRepeatedly, Releases, ReleasesOutside}
use Rattle.guideline_findings.specs.Lives.{Accesses, IsUseOrEnd, IsOutside, MayRunOf}
use Rattle.guideline_findings.specs.Findings.{rule_of_sort, HasLife, IsClean, own, creation_outside, creation_repeated, joined_again, joined_outside, before, second, made_outside, dead, busy, destroyed_outside}
use Rattle.static_facts.specs.ThreadStates.{along, made_outside as made_so, MayBe}
use Rattle.static_facts.proofs.Reached.{reached_point}
use Rattle.static_facts.specs.Points.{IsReachable}
use Rattle.static_facts.specs.ObjectStates.{ObjectState, Is_unmade, Is_live, Is_joined, Is_detached, Is_dead, IsStateOf, IsNoThread}
use Rattle.static_facts.specs.Facts.{Facts, ThreadMayBe}
use Rattle.static_facts.specs.Analyses.{AreSound}
use Rattle.static_facts.specs.Order.{IsSettled, IsPlainThread}
use Rattle.static_facts.specs.Lives.{MayLive}

-- ---- a plain thread that is not made yet at the point of the initial thread, or joined

pub record IsSettledThread (program : Program) (names : Names) (thread : List Spot) (point : Point) : Type 0 where
  pub object : Location
  pub is_plain : IsPlainThread program names thread object
  pub settled : IsSettled program names object point

-- ---- no finding of Rule 22.11

pub record NoRelease (program : Program) (names : Names) : Type 0 where
  pub again : (thread : List Spot) (point : Point) (object : Location) → Releases program names thread point object
      → MayBe program names object thread point Is_joined ⊎ MayBe program names object thread point Is_detached → ⊥
  pub outside : (thread : List Spot) (point : Point) (object : Location) → ReleasesOutside program names thread point object → ⊥

-- ---- no finding of Rule 22.14, or of 22.20 where it is of keys

abbrev pub NoneBegunOutside : Program → Names → Bool → Type 0
NoneBegunOutside program names keys = (sort : Sort) → IsNoThread sort → is_key sort ≡ keys → (thread : List Spot) (point : Point) (object : Location)
    → IsOutside program names thread point Initialises sort object → ⊥

pub record NoLife (program : Program) (names : Names) (keys : Bool) : Type 0 where
  pub before : (sort : Sort) → IsNoThread sort → is_key sort ≡ keys → (how : How) → IsUseOrEnd how → (thread : List Spot) (point : Point) (object : Location)
      → Accesses program names thread point how sort object → MayLive program names sort object thread point Is_unmade → ⊥
  pub second : (sort : Sort) → IsNoThread sort → is_key sort ≡ keys → (thread : List Spot) (point : Point) (object : Location)
      → Accesses program names thread point Initialises sort object → MayLive program names sort object thread point Is_live → ⊥
  pub outside : NoneBegunOutside program names keys

-- ---- no finding of Rule 22.15

abbrev pub NoneEndedOutside : Program → Names → Type 0
NoneEndedOutside program names = (sort : Sort) → IsNoThread sort → (thread : List Spot) (point : Point) (object : Location)
    → IsOutside program names thread point Ends_life sort object → ⊥

pub record NoEnd (program : Program) (names : Names) : Type 0 where
  pub dead : (sort : Sort) → IsNoThread sort → (how : How) → IsUseOrEnd how → (thread : List Spot) (point : Point) (object : Location)
      → Accesses program names thread point how sort object → MayLive program names sort object thread point Is_dead → ⊥
  pub busy : (sort : Sort) → IsNoThread sort → (point : Point) (object : Location) → Accesses program names [] point Ends_life sort object
      → (thread : List Spot) → thread ≢ [] → (other : Point) (how : How) → Accesses program names thread other how sort object
      → (IsSettledThread program names thread point → ⊥) → ⊥
  pub outside : NoneEndedOutside program names

-- ---- from the table

of_14 : (sort : Sort) → IsNoThread sort → is_key sort ≡ false → rule_of_sort sort ≡ Some R22_14
of_14 A_mutex n e = refl
of_14 A_condition n e = refl
of_14 A_key n e = absurd (cc)
of_14 A_thread n e = absurd n

of_20 : (sort : Sort) → IsNoThread sort → is_key sort ≡ true → rule_of_sort sort ≡ Some R22_20
of_20 A_key n e = refl
of_20 A_mutex n e = absurd (cc)
of_20 A_condition n e = absurd (cc)
of_20 A_thread n e = absurd n

has_life : (sort : Sort) → IsNoThread sort → HasLife sort
has_life A_mutex n = tt
has_life A_condition n = tt
has_life A_key n = tt
has_life A_thread n = absurd n

module _ (program : Program) (facts : Facts) where
  pub none_outside : IsClean program facts D5_3 → (thread : List Spot) (point : Point) → CreatesOutside program thread point → ⊥
  none_outside clean thread point c = clean _ _ _ _ (own _ _ _ _ (creation_outside thread point c))

  pub none_repeated : IsClean program facts D5_3 → (point : Point) → CreatesRepeatedly program point → ⊥
  none_repeated clean point c = clean _ _ _ _ (own _ _ _ _ (creation_repeated point c))

module _ (program : Program) (well : IsWellFormed program) (facts : Facts) (sound : AreSound program facts) where
  point_of : (thread : List Spot) (point : Point) → IsReachable program thread point → IsPoint program thread point
  point_of thread point r = reached_point program well thread r.function point r.leads r.reached

  -- a candidate is at a location of its sort
  location_of : {point : Point} {argument : ℕ} {sort : Sort} {location : Location} → IsCandidate program facts.names point argument sort location → IsLocationOf program sort location
  location_of c = record { cell = c.cell; here = c.here; of_sort = c.of_sort }

  pub no_release : IsClean program facts R22_11 → NoRelease program facts.names
  no_release clean = record {
    again = λ thread point object r m. clean _ _ _ _ (own _ _ _ _ (joined_again thread point object (record { releases = r; was = again thread point object (point_of thread point r.reachable) (location_of r.candidate) m })));
    outside = λ thread point object r. clean _ _ _ _ (own _ _ _ _ (joined_outside thread point object r));
  }
    where
      again : (thread : List Spot) (point : Point) (object : Location) → IsPoint program thread point → IsLocationOf program A_thread object
          → MayBe program facts.names object thread point Is_joined ⊎ MayBe program facts.names object thread point Is_detached
          → ThreadMayBe facts thread point object Is_joined ⊎ ThreadMayBe facts thread point object Is_detached
      again thread point object p at (inl m) = inl (sound.thread_may_be thread point object Is_joined p at m)
      again thread point object p at (inr m) = inr (sound.thread_may_be thread point object Is_detached p at m)

  -- the rules on lives, by the rule of a sort
  of_rule : (rule : Guideline) (keys : Bool) → ((sort : Sort) → IsNoThread sort → is_key sort ≡ keys → rule_of_sort sort ≡ Some rule) → IsClean program facts rule → NoLife program facts.names keys
  of_rule rule keys by clean = record {
    before = λ sort n k how u thread point object a m. clean _ _ _ _ (own _ _ _ _ (before rule sort (by sort n k) thread point object
        (record { how = how; is_late = u; accesses = a; unmade = sound.life_may_be thread point sort object Is_unmade (point_of thread point a.reachable) n (location_of a.takes.candidate) m })));
    second = λ sort n k thread point object a m. clean _ _ _ _ (own _ _ _ _ (second rule sort (by sort n k) thread point object
        (record { accesses = a; alive = sound.life_may_be thread point sort object Is_live (point_of thread point a.reachable) n (location_of a.takes.candidate) m })));
    outside = λ sort n k thread point object o. clean _ _ _ _ (own _ _ _ _ (made_outside rule sort (by sort n k) thread point object o));
  }

  pub no_life_14 : IsClean program facts R22_14 → NoLife program facts.names false
  no_life_14 clean = of_rule R22_14 false of_14 clean

  pub no_life_20 : IsClean program facts R22_20 → NoLife program facts.names true
  no_life_20 clean = of_rule R22_20 true of_20 clean

  -- a plain thread that is not settled may be running
  module _ (thread : List Spot) (point : Point) (p : IsPoint program [] point) (unsettled : IsSettledThread program facts.names thread point → ⊥) where
    true_false : (b : Bool) → b ≡ true → b ≡ false → ⊥
    true_false b e f = absurd (let g : true ≡ false = sym e ∙ f in cc)

    never_dead : (object : Location) (t : List Spot) (q : Point) (state : ObjectState) → state ≡ Is_dead → MayBe program facts.names object t q state → ⊥
    never_dead object _ _ _ e (along q state s m) = subst (IsStateOf A_thread) e s
    never_dead object _ _ _ e (made_so t q state s m) = subst (IsStateOf A_thread) e s

    settled : (object : Location) → IsLocationOf program A_thread object → facts.thread_may_be [] point object Is_live ≡ false → facts.thread_may_be [] point object Is_detached ≡ false
        → IsSettled program facts.names object point
    settled object at l d Is_unmade m = inl refl
    settled object at l d Is_joined m = inr refl
    settled object at l d Is_live m = absurd (true_false _ (sound.thread_may_be [] point object Is_live p at m) l)
    settled object at l d Is_detached m = absurd (true_false _ (sound.thread_may_be [] point object Is_detached p at m) d)
    settled object at l d Is_dead m = absurd (never_dead object [] point Is_dead refl m)

    may_run : (plain : Option Location) → facts.plain_object thread ≡ plain → MayRunOf facts point plain
    may_run None e = tt
    may_run (Some object) e = go (facts.thread_may_be [] point object Is_live) refl (facts.thread_may_be [] point object Is_detached) refl
      where
        go : (live : Bool) → facts.thread_may_be [] point object Is_live ≡ live → (detached : Bool) → facts.thread_may_be [] point object Is_detached ≡ detached
            → ThreadMayBe facts [] point object Is_live ⊎ ThreadMayBe facts [] point object Is_detached
        go true l detached d = inl l
        go false l true d = inr d
        go false l false d = (let plain = sound.plain thread object e in absurd (unsettled (record { object = object; is_plain = plain; settled = settled object plain.plain.of_thread l d })))

  pub no_end : IsClean program facts R22_15 → NoEnd program facts.names
  no_end clean = record {
    dead = λ sort n how u thread point object a m. clean _ _ _ _ (own _ _ _ _ (dead sort (has_life sort n) thread point object
        (record { how = how; is_late = u; accesses = a; dead = sound.life_may_be thread point sort object Is_dead (point_of thread point a.reachable) n (location_of a.takes.candidate) m })));
    busy = λ sort n point object e thread c other how a u. clean _ _ _ _ (own _ _ _ _ (busy sort (has_life sort n) point object (record {
      destroys = e;
      thread = thread;
      created = c;
      other = other;
      how = how;
      accesses = a;
      runs = may_run thread point (point_of [] point e.reachable) u (facts.plain_object thread) refl;
    })));
    outside = λ sort n thread point object o. clean _ _ _ _ (own _ _ _ _ (destroyed_outside sort (has_life sort n) thread point object o));
  }
