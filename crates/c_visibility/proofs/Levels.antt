-- What opening, closing and declaring make of what the scopes have.
use Rattle.std.proofs.Common.{◌≡◌, ◌∙◌, ℕ, ◌-◌, Bool, true, false, List, [], ◌∷◌, ◌++◌, map, take, reverse, Option, Some, None, refl, sym, ap, subst}
use Rattle.std.proofs.lemmas.List.{reverse-append}
use Rattle.std.specs.Prelude.{if◌then◌else◌, cond}
use Rattle.indexmap.specs.IndexMap.{IndexMap, get}
use Rattle.c_identifiers.specs.declared.event.Role.{Role}
use Rattle.c_visibility.specs.declared.spelled.Spot.{Spot}
use Rattle.c_visibility.specs.declared.spelled.Facts.{Facts}
use Rattle.c_visibility.specs.declared.spelled.Spelled.{Spelled}
use Rattle.c_visibility.specs.declared.spelled.Spelled.TheVariants.{Close, Declare}
use Rattle.c_visibility.specs.declared.scopes.Identifier.{Identifier}
use Rattle.c_visibility.specs.declared.scopes.Binding.{Binding}
use Rattle.c_visibility.specs.declared.scopes.Scopes.{Scopes}
use Rattle.c_visibility.specs.Scopes.{same_identifier, identifier_of, is_function, is_refused, linked, declarations, Declared, round, with_inner, with_round, with_declared, visible, joined, declares, taken, binding, bindings, inner, declaring, known_at}
use Rattle.c_visibility.specs.Knowledge.{has, taken_inner, taken_round, Knows}
use Rattle.c_visibility.proofs.Equality.{is_same}

-- ---- one scope

pub kept : (had : Identifier → Option Binding) (i j : Identifier) (d : Declared) → declares d.role d.is_refused (had i) ≡ false
    → (same : Bool) → (same ≡ true → i ≡ j) → had j ≡ (if same then taken d (had j) else had j)
kept had i j d fails true is =
    subst (λ j. had j ≡ taken d (had j)) (is refl) (sym (ap (λ b. if b then Some (joined d.number d.role (had i)) else had i) fails))
kept had i j d fails false is = refl

pub put : (had : Identifier → Option Binding) (i j : Identifier) (d : Declared) → declares d.role d.is_refused (had i) ≡ true
    → (same : Bool) → (same ≡ true → i ≡ j) → cond same (Some (joined d.number d.role (had i))) (had j) ≡ (if same then taken d (had j) else had j)
put had i j d holds true is =
    subst (λ j. Some (joined d.number d.role (had i)) ≡ taken d (had j)) (is refl) (sym (ap (λ b. if b then Some (joined d.number d.role (had i)) else had i) holds))
put had i j d holds false is = refl

-- ---- lists of scopes

inner_changed : (d : Declared) (same : Bool) (b c : Option Binding) (bs : List (Option Binding)) → c ≡ (if same then taken d b else b)
    → c ∷ bs ≡ (if same then taken_inner d (b ∷ bs) else b ∷ bs)
inner_changed d true b c bs e = ap (λ (x : Option Binding). x ∷ bs) e
inner_changed d false b c bs e = ap (λ (x : Option Binding). x ∷ bs) e

round_changed : (d : Declared) (same : Bool) (b : Option Binding) (bs cs : List (Option Binding)) → cs ≡ (if same then taken_inner d bs else bs)
    → b ∷ cs ≡ (if same then taken_round d (b ∷ bs) else b ∷ bs)
round_changed d true b bs cs e = ap (λ (xs : List (Option Binding)). b ∷ xs) e
round_changed d false b bs cs e = ap (λ (xs : List (Option Binding)). b ∷ xs) e

none_changed : (b : Bool) (f : List (Option Binding) → List (Option Binding)) → f [] ≡ [] → [] ≡ (if b then f [] else [])
none_changed true f e = sym e
none_changed false f e = refl

module _ {S : Type 0} where
  pub has_last : (levels : List (IndexMap Identifier Binding S)) (level : IndexMap Identifier Binding S) (i : Identifier)
      → has (levels ++ level ∷ []) i ≡ get same_identifier level i ∷ has levels i
  has_last levels level i = ap (map (λ (l : IndexMap Identifier Binding S). get same_identifier l i)) (reverse-append levels (level ∷ []))

  has_by : (all : List (IndexMap Identifier Binding S)) (levels : List (IndexMap Identifier Binding S)) (level : IndexMap Identifier Binding S) (i : Identifier)
      → all ≡ levels ++ level ∷ [] → has all i ≡ get same_identifier level i ∷ has levels i
  has_by all levels level i e = ap (λ (ls : List (IndexMap Identifier Binding S)). has ls i) e ∙ has_last levels level i

  pub declared_inner : (old levels new : List (IndexMap Identifier Binding S)) (level changed : IndexMap Identifier Binding S) (d : Declared) (key i : Identifier)
      → old ≡ levels ++ level ∷ [] → new ≡ levels ++ changed ∷ []
      → get same_identifier changed i ≡ (if same_identifier key i then taken d (get same_identifier level i) else get same_identifier level i)
      → has new i ≡ (if same_identifier key i then taken_inner d (has old i) else has old i)
  declared_inner old levels new level changed d key i was is change =
      has_by new levels changed i is
      ∙ inner_changed d (same_identifier key i) (get same_identifier level i) (get same_identifier changed i) (has levels i) change
      ∙ sym (ap (λ (bs : List (Option Binding)). if same_identifier key i then taken_inner d bs else bs) (has_by old levels level i was))

  pub declared_round : (old levels changed new : List (IndexMap Identifier Binding S)) (level : IndexMap Identifier Binding S) (d : Declared) (key i : Identifier)
      → old ≡ levels ++ level ∷ [] → new ≡ changed ++ level ∷ []
      → has changed i ≡ (if same_identifier key i then taken_inner d (has levels i) else has levels i)
      → has new i ≡ (if same_identifier key i then taken_round d (has old i) else has old i)
  declared_round old levels changed new level d key i was is change =
      has_by new changed level i is
      ∙ round_changed d (same_identifier key i) (get same_identifier level i) (has levels i) (has changed i) change
      ∙ sym (ap (λ (bs : List (Option Binding)). if same_identifier key i then taken_round d bs else bs) (has_by old levels level i was))

  pub found_inner : (old levels : List (IndexMap Identifier Binding S)) (level : IndexMap Identifier Binding S) (key : Identifier) → old ≡ levels ++ level ∷ []
      → get same_identifier level key ≡ inner (has old key)
  found_inner old levels level key was = sym (ap inner (has_by old levels level key was))

  pub found_round : (old levels : List (IndexMap Identifier Binding S)) (level : IndexMap Identifier Binding S) (key : Identifier) → old ≡ levels ++ level ∷ []
      → inner (has levels key) ≡ inner (round (has old key))
  found_round old levels level key was = sym (ap (λ (bs : List (Option Binding)). inner (round bs)) (has_by old levels level key was))

  -- where no scope is open
  pub none_open : (old new : List (IndexMap Identifier Binding S)) (f : List (Option Binding) → List (Option Binding)) (key i : Identifier)
      → f [] ≡ [] → old ≡ [] → new ≡ [] → has new i ≡ (if same_identifier key i then f (has old i) else has old i)
  none_open old new f key i e was is =
      ap (λ (ls : List (IndexMap Identifier Binding S)). has ls i) is ∙ none_changed (same_identifier key i) f e
      ∙ sym (ap (λ (ls : List (IndexMap Identifier Binding S)). if same_identifier key i then f (has ls i) else has ls i) was)

  pub closes_one : (old new : List (IndexMap Identifier Binding S)) (level : IndexMap Identifier Binding S) (i : Identifier)
      → old ≡ new ++ level ∷ [] → has new i ≡ round (has old i)
  closes_one old new level i was = sym (ap (λ (bs : List (Option Binding)). round bs) (has_by old new level i was))

  pub closes_none : (old new : List (IndexMap Identifier Binding S)) (i : Identifier) → old ≡ [] → new ≡ [] → has new i ≡ round (has old i)
  closes_none old new i was is =
      ap (λ (ls : List (IndexMap Identifier Binding S)). has ls i) is ∙ sym (ap (λ (ls : List (IndexMap Identifier Binding S)). round (has ls i)) was)

-- ---- what is known behind one event more

map_round : (ds : List (List Declared)) → round (map binding ds) ≡ map binding (round ds)
map_round [] = refl
map_round (d ∷ ds) = refl

pub closed : (old new : Scopes) (before : List Spelled) → ((i : Identifier) → has new.levels.items i ≡ round (has old.levels.items i))
    → Knows old before → Knows new (Close ∷ before)
closed old new before step k = λ i. step i ∙ ap (λ (bs : List (Option Binding)). round bs) (k i) ∙ map_round (visible i before)

map_inner : (d : Declared) (ds : List (List Declared)) → taken_inner d (map binding ds) ≡ map binding (with_inner d ds)
map_inner d [] = refl
map_inner d (x ∷ ds) = refl

map_second : (d : Declared) (ds : List (List Declared)) → taken_round d (map binding ds) ≡ map binding (with_round d ds)
map_second d [] = refl
map_second d (x ∷ ds) = ap (λ (bs : List (Option Binding)). binding x ∷ bs) (map_inner d ds)

changed : (d : Declared) (f : List (Option Binding) → List (Option Binding)) (g : List (List Declared) → List (List Declared)) (ds : List (List Declared)) (b : Bool)
    → f (map binding ds) ≡ map binding (g ds) → (if b then f (map binding ds) else map binding ds) ≡ map binding (if b then g ds else ds)
changed d f g ds true e = e
changed d f g ds false e = refl

inner_by : (d : Declared) (ds : List (List Declared)) (b : Bool) → b ≡ false → taken_inner d (map binding ds) ≡ map binding (if b then with_round d ds else with_inner d ds)
inner_by d ds true e = absurd cc
inner_by d ds false e = map_inner d ds

round_by : (d : Declared) (ds : List (List Declared)) (b : Bool) → b ≡ true → taken_round d (map binding ds) ≡ map binding (if b then with_round d ds else with_inner d ds)
round_by d ds true e = map_second d ds
round_by d ds false e = absurd cc

abbrev pub of : ℕ → Role → Bool → Declared
of number role refused = record { number = number; role = role; is_refused = refused }

abbrev here : ℕ → Role → Facts → Spot → List Spelled → Declared
here number role facts word before = of number role (is_refused role facts (linked word.name before))

pub declared_here : (old new : Scopes) (number : ℕ) (role : Role) (facts : Facts) (word : Spot) (before : List Spelled) (refused : Bool) → is_function role ≡ false
    → ((i : Identifier) → has new.levels.items i
    ≡ (if same_identifier (identifier_of role.space word) i then taken_inner (of number role refused) (has old.levels.items i) else has old.levels.items i))
    → Knows old before → number ≡ declarations before → refused ≡ is_refused role facts (linked word.name before) → Knows new (Declare role facts word ∷ before)
declared_here old new number role facts word before refused fails step k at is = λ i.
    step i
    ∙ ap (λ (bs : List (Option Binding)). if same_identifier (identifier_of role.space word) i then taken_inner (of number role refused) bs else bs) (k i)
    ∙ ap (λ (n : ℕ). if same_identifier (identifier_of role.space word) i then taken_inner (of n role refused) (bindings i before) else bindings i before) at
    ∙ ap (λ (b : Bool). if same_identifier (identifier_of role.space word) i then taken_inner (of (declarations before) role b) (bindings i before) else bindings i before) is
    ∙ changed (here (declarations before) role facts word before) (taken_inner (here (declarations before) role facts word before))
    (with_declared (here (declarations before) role facts word before))
    (visible i before) (same_identifier (identifier_of role.space word) i) (inner_by (here (declarations before) role facts word before) (visible i before) (is_function role) fails)

pub declared_out : (old new : Scopes) (number : ℕ) (role : Role) (facts : Facts) (word : Spot) (before : List Spelled) (refused : Bool) → is_function role ≡ true
    → ((i : Identifier) → has new.levels.items i
    ≡ (if same_identifier (identifier_of role.space word) i then taken_round (of number role refused) (has old.levels.items i) else has old.levels.items i))
    → Knows old before → number ≡ declarations before → refused ≡ is_refused role facts (linked word.name before) → Knows new (Declare role facts word ∷ before)
declared_out old new number role facts word before refused holds step k at is = λ i.
    step i
    ∙ ap (λ (bs : List (Option Binding)). if same_identifier (identifier_of role.space word) i then taken_round (of number role refused) bs else bs) (k i)
    ∙ ap (λ (n : ℕ). if same_identifier (identifier_of role.space word) i then taken_round (of n role refused) (bindings i before) else bindings i before) at
    ∙ ap (λ (b : Bool). if same_identifier (identifier_of role.space word) i then taken_round (of (declarations before) role b) (bindings i before) else bindings i before) is
    ∙ changed (here (declarations before) role facts word before) (taken_round (here (declarations before) role facts word before))
    (with_declared (here (declarations before) role facts word before))
    (visible i before) (same_identifier (identifier_of role.space word) i) (round_by (here (declarations before) role facts word before) (visible i before) (is_function role) holds)
