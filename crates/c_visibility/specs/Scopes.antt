-- Which declarations of an identifier can be seen from a place (C11 6.2.1 to 6.2.3), told by the list of events alone.
-- The events before the place are listed the nearest first.
use Rattle.std.specs.Prelude.{ℕ, ◌+◌, Bool, true, false, ◌||◌, ◌&&◌, ◌==◌, not, if◌then◌else◌, List, [], ◌∷◌, map, Option, Some, None}
use Rattle.std.specs.Option.{is_some}
use Rattle.c_names.specs.declared.declaration.NameSpace.{NameSpace}
use Rattle.c_names.specs.declared.declaration.NameSpace.TheVariants.{Tags}
use Rattle.c_names.specs.declared.declaration.Kind.TheVariants as a
use Rattle.c_names.specs.contracts.declaration.NameSpacePartialEq.TheImpl as spaces
use Rattle.c_identifiers.specs.declared.event.Role.{Role}
use Rattle.c_visibility.specs.declared.spelled.Spot.{Spot}
use Rattle.c_visibility.specs.declared.spelled.Facts.{Facts}
use Rattle.c_visibility.specs.declared.spelled.Spelled.{Spelled}
use Rattle.c_visibility.specs.declared.spelled.Spelled.TheVariants.{Open, Close, Mention, Parameter, Declare, Use}
use Rattle.c_visibility.specs.declared.scopes.Identifier.{Identifier}
use Rattle.c_visibility.specs.declared.scopes.Binding.{Binding}
use Rattle.c_visibility.specs.declared.linkages.Linked.{Linked}
use Rattle.c_visibility.specs.contracts.scopes.IdentifierPartialEq.TheImpl as identifiers
use Rattle.c_visibility.specs.Typedefs.{same_kind}

-- `==` of identifiers
abbrev pub same_identifier : Identifier → Identifier → Bool
same_identifier = identifiers.ghosts.eq

abbrev pub identifier_of : NameSpace → Spot → Identifier
identifier_of space word = record { space = space; name = word.name }

abbrev pub is_function : Role → Bool
is_function role = same_kind role.kind a.Function

-- how many declarations stand before
abbrev pub declarations : List Spelled → ℕ
declarations [] = 0
declarations (Declare role facts word ∷ before) = declarations before + 1
declarations (Open ∷ before) = declarations before
declarations (Close ∷ before) = declarations before
declarations (Mention ∷ before) = declarations before
declarations (Parameter class ∷ before) = declarations before
declarations (Use space usage word ∷ before) = declarations before

-- A declaration by its number. One of a name of the library or of a typedef is refused, and so is one that makes a
-- function of an object, or an object of a function. It declares nothing.
pub record Declared : Type 0 where
  pub number : ℕ
  pub role : Role
  pub is_refused : Bool

-- ---- what the declarations of one scope make of an identifier

-- it may be declared again in its scope: it has linkage, or is a tag (C11 6.7p3)
abbrev pub may_repeat : Role → Bool
may_repeat role = is_some role.linkage || spaces.ghosts.eq role.space Tags

-- a declaration as something else, one more of what may be declared once, or a second definition
abbrev pub is_second : Role → Option Binding → Bool
is_second role None = false
is_second role (Some b) = not (same_kind b.kind role.kind) || not (b.repeats && may_repeat role) || (role.defines && b.defined)

-- a further declaration speaks of what the first declares
abbrev pub joined : ℕ → Role → Option Binding → Binding
joined number role None = record { number = number; kind = role.kind; repeats = may_repeat role; defined = role.defines }
joined number role (Some b) = record b { defined = role.defines || b.defined }

-- a second declaration declares nothing, and a refused one neither
abbrev pub declares : Role → Bool → Option Binding → Bool
declares role is_refused b = not (is_refused || is_second role b)

abbrev pub taken : Declared → Option Binding → Option Binding
taken d b = if declares d.role d.is_refused b then Some (joined d.number d.role b) else b

-- from the first declaration on
abbrev pub binding : List Declared → Option Binding
binding [] = None
binding (d ∷ ds) = taken d (binding ds)

-- ---- lists of scopes, the innermost first

-- the scopes round the innermost one
abbrev pub round : {A : Type 0} → List A → List A
round [] = []
round (x ∷ xs) = xs

-- one declaration more in the innermost scope, and in the one round it
abbrev pub with_inner : Declared → List (List Declared) → List (List Declared)
with_inner d [] = []
with_inner d (ds ∷ levels) = (d ∷ ds) ∷ levels

abbrev pub with_round : Declared → List (List Declared) → List (List Declared)
with_round d [] = []
with_round d (ds ∷ levels) = ds ∷ with_inner d levels

-- a function is declared in the scope round that of its parameters
abbrev pub with_declared : Declared → List (List Declared) → List (List Declared)
with_declared d levels = if is_function d.role then with_round d levels else with_inner d levels

-- of the innermost scope that has one
abbrev pub innermost : List (Option Binding) → Option Binding
innermost [] = None
innermost (None ∷ bs) = innermost bs
innermost (Some b ∷ bs) = Some b

-- of the innermost scope alone
abbrev pub inner : List (Option Binding) → Option Binding
inner [] = None
inner (b ∷ bs) = b

-- of the scope in which it is declared
abbrev pub declaring : Role → List (Option Binding) → Option Binding
declaring role bs = if is_function role then inner (round bs) else inner bs

-- ---- linkage: all declarations of one name that have linkage speak of the same thing (C11 6.2.2p2)

-- what the first of them declares a function the others do not declare an object
abbrev pub mixes : Role → Option Linked → Bool
mixes role None = false
mixes role (Some first) = is_some role.linkage && not (same_kind first.kind role.kind)

abbrev pub is_refused : Role → Facts → Option Linked → Bool
is_refused role facts first = facts.is_reserved || mixes role first

-- one declaration more, where it is the first with linkage
abbrev pub linked_by : ℕ → Role → Bool → Option Linked → Option Linked
linked_by number role declares (Some first) = Some first
linked_by number role declares None =
    if is_some role.linkage && declares then Some (record { number = number; kind = role.kind }) else None

-- ---- what can be seen

abbrev mutual
  -- the declarations of an identifier that can be seen: for each scope that is still open, the innermost first, those that
  -- stand in it, the latest first
  pub visible : Identifier → List Spelled → List (List Declared)
  visible i [] = [] ∷ []
  visible i (Open ∷ before) = [] ∷ visible i before
  visible i (Close ∷ before) = round (visible i before)
  visible i (Mention ∷ before) = visible i before
  visible i (Parameter class ∷ before) = visible i before
  visible i (Declare role facts word ∷ before) =
      if same_identifier (identifier_of role.space word) i
      then with_declared (record { number = declarations before; role = role; is_refused = is_refused role facts (linked word.name before) }) (visible i before)
      else visible i before
  visible i (Use space usage word ∷ before) = visible i before

  -- the first declaration of a name that has linkage, in whatever scope
  pub linked : ℕ → List Spelled → Option Linked
  linked name [] = None
  linked name (Open ∷ before) = linked name before
  linked name (Close ∷ before) = linked name before
  linked name (Mention ∷ before) = linked name before
  linked name (Parameter class ∷ before) = linked name before
  linked name (Declare role facts word ∷ before) =
      if word.name == name
      then linked_by (declarations before) role
      (declares role (is_refused role facts (linked word.name before)) (declaring role (map binding (visible (identifier_of role.space word) before))))
      (linked word.name before)
      else linked name before
  linked name (Use space usage word ∷ before) = linked name before

abbrev pub bindings : Identifier → List Spelled → List (Option Binding)
bindings i before = map binding (visible i before)

-- what is known of the identifier of an event where it stands
abbrev pub known_at : List Spelled → Spelled → Option Binding
known_at before Open = None
known_at before Close = None
known_at before Mention = None
known_at before (Parameter class) = None
known_at before (Use space usage word) = innermost (bindings (identifier_of space word) before)
known_at before (Declare role facts word) = declaring role (bindings (identifier_of role.space word) before)

-- the first declaration with linkage before one of the same name
abbrev pub linked_to : List Spelled → Spelled → Option Linked
linked_to before (Declare role facts word) = linked word.name before
linked_to before _ = None
