-- The names of a tree.
use Rattle.std.specs.Prelude.{◌≡◌, ℕ, Bool, if◌then◌else◌, List, [], ◌∷◌, ◌++◌, Option, Some, None}
use Rattle.indexmap.specs.IndexMap.{get}
use Rattle.misra_base.specs.declared.place.Place.{Place}
use Rattle.c_names.specs.declared.declaration.Declaration.{Declaration}
use Rattle.c_names.specs.declared.names.Names.{Names}
use Rattle.c_names.specs.References.{same_place}
use Rattle.c_tree.specs.Statements
use Rattle.c_identifiers.specs.declared.event.Role.{Role}
use Rattle.c_visibility.specs.declared.spelled.Spelled.{Spelled}
use Rattle.c_visibility.specs.declared.spelled.Spelled.TheVariants.{Declare, Use}
use Rattle.c_visibility.specs.declared.spelled.Spot.{Spot}
use Rattle.c_visibility.specs.declared.scopes.Binding.{Binding}
use Rattle.c_visibility.specs.declared.seen.Seen.{Seen}
use Rattle.c_visibility.specs.Spelling.{texts}
use Rattle.c_scope.specs.Things.{entity_of}
use Rattle.c_scope.specs.Faults.{names_in, seen_in}

abbrev pub declaration_of : Seen → Role → Spot → Declaration
declaration_of s role word = record {
  name = word.name;
  space = role.space;
  kind = role.kind;
  storage = role.storage;
  linkage = role.linkage;
  is_definition = role.defines;
  scope = s.scope;
  place = word.place;
  entity = entity_of role s;
}

abbrev pub declarations_by : Seen → Spelled → List Declaration
declarations_by s (Declare role facts word) = declaration_of s role word ∷ []
declarations_by s _ = []

abbrev pub declarations_of : List Seen → List Declaration
declarations_of [] = []
declarations_of (s ∷ ss) = declarations_by s s.event ++ declarations_of ss

-- a number for a place
abbrev pub at_place : Place → Spot → Option ℕ → Option ℕ
at_place place word number = if same_place word.place place then number else None

abbrev pub bound_number : Option Binding → Option ℕ
bound_number None = None
bound_number (Some b) = Some b.number

-- the number of the declaration that stands at the place, or that a use there refers to
abbrev pub number_by : Place → Seen → Spelled → Option ℕ
number_by place s (Declare role facts word) = at_place place word (Some s.number)
number_by place s (Use space usage word) = at_place place word (bound_number s.known)
number_by place s _ = None

abbrev pub or_else : Option ℕ → Option ℕ → Option ℕ
or_else None n = n
or_else (Some m) n = Some m

abbrev pub number_at : Place → List Seen → Option ℕ
number_at place [] = None
number_at place (s ∷ ss) = or_else (number_at place ss) (number_by place s s.event)

pub record AreNamesOf (tree : Statements.TreeData) (names : Names) : Type 0 where
  pub spellings : texts names.spellings ≡ names_in tree
  pub declarations : names.declarations.items ≡ declarations_of (seen_in tree)
  pub references : (place : Place) → get same_place names.references place ≡ number_at place (seen_in tree)
