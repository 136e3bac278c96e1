-- The faults of the names of a text.
use Rattle.std.specs.Prelude.{ℕ, Bool, true, false, ◌||◌, ◌&&◌, ◌==◌, not, if◌then◌else◌, List, [], ◌∷◌, ◌++◌, Option, Some, None, slice_get, unwrap_or, codes}
use Rattle.std.specs.Option.{is_some}
use Rattle.std.specs.List.{list_any}
use Rattle.misra_base.specs.declared.place.Place.{Place}
use Rattle.c_faults.specs.declared.fault.Fault.{Fault}
use Rattle.c_faults.specs.declared.fault.FaultName.TheVariants.{Text, Limit as the_limit}
use Rattle.c_faults.specs.declared.fault.Limit.{Limit}
use Rattle.c_faults.specs.declared.fault.Limit.TheVariants.{Functions, Objects}
use Rattle.c_names.specs.declared.declaration.Kind.TheVariants as a
use Rattle.c_names.specs.declared.declaration.StorageDuration.{StorageDuration}
use Rattle.c_names.specs.declared.declaration.StorageDuration.TheVariants.{Static, Thread, Automatic}
use Rattle.c_tree.specs.Statements
use Rattle.c_identifiers.specs.declared.event.Role.{Role}
use Rattle.c_identifiers.specs.Units.{events_of}
use Rattle.c_visibility.specs.declared.spelled.Facts.{Facts}
use Rattle.c_visibility.specs.declared.spelled.Spot.{Spot}
use Rattle.c_visibility.specs.declared.spelled.Spelled.{Spelled}
use Rattle.c_visibility.specs.declared.spelled.Spelled.TheVariants.{Declare, Use}
use Rattle.c_visibility.specs.declared.scopes.Binding.{Binding}
use Rattle.c_visibility.specs.declared.seen.Seen.{Seen}
use Rattle.c_visibility.specs.Spelling.{texts_of}
use Rattle.c_visibility.specs.Text.{spelled_of}
use Rattle.c_visibility.specs.Typedefs.{same_kind}
use Rattle.c_visibility.specs.Scopes.{is_second, mixes}
use Rattle.c_visibility.specs.Seen.{seen_of}
use Rattle.c_scope.specs.Things.{stands, is_first, is_defined, is_called, is_main}

-- a fault at a word, which is one of the names
abbrev pub text_at : List (List ℕ) → ℕ → List ℕ
text_at names name = unwrap_or (slice_get names name) []

abbrev pub fault : ℕ → List (List ℕ) → Spot → Fault
fault code names word = record { place = word.place; code = code; name = Text (text_at names word.name) }

abbrev pub when : Bool → Fault → List Fault
when b f = if b then f ∷ [] else []

-- ---- U9 to U11, where they stand

-- U9: a use that refers to nothing. U10: a second declaration in one scope, and one name declared as a function and as an
-- object. U11: a name of the library or of a typedef that is declared.
abbrev pub faults_by : List (List ℕ) → Seen → Spelled → List Fault
faults_by names s (Use space usage word) = when (not (is_some s.known)) (fault 9 names word)
faults_by names s (Declare role facts word) =
    when (is_second role s.known || mixes role s.linked) (fault 10 names word) ++ when facts.is_reserved (fault 11 names word)
faults_by names s _ = []

abbrev pub placed_faults : List (List ℕ) → List Seen → List Fault
placed_faults names [] = []
placed_faults names (s ∷ ss) = faults_by names s s.event ++ placed_faults names ss

-- ---- U12: what has no definition

-- an object with linkage is to have one, and a function that is called, where its types ask for it
abbrev pub is_wanted : List Seen → Role → Facts → Seen → Bool
is_wanted all role facts s =
    (same_kind role.kind a.Object && is_some role.linkage)
    || (same_kind role.kind a.Function && facts.needs_body && is_called all s.number)

abbrev pub undefined_by : List (List ℕ) → List Seen → Seen → Spelled → List Fault
undefined_by names all s (Declare role facts word) =
    when (is_first role facts s && not (is_defined all s.number) && is_wanted all role facts s) (fault 12 names word)
undefined_by names all s _ = []

abbrev pub undefined_faults : List (List ℕ) → List Seen → List Seen → List Fault
undefined_faults names all [] = []
undefined_faults names all (s ∷ ss) = undefined_by names all s s.event ++ undefined_faults names all ss

abbrev pub main_faults : Place → List Seen → List Fault
main_faults end all = when (not (list_any is_main all)) (record { place = end; code = 12; name = Text (codes "main") })

-- ---- U13: limits, by the first declarations of things

abbrev pub is_function_by : Seen → Spelled → Bool
is_function_by s (Declare role facts word) = same_kind role.kind a.Function && is_first role facts s
is_function_by s _ = false

abbrev pub is_static : Option StorageDuration → Bool
is_static (Some Static) = true
is_static _ = false

abbrev pub is_object_by : Seen → Spelled → Bool
is_object_by s (Declare role facts word) = same_kind role.kind a.Object && is_static role.storage && is_first role facts s
is_object_by s _ = false

abbrev pub counts : Limit → Seen → Bool
counts Functions s = is_function_by s s.event
counts Objects s = is_object_by s s.event
counts _ s = false

abbrev pub place_by : Spelled → List Place
place_by (Declare role facts word) = word.place ∷ []
place_by _ = []

-- where the things stand that count towards the limit
abbrev pub counted : Limit → List Seen → List Place
counted limit [] = []
counted limit (s ∷ ss) = (if counts limit s then place_by s.event else []) ++ counted limit ss

abbrev pub limit_fault : Limit → Option Place → List Fault
limit_fault limit None = []
limit_fault limit (Some place) = record { place = place; code = 13; name = the_limit limit } ∷ []

-- the one with the number of the limit, counted from 0, is the first one too many
abbrev pub limit_faults : Limit → ℕ → List Seen → List Fault
limit_faults limit most all = limit_fault limit (slice_get (counted limit all) most)

-- ---- all of them

abbrev pub shared_faults : List (List ℕ) → List Seen → List Fault
shared_faults names all = placed_faults names all ++ limit_faults Functions 512 all ++ limit_faults Objects 2048 all

abbrev pub program_faults : List (List ℕ) → Place → List Seen → List Fault
program_faults names end all = shared_faults names all ++ undefined_faults names all all ++ main_faults end all

-- ---- of a tree

abbrev pub names_in : Statements.TreeData → List (List ℕ)
names_in tree = texts_of (events_of tree)

abbrev pub seen_in : Statements.TreeData → List Seen
seen_in tree = seen_of (spelled_of (events_of tree))

-- as a program
abbrev pub faults_of : Statements.TreeData → List Fault
faults_of tree = program_faults (names_in tree) tree.end (seen_in tree)

-- as one unit of a program, whose other units may define what it declares
abbrev pub unit_faults_of : Statements.TreeData → List Fault
unit_faults_of tree = shared_faults (names_in tree) (seen_in tree)
