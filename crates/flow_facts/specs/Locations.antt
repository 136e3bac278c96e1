-- The static locations of a program, each with its number: its place in one list.
use Rattle.std.specs.Prelude.{ℕ, zero, suc, ◌==◌, Bool, true, false, ◌&&◌, List, [], ◌∷◌, map, Option, Some, None, slice_get, option_map, unwrap_or, if◌then◌else◌, length}
use Rattle.std.specs.List.{flat_map, enumerate_from, range_with_len, list_any}
use Rattle.c_program.specs.declared.types.Base.{Base}
use Rattle.c_program.specs.declared.types.Base.TheVariants.{Structure}
use Rattle.c_program.specs.declared.types.CType.{CType}
use Rattle.c_program.specs.declared.types.Member.{Member}
use Rattle.c_program.specs.declared.program.Storage.{Storage}
use Rattle.c_program.specs.declared.program.Storage.TheVariants as storage
use Rattle.c_program.specs.declared.program.Object.{Object}
use Rattle.c_program.specs.declared.program.Program.{Program}
use Rattle.c_program.specs.Types.{holds_library}
use Rattle.c_program.specs.Values.{Location}

-- the members of a structure, with their numbers; a pointer to one has none
abbrev pub members_in : Program → Base → List Bool → List (ℕ × Member)
members_in program (Structure s) [] = enumerate_from 0 (unwrap_or (option_map (λ structure. structure.members) (slice_get program.structures s)) [])
members_in program base pointers = []

-- the parts of an array: of each element, or of all as one
abbrev pub parts_of_elements : Bool → (List (Option ℕ) → List (List (Option ℕ))) → List ℕ → List (Option ℕ) → List (List (Option ℕ))
parts_of_elements apart parts [] steps = parts steps
parts_of_elements true parts (size ∷ sizes) steps = flat_map (λ k. parts_of_elements true parts sizes (Some k ∷ steps)) (range_with_len 0 size)
parts_of_elements false parts (size ∷ sizes) steps = parts_of_elements false parts sizes (None ∷ steps)

-- an object of a type and all its parts that are no arrays; structures stand in one another at most so deep
abbrev pub parts_of_type : Program → ℕ → CType → List (Option ℕ) → List (List (Option ℕ))
parts_of_type program zero t steps = []
parts_of_type program (suc depth) t steps = parts_of_elements (holds_library program t)
    (λ whole. whole ∷ flat_map (λ member. parts_of_type program depth member.1.c_type (Some member.0 ∷ whole)) (members_in program t.base t.pointers)) t.sizes steps

abbrev pub is_static_storage : Storage → Bool
is_static_storage storage.Static = true
is_static_storage _ = false

abbrev pub locations_of_object : Program → ℕ → Object → List Location
locations_of_object program number object = if is_static_storage object.storage
    then map (λ steps. record { object = number; steps = steps }) (parts_of_type program (suc (length program.structures)) object.c_type []) else []

unfoldable pub locations_of : Program → List Location
locations_of program = flat_map (λ item. locations_of_object program item.0 item.1) (enumerate_from 0 program.objects)

abbrev pub location_at : Program → ℕ → Option Location
location_at program number = slice_get (locations_of program) number

-- ---- which locations are the same

abbrev pub same_step : Option ℕ → Option ℕ → Bool
same_step None None = true
same_step (Some a) (Some b) = a == b
same_step _ _ = false

abbrev pub same_steps : List (Option ℕ) → List (Option ℕ) → Bool
same_steps [] [] = true
same_steps (a ∷ more) (b ∷ others) = same_step a b && same_steps more others
same_steps _ _ = false

abbrev pub same_location : Location → Location → Bool
same_location a b = (a.object == b.object) && same_steps a.steps b.steps

-- some number of the location passes the test
abbrev pub at_location : Program → Location → (ℕ → Bool) → Bool
at_location program location test = list_any (λ item. same_location item.1 location && test item.0) (enumerate_from 0 (locations_of program))
