-- What scopes see of a text, behind what is declared before it: the functions and constants of the library in a scope
-- round that of the file, and `struct timespec` in the scope of the file (C11 7.1.4, 7.26.1, 7.27.1).
use Rattle.std.specs.Prelude.{ℕ, ◌+◌, Bool, true, false, if◌then◌else◌, List, [], ◌∷◌, ◌++◌, position, Option, Some, None, codes}
use Rattle.std.specs.Str.{bytes_eq}
use Rattle.c_names.specs.declared.declaration.NameSpace.TheVariants.{Ordinary, Tags}
use Rattle.c_names.specs.declared.declaration.NameSpace.{NameSpace}
use Rattle.c_names.specs.declared.declaration.Kind.{Kind}
use Rattle.c_names.specs.declared.declaration.Kind.TheVariants as a
use Rattle.c_identifiers.specs.declared.event.Role.{Role}
use Rattle.c_identifiers.specs.declared.event.Event.{Event}
use Rattle.c_visibility.specs.declared.spelled.Class.TheVariants.{Arithmetic}
use Rattle.c_visibility.specs.declared.spelled.Spelled.{Spelled}
use Rattle.c_visibility.specs.declared.spelled.Spelled.TheVariants.{Open, Declare}
use Rattle.c_visibility.specs.Library.{is_library}
use Rattle.c_visibility.specs.Spelling.{texts_of}
use Rattle.c_visibility.specs.Typedefs.{spelled_behind}

-- the name with the number, which stands in no line of the text
abbrev pub declared_before : NameSpace → Kind → ℕ → Spelled
declared_before space kind name =
    Declare (record { space = space; kind = kind; defines = true; storage = None; linkage = None })
    (record { is_reserved = false; class = Arithmetic; needs_body = false; is_main = false })
    (record { place = record { line = 0; column = 0 }; name = name })

-- of the library, those names that the text has, from the given number on
abbrev pub library_declarations : ℕ → List (List ℕ) → List Spelled
library_declarations k [] = []
library_declarations k (text ∷ texts) =
    (if is_library text then declared_before Ordinary a.Library k ∷ [] else []) ++ library_declarations (k + 1) texts

abbrev pub timespec_declared : Option ℕ → List Spelled
timespec_declared None = []
timespec_declared (Some k) = declared_before Tags a.Structure k ∷ []

abbrev pub timespec_number : List (List ℕ) → Option ℕ
timespec_number names = position (bytes_eq (codes "timespec")) names

-- the scope of the file begins behind the library
abbrev pub before_text : List (List ℕ) → List Spelled
before_text names = library_declarations 0 names ++ Open ∷ timespec_declared (timespec_number names)

abbrev pub spelled_by : List (List ℕ) → List Event → List Spelled
spelled_by names events = before_text names ++ spelled_behind names [] events

-- with the names of the events
abbrev pub spelled_of : List Event → List Spelled
spelled_of events = spelled_by (texts_of events) events
