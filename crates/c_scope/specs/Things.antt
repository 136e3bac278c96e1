-- Which thing each declaration of a text speaks of, and which of them are defined and called (C11 6.2.2, 6.7p5, 6.9p3).
use Rattle.std.specs.Prelude.{ℕ, Bool, true, false, ◌&&◌, ◌==◌, not, if◌then◌else◌, List, Option, Some, None}
use Rattle.std.specs.Option.{is_some}
use Rattle.std.specs.List.{list_any}
use Rattle.c_names.specs.declared.declaration.Kind.{Kind}
use Rattle.c_names.specs.declared.declaration.Kind.TheVariants as a
use Rattle.c_identifiers.specs.declared.event.Role.{Role}
use Rattle.c_identifiers.specs.declared.event.Usage.{Usage}
use Rattle.c_identifiers.specs.declared.event.Usage.TheVariants.{Unevaluated, Evaluated, Called}
use Rattle.c_visibility.specs.declared.spelled.Facts.{Facts}
use Rattle.c_visibility.specs.declared.spelled.Spelled.{Spelled}
use Rattle.c_visibility.specs.declared.spelled.Spelled.TheVariants.{Declare, Use}
use Rattle.c_visibility.specs.declared.scopes.Binding.{Binding}
use Rattle.c_visibility.specs.declared.linkages.Linked.{Linked}
use Rattle.c_visibility.specs.declared.seen.Seen.{Seen}
use Rattle.c_visibility.specs.Typedefs.{same_kind}
use Rattle.c_visibility.specs.Scopes.{is_second, mixes, is_refused, declares}

abbrev pub bound_or : ℕ → Option Binding → ℕ
bound_or number None = number
bound_or number (Some b) = b.number

abbrev pub linked_or : ℕ → Option Linked → ℕ
linked_or number None = number
linked_or number (Some first) = first.number

-- the number of the first declaration of the same thing: with linkage of all in the text, and else of those in its scope
abbrev pub entity_of : Role → Seen → ℕ
entity_of role s = if is_some role.linkage then linked_or s.number s.linked else bound_or s.number s.known

-- whether a declaration declares something
abbrev pub stands : Role → Facts → Seen → Bool
stands role facts s = declares role (is_refused role facts s.linked) s.known

-- whether it is the first of its thing
abbrev pub is_first : Role → Facts → Seen → Bool
is_first role facts s = stands role facts s && entity_of role s == s.number

abbrev pub defines_by : ℕ → Seen → Spelled → Bool
defines_by thing s (Declare role facts word) = role.defines && stands role facts s && entity_of role s == thing
defines_by thing s _ = false

-- whether it defines the thing
abbrev pub defines : ℕ → Seen → Bool
defines thing s = defines_by thing s s.event

abbrev pub is_defined : List Seen → ℕ → Bool
is_defined all thing = list_any (defines thing) all

abbrev pub is_number : ℕ → Option ℕ → Bool
is_number thing None = false
is_number thing (Some number) = number == thing

abbrev pub is_bound_to : ℕ → Option Binding → Bool
is_bound_to thing None = false
is_bound_to thing (Some b) = b.number == thing

abbrev pub calls_by : ℕ → Seen → Spelled → Bool
calls_by thing s (Use space Called word) = is_bound_to thing s.known
calls_by thing s _ = false

-- whether a use calls the function, or has a thread run it
abbrev pub calls : ℕ → Seen → Bool
calls thing s = calls_by thing s s.event

abbrev pub is_called : List Seen → ℕ → Bool
is_called all thing = list_any (calls thing) all

abbrev pub is_main_by : Seen → Spelled → Bool
is_main_by s (Declare role facts word) = same_kind role.kind a.Function && role.defines && facts.is_main && stands role facts s
is_main_by s _ = false

-- whether it is `main` with its body
abbrev pub is_main : Seen → Bool
is_main s = is_main_by s s.event
