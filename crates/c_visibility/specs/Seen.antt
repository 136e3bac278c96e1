-- What each event speaks of. The events before it are listed the nearest first.
use Rattle.std.specs.Prelude.{ℕ, ◌+◌, if◌then◌else◌, List, [], ◌∷◌, get_or}
use Rattle.c_visibility.specs.declared.spelled.Spelled.{Spelled}
use Rattle.c_visibility.specs.declared.spelled.Spelled.TheVariants.{Open, Close, Mention, Parameter, Declare, Use}
use Rattle.c_visibility.specs.declared.seen.Seen.{Seen}
use Rattle.c_visibility.specs.Scopes.{is_function, declarations, round, known_at, linked_to}

-- how many scopes have begun
abbrev pub opened : List Spelled → ℕ
opened [] = 0
opened (Open ∷ before) = opened before + 1
opened (Close ∷ before) = opened before
opened (Mention ∷ before) = opened before
opened (Parameter class ∷ before) = opened before
opened (Declare role facts word ∷ before) = opened before
opened (Use space usage word ∷ before) = opened before

-- the numbers of the scopes that are open, the innermost first: they are numbered as they begin
abbrev pub open_scopes : List Spelled → List ℕ
open_scopes [] = 0 ∷ []
open_scopes (Open ∷ before) = (opened before + 1) ∷ open_scopes before
open_scopes (Close ∷ before) = round (open_scopes before)
open_scopes (Mention ∷ before) = open_scopes before
open_scopes (Parameter class ∷ before) = open_scopes before
open_scopes (Declare role facts word ∷ before) = open_scopes before
open_scopes (Use space usage word ∷ before) = open_scopes before

-- the scope in which an event declares: a function's is round that of its parameters
abbrev pub scope_of : List ℕ → Spelled → ℕ
scope_of scopes (Declare role facts word) = get_or scopes (if is_function role then 1 else 0) 0
scope_of scopes _ = get_or scopes 0 0

abbrev pub seen_at : List Spelled → Spelled → Seen
seen_at before event = record {
  event = event;
  number = declarations before;
  known = known_at before event;
  linked = linked_to before event;
  scope = scope_of (open_scopes before) event;
}

abbrev pub seen_behind : List Spelled → List Spelled → List Seen
seen_behind before [] = []
seen_behind before (e ∷ es) = seen_at before e ∷ seen_behind (e ∷ before) es

abbrev pub seen_of : List Spelled → List Seen
seen_of = seen_behind []
