-- What the scopes know behind some events.
use Rattle.std.specs.Prelude.{◌≡◌, ℕ, Bool, nat_eq, if◌then◌else◌, List, [], ◌∷◌, map, reverse, Option}
use Rattle.indexmap.specs.IndexMap.{IndexMap, get}
use Rattle.c_visibility.specs.declared.spelled.Spelled.{Spelled}
use Rattle.c_visibility.specs.declared.scopes.Identifier.{Identifier}
use Rattle.c_visibility.specs.declared.scopes.Binding.{Binding}
use Rattle.c_visibility.specs.declared.scopes.Scopes.{Scopes}
use Rattle.c_visibility.specs.declared.linkages.Linkages.{Linkages}
use Rattle.c_visibility.specs.declared.nesting.Nesting.{Nesting}
use Rattle.c_visibility.specs.declared.seen.Walk.{Walk}
use Rattle.c_visibility.specs.Scopes.{same_identifier, Declared, declarations, taken, bindings, linked}
use Rattle.c_visibility.specs.Seen.{opened, open_scopes}

module _ {S : Type 0} where
  -- what each scope has of an identifier, the innermost first
  abbrev pub has : List (IndexMap Identifier Binding S) → Identifier → List (Option Binding)
  has levels i = map (λ level. get same_identifier level i) (reverse levels)

abbrev pub taken_inner : Declared → List (Option Binding) → List (Option Binding)
taken_inner d [] = []
taken_inner d (b ∷ bs) = taken d b ∷ bs

abbrev pub taken_round : Declared → List (Option Binding) → List (Option Binding)
taken_round d [] = []
taken_round d (b ∷ bs) = b ∷ taken_inner d bs

-- for each identifier, each scope has what its declarations there make of it
abbrev pub Knows : Scopes → List Spelled → Type 0
Knows scopes before = (i : Identifier) → has scopes.levels.items i ≡ bindings i before

-- for each name, the first declaration with linkage
abbrev pub Links : Linkages → List Spelled → Type 0
Links linkages before = (name : ℕ) → get nat_eq linkages.firsts name ≡ linked name before

pub record Nests (nesting : Nesting) (before : List Spelled) : Type 0 where
  pub scopes : reverse nesting.scopes.items ≡ open_scopes before
  pub opened : nesting.opened ≡ opened before

pub record Follows (walk : Walk) (before : List Spelled) : Type 0 where
  pub scopes : Knows walk.scopes before
  pub linkages : Links walk.linkages before
  pub nesting : Nests walk.nesting before
  pub number : walk.number ≡ declarations before
