-- The tables of a keeper in memory keep their keys different.
use Rattle.std.proofs.Common.{◌≡◌, Result, Ok, Err, subst, sym}
use Rattle.std.specs.Prelude.{MatchResult}
use Rattle.desk_tables.specs.declared.change.Change.{Change}
use Rattle.desk_tables.specs.Keys.{IsKeyed}
use Rattle.desk_tables.specs.Tables.{Tables, after_change}
use Rattle.desk_tables.proofs.Keyed.{keyed_change}

pub changed_keyed : {E : Type 0} (result : Result (Unit {0}) E) (change : Change) (old new : Tables)
    → MatchResult result (λ _. new ≡ after_change change old) (λ _. new ≡ old) → IsKeyed old → IsKeyed new
changed_keyed (Ok done) change old new is keyed = subst IsKeyed (sym is) (keyed_change change old keyed)
changed_keyed (Err stop) change old new is keyed = subst IsKeyed (sym is) keyed
