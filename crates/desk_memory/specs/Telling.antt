-- What a keeper in memory tells.
use Rattle.std.specs.Prelude.{◌≡◌, Some, unwrap_or}
use Rattle.std.proofs.Common.{ap, subst}
use Rattle.desk_tables.specs.Keys.{IsKeyed}
use Rattle.desk_tables.specs.Tables.{Tables}

pub told_keyed : (held told : Tables) → IsKeyed held → Some held ≡ Some told → IsKeyed told
told_keyed held told keyed is = subst IsKeyed (ap (λ o. unwrap_or o held) is) keyed
