-- Which calls of a keeper in memory fail.
use Rattle.std.specs.Prelude.{◌≡◌, ◌↔◌, ◌+◌, ◌-◌, ◌^◌, ◌==◌, min, true, Result, IsErrOf}
use Rattle.std.specs.List.{list_any}
use Rattle.desk_tables.specs.declared.keeper.KeepStop.{KeepStop}
use Rattle.desk_tables.specs.declared.keeper.KeepStop.TheVariants as keep_stops
use Rattle.desk_memory.specs.declared.calls.Calls.{Calls}

-- the calls are numbered from 1, and a call fails exactly where its number is listed; the count stays at its last value
pub record IsNumbered {A : Type 0} (before now : Calls) (result : Result A KeepStop) : Type 0 where
  pub number : now.made ≡ min (before.made + 1) (2 ^ 64 - 1)
  pub listed : now.failing.items ≡ before.failing.items
  pub fails : IsErrOf result keep_stops.Failed ↔ (list_any (λ n. n == now.made) before.failing.items ≡ true)
