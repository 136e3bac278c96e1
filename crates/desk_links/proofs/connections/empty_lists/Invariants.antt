use Rattle.std.proofs.Common.{◌≡◌, ℕ, [], length, get_or}
use Rattle.desk_links.specs.Connections.{lists_of}
use Rattle.desk_links.proofs.connections.empty_lists.Given as goal

abbrev pub invariant-loop : goal.invariant-loop
invariant-loop l = (length l.lists.items ≡ l.counter) × ((k : ℕ) → get_or (lists_of l.lists.items) k [] ≡ [])
