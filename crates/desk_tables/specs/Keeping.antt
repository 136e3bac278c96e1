-- What a call of a keeper tells of its tables.
use Rattle.std.specs.Prelude.{◌≡◌, ◌⊎◌, Result, IfOk, MatchResult, Some}
use Rattle.std.specs.declared.option.Option.{Option}
use Rattle.desk_tables.specs.declared.keeper.KeepStop.{KeepStop}
use Rattle.desk_tables.specs.declared.keeper.KeepStop.TheVariants as stops
use Rattle.desk_tables.specs.declared.change.Change.{Change}
use Rattle.desk_tables.specs.Tables.{Tables, after_change}

-- a fact on the tables, where they are told
abbrev pub Told : Option Tables → (Tables → Type 0) → Type 0
Told tables fact = (t : Tables) → tables ≡ Some t → fact t

-- what is read of the tables
abbrev pub Reads : {A : Type 0} → Option Tables → (Tables → A) → Result A KeepStop → Type 0
Reads tables answer result = IfOk result (λ a. Told tables (λ t. a ≡ answer t))

-- the whole change is made, or none of it: without memory none, after a fault it may have been made
abbrev pub Changed : Change → Tables → Option Tables → Result (Unit {0}) KeepStop → Type 0
Changed change before after result =
    MatchResult result (λ _. after ≡ Some (after_change change before))
    (λ stop. ((stop ≡ stops.Memory) × (after ≡ Some before))
    ⊎ ((stop ≡ stops.Failed) × ((after ≡ Some before) ⊎ (after ≡ Some (after_change change before)))))
