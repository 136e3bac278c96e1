-- What the loops keep from turn to turn.
use Rattle.std.specs.Prelude.{◌≡◌, ◌≤◌, ℕ, List, length, take, Some}
use Rattle.request_session.specs.Requests.{Ending, Session}
use Rattle.std.specs.declared.option.Option.{Option}
use Rattle.std.specs.Io.KnownBytes.{Appends}

pub record Writes (done : ℕ) (old new : Option (List ℕ)) (bytes : List ℕ) (before now : ℕ) : Type 0 where
  pub bound : done ≤ length bytes
  pub written : Appends old new (take done bytes)
  pub faults : now ≡ before

-- a session from here on, over the pending bytes, is one from the start on
abbrev pub Follows : {Request State : Type 0} → (List ℕ → Request → Option (List ℕ) → Type 0) → (State → Request → List ℕ → State → Type 0)
    → ℕ → Option (List ℕ) → State → Option (List ℕ) → ℕ → List ℕ → State → Option (List ℕ) → Type 0
Follows {Request} {State} IsFirst Answers limit pending state written whole_limit all start start_written =
    (bytes : List ℕ) × (pending ≡ Some bytes)
    × ((ending : Ending) (after : State) (written_after : Option (List ℕ)) → Session IsFirst Answers ending limit bytes state after written written_after
    → Session IsFirst Answers ending whole_limit all start after start_written written_after)
