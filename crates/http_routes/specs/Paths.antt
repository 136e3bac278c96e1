-- The segments of a path: what stands between its slashes.
use Rattle.std.specs.Prelude.{ℕ, Bool, List, ◌==◌, ◌^◌, if◌then◌else◌, nat_lt, Option, Some, None, option_and_then}
use Rattle.std.specs.List.{after_first, before_first}
use Rattle.http_requests.specs.Fields.{decimal_number}

abbrev pub is_slash : ℕ → Bool
is_slash byte = byte == 47

-- the bytes before the first slash
abbrev pub up_to_slash : List ℕ → List ℕ
up_to_slash path = before_first is_slash path

-- the bytes behind the first slash
abbrev pub behind_slash : List ℕ → List ℕ
behind_slash path = after_first is_slash path

-- the second segment, as `p` of /projects/p/summary
abbrev pub project_in : List ℕ → List ℕ
project_in path = up_to_slash (behind_slash (behind_slash path))

-- the fourth segment, as `1` of /projects/p/deviations/1/approve
abbrev pub deviation_segment : List ℕ → List ℕ
deviation_segment path = up_to_slash (behind_slash (behind_slash (behind_slash (behind_slash path))))

-- the numbers of deviations are below 2^32
abbrev pub below_limit : ℕ → Option ℕ
below_limit n = if nat_lt n (2 ^ 32) then Some n else None

abbrev pub deviation_in : List ℕ → Option ℕ
deviation_in path = option_and_then below_limit (decimal_number (deviation_segment path))
