-- Counts that stop behind the limit.
use Rattle.std.specs.Prelude.{ℕ, min}

-- 60001 stands for more than 60000
abbrev pub counted : ℕ → ℕ
counted n = min 60001 n
