-- Objects of deviations that stand for several objects: `t[*]` for `t[0]`, `t[1]` and so on.
use Rattle.std.specs.Prelude.{ℕ, suc, zero, ◌==◌, Bool, true, false, List, [], ◌∷◌, take, drop, Option, Some, None, option_and_then, if◌then◌else◌, codes}
use Rattle.std.specs.Char.{is_ascii_digit}
use Rattle.std.specs.List.{prefix_len}
use Rattle.std.specs.Option.{option_map_or}
use Rattle.std.specs.Str.{byte, bytes_eq}

-- what is behind this byte at the front of a text
abbrev pub after_byte : ℕ → List ℕ → Option (List ℕ)
after_byte b [] = None
after_byte b (c ∷ text) = if c == b then Some text else None

-- what is behind one digit or more at the front of a text and the `]` that follows
abbrev pub after_digits : List ℕ → Option (List ℕ)
after_digits text =
    let digits = prefix_len is_ascii_digit text in
    if digits == 0 then None else after_byte (byte "]") (drop digits text)

-- what is behind a decimal number in brackets at the front of a text, zeros in front of the number included
abbrev pub after_index : List ℕ → Option (List ℕ)
after_index text = option_and_then after_digits (after_byte (byte "[") text)

-- a pattern goes on with `[*]`
abbrev pub begins_with_any : List ℕ → Bool
begins_with_any pattern = bytes_eq (take 3 pattern) (codes "[*]")

-- as `is_filled`, where so many bytes of the pattern still belong to a `[*]` that was passed
abbrev pub filled_past : ℕ → List ℕ → List ℕ → Bool
filled_past past [] [] = true
filled_past past [] (b ∷ text) = false
filled_past (suc past) (c ∷ pattern) text = filled_past past pattern text
filled_past zero (c ∷ pattern) text =
    if begins_with_any (c ∷ pattern) then option_map_or (filled_past 2 pattern) (after_index text) false
    else option_map_or (filled_past 0 pattern) (after_byte c text) false

-- the text is the pattern with each `[*]` replaced by a decimal number in brackets, one of its own for each
unfoldable pub is_filled : List ℕ → List ℕ → Bool
is_filled pattern text = filled_past 0 pattern text
