-- The cut that a head makes, from the length that its fields tell.
use Rattle.std.proofs.Common.{◌≡◌, ◌<◌, ◌≤◌, ◌+◌, ◌-◌, ℕ, Bool, true, false, if◌then◌else◌, Option, Some, None, List, ◌++◌, length, take, drop, min, inr, refl, sym, ap, subst, ◌∙◌, append-nil, length-append, length-drop, arith}
use Rattle.std.proofs.lemmas.Grind.{common_steps}
use Rattle.std.proofs.lemmas.List.{take-append-le, drop-append-le}
use Rattle.std.proofs.lemmas.Bool.{lt-ltb}
use Rattle.std.specs.Prelude.{nat_lt, slice_range}
use Rattle.std.specs.Option.{option_map}
use Rattle.httparse.specs.Grammar.{RequestHead}
use Rattle.httparse.specs.Spans.{IsRequestAt, IsRequestWithin}
use Rattle.httparse.specs.declared.spans.HeaderSpan.{HeaderSpan}
use Rattle.httparse.specs.declared.spans.RequestSpans.{RequestSpans}
use Rattle.http_requests.specs.declared.framing.Reading.{Reading}
use Rattle.http_requests.specs.declared.framing.Reading.TheVariants as readings
use Rattle.http_requests.specs.Reading.{Frames, Reads, front}
use Rattle.request_session.specs.Turns.{MayFollow}
use Rattle.http_requests.specs.Fields.{body_length, closes}
use Rattle.http_requests.specs.Requests.{asked, BeginsWith, Cut, cut_after, fields_of, IsHead, too_long_cut, unreadable_cut, with_body}

drop_twice : (m n : ℕ) (xs : List ℕ) → drop m (drop n xs) ≡ drop (n + m) xs
drop_twice m n xs = grind (arith, common_steps)

-- what is told of a length: it, or 300,001 where it is more
no_length : (length : Option ℕ) → (let none : Option ℕ = None in none) ≡ option_map (λ n. min n 300001) length → length ≡ None
no_length None is = refl
no_length (Some n) is = grind (arith, is)

some_length : (length : Option ℕ) (m : ℕ) → Some m ≡ option_map (λ n. min n 300001) length → (n : ℕ) × (length ≡ Some n) × (m ≡ min n 300001)
some_length None m is = grind (arith, is)
some_length (Some n) m is = (n, refl, grind (arith, is))

-- the head is at the front whatever follows, and the fields give this cut
begins : (all after : List ℕ) (h : RequestHead) (cut : Cut) → IsHead all h after → cut ≡ cut_after h after → BeginsWith all cut
begins all after h cut head is = inr (h, after, head, is)

pub unframed : (bytes after : List ℕ) (h : RequestHead) (fields : List (List ℕ × List ℕ)) (told : Option ℕ) → fields_of h ≡ fields → told ≡ option_map (λ n. min n 300001) (body_length fields) → told ≡ None
    → IsHead bytes h after → BeginsWith bytes unreadable_cut
unframed bytes after h fields told same is none head =
    let length_is : body_length (fields_of h) ≡ None = ap body_length same ∙ no_length (body_length fields) (sym none ∙ is) in
    begins bytes after h unreadable_cut head (ap (λ l. with_body l h after) (sym length_is))

length_of : (h : RequestHead) (fields : List (List ℕ × List ℕ)) (told : Option ℕ) (m : ℕ) → fields_of h ≡ fields → told ≡ option_map (λ n. min n 300001) (body_length fields) → told ≡ Some m
    → (n : ℕ) × (body_length (fields_of h) ≡ Some n) × (m ≡ min n 300001)
length_of h fields told m same is some =
    let l = some_length (body_length fields) m (sym some ∙ is) in (l.0, ap body_length same ∙ l.1, l.2)

at_most : (a b : ℕ) → b ≤ a → nat_lt a b ≡ false
at_most a b fits = grind (arith, fits)

below : (a b : ℕ) → a < b → nat_lt a b ≡ true
below a b less = lt-ltb a b less

abbrev picked : Bool → Bool → Cut → Cut
picked over short whole = if over then too_long_cut else (if short then unreadable_cut else whole)

abbrev whole_of : ℕ → RequestHead → List ℕ → Cut
whole_of n h after = (asked h (take n after), if closes (fields_of h) then None else Some (drop n after))

long_cut : (n : ℕ) (h : RequestHead) (after : List ℕ) → 300000 < n → with_body (Some n) h after ≡ too_long_cut
long_cut n h after over = ap (λ b. picked b (nat_lt (length after) n) (whole_of n h after)) (below 300000 n over)

short_cut : (n : ℕ) (h : RequestHead) (after : List ℕ) → n ≤ 300000 → length after < n → with_body (Some n) h after ≡ unreadable_cut
short_cut n h after fits short =
    ap (λ b. picked b (nat_lt (length after) n) (whole_of n h after)) (at_most 300000 n fits) ∙ ap (λ b. picked false b (whole_of n h after)) (below (length after) n short)

whole_cut : (n : ℕ) (h : RequestHead) (after : List ℕ) → n ≤ 300000 → n ≤ length after → with_body (Some n) h after ≡ whole_of n h after
whole_cut n h after fits enough =
    ap (λ b. picked b (nat_lt (length after) n) (whole_of n h after)) (at_most 300000 n fits) ∙ ap (λ b. picked false b (whole_of n h after)) (at_most (length after) n enough)

module _ (bytes : List ℕ) (h : RequestHead) (len : ℕ) (fields : List (List ℕ × List ℕ)) (told : Option ℕ) (m : ℕ) (same : fields_of h ≡ fields) (is : told ≡ option_map (λ n. min n 300001) (body_length fields))
    (some : told ≡ Some m) (head : (more : List ℕ) → IsHead (bytes ++ more) h (drop len bytes ++ more)) where
  pub overlong : 300000 < m → (more : List ℕ) → BeginsWith (bytes ++ more) too_long_cut
  overlong over more =
      let l = length_of h fields told m same is some in
      let told_is = l.2 in
      let over_n : 300000 < l.0 = omega (arith, over, told_is) in
      begins (bytes ++ more) (drop len bytes ++ more) h too_long_cut (head more) (sym (ap (λ n. with_body n h (drop len bytes ++ more)) l.1 ∙ long_cut l.0 h (drop len bytes ++ more) over_n))

  pub shortened : (ended : Bool) → m ≤ 300000 → length bytes < len + m → len ≤ length bytes → ended ≡ true → (more : List ℕ) → MayFollow ended more → BeginsWith (bytes ++ more) unreadable_cut
  shortened ended fits short inside end more follow =
      let l = length_of h fields told m same is some in
      let told_is = l.2 in
      let fits_n : l.0 ≤ 300000 = omega (arith, fits, told_is) in
      let none : length (drop len bytes ++ more) ≡ length (drop len bytes) = ap (λ x. length (drop len bytes ++ x)) (follow end) ∙ ap length (append-nil (drop len bytes)) in
      let dropped : length (drop len bytes) ≡ length bytes - len = length-drop len bytes in
      let short_n : length (drop len bytes ++ more) < l.0 = omega (arith, fits, told_is, short, none, dropped, inside) in
      begins (bytes ++ more) (drop len bytes ++ more) h unreadable_cut (head more) (sym (ap (λ n. with_body n h (drop len bytes ++ more)) l.1 ∙ short_cut l.0 h (drop len bytes ++ more) fits_n short_n))

  cut_parts : (n : ℕ) (after more rest : List ℕ) (closing : Bool) → n ≤ length after → drop n after ≡ rest → closes (fields_of h) ≡ closing
      → whole_of n h (after ++ more) ≡ (let c : Cut = (asked h (take n after), if closing then None else Some (rest ++ more)) in c)
  cut_parts n after more rest closing enough rest_is closes_is =
      ap (λ l. let c : Cut = (asked h l, if closes (fields_of h) then None else Some (drop n (after ++ more))) in c) (take-append-le n after more enough)
      ∙ ap (λ l. let c : Cut = (asked h (take n after), if closes (fields_of h) then None else Some l) in c) (drop-append-le n after more enough ∙ ap (λ l. l ++ more) rest_is)
      ∙ ap (λ b. let c : Cut = (asked h (take n after), if b then None else Some (rest ++ more)) in c) closes_is

  pub complete : (closing : Bool) → m ≤ 300000 → len + m ≤ length bytes → closing ≡ closes fields → (more : List ℕ)
      → BeginsWith (bytes ++ more) (asked h (slice_range bytes len (len + m)), if closing then None else Some (drop (len + m) bytes ++ more))
  complete closing fits enough closes_is more =
      let l = length_of h fields told m same is some in
      let told_is = l.2 in
      let m_is : l.0 ≡ m = omega (arith, fits, told_is) in
      let size : len + m - len ≡ m = omega arith in
      let dropped : length (drop len bytes) ≡ length bytes - len = length-drop len bytes in
      let enough_m : m ≤ length (drop len bytes) = omega (arith, enough, dropped) in
      let enough_more : m ≤ length (drop len bytes ++ more) = subst (λ n. m ≤ n) (sym (length-append (drop len bytes) more)) (omega (arith, enough_m)) in
      let rest_is : drop m (drop len bytes) ≡ drop (len + m) bytes = drop_twice m len bytes in
      let parts = cut_parts m (drop len bytes) more (drop (len + m) bytes) closing enough_m rest_is (ap closes same ∙ sym closes_is) in
      let body : take m (drop len bytes) ≡ slice_range bytes len (len + m) = ap (λ k. take k (drop len bytes)) (sym size) in
      let named : (let c : Cut = (asked h (take m (drop len bytes)), if closing then None else Some (drop (len + m) bytes ++ more)) in c)
      ≡ (let c : Cut = (asked h (slice_range bytes len (len + m)), if closing then None else Some (drop (len + m) bytes ++ more)) in c) =
      ap (λ b. let c : Cut = (asked h b, if closing then None else Some (drop (len + m) bytes ++ more)) in c) body in
      begins (bytes ++ more) (drop len bytes ++ more) h _ (head more)
      (sym (ap (λ n. with_body n h (drop len bytes ++ more)) (l.1 ∙ ap Some m_is) ∙ whole_cut m h (drop len bytes ++ more) fits enough_more ∙ parts ∙ named))

-- what the fields of the head at the front make of the bytes is what the bytes begin with
pub read : (bytes : List ℕ) (ended : Bool) (fields : List HeaderSpan) (spans : RequestSpans) (h : RequestHead) (reading : Reading)
    → IsRequestWithin (front bytes) fields spans → IsRequestAt (front bytes) fields spans h → Frames bytes ended spans h reading → Reads bytes ended fields reading
read bytes ended fields spans h readings.Unreadable within at framed = framed
read bytes ended fields spans h readings.TooLong within at framed = framed
read bytes ended fields spans h (readings.Asked frame) within at framed =
    (subst (IsRequestWithin (front bytes) fields) (sym framed.0) within, (h, subst (λ s. IsRequestAt (front bytes) fields s h) (sym framed.0) at, framed.1))
read bytes ended fields spans h (readings.Waits need) within at framed = framed
