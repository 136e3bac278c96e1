-- What a parse of the front of the bytes says of all of them.
use Rattle.std.proofs.Common.{◌≡◌, ◌≤◌, ◌+◌, ◌⊎◌, inl, inr, ℕ, Bool, true, List, ◌++◌, length, map, take, drop, sym, ap, subst, ◌∙◌, append_assoc, append-nil, take-append-drop, min, Result, Ok, length-append, arith}
use Rattle.std.proofs.lemmas.Grind.{common_steps}
use Rattle.std.proofs.lemmas.List.{take-append-le, drop-append-le, length-map}
use Rattle.std.proofs.Math.Seq.{take-append_seam}
use Rattle.httparse.proofs.GrammarLemmas.{ReadsRequest-append}
use Rattle.httparse.specs.Grammar.{RequestHead, ReadsRequest, HasNoRequest, print_request}
use Rattle.httparse.specs.Spans.{IsRequestAt, IsRequestWithin, IsRequestOf, RequestOverflows, header_bytes, name_and_value}
use Rattle.httparse.specs.declared.spans.HeaderSpan.{HeaderSpan}
use Rattle.httparse.specs.declared.spans.RequestSpans.{RequestSpans}
use Rattle.httparse.specs.Outcome.{IfComplete, OnPartial}
use Rattle.httparse.specs.declared.Error.{Error}
use Rattle.httparse.specs.declared.Status.{Status}
use Rattle.httparse.specs.declared.Status.TheVariants.{Complete, Partial}
use Rattle.request_session.specs.Turns.{MayFollow}
use Rattle.http_requests.specs.Requests.{IsHead, HasNoHead}

-- the front, what is behind it, and what follows
rejoined : (k : ℕ) (bytes more : List ℕ) → take k bytes ++ (drop k bytes ++ more) ≡ bytes ++ more
rejoined k bytes more = sym (append_assoc (take k bytes) (drop k bytes) more) ∙ ap (λ l. l ++ more) (take-append-drop k bytes)

pub take_bound : (k : ℕ) (bytes : List ℕ) → length (take k bytes) ≤ k
take_bound k bytes = grind (arith, common_steps)

pub take_within : (k : ℕ) (bytes : List ℕ) → length (take k bytes) ≤ length bytes
take_within k bytes = grind (arith, common_steps)

pub shorter : (k n : ℕ) (bytes : List ℕ) → n ≡ min (length bytes) k → take n bytes ≡ take k bytes
shorter k n bytes is = grind (arith, common_steps)

take_longer : (k n : ℕ) (bytes : List ℕ) → n ≤ k → n ≤ length bytes → n ≤ length (take k bytes)
take_longer k n bytes = grind (arith, common_steps)

behind_front : (k : ℕ) (bytes more : List ℕ) (n : ℕ) → n ≤ length (take k bytes) → drop n (take k bytes) ++ (drop k bytes ++ more) ≡ drop n bytes ++ more
behind_front k bytes more n within =
    let inside = take_within k bytes in
    let fits : n ≤ length bytes = omega (arith, inside, within) in
    sym (drop-append-le n (take k bytes) (drop k bytes ++ more) within) ∙ ap (drop n) (rejoined k bytes more) ∙ drop-append-le n bytes more fits

few_fields : (buf : List ℕ) (headers : List HeaderSpan) (spans : RequestSpans) (head : RequestHead) → IsRequestWithin buf headers spans → IsRequestAt buf headers spans head
    → length head.fields ≤ length headers
few_fields buf headers spans head within at =
    let same : length (map (header_bytes buf) (take spans.headers headers)) ≡ length (map name_and_value head.fields) = ap length at.fields in
    let taken : length (take spans.headers headers) ≤ length headers = grind (arith, common_steps) in
    let left = length-map (take spans.headers headers) (header_bytes buf) in
    let right = length-map head.fields name_and_value in
    omega (arith, same, taken, left, right)

pub found : (k : ℕ) (bytes : List ℕ) (headers : List HeaderSpan) (spans : RequestSpans) (head : RequestHead) → k ≡ 8192 → length headers ≡ 32
    → IsRequestWithin (take k bytes) headers spans → IsRequestAt (take k bytes) headers spans head
    → (more : List ℕ) → IsHead (bytes ++ more) head (drop spans.len bytes ++ more)
found k bytes headers spans head k_is room within at more = record {
  reads =
      subst (λ l. ReadsRequest l head (drop spans.len bytes ++ more)) (rejoined k bytes more)
      (subst (λ l. ReadsRequest (take k bytes ++ (drop k bytes ++ more)) head l) (behind_front k bytes more spans.len within.section.len_fits)
      (ReadsRequest-append (take k bytes) head (drop spans.len (take k bytes)) (drop k bytes ++ more) at.reads));
  bytes_fit = let l = at.len in let w = within.section.len_fits in let f = take_bound k bytes in omega (arith, l, w, f, k_is);
  fields_fit = subst (λ n. length head.fields ≤ n) room (few_fields (take k bytes) headers spans head within at);
}

pub overflows : (k : ℕ) (bytes : List ℕ) (room : ℕ) → room ≡ 32 → RequestOverflows room (take k bytes) → (more : List ℕ) → HasNoHead (bytes ++ more)
overflows k bytes room is over more head after h =
    let many = over (drop k bytes ++ more) head after (subst (λ l. ReadsRequest l head after) (sym (rejoined k bytes more)) h.reads) in
    let few = h.fields_fit in
    omega (arith, is, many, few)

-- the front of the bytes, where it is long enough, is a head's too
prefix : (xs ys zs us : List ℕ) → xs ++ ys ≡ zs ++ us → length zs ≤ length xs → xs ≡ zs ++ drop (length zs) xs
prefix xs ys zs us same fits =
    let begins : take (length zs) xs ≡ zs = sym (take-append-le (length zs) xs ys fits) ∙ ap (take (length zs)) same ∙ take-append_seam zs us in
    sym (take-append-drop (length zs) xs) ∙ ap (λ l. l ++ drop (length zs) xs) begins

all_come : (bytes more : List ℕ) (ended : Bool) (n m : ℕ) → ended ≡ true → MayFollow ended more → length (bytes ++ more) ≡ n + m → n ≤ length bytes
all_come bytes more ended n m is follow sum =
    let all : length bytes ≡ n + m = subst (λ l. length l ≡ n + m) (ap (λ l. bytes ++ l) (follow is) ∙ append-nil bytes) sum in
    omega (arith, all)

long_enough : (k : ℕ) (bytes more : List ℕ) (ended : Bool) (n m : ℕ) → (ended ≡ true) ⊎ (k ≤ length bytes) → MayFollow ended more → length (bytes ++ more) ≡ n + m → n ≤ k
    → n ≤ length (take k bytes)
long_enough k bytes more ended n m (inl is) follow sum fits = take_longer k n bytes fits (all_come bytes more ended n m is follow sum)
long_enough k bytes more ended n m (inr long) follow sum fits = take_longer k n bytes fits (omega (arith, long, fits))

pub partial : (k : ℕ) (bytes : List ℕ) (ended : Bool) → k ≡ 8192 → HasNoRequest (take k bytes) → (ended ≡ true) ⊎ (k ≤ length bytes)
    → (more : List ℕ) → MayFollow ended more → HasNoHead (bytes ++ more)
partial k bytes ended k_is none end more follow head after h =
    let sum : length (bytes ++ more) ≡ length (print_request head) + length after = ap length h.reads.1 ∙ length-append (print_request head) after in
    let fits : length (print_request head) ≤ k = subst (λ n. length (print_request head) ≤ n) (sym k_is) h.bytes_fit in
    let long = long_enough k bytes more ended (length (print_request head)) (length after) end follow sum fits in
    none head (drop (length (print_request head)) (take k bytes))
    (h.reads.0, prefix (take k bytes) (drop k bytes ++ more) (print_request head) after (rejoined k bytes more ∙ h.reads.1) long)

-- ---- the clauses of the parser, as the reading of a head cites them

pub headed : (k : ℕ) (bytes window : List ℕ) (headers : List HeaderSpan) (spans : RequestSpans) (result : Result (Status RequestSpans) Error) (status : Status RequestSpans)
    → k ≡ 8192 → length headers ≡ 32 → window ≡ take k bytes → result ≡ Ok status → status ≡ Complete spans
    → IfComplete result (IsRequestWithin window headers) → IfComplete result (IsRequestOf window headers)
    → IsRequestWithin (take k bytes) headers spans
    × ((head : RequestHead) × IsRequestAt (take k bytes) headers spans head × ((more : List ℕ) → IsHead (bytes ++ more) head (drop spans.len bytes ++ more)))
headed k bytes window headers spans result status k_is room window_is result_is status_is within complete =
    let is : result ≡ Ok (Complete spans) = result_is ∙ ap Ok status_is in
    let inside : IsRequestWithin (take k bytes) headers spans = subst (λ w. IsRequestWithin w headers spans) window_is (subst (λ r. IfComplete r (IsRequestWithin window headers)) is within) in
    let at : IsRequestOf (take k bytes) headers spans = subst (λ w. IsRequestOf w headers spans) window_is (subst (λ r. IfComplete r (IsRequestOf window headers)) is complete) in
    (inside, (at.0, at.1, found k bytes headers spans at.0 k_is room inside at.1))

pub unfinished : (k : ℕ) (bytes window : List ℕ) (ended : Bool) (result : Result (Status RequestSpans) Error) (status : Status RequestSpans)
    → k ≡ 8192 → window ≡ take k bytes → result ≡ Ok status → status ≡ Partial → OnPartial result (HasNoRequest window) → (ended ≡ true) ⊎ (k ≤ length bytes)
    → (more : List ℕ) → MayFollow ended more → HasNoHead (bytes ++ more)
unfinished k bytes window ended result status k_is window_is result_is status_is none end =
    let is : result ≡ Ok Partial = result_is ∙ ap Ok status_is in
    partial k bytes ended k_is (subst HasNoRequest window_is (subst (λ r. OnPartial r (HasNoRequest window)) is none)) end
