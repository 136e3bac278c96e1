-- Answers of a service of HTTP, from what was read and what was replied.
use Rattle.std.proofs.Common.{◌≡◌, ◌≤◌, ℕ, Bool, true, if◌then◌else◌, List, ◌++◌, length, map, take, drop, Option, Some, None, inl, inr, refl, sym, ap, subst, ◌∙◌, arith}
use Rattle.std.specs.Prelude.{slice_range}
use Rattle.std.specs.Str.{IsUtf8}
use Rattle.httparse.specs.Grammar.{RequestHead}
use Rattle.httparse.specs.Spans.{IsRequestAt, IsRequestWithin, header_bytes, span_bytes}
use Rattle.httparse.specs.declared.spans.HeaderSpan.{HeaderSpan}
use Rattle.httparse.specs.declared.spans.RequestSpans.{RequestSpans}
use Rattle.request_session.specs.Turns.{Gives, IsAnswer, MayFollow, behind}
use Rattle.request_session.specs.declared.service.Answer.{Answer}
use Rattle.http_requests.specs.declared.framing.Frame.{Frame}
use Rattle.http_requests.specs.Reading.{Asks, front}
use Rattle.http_requests.specs.Requests.{BeginsWith, IsFirst, asked, too_long, too_long_cut, unreadable, unreadable_cut}
use Rattle.http_service.specs.Answers.{AnswersOf, Question, WithoutReply, bad_request, payload_too_large, question_at, question_of}

last_behind : (answer : Answer) (bytes more : List ℕ) → answer.last ≡ true → (let none : Option (List ℕ) = None in none) ≡ behind answer bytes more
last_behind answer bytes more last = ap (λ b. if b then None else Some (drop answer.taken bytes ++ more)) (sym last)

all_taken : (n m : ℕ) → n ≡ m → n ≤ m
all_taken n m is = grind (arith, is)

module _ {State : Type 0} (Replies : State → Question → List ℕ → State → Type 0) where
  pub unread : (bytes : List ℕ) (ended : Bool) (state : State) (answer : Answer) → ((more : List ℕ) → MayFollow ended more → BeginsWith (bytes ++ more) unreadable_cut)
      → answer.last ≡ true → answer.taken ≡ length bytes → answer.reply.items ≡ bad_request
      → IsAnswer IsFirst (AnswersOf Replies) bytes ended state state answer
  unread bytes ended state answer begins last taken reply = record {
    request = unreadable;
    taken = all_taken answer.taken (length bytes) taken;
    first = λ more follow. subst (IsFirst (bytes ++ more) unreadable) (last_behind answer bytes more last) (begins more follow);
    answers = (reply, refl);
  }

  pub overlong : (bytes : List ℕ) (ended : Bool) (state : State) (answer : Answer) → ((more : List ℕ) → BeginsWith (bytes ++ more) too_long_cut)
      → answer.last ≡ true → answer.taken ≡ length bytes → answer.reply.items ≡ payload_too_large
      → IsAnswer IsFirst (AnswersOf Replies) bytes ended state state answer
  overlong bytes ended state answer begins last taken reply = record {
    request = too_long;
    taken = all_taken answer.taken (length bytes) taken;
    first = λ more follow. subst (IsFirst (bytes ++ more) too_long) (last_behind answer bytes more last) (begins more);
    answers = (reply, refl);
  }

  question_is : (window : List ℕ) (headers : List HeaderSpan) (spans : RequestSpans) (head : RequestHead) (body : List ℕ) → IsRequestAt window headers spans head
      → question_at window headers spans body ≡ question_of head body
  question_is window headers spans head body at =
      ap (λ l. let q : Question = record { method = l; target = span_bytes window spans.path; fields = map (header_bytes window) (take spans.headers headers); body = body } in q) at.method
      ∙ ap (λ l. let q : Question = record { method = head.method; target = l; fields = map (header_bytes window) (take spans.headers headers); body = body } in q) at.path
      ∙ ap (λ l. let q : Question = record { method = head.method; target = head.target; fields = l; body = body } in q) at.fields

  pub replied : (bytes window body : List ℕ) (ended : Bool) (headers : List HeaderSpan) (frame : Frame) (before after : State) (answer : Answer)
      → IsRequestWithin (front bytes) headers frame.head × ((head : RequestHead) × IsRequestAt (front bytes) headers frame.head head × Asks bytes head frame)
      → window ≡ front bytes → body ≡ slice_range bytes frame.head.len frame.end → Replies before (question_at window headers frame.head body) answer.reply.items after
      → answer.last ≡ frame.closes → answer.taken ≡ frame.end
      → IsAnswer IsFirst (AnswersOf Replies) bytes ended before after answer
  replied bytes window body ended headers frame before after answer reads window_is body_is reply last taken =
      let head = reads.1.0 in
      let at = reads.1.1 in
      let asks = reads.1.2 in
      let stands : question_at window headers frame.head body ≡ question_of head (slice_range bytes frame.head.len frame.end) =
      ap (λ w. question_at w headers frame.head body) window_is ∙ ap (question_at (front bytes) headers frame.head) body_is
      ∙ question_is (front bytes) headers frame.head head (slice_range bytes frame.head.len frame.end) at in
      let behind_is : (more : List ℕ) → (if frame.closes then None else Some (drop frame.end bytes ++ more)) ≡ behind answer bytes more =
      λ more. ap (λ b. if b then None else Some (drop frame.end bytes ++ more)) (sym last) ∙ ap (λ n. if answer.last then None else Some (drop n bytes ++ more)) (sym taken) in
      record {
        request = asked head (slice_range bytes frame.head.len frame.end);
        taken = subst (λ n. n ≤ length bytes) (sym taken) asks.1;
        first = λ more follow. subst (IsFirst (bytes ++ more) (asked head (slice_range bytes frame.head.len frame.end))) (behind_is more) (asks.2 more);
        answers = subst (λ q. Replies before q answer.reply.items after) stands reply;
      }

  pub without_reply : (bytes window body : List ℕ) (ended : Bool) (headers : List HeaderSpan) (frame : Frame) (before after : State)
      → IsRequestWithin (front bytes) headers frame.head × ((head : RequestHead) × IsRequestAt (front bytes) headers frame.head head × Asks bytes head frame)
      → window ≡ front bytes → body ≡ slice_range bytes frame.head.len frame.end → WithoutReply Replies before (question_at window headers frame.head body) after
      → Gives IsFirst (AnswersOf Replies) bytes ended before after
  without_reply bytes window body ended headers frame before after reads window_is body_is (inl stays) = inl stays
  without_reply bytes window body ended headers frame before after reads window_is body_is (inr acted) =
      let head = reads.1.0 in
      let stands : question_at window headers frame.head body ≡ question_of head (slice_range bytes frame.head.len frame.end) =
      ap (λ w. question_at w headers frame.head body) window_is ∙ ap (question_at (front bytes) headers frame.head) body_is
      ∙ question_is (front bytes) headers frame.head head (slice_range bytes frame.head.len frame.end) reads.1.1 in
      inr (record {
        request = asked head (slice_range bytes frame.head.len frame.end);
        reply = acted.0;
        first = λ more follow. ((if frame.closes then None else Some (drop frame.end bytes ++ more)), reads.1.2.2 more);
        answers = subst (λ q. Replies before q acted.0 after) stands acted.1;
      })

-- the target of a head is a text
pub target_text : (bytes window : List ℕ) (headers : List HeaderSpan) (frame : Frame)
    → IsRequestWithin (front bytes) headers frame.head × ((head : RequestHead) × IsRequestAt (front bytes) headers frame.head head × Asks bytes head frame)
    → window ≡ front bytes → IsUtf8 (span_bytes window frame.head.path)
target_text bytes window headers frame reads is =
    subst (λ w. IsUtf8 (span_bytes w frame.head.path)) (sym is) (subst IsUtf8 (sym reads.1.1.path) reads.1.1.reads.0.target_text)
