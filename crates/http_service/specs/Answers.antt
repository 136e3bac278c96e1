-- What a request asks, and how it is answered.
use Rattle.std.specs.Prelude.{◌≡◌, ◌⊎◌, ℕ, List, map, take, None}
use Rattle.httparse.specs.Grammar.{RequestHead}
use Rattle.httparse.specs.Spans.{header_bytes, span_bytes}
use Rattle.httparse.specs.declared.spans.HeaderSpan.{HeaderSpan}
use Rattle.httparse.specs.declared.spans.RequestSpans.{RequestSpans}
use Rattle.http_requests.specs.Requests.{Request, asked, fields_of, too_long, unreadable}
use Rattle.http_responses.specs.Responses.{error_body, response_bytes}
use Rattle.http_responses.specs.declared.status.StatusCode.TheVariants as statuses

-- what a request asks: its method and target, the names and values of its fields, and its body
pub record Question : Type 0 where
  pub method : List ℕ
  pub target : List ℕ
  pub fields : List (List ℕ × List ℕ)
  pub body : List ℕ

abbrev pub question_of : RequestHead → List ℕ → Question
question_of head body = record { method = head.method; target = head.target; fields = fields_of head; body = body }

-- the same as the spans of a head tell it
abbrev pub question_at : List ℕ → List HeaderSpan → RequestSpans → List ℕ → Question
question_at front headers spans body = record {
  method = span_bytes front spans.method;
  target = span_bytes front spans.path;
  fields = map (header_bytes front) (take spans.headers headers);
  body = body;
}

abbrev pub bad_request : List ℕ
bad_request = response_bytes statuses.BadRequest None (error_body statuses.BadRequest)

abbrev pub payload_too_large : List ℕ
payload_too_large = response_bytes statuses.PayloadTooLarge None (error_body statuses.PayloadTooLarge)

-- without a reply nothing was done, or the question was acted on
abbrev pub WithoutReply : {State : Type 0} → (State → Question → List ℕ → State → Type 0) → State → Question → State → Type 0
WithoutReply Replies before question after = (after ≡ before) ⊎ ((reply : List ℕ) × Replies before question reply after)

-- 400 and 413 answer what is no request, and leave the state; the others are answered as their question is
abbrev pub AnswersOf : {State : Type 0} → (State → Question → List ℕ → State → Type 0) → State → Request → List ℕ → State → Type 0
AnswersOf Replies before unreadable reply after = (reply ≡ bad_request) × (after ≡ before)
AnswersOf Replies before too_long reply after = (reply ≡ payload_too_large) × (after ≡ before)
AnswersOf Replies before (asked head body) reply after = Replies before (question_of head body) reply after
