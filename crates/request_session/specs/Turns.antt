-- What a service makes of the bytes in front of it.
use Rattle.std.specs.Prelude.{◌≡◌, ◌<◌, ◌≤◌, ◌⊎◌, ℕ, Bool, true, false, List, [], ◌++◌, length, take, drop, Some, None, if◌then◌else◌, Result, Ok, Err}
use Rattle.std.specs.declared.option.Option.{Option}
use Rattle.std.specs.Io.KnownBytes.{Appends, IsAtEnd, Keeps, prepend_known}
use Rattle.request_session.specs.Requests.{Session, whole, stopped}
use Rattle.request_session.specs.declared.service.Turn.{Turn}
use Rattle.request_session.specs.declared.service.Turn.TheVariants as turns
use Rattle.request_session.specs.declared.service.Answer.{Answer}

-- the bytes behind the first request, of which the last have not come
abbrev pub behind : Answer → List ℕ → List ℕ → Option (List ℕ)
behind answer bytes more = if answer.last then None else Some (drop answer.taken bytes ++ more)

-- more bytes may come, but none where they ended
abbrev pub MayFollow : Bool → List ℕ → Type 0
MayFollow ended more = ended ≡ true → more ≡ []

-- the answer is to this request, which is the first whatever bytes follow
pub record IsAnswer {Request State : Type 0} (IsFirst : List ℕ → Request → Option (List ℕ) → Type 0) (Answers : State → Request → List ℕ → State → Type 0)
    (bytes : List ℕ) (ended : Bool) (before after : State) (answer : Answer) : Type 0 where
  pub request : Request
  pub taken : answer.taken ≤ length bytes
  pub first : (more : List ℕ) → MayFollow ended more → IsFirst (bytes ++ more) request (behind answer bytes more)
  pub answers : Answers before request answer.reply.items after

-- nothing was done, and more bytes may make the request whole
pub record MustWait {State : Type 0} (room : ℕ) (bytes : List ℕ) (ended : Bool) (before after : State) (need : ℕ) : Type 0 where
  pub goes_on : ended ≡ false
  pub more : length bytes < need
  pub bound : need ≤ room
  pub state : after ≡ before

abbrev pub Takes : {Request State : Type 0} → (List ℕ → Request → Option (List ℕ) → Type 0) → (State → Request → List ℕ → State → Type 0)
    → ℕ → List ℕ → Bool → State → State → Turn → Type 0
Takes IsFirst Answers room bytes ended before after (turns.Answered answer) = IsAnswer IsFirst Answers bytes ended before after answer
Takes IsFirst Answers room bytes ended before after (turns.Waits need) = MustWait room bytes ended before after need

-- the first request was acted on, whatever bytes follow
pub record ActsOn {Request State : Type 0} (IsFirst : List ℕ → Request → Option (List ℕ) → Type 0) (Answers : State → Request → List ℕ → State → Type 0)
    (bytes : List ℕ) (ended : Bool) (before after : State) : Type 0 where
  pub request : Request
  pub reply : List ℕ
  pub first : (more : List ℕ) → MayFollow ended more → (behind : Option (List ℕ)) × IsFirst (bytes ++ more) request behind
  pub answers : Answers before request reply after

-- nothing was done, or the first request was acted on and its reply is lost
abbrev pub Gives : {Request State : Type 0} → (List ℕ → Request → Option (List ℕ) → Type 0) → (State → Request → List ℕ → State → Type 0)
    → List ℕ → Bool → State → State → Type 0
Gives IsFirst Answers bytes ended before after = (after ≡ before) ⊎ ActsOn IsFirst Answers bytes ended before after

-- the answer is to this request, which is the first of the bytes and those left
pub record IsAnswerTo {Request State : Type 0} (IsFirst : List ℕ → Request → Option (List ℕ) → Type 0) (Answers : State → Request → List ℕ → State → Type 0)
    (bytes : List ℕ) (left : Option (List ℕ)) (before after : State) (answer : Answer) : Type 0 where
  pub request : Request
  pub some : 0 < length bytes
  pub taken : answer.taken ≤ length bytes
  pub first : (rest : List ℕ) → left ≡ Some rest → IsFirst (bytes ++ rest) request (behind answer bytes rest)
  pub answers : Answers before request answer.reply.items after

-- the answer to the first request, or none where no bytes are left
abbrev pub Gathers : {Request State : Type 0} → (List ℕ → Request → Option (List ℕ) → Type 0) → (State → Request → List ℕ → State → Type 0)
    → List ℕ → Option (List ℕ) → State → State → Option Answer → Type 0
Gathers IsFirst Answers bytes left before after None = (bytes ≡ []) × IsAtEnd left × (after ≡ before)
Gathers IsFirst Answers bytes left before after (Some answer) = IsAnswerTo IsFirst Answers bytes left before after answer

-- the first request of the bytes and those left was acted on
pub record ActedOn {Request State : Type 0} (IsFirst : List ℕ → Request → Option (List ℕ) → Type 0) (Answers : State → Request → List ℕ → State → Type 0)
    (bytes : List ℕ) (left : Option (List ℕ)) (before after : State) : Type 0 where
  pub request : Request
  pub reply : List ℕ
  pub some : 0 < length bytes
  pub first : (rest : List ℕ) → left ≡ Some rest → (behind : Option (List ℕ)) × IsFirst (bytes ++ rest) request behind
  pub answers : Answers before request reply after

-- nothing was done, or the first of the pending requests was acted on
abbrev pub Loses : {Request State : Type 0} → (List ℕ → Request → Option (List ℕ) → Type 0) → (State → Request → List ℕ → State → Type 0)
    → Option (List ℕ) → List ℕ → Option (List ℕ) → State → State → Type 0
Loses IsFirst Answers pending bytes left before after =
    (after ≡ before) ⊎ (Keeps pending (prepend_known bytes left) × ActedOn IsFirst Answers bytes left before after)

-- the whole reply is written, or where it stopped the first bytes of it
abbrev pub Replies : {E : Type 0} → Option (List ℕ) → Option (List ℕ) → List ℕ → Result (Unit {0}) E → Type 0
Replies before after reply (Ok a) = Appends before after reply
Replies before after reply (Err e) = (n : ℕ) × Appends before after (take n reply)

-- one request was answered, and these bytes are behind it
pub record Exchange {Request State : Type 0} (IsFirst : List ℕ → Request → Option (List ℕ) → Type 0) (Answers : State → Request → List ℕ → State → Type 0)
    (bytes : List ℕ) (before after : State) (written_before written_after : Option (List ℕ)) (behind : Option (List ℕ)) : Type 0 where
  pub request : Request
  pub reply : List ℕ
  pub some : 0 < length bytes
  pub first : IsFirst bytes request behind
  pub answers : Answers before request reply after
  pub appended : Appends written_before written_after reply

-- a request was answered and the connection goes on, or the session is at its end
abbrev pub Turns : {Request State E : Type 0} → (List ℕ → Request → Option (List ℕ) → Type 0) → (State → Request → List ℕ → State → Type 0)
    → List ℕ → State → State → Option (List ℕ) → Option (List ℕ) → Option (List ℕ) → Result Bool E → Type 0
Turns IsFirst Answers bytes before after written_before written_after left (Ok true) =
    (rest : List ℕ) × (left ≡ Some rest) × Exchange IsFirst Answers bytes before after written_before written_after (Some rest)
Turns IsFirst Answers bytes before after written_before written_after left (Ok false) =
    (limit : ℕ) → 0 < limit → Session IsFirst Answers whole limit bytes before after written_before written_after
Turns IsFirst Answers bytes before after written_before written_after left (Err e) =
    (limit : ℕ) → 0 < limit → Session IsFirst Answers stopped limit bytes before after written_before written_after
