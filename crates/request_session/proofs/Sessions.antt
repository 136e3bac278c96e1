-- Sessions of no request, of one, and of one and then more.
use Rattle.std.proofs.Common.{◌≡◌, ◌<◌, ◌-◌, ◌+◌, ℕ, Bool, true, false, not, List, [], ◌∷◌, ◌++◌, length, take, drop, Some, None, Result, Ok, MatchOption, if◌then◌else◌, inl, inr, subst, sym, refl, ap, ◌∙◌, append-nil, append_assoc, take-append-drop, arith}
use Rattle.std.proofs.lemmas.Grind.{common_steps}
use Rattle.std.specs.Bool.{⊤}
use Rattle.std.proofs.KnownBytes.{Appends-nil, Appends-trans, prepend_known-end}
use Rattle.std.specs.declared.option.Option.{Option}
use Rattle.std.specs.List.{concat}
use Rattle.std.specs.Io.KnownBytes.{Keeps, Appends, IsAtEnd, prepend_known}
use Rattle.request_session.specs.declared.service.Answer.{Answer}
use Rattle.request_session.specs.Requests.{Ending, whole, stopped, EndsAt, IsWritten, Session}
use Rattle.request_session.specs.Turns.{IsAnswerTo, ActedOn, Gathers, Loses, Exchange, Turns, behind}
use Rattle.request_session.specs.Loops.{Follows}

nothing_written : (ending : Ending) → IsWritten ending [] (concat [])
nothing_written whole = refl
nothing_written stopped = ([], refl)

more_written : (ending : Ending) (out reply rest : List ℕ) → IsWritten ending out rest → IsWritten ending (reply ++ out) (reply ++ rest)
more_written whole out reply rest same = ap (λ l. reply ++ l) same
more_written stopped out reply rest part = (part.0, ap (λ l. reply ++ l) part.1 ∙ sym (append_assoc reply out part.0))

appends_none : (old new : Option (List ℕ)) → new ≡ old → Appends old new []
appends_none old new same = subst (λ known. Appends old known []) (sym same) (Appends-nil old)

alone : (Request : Type 0) (behind : Option (List ℕ)) → MatchOption behind (let none : List Request = [] in none ≡ []) (λ rest. ⊤)
alone Request None = refl
alone Request (Some rest) = tt

module _ {Request State : Type 0} (IsFirst : List ℕ → Request → Option (List ℕ) → Type 0) (Answers : State → Request → List ℕ → State → Type 0) where
  pub idle : (ending : Ending) (limit : ℕ) (bytes : List ℕ) (before after : State) (old new : Option (List ℕ))
      → EndsAt ending limit bytes → after ≡ before → new ≡ old → Session IsFirst Answers ending limit bytes before after old new
  idle ending limit bytes before after old new end same kept = record {
    requests = [];
    replies = [];
    out = [];
    cut = end;
    answered = same;
    written = nothing_written ending;
    appended = appends_none old new kept;
  }

  pub following : (ending : Ending) (limit : ℕ) (bytes rest : List ℕ) (before next after : State) (old mid new : Option (List ℕ))
      → 0 < limit → Exchange IsFirst Answers bytes before next old mid (Some rest) → Session IsFirst Answers ending (limit - 1) rest next after mid new
      → Session IsFirst Answers ending limit bytes before after old new
  following ending limit bytes rest before next after old mid new room e s = record {
    requests = e.request ∷ s.requests;
    replies = e.reply ∷ s.replies;
    out = e.reply ++ s.out;
    cut = (room, e.some, Some rest, e.first, s.cut);
    answered = (next, e.answers, s.answered);
    written = more_written ending s.out e.reply (concat s.replies) s.written;
    appended = Appends-trans old mid new e.reply s.out e.appended s.appended;
  }

  pub ending_with : (limit : ℕ) (bytes : List ℕ) (before after : State) (old new : Option (List ℕ))
      → 0 < limit → Exchange IsFirst Answers bytes before after old new None → Session IsFirst Answers whole limit bytes before after old new
  ending_with limit bytes before after old new room e = record {
    requests = e.request ∷ [];
    replies = e.reply ∷ [];
    out = e.reply;
    cut = (room, e.some, None, e.first, refl);
    answered = (after, e.answers, refl);
    written = sym (append-nil e.reply);
    appended = e.appended;
  }

  pub broken_off : (limit : ℕ) (bytes : List ℕ) (request : Request) (reply : List ℕ) (behind : Option (List ℕ)) (before after : State) (old new : Option (List ℕ)) (n : ℕ)
      → 0 < limit → 0 < length bytes → IsFirst bytes request behind → Answers before request reply after → Appends old new (take n reply)
      → Session IsFirst Answers stopped limit bytes before after old new
  broken_off limit bytes request reply behind before after old new n room some first answers appended = record {
    requests = request ∷ [];
    replies = reply ∷ [];
    out = take n reply;
    cut = (room, some, behind, first, alone Request behind);
    answered = (after, answers, refl);
    written = (drop n reply, append-nil reply ∙ sym (take-append-drop n reply));
    appended = appended;
  }

-- ---- one turn, from the facts that its calls give

-- the known bytes that are pending are those in hand and those left
pub told : (pending left : Option (List ℕ)) (all bytes : List ℕ) → pending ≡ Some all → Keeps pending (prepend_known bytes left)
    → (rest : List ℕ) × (left ≡ Some rest) × (bytes ++ rest ≡ all)
told pending None all bytes is kept = absurd (subst (λ known. Keeps known None) is kept)
told pending (Some rest) all bytes is kept = (rest, refl, subst (λ known. Keeps known (Some (bytes ++ rest))) is kept)

pub none_left : (pending left : Option (List ℕ)) (all bytes : List ℕ) → pending ≡ Some all → Keeps pending (prepend_known bytes left) → bytes ≡ [] → IsAtEnd left → all ≡ []
none_left pending left all bytes is kept none end = subst IsAtEnd is (prepend_known-end pending left bytes kept none end)

some_pending : (bytes rest all : List ℕ) → bytes ++ rest ≡ all → 0 < length bytes → 0 < length all
some_pending bytes rest all is some = subst (λ l. 0 < length l) is (grind (arith, common_steps))

module _ {Request State : Type 0} (IsFirst : List ℕ → Request → Option (List ℕ) → Type 0) (Answers : State → Request → List ℕ → State → Type 0) where
  -- the connection ended before a request
  pub at_end : (limit : ℕ) (pending left : Option (List ℕ)) (all bytes : List ℕ) (before after : State) (old new : Option (List ℕ)) (found : Option Answer)
      → pending ≡ Some all → Keeps pending (prepend_known bytes left) → found ≡ None → Gathers IsFirst Answers bytes left before after found → new ≡ old
      → Session IsFirst Answers whole limit all before after old new
  at_end limit pending left all bytes before after old new found is kept found_is gathered same =
      let facts : (bytes ≡ []) × IsAtEnd left × (after ≡ before) = subst (Gathers IsFirst Answers bytes left before after) found_is gathered in
      idle IsFirst Answers whole limit all before after old new (inr (none_left pending left all bytes is kept facts.0 facts.1)) facts.2 same

  -- the reply could not be written to its end
  pub cut_off : (limit : ℕ) (pending left : Option (List ℕ)) (all bytes : List ℕ) (before after : State) (old mid new : Option (List ℕ)) (found : Option Answer) (answer : Answer) (reply : List ℕ)
      → 0 < limit → pending ≡ Some all → Keeps pending (prepend_known bytes left) → found ≡ Some answer → Gathers IsFirst Answers bytes left before after found → mid ≡ old
      → reply ≡ answer.reply.items → (n : ℕ) × Appends mid new (take n reply)
      → Session IsFirst Answers stopped limit all before after old new
  cut_off limit pending left all bytes before after old mid new found answer reply room is kept found_is gathered same reply_is written =
      let a : IsAnswerTo IsFirst Answers bytes left before after answer = subst (Gathers IsFirst Answers bytes left before after) found_is gathered in
      let part : (n : ℕ) × Appends mid new (take n answer.reply.items) = subst (λ l. (n : ℕ) × Appends mid new (take n l)) reply_is written in
      let t = told pending left all bytes is kept in
      broken_off IsFirst Answers limit all a.request answer.reply.items (behind answer bytes t.0) before after old new part.0 room
      (some_pending bytes t.0 all t.2 a.some) (subst (λ l. IsFirst l a.request (behind answer bytes t.0)) t.2 (a.first t.0 t.1)) a.answers
      (subst (λ known. Appends known new (take part.0 answer.reply.items)) same part.1)

  -- the first request may have been acted on, and nothing was replied
  pub stopped_at : (limit : ℕ) (pending left : Option (List ℕ)) (all bytes : List ℕ) (before after : State) (old new : Option (List ℕ))
      → 0 < limit → pending ≡ Some all → Loses IsFirst Answers pending bytes left before after → new ≡ old
      → Session IsFirst Answers stopped limit all before after old new
  stopped_at limit pending left all bytes before after old new room is (inl stays) same = idle IsFirst Answers stopped limit all before after old new tt stays same
  stopped_at limit pending left all bytes before after old new room is (inr acted) same =
      let a : ActedOn IsFirst Answers bytes left before after = acted.1 in
      let t = told pending left all bytes is acted.0 in
      let first = a.first t.0 t.1 in
      broken_off IsFirst Answers limit all a.request a.reply first.0 before after old new 0 room
      (some_pending bytes t.0 all t.2 a.some) (subst (λ l. IsFirst l a.request first.0) t.2 first.1) a.answers
      (appends_none old new same)

  exchange : (left : Option (List ℕ)) (all bytes rest : List ℕ) (before after : State) (old mid new : Option (List ℕ)) (answer : Answer)
      → left ≡ Some rest → bytes ++ rest ≡ all → IsAnswerTo IsFirst Answers bytes left before after answer → mid ≡ old → Appends mid new answer.reply.items
      → Exchange IsFirst Answers all before after old new (behind answer bytes rest)
  exchange left all bytes rest before after old mid new answer is whole_is a same appended = record {
    request = a.request;
    reply = answer.reply.items;
    some = some_pending bytes rest all whole_is a.some;
    first = subst (λ l. IsFirst l a.request (behind answer bytes rest)) whole_is (a.first rest is);
    answers = a.answers;
    appended = subst (λ known. Appends known new answer.reply.items) same appended;
  }

  by_last : (E : Type 0) (last : Bool) (all rest bytes : List ℕ) (taken : ℕ) (before after : State) (old new left : Option (List ℕ))
      → Exchange IsFirst Answers all before after old new (if last then None else Some (drop taken bytes ++ rest)) → left ≡ Some (drop taken bytes ++ rest)
      → Turns IsFirst Answers all before after old new left (let r : Result Bool E = Ok (not last) in r)
  by_last E true all rest bytes taken before after old new left e is = λ limit room. ending_with IsFirst Answers limit all before after old new room e
  by_last E false all rest bytes taken before after old new left e is = (drop taken bytes ++ rest, is, e)

  -- the reply was written
  pub turned : (E : Type 0) (pending left left_after : Option (List ℕ)) (all bytes bytes_after : List ℕ) (before after : State) (old mid new : Option (List ℕ)) (found : Option Answer) (answer : Answer) (reply : List ℕ)
      → pending ≡ Some all → Keeps pending (prepend_known bytes left) → found ≡ Some answer → Gathers IsFirst Answers bytes left before after found → mid ≡ old
      → reply ≡ answer.reply.items → Appends mid new reply → left_after ≡ left → bytes_after ≡ drop answer.taken bytes
      → Turns IsFirst Answers all before after old new (prepend_known bytes_after left_after) (let r : Result Bool E = Ok (not answer.last) in r)
  turned E pending left left_after all bytes bytes_after before after old mid new found answer reply is kept found_is gathered same reply_is written left_same dropped =
      let a : IsAnswerTo IsFirst Answers bytes left before after answer = subst (Gathers IsFirst Answers bytes left before after) found_is gathered in
      let appended : Appends mid new answer.reply.items = subst (Appends mid new) reply_is written in
      let t = told pending left all bytes is kept in
      let e = exchange left all bytes t.0 before after old mid new answer t.1 t.2 a same appended in
      by_last E answer.last all t.0 bytes answer.taken before after old new (prepend_known bytes_after left_after) e
      (subst (λ l. prepend_known l left_after ≡ Some (drop answer.taken bytes ++ t.0)) (sym dropped)
      (ap (λ known. prepend_known (drop answer.taken bytes) known) (left_same ∙ t.1)))

-- ---- the loop over the requests

module _ {Request State : Type 0} (IsFirst : List ℕ → Request → Option (List ℕ) → Type 0) (Answers : State → Request → List ℕ → State → Type 0) where
  pub begins : (limit : ℕ) (bytes all : List ℕ) (left : Option (List ℕ)) (start : State) (written : Option (List ℕ)) → bytes ≡ [] → left ≡ Some all
      → Follows IsFirst Answers limit (prepend_known bytes left) start written limit all start written
  begins limit bytes all left start written none is =
      (all, subst (λ l. prepend_known l left ≡ Some all) (sym none) (subst (λ known. prepend_known [] known ≡ Some all) (sym is) refl), λ ending after written_after s. s)

  pub goes_on : (E : Type 0) (more : Bool) (counter : ℕ) (all : List ℕ) (start before after : State) (pending left : Option (List ℕ)) (start_written old new : Option (List ℕ))
      → counter < 1000 → more ≡ true
      → ((bytes : List ℕ) → pending ≡ Some bytes → Turns IsFirst Answers bytes before after old new left (let r : Result Bool E = Ok more in r))
      → Follows IsFirst Answers (1000 - counter) pending before old 1000 all start start_written
      → Follows IsFirst Answers (1000 - (counter + 1)) left after new 1000 all start start_written
  goes_on E more counter all start before after pending left start_written old new below is_more turn f =
      let t = subst (λ b. Turns IsFirst Answers f.0 before after old new left (let r : Result Bool E = Ok b in r)) is_more (turn f.0 f.1) in
      let one_less : 1000 - (counter + 1) ≡ 1000 - counter - 1 = omega arith in (
        t.0,
        t.1,
        λ ending last written_last s. f.2 ending last written_last
            (following IsFirst Answers ending (1000 - counter) f.0 t.0 before after last old new written_last (omega (arith, below)) t.2
            (subst (λ limit. Session IsFirst Answers ending limit t.0 after last new written_last) one_less s)),
      )

  pub all_read : (limit : ℕ) (all : List ℕ) (start before : State) (pending : Option (List ℕ)) (start_written old : Option (List ℕ))
      → limit ≡ 0 → Follows IsFirst Answers limit pending before old 1000 all start start_written
      → Session IsFirst Answers whole 1000 all start before start_written old
  all_read limit all start before pending start_written old none f =
      f.2 whole before old (idle IsFirst Answers whole limit f.0 before before old old (inl none) refl refl)

  pub ends : (ending : Ending) (counter : ℕ) (all : List ℕ) (start before after : State) (pending : Option (List ℕ)) (start_written old new : Option (List ℕ))
      → counter < 1000
      → ((bytes : List ℕ) → pending ≡ Some bytes → (limit : ℕ) → 0 < limit → Session IsFirst Answers ending limit bytes before after old new)
      → Follows IsFirst Answers (1000 - counter) pending before old 1000 all start start_written
      → Session IsFirst Answers ending 1000 all start after start_written new
  ends ending counter all start before after pending start_written old new below turn f =
      f.2 ending after new (turn f.0 f.1 (1000 - counter) (omega (arith, below)))
