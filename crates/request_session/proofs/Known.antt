-- Known bytes that stay, and where an answer stands among them.
use Rattle.std.proofs.Common.{◌≡◌, ◌<◌, ℕ, Bool, true, List, [], length, Some, inl, inr, subst, ◌∙◌}
use Rattle.std.proofs.KnownBytes.{Keeps-trans, Keeps-refl}
use Rattle.std.specs.declared.option.Option.{Option}
use Rattle.std.specs.Io.KnownBytes.{Keeps, IsAtEnd, prepend_known}
use Rattle.request_session.specs.declared.service.Answer.{Answer}
use Rattle.request_session.specs.Turns.{IsAnswer, IsAnswerTo, Gives, Loses}

pub kept : (a b c : Option (List ℕ)) → Keeps a b → Keeps b c → Keeps a c
kept a b c p q = Keeps-trans a b c p q

pub same : (a : Option (List ℕ)) → Keeps a a
same a = Keeps-refl a

at_end : (left : Option (List ℕ)) (rest : List ℕ) → IsAtEnd left → left ≡ Some rest → rest ≡ []
at_end left rest end is = subst IsAtEnd is end

-- an answer that stands whatever may follow stands where the rest is what is left
pub settled : {Request State : Type 0} (IsFirst : List ℕ → Request → Option (List ℕ) → Type 0) (Answers : State → Request → List ℕ → State → Type 0)
    (bytes : List ℕ) (ended : Bool) (left : Option (List ℕ)) (start before after : State) (answer : Answer)
    → IsAnswer IsFirst Answers bytes ended before after answer → before ≡ start → 0 < length bytes → (ended ≡ true → IsAtEnd left)
    → IsAnswerTo IsFirst Answers bytes left start after answer
settled IsFirst Answers bytes ended left start before after answer a same some end = record {
  request = a.request;
  some = some;
  taken = a.taken;
  first = λ rest is. a.first rest (λ e. at_end left rest (end e) is);
  answers = subst (λ s. Answers s a.request answer.reply.items after) same a.answers;
}

-- the same of a request that was acted on without a reply
pub lost : {Request State : Type 0} (IsFirst : List ℕ → Request → Option (List ℕ) → Type 0) (Answers : State → Request → List ℕ → State → Type 0)
    (bytes : List ℕ) (ended : Bool) (pending left : Option (List ℕ)) (start before after : State)
    → Gives IsFirst Answers bytes ended before after → before ≡ start → 0 < length bytes → (ended ≡ true → IsAtEnd left) → Keeps pending (prepend_known bytes left)
    → Loses IsFirst Answers pending bytes left start after
lost IsFirst Answers bytes ended pending left start before after (inl stays) same some end kept = inl (stays ∙ same)
lost IsFirst Answers bytes ended pending left start before after (inr a) same some end kept = inr (
  kept,
  record {
    request = a.request;
    reply = a.reply;
    some = some;
    first = λ rest is. a.first rest (λ e. at_end left rest (end e) is);
    answers = subst (λ s. Answers s a.request a.reply after) same a.answers;
  },
)
