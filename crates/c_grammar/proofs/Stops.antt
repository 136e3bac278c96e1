-- A phase that stops by a fault of the syntax.
use Rattle.std.proofs.Common.{◌≡◌, ◌≢◌, ◌<◌, ◌≤◌, ℕ, List, length, get_or, slice_get, All, None, Some, IfSome, MatchOption, Bor, refl, sym, subst, arith}
use Rattle.std.proofs.lemmas.List.Elements.{All-map}
use Rattle.std.proofs.lemmas.List.{length-map}
use Rattle.std.proofs.lemmas.Option.{slice_get-get_or, slice_get_past, slice_get_read}
use Rattle.std.specs.Option.{option_copied}
use Rattle.std.specs.declared.option.Option.{Option}
use Rattle.misra_base.specs.declared.refusal.Refusal.{Refusal}
use Rattle.misra_base.specs.declared.refusal.CheckStop.{CheckStop}
use Rattle.misra_base.specs.declared.refusal.CheckStop.TheVariants.{Refused, Memory}
use Rattle.c_lexer.specs.declared.token.Token.{Token}
use Rattle.c_lexer.specs.Limits.{StopsBy}
use Rattle.ll_core.specs.declared.production.Production.{Production}
use Rattle.ll_core.specs.declared.parser.ParseStop.{ParseStop}
use Rattle.ll_core.specs.Answers.{IsStop}
use Rattle.c_grammar.specs.Syntax.{classes_of, IsSyntaxFault, StopsBySyntax}

same_some : {A : Type 0} {x y : A} → Some x ≡ Some y → x ≡ y
same_some e = cc

pub stops_by_syntax : (grammar : List Production) (text : List ℕ) (tokens : List Token) (fault : Refusal) (stop : CheckStop) → StopsBy (Some fault) stop
    → ((refusal : Refusal) → refusal ≡ fault → IsSyntaxFault grammar text tokens refusal) → StopsBySyntax grammar text tokens stop
stops_by_syntax grammar text tokens fault Memory by is_fault = tt
stops_by_syntax grammar text tokens fault (Refused refusal) by is_fault = is_fault refusal (same_some (sym by))

pub no_end_inside : (tokens : List Token) → All (λ t. t.class < 80) tokens → All (λ c. c ≢ 65535) (classes_of tokens)
no_end_inside tokens h = All-map (λ c. c ≢ 65535) (λ t. t.class) tokens (λ k d lt e. omega (arith, h k d lt, e))

pub same_stop : (g h : List Production) (xs ys : List ℕ) (stop same : ParseStop) → g ≡ h → xs ≡ ys → stop ≡ same → IsStop g xs stop → IsStop h ys same
same_stop g h xs ys stop same is_g is_x is_stop s =
    subst (λ (v : ParseStop). IsStop h ys v) is_stop (subst (λ (v : List ℕ). IsStop h v stop) is_x (subst (λ (v : List Production). IsStop v xs stop) is_g s))

pub found_at : (tokens : List Token) (k : ℕ) (other : Token) → k < length (classes_of tokens) → slice_get tokens k ≡ Some (get_or tokens k other)
found_at tokens k other lt = slice_get-get_or tokens k other (rw (length-map tokens (λ t. t.class)) at lt)

pub copied_at : (tokens : List Token) (k : ℕ) (found : Option (Bor Token)) (P : Bor Token → Type 0) → IfSome found (λ t. t.now ≡ get_or tokens k t.now)
    → MatchOption found (length tokens ≤ k) (λ t. (k < length tokens) × P t) → option_copied found ≡ slice_get tokens k
copied_at tokens k None P is at = sym (slice_get_past tokens k at)
copied_at tokens k (Some t) P is at = sym (slice_get_read tokens (length tokens) k t.now refl at.0 is)
