use Rattle.std.proofs.Common.{Result, Ok, Err, MatchResult, inl, refl}
use Rattle.std.specs.Prelude.{⊤}
use Rattle.http_service.proofs.tests.EchoResponder.respond.Goals as goal

any_reply : {A E No : Type 0} (result : Result A E) → No → MatchResult result (λ reply. ⊤) (λ error. No)
any_reply (Ok reply) otherwise = tt
any_reply (Err error) otherwise = otherwise

pub returns : goal.returns
returns c = record { reply = any_reply c.response.result (inl refl) }
