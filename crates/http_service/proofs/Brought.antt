-- How many connections an acceptor in memory was handed, as accepts and sessions leave it.
use Rattle.std.proofs.Common.{◌≡◌, ◌<◌, ◌+◌, ◌++◌, ◌∷◌, [], ℕ, Bool, true, false, length, Result, Ok, Err, List, suc, unwrap_or, ap, arith}
use Rattle.std.proofs.lemmas.Grind.{common_steps}
use Rattle.std.specs.Prelude.{Vec}
use Rattle.std.specs.declared.alloc.Global.{Global}
use Rattle.desk_links.specs.Accepting.{Accepts, Situation}
use Rattle.desk_links.specs.Connections.{AcceptorView, ConnectionsView, LinkRest, link_rest, lists_of, none_accepted, situation_of}

abbrev count : ConnectionsView → ℕ
count c = length c.before + length c.coming

same_count : (old new : ConnectionsView) → situation_of new ≡ situation_of old → 0 < count old → 0 < count new
same_count old new same some =
    let before : length new.before ≡ length old.before = ap (λ (s : Situation). length (unwrap_or s.before [])) same in
    let coming : length new.coming ≡ length old.coming = ap (λ (s : Situation). length (unwrap_or s.coming [])) same in
    omega (arith, before, coming, some)

pub accepted : {E : Type 0} (old new : ConnectionsView) (result : Result Bool E) → Accepts (situation_of old) (situation_of new) result → 0 < count old → 0 < count new
accepted old new (Ok true) accepts some =
    let before : new.before ≡ old.before ++ old.written ∷ [] = ap (λ o. unwrap_or o []) accepts.1.1 in
    grind (arith, common_steps, before)
accepted old new (Ok false) accepts some = same_count old new accepts.0 some
accepted old new (Err error) accepts some = same_count old new accepts some

pub brought : {E : Type 0} (vectors : List (Vec ℕ Global)) (old new : ConnectionsView) (result : Result Bool E) → old ≡ none_accepted (lists_of vectors) → 0 < length vectors
    → Accepts (situation_of old) (situation_of new) result → 0 < count new
brought [] old new result is some accepts = absurd (omega (arith, some))
brought (vector ∷ vectors) old new result is some accepts =
    let coming : length old.coming ≡ suc (length (lists_of vectors)) = ap (λ (c : ConnectionsView). length c.coming) is in
    accepted old new result accepts (omega (arith, coming))

pub served : (old new : AcceptorView) → link_rest new ≡ link_rest old → 0 < count old.connections → 0 < count new.connections
served old new same some =
    let before : length new.connections.before ≡ length old.connections.before = ap (λ (r : LinkRest). length r.before) same in
    let coming : length new.connections.coming ≡ length old.connections.coming = ap (λ (r : LinkRest). length r.coming) same in
    omega (arith, before, coming, some)
