-- Some bytes begin with one request, and are one list of requests.
use Rattle.std.proofs.Common.{◌≡◌, ◌<◌, ◌-◌, ◌⊎◌, inl, inr, ℕ, List, [], ◌∷◌, length, MatchOption, Option, Some, None, refl, sym, ap, subst, ◌∙◌, arith}
use Rattle.httparse.proofs.GrammarLemmas.{request_unique}
use Rattle.request_session.specs.Requests.{AreRequests, whole}
use Rattle.http_requests.specs.Requests.{BeginsWith, Cut, IsFirst, Request, cut_after}

pub one_cut : (bytes : List ℕ) (c d : Cut) → BeginsWith bytes c → BeginsWith bytes d → c ≡ d
one_cut bytes c d (inl p) (inl q) = p.1 ∙ sym q.1
one_cut bytes c d (inl p) (inr q) = absurd (p.0 q.0 q.1 q.2)
one_cut bytes c d (inr p) (inl q) = absurd (q.0 p.0 p.1 p.2)
one_cut bytes c d (inr p) (inr q) =
    let same = request_unique bytes p.0 q.0 p.1 q.1 p.2.reads q.2.reads in
    p.3 ∙ ap (λ h. cut_after h p.1) same.0 ∙ ap (cut_after q.0) same.1 ∙ sym q.3

more_than_none : (limit : ℕ) (bytes : List ℕ) → (limit ≡ 0) ⊎ (bytes ≡ []) → 0 < limit → 0 < length bytes → ⊥
more_than_none limit bytes (inl none) some there = omega (arith, none, some)
more_than_none limit bytes (inr none) some there = let size : length bytes ≡ 0 = ap length none in omega (arith, size, there)

put_behind : (request other : Request) (requests others : List Request) → request ≡ other → requests ≡ others → (request ∷ requests) ≡ (other ∷ others)
put_behind request other requests others same rest = ap (λ r. r ∷ requests) same ∙ ap (λ rs. other ∷ rs) rest

rests : (limit : ℕ) (requests others : List Request) (behind other_behind : Option (List ℕ)) → behind ≡ other_behind
    → MatchOption behind (requests ≡ []) (λ rest. AreRequests IsFirst whole limit rest requests)
    → MatchOption other_behind (others ≡ []) (λ rest. AreRequests IsFirst whole limit rest others)
    → ((rest : List ℕ) → AreRequests IsFirst whole limit rest requests → AreRequests IsFirst whole limit rest others → requests ≡ others)
    → requests ≡ others
rests limit requests others behind None is p q step = subst (λ b. MatchOption b (requests ≡ []) (λ rest. AreRequests IsFirst whole limit rest requests)) is p ∙ sym q
rests limit requests others behind (Some rest) is p q step =
    step rest (subst (λ b. MatchOption b (requests ≡ []) (λ rest. AreRequests IsFirst whole limit rest requests)) is p) q

pub one_list : (limit : ℕ) (bytes : List ℕ) (requests others : List Request) → AreRequests IsFirst whole limit bytes requests → AreRequests IsFirst whole limit bytes others → requests ≡ others
one_list limit bytes [] [] p q = refl
one_list limit bytes [] (other ∷ others) p q = absurd (more_than_none limit bytes p q.0 q.1)
one_list limit bytes (request ∷ requests) [] p q = absurd (more_than_none limit bytes q p.0 p.1)
one_list limit bytes (request ∷ requests) (other ∷ others) p q =
    let c : Cut = (request, p.2) in
    let d : Cut = (other, q.2) in
    let same = one_cut bytes c d p.3 q.3 in
    put_behind request other requests others (ap (λ x. x.0) same)
    (rests (limit - 1) requests others p.2 q.2 (ap (λ x. x.1) same) p.4 q.4 (λ rest a b. one_list (limit - 1) rest requests others a b))
