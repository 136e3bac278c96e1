-- Lists that are written one after the other.
use Rattle.std.proofs.Common.{inl, inr, Result, Ok, Err, OnOk, OnErr, is_ok, if◌then◌else◌, ◌≡◌, ◌<◌, ◌≤◌, ◌+◌, ◌⊎◌, zero, suc, ℕ, List, [], ◌∷◌, ◌++◌, length, map, take, get_or, set, refl, sym, ap, subst, ◌∙◌, arith}
use Rattle.std.proofs.Math.ListN.{get_or-append, get_or-eq_default}
use Rattle.std.proofs.Math.Seq.{get_or-append_seam, map-set_same}
use Rattle.std.proofs.lemmas.Grind.{common_steps}
use Rattle.std.proofs.lemmas.List.{get_or-map, get_or-take, get_or-set_other, get_or-set_same, map-set}
use Rattle.std.specs.Prelude.{Vec}
use Rattle.std.specs.declared.alloc.Global.{Global}
use Rattle.desk_links.specs.Connections.{ConnectionsView, lists_of}

-- all the lists behind a place are empty
abbrev pub AreEmptyBehind : ℕ → List (List ℕ) → Type 0
AreEmptyBehind accepted lists = (k : ℕ) → accepted < k → get_or lists k [] ≡ []

pub one_more_empty : (vectors : List (Vec ℕ Global)) (new : Vec ℕ Global) → new.items ≡ [] → ((k : ℕ) → get_or (lists_of vectors) k [] ≡ [])
    → (k : ℕ) → get_or (lists_of (vectors ++ new ∷ [])) k [] ≡ []
one_more_empty [] new none all zero = none
one_more_empty [] new none all (suc k) = refl
one_more_empty (v ∷ vectors) new none all zero = all 0
one_more_empty (v ∷ vectors) new none all (suc k) = one_more_empty vectors new none (λ j. all (suc j)) k

module _ (lists : List (List ℕ)) (accepted i : ℕ) (inside : accepted < length lists) where
  abbrev current : List ℕ
  current = get_or lists accepted []

  front_length : length (take accepted lists) ≡ accepted
  front_length = grind (arith, common_steps)

  earlier : i < accepted → get_or lists i [] ≡ get_or (take accepted lists ++ current ∷ []) i []
  earlier below =
      sym (get_or-append (take accepted lists) (current ∷ []) [] i (subst (λ n. i < n) (sym front_length) below) ∙ get_or-take accepted lists i [] below)

  this : i ≡ accepted → get_or lists i [] ≡ get_or (take accepted lists ++ current ∷ []) i []
  this same =
      ap (λ k. get_or lists k []) same
      ∙ sym (subst (λ n. get_or (take accepted lists ++ current ∷ []) n [] ≡ current) (front_length ∙ sym same) (get_or-append_seam (take accepted lists) current [] []))

  later : AreEmptyBehind accepted lists → accepted < i → get_or lists i [] ≡ get_or (take accepted lists ++ current ∷ []) i []
  later empty behind =
      let bound : length (take accepted lists ++ current ∷ []) ≤ i = let front = front_length in grind (arith, common_steps) in
      empty i behind ∙ sym (get_or-eq_default (take accepted lists ++ current ∷ []) [] bound)

  pub lent : AreEmptyBehind accepted lists → get_or lists i [] ≡ get_or (take accepted lists ++ current ∷ []) i []
  lent empty =
      let either : (i < accepted) ⊎ ((i ≡ accepted) ⊎ (accepted < i)) = grind arith in
      elim either [ inl below ↦ earlier below | inr rest ↦ elim rest [ inl same ↦ this same | inr behind ↦ later empty behind ] ]

-- what was written on a connection, from where it stands
pub written_on : (vectors coming : List (Vec ℕ Global)) (accepted connection : ℕ) (found : Vec ℕ Global) (result : List ℕ)
    → result ≡ found.items → found ≡ get_or vectors (connection + 1) found
    → connection < length (take accepted (lists_of vectors)) + length (lists_of coming) → length vectors ≡ accepted + 1 + length coming
    → AreEmptyBehind accepted (lists_of vectors)
    → result ≡ get_or (take accepted (lists_of vectors) ++ get_or (lists_of vectors) accepted [] ∷ []) (connection + 1) []
written_on vectors coming accepted connection found result result_is found_is handed_in size empty =
    let inside : connection + 1 < length vectors = grind (arith, common_steps) in
    let one : accepted < length (lists_of vectors) = grind (arith, common_steps) in
    result_is ∙ ap (λ v. v.items) found_is ∙ sym (get_or-map (λ v. v.items) vectors (connection + 1) found [] inside)
    ∙ lent (lists_of vectors) accepted (connection + 1) one empty

-- a write changes the one list
pub before_stays : (lists : List (List ℕ)) (accepted : ℕ) (new : List ℕ) → take accepted (set lists accepted new) ≡ take accepted lists
before_stays lists accepted new = grind (arith, common_steps)

pub behind_stays : (lists : List (List ℕ)) (accepted : ℕ) (new : List ℕ) → AreEmptyBehind accepted lists → AreEmptyBehind accepted (set lists accepted new)
behind_stays lists accepted new empty k behind = get_or-set_other lists accepted k new [] (λ same. omega (arith, behind, same)) ∙ empty k behind

pub set_to : (vectors : List (Vec ℕ Global)) (place : ℕ) (old new : Vec ℕ Global) (piece : List ℕ) → place < length vectors → old ≡ get_or vectors place old
    → new.items ≡ old.items ++ piece → lists_of (set vectors place new) ≡ set (lists_of vectors) place (get_or (lists_of vectors) place [] ++ piece)
set_to vectors place old new piece inside old_is new_is =
    map-set (λ v. v.items) vectors place new
    ∙ ap (set (lists_of vectors) place)
    (new_is ∙ ap (λ items. items ++ piece) (ap (λ v. v.items) old_is ∙ sym (get_or-map (λ v. v.items) vectors place old [] inside)))

-- ---- by what an extension answered

module _ {E : Type 0} where
  pub extended : (result : Result (Unit {0}) E) (vectors : List (Vec ℕ Global)) (place : ℕ) (old new : Vec ℕ Global) (piece : List ℕ) → place < length vectors
      → old ≡ get_or vectors place old → new.items ≡ (if is_ok result then old.items ++ piece else old.items)
      → OnOk result (lists_of (set vectors place new) ≡ set (lists_of vectors) place (get_or (lists_of vectors) place [] ++ piece))
  extended (Ok done) vectors place old new piece inside old_is new_is = set_to vectors place old new piece inside old_is new_is
  extended (Err stop) vectors place old new piece inside old_is new_is = tt

  pub unextended : (result : Result (Unit {0}) E) (vectors : List (Vec ℕ Global)) (place : ℕ) (old new : Vec ℕ Global) (piece : List ℕ) → place < length vectors
      → old ≡ get_or vectors place old → new.items ≡ (if is_ok result then old.items ++ piece else old.items)
      → OnErr result (lists_of (set vectors place new) ≡ lists_of vectors)
  unextended (Ok done) vectors place old new piece inside old_is new_is = tt
  unextended (Err stop) vectors place old new piece inside old_is new_is =
      map-set_same (λ v. v.items) vectors place new old (new_is ∙ ap (λ v. v.items) old_is)

  pub empty_after : (result : Result (Unit {0}) E) (lists new : List (List ℕ)) (accepted : ℕ) (to : List ℕ) → OnOk result (new ≡ set lists accepted to) → OnErr result (new ≡ lists)
      → AreEmptyBehind accepted lists → AreEmptyBehind accepted new
  empty_after (Ok done) lists new accepted to is stays empty = subst (AreEmptyBehind accepted) (sym is) (behind_stays lists accepted to empty)
  empty_after (Err stop) lists new accepted to is stays empty = subst (AreEmptyBehind accepted) (sym stays) empty

  pub one_written : (result : Result (Unit {0}) E) (lists new : List (List ℕ)) (accepted : ℕ) (piece left : List ℕ) (coming : List (List ℕ)) → accepted < length lists
      → OnOk result (new ≡ set lists accepted (get_or lists accepted [] ++ piece))
      → OnOk result ((let v : ConnectionsView = record { left = left; written = get_or new accepted []; before = take accepted new; coming = coming } in v)
      ≡ record { left = left; written = get_or lists accepted [] ++ piece; before = take accepted lists; coming = coming })
  one_written (Ok done) lists new accepted piece left coming inside is =
      ap (λ out. let v : ConnectionsView = record { left = left; written = out; before = take accepted new; coming = coming } in v)
      (ap (λ l. get_or l accepted []) is ∙ get_or-set_same lists accepted (get_or lists accepted [] ++ piece) [] inside)
      ∙ ap (λ front. let v : ConnectionsView = record { left = left; written = get_or lists accepted [] ++ piece; before = front; coming = coming } in v)
      (ap (take accepted) is ∙ before_stays lists accepted (get_or lists accepted [] ++ piece))
  one_written (Err stop) lists new accepted piece left coming inside is = tt

  pub none_written : (result : Result (Unit {0}) E) (lists new : List (List ℕ)) (accepted : ℕ) (left : List ℕ) (coming : List (List ℕ)) → OnErr result (new ≡ lists)
      → OnErr result ((let v : ConnectionsView = record { left = left; written = get_or new accepted []; before = take accepted new; coming = coming } in v)
      ≡ record { left = left; written = get_or lists accepted []; before = take accepted lists; coming = coming })
  none_written (Ok done) lists new accepted left coming stays = tt
  none_written (Err stop) lists new accepted left coming stays =
      ap (λ l. let v : ConnectionsView = record { left = left; written = get_or l accepted []; before = take accepted l; coming = coming } in v) stays
