-- The steps of a derivation on a stack of parts.
use Rattle.std.proofs.Common.{◌≡◌, ◌∙◌, ◌<◌, ◌≤◌, ◌+◌, ◌-◌, length-append, ℕ, zero, suc, List, [], ◌∷◌, ◌++◌, map, length, take, drop, reverse, get_or, Some, slice_get, refl, sym, ap, subst, arith}
use Rattle.std.proofs.Math.Numerals.{add-one}
use Rattle.std.proofs.Math.Seq.{drop-cons, drop-length, take-append_seam, drop-append_seam}
use Rattle.std.proofs.lemmas.List.{length-drop, length-map, length-reverse, map-append, reverse-append, reverse-reverse, take-map, drop-map, take_more}
use Rattle.c_lexer.specs.declared.token.Token.{Token}
use Rattle.c_parts.specs.Kinds
use Rattle.c_parts.specs.PartData
use Rattle.c_parts.specs.PartViews.{part_view}
use Rattle.c_parts.specs.declared.part.Part.{Part}
use Rattle.c_parts.specs.Reading.{Fits, kind_of}
use Rattle.c_nodes.specs.declared.action.Action.{Action}
use Rattle.c_nodes.specs.Nodes.{kind, kinds}
use Rattle.c_nodes.proofs.NodeKinds.{node_kind}
use Rattle.ll_core.specs.declared.reductions.Event.{Event}
use Rattle.ll_core.specs.declared.reductions.Event.TheVariants.{Shift, Reduce}
use Rattle.ll_core.specs.Folds.{run_steps, size_in}
use Rattle.c_grammar.specs.declared.actions.TheConstants.{ACTIONS}
use Rattle.c_grammar.specs.declared.tables.TheConstants.{PRODUCTIONS}
use Rattle.c_grammar.specs.Trees.{IsReady, IsRun, Takes, leaf_of_token, leaves_of, made, node_of, stack_view}
use Rattle.c_grammar.proofs.TypedSteps.{taken_size}

pub map-reverse : {A B : Type 0} (f : A → B) (xs : List A) → map f (reverse xs) ≡ reverse (map f xs)
map-reverse f [] = refl
map-reverse f (x ∷ xs) =
    ap (map f) (reverse-append (x ∷ []) xs) ∙ map-append f (reverse xs) (x ∷ []) ∙ ap (λ ys. ys ++ f x ∷ []) (map-reverse f xs)
    ∙ sym (reverse-append (f x ∷ []) (map f xs))

-- ---- the parts that a production takes

fits_of : (ks : List Kinds.Kind) (parts : List PartData.PartData) → map kind_of parts ≡ ks → Fits ks parts
fits_of [] parts e = tt
fits_of (k ∷ ks) [] e = absurd (no_cons e)
  where
    no_cons : [] ≡ k ∷ ks → ⊥
    no_cons e = cc
fits_of (k ∷ ks) (p ∷ ps) e = (same_head e, fits_of ks ps (same_tail e))
  where
    same_head : kind_of p ∷ map kind_of ps ≡ k ∷ ks → kind_of p ≡ k
    same_head e = cc

    same_tail : kind_of p ∷ map kind_of ps ≡ k ∷ ks → map kind_of ps ≡ ks
    same_tail e = cc

pub record Ready (n : ℕ) (stack : List PartData.PartData) : Type 0 where
  pub action : Action
  pub found : slice_get ACTIONS n ≡ Some action
  pub enough : size_in PRODUCTIONS n ≤ length stack
  pub fits : Fits (kinds action) (reverse (take (size_in PRODUCTIONS n) stack))

kinds_taken : (n : ℕ) (stack : List PartData.PartData) (below : List Kinds.Kind) (action : Action) → Takes n (map kind_of stack) below action
    → map kind_of (take (size_in PRODUCTIONS n) stack) ≡ reverse (kinds action)
kinds_taken n stack below action t =
    let size : size_in PRODUCTIONS n ≡ length (reverse (kinds action)) = taken_size n action t.found ∙ sym (length-reverse (kinds action)) in
    sym (take-map kind_of (size_in PRODUCTIONS n) stack) ∙ ap (take (size_in PRODUCTIONS n)) t.top ∙ ap (λ k. take k (reverse (kinds action) ++ below)) size
    ∙ take-append_seam (reverse (kinds action)) below

kinds_left : (n : ℕ) (stack : List PartData.PartData) (below : List Kinds.Kind) (action : Action) → Takes n (map kind_of stack) below action
    → map kind_of (drop (size_in PRODUCTIONS n) stack) ≡ below
kinds_left n stack below action t =
    let size : size_in PRODUCTIONS n ≡ length (reverse (kinds action)) = taken_size n action t.found ∙ sym (length-reverse (kinds action)) in
    sym (drop-map kind_of (size_in PRODUCTIONS n) stack) ∙ ap (drop (size_in PRODUCTIONS n)) t.top ∙ ap (λ k. drop k (reverse (kinds action) ++ below)) size
    ∙ drop-append_seam (reverse (kinds action)) below

pub ready : (n : ℕ) (stack : List PartData.PartData) → IsReady n stack → Ready n stack
ready n stack r =
    let action = r.1 in
    let taken = kinds_taken n stack r.0 action r.2 in
    let size = taken_size n action r.2.found in
    let all : length (map kind_of stack) ≡ length stack = length-map stack kind_of in
    let top : length (map kind_of stack) ≡ length (reverse (kinds action) ++ r.0) = ap length r.2.top in
    let joined : length (reverse (kinds action) ++ r.0) ≡ length (reverse (kinds action)) + length r.0 = length-append (reverse (kinds action)) r.0 in
    let turned : length (reverse (kinds action)) ≡ length (kinds action) = length-reverse (kinds action) in
    record {
      action = action;
      found = r.2.found;
      enough = omega (arith, size, all, top, joined, turned);
      fits = fits_of (kinds action) (reverse (take (size_in PRODUCTIONS n) stack))
          (map-reverse kind_of (take (size_in PRODUCTIONS n) stack) ∙ ap reverse taken ∙ reverse-reverse (kinds action));
    }

-- ---- the loop over the steps

-- in the place of a token that there is not
pub no_token : Token
no_token = record { class = 0; start = 0; length = 0; place = record { line = 0; column = 0 } }

-- the steps that are left can be run, and leave what all of them do
pub record GoesOn (text : List ℕ) (tokens : List Token) (events : List Event) (i k : ℕ) (stack : List PartData.PartData) : Type 0 where
  pub in_range : k ≤ length tokens
  pub typed : IsRun (drop i events) (length (drop k tokens)) (map kind_of stack)
  pub same : run_steps node_of PRODUCTIONS (drop i events) stack (leaves_of text (drop k tokens)) ≡ run_steps node_of PRODUCTIONS events [] (leaves_of text tokens)

module _ (text : List ℕ) (tokens : List Token) (events : List Event) (i k : ℕ) (stack : List PartData.PartData) (event d : Event) (some : Token)
    (in_range : i < length events) (is : get_or events i d ≡ event) (before : GoesOn text tokens events i k stack) where
  next : drop i events ≡ event ∷ drop (suc i) events
  next = drop-cons events i d in_range ∙ ap (λ e. e ∷ drop (suc i) events) is

  typed_next : IsRun (event ∷ drop (suc i) events) (length (drop k tokens)) (map kind_of stack)
  typed_next = subst (λ es. IsRun es (length (drop k tokens)) (map kind_of stack)) next before.typed

  same_next : run_steps node_of PRODUCTIONS (event ∷ drop (suc i) events) stack (leaves_of text (drop k tokens)) ≡ run_steps node_of PRODUCTIONS events [] (leaves_of text tokens)
  same_next = ap (λ es. run_steps node_of PRODUCTIONS es stack (leaves_of text (drop k tokens))) (sym next) ∙ before.same

  pub shift_left : event ≡ Shift → k < length tokens
  shift_left e = at (length (drop k tokens)) refl (subst (λ v. IsRun (v ∷ drop (suc i) events) (length (drop k tokens)) (map kind_of stack)) e typed_next)
    where
      size : length (drop k tokens) ≡ length tokens - k
      size = length-drop k tokens

      at : (n : ℕ) → length (drop k tokens) ≡ n → IsRun (Shift ∷ drop (suc i) events) n (map kind_of stack) → k < length tokens
      at zero e r = absurd r
      at (suc n) e r = omega (arith, e, size)

  pub shifted : event ≡ Shift → (part : PartData.PartData) → part ≡ PartData.leaf (leaf_of_token text (get_or tokens k some))
      → GoesOn text tokens events (i + 1) (k + 1) (part ∷ stack)
  shifted e part made_of =
      let left = shift_left e in
      let rest : drop k tokens ≡ get_or tokens k some ∷ drop (suc k) tokens = drop-cons tokens k some left in
      subst (λ j. GoesOn text tokens events j (k + 1) (part ∷ stack)) (sym (add-one i))
      (subst (λ m. GoesOn text tokens events (suc i) m (part ∷ stack)) (sym (add-one k)) (record {
        in_range = omega (arith, left);
        typed = subst (λ p. IsRun (drop (suc i) events) (length (drop (suc k) tokens)) (kind_of p ∷ map kind_of stack)) (sym made_of)
            (subst (λ ts. IsRun (Shift ∷ drop (suc i) events) (length ts) (map kind_of stack)) rest
            (subst (λ v. IsRun (v ∷ drop (suc i) events) (length (drop k tokens)) (map kind_of stack)) e typed_next));
        same = ap (λ p. run_steps node_of PRODUCTIONS (drop (suc i) events) (p ∷ stack) (leaves_of text (drop (suc k) tokens))) made_of
            ∙ ap (λ ts. run_steps node_of PRODUCTIONS (Shift ∷ drop (suc i) events) stack (leaves_of text ts)) (sym rest)
            ∙ ap (λ v. run_steps node_of PRODUCTIONS (v ∷ drop (suc i) events) stack (leaves_of text (drop k tokens))) (sym e)
            ∙ same_next;
      }))

  typed_reduce : (n : ℕ) → event ≡ Reduce n → IsRun (Reduce n ∷ drop (suc i) events) (length (drop k tokens)) (map kind_of stack)
  typed_reduce n e = subst (λ v. IsRun (v ∷ drop (suc i) events) (length (drop k tokens)) (map kind_of stack)) e typed_next

  pub reduce_ready : (n : ℕ) → event ≡ Reduce n → IsReady n stack
  reduce_ready n e = let r = typed_reduce n e in (r.0, r.1, r.2)

  pub reduced_goes : (n : ℕ) → event ≡ Reduce n → (part : PartData.PartData) (below : List PartData.PartData)
      → part ≡ node_of n (reverse (take (size_in PRODUCTIONS n) stack)) → below ≡ drop (size_in PRODUCTIONS n) stack
      → GoesOn text tokens events (i + 1) k (part ∷ below)
  reduced_goes n e part below part_is below_is =
      let r = typed_reduce n e in
      let parts = reverse (take (size_in PRODUCTIONS n) stack) in
      let kind_is : kind_of part ≡ kind r.1 = ap kind_of (part_is ∙ ap (λ o. made o parts) r.2.found) ∙ node_kind r.1 parts in
      let kinds_are : map kind_of below ≡ r.0 = ap (map kind_of) below_is ∙ kinds_left n stack r.0 r.1 r.2 in
      subst (λ j. GoesOn text tokens events j k (part ∷ below)) (sym (add-one i)) (record {
        in_range = before.in_range;
        typed = subst (λ ks. IsRun (drop (suc i) events) (length (drop k tokens)) (kind_of part ∷ ks)) (sym kinds_are)
            (subst (λ kd. IsRun (drop (suc i) events) (length (drop k tokens)) (kd ∷ r.0)) (sym kind_is) r.3);
        same = ap (λ p. run_steps node_of PRODUCTIONS (drop (suc i) events) (p ∷ below) (leaves_of text (drop k tokens))) part_is
            ∙ ap (λ b. run_steps node_of PRODUCTIONS (drop (suc i) events) (node_of n parts ∷ b) (leaves_of text (drop k tokens))) below_is
            ∙ ap (λ v. run_steps node_of PRODUCTIONS (v ∷ drop (suc i) events) stack (leaves_of text (drop k tokens))) (sym e)
            ∙ same_next;
      })

-- ---- the parts of a stack, taken one by one

pub stack_push : (items : List Part) (part : Part) → stack_view (items ++ part ∷ []) ≡ part_view part ∷ stack_view items
stack_push items part = ap (map part_view) (reverse-append items (part ∷ []))

module _ (all : List PartData.PartData) (k : ℕ) (items : List Part) (rest_is : stack_view items ≡ drop k all) where
  size_left : length (drop k all) ≡ length all - k
  size_left = length-drop k all

  pub some_left : (size : ℕ) → items ≡ [] → k < size → size ≤ length all → ⊥
  some_left size none within enough =
      let left : length (drop k all) ≡ 0 = ap length (sym rest_is ∙ ap stack_view none) in
      let known = size_left in
      omega (arith, left, known, within, enough)

  module _ (init : List Part) (part : Part) (split : items ≡ init ++ part ∷ []) where
    popped : drop k all ≡ part_view part ∷ stack_view init
    popped = sym rest_is ∙ ap stack_view split ∙ stack_push init part

    within_all : k < length all
    within_all =
        let left : length (drop k all) ≡ suc (length (stack_view init)) = ap length popped in
        let known = size_left in
        omega (arith, left, known)

    both : get_or all k (part_view part) ∷ drop (suc k) all ≡ part_view part ∷ stack_view init
    both = sym (drop-cons all k (part_view part) within_all) ∙ popped

    pub init_is : stack_view init ≡ drop (k + 1) all
    init_is = sym (same_tail both) ∙ ap (λ j. drop j all) (sym (add-one k))
      where
        same_tail : {x y : PartData.PartData} {xs ys : List PartData.PartData} → x ∷ xs ≡ y ∷ ys → xs ≡ ys
        same_tail e = cc

    pub part_joins : (parts : List PartData.PartData) → parts ≡ reverse (take k all) → part_view part ∷ parts ≡ reverse (take (k + 1) all)
    part_joins parts e =
        let part_is : get_or all k (part_view part) ≡ part_view part = same_head both in
        ap (λ ps. part_view part ∷ ps) e
        ∙ sym (ap reverse (take_more all k (part_view part) within_all ∙ ap (λ p. take k all ++ p ∷ []) part_is) ∙ reverse-append (take k all) (part_view part ∷ []))
      where
        same_head : {x y : PartData.PartData} {xs ys : List PartData.PartData} → x ∷ xs ≡ y ∷ ys → x ≡ y
        same_head e = cc

-- the same of the stack as it is seen
pub pushed : (text : List ℕ) (tokens : List Token) (events : List Event) (i k m : ℕ) (items all : List Part) (part : Part) → m ≡ k → all ≡ items ++ part ∷ []
    → GoesOn text tokens events i k (part_view part ∷ stack_view items) → GoesOn text tokens events i m (stack_view all)
pushed text tokens events i k m items all part count joined goes =
    subst (λ (n : ℕ). GoesOn text tokens events i n (stack_view all)) (sym count)
    (subst (λ (ps : List PartData.PartData). GoesOn text tokens events i k ps) (sym (ap stack_view joined ∙ stack_push items part)) goes)

-- ---- what the steps leave

map-nil : {A B : Type 0} (f : A → B) (xs : List A) → map f xs ≡ [] → xs ≡ []
map-nil f [] e = refl
map-nil f (x ∷ xs) e = absurd (no_nil e)
  where
    no_nil : f x ∷ map f xs ≡ [] → ⊥
    no_nil e = cc

module _ (text : List ℕ) (tokens : List Token) (events : List Event) (i k : ℕ) (items : List Part) (at_end : i ≡ length events)
    (before : GoesOn text tokens events i k (stack_view items)) where
  none_left : drop i events ≡ []
  none_left = ap (λ j. drop j events) at_end ∙ drop-length events

  one_left : map kind_of (stack_view items) ≡ Kinds.externals ∷ []
  one_left = subst (λ es. IsRun es (length (drop k tokens)) (map kind_of (stack_view items))) none_left before.typed

  pub not_empty : items ≡ [] → ⊥
  not_empty e = no_cons (sym (ap (λ ps. map kind_of (stack_view ps)) e) ∙ one_left)
    where
      no_cons : [] ≡ Kinds.externals ∷ [] → ⊥
      no_cons e = cc

  module _ (init : List Part) (part : Part) (split : items ≡ init ++ part ∷ []) where
    seen : stack_view items ≡ part_view part ∷ stack_view init
    seen = ap stack_view split ∙ stack_push init part

    kinds_are : kind_of (part_view part) ∷ map kind_of (stack_view init) ≡ Kinds.externals ∷ []
    kinds_are = ap (map kind_of) (sym seen) ∙ one_left

    pub last_kind : kind_of (part_view part) ≡ Kinds.externals
    last_kind = same_head kinds_are
      where
        same_head : {x y : Kinds.Kind} {xs ys : List Kinds.Kind} → x ∷ xs ≡ y ∷ ys → x ≡ y
        same_head e = cc

    pub last_part : part_view part ∷ [] ≡ run_steps node_of PRODUCTIONS events [] (leaves_of text tokens)
    last_part =
        let nothing : stack_view init ≡ [] = map-nil kind_of (stack_view init) (same_tail kinds_are) in
        ap (λ ps. part_view part ∷ ps) (sym nothing) ∙ sym seen
        ∙ ap (λ es. run_steps node_of PRODUCTIONS es (stack_view items) (leaves_of text (drop k tokens))) (sym none_left) ∙ before.same
      where
        same_tail : {x y : Kinds.Kind} {xs ys : List Kinds.Kind} → x ∷ xs ≡ y ∷ ys → xs ≡ ys
        same_tail e = cc
