-- Each production makes of parts of the right kinds a part of the right kind, so the steps of a derivation can be run.
use Rattle.std.proofs.Common.{◌≡◌, ◌∙◌, ◌==◌, ◌||◌, ◌<◌, get_or, ℕ, ◌+◌, suc, Bool, true, false, cond, true≢false, List, [], ◌∷◌, ◌++◌, map, length, reverse, Option, Some, None, slice_get, refl, sym, ap, subst, arith, append_assoc, append-nil, length-append}
use Rattle.std.specs.Option.{option_map}
use Rattle.std.specs.List.{list_any}
use Rattle.std.proofs.lemmas.Option.{slice_get-get_or, slice_get-map, none-some, same_Some}
use Rattle.ll_core.specs.declared.production.Production.{Production}
use Rattle.ll_core.specs.declared.reductions.Event.{Event}
use Rattle.ll_core.specs.declared.reductions.Event.TheVariants.{Shift, Reduce}
use Rattle.ll_core.specs.Folds.{size_in}
use Rattle.ll_core.specs.Postorder.{postorder}
use Rattle.ll_core.specs.Trees.{Forest, Empty, Leaf, Node, IsForest, is_left, leaves, right_of}
use Rattle.ll_core.proofs.Folding.{turned}
use Rattle.c_parts.specs.Kinds
use Rattle.c_nodes.specs.declared.action.Action.{Action}
use Rattle.c_nodes.specs.Nodes.{kind, kinds}
use Rattle.c_grammar.specs.declared.actions.TheConstants.{ACTIONS}
use Rattle.c_grammar.specs.declared.tables.TheConstants.{PRODUCTIONS}
use Rattle.c_grammar.specs.Trees.{IsRun}

-- the kind of a symbol: that of what its first production makes, and of a token where it has none
kind_in : List Production → List Action → ℕ → Kinds.Kind
kind_in [] actions x = Kinds.leaf
kind_in (p ∷ ps) [] x = Kinds.leaf
kind_in (p ∷ ps) (a ∷ more) x = cond (p.left == x) (kind a) (kind_in ps more x)

pub symbol_kind : ℕ → Kinds.Kind
symbol_kind x = kind_in PRODUCTIONS ACTIONS x

right_kinds : Production → List Kinds.Kind
right_kinds p = map symbol_kind (right_of p)

left_kind : Production → Kinds.Kind
left_kind p = symbol_kind p.left

rights : map kinds ACTIONS ≡ map right_kinds PRODUCTIONS
unfolding right_kinds symbol_kind kind_in
rights = refl

lefts : map kind ACTIONS ≡ map left_kind PRODUCTIONS
unfolding left_kind symbol_kind kind_in
lefts = refl

sizes : map (λ p. length (right_of p)) PRODUCTIONS ≡ map (λ p. p.length) PRODUCTIONS
sizes = refl

start_kind : symbol_kind 100 ≡ Kinds.externals
unfolding symbol_kind kind_in
start_kind = refl

token_kind_in : (ps : List Production) (actions : List Action) (x : ℕ) → list_any (λ p. p.left == x) ps ≡ false → kind_in ps actions x ≡ Kinds.leaf
unfolding kind_in
token_kind_in [] actions x e = refl
token_kind_in (p ∷ ps) [] x e = refl
token_kind_in (p ∷ ps) (a ∷ more) x e = here (p.left == x) e (token_kind_in ps more x)
  where
    here : (b : Bool) → (b || list_any (λ q. q.left == x) ps) ≡ false → (list_any (λ q. q.left == x) ps ≡ false → kind_in ps more x ≡ Kinds.leaf)
        → cond b (kind a) (kind_in ps more x) ≡ Kinds.leaf
    here true e later = absurd (true≢false e)
    here false e later = later e

token_kind : (x : ℕ) → is_left PRODUCTIONS x ≡ false → symbol_kind x ≡ Kinds.leaf
unfolding symbol_kind
token_kind x e = token_kind_in PRODUCTIONS ACTIONS x e

-- where two lists agree, what stands at a place of one has its fellow at that place of the other
fellow : {A P K : Type 0} (f : A → K) (g : P → K) (xs : List A) (ps : List P) (n : ℕ) (p : P) → map f xs ≡ map g ps → slice_get ps n ≡ Some p
    → (a : A) × (slice_get xs n ≡ Some a) × (f a ≡ g p)
fellow {A} {P} {K} f g xs ps n p same found = at (slice_get xs n) refl
  where
    both : option_map f (slice_get xs n) ≡ Some (g p)
    both = sym (slice_get-map f xs n) ∙ ap (λ l. slice_get l n) same ∙ slice_get-map g ps n ∙ ap (option_map g) found

    at : (o : Option A) → slice_get xs n ≡ o → (a : A) × (slice_get xs n ≡ Some a) × (f a ≡ g p)
    at None e = absurd (none-some (g p) (sym (ap (option_map f) e) ∙ both))
    at (Some a) e = (a, e, same_Some (f a) (g p) (sym (ap (option_map f) e) ∙ both))

record Typed (n : ℕ) (p : Production) : Type 0 where
  action : Action
  found : slice_get ACTIONS n ≡ Some action
  right : kinds action ≡ right_kinds p
  left : kind action ≡ left_kind p

typed : (n : ℕ) (p : Production) → slice_get PRODUCTIONS n ≡ Some p → Typed n p
typed n p found =
    let right = fellow kinds right_kinds ACTIONS PRODUCTIONS n p rights found in
    let left = fellow kind left_kind ACTIONS PRODUCTIONS n p lefts found in
    let same : left.0 ≡ right.0 = same_Some left.0 right.0 (sym left.1 ∙ right.1) in
    record { action = right.0; found = right.1; right = right.2; left = ap kind (sym same) ∙ left.2 }

-- the steps of trees of these symbols can be run, and leave a part of each symbol's kind
pub runs : (xs : List ℕ) (f : Forest) (es : List Event) (left : ℕ) (stack : List Kinds.Kind) → IsForest PRODUCTIONS xs f
    → IsRun es left (reverse (map symbol_kind xs) ++ stack) → IsRun (postorder f ++ es) (length (leaves f) + left) stack
unfolding right_kinds left_kind
runs [] Empty es left stack d r =
    let count : length (leaves Empty) + left ≡ left = omega arith in
    subst (λ (k : ℕ). IsRun es k stack) (sym count) r
runs [] (Leaf t o) es left stack d r = absurd d
runs [] (Node n c o) es left stack d r = absurd d
runs (x ∷ xs) Empty es left stack d r = absurd d
runs (x ∷ xs) (Leaf t o) es left stack d r =
    let count : length (t ∷ leaves o) + left ≡ suc (length (leaves o) + left) = omega arith in
    let below : reverse (symbol_kind x ∷ map symbol_kind xs) ++ stack ≡ reverse (map symbol_kind xs) ++ Kinds.leaf ∷ stack =
    sym (turned (map symbol_kind xs) (symbol_kind x) stack) ∙ ap (λ k. reverse (map symbol_kind xs) ++ k ∷ stack) (token_kind x d.1.0) in
    subst (λ (k : ℕ). IsRun (Shift ∷ postorder o ++ es) k stack) (sym count)
    (runs xs o es left (Kinds.leaf ∷ stack) d.2 (subst (λ (st : List Kinds.Kind). IsRun es left st) below r))
runs (x ∷ xs) (Node n c o) es left stack d r =
    let t = typed n d.0 d.1 in
    let all : length (leaves c ++ leaves o) ≡ length (leaves c) + length (leaves o) = length-append (leaves c) (leaves o) in
    let count : length (leaves c ++ leaves o) + left ≡ length (leaves c) + (length (leaves o) + left) = omega (arith, all) in
    let below : reverse (symbol_kind x ∷ map symbol_kind xs) ++ stack ≡ reverse (map symbol_kind xs) ++ kind t.action ∷ stack =
    sym (turned (map symbol_kind xs) (symbol_kind x) stack)
    ∙ ap (λ k. reverse (map symbol_kind xs) ++ k ∷ stack) (sym (t.left ∙ ap symbol_kind d.2)) in
    let outer : IsRun (postorder o ++ es) (length (leaves o) + left) (kind t.action ∷ stack) =
    runs xs o es left (kind t.action ∷ stack) d.4 (subst (λ (st : List Kinds.Kind). IsRun es left st) below r) in
    let ready : IsRun (Reduce n ∷ postorder o ++ es) (length (leaves o) + left) (reverse (map symbol_kind (right_of d.0)) ++ stack) =
    (stack, t.action, record { found = t.found; top = ap (λ ks. reverse ks ++ stack) (sym t.right) }, outer) in
    subst (λ (k : ℕ). IsRun ((postorder c ++ Reduce n ∷ postorder o) ++ es) k stack) (sym count)
    (subst (λ (events : List Event). IsRun events (length (leaves c) + (length (leaves o) + left)) stack) (sym (append_assoc (postorder c) (Reduce n ∷ postorder o) es))
    (runs (right_of d.0) c (Reduce n ∷ postorder o ++ es) (length (leaves o) + left) stack d.3 ready))

-- those of a whole derivation leave external declarations
pub runs_whole : (f : Forest) → IsForest PRODUCTIONS (100 ∷ []) f → IsRun (postorder f) (length (leaves f)) []
runs_whole f d =
    let count : length (leaves f) + 0 ≡ length (leaves f) = omega arith in
    subst (λ (events : List Event). IsRun events (length (leaves f)) []) (append-nil (postorder f))
    (subst (λ (k : ℕ). IsRun (postorder f ++ []) k []) count (runs (100 ∷ []) f [] 0 [] d (ap (λ k. k ∷ []) start_kind)))

size_of : (n : ℕ) (p : Production) → slice_get PRODUCTIONS n ≡ Some p → size_in PRODUCTIONS n ≡ length (right_of p)
size_of n p found = rw found refl

length-kinds : (xs : List ℕ) → length (map symbol_kind xs) ≡ length xs
length-kinds [] = refl
length-kinds (x ∷ xs) = ap suc (length-kinds xs)

-- the parts that a production takes are as many as its right side has symbols
pub taken_size : (n : ℕ) (action : Action) → slice_get ACTIONS n ≡ Some action → size_in PRODUCTIONS n ≡ length (kinds action)
unfolding right_kinds
taken_size n action found =
    let t = fellow right_kinds kinds PRODUCTIONS ACTIONS n action (sym rights) found in
    size_of n t.0 t.1 ∙ sym (length-kinds (right_of t.0)) ∙ ap length t.2

pub size_at : (n : ℕ) (d : Production) → n < 234 → size_in PRODUCTIONS n ≡ (get_or PRODUCTIONS n d).length
size_at n d lt =
    let f = fellow (λ p. length (right_of p)) (λ p. p.length) PRODUCTIONS PRODUCTIONS n (get_or PRODUCTIONS n d) sizes (slice_get-get_or PRODUCTIONS n d lt) in
    size_of n f.0 f.1 ∙ f.2
