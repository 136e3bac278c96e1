-- What may fail: a value that has a property, or a cause.
use Rattle.std.proofs.Common.{◌≡◌, ◌⊎◌, inl, inr, refl, sym, subst, Bool, true, false, cond, Option, Some, None}
use Rattle.std.specs.Prelude.{option_map, option_and_then}

unfoldable pub Comes : {A : Type 0} → (A → Type 0) → Type 0 → Option A → Type 0
Comes P F None = F
Comes P F (Some a) = P a

pub self : {A : Type 0} (o : Option A) → Comes (λ (a : A). Unit {0}) (o ≡ None) o
unfolding Comes
self None = refl
self (Some a) = tt

pub weaker : {A : Type 0} (P Q : A → Type 0) (F G : Type 0) (o : Option A) → Comes P F o → ((a : A) → P a → Q a) → (F → G) → Comes Q G o
unfolding Comes
weaker P Q F G None c f g = g c
weaker P Q F G (Some a) c f g = f a c

pub mapped : {A B : Type 0} (P : A → Type 0) (Q : B → Type 0) (F : Type 0) (g : A → B) (o : Option A) → Comes P F o → ((a : A) → P a → Q (g a)) → Comes Q F (option_map g o)
unfolding Comes
mapped P Q F g None c f = c
mapped P Q F g (Some a) c f = f a c

pub then_ : {A B : Type 0} (P : A → Type 0) (Q : B → Type 0) (F G : Type 0) (g : A → Option B) (o : Option A) → Comes P F o → (F → G) → ((a : A) → o ≡ Some a → P a → Comes Q G (g a))
    → Comes Q G (option_and_then g o)
unfolding Comes
then_ P Q F G g None c f h = f c
then_ P Q F G g (Some a) c f h = h a refl c

pub if_ : {A : Type 0} (P : A → Type 0) (F : Type 0) (b : Bool) (x y : Option A) → (b ≡ true → Comes P F x) → (b ≡ false → Comes P F y) → Comes P F (cond b x y)
if_ P F true x y f g = f refl
if_ P F false x y f g = g refl

pub some : {A : Type 0} (P : A → Type 0) (F : Type 0) (a : A) → P a → Comes P F (Some a)
unfolding Comes
some P F a p = p

pub none : {A : Type 0} (P : A → Type 0) (F : Type 0) → F → Comes P F None
unfolding Comes
none P F f = f

-- what goes on from a value, and comes to nothing from none
pub onward : {A B : Type 0} (P : A → Type 0) (Q : B → Type 0) (F : Type 0) (G : Option A → Type 0) (run : Option A → Option B) (o : Option A) → run None ≡ None → Comes P F o
    → ((a : A) → P a → Comes Q (G (Some a)) (run (Some a))) → Comes Q (F ⊎ G o) (run o)
unfolding Comes
onward P Q F G run None e c h = subst (Comes Q (F ⊎ G None)) (sym e) (inl c)
onward P Q F G run (Some a) e c h = weaker Q Q (G (Some a)) (F ⊎ G (Some a)) (run (Some a)) (h a c) (λ b q. q) inr
