-- Reading a list of tokens from the front, step by step. Each step is told by a law, so that a proof goes along the text
-- of a reader.
use Rattle.std.proofs.Common.{◌≡◌, ◌∙◌, ℕ, Bool, true, false, cond, List, [], ◌∷◌, Option, None, Some, drop, refl, ap}
use Rattle.c_lexer.specs.declared.token.Token.{Token}
use Rattle.c_lexer.specs.Slices.{token_text}
use Rattle.c_tree.specs.declared.expression.Word.{Word}

-- what was read, and the tokens behind it
pub record Got (X : Type 0) : Type 0 where
  pub value : X
  pub rest : List Token

abbrev pub got : {X : Type 0} → X → List Token → Got X
got x rest = record { value = x; rest = rest }

-- the first token; behind the last one stands one of no class
pub first : List Token → Token
first [] = record { class = 65535; start = 0; length = 0; place = record { line = 0; column = 0 } }
first (t ∷ ts) = t

abbrev pub class_of : List Token → ℕ
class_of ts = (first ts).class

abbrev pub word_of : List ℕ → Token → Word
word_of text t = record { place = t.place; text = token_text text t }

-- one thing, and then another behind it
pub bind : {X Y : Type 0} → Got X → (X → List Token → Got Y) → Got Y
bind g f = f g.value g.rest

pub pass : {Y : Type 0} → List Token → (Token → List Token → Got Y) → Got Y
pass ts f = f (first ts) (drop 1 ts)

-- one or the other, as a test says
pub test : {Y : Type 0} → Bool → Got Y → Got Y → Got Y
test b x y = cond b x y

pub on_some : {A Y : Type 0} → Option A → (A → Got Y) → Got Y → Got Y
on_some None f y = y
on_some (Some a) f y = f a

-- what comes goes by a number
pub by : {Y : Type 0} → ℕ → (ℕ → Got Y) → Got Y
by k f = f k

pub class_is : {ts more : List Token} {t : Token} {k : ℕ} → ts ≡ t ∷ more → t.class ≡ k → class_of ts ≡ k
unfolding first
class_is e h = ap class_of e ∙ h

pub bound : {X Y : Type 0} {g : Got X} {x : X} {rest : List Token} {h : Got Y} (f : X → List Token → Got Y) → g ≡ got x rest → f x rest ≡ h → bind g f ≡ h
unfolding bind
bound f e k = ap (λ g. f g.value g.rest) e ∙ k

pub passed : {Y : Type 0} {ts more : List Token} {t : Token} {h : Got Y} (f : Token → List Token → Got Y) → ts ≡ t ∷ more → f t more ≡ h → pass ts f ≡ h
unfolding pass first
passed f e k = ap (λ ts. f (first ts) (drop 1 ts)) e ∙ k

pub holds : {Y : Type 0} {b : Bool} {x h : Got Y} (y : Got Y) → b ≡ true → x ≡ h → test b x y ≡ h
unfolding test
holds {x = x} y e k = ap (λ b. cond b x y) e ∙ k

pub fails : {Y : Type 0} {b : Bool} {y h : Got Y} (x : Got Y) → b ≡ false → y ≡ h → test b x y ≡ h
unfolding test
fails {y = y} x e k = ap (λ b. cond b x y) e ∙ k

pub found : {A Y : Type 0} {o : Option A} {a : A} {h : Got Y} (f : A → Got Y) (y : Got Y) → o ≡ Some a → f a ≡ h → on_some o f y ≡ h
unfolding on_some
found f y e k = ap (λ o. on_some o f y) e ∙ k

pub missing : {A Y : Type 0} {o : Option A} {y h : Got Y} (f : A → Got Y) → o ≡ None → y ≡ h → on_some o f y ≡ h
unfolding on_some
missing {y = y} f e k = ap (λ o. on_some o f y) e ∙ k

pub chosen : {Y : Type 0} {k n : ℕ} {h : Got Y} (f : ℕ → Got Y) → k ≡ n → f n ≡ h → by k f ≡ h
unfolding by
chosen f e k = ap f e ∙ k

pub class_nothing : class_of [] ≡ 65535
unfolding first
class_nothing = refl
