-- Steps of the reading of expressions that need no induction.
use Rattle.std.proofs.Common.{◌≡◌, ◌≢◌, ◌∙◌, ◌≤◌, ◌<◌, ◌+◌, ◌-◌, ◌==◌, ℕ, zero, suc, true, false, List, ◌∷◌, None, inl, inr, ◌⊎◌, refl, sym, ap, subst, arith}
use Rattle.std.proofs.lemmas.Bool.Decides.{eqb_tells}
use Rattle.c_lexer.specs.declared.token.Token.{Token}
use Rattle.c_tree.specs.Expressions
use Rattle.c_reader.specs.Grouping.{HasPostfix, row_of_first, chained}
use Rattle.tree_laws.proofs.Ends.{Ends, again, not_equal, weak_in}
use Rattle.tree_laws.proofs.Firsts.{level, level_most}
use Rattle.tree_laws.proofs.Beginnings.{strength, kind, row_with, unaries}
use Rattle.tree_laws.proofs.Reading.{Got, got, class_of, class_is, word_of, bound, passed, holds, fails, missing, chosen}
use Rattle.tree_laws.proofs.Readers as R
use Rattle.tree_laws.proofs.Readers.{Readers, with_postfixes, atom}

-- where nothing goes on, no operator does
pub no_operations_end : (text : List ℕ) (row : ℕ) (ts : List Token) → strength (class_of ts) ≤ row → Ends text (λ r. r.operations row ts) Expressions.no_operations ts
no_operations_end text row ts h =
    again text (λ r. r.operations row ts) Expressions.no_operations ts 0 (λ n le. fails _ (not_equal (strength (class_of ts)) (suc row) (λ e. omega (arith, h, e))) refl)

no_class : (k n c : ℕ) → strength k ≤ n → suc n ≤ strength c → (k == c) ≡ false
no_class k n c h g = not_equal k c (λ e. let same = ap strength e in omega (arith, h, g, same))

pub no_postfixes_end : (text : List ℕ) (ts : List Token) → strength (class_of ts) ≤ 12 → Ends text (λ r. r.postfixes ts) Expressions.no_postfixes ts
no_postfixes_end text ts h =
    again text (λ r. r.postfixes ts) Expressions.no_postfixes ts 0 (λ n le.
    fails _ (no_class (class_of ts) 12 35 h (omega arith)) (fails _ (no_class (class_of ts) 12 37 h (omega arith))
    (fails _ (no_class (class_of ts) 12 41 h (omega arith)) (fails _ (no_class (class_of ts) 12 42 h (omega arith)) refl))))

-- an expression is read at each row below its own
step_down : (text : List ℕ) (row : ℕ) (e : Expressions.ExpressionData) (ts rest : List Token) → suc row ≤ 11 → strength (class_of rest) ≤ row
    → Ends text (λ r. r.expression (suc row) ts) e rest → Ends text (λ r. r.expression row ts) e rest
step_down text zero e ts rest most behind h =
    again text (λ r. r.expression 0 ts) e rest h.enough (λ n le. holds _ refl (bound _ (h.reads n le) (fails _ (no_class (class_of rest) 0 65 behind (omega arith)) refl)))
step_down text (suc row) e ts rest most behind h =
    let none = no_operations_end text (suc row) rest behind in
    again text (λ r. r.expression (suc row) ts) e rest (h.enough + none.enough) (λ n le.
    fails _ (not_equal (suc row) 0 (λ e. omega (arith, e))) (fails _ (not_equal (suc row) 11 (λ e. omega (arith, e, most)))
    (bound _ (h.reads n (omega (arith, le))) (bound _ (none.reads n (omega (arith, le))) refl))))

down : (text : List ℕ) (steps row top : ℕ) (e : Expressions.ExpressionData) (ts rest : List Token) → row + steps ≡ top → top ≤ 11 → strength (class_of rest) ≤ row
    → Ends text (λ r. r.expression top ts) e rest → Ends text (λ r. r.expression row ts) e rest
down text zero row top e ts rest same most behind h = subst (λ (n : ℕ). Ends text (λ r. r.expression n ts) e rest) (let s : top ≡ row = omega (arith, same) in s) h
down text (suc steps) row top e ts rest same most behind h =
    step_down text row e ts rest (omega (arith, same, most)) behind (down text steps (suc row) top e ts rest (omega (arith, same)) most (omega (arith, behind)) h)

pub at_row : (text : List ℕ) (row : ℕ) (e : Expressions.ExpressionData) (ts rest : List Token) → row ≤ level e → strength (class_of rest) ≤ row
    → Ends text (λ r. r.expression (level e) ts) e rest → Ends text (λ r. r.expression row ts) e rest
at_row text row e ts rest below behind h =
    down text (level e - row) row (level e) e ts rest (omega (arith, below)) (level_most e) behind h

pub as_unary : (text : List ℕ) (e : Expressions.ExpressionData) (ts rest : List Token) → Ends text (λ r. R.unary text r ts) e rest → Ends text (λ r. r.expression 11 ts) e rest
as_unary text e ts rest h = again text (λ r. r.expression 11 ts) e rest h.enough (λ n le. fails _ refl (holds _ refl (h.reads n le)))

-- a word and what stands behind it
pub word_end : (text : List ℕ) (k : ℕ) (t : Token) (e : Expressions.ExpressionData) (ps : Expressions.Postfixes) (ts more rest : List Token) → ts ≡ t ∷ more → t.class ≡ k
    → row_with unaries k ≡ None → (k == 34) ≡ false → (k == 37) ≡ false → atom k (word_of text t) ≡ e → Ends text (λ r. r.postfixes more) ps rest
    → Ends text (λ r. R.unary text r ts) (with_postfixes e ps) rest
word_end text k t e ps ts more rest tokens class no_sign no_size no_bracket is h =
    record {
      enough = h.enough;
      reads = λ n le.
          missing _ (ap (row_with unaries) (class_is tokens class) ∙ no_sign)
          (fails _ (ap (λ c. c == 34) (class_is tokens class) ∙ no_size)
          (fails _ (ap (λ c. c == 37) (class_is tokens class) ∙ no_bracket)
          (passed _ tokens (bound _ (h.reads n le) (ap (λ c. got (with_postfixes (atom c (word_of text t)) ps) rest) class ∙ ap (λ e. got (with_postfixes e ps) rest) is)))));
    }

-- an expression in brackets and what stands behind it
pub bracket_end : (text : List ℕ) (t v : Token) (e : Expressions.ExpressionData) (ps : Expressions.Postfixes) (ts more between after rest : List Token) → ts ≡ t ∷ more → t.class ≡ 37
    → kind (class_of more) ≡ 1 → between ≡ v ∷ after → Ends text (λ r. r.expression 0 more) e between → Ends text (λ r. r.postfixes after) ps rest
    → Ends text (λ r. R.unary text r ts) (with_postfixes (Expressions.parenthesized e) ps) rest
bracket_end text t v e ps ts more between after rest tokens class begins closes inner h =
    record {
      enough = inner.enough + h.enough;
      reads = λ n le.
          missing _ (ap (row_with unaries) (class_is tokens class))
          (fails _ (ap (λ c. c == 34) (class_is tokens class))
          (holds _ (ap (λ c. c == 37) (class_is tokens class))
          (passed _ tokens (chosen _ begins (fails _ refl (bound _ (inner.reads n (omega (arith, le))) (passed _ closes (bound _ (h.reads n (omega (arith, le))) refl))))))));
    }

pub whole : (text : List ℕ) (f : Readers → Got Expressions.ExpressionData) (e : Expressions.ExpressionData) (ps : Expressions.Postfixes) (rest : List Token) → HasPostfix ps
    → Ends text f (with_postfixes e ps) rest → Ends text f (Expressions.postfix e ps) rest
whole text f e Expressions.no_postfixes rest has h = absurd has
whole text f e (Expressions.postfix_first p ps) rest has h = h

-- ---- moved to where a reading ends

pub to : {X : Type 0} (text : List ℕ) (f : Readers → Got X) (x : X) {ts us : List Token} → ts ≡ us → Ends text f x ts → Ends text f x us
to text f x e h = subst (λ (ts : List Token). Ends text f x ts) e h

pub none_behind : (text : List ℕ) {ts rest : List Token} → ts ≡ rest → strength (class_of rest) ≤ 12 → Ends text (λ r. r.postfixes ts) Expressions.no_postfixes rest
none_behind text {ts} {rest} e h = to text (λ r. r.postfixes ts) Expressions.no_postfixes e (no_postfixes_end text ts (weak_in 12 e h))

pub postfixes_from : (text : List ℕ) (ps : Expressions.Postfixes) {ts us rest : List Token} → ts ≡ us → Ends text (λ r. r.postfixes us) ps rest → Ends text (λ r. r.postfixes ts) ps rest
postfixes_from text ps {ts} {us} {rest} e h = subst (λ (ts : List Token). Ends text (λ r. r.postfixes ts) ps rest) (sym e) h

pub chained_is : (e : Expressions.ExpressionData) (os : Expressions.Operations) → 0 < row_of_first os → chained e os ≡ Expressions.binary e os
chained_is e Expressions.no_operations some = absurd (omega (arith, some))
chained_is e (Expressions.operation p o d os) some = refl

pub equal : (a b : ℕ) → a ≡ b → (a == b) ≡ true
equal a b e = here (eqb_tells a b)
  where
    here : (((a == b) ≡ true) × (a ≡ b)) ⊎ (((a == b) ≡ false) × (a ≢ b)) → (a == b) ≡ true
    here (inl h) = h.0
    here (inr h) = absurd (h.1 e)

pub both : {A B C : Type 0} (f : A → B → C) {a b : A} {c d : B} → a ≡ b → c ≡ d → f a c ≡ f b d
both f {a} {b} {c} {d} e h = ap (λ x. f x c) e ∙ ap (λ y. f b y) h

pub not_zero : (n : ℕ) → 0 < n → (n == 0) ≡ false
not_zero n some = not_equal n 0 (λ e. omega (arith, some, e))

pub not_most : (n : ℕ) → n ≤ 10 → (n == 11) ≡ false
not_most n most = not_equal n 11 (λ e. omega (arith, most, e))

pub all_three : {A B C D : Type 0} (f : A → B → C → D) {a b : A} {c d : B} {x y : C} → a ≡ b → c ≡ d → x ≡ y → f a c x ≡ f b d y
all_three f {a} {b} {c} {d} {x} {y} e h k = ap (λ z. f z c x) e ∙ ap (λ z. f b z x) h ∙ ap (λ z. f b d z) k

pub all_four : {A B C D F : Type 0} (f : A → B → C → D → F) {a b : A} {c d : B} {x y : C} {u v : D} → a ≡ b → c ≡ d → x ≡ y → u ≡ v → f a c x u ≡ f b d y v
all_four f {a} {b} {c} {d} {x} {y} {u} {v} e h k l = ap (λ z. f z c x u) e ∙ ap (λ z. f b z x u) h ∙ ap (λ z. f b d z u) k ∙ ap (λ z. f b d y z) l
