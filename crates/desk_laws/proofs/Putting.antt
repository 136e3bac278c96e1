-- What is found, and what holds of all rows, where a row is put.
use Rattle.std.proofs.Common.{◌≡◌, ℕ, Bool, true, false, ◌&&◌, cond, List, [], ◌∷◌, Option, Some, refl, sym, ap, subst, ◌||◌}
use Rattle.std.specs.Prelude.{filter}
use Rattle.std.specs.List.{find, list_all}
use Rattle.std.specs.Str.{bytes_eq}
use Rattle.std.proofs.lemmas.Slice.Eq.{bytes_eq-Decides}
use Rattle.desk_tables.specs.Tables.{put}

-- ---- names

pub same_name : (a b : List ℕ) → bytes_eq a b ≡ true → a ≡ b
same_name a b e = (bytes_eq-Decides a b).0 e

pub itself : (a : List ℕ) → bytes_eq a a ≡ true
itself a = (bytes_eq-Decides a a).1 refl

pub apart : (name other : List ℕ) → bytes_eq name other ≡ false → (r : List ℕ) → bytes_eq r name ≡ true → bytes_eq r other ≡ false
apart name other differs r e = subst (λ x. bytes_eq x other ≡ false) (sym (same_name r name e)) differs

-- ---- what is found

found_step : {R : Type 0} (p : R → Bool) (row r : R) (rows rest : List R) (b : Bool) → p r ≡ b → p row ≡ true
    → find p rest ≡ Some row → find p (cond b (row ∷ rows) (r ∷ rest)) ≡ Some row
found_step p row r rows rest true e own later = rw own refl
found_step p row r rows rest false e own later = rw e later

pub found_put : {R : Type 0} (p : R → Bool) (row : R) → p row ≡ true → (rows : List R) → find p (put p row rows) ≡ Some row
found_put p row own [] = rw own refl
found_put p row own (r ∷ rows) = found_step p row r rows (put p row rows) (p r) refl own (found_put p row own rows)

other_step : {R : Type 0} (p q : R → Bool) (row r : R) (rows rest : List R) (b : Bool) → p r ≡ b → q row ≡ false
    → ((r : R) → p r ≡ true → q r ≡ false) → find q rest ≡ find q rows → find q (cond b (row ∷ rows) (r ∷ rest)) ≡ find q (r ∷ rows)
other_step p q row r rows rest true e fails away later = let gone : q r ≡ false = away r e in rw (fails, gone) refl
other_step p q row r rows rest false e fails away later = ap (cond (q r) (Some r)) later

-- a row that another test finds stays
pub other_put : {R : Type 0} (p q : R → Bool) (row : R) → q row ≡ false → ((r : R) → p r ≡ true → q r ≡ false)
    → (rows : List R) → find q (put p row rows) ≡ find q rows
other_put p q row fails away [] = rw fails refl
other_put p q row fails away (r ∷ rows) = other_step p q row r rows (put p row rows) (p r) refl fails away (other_put p q row fails away rows)

passes_step : {R : Type 0} (p : R → Bool) (r x : R) (rest : Option R) (b : Bool) → p r ≡ b → (rest ≡ Some x → p x ≡ true)
    → cond b (Some r) rest ≡ Some x → p x ≡ true
passes_step p r x rest true e later f = let same : r ≡ x = cc in subst (λ y. p y ≡ true) same e
passes_step p r x rest false e later f = later f

-- what is found passes
pub passes : {R : Type 0} (p : R → Bool) (rows : List R) (x : R) → find p rows ≡ Some x → p x ≡ true
passes p [] x f = cc
passes p (r ∷ rows) x f = passes_step p r x (find p rows) (p r) refl (passes p rows x) f

both_step : {R : Type 0} (p q : R → Bool) (r : R) (rows rest : List R) (b : Bool) → p r ≡ b → find (λ x. p x && q x) rows ≡ find q rest
    → cond (b && q r) (Some r) (find (λ x. p x && q x) rows) ≡ find q (cond b (r ∷ rest) rest)
both_step p q r rows rest true e later = ap (cond (q r) (Some r)) later
both_step p q r rows rest false e later = later

pub find_both : {R : Type 0} (p q : R → Bool) (rows : List R) → find (λ x. p x && q x) rows ≡ find q (filter p rows)
find_both p q [] = refl
find_both p q (r ∷ rows) = both_step p q r rows (filter p rows) (p r) refl (find_both p q rows)

-- ---- what holds of all rows

pub and_left : (a b : Bool) → (a && b) ≡ true → a ≡ true
and_left true b e = refl
and_left false b e = e

pub and_right : (a b : Bool) → (a && b) ≡ true → b ≡ true
and_right true b e = e
and_right false b e = cc

pub and_both : (a b : Bool) → a ≡ true → b ≡ true → (a && b) ≡ true
and_both true b e f = f
and_both false b e f = e

pub or_right : (a b : Bool) → b ≡ true → (a || b) ≡ true
or_right true b e = refl
or_right false b e = e

-- two tests that all rows pass give a third
pub all_two : {R : Type 0} (p r q : R → Bool) → ((x : R) → p x ≡ true → r x ≡ true → q x ≡ true) → (xs : List R)
    → list_all p xs ≡ true → list_all r xs ≡ true → list_all q xs ≡ true
all_two p r q gives [] e f = refl
all_two p r q gives (x ∷ xs) e f =
    and_both (q x) (list_all q xs) (gives x (and_left (p x) (list_all p xs) e) (and_left (r x) (list_all r xs) f))
    (all_two p r q gives xs (and_right (p x) (list_all p xs) e) (and_right (r x) (list_all r xs) f))

pub all_more : {R : Type 0} (p q : R → Bool) → ((x : R) → p x ≡ true → q x ≡ true) → (xs : List R)
    → list_all p xs ≡ true → list_all q xs ≡ true
all_more p q gives xs e = all_two p p q (λ x a b. gives x a) xs e e

all_step : {R : Type 0} (q : R → Bool) (row r : R) (rows rest : List R) (b : Bool) → q row ≡ true
    → list_all q (r ∷ rows) ≡ true → list_all q rest ≡ true → list_all q (cond b (row ∷ rows) (r ∷ rest)) ≡ true
all_step q row r rows rest true own h later = and_both (q row) (list_all q rows) own (and_right (q r) (list_all q rows) h)
all_step q row r rows rest false own h later = and_both (q r) (list_all q rest) (and_left (q r) (list_all q rows) h) later

pub all_put : {R : Type 0} (q p : R → Bool) (row : R) → q row ≡ true → (rows : List R) → list_all q rows ≡ true → list_all q (put p row rows) ≡ true
all_put q p row own [] h = rw own refl
all_put q p row own (r ∷ rows) h =
    all_step q row r rows (put p row rows) (p r) own h (all_put q p row own rows (and_right (q r) (list_all q rows) h))
