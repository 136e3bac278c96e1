-- Where a comment ends.
use Rattle.std.proofs.Common.{◌≡◌, ◌==◌, ℕ, ◌+◌, suc, Bool, true, false, cond, ◌&&◌, List, [], ◌∷◌, ◌++◌, length, Option, Some, None, refl, sym, ap, ◌∙◌, subst, codes, append_assoc, arith}
use Rattle.std.specs.List.{prefix_len, AllByRecursion}
use Rattle.std.proofs.lemmas.Bool.{eqb-true, true≢false}
use Rattle.std.proofs.lemmas.List.Elements.{recursion_from_All}
use Rattle.c_lexer.specs.declared.piece.Piece.TheVariants.{Passed}
use Rattle.c_lexer.specs.Bytes.{is_in_line}
use Rattle.c_lexer.specs.Lines.{comment_end}
use Rattle.c_lexer.specs.Pieces.{piece_at, comment_piece}
use Rattle.lexical_laws.specs.Comments.{HasClose, EndsLine, BlockCommentIsPassed, LineCommentIsPassed, OpenCommentIsFaulty}

-- `*/` ends at one of these bytes, behind the byte before them
abbrev pub closes : ℕ → List ℕ → Bool
closes before [] = false
closes before (b ∷ bs) = cond (before == 42 && b == 47) true (closes b bs)

abbrev pub closes_in : List ℕ → Bool
closes_in [] = false
closes_in (b ∷ bs) = closes b bs

-- ---- `*/` stands in bytes where they close

with_byte : (b : ℕ) (bs : List ℕ) → HasClose bs → HasClose (b ∷ bs)
with_byte b bs h = (b ∷ h.0, h.1, ap (λ (xs : List ℕ). b ∷ xs) h.2)

has_close : (b : ℕ) (bs : List ℕ) → closes b bs ≡ true → HasClose (b ∷ bs)
has_close b [] e = absurd (true≢false (sym e))
has_close b (c ∷ cs) e = here (b == 42) (c == 47) refl refl e (has_close c cs)
  where
    here : (x y : Bool) → (b == 42) ≡ x → (c == 47) ≡ y → cond (x && y) true (closes c cs) ≡ true → (closes c cs ≡ true → HasClose (c ∷ cs)) → HasClose (b ∷ c ∷ cs)
    here true true is_x is_y h later =
        ([], cs, ap (λ (n : ℕ). n ∷ c ∷ cs) (eqb-true b 42 is_x) ∙ ap (λ (n : ℕ). 42 ∷ n ∷ cs) (eqb-true c 47 is_y))
    here true false is_x is_y h later = with_byte b (c ∷ cs) (later h)
    here false y is_x is_y h later = with_byte b (c ∷ cs) (later h)

stays_true : (b c : Bool) → c ≡ true → cond b true c ≡ true
stays_true true c e = refl
stays_true false c e = e

seen_closed : (b : ℕ) (before after : List ℕ) → closes b (before ++ 42 ∷ 47 ∷ after) ≡ true
seen_closed b [] after = stays_true (b == 42 && 42 == 47) true refl
seen_closed b (x ∷ before) after = stays_true (b == 42 && x == 47) (closes x (before ++ 42 ∷ 47 ∷ after)) (seen_closed x before after)

-- a body without `*/` does not close, behind no `*`
pub not_closed : (body : List ℕ) → ¬ (HasClose body) → closes 0 body ≡ false
not_closed [] none = refl
not_closed (b ∷ bs) none = here (closes b bs) refl
  where
    here : (x : Bool) → closes b bs ≡ x → x ≡ false
    here true e = absurd (none (has_close b bs e))
    here false e = refl

pub no_close : (body : List ℕ) → closes 0 body ≡ false → ¬ (HasClose body)
no_close body e h = true≢false (sym (seen_closed 0 h.0 h.1) ∙ ap (λ (bs : List ℕ). closes 0 bs) (sym h.2) ∙ e)

-- ---- how far a comment goes

never_ends : (count before : ℕ) (body : List ℕ) → closes before body ≡ false → comment_end count before body ≡ None
never_ends count before [] e = refl
never_ends count before (b ∷ bs) e = here (before == 42 && b == 47) e (never_ends (count + 1) b bs)
  where
    here : (x : Bool) → cond x true (closes b bs) ≡ false → (closes b bs ≡ false → comment_end (count + 1) b bs ≡ None) → cond x (Some (count + 1)) (comment_end (count + 1) b bs) ≡ None
    here true h later = absurd (true≢false h)
    here false h later = later h

same_size : (a b : ℕ) → a ≡ b → Some a ≡ Some b
same_size a b e = ap (λ (n : ℕ). Some n) e

pub ends_at : (count before : ℕ) (body rest : List ℕ) → closes before body ≡ false
    → comment_end count before (body ++ 42 ∷ 47 ∷ rest) ≡ Some (count + (length body + 2))
ends_at count before [] rest e = here (before == 42)
  where
    here : (x : Bool) → cond (x && 42 == 47) (Some (count + 1)) (Some (count + 1 + 1)) ≡ Some (count + (0 + 2))
    here true = same_size (count + 1 + 1) (count + (0 + 2)) (omega arith)
    here false = same_size (count + 1 + 1) (count + (0 + 2)) (omega arith)
ends_at count before (b ∷ bs) rest e = here (before == 42 && b == 47) e (ends_at (count + 1) b bs rest)
  where
    here : (x : Bool) → cond x true (closes b bs) ≡ false
        → (closes b bs ≡ false → comment_end (count + 1) b (bs ++ 42 ∷ 47 ∷ rest) ≡ Some (count + 1 + (length bs + 2)))
        → cond x (Some (count + 1)) (comment_end (count + 1) b (bs ++ 42 ∷ 47 ∷ rest)) ≡ Some (count + (length (b ∷ bs) + 2))
    here true h later = absurd (true≢false h)
    here false h later = later h ∙ same_size (count + 1 + (length bs + 2)) (count + (length (b ∷ bs) + 2)) (omega arith)

-- ---- the first `*/`

-- bytes up to the first `*/` in them
pub record Closed (bytes : List ℕ) : Type 0 where
  pub body : List ℕ
  pub rest : List ℕ
  pub unclosed : closes_in body ≡ false
  pub whole : bytes ≡ body ++ 42 ∷ 47 ∷ rest

one_more : (b c : ℕ) (cs body rest : List ℕ) → (b == 42 && c == 47) ≡ false → closes_in body ≡ false → c ∷ cs ≡ body ++ 42 ∷ 47 ∷ rest → closes b body ≡ false
one_more b c cs [] rest differ unclosed whole = refl
one_more b c cs (x ∷ xs) rest differ unclosed whole =
    let first : c ≡ x = ap (λ (bs : List ℕ). first_or bs) whole in
    subst (λ (n : ℕ). cond (b == 42 && n == 47) true (closes x xs) ≡ false) first (rw differ unclosed)
  where
    first_or : List ℕ → ℕ
    first_or [] = 0
    first_or (n ∷ ns) = n

first_close : (b : ℕ) (bs : List ℕ) → closes b bs ≡ true → Closed (b ∷ bs)
first_close b [] e = absurd (true≢false (sym e))
first_close b (c ∷ cs) e = here (b == 42) (c == 47) refl refl e (first_close c cs)
  where
    further : (b == 42 && c == 47) ≡ false → Closed (c ∷ cs) → Closed (b ∷ c ∷ cs)
    further differ later =
        record {
          body = b ∷ later.body;
          rest = later.rest;
          unclosed = one_more b c cs later.body later.rest differ later.unclosed later.whole;
          whole = ap (λ (xs : List ℕ). b ∷ xs) later.whole;
        }

    here : (x y : Bool) → (b == 42) ≡ x → (c == 47) ≡ y → cond (x && y) true (closes c cs) ≡ true → (closes c cs ≡ true → Closed (c ∷ cs)) → Closed (b ∷ c ∷ cs)
    here true true is_x is_y h later =
        record {
          body = [];
          rest = cs;
          unclosed = refl;
          whole = ap (λ (n : ℕ). n ∷ c ∷ cs) (eqb-true b 42 is_x) ∙ ap (λ (n : ℕ). 42 ∷ n ∷ cs) (eqb-true c 47 is_y);
        }
    here true false is_x is_y h later = further (rw (is_x, is_y) refl) (later h)
    here false y is_x is_y h later = further (rw is_x refl) (later h)

-- what is passed over as a comment behind `/*` is one
pub record Comment (bs : List ℕ) (more : ℕ) : Type 0 where
  pub body : List ℕ
  pub rest : List ℕ
  pub unclosed : closes 0 body ≡ false
  pub whole : bs ≡ body ++ 42 ∷ 47 ∷ rest
  pub size : more ≡ length body + 2

comment_in : (bs : List ℕ) (more : ℕ) → Closed bs → comment_end 0 0 bs ≡ Some more → Comment bs more
comment_in bs more closed e =
    let unclosed : closes 0 closed.body ≡ false = still closed.body closed.unclosed in
    record {
      body = closed.body;
      rest = closed.rest;
      unclosed = unclosed;
      whole = closed.whole;
      size = some_same (length closed.body + 2) (sym e ∙ ap (λ (xs : List ℕ). comment_end 0 0 xs) closed.whole ∙ ends_at 0 0 closed.body closed.rest unclosed);
    }
  where
    still : (body : List ℕ) → closes_in body ≡ false → closes 0 body ≡ false
    still [] h = refl
    still (x ∷ xs) h = h

    inner : (m : ℕ) → Some more ≡ Some m → more ≡ m
    inner m h = cc

    some_same : (m : ℕ) → Some more ≡ Some (0 + m) → more ≡ m
    some_same m h = omega (arith, inner (0 + m) h)

pub comment_of : (bs : List ℕ) (more : ℕ) → comment_end 0 0 bs ≡ Some more → Comment bs more
comment_of [] more e = absurd_none e
  where
    absurd_none : None ≡ Some more → Comment [] more
    absurd_none h = cc
comment_of (b ∷ bs) more e = here (closes b bs) refl
  where
    none : comment_end 0 0 (b ∷ bs) ≡ None → Comment (b ∷ bs) more
    none h = absurd (both (sym h ∙ e))
      where
        both : None ≡ Some more → ⊥
        both same = cc

    here : (x : Bool) → closes b bs ≡ x → Comment (b ∷ bs) more
    here true h = comment_in (b ∷ bs) more (first_close b bs h) e
    here false h = none (never_ends 0 0 (b ∷ bs) h)

-- ---- the laws

pub block_passed : BlockCommentIsPassed
block_passed fresh comment rest is =
    let body = is.0 in
    let unclosed : closes 0 body ≡ false = not_closed body is.1 in
    let spelled : comment ++ rest ≡ 47 ∷ 42 ∷ (body ++ 42 ∷ 47 ∷ rest) =
    ap (λ (xs : List ℕ). xs ++ rest) is.2 ∙ ap (λ (xs : List ℕ). 47 ∷ 42 ∷ xs) (append_assoc body (42 ∷ 47 ∷ []) rest) in
    let long : length comment ≡ length body + 4 = ap (λ (xs : List ℕ). length xs) is.2 ∙ size body in
    let passed : piece_at fresh (47 ∷ 42 ∷ (body ++ 42 ∷ 47 ∷ rest)) ≡ Passed (length body + 4) =
    ap (λ (o : Option ℕ). comment_piece o) (ends_at 0 0 body rest unclosed) ∙ ap (λ (n : ℕ). Passed n) (sizes (length body)) in
    ap (λ (xs : List ℕ). piece_at fresh xs) spelled ∙ passed ∙ ap (λ (n : ℕ). Passed n) (sym long)
  where
    sizes : (n : ℕ) → 0 + (n + 2) + 2 ≡ n + 4
    sizes n = omega arith

    size : (body : List ℕ) → length (codes "/*" ++ body ++ codes "*/") ≡ length body + 4
    size body = omega (arith, behind body)
      where
        behind : (xs : List ℕ) → length (xs ++ 42 ∷ 47 ∷ []) ≡ length xs + 2
        behind [] = refl
        behind (x ∷ xs) = omega (arith, behind xs)

pub open_faulty : OpenCommentIsFaulty
open_faulty fresh body none = ap (λ (o : Option ℕ). comment_piece o) (never_ends 0 0 body (not_closed body none))

whole_line : (body rest : List ℕ) → AllByRecursion (λ b. is_in_line b ≡ true) body → EndsLine rest → prefix_len is_in_line (body ++ rest) ≡ length body
whole_line [] [] each ends = refl
whole_line [] (r ∷ rs) each ends = rw ends refl
whole_line (b ∷ bs) rest each ends = rw each.0 (omega (arith, whole_line bs rest each.1 ends))

pub line_passed : LineCommentIsPassed
line_passed fresh comment rest is ends =
    let body = is.0 in
    let rest_of : prefix_len is_in_line (body ++ rest) ≡ length body = whole_line body rest (recursion_from_All (λ b. is_in_line b ≡ true) body is.1) ends in
    let spelled : comment ++ rest ≡ 47 ∷ 47 ∷ (body ++ rest) = ap (λ (xs : List ℕ). xs ++ rest) is.2 in
    let long : length comment ≡ suc (1 + length body) = ap (λ (xs : List ℕ). length xs) is.2 ∙ sizes (length body) in
    let passed : piece_at fresh (47 ∷ 47 ∷ (body ++ rest)) ≡ Passed (suc (1 + length body)) = ap (λ (n : ℕ). Passed (suc (1 + n))) rest_of in
    ap (λ (xs : List ℕ). piece_at fresh xs) spelled ∙ passed ∙ ap (λ (n : ℕ). Passed n) (sym long)
  where
    sizes : (n : ℕ) → suc (suc n) ≡ suc (1 + n)
    sizes n = omega arith
