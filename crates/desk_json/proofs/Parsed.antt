-- What is read of a body.
use Rattle.std.proofs.Common.{◌≡◌, ◌<◌, ◌≤◌, ◌+◌, ℕ, suc, Bool, true, false, List, [], ◌∷◌, ◌++◌, length, map, drop, get_or, Option, Some, None, option_map, option_and_then, if◌then◌else◌, refl, sym, ap, ◌∙◌, append_assoc, arith}
use Rattle.std.proofs.lemmas.Grind.{common_steps}
use Rattle.std.proofs.lemmas.List.{append-nil}
use Rattle.std.proofs.lemmas.Bool.{cond-true}
use Rattle.std.proofs.lemmas.Str.{IsUtf8-from_is_utf8, is_utf8-from_IsUtf8}
use Rattle.std.specs.Str.{IsUtf8, is_utf8}
use Rattle.std.specs.Prelude.{String}
use Rattle.std.specs.declared.alloc.Global.{Global}
use Rattle.serde_json.specs.Data.{Data}
use Rattle.serde_json.specs.Read.{read}
use Rattle.serde_json.specs.Find.{as_str}
use Rattle.serde_json.specs.View.{items_view, members_view, view}
use Rattle.serde_json.specs.declared.value.Value.{Value}
use Rattle.desk_json.specs.Bodies.{count_of, json_of, texts_of}

pub value : (bytes : List ℕ) (d : Data) → IsUtf8 bytes → read bytes ≡ Some d → json_of bytes ≡ Some d
value bytes d text is = cond-true (is_utf8 bytes) (read bytes) None (is_utf8-from_IsUtf8 bytes text) ∙ is

no_text : (b : Bool) (d : Option Data) → (b ≡ true → d ≡ None) → (if b then d else None) ≡ None
no_text true d is = is refl
no_text false d is = refl

pub no_value : (bytes : List ℕ) → (IsUtf8 bytes → read bytes ≡ None) → json_of bytes ≡ None
no_value bytes is = no_text (is_utf8 bytes) (read bytes) (λ e. is (IsUtf8-from_is_utf8 bytes e))

pub counted : (members : List (String Global × Value)) → count_of (members_view members) ≡ length members
counted [] = refl
counted (m ∷ members) = ap suc (counted members)

-- the texts before, and those that follow
abbrev pub onto : List (List ℕ) → Option (List (List ℕ)) → Option (List (List ℕ))
onto before None = None
onto before (Some texts) = Some (before ++ texts)

pub onto_none : (rest : Option (List (List ℕ))) → rest ≡ onto [] rest
onto_none None = refl
onto_none (Some texts) = refl

pub onto_more : (before : List (List ℕ)) (text : List ℕ) (rest : Option (List (List ℕ))) → onto before (option_map (λ texts. text ∷ texts) rest) ≡ onto (before ++ text ∷ []) rest
onto_more before text None = refl
onto_more before text (Some texts) = ap Some (sym (append_assoc before (text ∷ []) texts))

split : {A : Type 0} (xs : List A) (i : ℕ) (d : A) → i < length xs → drop i xs ≡ get_or xs i d ∷ drop (i + 1) xs
split xs i d below = grind (arith, common_steps)

pub texts_next : (items : List Value) (i : ℕ) (d : Value) (text : List ℕ) (before names : List (List ℕ)) → texts_of (items_view items) ≡ onto before (texts_of (items_view (drop i items)))
    → i < length items → as_str (view (get_or items i d)) ≡ Some text → names ≡ before ++ text ∷ []
    → texts_of (items_view items) ≡ onto names (texts_of (items_view (drop (i + 1) items)))
texts_next items i d text before names so_far below is added =
    let rest = texts_of (items_view (drop (i + 1) items)) in
    so_far
    ∙ ap (λ l. onto before (texts_of (items_view l))) (split items i d below)
    ∙ ap (λ t. onto before (option_and_then (λ text. option_map (λ texts. text ∷ texts) rest) t)) is
    ∙ onto_more before text rest
    ∙ ap (λ l. onto l rest) (sym added)

pub texts_stop : (items : List Value) (i : ℕ) (d : Value) (before : List (List ℕ)) → texts_of (items_view items) ≡ onto before (texts_of (items_view (drop i items)))
    → i < length items → as_str (view (get_or items i d)) ≡ None → texts_of (items_view items) ≡ None
texts_stop items i d before so_far below is =
    let rest = texts_of (items_view (drop (i + 1) items)) in
    so_far
    ∙ ap (λ l. onto before (texts_of (items_view l))) (split items i d below)
    ∙ ap (λ t. onto before (option_and_then (λ text. option_map (λ texts. text ∷ texts) rest) t)) is

pub texts_end : (items : List Value) (i : ℕ) (names : List (List ℕ)) → texts_of (items_view items) ≡ onto names (texts_of (items_view (drop i items)))
    → length items ≤ i → texts_of (items_view items) ≡ Some names
texts_end items i names so_far all =
    let none : drop i items ≡ [] = grind (arith, common_steps, all) in
    so_far ∙ ap (λ l. onto names (texts_of (items_view l))) none ∙ ap Some (append-nil names)
