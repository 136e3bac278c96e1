-- The classes of the words of a text of the form.
use Rattle.std.proofs.Common.{◌≡◌, ◌<◌, ℕ, suc, zero, Bool, true, false, cond, not, ◌&&◌, ◌||◌, List, [], ◌∷◌, ◌++◌, map, flat_map, get_or, length, codes, Option, Some, None, is_some, append_assoc, refl, sym, ap, ◌∙◌, subst}
use Rattle.std.specs.List.{list_any}
use Rattle.std.specs.Str.{bytes_eq}
use Rattle.std.proofs.lemmas.Bool.{true≢false}
use Rattle.std.proofs.lemmas.List.{map-append}
use Rattle.std.proofs.lemmas.List.Folds.{list_any-append}
use Rattle.std.proofs.lemmas.Slice.Eq.{bytes_eq-Decides}
use Rattle.misra_base.specs.Keys.{number_in}
use Rattle.c_lexer.specs.declared.piece.LexemeKind.{LexemeKind}
use Rattle.c_lexer.specs.declared.piece.LexemeKind.TheVariants.{Word}
use Rattle.c_lexer.specs.declared.token_class.TokenClass.{TokenClass}
use Rattle.c_lexer.specs.declared.token_class.TokenClass.TheVariants.{Identifier}
use Rattle.c_lexer.specs.Bytes.{is_letter}
use Rattle.c_lexer.specs.Identifiers.{is_reserved, is_word, is_identifier}
use Rattle.c_lexer.specs.TokenClasses.{class_rows, number_rows, class_in, class_of, class_number}
use Rattle.lexical_laws.specs.Classes.{kind_at, class_at, class_of_word}
use Rattle.analysis.specs.declared.program.Operation.{Operation}
use Rattle.analysis.specs.declared.program.Operation.TheVariants.{Init, Lock, Unlock}
use Rattle.analysis.specs.declared.program.Call.{Call}
use Rattle.analysis.specs.Form.{Program, declaration, called_name, last_arguments, call_words, opening_words, closing_words, words_of, AreDeclarable, CallDeclared, IsOfForm}
use Rattle.analysis.proofs.Advance.{identifier_at}
use Rattle.analysis.proofs.FormTrees.{declaration_classes, call_classes, items_classes, externals_classes}

both_true : (a b : Bool) → (a && b) ≡ true → (a ≡ true) × (b ≡ true)
both_true true b e = (refl, e)
both_true false b e = absurd (true≢false (sym e))

not_true : (a : Bool) → not a ≡ true → a ≡ false
not_true true e = sym e
not_true false e = refl

-- ---- names

unlisted : (rows : List (List ℕ × TokenClass)) (word : List ℕ) → is_some (number_in (map (λ (row : List ℕ × TokenClass). (row.0, class_number row.1)) rows) word) ≡ false
    → class_in rows word ≡ Identifier
unlisted [] word e = refl
unlisted (r ∷ rs) word e = here (bytes_eq r.0 word) e (unlisted rs word)
  where
    here : (b : Bool) → is_some (cond b (Some (class_number r.1)) (number_in (map (λ (row : List ℕ × TokenClass). (row.0, class_number row.1)) rs) word)) ≡ false
        → (is_some (number_in (map (λ (row : List ℕ × TokenClass). (row.0, class_number row.1)) rs) word) ≡ false → class_in rs word ≡ Identifier)
        → cond b r.1 (class_in rs word) ≡ Identifier
    here true h later = absurd (true≢false h)
    here false h later = later h

not_reserved : (word : List ℕ) → is_reserved word ≡ false → class_of word ≡ Identifier
unfolding is_reserved class_of number_rows
not_reserved word e = unlisted class_rows word e

word_kind : (word : List ℕ) → is_word word ≡ true → kind_at word ≡ Some Word
word_kind [] e = absurd (true≢false (sym e))
word_kind (b ∷ bs) e = rw (both_true (is_letter b) _ e).0 refl

name_class : (name : List ℕ) → is_identifier name ≡ true → class_of_word name ≡ 0
name_class name e =
    let first = both_true (is_word name) _ e in
    let second = both_true (not (is_reserved name)) _ first.1 in
    ap (λ (kind : Option LexemeKind). class_number (class_at kind name)) (word_kind name first.0)
    ∙ ap (λ (class : TokenClass). class_number class) (not_reserved name (not_true (is_reserved name) second.0))

typedef_is_none : is_identifier (codes "typedef") ≡ false
unfolding is_reserved number_rows class_rows
typedef_is_none = refl

no_typedef : (name : List ℕ) → is_identifier name ≡ true → bytes_eq (codes "typedef") name ≡ false
no_typedef name e = here (bytes_eq (codes "typedef") name) refl
  where
    here : (b : Bool) → bytes_eq (codes "typedef") name ≡ b → b ≡ false
    here true is = absurd (true≢false (sym e ∙ ap (λ (w : List ℕ). is_identifier w) (sym ((bytes_eq-Decides (codes "typedef") name).0 is)) ∙ typedef_is_none))
    here false is = refl

-- ---- words with their classes, none of them `typedef`

pub record Known (words : List (List ℕ)) (classes : List ℕ) : Type 0 where
  pub classes_are : map class_of_word words ≡ classes
  pub no_typedef : list_any (bytes_eq (codes "typedef")) words ≡ false

known_and : (ws vs : List (List ℕ)) (cs ds : List ℕ) → Known ws cs → Known vs ds → Known (ws ++ vs) (cs ++ ds)
known_and ws vs cs ds h k =
    record {
      classes_are = map-append class_of_word ws vs ∙ ap (λ (ns : List ℕ). ns ++ map class_of_word vs) h.classes_are ∙ ap (λ (ns : List ℕ). cs ++ ns) k.classes_are;
      no_typedef = list_any-append (bytes_eq (codes "typedef")) ws vs ∙ ap (λ (b : Bool). b || list_any (bytes_eq (codes "typedef")) vs) h.no_typedef ∙ k.no_typedef;
    }

known_as : (ws vs : List (List ℕ)) (cs : List ℕ) → ws ≡ vs → Known vs cs → Known ws cs
known_as ws vs cs e h = subst (λ (us : List (List ℕ)). Known us cs) (sym e) h

declaration_known : (name : List ℕ) → is_identifier name ≡ true → Known (declaration name) declaration_classes
unfolding class_of class_rows
declaration_known name e =
    record {
      classes_are = ap (λ (n : ℕ). 5 ∷ 2 ∷ n ∷ 67 ∷ []) (name_class name e);
      no_typedef = ap (λ (b : Bool). b || false) (no_typedef name e);
    }

abbrev called_words : Operation → List ℕ → List (List ℕ)
called_words operation name =
    codes "(" ∷ codes "void" ∷ codes ")" ∷ called_name operation ∷ codes "(" ∷ codes "&" ∷ name ∷ []
    ++ last_arguments operation ++ codes ";" ∷ []

called_known : (operation : Operation) (name : List ℕ) → is_identifier name ≡ true → Known (called_words operation name) (call_classes operation)
unfolding class_of class_rows
called_known Init name e =
    record { classes_are = ap (λ (n : ℕ). 37 ∷ 13 ∷ 38 ∷ 0 ∷ 37 ∷ 45 ∷ n ∷ 79 ∷ 0 ∷ 38 ∷ 67 ∷ []) (name_class name e); no_typedef = ap (λ (b : Bool). b || false) (no_typedef name e) }
called_known Lock name e =
    record { classes_are = ap (λ (n : ℕ). 37 ∷ 13 ∷ 38 ∷ 0 ∷ 37 ∷ 45 ∷ n ∷ 38 ∷ 67 ∷ []) (name_class name e); no_typedef = ap (λ (b : Bool). b || false) (no_typedef name e) }
called_known Unlock name e =
    record { classes_are = ap (λ (n : ℕ). 37 ∷ 13 ∷ 38 ∷ 0 ∷ 37 ∷ 45 ∷ n ∷ 38 ∷ 67 ∷ []) (name_class name e); no_typedef = ap (λ (b : Bool). b || false) (no_typedef name e) }

closing_known : Known closing_words (33 ∷ 4 ∷ 67 ∷ 40 ∷ [])
unfolding class_of class_rows
closing_known = record { classes_are = refl; no_typedef = refl }

opening_known : Known opening_words (16 ∷ 0 ∷ 37 ∷ 13 ∷ 38 ∷ 39 ∷ [])
unfolding class_of class_rows
opening_known = record { classes_are = refl; no_typedef = refl }

-- ---- the words of a program

abbrev pub operations_of : List Call → List Operation
operations_of calls = map (λ (call : Call). call.operation) calls

calls_known : (mutexes : List (List ℕ)) (calls : List Call) → AreDeclarable [] mutexes → CallDeclared (length mutexes) calls
    → Known (flat_map (call_words mutexes) calls ++ closing_words) (items_classes (operations_of calls) ++ 40 ∷ [])
calls_known mutexes [] names declared = closing_known
calls_known mutexes (call ∷ calls) names declared =
    let name = identifier_at [] mutexes call.mutex names declared.0 in
    let one : Known (call_words mutexes call) (call_classes call.operation) = called_known call.operation (get_or mutexes call.mutex []) name in
    let later = calls_known mutexes calls names declared.1 in
    let both = known_and (call_words mutexes call) (flat_map (call_words mutexes) calls ++ closing_words) (call_classes call.operation) (items_classes (operations_of calls) ++ 40 ∷ []) one later in
    known_as (flat_map (call_words mutexes) (call ∷ calls) ++ closing_words) (call_words mutexes call ++ (flat_map (call_words mutexes) calls ++ closing_words)) _
    (append_assoc (call_words mutexes call) (flat_map (call_words mutexes) calls) closing_words)
    (subst (λ (cs : List ℕ). Known (call_words mutexes call ++ (flat_map (call_words mutexes) calls ++ closing_words)) cs)
    (sym (append_assoc (call_classes call.operation) (items_classes (operations_of calls)) (40 ∷ []))) both)

externals_known : (before mutexes : List (List ℕ)) (tail : List (List ℕ)) (operations : List Operation) → AreDeclarable before mutexes
    → Known tail (externals_classes zero operations) → Known (flat_map declaration mutexes ++ tail) (externals_classes (length mutexes) operations)
externals_known before [] tail operations names h = h
externals_known before (name ∷ names) tail operations declarable h =
    known_and (declaration name) (flat_map declaration names ++ tail) declaration_classes (externals_classes (length names) operations) (declaration_known name declarable.0)
    (externals_known (before ++ name ∷ []) names tail operations declarable.2 h)

pub program_known : (p : Program) → IsOfForm p → Known (words_of p) (externals_classes (length p.mutexes) (operations_of p.calls))
program_known p form =
    let calls = calls_known p.mutexes p.calls form.declarable form.declared in
    let tail = known_and opening_words (flat_map (call_words p.mutexes) p.calls ++ closing_words) (16 ∷ 0 ∷ 37 ∷ 13 ∷ 38 ∷ 39 ∷ []) (items_classes (operations_of p.calls) ++ 40 ∷ []) opening_known calls in
    let all = externals_known [] p.mutexes (opening_words ++ (flat_map (call_words p.mutexes) p.calls ++ closing_words)) (operations_of p.calls) form.declarable tail in
    known_as (words_of p) (flat_map declaration p.mutexes ++ (opening_words ++ (flat_map (call_words p.mutexes) p.calls ++ closing_words))) _
    (append_assoc (flat_map declaration p.mutexes ++ opening_words) (flat_map (call_words p.mutexes) p.calls) closing_words
    ∙ append_assoc (flat_map declaration p.mutexes) opening_words (flat_map (call_words p.mutexes) p.calls ++ closing_words)) all
