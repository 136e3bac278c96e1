-- What the tests over the tables of an accepted text's program say of each action and each object.
use Rattle.std.proofs.Common.{◌≡◌, refl, sym, subst, ap, ◌∙◌, Bool, true, false, not, ◌&&◌, ◌||◌, ℕ, zero, suc, List, [], ◌∷◌, Option, Some, None}
use Rattle.std.specs.Prelude.{slice_get, option_map, unwrap_or}
use Rattle.std.specs.List.{list_any, list_all}
use Rattle.c_program.specs.declared.action.Action.{Action}
use Rattle.c_program.specs.declared.action.Act.{Act}
use Rattle.c_program.specs.declared.action.Act.TheVariants.{Turn}
use Rattle.c_program.specs.declared.program.Object.{Object}
use Rattle.c_program.specs.declared.program.Program.{Program}
use Rattle.c_program.specs.Syntax.{act_at, object_at}
use Rattle.c_program.specs.Types.{is_declared, holds_library}
use Rattle.c_program.specs.WellFormed.{IsWellFormed, if_there, is_touch, declares_object, declares_named, has_touch, holds_only_for_touch}
use Rattle.c_program.proofs.Cells.{and_true}
use Rattle.pointer_targets.proofs.Opening.{each_member}
use Rattle.guideline_findings.specs.Text.{IsTouch}

pub record FoundOne {A : Type 0} (test : A → Bool) (xs : List A) : Type 0 where
  pub number : ℕ
  pub one : A
  pub has : slice_get xs number ≡ Some one
  pub holds : test one ≡ true

pub found_one : {A : Type 0} (test : A → Bool) (xs : List A) → list_any test xs ≡ true → FoundOne test xs
found_one test [] e = absurd (cc)
found_one test (x ∷ xs) e = go (λ f. found_one test xs f) (test x) refl e
  where
    further : FoundOne test xs → FoundOne test (x ∷ xs)
    further f = record { number = suc f.number; one = f.one; has = f.has; holds = f.holds }

    go : (list_any test xs ≡ true → FoundOne test xs) → (b : Bool) → test x ≡ b → (b || list_any test xs) ≡ true → FoundOne test (x ∷ xs)
    go rest true t f = record { number = 0; one = x; has = refl; holds = t }
    go rest false t f = further (rest f)

-- the touch of a program that has one
pub touch_of : (program : Program) (object : Object) → holds_only_for_touch program object ≡ true → is_declared object ≡ false → holds_library program object.c_type ≡ true
    → (action : ℕ) × IsTouch program action
unfolding act_at
touch_of program object e d h = touched (go (is_declared object) (holds_library program object.c_type) d h e)
  where
    go : (a b : Bool) → a ≡ false → b ≡ true → (a || (not b || has_touch program)) ≡ true → has_touch program ≡ true
    go false true d h e = e
    go true b d h e = absurd (cc)
    go false false d h e = absurd (cc)

    touched : has_touch program ≡ true → (action : ℕ) × IsTouch program action
    touched t = let f = found_one (λ (action : Action). is_touch action.act) program.actions t in
        (f.number, subst (λ (o : Option Action). is_touch (unwrap_or (option_map (λ (action : Action). action.act) o) Turn) ≡ true) (sym f.has) f.holds)

-- what an action declares has a name
pub named : (program : Program) → IsWellFormed program → (action object : ℕ) → declares_object (act_at program action) ≡ Some object → (o : Object) → object_at program object ≡ Some o → is_declared o ≡ true
unfolding act_at
named program well n object e o h = go (slice_get program.actions n) refl e
  where
    of_object : (d : Option ℕ) → d ≡ Some object → if_there program (λ k. if_there program is_declared (object_at program k)) d ≡ true → is_declared o ≡ true
    of_object None q t = absurd (cc)
    of_object (Some k) q t = let s : k ≡ object = cc in
        subst (λ (x : Option Object). if_there program is_declared x ≡ true) (ap (object_at program) s ∙ h) t

    go : (found : Option Action) → slice_get program.actions n ≡ found → declares_object (unwrap_or (option_map (λ (action : Action). action.act) found) Turn) ≡ Some object → is_declared o ≡ true
    go None q e = absurd (cc)
    go (Some action) q e = of_object (declares_object action.act) e (each_member program.actions n action (λ (a : Action). declares_named program a.act) well.declarations q)
