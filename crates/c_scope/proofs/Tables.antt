-- A look-up that is asked in turn, a test of any, and texts by their numbers.
use Rattle.std.proofs.Common.{◌≡◌, ◌||◌, ℕ, Bool, true, false, List, map, Option, Some, None, refl}
use Rattle.std.proofs.lemmas.Option.{slice_get-map}
use Rattle.std.specs.Prelude.{if◌then◌else◌, slice_get}
use Rattle.std.specs.Option.{option_map}
use Rattle.std.specs.declared.vec.Vec.{Vec}
use Rattle.std.specs.declared.alloc.Global.{Global}
use Rattle.c_scope.specs.Names.{or_else}

pub or_else_none : (n : Option ℕ) → or_else n None ≡ n
or_else_none None = refl
or_else_none (Some n) = refl

pub or_else_in_turn : (a b c : Option ℕ) → or_else (or_else a b) c ≡ or_else a (or_else b c)
or_else_in_turn None b c = refl
or_else_in_turn (Some a) b c = refl

pub or_else_there : (b : Bool) (n : ℕ) (o : Option ℕ) → or_else (if b then Some n else None) o ≡ (if b then Some n else o)
or_else_there true n o = refl
or_else_there false n o = refl

pub or_else_nowhere : (b : Bool) (o : Option ℕ) → or_else (if b then None else None) o ≡ o
or_else_nowhere true o = refl
or_else_nowhere false o = refl

pub any_in_turn : (a b c : Bool) → ((a || b) || c) ≡ (a || (b || c))
any_in_turn true b c = refl
any_in_turn false b c = refl

pub any_put : (b had : Bool) → (if b then true else had) ≡ (had || b)
any_put true true = refl
any_put true false = refl
any_put false true = refl
any_put false false = refl

pub any_none : (had : Bool) → (had || false) ≡ had
any_none true = refl
any_none false = refl

pub text_in : (keys : List (Vec ℕ Global)) (k : ℕ)
    → slice_get (map (λ (v : Vec ℕ Global). v.items) keys) k ≡ option_map (λ (v : Vec ℕ Global). v.items) (slice_get keys k)
text_in keys k = slice_get-map (λ (v : Vec ℕ Global). v.items) keys k
