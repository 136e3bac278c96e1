use Rattle.std.proofs.Common.{◌≡◌, ℕ, ◌++◌, map, drop}
use Rattle.std.specs.declared.vec.Vec.{Vec}
use Rattle.std.specs.declared.alloc.Global.{Global}
use Rattle.c_visibility.specs.Spelling.{texts}
use Rattle.c_visibility.specs.Text.{library_declarations}
use Rattle.c_visibility.proofs.text.add_library.Given as goal

abbrev pub invariant-loop-number : goal.invariant-loop-number
invariant-loop-number l =
    l.spelled.items ++ library_declarations l.number (map (λ (v : Vec ℕ Global). v.items) (drop l.number l.names.keys))
    ≡ l.fn.spelled.items ++ library_declarations 0 (texts l.names)
