-- A tree that has been read.
use Rattle.std.specs.Prelude.{◌≡◌}
use Rattle.c_tree.specs.Statements
use Rattle.c_visibility.specs.Spelling.{texts}
use Rattle.c_scope.specs.declared.declaring.Reading.{Reading}
use Rattle.c_scope.specs.Faults.{names_in, seen_in}

pub record IsRead (tree : Statements.TreeData) (read : Reading) : Type 0 where
  pub names : texts read.names ≡ names_in tree
  pub all : read.all.items ≡ seen_in tree
