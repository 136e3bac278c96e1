-- Who asks the desk.
use Rattle.std.specs.Prelude.{ℕ, Bool, true, List, [], Option, Some, None}
use Rattle.std.specs.List.{list_any}
use Rattle.std.specs.Str.{bytes_eq}
use Rattle.desk_tables.specs.declared.rows.ProjectRow.{ProjectRow}
use Rattle.desk_core.specs.declared.caller.Caller.{Caller}
use Rattle.desk_core.specs.declared.caller.Caller.TheVariants.{Console, Member}

-- the console counts as a member of each project
abbrev pub is_member_of : Caller → ProjectRow → Bool
is_member_of Console project = true
is_member_of (Member name) project = list_any (λ member. bytes_eq member name) project.members

-- where a row holds a name the console is the empty one, which no member has
abbrev pub name_of : Caller → List ℕ
name_of Console = []
name_of (Member name) = name

-- who is kept as a project's maker
abbrev pub maker_of : Caller → Option (List ℕ)
maker_of Console = None
maker_of (Member name) = Some name
