-- Which replies are kept: those to commands that change the tables.
use Rattle.std.specs.Prelude.{Bool, true, false, Option, Some, None}
use Rattle.desk_tables.specs.declared.reply.Reply.{Reply}
use Rattle.desk_tables.specs.declared.reply.Reply.TheVariants as replies
use Rattle.desk_tables.specs.declared.rows.KeptRow.{KeptRow}

abbrev pub is_keepable : Reply → Bool
is_keepable (replies.Made name) = true
is_keepable (replies.Revision number findings) = true
is_keepable (replies.Raised id) = true
is_keepable replies.Done = true
is_keepable _ = false

-- a row that is kept, if one is, has such a reply
abbrev pub keeps_rightly : Option KeptRow → Bool
keeps_rightly None = true
keeps_rightly (Some row) = is_keepable row.reply
