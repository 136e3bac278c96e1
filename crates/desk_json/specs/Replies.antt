-- The bodies of replies, as JSON: objects whose keys are in order of bytes.
use Rattle.std.specs.Prelude.{ℕ, List, ◌∷◌, ◌++◌, true, false, codes, decimal, map, Option, Some, None, unwrap_or}
use Rattle.std.specs.Str.Lossy.{utf8_lossy}
use Rattle.serde_json.specs.Data.{Data, null, boolean, number, unsigned, string, array, object, member, no_members}
use Rattle.serde_json.specs.View.{items_of}
use Rattle.misra_base.specs.declared.guideline.Guideline.{Guideline}
use Rattle.misra_base.specs.declared.refusal.Refusal.{Refusal}
use Rattle.misra_base.specs.declared.summary.SummaryRow.{SummaryRow}
use Rattle.misra_base.specs.Guidelines.{guideline_text}
use Rattle.misra_base.specs.Kinds.{kind_word}
use Rattle.misra_base.specs.Lines.{other_text}
use Rattle.misra_base.specs.Words.{category_word, level_word}
use Rattle.desk_tables.specs.declared.found.Found.{Found}
use Rattle.desk_tables.specs.declared.reply.Reply.{Reply}
use Rattle.desk_tables.specs.declared.reply.Reply.TheVariants as replies

-- a text is UTF-8: bytes that are none are replaced
abbrev pub text_data : List ℕ → Data
text_data bytes = string (utf8_lossy bytes)

abbrev pub count_data : ℕ → Data
count_data n = number (unsigned n)

abbrev pub made_data : List ℕ → Data
made_data name = object (member (codes "made") (text_data name) no_members)

abbrev pub revision_data : ℕ → ℕ → Data
revision_data revision findings = object (member (codes "findings") (count_data findings) (member (codes "revision") (count_data revision) no_members))

abbrev pub row_data : SummaryRow → Data
row_data row =
    object (member (codes "category") (string (category_word row.category))
    (member (codes "deviated") (count_data row.deviated)
    (member (codes "guideline") (string (guideline_text row.guideline))
    (member (codes "level") (string (level_word row.level))
    (member (codes "open") (count_data row.uncovered) no_members)))))

abbrev pub summary_data : ℕ → List SummaryRow → Data
summary_data revision rows = object (member (codes "revision") (count_data revision) (member (codes "rows") (array (items_of (map row_data rows))) no_members))

-- the deviation is 0 where none covers the finding
abbrev pub found_data : Found → Data
found_data found =
    object (member (codes "column") (count_data found.finding.place.column)
    (member (codes "deviation") (count_data (unwrap_or found.deviation 0))
    (member (codes "function") (text_data found.finding.function)
    (member (codes "guideline") (string (guideline_text found.finding.guideline))
    (member (codes "kind") (string (kind_word found.finding.kind))
    (member (codes "line") (count_data found.finding.place.line)
    (member (codes "object") (text_data found.finding.object)
    (member (codes "other") (string (other_text found.finding.other)) no_members))))))))

abbrev pub findings_data : ℕ → List Found → Data
findings_data revision rows = object (member (codes "findings") (array (items_of (map found_data rows))) (member (codes "revision") (count_data revision) no_members))

-- the claim, and the first guideline that fails it
abbrev pub claim_data : ℕ → Option Guideline → Data
claim_data revision None =
    object (member (codes "claim") (boolean true) (member (codes "failing") null (member (codes "revision") (count_data revision) no_members)))
claim_data revision (Some guideline) =
    object (member (codes "claim") (boolean false) (member (codes "failing") (string (guideline_text guideline)) (member (codes "revision") (count_data revision) no_members)))

abbrev pub reply_data : Reply → Data
reply_data (replies.Made name) = made_data name
reply_data (replies.Revision revision findings) = revision_data revision findings
reply_data (replies.Raised id) = object (member (codes "raised") (count_data id) no_members)
reply_data replies.Done = object (member (codes "done") (boolean true) no_members)
reply_data (replies.Summary revision rows) = summary_data revision rows
reply_data (replies.Findings revision rows) = findings_data revision rows
reply_data (replies.Claim revision failing) = claim_data revision failing

-- the first construct of a text that is not supported
abbrev pub refusal_data : Refusal → Data
refusal_data refusal =
    object (member (codes "code") (string (codes "U" ++ decimal refusal.code))
    (member (codes "column") (count_data refusal.place.column)
    (member (codes "line") (count_data refusal.place.line)
    (member (codes "name") (text_data refusal.name) no_members))))
