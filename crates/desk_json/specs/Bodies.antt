-- Which commands the bodies of requests are. A body is JSON (RFC 8259) in UTF-8: an object with exactly the members named here, in any
-- order. Of equal keys the last counts.
use Rattle.std.specs.Prelude.{ℕ, suc, Bool, List, [], ◌∷◌, ◌==◌, false, if◌then◌else◌, codes, Option, Some, None, option_map, option_and_then}
use Rattle.std.specs.Option.{option_map_or}
use Rattle.std.specs.Str.{is_utf8}
use Rattle.serde_json.specs.Data.{Data, null, boolean, number, string, array, object, Items, no_items, item, Members, no_members, member}
use Rattle.serde_json.specs.Find.{get, as_array, as_object, as_str}
use Rattle.serde_json.specs.Read.{read}
use Rattle.misra_base.specs.declared.guideline.Guideline.{Guideline}
use Rattle.misra_base.specs.declared.category.Category.{Category}
use Rattle.compliance_core.specs.Plans.{category_named, guideline_named}
use Rattle.desk_tables.specs.declared.command.Command.{Command}
use Rattle.desk_tables.specs.declared.command.Command.TheVariants as commands

-- the value that the bytes are
abbrev pub json_of : List ℕ → Option Data
json_of bytes = if is_utf8 bytes then read bytes else None

abbrev pub count_of : Members → ℕ
count_of no_members = 0
count_of (member key value members) = suc (count_of members)

-- an object of so many members
abbrev pub has_members : ℕ → Data → Bool
has_members n body = option_map_or (λ members. count_of members == n) (as_object body) false

abbrev pub text_at : List ℕ → Data → Option (List ℕ)
text_at key body = option_and_then as_str (get key body)

-- the items, where each is a text
abbrev pub texts_of : Items → Option (List (List ℕ))
texts_of no_items = Some []
texts_of (item value items) = option_and_then (λ text. option_map (λ texts. text ∷ texts) (texts_of items)) (as_str value)

abbrev pub texts_at : List ℕ → Data → Option (List (List ℕ))
texts_at key body = option_and_then texts_of (option_and_then as_array (get key body))

-- a text, or null for none
abbrev pub text_or_null : Data → Option (Option (List ℕ))
text_or_null null = Some None
text_or_null (boolean b) = None
text_or_null (number n) = None
text_or_null (string text) = Some (Some text)
text_or_null (array items) = None
text_or_null (object fields) = None

abbrev pub text_or_null_at : List ℕ → Data → Option (Option (List ℕ))
text_or_null_at key body = option_and_then text_or_null (get key body)

abbrev pub guideline_in : Data → Option Guideline
guideline_in body = option_and_then guideline_named (text_at (codes "guideline") body)

abbrev pub category_in : Data → Option Category
category_in body = option_and_then category_named (text_at (codes "category") body)

-- ---- the commands

-- {"members":["ann","ben"],"name":"p"}
abbrev pub project_in : Data → Option Command
project_in body =
    if has_members 2 body
    then option_and_then (λ name. option_map (λ members. commands.MakeProject name members) (texts_at (codes "members") body)) (text_at (codes "name") body)
    else None

-- {"guideline":"D5.1","name":"q","reason":"text"}
abbrev pub permit_in : Data → Option Command
permit_in body =
    if has_members 3 body
    then option_and_then (λ guideline. option_and_then (λ name. option_map (λ reason. commands.AddPermit name guideline reason)
    (text_at (codes "reason") body)) (text_at (codes "name") body)) (guideline_in body)
    else None

-- {"category":"Mandatory","guideline":"D5.1"}
abbrev pub category_change_in : List ℕ → Data → Option Command
category_change_in project body =
    if has_members 2 body
    then option_and_then (λ category. option_map (λ guideline. commands.Recategorise project guideline category) (guideline_in body)) (category_in body)
    else None

-- {"function":"*","guideline":"D5.1","object":"x","permit":null,"reason":"text"}
abbrev pub deviation_in : List ℕ → Data → Option Command
deviation_in project body =
    if has_members 5 body
    then option_and_then (λ function. option_and_then (λ guideline. option_and_then (λ target. option_and_then (λ permit. option_map
    (λ reason. commands.Raise project guideline function target reason permit)
    (text_at (codes "reason") body)) (text_or_null_at (codes "permit") body)) (text_at (codes "object") body)) (guideline_in body)) (text_at (codes "function") body)
    else None

-- the body is empty
abbrev pub alone : List ℕ → Command → Option Command
alone [] command = Some command
alone (byte ∷ bytes) command = None
