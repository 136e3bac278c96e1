-- The codings of the parts of rows, with their fields in the order of their types.
use Rattle.std.specs.Prelude.{ℕ, List, Option}
use Rattle.misra_base.specs.Guidelines.{all_guidelines, guideline_number}
use Rattle.misra_base.specs.declared.category.Category.{Category}
use Rattle.misra_base.specs.declared.category.Plan.{Plan}
use Rattle.misra_base.specs.declared.deviation.Deviation.{Deviation}
use Rattle.misra_base.specs.declared.deviation.Form.{Form}
use Rattle.misra_base.specs.declared.deviation.Status.{Status}
use Rattle.misra_base.specs.declared.finding.Finding.{Finding}
use Rattle.misra_base.specs.declared.guideline.Guideline.{Guideline}
use Rattle.misra_base.specs.declared.kind.Kind.{Kind}
use Rattle.misra_base.specs.declared.permit.Permit.{Permit}
use Rattle.misra_base.specs.declared.place.Place.{Place}
use Rattle.desk_coding.specs.Codings.{Coding, both, exactly, fields, listed, number32, optional, text, variant}
use Rattle.desk_coding.specs.Variants.{category_list, category_number, form_list, form_number, kind_list, kind_number, status_list, status_number}

unfoldable pub guideline : Coding Guideline
guideline = variant guideline_number all_guidelines

unfoldable pub category : Coding Category
category = variant category_number category_list

unfoldable pub status : Coding Status
status = variant status_number status_list

unfoldable pub form : Coding Form
form = variant form_number form_list

unfoldable pub kind : Coding Kind
kind = variant kind_number kind_list

unfoldable pub optional_text : Coding (Option (List ℕ))
optional_text = optional text

unfoldable pub names : Coding (List (List ℕ))
names = listed text

unfoldable pub entry : Coding (Guideline × Category)
entry = both guideline category

unfoldable pub entries : Coding (List (Guideline × Category))
entries = listed entry

abbrev pub place_parts : Place → ℕ × ℕ
place_parts p = (p.line, p.column)

abbrev pub place_of : ℕ × ℕ → Place
place_of f = record { line = f.0; column = f.1 }

unfoldable pub place : Coding Place
place = fields place_parts place_of (both number32 number32)

unfoldable pub optional_place : Coding (Option Place)
optional_place = optional place

abbrev pub finding_parts : Finding → Guideline × (Place × (Option Place × (List ℕ × (List ℕ × Kind))))
finding_parts f = (f.guideline, (f.place, (f.other, (f.function, (f.object, f.kind)))))

abbrev pub finding_of : Guideline × (Place × (Option Place × (List ℕ × (List ℕ × Kind)))) → Finding
finding_of p = record { guideline = p.0; place = p.1.0; other = p.1.1.0; function = p.1.1.1.0; object = p.1.1.1.1.0; kind = p.1.1.1.1.1 }

unfoldable pub finding : Coding Finding
finding =
    fields finding_parts finding_of
    (both guideline (both place (both optional_place (both text (both text kind)))))

unfoldable pub findings : Coding (List Finding)
findings = listed finding

-- who raised it, what it cites, and where it stands
abbrev pub Life : Type 0
Life = List ℕ × (Option (List ℕ) × (Status × (Option (List ℕ) × Form)))

unfoldable pub life : Coding Life
life = both text (both optional_text (both status (both optional_text form)))

abbrev pub deviation_parts : Deviation → ℕ × (Guideline × (List ℕ × (List ℕ × (List ℕ × Life))))
deviation_parts d = (d.id, (d.guideline, (d.function, (d.object, (d.reason, (d.raiser, (d.permit, (d.status, (d.approver, d.form)))))))))

abbrev pub deviation_of : ℕ × (Guideline × (List ℕ × (List ℕ × (List ℕ × Life)))) → Deviation
deviation_of p = record {
  id = p.0;
  guideline = p.1.0;
  function = p.1.1.0;
  object = p.1.1.1.0;
  reason = p.1.1.1.1.0;
  raiser = p.1.1.1.1.1.0;
  permit = p.1.1.1.1.1.1.0;
  status = p.1.1.1.1.1.1.1.0;
  approver = p.1.1.1.1.1.1.1.1.0;
  form = p.1.1.1.1.1.1.1.1.1;
}

unfoldable pub deviation : Coding Deviation
deviation = fields deviation_parts deviation_of (both number32 (both guideline (both text (both text (both text life)))))

abbrev pub permit_parts : Permit → List ℕ × (Guideline × (List ℕ × List ℕ))
permit_parts p = (p.name, (p.guideline, (p.reason, p.maker)))

abbrev pub permit_of : List ℕ × (Guideline × (List ℕ × List ℕ)) → Permit
permit_of f = record { name = f.0; guideline = f.1.0; reason = f.1.1.0; maker = f.1.1.1 }

unfoldable pub permit : Coding Permit
permit = fields permit_parts permit_of (both text (both guideline (both text text)))

abbrev pub categories_of : Plan → List Category
categories_of p = p.categories

abbrev pub plan_of : List Category → Plan
plan_of all = record { categories = all }

-- the categories of the nineteen guidelines
unfoldable pub plan : Coding Plan
plan = fields categories_of plan_of (exactly 19 category)
