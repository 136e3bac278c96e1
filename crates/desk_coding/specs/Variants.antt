-- The places of variants, from 0.
use Rattle.std.specs.Prelude.{ℕ, List, [], ◌∷◌}
use Rattle.misra_base.specs.declared.category.Category.{Category}
use Rattle.misra_base.specs.declared.category.Category.TheVariants as categories
use Rattle.misra_base.specs.declared.deviation.Form.{Form}
use Rattle.misra_base.specs.declared.deviation.Form.TheVariants as forms
use Rattle.misra_base.specs.declared.deviation.Status.{Status}
use Rattle.misra_base.specs.declared.deviation.Status.TheVariants as statuses
use Rattle.misra_base.specs.declared.kind.Kind.{Kind}
use Rattle.misra_base.specs.declared.kind.Kind.TheVariants as kinds

abbrev pub category_number : Category → ℕ
category_number categories.Mandatory = 0
category_number categories.Required = 1
category_number categories.Advisory = 2
category_number categories.Disapplied = 3

abbrev pub category_list : List Category
category_list = categories.Mandatory ∷ categories.Required ∷ categories.Advisory ∷ categories.Disapplied ∷ []

abbrev pub status_number : Status → ℕ
status_number statuses.Raised = 0
status_number statuses.Approved = 1
status_number statuses.Rejected = 2
status_number statuses.Withdrawn = 3

abbrev pub status_list : List Status
status_list = statuses.Raised ∷ statuses.Approved ∷ statuses.Rejected ∷ statuses.Withdrawn ∷ []

abbrev pub form_number : Form → ℕ
form_number forms.Text = 0
form_number forms.Pattern = 1

abbrev pub form_list : List Form
form_list = forms.Text ∷ forms.Pattern ∷ []

abbrev pub kind_number : Kind → ℕ
kind_number kinds.Race = 0
kind_number kinds.Cycle = 1
kind_number kinds.Outside = 2
kind_number kinds.Repeated = 3
kind_number kinds.Break = 4
kind_number kinds.Return = 5
kind_number kinds.Unused = 6
kind_number kinds.Parameter = 7
kind_number kinds.Order = 8
kind_number kinds.Kind = 9
kind_number kinds.Again = 10
kind_number kinds.Access = 11
kind_number kinds.Automatic = 12
kind_number kinds.Thread = 13
kind_number kinds.Before = 14
kind_number kinds.Second = 15
kind_number kinds.Dead = 16
kind_number kinds.Busy = 17
kind_number kinds.End = 18
kind_number kinds.Destroyed = 19
kind_number kinds.Unlock = 20
kind_number kinds.Wait = 21
kind_number kinds.Dependent = 22

abbrev pub kind_list : List Kind
kind_list =
    kinds.Race ∷ kinds.Cycle ∷ kinds.Outside ∷ kinds.Repeated ∷ kinds.Break ∷ kinds.Return ∷ kinds.Unused ∷ kinds.Parameter ∷ kinds.Order
    ∷ kinds.Kind ∷ kinds.Again ∷ kinds.Access ∷ kinds.Automatic ∷ kinds.Thread ∷ kinds.Before ∷ kinds.Second ∷ kinds.Dead ∷ kinds.Busy
    ∷ kinds.End ∷ kinds.Destroyed ∷ kinds.Unlock ∷ kinds.Wait ∷ kinds.Dependent ∷ []
