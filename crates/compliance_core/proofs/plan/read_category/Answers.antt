use Rattle.std.proofs.Common.{◌≡◌, ◌∙◌, ap, sym, string_bytes}
use Rattle.toml.specs.Data.{string}
use Rattle.toml.specs.View.{view}
use Rattle.toml.proofs.Views.{view-String}
use Rattle.compliance_core.specs.Plans.{category_named, category_of}
use Rattle.compliance_core.proofs.PlanLemmas.{category_read}
use Rattle.compliance_core.proofs.plan.read_category.Goals as goal

pub returns-in-String : goal.returns-in-String
returns-in-String c =
    let seen : view c.args.value.now ≡ string (string_bytes c.in-String.word) = ap view c.in-String.is ∙ view-String c.in-String.word in
    c.ok.ensures.value ∙ category_read c.as_str.result.now c.from_str.result c.from_str.ensures ∙ ap category_named c.as_str.ensures.value ∙ sym (ap category_of seen)
