use Rattle.std.proofs.Common.{◌≡◌, ◌∙◌, ap, sym, Ok, string_bytes}
use Rattle.toml.specs.View.{view, members_view}
use Rattle.compliance_core.specs.Plans.{entries_of, entry_of, with_first}
use Rattle.compliance_core.proofs.PlanLemmas.{onto, onto_more}
use Rattle.compliance_core.proofs.plan.entries.Goals as goal

pub loop-key-preserved : goal.loop-key-preserved
loop-key-preserved c =
    let before = c.loop-key.entries.items in
    let rest = entries_of (members_view c.next.new.self) in
    let here : entry_of (string_bytes c.in-Some.key.now) (view c.in-Some.value.now) ≡ Ok c.in-Ok.entry =
    ap (λ key. entry_of key (view c.in-Some.value.now)) (sym c.as_str.ensures.value) ∙ c.in-Ok.ensures in
    c.loop-key.invariant
    ∙ ap (λ es. onto before (entries_of (members_view es))) c.in-Some.ensures.steps
    ∙ ap (λ r. onto before (with_first r rest)) here
    ∙ onto_more before c.in-Ok.entry rest
    ∙ ap (λ es. onto es rest) (sym c.in_ok-push-in-Ok.ensures.items)
