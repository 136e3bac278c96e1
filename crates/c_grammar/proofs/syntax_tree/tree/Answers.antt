use Rattle.std.proofs.Common.{List, [], length, sym, subst}
use Rattle.ll_core.specs.declared.production.Production.{Production}
use Rattle.ll_core.specs.declared.reductions.Event.{Event}
use Rattle.ll_core.specs.Postorder.{IsPostorder}
use Rattle.c_grammar.specs.Trees.{IsRun}
use Rattle.c_grammar.proofs.Building.{can_run, built_tree}
use Rattle.c_grammar.proofs.syntax_tree.tree.Goals as goal

pub externals-requires-clause-steps : goal.externals-requires-clause-steps
externals-requires-clause-steps c =
    let steps = subst (λ (ps : List Production). IsPostorder ps c.in_ok-derivation.derivation c.in_ok-events.events.items) c.in-Ok.ensures c.in_ok-events.ensures in
    subst (λ (es : List Event). IsRun es (length c.args.tokens.now) []) (sym c.deref.ensures.value)
    (can_run c.args.text.now c.args.tokens.now c.in_ok-derivation.derivation c.in_ok-events.events.items c.in_ok-derivation.ensures.derived steps)

pub returns-clause-tree : goal.returns-clause-tree
returns-clause-tree c =
    let steps = subst (λ (ps : List Production). IsPostorder ps c.in_ok-derivation.derivation c.deref.result.now) c.in-Ok.ensures
    (subst (λ (es : List Event). IsPostorder c.in-Ok.grammar c.in_ok-derivation.derivation es) (sym c.deref.ensures.value) c.in_ok-events.ensures) in
    let made = c.in_ok-externals.ensures in
    built_tree c.args.text.now c.args.tokens.now c.in_ok-derivation.derivation c.deref.result.now c.in_ok-derivation.ensures.derived steps made.part _
    c.in_ok-derivation.ensures.only made.made made.is
