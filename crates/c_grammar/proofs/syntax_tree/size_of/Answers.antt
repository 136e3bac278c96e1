use Rattle.std.proofs.Common.{◌∙◌, ℕ, List, get_or, ap, sym}
use Rattle.ll_core.specs.declared.production.Production.{Production}
use Rattle.c_grammar.specs.declared.tables.TheConstants.{PRODUCTIONS}
use Rattle.c_grammar.proofs.TypedSteps.{size_at}
use Rattle.c_grammar.proofs.syntax_tree.size_of.Goals as goal

pub returns : goal.returns
returns c =
    c.from-2.ensures ∙ ap (λ (ps : List Production). (get_or ps c.from.result _).length) c.productions.ensures ∙ ap (λ (k : ℕ). (get_or PRODUCTIONS k _).length) c.from.ensures
    ∙ sym (size_at c.args.number _ c.requires)
