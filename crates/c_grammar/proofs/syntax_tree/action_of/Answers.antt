use Rattle.std.proofs.Common.{◌∙◌, get_or, Some, ap, sym}
use Rattle.std.proofs.lemmas.Option.{slice_get-get_or}
use Rattle.c_nodes.specs.declared.action.Action.TheVariants.{Tag}
use Rattle.c_grammar.specs.declared.actions.TheConstants.{ACTIONS}
use Rattle.c_grammar.proofs.syntax_tree.action_of.Goals as goal

pub returns : goal.returns
returns c =
    slice_get-get_or ACTIONS c.args.number Tag c.requires
    ∙ ap (λ actions. Some (get_or actions c.args.number Tag)) (sym c.actions.ensures)
    ∙ ap (λ k. Some (get_or c.actions.result.now k Tag)) (sym c.from.ensures)
