use Rattle.std.proofs.Common.{◌∙◌, map, ap}
use Rattle.c_rawtree.specs.StatementViews.{external_view}
use Rattle.c_parts.specs.Reading.{first, externals_of}
use Rattle.c_parts.specs.PartViews.{part_view}
use Rattle.c_grammar.proofs.syntax_tree.externals.Goals as goal

pub returns : goal.returns
returns c = record {
  part = part_view c.in_ok-built.field-0;
  made = c.in_ok-built.ensures.part;
  is = ap (map external_view) c.into_vec.ensures ∙ c.externals.ensures ∙ ap externals_of c.external_part.ensures.part ∙ ap (λ ps. externals_of (first ps)) c.in_ok-put_front.ensures;
}
