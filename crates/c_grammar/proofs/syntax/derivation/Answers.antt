use Rattle.std.proofs.Common.{◌∙◌, get_or, ap, inl, inr, arith}
use Rattle.ll_core.specs.declared.parser.ParseStop.TheVariants.{At, Deep}
use Rattle.c_grammar.specs.Syntax.{classes_of, refused_at}
use Rattle.c_grammar.proofs.Stops.{stops_by_syntax, no_end_inside, same_stop, found_at, copied_at}
use Rattle.c_grammar.proofs.syntax.derivation.Goals as goal

pub parse-requires : goal.parse-requires
parse-requires c = (omega arith, rw (c.deref.ensures.value, c.in_ok-classes.ensures) (no_end_inside c.args.tokens.now c.requires.classes))

pub returns-in-Err-At-clause-refused : goal.returns-in-Err-At-clause-refused
returns-in-Err-At-clause-refused c =
    stops_by_syntax _ _ _ _ c.left_at.result c.left_at.ensures (λ refusal is. inl (record {
      number = c.in-Err-At.k;
      stops = same_stop _ _ _ (classes_of c.args.tokens.now) _ (At c.in-Err-At.k) c.requires.grammar (c.deref.ensures.value ∙ c.in_ok-classes.ensures) c.in-Err-At.field-0-is c.in-Err-At.ensures.stop;
      is = is ∙ ap (λ t. refused_at c.args.text.now t) (c.copied.ensures ∙ copied_at c.args.tokens.now c.in-Err-At.k c.get.result _ c.get.ensures.lookup.1 c.get.ensures.lookup.3);
    }))

pub returns-in-Err-Deep-clause-refused : goal.returns-in-Err-Deep-clause-refused
returns-in-Err-Deep-clause-refused c =
    let deep = same_stop _ _ _ (classes_of c.args.tokens.now) _ (Deep c.in-Err-Deep.k) c.requires.grammar (c.deref.ensures.value ∙ c.in_ok-classes.ensures) c.in-Err-Deep.field-0-is c.in-Err-Deep.ensures.stop in
    stops_by_syntax _ _ _ _ c.refused.result c.refused.ensures (λ refusal is. inr (record {
      number = c.in-Err-Deep.k;
      token = get_or c.args.tokens.now c.in-Err-Deep.k _;
      deep = deep;
      found = found_at c.args.tokens.now c.in-Err-Deep.k _ deep.in_range;
      is = is;
    }))
