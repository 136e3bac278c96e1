use Rattle.std.proofs.Common.{◌∙◌, ◌<◌, List, length, Contains, lit<, subst, rules}
use Rattle.ll_core.specs.declared.production.Production.{Production}
use Rattle.c_reader.specs.States.{Stops}
use Rattle.c_reader.proofs.Expanding.{right_option}
use Rattle.c_reader.proofs.Standing.{can_expand, stops, moved}
use Rattle.c_reader.proofs.reader.Reader.option.Goals as goal

pub expand-requires : goal.expand-requires
expand-requires c =
    let s = c.self.inside in
    let h = can_expand s.text.now s.tokens.now s.machine c.self.invariant c.args.self.now c.self.view_is c.args.left c.symbol.result c.symbol.ensures c.requires.next in
    (lit< tt, (h.0, h.1))

pub returns-in_err-production-clause-stop : goal.returns-in_err-production-clause-stop
returns-in_err-production-clause-stop c =
    let s = c.self.inside in
    let h : Stops c.args.self.now.source c.in_err-production.field-0.0 = stops s.text.now s.tokens.now s.machine c.self.invariant c.args.self.now c.self.view_is c.in_err-production.field-0.0 c.in_err-production.ensures.stop in
    search rules

pub returns-clause-moved : goal.returns-clause-moved
returns-clause-moved c =
    let s = c.self.inside in
    let p = c.in_ok-production.production in
    let contained = subst (λ (g : List Production). Contains g p) c.self.invariant.grammar c.in_ok-production.ensures.production in
    let room : 0 < length p.right = search rules in
    moved s.text.now s.tokens.now s.machine c.self.invariant c.args.self.now c.self.view_is p _ c.expand.new.self c.in_ok-production.ensures.moved
    (right_option c.args.left p contained (c.in_ok-production.ensures.left ∙ c.symbol.ensures) c.requires.two room)
