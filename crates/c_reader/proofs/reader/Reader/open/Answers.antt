use Rattle.std.proofs.Common.{◌∙◌, List, Contains, lit<, subst, rules}
use Rattle.ll_core.specs.declared.production.Production.{Production}
use Rattle.c_reader.specs.States.{Stops, only}
use Rattle.c_reader.proofs.Expanding.{right_only}
use Rattle.c_reader.proofs.Standing.{can_expand, stops, moved}
use Rattle.c_reader.proofs.reader.Reader.open.Goals as goal

pub expand-requires : goal.expand-requires
expand-requires c =
    let s = c.self.inside in
    let h = can_expand s.text.now s.tokens.now s.machine c.self.invariant c.args.self.now c.self.view_is c.args.left c.symbol.result c.symbol.ensures c.requires.next in
    (lit< tt, (h.0, h.1))

pub returns-in_err-expand-clause-stop : goal.returns-in_err-expand-clause-stop
returns-in_err-expand-clause-stop c =
    let s = c.self.inside in
    let h : Stops c.args.self.now.source c.in_err-expand.field-0.0 = stops s.text.now s.tokens.now s.machine c.self.invariant c.args.self.now c.self.view_is c.in_err-expand.field-0.0 c.in_err-expand.ensures.stop in
    search rules

pub returns-clause-moved : goal.returns-clause-moved
returns-clause-moved c =
    let s = c.self.inside in
    let p = c.in_ok-expand.field-0 in
    let contained = subst (λ (g : List Production). Contains g p) c.self.invariant.grammar c.in_ok-expand.ensures.production in
    moved s.text.now s.tokens.now s.machine c.self.invariant c.args.self.now c.self.view_is p (only c.args.left) c.expand.new.self c.in_ok-expand.ensures.moved
    (right_only c.args.left p contained (c.in_ok-expand.ensures.left ∙ c.symbol.ensures) c.requires.one)
