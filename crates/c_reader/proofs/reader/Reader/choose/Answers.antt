use Rattle.std.proofs.Common.{◌∙◌, ◌<◌, ℕ, List, length, Contains, lit<, sym, ap, subst, rules, arith}
use Rattle.ll_core.specs.declared.production.Production.{Production}
use Rattle.c_reader.specs.States.{Stops, right_from, firsts}
use Rattle.c_reader.proofs.Expanding.{right_begun, first_is, first_nothing, first_some}
use Rattle.c_reader.proofs.Standing.{can_expand, stops, moved}
use Rattle.c_reader.proofs.reader.Reader.choose.Goals as goal

pub expand-requires : goal.expand-requires
expand-requires c =
    let s = c.self.inside in
    let h = can_expand s.text.now s.tokens.now s.machine c.self.invariant c.args.self.now c.self.view_is c.args.left c.symbol.result c.symbol.ensures c.requires.next in
    (lit< tt, (h.0, h.1))

pub returns-in_err-production-clause-stop : goal.returns-in_err-production-clause-stop
returns-in_err-production-clause-stop c =
    let s = c.self.inside in
    let h : Stops c.args.self.now.source c.in_err-production.field-0.0 = stops s.text.now s.tokens.now s.machine c.self.invariant c.args.self.now c.self.view_is c.in_err-production.field-0.0 c.in_err-production.ensures.stop in
    search rules

pub returns-then-production-eq0-clause-one : goal.returns-then-production-eq0-clause-one
returns-then-production-eq0-clause-one c =
    let p = c.in_ok-production.production in
    let contained = subst (λ (g : List Production). Contains g p) c.self.invariant.grammar c.in_ok-production.ensures.production in
    subst (λ (first : ℕ). Contains (firsts c.args.left) first) (first_nothing p c.if-production-eq0.true)
    (first_is c.args.left p contained (c.in_ok-production.ensures.left ∙ c.symbol.ensures))

pub returns-then-production-eq0-clause-moved : goal.returns-then-production-eq0-clause-moved
returns-then-production-eq0-clause-moved c =
    let s = c.self.inside in
    let p = c.in_ok-production.production in
    let contained = subst (λ (g : List Production). Contains g p) c.self.invariant.grammar c.in_ok-production.ensures.production in
    moved s.text.now s.tokens.now s.machine c.self.invariant c.args.self.now c.self.view_is p _ c.expand.new.self c.in_ok-production.ensures.moved
    (sym (right_begun c.args.left p contained (c.in_ok-production.ensures.left ∙ c.symbol.ensures)) ∙ ap (right_from c.args.left) (first_nothing p c.if-production-eq0.true))

pub returns-clause-one : goal.returns-clause-one
returns-clause-one c =
    let p = c.in_ok-production.production in
    let contained = subst (λ (g : List Production). Contains g p) c.self.invariant.grammar c.in_ok-production.ensures.production in
    let some : 0 < p.length = (let h = c.if-production-eq0.false in omega arith) in
    let room : 0 < length p.right = search rules in
    subst (λ (first : ℕ). Contains (firsts c.args.left) first) (first_some p.length 0 p.right some room)
    (first_is c.args.left p contained (c.in_ok-production.ensures.left ∙ c.symbol.ensures))

pub returns-clause-moved : goal.returns-clause-moved
returns-clause-moved c =
    let s = c.self.inside in
    let p = c.in_ok-production.production in
    let contained = subst (λ (g : List Production). Contains g p) c.self.invariant.grammar c.in_ok-production.ensures.production in
    let some : 0 < p.length = (let h = c.if-production-eq0.false in omega arith) in
    let room : 0 < length p.right = search rules in
    moved s.text.now s.tokens.now s.machine c.self.invariant c.args.self.now c.self.view_is p _ c.expand.new.self c.in_ok-production.ensures.moved
    (sym (right_begun c.args.left p contained (c.in_ok-production.ensures.left ∙ c.symbol.ensures)) ∙ ap (right_from c.args.left) (first_some p.length 0 p.right some room))
