use Rattle.std.proofs.Common.{◌∙◌, Some, lit<, ap, rules}
use Rattle.c_lexer.specs.TokenClasses.{class_number}
use Rattle.c_reader.specs.States.{Stops}
use Rattle.c_reader.proofs.Standing.{can_shift, stops, in_range, class_is, rest_is, shift_as}
use Rattle.c_reader.proofs.reader.Reader.token.Goals as goal

pub shift-requires : goal.shift-requires
shift-requires c =
    let s = c.self.inside in
    let h = shift_as c.number.result (class_number c.args.class) s.machine c.number.ensures (can_shift s.text.now s.tokens.now s.machine c.self.invariant c.args.self.now c.self.view_is c.args.class c.requires) in
    (lit< tt, (h.0, h.1))

pub returns-in_err-k-clause-stop : goal.returns-in_err-k-clause-stop
returns-in_err-k-clause-stop c =
    let s = c.self.inside in
    let h : Stops c.args.self.now.source c.in_err-k.field-0.0 = stops s.text.now s.tokens.now s.machine c.self.invariant c.args.self.now c.self.view_is c.in_err-k.field-0.0 c.in_err-k.ensures.stop in
    search rules

pub bounds-self-inside-k : goal.bounds-self-inside-k
bounds-self-inside-k c =
    let s = c.self.inside in
    in_range s.text.now s.tokens.now s.machine c.self.invariant c.args.self.now c.self.view_is c.in_ok-k.k c.args.class c.in_ok-k.ensures.number (c.in_ok-k.ensures.token ∙ ap Some c.number.ensures)

pub returns-clause-class : goal.returns-clause-class
returns-clause-class c =
    let s = c.self.inside in
    class_is s.text.now s.tokens.now s.machine c.self.invariant c.args.self.now c.self.view_is c.in_ok-k.k c.args.class c.in_ok-k.ensures.number (c.in_ok-k.ensures.token ∙ ap Some c.number.ensures) _

pub returns-clause-rest : goal.returns-clause-rest
returns-clause-rest c =
    let s = c.self.inside in
    rest_is s.text.now s.tokens.now s.machine c.self.invariant c.args.self.now c.self.view_is c.in_ok-k.k c.args.class c.in_ok-k.ensures.number (c.in_ok-k.ensures.token ∙ ap Some c.number.ensures) _ c.shift.new.self c.in_ok-k.ensures.moved
