use Rattle.std.proofs.Common.{◌≡◌, ◌<◌, inl, inr, ap, sym, subst, arith}
use Rattle.std.proofs.lemmas.Bool.{cases_lt}
use Rattle.flow_points.specs.Graphs.{length_of}
use Rattle.flow_points.specs.Tables.{points_before}
use Rattle.flow_points.proofs.Counted.{before_none, before_all}
use Rattle.flow_points.proofs.points.NumberedPoints.place.Goals as goal

pub loop-low-init : goal.loop-low-init
loop-low-init c =
    let graph = c.args.self.now.graph in
    let n = c.args.function in
    let none = before_none graph n in
    let until : c.args.offset < points_before graph n (length_of graph n) = omega (arith, before_all graph c.args.self.now.whole n, c.requires.offset) in
    record {
      first = c.function-f.ensures.first;
      order = elim (cases_lt 0 (length_of graph n)) [
        | inl h ↦ omega (arith, h, c.function-f.ensures.length)
        | inr h ↦
            let empty : length_of graph n ≡ 0 = omega (arith, h) in
            let same : points_before graph n (length_of graph n) ≡ points_before graph n 0 = ap (points_before graph n) empty in
            elim (let f : ⊥ = omega (arith, same, none, until) in f) [ ]
      ];
      end = omega (arith, c.function-f.ensures.length);
      from = omega (arith, none);
      until = subst (λ k. c.args.offset < points_before graph n k) (sym c.function-f.ensures.length) until;
    }
