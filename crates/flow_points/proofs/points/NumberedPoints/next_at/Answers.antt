use Rattle.std.proofs.Common.{◌∙◌, ◌+◌, ap, sym, subst, get_or, slice_get, arith}
use Rattle.flow_points.specs.Graphs.{Has, next_at}
use Rattle.flow_points.specs.PointLists.{at, points_of, point_at, next_points}
use Rattle.flow_points.proofs.Numbers.{placed, get_single, get_mapped}
use Rattle.flow_points.proofs.points.NumberedPoints.next_at.Goals as goal

pub number-requires-clause-small : goal.number-requires-clause-small
number-requires-clause-small c =
    let points = c.args.self.now in
    let h = c.in-Enters.ensures in
    omega (arith, (placed points h.0 h.1.function c.in-Enters.base c.in-Enters.action h.1.frame h.1.has).number, points.within)

pub returns-in-Enters : goal.returns-in-Enters
returns-in-Enters c =
    let points = c.args.self.now in
    let h = c.in-Enters.ensures in
    let here = placed points h.0 h.1.function c.in-Enters.base c.in-Enters.action h.1.frame h.1.has in
    ap (slice_get (points_of points.graph)) c.number.ensures ∙ here.is_at
    ∙ sym (get_single (next_points points.graph (point_at points.graph c.args.point)) (at h.0 c.in-Enters.action) c.args.k h.2 c.requires.k)

pub number-requires-in-Behind-clause-action : goal.number-requires-in-Behind-clause-action
number-requires-in-Behind-clause-action c =
    let points = c.args.self.now in
    let h = c.in-Behind.ensures in
    let goes = get_mapped (at h.0) (next_points points.graph (point_at points.graph c.args.point)) (next_at points.graph c.in-Behind.action) c.args.k h.2 c.requires.k in
    let has : Has points.graph h.1.function (get_or c.next.result.now c.args.k 0) =
    subst (λ xs. Has points.graph h.1.function (get_or xs c.args.k 0)) (sym c.next.ensures) (points.whole.stays h.1.function c.in-Behind.action c.args.k _ h.1.has goes.0) in
    (placed points h.0 h.1.function c.in-Behind.base _ h.1.frame has).inside

pub number-requires-in-Behind-clause-small : goal.number-requires-in-Behind-clause-small
number-requires-in-Behind-clause-small c =
    let points = c.args.self.now in
    let h = c.in-Behind.ensures in
    let goes = get_mapped (at h.0) (next_points points.graph (point_at points.graph c.args.point)) (next_at points.graph c.in-Behind.action) c.args.k h.2 c.requires.k in
    let has : Has points.graph h.1.function (get_or c.next.result.now c.args.k 0) =
    subst (λ xs. Has points.graph h.1.function (get_or xs c.args.k 0)) (sym c.next.ensures) (points.whole.stays h.1.function c.in-Behind.action c.args.k _ h.1.has goes.0) in
    omega (arith, (placed points h.0 h.1.function c.in-Behind.base _ h.1.frame has).number, points.within)

pub returns-in-Behind : goal.returns-in-Behind
returns-in-Behind c =
    let points = c.args.self.now in
    let h = c.in-Behind.ensures in
    let next = get_or (next_at points.graph c.in-Behind.action) c.args.k 0 in
    let goes = get_mapped (at h.0) (next_points points.graph (point_at points.graph c.args.point)) (next_at points.graph c.in-Behind.action) c.args.k h.2 c.requires.k in
    let here = placed points h.0 h.1.function c.in-Behind.base next h.1.frame (points.whole.stays h.1.function c.in-Behind.action c.args.k next h.1.has goes.0) in
    ap (slice_get (points_of points.graph)) (c.number-in-Behind.ensures ∙ ap (λ xs. c.in-Behind.base + get_or points.before.items (get_or xs c.args.k 0) 0) c.next.ensures)
    ∙ here.is_at ∙ sym goes.1
