use Rattle.std.proofs.Common.{arith, rules, ◌≡◌, ◌∙◌, ap, take, drop, length}
use Rattle.compliance_core.specs.Levels.{deviated_of}
use Rattle.compliance_core.proofs.MarkLemmas.{deviated-take-drop, deviated-le-length}
use Rattle.compliance_core.proofs.marks.count_deviated.Goals as goal

pub overflow_add-count : goal.overflow_add-count
overflow_add-count c =
    let p = c.args.plan.now in
    let d = c.args.deviations.now in
    let g = c.args.guideline in
    let rest = c.loop-rest.rest.now in
    let n = c.min.result in
    let here : c.count_deviated_in-count.result ≡ deviated_of p d (take n rest) g = c.count_deviated_in-count.ensures ∙ ap (λ xs. deviated_of p d xs g) c.split_at.ensures.front in
    omega (arith, here, deviated-take-drop p d g rest n, c.loop-rest.invariant, deviated-le-length p d g c.args.findings.now)

pub loop-rest-preserved : goal.loop-rest-preserved
loop-rest-preserved c =
    let p = c.args.plan.now in
    let d = c.args.deviations.now in
    let g = c.args.guideline in
    let rest = c.loop-rest.rest.now in
    let n = c.min.result in
    let here : c.count_deviated_in-count.result ≡ deviated_of p d (take n rest) g = c.count_deviated_in-count.ensures ∙ ap (λ xs. deviated_of p d xs g) c.split_at.ensures.front in
    let behind : deviated_of p d c.split_at.result.1.now g ≡ deviated_of p d (drop n rest) g = ap (λ xs. deviated_of p d xs g) c.split_at.ensures.back in
    omega (arith, here, behind, deviated-take-drop p d g rest n, c.loop-rest.invariant)

pub returns : goal.returns
returns c =
    let ended : length c.loop-rest.rest.now ≡ 0 = search rules in
    omega (arith, ended, deviated-le-length c.args.plan.now c.args.deviations.now c.args.guideline c.loop-rest.rest.now, c.loop-rest.invariant)
