use Rattle.std.proofs.Common.{◌≡◌, ◌∙◌, refl, ap, sym, subst, [], ◌∷◌, Some, inl, inr}
use Rattle.flow_points.specs.declared.transfer.Transfer.TheVariants.{Next, Create}
use Rattle.flow_points.specs.Transfers.{callee_of}
use Rattle.flow_points.specs.Graphs.{Has, entry_of, transfer_at}
use Rattle.flow_points.specs.PointLists.{at, point_at, next_points, behind, returns_to}
use Rattle.flow_points.specs.Frames.{LeadsOn}
use Rattle.flow_points.proofs.Numbers.{entered, stand_leads, called_by, not_called}
use Rattle.flow_points.proofs.points.NumberedPoints.onward.Goals as goal

pub function-requires : goal.function-requires
function-requires c =
    let points = c.args.self.now in
    let calls : callee_of (transfer_at points.graph c.stand-stand.result.action) ≡ Some c.in-Call.callee = ap callee_of (sym c.in-Call.ensures) in
    (entered points c.args.point c.stand-stand.result c.stand-stand.ensures c.in-Call.callee calls).exists

pub returns-in-Call : goal.returns-in-Call
returns-in-Call c =
    let points = c.args.self.now in
    let is = c.stand-stand.ensures in
    let callee = c.in-Call.callee in
    let calls : callee_of (transfer_at points.graph c.stand-stand.result.action) ≡ Some callee = ap callee_of (sym c.in-Call.ensures) in
    let frame = entered points c.args.point c.stand-stand.result is callee calls in
    let entry : entry_of points.graph callee ≡ c.function.result.entry = sym c.function.ensures.entry in (
      c.stand-stand.result.action ∷ is.comes.string,
      record { function = callee; frame = frame; has = subst (Has points.graph callee) entry (points.whole.entries callee frame.exists) },
      stand_leads points c.args.point c.stand-stand.result is _ c.in-Call.ensures ∙ ap (λ a. at (c.stand-stand.result.action ∷ is.comes.string) a ∷ []) entry,
    )

pub returns-in-Some : goal.returns-in-Some
returns-in-Some c =
    let points = c.args.self.now in
    let is = c.stand-stand.ensures in
    let caller = c.in-Some.caller in
    let called = called_by points.graph is.comes.string c.stand-stand.result.caller caller c.in-Some.is is.comes.calls in
    let leads : next_points points.graph (point_at points.graph c.args.point) ≡ returns_to points.graph caller.action called.rest (transfer_at points.graph caller.action) =
    stand_leads points c.args.point c.stand-stand.result is _ c.in-Return.ensures ∙ ap (behind points.graph) called.is in
    subst (LeadsOn points.graph c.behind.result) (sym leads)
    (c.behind.ensures called.rest (record { action = refl; function = called.function; frame = called.frame; has = called.has }))

pub returns-in-None : goal.returns-in-None
returns-in-None c =
    let points = c.args.self.now in
    let is = c.stand-stand.ensures in
    stand_leads points c.args.point c.stand-stand.result is _ c.in-Return.ensures
    ∙ ap (behind points.graph) (not_called points.graph is.comes.string c.stand-stand.result.caller c.in-None.is is.comes.calls)

pub returns-in-Exit : goal.returns-in-Exit
returns-in-Exit c = stand_leads c.args.self.now c.args.point c.stand-stand.result c.stand-stand.ensures _ c.in-Exit.ensures

pub returns-in-Next : goal.returns-in-Next
returns-in-Next c =
    let points = c.args.self.now in
    let is = c.stand-stand.ensures in
    let action = c.stand-stand.result.action in
    let leads = stand_leads points c.args.point c.stand-stand.result is in (
      is.comes.string,
      record { function = c.stand-stand.result.function; frame = is.comes.frame; has = is.has },
      elim c.in-Next.is [
        | inl e ↦ leads Next (sym e ∙ c.transfer.ensures)
        | inr e ↦ leads (Create e.0) (sym e.1 ∙ c.transfer.ensures)
      ],
    )
