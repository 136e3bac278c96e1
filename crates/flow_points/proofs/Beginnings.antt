-- How threads begin.
use Rattle.std.proofs.Common.{◌≡◌, ◌<◌, ℕ, zero, suc, true, refl, ap, [], length, get_or, Option, Some, arith}
use Rattle.std.specs.Prelude.{unwrap_or}
use Rattle.std.proofs.lemmas.Bool.{false≢true}
use Rattle.std.proofs.lemmas.Option.{slice_get-get_or}
use Rattle.flow_points.specs.declared.transfer.Transfer.{Transfer}
use Rattle.flow_points.specs.declared.transfer.Transfer.TheVariants.{Next, Call, Create, Return, Exit}
use Rattle.flow_points.specs.Transfers.{callee_of}
use Rattle.flow_points.specs.declared.points.NumberedPoints.{NumberedPoints}
use Rattle.flow_points.specs.Graphs.{transfer_at, entry_of}
use Rattle.flow_points.specs.PointLists.{points_of, point_at, returns_to}
use Rattle.flow_points.specs.Strings.{LeadsTo, initial, by_call}
use Rattle.flow_points.specs.Threads.{creates, is_creation, creations_of, EachThreadBegins, first_of_created}
use Rattle.flow_points.proofs.Creations.{passed}
use Rattle.flow_points.proofs.Numbering.{at_number, is_at}

-- what a creation does to control
created_by : (t : Transfer) → creates t ≡ true → (function : ℕ) × (t ≡ Create function)
created_by (Create function) e = (function, refl)
created_by Next e = elim (false≢true e) [ ]
created_by (Call function) e = elim (false≢true e) [ ]
created_by Return e = elim (false≢true e) [ ]
created_by Exit e = elim (false≢true e) [ ]

begins_at : (points : NumberedPoints) (creation : ℕ) → creation < length (points_of points.graph) → is_creation points.graph creation ≡ true
    → (function : ℕ) × LeadsTo points.graph (first_of_created points.graph (point_at points.graph creation)).string function
    × ((first_of_created points.graph (point_at points.graph creation)).action ≡ entry_of points.graph function)
    × (returns_to points.graph (point_at points.graph creation).action (point_at points.graph creation).string (transfer_at points.graph (point_at points.graph creation).action) ≡ [])
begins_at points creation below is =
    let graph = points.graph in
    let point = point_at graph creation in
    let made = created_by (transfer_at graph point.action) is in
    let calls : callee_of (transfer_at graph point.action) ≡ Some made.0 = ap callee_of made.1 in
    let here = (at_number points creation point (is_at graph creation below)).is in (
      made.0,
      by_call point.string here.function point.action made.0 here.leads here.has calls,
      ap (λ (o : Option ℕ). entry_of graph (unwrap_or o 0)) calls,
      ap (returns_to graph point.action point.string) made.1,
    )

pub each_thread_begins : (points : NumberedPoints) → EachThreadBegins points.graph
unfolding creations_of
each_thread_begins points zero l = record { function = points.graph.main; leads = initial; entry = refl; ends = refl }
each_thread_begins points (suc thread) l =
    let graph = points.graph in
    let creation = get_or (creations_of graph) thread 0 in
    let found = passed (is_creation graph) 0 (length (points_of graph)) thread creation (slice_get-get_or (creations_of graph) thread 0 (omega arith)) in
    let begins = begins_at points creation (omega (arith, found.0)) found.1 in
    record { function = begins.0; leads = begins.1; entry = begins.2; ends = begins.3 }
