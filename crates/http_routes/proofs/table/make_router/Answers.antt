use Rattle.http_routes.specs.Routes.{table_rows, with_routes, all_routes}
use Rattle.http_routes.specs.declared.route.Route.TheVariants as routes
use Rattle.http_routes.proofs.Inserting.{next}
use Rattle.http_routes.proofs.table.make_router.Goals as goal

pub returns : goal.returns
unfolding table_rows with_routes all_routes
returns c =
    next routes.Permits _ _ _ c.in_ok-add-11.ensures (next routes.Plan _ _ _ c.in_ok-add-10.ensures (next routes.Withdraw _ _ _ c.in_ok-add-9.ensures
    (next routes.Reject _ _ _ c.in_ok-add-8.ensures (next routes.Approve _ _ _ c.in_ok-add-7.ensures (next routes.Deviations _ _ _ c.in_ok-add-6.ensures
    (next routes.Claim _ _ _ c.in_ok-add-5.ensures (next routes.Summary _ _ _ c.in_ok-add-4.ensures (next routes.Findings _ _ _ c.in_ok-add-3.ensures
    (next routes.Revisions _ _ _ c.in_ok-add-2.ensures (next routes.Projects _ _ _ c.in_ok-add.ensures c.new-router.ensures))))))))))
