-- The table of paths, as the router takes it, and what a path of it names.
use Rattle.std.specs.Prelude.{ℕ, List, [], ◌∷◌, codes, Result, Ok, Err, Option, Some, None, option_map, option_and_then}
use Rattle.matchit.specs.Rows.{RowsOf}
use Rattle.matchit.specs.Route.{Scan, parse_route}
use Rattle.matchit.specs.Order.{placed}
use Rattle.matchit.specs.Router.{RouteOf, route_from}
use Rattle.matchit.specs.Seek.{first}
use Rattle.matchit.specs.declared.error.InsertError.{InsertError}
use Rattle.http_responses.specs.declared.method.Method.{Method}
use Rattle.http_responses.specs.declared.method.Method.TheVariants as methods
use Rattle.http_routes.specs.Paths.{deviation_in, project_in}
use Rattle.http_routes.specs.declared.route.Route.{Route}
use Rattle.http_routes.specs.declared.route.Route.TheVariants as routes
use Rattle.http_routes.specs.declared.resource.Resource.{Resource}
use Rattle.http_routes.specs.declared.resource.Resource.TheVariants as resources

abbrev pub template_of : Route → List ℕ
template_of routes.Projects = codes "/projects"
template_of routes.Revisions = codes "/projects/{project}/revisions"
template_of routes.Findings = codes "/projects/{project}/findings"
template_of routes.Summary = codes "/projects/{project}/summary"
template_of routes.Claim = codes "/projects/{project}/claim"
template_of routes.Deviations = codes "/projects/{project}/deviations"
template_of routes.Approve = codes "/projects/{project}/deviations/{deviation}/approve"
template_of routes.Reject = codes "/projects/{project}/deviations/{deviation}/reject"
template_of routes.Withdraw = codes "/projects/{project}/deviations/{deviation}/withdraw"
template_of routes.Plan = codes "/projects/{project}/plan"
template_of routes.Permits = codes "/permits"

-- reads are asked by GET, and all else by POST
abbrev pub method_of : Route → Method
method_of routes.Projects = methods.Post
method_of routes.Revisions = methods.Post
method_of routes.Findings = methods.Get
method_of routes.Summary = methods.Get
method_of routes.Claim = methods.Get
method_of routes.Deviations = methods.Post
method_of routes.Approve = methods.Post
method_of routes.Reject = methods.Post
method_of routes.Withdraw = methods.Post
method_of routes.Plan = methods.Post
method_of routes.Permits = methods.Post

abbrev pub route_of : Resource → Route
route_of resources.Projects = routes.Projects
route_of (resources.Revisions project) = routes.Revisions
route_of (resources.Findings project) = routes.Findings
route_of (resources.Summary project) = routes.Summary
route_of (resources.Claim project) = routes.Claim
route_of (resources.Deviations project) = routes.Deviations
route_of (resources.Approve project deviation) = routes.Approve
route_of (resources.Reject project deviation) = routes.Reject
route_of (resources.Withdraw project deviation) = routes.Withdraw
route_of (resources.Plan project) = routes.Plan
route_of resources.Permits = routes.Permits

-- ---- the router

-- the rows with what a route's text gives
unfoldable pub placed_read : Result Scan InsertError → Route → RowsOf (RouteOf Route) → RowsOf (RouteOf Route)
placed_read (Ok scan) route rows = placed ((route_from scan route).pattern, route_from scan route) rows
placed_read (Err error) route rows = rows

-- the rows with one more route
abbrev pub with_route : Route → RowsOf (RouteOf Route) → RowsOf (RouteOf Route)
with_route route rows = placed_read (parse_route (template_of route)) route rows

unfoldable pub with_routes : List Route → RowsOf (RouteOf Route) → RowsOf (RouteOf Route)
with_routes [] rows = rows
with_routes (route ∷ rest) rows = with_routes rest (with_route route rows)

unfoldable pub all_routes : List Route
all_routes =
    routes.Projects ∷ routes.Revisions ∷ routes.Findings ∷ routes.Summary ∷ routes.Claim ∷ routes.Deviations
    ∷ routes.Approve ∷ routes.Reject ∷ routes.Withdraw ∷ routes.Plan ∷ routes.Permits ∷ []

unfoldable pub table_rows : RowsOf (RouteOf Route)
table_rows = with_routes all_routes []

-- ---- what a path names

abbrev pub resource_at : Route → List ℕ → Option Resource
resource_at routes.Projects path = Some resources.Projects
resource_at routes.Revisions path = Some (resources.Revisions (project_in path))
resource_at routes.Findings path = Some (resources.Findings (project_in path))
resource_at routes.Summary path = Some (resources.Summary (project_in path))
resource_at routes.Claim path = Some (resources.Claim (project_in path))
resource_at routes.Deviations path = Some (resources.Deviations (project_in path))
resource_at routes.Approve path = option_map (resources.Approve (project_in path)) (deviation_in path)
resource_at routes.Reject path = option_map (resources.Reject (project_in path)) (deviation_in path)
resource_at routes.Withdraw path = option_map (resources.Withdraw (project_in path)) (deviation_in path)
resource_at routes.Plan path = Some (resources.Plan (project_in path))
resource_at routes.Permits path = Some resources.Permits

-- a path that the router matches with no route, or that has no number where one is wanted, names nothing
abbrev pub resource_of : List ℕ → Option Resource
resource_of path = option_and_then (λ found. resource_at found.value path) (first table_rows path)
