-- What an insert that is accepted makes of the rows.
use Rattle.std.proofs.Common.{◌≡◌, ℕ, List, Some, None, option_and_then, ap, subst, sym, ◌∙◌, Result, Ok, Err, OnOk}
use Rattle.matchit.specs.Rows.{RowsOf}
use Rattle.matchit.specs.Route.{Scan, parse_route}
use Rattle.matchit.specs.Router.{RouteOf, InsertsRead}
use Rattle.matchit.specs.Seek.{first}
use Rattle.matchit.specs.declared.error.InsertError.{InsertError}
use Rattle.http_routes.specs.declared.route.Route.{Route}
use Rattle.http_routes.specs.Routes.{placed_read, resource_at, resource_of, table_rows, template_of, with_route}

inserted : (read : Result Scan InsertError) (route : Route) (old new : RowsOf (RouteOf Route)) (result : Result (Unit {0}) InsertError)
    → InsertsRead read route old new result → OnOk result (new ≡ placed_read read route old)
unfolding placed_read
inserted (Ok scan) route old new (Ok done) inserts = inserts.1
inserted (Ok scan) route old new (Err error) inserts = tt
inserted (Err error) route old new (Ok done) inserts = inserts.0
inserted (Err error) route old new (Err other) inserts = tt

pub inserted_route : (text : List ℕ) (route : Route) (old new : RowsOf (RouteOf Route)) (result : Result (Unit {0}) InsertError)
    → text ≡ template_of route → InsertsRead (parse_route text) route old new result → OnOk result (new ≡ with_route route old)
inserted_route text route old new result is inserts =
    subst (λ t. OnOk result (new ≡ placed_read (parse_route t) route old)) is (inserted (parse_route text) route old new result inserts)

pub next : (route : Route) (old new rows : RowsOf (RouteOf Route)) → new ≡ with_route route old → old ≡ rows → new ≡ with_route route rows
next route old new rows inserts same = inserts ∙ ap (with_route route) same

-- ---- what the router's answers say of a path

pub routed : (rows : RowsOf (RouteOf Route)) (path target : List ℕ) (found : RouteOf Route) → rows ≡ table_rows → path ≡ target → first rows path ≡ Some found
    → resource_of target ≡ resource_at found.value target
routed rows path target found rows_are path_is is =
    ap (option_and_then (λ route. resource_at route.value target)) (ap (λ l. first l target) (sym rows_are) ∙ ap (first rows) (sym path_is) ∙ is)

pub unrouted : (rows : RowsOf (RouteOf Route)) (path target : List ℕ) → rows ≡ table_rows → path ≡ target → first rows path ≡ None
    → resource_of target ≡ None
unrouted rows path target rows_are path_is is =
    ap (option_and_then (λ route. resource_at route.value target)) (ap (λ l. first l target) (sym rows_are) ∙ ap (first rows) (sym path_is) ∙ is)
