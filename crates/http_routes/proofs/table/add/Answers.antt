use Rattle.http_routes.proofs.Inserting.{inserted_route}
use Rattle.http_routes.proofs.table.add.Goals as goal

pub returns : goal.returns
returns c = inserted_route _ _ _ _ _ c.template.ensures c.insert.ensures
