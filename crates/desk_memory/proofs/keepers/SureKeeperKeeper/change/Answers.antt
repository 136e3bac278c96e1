use Rattle.desk_memory.proofs.Changed.{changed_keyed}
use Rattle.desk_memory.specs.Stores.{tables_of}
use Rattle.desk_memory.proofs.keepers.SureKeeperKeeper.change.Goals as goal

pub invariant_of-self : goal.invariant_of-self
invariant_of-self c =
    record { keyed = changed_keyed c.change.result c.args.change.now (tables_of c.args.self.now.store) (tables_of c.change.new.self) c.change.ensures c.args.self.now.keyed }
