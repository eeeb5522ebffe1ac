use Rattle.pcache_c.proofs.Words.{refl, as_manager, managing_list, managing_shards}
use Rattle.pcache_c.specs.declared.object.Object.TheVariants as object
use Rattle.pcache_c.proofs.Changed.{turned}
use Rattle.pcache_c.proofs.managers.access.Goals as goal

pub returns-in-Simple : goal.returns-in-Simple
returns-in-Simple c =
    turned as_manager _ _ _ _ (object.Simple c.in-Simple.managed) (managing_list c.in-Simple.managed) (managing_list c.access.new.self) c.in-Simple.is refl refl c.access.ensures

pub returns-in-Sharded : goal.returns-in-Sharded
returns-in-Sharded c =
    turned as_manager _ _ _ _ (object.Sharded c.in-Sharded.managed) (managing_shards c.in-Sharded.managed) (managing_shards c.access-in-Sharded.new.self) c.in-Sharded.is refl refl c.access-in-Sharded.ensures
