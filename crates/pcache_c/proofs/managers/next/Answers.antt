use Rattle.pcache_c.proofs.Words.{refl, as_manager, managing_list, managing_shards}
use Rattle.pcache_c.specs.declared.object.Object.TheVariants as object
use Rattle.pcache_c.proofs.Changed.{turned}
use Rattle.pcache_c.proofs.managers.next.Goals as goal

pub returns-in-Simple-clause-hands : goal.returns-in-Simple-clause-hands
returns-in-Simple-clause-hands c =
    turned as_manager _ _ _ _ (object.Simple c.in-Simple.managed) (managing_list c.in-Simple.managed) (managing_list c.next.new.self) c.in-Simple.is refl refl c.next.ensures.hands

pub returns-in-Sharded-clause-hands : goal.returns-in-Sharded-clause-hands
returns-in-Sharded-clause-hands c =
    turned as_manager _ _ _ _ (object.Sharded c.in-Sharded.managed) (managing_shards c.in-Sharded.managed) (managing_shards c.next-in-Sharded.new.self) c.in-Sharded.is refl refl c.next-in-Sharded.ensures.hands
