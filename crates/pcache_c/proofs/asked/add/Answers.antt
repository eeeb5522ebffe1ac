use Rattle.pcache_c.specs.Objects.{as_asked}
use Rattle.pcache_c.proofs.Words.{refl}
use Rattle.pcache_c.specs.declared.object.Object.TheVariants as object
use Rattle.pcache_c.proofs.Changed.{turned}
use Rattle.pcache_c.proofs.asked.add.Goals as goal

pub returns-in-Asked : goal.returns-in-Asked
returns-in-Asked c =
    turned as_asked _ _ _ _ (object.Asked c.in-Asked.head) c.in-Asked.head c.add_to.new.head c.in-Asked.is refl refl c.add_to.ensures
