use Rattle.pcache_c.proofs.Words.{Some, ap, refl, sym, as_cache}
use Rattle.pcache_c.specs.declared.object.Object.TheVariants as object
use Rattle.pcache_c.proofs.Changed.{turned}
use Rattle.pcache_c.proofs.handed.hand_permit.Goals as goal

pub returns-in-Cache : goal.returns-in-Cache
returns-in-Cache c =
    turned as_cache _ _ _ _ (object.Cache c.in-Cache.served) c.deref_mut.result.now c.hand_on.new.served c.in-Cache.is (ap Some (sym c.deref_mut.ensures.value)) refl c.hand_on.ensures
