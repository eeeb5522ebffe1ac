use Rattle.pcache_c.specs.Managers.{Loads}
use Rattle.pcache_c.proofs.Words.{refl, subst, sym, Object}
use Rattle.pcache_c.specs.declared.object.Object.TheVariants as object
use Rattle.pcache_c.proofs.managers.load.Goals as goal

pub returns-in-Simple : goal.returns-in-Simple
returns-in-Simple c =
    let new : Object = object.Simple c.load_list.new.managed in
    subst (λ a. Loads a new c.args.bytes.now c.load_list.result) (sym c.in-Simple.is) (c.load_list.new.managed, refl, c.load_list.ensures)

pub returns-in-Sharded : goal.returns-in-Sharded
returns-in-Sharded c =
    let new : Object = object.Sharded c.load_shards.new.managed in
    subst (λ a. Loads a new c.args.bytes.now c.load_shards.result) (sym c.in-Sharded.is) (c.load_shards.new.managed, refl, c.load_shards.ensures)
