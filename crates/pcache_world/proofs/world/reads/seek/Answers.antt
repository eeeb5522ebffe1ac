use Rattle.std.proofs.Common.{option_map}
use Rattle.pcache_store.specs.Store.{Reader}
use Rattle.pcache_world.proofs.Words.{[], Option, Some, subst, Meta, reader_of, KeepsKey, Ongoing, MovesStore, held_with}
use Rattle.pcache_world.proofs.Keeps.{keeps-sought}
use Rattle.pcache_world.proofs.MovesOf.{seeks-to}
use Rattle.pcache_world.proofs.world.reads.seek.Goals as goal

pub returns-clause-moves : goal.returns-clause-moves
returns-clause-moves c s =
    let pair : Option (Meta × Reader) = option_map (λ p. (p.0, reader_of p.1)) c.request.inside.pair in
    subst (λ (x : Ongoing). MovesStore (Some x) s [] (Some (held_with c.request.inside.carried pair c.seek_in.new.cache)) s) c.request.view_is
    (seeks-to c.request.inside.carried c.request.inside.cache c.seek_in.new.cache pair c.args.start c.args.end s c.seek_in.ensures.request)

pub returns-clause-keeps : goal.returns-clause-keeps
returns-clause-keeps c =
    let pair : Option (Meta × Reader) = option_map (λ p. (p.0, reader_of p.1)) c.request.inside.pair in
    subst (λ (x : Ongoing). KeepsKey (Some x) (Some (held_with c.request.inside.carried pair c.seek_in.new.cache))) c.request.view_is
    (keeps-sought c.request.inside.cache c.seek_in.new.cache _ c.args.start c.args.end c.seek_in.ensures.request)
