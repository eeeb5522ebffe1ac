use Rattle.pcache_policies.proofs.Words.{◌≡◌, ◌∷◌, ◌∙◌, Some, arith, sym, subst, ap, LruCache, CacheEntryKey, Seen, seen_of, rest_of}
use Rattle.pcache_policies.proofs.Queues.{kept-promoted, promoted-first}
use Rattle.pcache_policies.proofs.queue.Queue.promote.Goals as goal

pub invariant_of-self : goal.invariant_of-self
invariant_of-self g c = kept-promoted c.self.inside.cache c.promote.new.self c.self.inside.weight c.args.item.now c.self.invariant c.promote.ensures.entries (let few = c.len.ensures.fits in let len = c.len.ensures.len in omega arith)

pub returns : goal.returns
returns g c = λ v h.
    ap (λ (c : LruCache CacheEntryKey Seen). c.entries) c.promote.ensures.entries
    ∙ promoted-first c.args.item.now c.self.inside.cache.entries v c.self.invariant.once (ap (seen_of c.args.item.now) c.self.view_is ∙ h)
    ∙ ap (λ q. (c.args.item.now, v) ∷ rest_of c.args.item.now q) c.self.view_is
