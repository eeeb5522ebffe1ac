use Rattle.pcache_lock.proofs.Words.{ap, ◌∙◌, as_nanos, Made}
use Rattle.pcache_lock.proofs.Past.{grows}
use Rattle.pcache_lock.proofs.lock.cache_lock.CacheLock.new_permit.Goals as goal

pub invariant_of-self-2 : goal.invariant_of-self-2
invariant_of-self-2 c =
    rw c.then-self-inside.ensures
    (grows c.self.inside.bare c.new_permit.new.self c.self.inside.past.deeds (Made c.number.result (as_nanos c.args.age_timeout) c.args.stale_writer c.args.now) c.self.invariant
    (c.number.ensures ∙ ap (λ p. p.number) c.in_ok-permit.ensures.permit, c.in_ok-permit.ensures.ok))
