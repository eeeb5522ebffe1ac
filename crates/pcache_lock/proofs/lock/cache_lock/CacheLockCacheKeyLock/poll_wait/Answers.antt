use Rattle.pcache_lock.proofs.Past.{grows, polls_told}
use Rattle.pcache_lock.proofs.lock.cache_lock.CacheLockCacheKeyLock.poll_wait.Goals as goal

pub invariant_of-self-2 : goal.invariant_of-self-2
invariant_of-self-2 c =
    let table = c.self.inside.bare in
    let is = c.in_ok-answer.ensures.answer in
    let ok = c.in_ok-answer.ensures.ok in
    rw (c.then-self-inside.ensures, c.number-number.ensures, c.tells_old.ensures)
    (grows table c.poll_wait.new.self c.self.inside.past.deeds _ c.self.invariant (search (polls_told, is, ok)))
