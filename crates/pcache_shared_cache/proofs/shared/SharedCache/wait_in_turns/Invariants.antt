use Rattle.pcache_request.specs.LockUse.{read_in}
use Rattle.pcache_shared_cache.proofs.Words.{◌≡◌, IsSome, Begins, AsksOfWait, asked}
use Rattle.pcache_shared_cache.proofs.shared.SharedCache.wait_in_turns.Given as goal

-- the read lock is held, the request is where it was, its fetch began when it had begun, what it had seen is a beginning of what it has seen, and it asked once a turn
abbrev pub invariant-loop-turn : goal.invariant-loop-turn
invariant-loop-turn g l =
    IsSome (read_in l.request.cache.held) × (l.request.place ≡ l.initial.request.place) × (l.request.fetch ≡ l.initial.request.fetch) × Begins (g.K.Mark.names l.initial.request.place) l.initial.request.seen l.request.seen
    × asked (AsksOfWait l.fn.self g.K.Mark.names l.fn.now) l._turn l.initial.request l.request
