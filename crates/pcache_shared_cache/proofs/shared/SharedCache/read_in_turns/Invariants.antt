use Rattle.pcache_shared_cache.proofs.Words.{◌≡◌, IsSome, Begins, ReadsBody, asked}
use Rattle.pcache_shared_cache.proofs.shared.SharedCache.read_in_turns.Given as goal

-- a reader is there, the request is where it was, its fetch began when it had begun, what it had seen is a beginning of what it has seen, and it read once a turn
abbrev pub invariant-loop-turn : goal.invariant-loop-turn
invariant-loop-turn g l =
    IsSome l.request.cache.reader × (l.request.cache.phase ≡ l.initial.request.cache.phase) × (l.request.place ≡ l.initial.request.place) × (l.request.fetch ≡ l.initial.request.fetch) × Begins (g.K.Mark.names l.initial.request.place) l.initial.request.seen l.request.seen
    × asked (ReadsBody l.fn.self g.K.Mark.names) l._turn l.initial.request l.request
