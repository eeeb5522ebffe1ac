use Rattle.pcache_shared_cache.proofs.Words.{rules, ◌≡◌, ◌+◌, suc, Ok, Result, arith, inr, subst, OnOk, ℕ, ErrorType, Poll, Pending, LockWaitOutcome, Begins, AsksOfWait, asked}
use Rattle.pcache_shared_cache.proofs.Logs.{begins_then, goes_begins}
use Rattle.pcache_shared_cache.proofs.shared.SharedCache.wait_in_turns.Goals as goal

pub returns-in_err-told-clause-turns : goal.returns-in_err-told-clause-turns
returns-in_err-told-clause-turns g c =
    let same : c.cache_lock_wait.result ≡ c.from_residual.result = search rules in
    let failed : OnOk c.from_residual.result ⊥ = search rules in (
      c.loop-turn._turn,
      c.loop-turn.request,
      c.loop-turn.invariant.4,
      inr (
        omega (arith, c.loop-turn-test.true),
        subst (λ (x : Result (Poll LockWaitOutcome) ErrorType). AsksOfWait c.args.self.now g.K.Mark.names c.args.now c.loop-turn.request c.cache_lock_wait.new.request x) same (c.cache_lock_wait.ensures.goes, c.cache_lock_wait.ensures.place, c.cache_lock_wait.ensures.fetch),
        λ is. subst (λ (x : Result (Poll LockWaitOutcome) ErrorType). OnOk x ⊥) is failed,
      ),
    )

pub loop-turn-preserved : goal.loop-turn-preserved
loop-turn-preserved g c =
    let names = g.K.Mark.names in
    let i = c.loop-turn.invariant in
    let more : suc c.loop-turn._turn ≡ c.loop-turn._turn + 1 = omega arith in
    let pending : c.cache_lock_wait.result ≡ Ok Pending = search rules in (
      search rules,
      search rules,
      search rules,
      begins_then (names c.args.request.now.place) c.args.request.now.seen c.loop-turn.request.seen c.cache_lock_wait.new.request.seen i.3
          (subst (λ (n : ℕ). Begins (names n) c.loop-turn.request.seen c.cache_lock_wait.new.request.seen) i.1 (goes_begins c.args.self.now names c.loop-turn.request.place c.loop-turn.request.seen c.cache_lock_wait.new.request.seen c.cache_lock_wait.ensures.goes)),
      subst (λ (k : ℕ). asked (AsksOfWait c.args.self.now names c.args.now) k c.args.request.now c.cache_lock_wait.new.request) more (c.loop-turn.request, i.4, subst (λ (x : Result (Poll LockWaitOutcome) ErrorType). AsksOfWait c.args.self.now names c.args.now c.loop-turn.request c.cache_lock_wait.new.request x) pending (c.cache_lock_wait.ensures.goes, c.cache_lock_wait.ensures.place, c.cache_lock_wait.ensures.fetch)),
    )
