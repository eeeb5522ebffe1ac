use Rattle.pcache_shared_cache.proofs.Words.{rules, ◌≡◌, ◌+◌, suc, List, Ok, Option, Result, arith, inr, subst, OnOk, ℕ, ErrorType, Poll, Pending, Begins, ReadsBody, asked}
use Rattle.pcache_shared_cache.proofs.Logs.{begins_then}
use Rattle.pcache_shared_cache.proofs.shared.SharedCache.read_in_turns.Goals as goal

pub returns-in_err-read-clause-turns : goal.returns-in_err-read-clause-turns
returns-in_err-read-clause-turns g c =
    let same : c.read_body.result ≡ c.from_residual.result = search rules in
    let failed : OnOk c.from_residual.result ⊥ = search rules in (
      c.loop-turn._turn,
      c.loop-turn.request,
      c.loop-turn.invariant.5,
      inr (
        omega (arith, c.loop-turn-test.true),
        subst (λ (x : Result (Poll (Option (List ℕ))) ErrorType). ReadsBody c.args.self.now g.K.Mark.names c.loop-turn.request c.read_body.new.request x) same (c.read_body.ensures.sees, c.read_body.ensures.place, c.read_body.ensures.fetch),
        λ is. subst (λ (x : Result (Poll (Option (List ℕ))) ErrorType). OnOk x ⊥) is failed,
      ),
    )

pub returns-in_err-read-clause-follows : goal.returns-in_err-read-clause-follows
returns-in_err-read-clause-follows g c =
    let names = g.K.Mark.names in
    let i = c.loop-turn.invariant in
    begins_then (names c.args.request.now.place) c.args.request.now.seen c.loop-turn.request.seen c.read_body.new.request.seen i.4 (subst (λ (n : ℕ). Begins (names n) c.loop-turn.request.seen c.read_body.new.request.seen) i.2 c.read_body.ensures.sees.2.0)

pub loop-turn-preserved : goal.loop-turn-preserved
loop-turn-preserved g c =
    let names = g.K.Mark.names in
    let i = c.loop-turn.invariant in
    let more : suc c.loop-turn._turn ≡ c.loop-turn._turn + 1 = omega arith in
    let pending : c.read_body.result ≡ Ok Pending = search rules in (
      search rules,
      search rules,
      search rules,
      search rules,
      begins_then (names c.args.request.now.place) c.args.request.now.seen c.loop-turn.request.seen c.read_body.new.request.seen i.4 (subst (λ (n : ℕ). Begins (names n) c.loop-turn.request.seen c.read_body.new.request.seen) i.2 c.read_body.ensures.sees.2.0),
      subst (λ (k : ℕ). asked (ReadsBody c.args.self.now names) k c.args.request.now c.read_body.new.request) more (c.loop-turn.request, i.5, subst (λ (x : Result (Poll (Option (List ℕ))) ErrorType). ReadsBody c.args.self.now names c.loop-turn.request c.read_body.new.request x) pending (c.read_body.ensures.sees, c.read_body.ensures.place, c.read_body.ensures.fetch)),
    )
