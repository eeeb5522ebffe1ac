use Rattle.pcache_policies.specs.Fifos.{ends, returns, goes}
use Rattle.pcache_policies.proofs.Words.{◌<◌, ◌≡◌, refl, arith}
use Rattle.pcache_policies.proofs.Queues.{last_none}
use Rattle.pcache_policies.proofs.Rings.{none_of}
use Rattle.pcache_policies.proofs.fifos.Fifos.look_at_main.Goals as goal

pub returns-in_default-clause-ok : goal.returns-in_default-clause-ok
returns-in_default-clause-ok g c = ends refl (last_none c.args.self.now.ring.passed (none_of c.in_ok-key.field-0 _ c.in_ok-key.ensures.ok c.in_default.not-Some)) refl

pub returns-then-seen-gt0-clause-ok : goal.returns-then-seen-gt0-clause-ok
returns-then-seen-gt0-clause-ok g c =
    let (rest, split, passed) = c.pass_again.ensures.passed in
    let used : 0 < c.in-Some.seen.uses = (let more = c.if-seen-gt0.true in omega arith) in
    returns rest c.in-Some.key c.in-Some.seen refl split used c.pass_again.ensures.others.0 c.pass_again.ensures.others.1 passed refl

pub returns-clause-ok : goal.returns-clause-ok
returns-clause-ok g c =
    let idle : c.in-Some.seen.uses ≡ 0 = (let less = c.if-seen-gt0.false in omega arith) in
    goes c.in-Some.key c.in-Some.seen refl c.in_ok-choose_passed.ensures.passed idle c.in_ok-choose_passed.ensures.others.0 c.in_ok-choose_passed.ensures.others.1 refl
