use Rattle.pcache_policies.specs.Fifos.{moves, leaves}
use Rattle.pcache_policies.proofs.Words.{◌≡◌, ◌≤◌, ◌<◌, ◌∙◌, refl, ap, arith, ghosted}
use Rattle.pcache_policies.proofs.Queues.{last_none}
use Rattle.pcache_policies.proofs.Rings.{none_of}
use Rattle.pcache_policies.proofs.fifos.Fifos.look_at_small.Goals as goal

pub returns-in_default-clause-ok : goal.returns-in_default-clause-ok
returns-in_default-clause-ok g c = absurd (c.requires (last_none c.args.self.now.ring.ahead (none_of c.in_ok-key.field-0 _ c.in_ok-key.ensures.ok c.in_default.not-Some)))

pub returns-then-seen-gt1-clause-ok : goal.returns-then-seen-gt1-clause-ok
returns-then-seen-gt1-clause-ok g c =
    let used : 1 < c.in-Some.seen.uses = (let more = c.if-seen-gt1.true in omega arith) in
    moves c.in-Some.key c.in-Some.seen c.in_ok-pass_unused.ensures.ahead used c.in_ok-pass_unused.ensures.others.0 c.in_ok-pass_unused.ensures.others.1 refl

pub returns-clause-ok : goal.returns-clause-ok
returns-clause-ok g c =
    let few : c.in-Some.seen.uses ≤ 1 = (let less = c.if-seen-gt1.false in omega arith) in
    leaves c.in-Some.key c.in-Some.seen c.in_ok-choose_ahead.ensures.ahead few c.in_ok-choose_ahead.ensures.others.0 c.in_ok-choose_ahead.ensures.others.1
    (c.in_ok-add.ensures.ok ∙ ap (λ k. ghosted k c.left_len.result c.args.self.now.ghosts) c.in_ok-copy.ensures.ok ∙ ap (λ n. ghosted c.in-Some.key n c.args.self.now.ghosts) c.left_len.ensures)
