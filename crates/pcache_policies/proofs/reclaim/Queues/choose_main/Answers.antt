use Rattle.pcache_policies.specs.Reclaim.{ends, goes}
use Rattle.pcache_policies.proofs.Words.{◌≡◌, [], refl}
use Rattle.pcache_policies.proofs.Queues.{last_none}
use Rattle.pcache_policies.proofs.Rings.{none_of}
use Rattle.pcache_policies.proofs.reclaim.Queues.choose_main.Goals as goal

pub returns-in_default-clause-ok : goal.returns-in_default-clause-ok
returns-in_default-clause-ok g c =
    let empty : c.args.self.now.ring.ahead ≡ [] = last_none c.args.self.now.ring.ahead (none_of c.in_ok-key.field-0 _ c.in_ok-key.ensures.ok c.in_default.not-Some) in
    ends refl empty (c.requires.none empty) refl

pub returns-clause-ok : goal.returns-clause-ok
returns-clause-ok g c =
    goes refl c.requires.next
    (record {
      key = c.in-Some.key;
      seen = c.in-Some.seen;
      ahead = c.in_ok-choose_ahead.ensures.ahead;
      leaving = c.in_ok-choose_ahead.ensures.others.0;
      passed = c.in_ok-choose_ahead.ensures.others.1;
      ghosts = refl;
    })
