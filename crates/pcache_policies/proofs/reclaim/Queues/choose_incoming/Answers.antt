use Rattle.std.proofs.Common.{◌/◌}
use Rattle.pcache_policies.proofs.Words.{◌≡◌, ◌∷◌, ◌∙◌, take, refl, ap, forgotten, remembered}
use Rattle.pcache_policies.proofs.Queues.{last_none}
use Rattle.pcache_policies.proofs.Rings.{none_of}
use Rattle.pcache_policies.proofs.reclaim.Queues.choose_incoming.Goals as goal

pub returns-in_default-clause-ok : goal.returns-in_default-clause-ok
returns-in_default-clause-ok g c = absurd (c.requires (last_none c.args.self.now.ring.passed (none_of c.in_ok-key.field-0 _ c.in_ok-key.ensures.ok c.in_default.not-Some)))

pub returns-clause-ok : goal.returns-clause-ok
returns-clause-ok g c =
    record {
      key = c.in-Some.key;
      seen = c.in-Some.seen;
      passed = c.in_ok-choose_passed.ensures.passed;
      leaving = c.in_ok-choose_passed.ensures.others.0;
      ahead = c.in_ok-choose_passed.ensures.others.1;
      ghosts = c.in_ok-add_within.ensures.ok ∙ ap (λ k. take (c.left_len.result / 2) (k ∷ forgotten k c.args.self.now.ghosts)) c.in_ok-copy.ensures.ok
          ∙ ap (λ n. remembered c.in-Some.key n c.args.self.now.ghosts) c.left_len.ensures;
    }
