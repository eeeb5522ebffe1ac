use Rattle.pcache_policies.specs.Sieve.{Sieve, entries}
use Rattle.pcache_policies.proofs.Words.{◌∙◌, ap, map_of}
use Rattle.pcache_policies.proofs.Seens.{whole_weight}
use Rattle.pcache_policies.proofs.fifos.FifosDiscipline.choose.Goals as goal

pub returns-clause-heavy : goal.returns-clause-heavy
returns-clause-heavy g c =
    whole_weight c.args.self.now.ring c.make_room.new.self.ring c.len.ensures.once c.leaving_len.ensures.once
    (c.make_room.ensures.same ∙ ap (λ (s : Sieve). map_of (entries s)) c.settle.ensures.shown)
