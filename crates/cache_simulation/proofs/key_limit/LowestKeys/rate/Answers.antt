use Rattle.cache_simulation.proofs.Words.{◌≡◌, ◌<◌, arith, HasLowest, IsLargestRate}
use Rattle.cache_simulation.proofs.Ranks.{all_fit, first_out}
use Rattle.cache_simulation.proofs.key_limit.LowestKeys.rate.Goals as goal

pub returns-then-len-self : goal.returns-then-len-self
returns-then-len-self c = λ hashes h. all_fit c.args.self.now.most hashes c.args.self.now.ranks.keys h.small h.lowest (omega (arith, c.len.ensures.len, c.if-len-self.true))

pub returns-in-Some : goal.returns-in-Some
returns-in-Some c = λ hashes h. first_out c.args.self.now.most c.in-Some.rank.now hashes c.args.self.now.ranks.keys h.small h.lowest (omega (arith, c.len.ensures.len, c.if-len-self.false)) c.in-Some.ensures.last
