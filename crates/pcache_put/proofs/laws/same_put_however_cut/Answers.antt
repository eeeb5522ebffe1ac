use Rattle.pcache_put.proofs.Results.{one_result}
use Rattle.pcache_put.proofs.laws.same_put_however_cut.Goals as goal

pub returns : goal.returns
returns g c = λ unique limit bytes now o q h k. one_result (g.C.CachePut.says c.args.policy.now) limit bytes now o q unique h k
