use Rattle.cache_simulation.proofs.Words.{◌++◌, arith, All-same, StandsIn}
use Rattle.cache_simulation.proofs.SideBySide.{written-back}
use Rattle.cache_simulation.proofs.runs.Runs.play.Goals as goal

pub returns-clause-served : goal.returns-clause-served
returns-clause-served g c = λ before asked stands.
    let setting = c.args.self.now.setting in
    let own = c.args.self.now.caches.items in
    written-back (StandsIn setting before (asked ++ c.args.requests.now)) c.play_each.new.caches _ _ (let same = c.as_mut_slice.ensures.len in let kept = c.play_each.auto.caches in omega arith)
    (c.in_ok-play_each.ensures.served.each setting before asked (All-same (StandsIn setting before asked) c.as_mut_slice.result.now own c.as_mut_slice.ensures.value stands))
