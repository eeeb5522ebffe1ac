use Rattle.cache_simulation.proofs.SideBySide.{makes-both}
use Rattle.cache_simulation.proofs.side_by_side.+halves.Goals as goal

pub play_each-returns-clause-served : goal.play_each-returns-clause-served
play_each-returns-clause-served g t c =
    makes-both c.args.requests.now c.args.caches.now _ _ _ _ c.split_at_mut-some.ensures.value c.in_ok-play_both.ensures.some c.in_ok-play_both.ensures.others
