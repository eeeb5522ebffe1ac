use Rattle.pcache_lock.proofs.Calls.{finds_the_waiting}
use Rattle.pcache_lock.proofs.lock.laws.request_finds_the_waiting.Goals as goal

pub returns : goal.returns
returns c = finds_the_waiting
