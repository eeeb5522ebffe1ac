use Rattle.pcache_world.proofs.Words.{refl, TransientError}
use Rattle.pcache_world.proofs.LockSteps.{none_noted}
use Rattle.pcache_world.proofs.world.look.look_up.Goals as goal

pub returns-in-Err-clause-locks : goal.returns-in-Err-clause-locks
returns-in-Err-clause-locks c n = none_noted n c.args.now TransientError c.args.events.now.items c.args.request.now.request.held c.args.request.now.request.held c.args.lock.now.table c.args.lock.now.table c.requires.none refl refl
