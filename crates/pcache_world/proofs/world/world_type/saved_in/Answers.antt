use Rattle.pcache_world.proofs.Words.{ap, State}
use Rattle.pcache_world.proofs.FilesCalls.{save-answers, save-cause, save-saves}
use Rattle.pcache_world.proofs.world.world_type.saved_in.Goals as goal

pub returns-clause-reply : goal.returns-clause-reply
returns-clause-reply g c = save-answers c.save-saved.result c.saved_reply.result c.saved_reply.ensures c.save-saved.ensures.kinds

pub returns-clause-saved : goal.returns-clause-saved
returns-clause-saved g c = save-saves _ _ (λ saved. (c.parts.inside.manager, ap (λ (v : State). v.tracked) c.parts.view_is, saved)) c.save-saved.result c.saved_reply.result c.saved_reply.ensures c.save-saved.ensures.saved

pub returns-clause-cause : goal.returns-clause-cause
returns-clause-cause g c = save-cause _ c.save-saved.result c.saved_reply.result c.saved_reply.ensures c.save-saved.ensures.unsaved
