use Rattle.pcache_c.proofs.Words.{refl}
use Rattle.pcache_c.proofs.Changed.{refused_bytes}
use Rattle.pcache_c.proofs.metas.pcache_meta_read.Goals as goal

pub returns-in-Err : goal.returns-in-Err
returns-in-Err c = refused_bytes c.in-Err.e c.code_of.result _ _ _ c.code_of.ensures.code c.in-Err.ensures.kinds c.in-Err.ensures.refused refl
