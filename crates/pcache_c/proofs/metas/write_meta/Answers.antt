use Rattle.pcache_c.proofs.Words.{rules}
use Rattle.pcache_c.proofs.MetaBytes.{meta_saved}
use Rattle.pcache_c.proofs.metas.write_meta.Goals as goal

pub returns-in-Ok : goal.returns-in-Ok
returns-in-Ok c =
    meta_saved _ c.in-Ok.first.items c.in-Ok.second.items _ _ _ _ _ _ _ _ _ c.in-Ok.ensures.written_internal c.in-Ok.ensures.written_header c.in-Ok.ensures.spelled
    c.as_slice.ensures.value c.as_slice-in-Ok.ensures.value (search rules) (search rules) c.write_both.ensures
