use Rattle.pcache_meta.proofs.Words.{shown}
use Rattle.pcache_meta.proofs.MetaMade.{meta_made}
use Rattle.pcache_meta.proofs.meta.spelled.SpelledMeta.meta.Goals as goal

pub unreachable-requires : goal.unreachable-requires
unreachable-requires c = c.in_default.ensures.refused c.args.self.now.internal c.strings.ensures.spelled.0

pub returns : goal.returns
returns c = record {
  ok =
      meta_made c.in-Ok.internal (shown c.in_ok-header.header) c.args.self.now (c.in-Ok.ensures.same c.args.self.now.internal c.strings.ensures.spelled.0)
      (c.in_ok-header.ensures.ok c.args.self.now.header (rw c.in_ok-copy_from_slice.ensures c.strings.ensures.spelled.1));
}
