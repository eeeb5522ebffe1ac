use Rattle.pcache_files.proofs.Words.{◌∙◌}
use Rattle.pcache_files.proofs.Devices.{taken-more}
use Rattle.pcache_files.proofs.device.write_whole.Goals as goal

pub pieces-preserved : goal.pieces-preserved
pieces-preserved g c = record {
  taken = taken-more (g.W.CountedWrite.contents c.args.to.now) (g.W.CountedWrite.contents c.pieces.to) (g.W.CountedWrite.contents c.write.new.self) c.args.bytes.now c.pieces.rest.now c.in_ok-count.count c.pieces.invariant.taken c.in_ok-count.ensures.bytes;
  count = c.in_ok-count.ensures.counted ∙ c.pieces.invariant.count;
}
