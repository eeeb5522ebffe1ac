use Rattle.std.proofs.lemmas.List.{take_rest}
use Rattle.pcache_meta.proofs.Words.{◌∙◌, ◌+◌, sym, drop, take, length-drop, arith}
use Rattle.pcache_meta.proofs.HeaderLines.{line_from_short}
use Rattle.pcache_meta.proofs.HeaderScan.{stays_on, past}
use Rattle.pcache_meta.proofs.header_text.reader.split_line.Goals as goal
use Rattle.pcache_meta.proofs.header_text.reader.split_line.Goals.{else-bytes-i-eq13-via-then-bytes-i-eq13+else-bytes-i-eq10, else-bytes-i-eq13-via-else-bytes-i-eq13}

pub returns : goal.returns
returns c =
    let bytes = c.args.bytes.now in
    rw c.unreadable.ensures (sym c.bytes.invariant.read ∙ line_from_short (take c.bytes.i bytes) (drop c.bytes.i bytes) (omega (arith, length-drop c.bytes.i bytes)))

pub bytes-preserved : goal.bytes-preserved
bytes-preserved c = record {
  within = let bound = c.before_return-i.ensures.within in omega (arith, bound, length-drop (c.bytes.i + 1) c.args.bytes.now);
  read =
      stays_on c.args.bytes.now _ (c.bytes.i + 1) c.before_return-i.result (take_rest c.args.bytes.now (c.bytes.i + 1)) c.before_return-i.ensures.stays
      ∙ past c.args.bytes.now c.bytes.i c.bytes-test.true (elim c.else-bytes-i-eq13.branch [
        | else-bytes-i-eq13-via-then-bytes-i-eq13+else-bytes-i-eq10 w ↦ λ a b. w.if-bytes-i-eq10.false b
        | else-bytes-i-eq13-via-else-bytes-i-eq13 w ↦ λ a b. w.if-bytes-i-eq13.false a
      ])
      ∙ c.bytes.invariant.read;
}
