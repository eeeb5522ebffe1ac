use Rattle.pcache_files.specs.FileReading.{tag_at}
use Rattle.pcache_files.proofs.Words.{arith, ◌-◌, ◌∙◌, ap, sym, length, drop}
use Rattle.pcache_files.proofs.Whole.{not_longer, dropped, tag_behind}
use Rattle.pcache_files.proofs.codec.tag_on.Goals as goal

pub last_bytes-requires : goal.last_bytes-requires
last_bytes-requires c =
    let read = ap tag_at (sym c.new-reader.ensures) ∙ c.in_ok-pass_front.ensures in
    let there = tag_behind c.args.bytes.now c.pass_front.new.reader (λ i. omega (arith, c.type_inv.bytes i)) read in
    rw c.remaining.ensures (not_longer c.args.bytes.now c.pass_front.new.reader there)

pub returns : goal.returns
returns c =
    let read = ap tag_at (sym c.new-reader.ensures) ∙ c.in_ok-pass_front.ensures in
    let there = tag_behind c.args.bytes.now c.pass_front.new.reader (λ i. omega (arith, c.type_inv.bytes i)) read in
    let rest = c.last_bytes.ensures ∙ ap (λ n. drop (length c.args.bytes.now - n) c.args.bytes.now) c.remaining.ensures ∙ dropped c.args.bytes.now c.pass_front.new.reader there in
    rw rest read
