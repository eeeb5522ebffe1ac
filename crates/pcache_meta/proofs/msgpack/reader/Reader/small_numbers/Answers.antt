use Rattle.std.proofs.lemmas.List.{length-set}
use Rattle.pcache_meta.specs.Reading.{small_numbers_at}
use Rattle.pcache_meta.proofs.Words.{take, ◌∙◌, err_from_is_err_and}
use Rattle.pcache_meta.proofs.HashLoop.{goes_on, ends, is_done}
use Rattle.pcache_meta.proofs.msgpack.reader.Reader.small_numbers.Goals as goal

pub returns-in_err-out : goal.returns-in_err-out
returns-in_err-out c =
    let p = err_from_is_err_and c.from_residual.result c.from_residual.ensures.1 in
    rw (p.1, p.2) (ends c.in_err-out.field-0.0 (take c.each.i c.each.out) c.each.i c.each.self (small_numbers_at 16 c.args.self.now) c.each-test.true
    c.in_err-out.ensures.value c.each.invariant.read)

pub each-preserved : goal.each-preserved
each-preserved c = record {
  size = length-set _ _ _ ∙ c.each.invariant.size;
  read = goes_on c.each.out c.each.i c.each.self c.in_ok-out.field-0 c.number_below.new.self (small_numbers_at 16 c.args.self.now) c.each-test.true
      c.each.invariant.size c.in_ok-out.ensures.value c.each.invariant.read;
}

pub returns : goal.returns
returns c = is_done c.each.out c.each.i c.each.self (small_numbers_at 16 c.args.self.now) c.each-test.false c.each.invariant.size c.each.invariant.read
