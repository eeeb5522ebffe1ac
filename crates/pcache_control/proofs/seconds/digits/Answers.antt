use Rattle.pcache_control.proofs.Words.{sym, ◌∙◌, true, ◌≡◌, get_or, is_ascii_digit}
use Rattle.pcache_control.proofs.Digits.{list_all_step, value_step}
use Rattle.pcache_control.proofs.seconds.digits.Goals as goal

pub digits-preserved : goal.digits-preserved
digits-preserved c =
    let bytes = c.args.bytes.now in
    let at = c.digits.b-index in
    let digit : is_ascii_digit (get_or bytes at 0) ≡ true = sym c.is_ascii_digit.ensures.value ∙ c.if-not-is_ascii_digit.false in
    record {
      value = value_step bytes at 4294967296 c.digits.value c.min-value.result c.digits-test.true digit c.digits.invariant.value c.min-value.ensures;
      digits = list_all_step is_ascii_digit bytes at c.digits-test.true c.digits.invariant.digits digit;
    }
