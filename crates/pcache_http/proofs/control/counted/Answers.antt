use Rattle.pcache_http.proofs.Words.{sym, ap, ◌∙◌, option_copied, lowercase, count_next}
use Rattle.pcache_http.proofs.Heard.{counted-other, counted-one}
use Rattle.pcache_http.proofs.control.counted.Goals as goal

pub returns-then-not-is_called : goal.returns-then-not-is_called
returns-then-not-is_called c said is =
    counted-other (lowercase c.args.known.now) said (c.args.name.now, option_copied c.args.value) c.args.before (sym c.is_called.ensures ∙ c.if-not-is_called.true) is

pub returns : goal.returns
returns c said is =
    counted-one (lowercase c.args.known.now) said (c.args.name.now, option_copied c.args.value) c.args.before c.count_next.result (sym c.is_called.ensures ∙ c.if-not-is_called.false)
    (c.count_next.ensures ∙ ap (count_next c.args.before) c.amount_of.ensures) is
