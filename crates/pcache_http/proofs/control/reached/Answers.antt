use Rattle.pcache_http.proofs.Words.{refl, sym, ◌∙◌, option_copied, lowercase, Whole}
use Rattle.pcache_http.proofs.Heard.{reach-other, reach-one}
use Rattle.pcache_http.proofs.control.reached.Goals as goal

pub returns-then-not-is_called : goal.returns-then-not-is_called
returns-then-not-is_called c said is =
    reach-other (lowercase c.args.known.now) said (c.args.name.now, option_copied c.args.value) c.args.before (sym c.is_called.ensures ∙ c.if-not-is_called.true) is

pub returns-in-None : goal.returns-in-None
returns-in-None c said is =
    reach-one (lowercase c.args.known.now) said (c.args.name.now, option_copied c.args.value) c.args.before Whole (sym c.is_called.ensures ∙ c.if-not-is_called.false) (rw c.in-None.is refl) is

pub returns-in-Some : goal.returns-in-Some
returns-in-Some c said is =
    reach-one (lowercase c.args.known.now) said (c.args.name.now, option_copied c.args.value) c.args.before c.with_fields.result (sym c.is_called.ensures ∙ c.if-not-is_called.false) (rw c.in-Some.is c.with_fields.ensures) is
