use Rattle.pcache_control.proofs.Words.{arith, sym, ◌∙◌}
use Rattle.pcache_control.proofs.Starts.{Leads_none, clash}
use Rattle.pcache_control.proofs.scan.start_behind.Goals as goal
use Rattle.pcache_control.proofs.scan.start_behind.Goals.{else-start-line-via-then-start-line+else-is_token_byte, else-start-line-via-else-start-line}

pub returns-else-start-line-clause-none : goal.returns-else-start-line-clause-none
returns-else-start-line-clause-none c =
    Leads_none c.args.line.now c.args.at c.skip_white_space-start.result c.skip_white_space-start.ensures (λ there. elim c.else-start-line.branch [
      | else-start-line-via-then-start-line+else-is_token_byte w ↦ clash _ there.token (sym w.is_token_byte.ensures ∙ w.if-is_token_byte.false)
      | else-start-line-via-else-start-line w ↦ omega (arith, there.within)
    ])
