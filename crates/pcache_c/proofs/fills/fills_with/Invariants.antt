use Rattle.pcache_c.specs.Fills.{HaveTokens}
use Rattle.pcache_c.proofs.Words.{take}
use Rattle.pcache_c.proofs.fills.fills_with.Given as goal

abbrev pub invariant-loop-token : goal.invariant-loop-token
invariant-loop-token l = HaveTokens (take l.token-index l.tokens) l.fills.items
