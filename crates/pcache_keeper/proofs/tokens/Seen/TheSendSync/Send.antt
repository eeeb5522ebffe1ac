use Rattle.pcache_keeper.specs.contracts.tokens.Seen.{the_row}
use Rattle.pcache_keeper.proofs.Words.{RattleType, IsSend}
use Rattle.pcache_keeper.proofs.Keyless.{had_keyless}

pub send : (E : RattleType) → IsSend (the_row E)
send E = record { owned = λ d vs. ((λ vss. (tt, ((λ uss. (tt, tt)), tt))), had_keyless E.coded.code d.name d.log); leaving = λ k f vs. tt }
