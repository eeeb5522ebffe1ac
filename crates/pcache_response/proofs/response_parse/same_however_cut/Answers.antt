use Rattle.pcache_response.proofs.Unique.{one_outcome, unreadable_is_none}
use Rattle.pcache_response.proofs.response_parse.same_however_cut.Goals as goal

pub returns-clause-given : goal.returns-clause-given
returns-clause-given c = one_outcome

pub returns-clause-readable : goal.returns-clause-readable
returns-clause-readable c = unreadable_is_none
