use Rattle.pcache_response.proofs.Words.{refl}
use Rattle.pcache_response.proofs.Ends.{nothing_unfinished}
use Rattle.pcache_response.proofs.response_parse.ResponseParse.new.Goals as goal

pub returns-clause-start : goal.returns-clause-start
returns-clause-start c = (c.new.ensures, nothing_unfinished, refl)
