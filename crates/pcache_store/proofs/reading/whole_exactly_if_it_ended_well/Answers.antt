use Rattle.pcache_store.proofs.Ended.{gives_what_was_added, is_whole_exactly}
use Rattle.pcache_store.proofs.reading.whole_exactly_if_it_ended_well.Goals as goal

pub returns-clause-bytes : goal.returns-clause-bytes
returns-clause-bytes c = gives_what_was_added

pub returns-clause-whole : goal.returns-clause-whole
returns-clause-whole c = is_whole_exactly
