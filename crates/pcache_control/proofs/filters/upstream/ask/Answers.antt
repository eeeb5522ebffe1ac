use Rattle.pcache_control.proofs.Room.{no_room}
use Rattle.pcache_control.proofs.filters.upstream.ask.Goals as goal

pub returns-clause-no_room : goal.returns-clause-no_room
returns-clause-no_room c lacks =
    no_room c.ask_unlike.result c.args.headers.now c.ask_since.new.headers c.ask_unlike.new.headers c.args.meta.now.header.fields c.keys_len-names.ensures.valid
    c.in_ok-ask_since.ensures.map c.requires.since c.requires.unlike c.in_ok-ask_since.ensures.asks c.ask_unlike.ensures.asks c.ask_unlike.ensures.map lacks
