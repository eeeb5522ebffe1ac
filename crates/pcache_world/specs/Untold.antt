-- For the prover: a request without what its read lock was told, and a put without the state of its parser and its counter, which
-- the replies to their calls do not show (own). A reader that was polled still has the fills that it watches for.
use Rattle.std.specs.Prelude.{None, []}
use Rattle.std.specs.Option.{option_map}
use Rattle.pcache_lock.specs.Permits.{Reader, Watch}
use Rattle.pcache_lock.specs.declared.lock.permit.Locked.{Locked}
use Rattle.pcache_lock.specs.declared.lock.permit.Locked.TheVariants.{Write, Read}
use Rattle.pcache_response.specs.Counted.{Counted}
use Rattle.pcache_response.specs.Progress.{AtHead}
use Rattle.pcache_request.specs.Requests.{Request}
use Rattle.pcache_history.specs.Ongoing.{Ongoing}
use Rattle.pcache_history.specs.Taking.{Taking, counted_none}

-- the watch as it was before it saw a publication
abbrev pub untold_watch : Watch → Watch
untold_watch w = record { fills = w.fills; seen = 0; told = None }

-- a read lock with such a watch
abbrev pub untold_read_lock : Reader → Reader
untold_read_lock rd = record { number = rd.number; watch = option_map untold_watch rd.watch }

-- a lock without what its reader was told
abbrev pub untold_lock : Locked → Locked
untold_lock (Write p) = Write p
untold_lock (Read rd) = Read (untold_read_lock rd)

-- a request without it
abbrev pub untold_request : Request → Request
untold_request x = record x { held = option_map untold_lock x.held }

-- a counter that counted nothing yet, with the same limit
abbrev pub uncounted : Counted → Counted
uncounted c = counted_none c.limit

-- a put without the state of its parser and its counter
abbrev pub untold_put : Taking → Taking
untold_put p = record { key = p.key; size = option_map uncounted p.size; parser = AtHead []; stage = p.stage }

-- a request or a put without either
abbrev pub untold : Ongoing → Ongoing
untold x = record { request = untold_request x.request; pair = x.pair; carried = x.carried; put = option_map untold_put x.put }
