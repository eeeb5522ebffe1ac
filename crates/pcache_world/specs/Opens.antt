-- What is open under a number, as the code keeps it: a request, or a put (own).
use Rattle.std.specs.Prelude.{Option, None, Some}
use Rattle.pcache_meta.specs.Meta.{Meta}
use Rattle.pcache_predict.specs.declared.admission.Decision.{Decision}
use Rattle.pcache_put.specs.State.{Put}
use Rattle.pcache_request.specs.Requests.{Request}
use Rattle.pcache_store.specs.Readers.{reader_of}
use Rattle.pcache_store.specs.Store.{Reader}
use Rattle.pcache_store.specs.declared.memory.hit.MemHitHandler.{MemHitHandler}
use Rattle.pcache_world.specs.declared.world.open.Kind.{Kind}
use Rattle.pcache_world.specs.declared.world.open.Kind.TheVariants as kind
use Rattle.pcache_history.specs.Ongoing.{Ongoing, ongoing_put}
use Rattle.pcache_history.specs.Taking.{taking}

abbrev pub held_of : {P : Type 0} → Kind P → Ongoing
held_of (kind.Request x) = x
held_of (kind.Put x) = x

-- a request with the decision that it carries, and the pair that it holds
abbrev pub held_with : Option Decision → Option (Meta × Reader) → Request → Ongoing
held_with d p x = record { request = x; pair = p; carried = d; put = None }

-- such a request is open
abbrev pub open_with : Option Decision → Option (Meta × Reader) → Request → Option Ongoing
open_with d p x = Some (held_with d p x)

-- a pair that a look-up gave, as contracts see it
abbrev pub pair_read : Meta × MemHitHandler → Option (Meta × Reader)
pair_read p = Some (p.0, reader_of p.1)

-- a put, as what is open under its number
abbrev pub put_of : {C : Type 0} → Put C → Ongoing
put_of p = ongoing_put (taking p)
