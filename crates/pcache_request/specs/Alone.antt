-- What a request over the store in memory does alone, without the parts of its cache (own).
use Rattle.std.specs.Prelude.{◌≡◌, Bool, true, Option, None, Some}
use Rattle.pcache_request.specs.Requests.{Request}
use Rattle.pcache_store.specs.Readers.{needs_no_store}
use Rattle.pcache_store.specs.Store.{Reader}

-- a request's reader, if it has one, needs no store
abbrev pub reads_alone : Option Reader → Bool
reads_alone None = true
reads_alone (Some r) = needs_no_store r

-- a request may end alone: it holds no lock and no write, and its reader needs no store
abbrev pub MayEndAlone : Request → Type 0
MayEndAlone r = (r.held ≡ None) × (r.write ≡ None) × (reads_alone r.reader ≡ true)
