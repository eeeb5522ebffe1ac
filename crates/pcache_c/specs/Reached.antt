-- How a call gets to a request: by a handle, and a number of its cache (own).
use Rattle.std.specs.Prelude.{◌≡◌, ℕ, Option, None, Some}
use Rattle.pcache_cache.specs.Parts.{Parts}
use Rattle.pcache_c.specs.Codes.{bad_handle}
use Rattle.pcache_c.specs.Counts.{Counting, counts_nothing}
use Rattle.pcache_c.specs.Handles.{OnHandle, Turns}
use Rattle.pcache_c.specs.Objects.{as_cache}
use Rattle.pcache_c.specs.Seats.{AreSame, IsSet, request_at}
use Rattle.pcache_c.specs.declared.handle.PcacheHandle.{PcacheHandle}
use Rattle.pcache_c.specs.declared.object.Object.{Object}
use Rattle.pcache_c.specs.declared.served.Open.{Open}
use Rattle.pcache_c.specs.declared.served.Served.{Served}

-- what a call does: the cache before and after, and the request before and after
abbrev pub Does : Type 1
Does = Parts → Parts → Open → Open → Type 0

-- a number that no open request has is refused; else the call is made on the request, no other request changes, and the counts
-- are what the call makes of them. Each place stays in its round
abbrev pub OnOpen : Option Open → ℕ → Served → Served → ℕ → Counting → Does → Type 0
OnOpen None number s t code counting does = (code ≡ bad_handle) × (t.cache ≡ s.cache) × (t.counts ≡ s.counts) × AreSame s.seats t.seats
OnOpen (Some o) number s t code counting does = (p : Open) × IsSet number p s.seats t.seats × (t.counts ≡ counting s.counts) × does s.cache t.cache o p

-- an object that is no cache is refused
abbrev pub CountsOnNumber : ℕ → Object → Object → ℕ → Counting → Does → Type 0
CountsOnNumber number old new code counting does = Turns as_cache old new code (λ s t. OnOpen (request_at s.seats number) number s t code counting does)

-- a call that leaves the counts as they are
abbrev pub OnNumber : ℕ → Object → Object → ℕ → Does → Type 0
OnNumber number old new code does = CountsOnNumber number old new code counts_nothing does

-- a call on a request of the cache of a handle, which makes this of its counts
abbrev pub CountsOnRequest : ℕ → PcacheHandle → PcacheHandle → ℕ → Counting → Does → Type 0
CountsOnRequest number old new code counting does = OnHandle old new code (λ a b. CountsOnNumber number a b code counting does)

-- a call on a request of the cache of a handle, which leaves its counts as they are
abbrev pub OnRequest : ℕ → PcacheHandle → PcacheHandle → ℕ → Does → Type 0
OnRequest number old new code does = OnHandle old new code (λ a b. OnNumber number a b code does)
