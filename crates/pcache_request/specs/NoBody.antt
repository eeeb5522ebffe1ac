-- What the end of a write leaves of a body whose admission failed (own): nothing, in a storage whose removals always
-- succeed.
use Rattle.std.specs.Prelude.{ℕ, ◌≡◌, ◌⊎◌, Option, Some, None}
use Rattle.std.specs.FinMap.{get}
use Rattle.pcache_base.specs.Key.{Key, slot}
use Rattle.pcache_store.specs.Store.{Store, complete_body, dropped}
use Rattle.pcache_request.specs.declared.cache.finish.WriteEnd.{WriteEnd}
use Rattle.pcache_request.specs.declared.cache.finish.WriteEnd.TheVariants as end

-- there is no complete body for the key
abbrev pub HasNoBody : Store → Key → Type 0
HasNoBody s k = complete_body (get s.slots (slot k)) ≡ None

abbrev pub HasNoBodyFor : Store → Option Key → Type 0
HasNoBodyFor s None = Unit {0}
HasNoBodyFor s (Some k) = HasNoBody s k

-- P holds if the admission failed
abbrev pub IfWithdrawn : WriteEnd → Type 0 → Type 0
IfWithdrawn (end.Withdrawn e) P = P
IfWithdrawn how P = Unit {0}

-- a write whose end failed was dropped, and the rest of the store is unchanged; or its admission failed, and the key has
-- no body
abbrev pub LeavesNone : Option Key → Option ℕ → Store → Store → Type 0
LeavesNone k None s s' = s' ≡ s
LeavesNone k (Some w) s s' = (s' ≡ dropped s w) ⊎ HasNoBodyFor s' k
