-- What it does to a cache that the meta of a complete body is set (own): it is set only for the body of the write that the meta names,
-- and the entry is admitted anew if it weighs something else then.
use Rattle.std.specs.Prelude.{ℕ, ◌≡◌, ◌==◌, ◌⊎◌, nat_eq, not, Bool, true, false, Option, Some, None, Result, Ok, Err, List, IsTrue, option_map}
use Rattle.std.specs.FinMap.{get, insert, remove}
use Rattle.std.specs.Option.{option_eq}
use Rattle.pcache_base.specs.Key.{Key, slot}
use Rattle.pcache_base.specs.Totals.{share}
use Rattle.pcache_base.specs.declared.error.ErrorType.{ErrorType}
use Rattle.pcache_base.specs.declared.error.ErrorType.TheVariants.{OutOfMemory}
use Rattle.pcache_evict.specs.Tracked.{Evicted, IsFair, Limits, Tracked, evicted_with, without}
use Rattle.pcache_evict.specs.declared.eviction.entry_key.CacheEntryKey.{CacheEntryKey}
use Rattle.pcache_meta.specs.Meta.{Meta, in_place_of}
use Rattle.pcache_request.specs.Finishing.{PurgesAll, TakesAll}
use Rattle.pcache_request.specs.Renewals.{has_body, with_meta_of}
use Rattle.pcache_request.specs.Requests.{entry_of}
use Rattle.pcache_request.specs.StorePasts.{entry_past}
use Rattle.pcache_store.specs.Finishes.{body_number}
use Rattle.pcache_store.specs.Notes.{added}
use Rattle.pcache_store.specs.Past.{MetaSet, Note, Purged}
use Rattle.pcache_store.specs.Store.{Store, complete_body, meta_set, purged}
use Rattle.pcache_cache.specs.Parts.{Parts}
use Rattle.pcache_cache.specs.Weighing.{body_weight}
use Rattle.pcache_cache.specs.declared.weighing.Weighing.{Weighing}

-- a store with its past, and what a manager tracks and has evicted
pub record Stock : Type 0 where
  pub store : Store
  pub past : List Note
  pub tracked : Tracked
  pub evicted : Evicted

abbrev pub stock : Parts → Stock
stock p = record { store = p.store; past = p.past; tracked = p.tracked; evicted = p.evicted }

-- the entry of the complete body of a key, which has the number of the body's write
abbrev pub entry_at : Store → Key → CacheEntryKey
entry_at s k = entry_of k (body_number s (slot k))

-- the weight of the complete body of a key; zero if there is none
abbrev pub weight_at : Weighing → Store → Key → ℕ
weight_at how s k = share (body_weight how) (complete_body (get s.slots (slot k)))

-- whether a meta changes what the body of a key weighs
abbrev pub reweighs : Weighing → Meta → Option Key → Store → Bool
reweighs how x None s = false
reweighs how x (Some k) s = not (weight_at how (meta_set x s (slot k)) k == weight_at how s k)

-- the meta of the complete body of a key is set
abbrev pub meta_given : Meta → Option Key → Stock → Stock
meta_given x key a = record a { store = with_meta_of x key a.store; past = added (option_map (λ k. MetaSet (slot k) x) key) a.past }

-- an entry is admitted with this weight, and what is evicted for it is purged, in order
pub record Readmits (limits : Limits) (e : CacheEntryKey) (n : ℕ) (out : List CacheEntryKey) (a b : Stock) : Type 0 where
  pub fair : IsFair limits (insert a.tracked e n) out
  pub tracked : b.tracked ≡ without out (insert a.tracked e n)
  pub evicted : b.evicted ≡ evicted_with a.evicted (insert a.tracked e n) out
  pub store : PurgesAll true a.store out 0 b.store
  pub past : TakesAll (entry_past true) (Some a.past) out 0 (Some b.past)

-- an entry is removed, and its slot purged
abbrev pub without_slot : CacheEntryKey → ℕ → Stock → Stock
without_slot e k a = record { store = purged a.store k; past = added (Some (Purged k)) a.past; tracked = remove a.tracked e; evicted = a.evicted }

-- the meta is set; and if the body weighs something else then, its entry is admitted anew
abbrev pub IsSet : Bool → Weighing → Limits → Meta → Option Key → Stock → Stock → Type 0
IsSet false how limits x key a b = b ≡ meta_given x key a
IsSet true how limits x None a b = ⊥
IsSet true how limits x (Some k) a b = (out : List CacheEntryKey) × Readmits limits (entry_at a.store k) (weight_at how (meta_set x a.store (slot k)) k) out (meta_given x (Some k) a) b

-- memory was refused: nothing changed; or if the body weighs something else with the meta, it was removed
abbrev pub IsNotSet : Bool → Meta → Option Key → Stock → Stock → Type 0
IsNotSet false x key a b = b ≡ a
IsNotSet true x None a b = ⊥
IsNotSet true x (Some k) a b = (b ≡ a) ⊎ (b ≡ without_slot (entry_at a.store k) (slot k) (meta_given x (Some k) a))

-- The meta of the complete body of a key was set, with this result: whether there is such a body; or memory was refused, and then
-- there is one.
abbrev pub Renews : Weighing → Limits → Meta → Option Key → Result Bool ErrorType → Stock → Stock → Type 0
Renews how limits x key (Ok there) a b = (there ≡ has_body a.store key) × IsSet (reweighs how x key a.store) how limits x key a b
Renews how limits x key (Err e) a b = (e ≡ OutOfMemory) × IsTrue (has_body a.store key) × IsNotSet (reweighs how x key a.store) x key a b

-- a new meta names the write of the body that was found, whose meta is the old one
abbrev pub named_as : Option Meta → Meta → Meta
named_as None m = m
named_as (Some old) m = in_place_of old m

-- the number is there, and the other is the same
abbrev pub is_same_number : Option ℕ → Option ℕ → Bool
is_same_number None n = false
is_same_number (Some w) n = option_eq nat_eq n (Some w)

-- the complete body of a key is that of the write which a meta names
abbrev pub is_its_body : Meta → Option Key → Store → Bool
is_its_body x None s = false
is_its_body x (Some k) s = is_same_number x.entry_id (body_number s (slot k))

-- the meta of a key's complete body is set if it is for this body, with this result; if not, nothing changes
abbrev pub RenewsIf : Bool → Weighing → Limits → Meta → Option Key → Result Bool ErrorType → Stock → Stock → Type 0
RenewsIf true how limits x key result a b = Renews how limits x key result a b
RenewsIf false how limits x key result a b = (result ≡ Ok false) × (b ≡ a)

-- the meta is set for the body of the write that it names, if that is the complete body of the key
abbrev pub RenewsOwn : Weighing → Limits → Meta → Option Key → Result Bool ErrorType → Stock → Stock → Type 0
RenewsOwn how limits x key result a b = RenewsIf (is_its_body x key a.store) how limits x key result a b
