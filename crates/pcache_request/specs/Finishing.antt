-- The outcomes of the end of a write (own): the body is stored and admitted, and what is evicted for it is purged; or
-- the end fails.
use Rattle.std.specs.Prelude.{ℕ, ◌+◌, ◌≡◌, ◌⊎◌, Bool, true, false, Option, None, List, [], ◌∷◌, is_some, cond}
use Rattle.std.specs.FinMap.{insert, get}
use Rattle.pcache_base.specs.Key.{Key, slot}
use Rattle.pcache_base.specs.CompactKey.{compact_slot}
use Rattle.pcache_base.specs.declared.error.ErrorType.{ErrorType}
use Rattle.pcache_base.specs.declared.error.ErrorType.TheVariants.{OutOfMemory}
use Rattle.pcache_evict.specs.declared.eviction.entry_key.CacheEntryKey.{CacheEntryKey}
use Rattle.pcache_evict.specs.Entry.{key_of}
use Rattle.pcache_evict.specs.Tracked.{Tracked, Limits, IsFair, without, raised}
use Rattle.pcache_lock.specs.declared.lock.status.LockStatus.{LockStatus}
use Rattle.pcache_lock.specs.declared.lock.status.LockStatus.TheVariants.{Done, TransientError}
use Rattle.pcache_store.specs.Store.{Store, Guarantees, is_superseded, is_untouched, finished, dropped, purged}
use Rattle.pcache_store.specs.Refusals.{MayFailFinish}
use Rattle.pcache_store.specs.declared.storage.MissFinishType.{MissFinishType}
use Rattle.pcache_store.specs.declared.storage.MissFinishType.TheVariants.{Created, Appended}
use Rattle.pcache_store.specs.Purge.{entry_purged}
use Rattle.pcache_request.specs.Requests.{Request, entry_of}

-- the size in a report of the end
abbrev pub size_reported : MissFinishType → ℕ
size_reported (Created n) = n
size_reported (Appended n most) = n

-- the tracked entries with the entry of a write that ended so
abbrev pub with_entry : MissFinishType → CacheEntryKey → Tracked → Tracked
with_entry (Created n) e m = insert m e n
with_entry (Appended n most) e m = insert m e (raised n most (get m e))

-- the request after the end of its write, if it had one
abbrev pub after_finish : Request → Request
after_finish r = cond (is_some r.write) (record r { write = None; entry = None; held = None }) r

-- the slot of an entry: that of its key
abbrev pub entry_slot : CacheEntryKey → ℕ
entry_slot e = compact_slot (key_of e)

-- b is a after a step for each entry in order, but for n of them, for which it was not taken
abbrev pub TakesAll : {A : Type 0} → (A → CacheEntryKey → A) → A → List CacheEntryKey → ℕ → A → Type 0
TakesAll step a [] n b = (n ≡ 0) × (b ≡ a)
TakesAll step a (e ∷ es) n b = TakesAll step (step a e) es n b ⊎ ((m : ℕ) × (n ≡ m + 1) × TakesAll step a es m b)

-- t is s after each entry was purged in order; for n of them the purge failed, and they remain
abbrev pub PurgesAll : Bool → Store → List CacheEntryKey → ℕ → Store → Type 0
PurgesAll numbers s es n t = TakesAll (entry_purged numbers) s es n t

-- with a manager in use the entry is admitted, and a fair eviction follows; otherwise nothing is tracked or evicted
abbrev pub Admits : Bool → Limits → MissFinishType → CacheEntryKey → Tracked → List CacheEntryKey → Tracked → Type 0
Admits true limits kind e m out m' = IsFair limits (with_entry kind e m) out × (m' ≡ without out (with_entry kind e m))
Admits false limits kind e m out m' = (out ≡ []) × (m' ≡ m)

-- the write w of the key k, whose entry has the number id, is stored and admitted if a manager is used, and what is
-- evicted is purged; `Lets` says what happens to a held lock, given the status that a permit is released with
pub record Stores (g : Guarantees) (used : Bool) (id : Option ℕ) (Lets : LockStatus → Type 0) (k : Key) (w : ℕ) (kind : MissFinishType) (limits : Limits) (size failed : ℕ) (out : List CacheEntryKey) (s s' : Store) (m m' : Tracked) : Type 0 where
  pub untouched : is_untouched s w ≡ true
  pub newest : is_superseded s w ≡ false
  pub size_is : size ≡ size_reported kind
  pub admitted : Admits used limits kind (entry_of k id) m out m'
  pub purges : PurgesAll g.numbers (finished s w) out failed s'
  pub sure : g.purges ≡ true → failed ≡ 0
  pub released : Lets Done

-- the end of the write w fails, and it is dropped
pub record Drops (Lets : LockStatus → Type 0) (w : ℕ) (e : ErrorType) (s s' : Store) (m m' : Tracked) : Type 0 where
  pub why : (e ≡ OutOfMemory) ⊎ MayFailFinish s w e
  pub dropped : s' ≡ dropped s w
  pub tracked : m' ≡ m
  pub released : Lets TransientError

-- the write w of the key k is stored, but its admission fails, and its key is purged again
pub record Withdraws (always_purges : Bool) (Lets : LockStatus → Type 0) (k : Key) (w : ℕ) (e : ErrorType) (s s' : Store) (m m' : Tracked) : Type 0 where
  pub why : e ≡ OutOfMemory
  pub untouched : is_untouched s w ≡ true
  pub newest : is_superseded s w ≡ false
  pub purged : (s' ≡ purged (finished s w) (slot k)) ⊎ ((always_purges ≡ false) × (s' ≡ finished s w))
  pub tracked : m' ≡ m
  pub released : Lets Done
