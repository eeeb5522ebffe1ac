-- What the calls on an eviction manager do (own).
use Rattle.std.specs.Prelude.{◌≡◌, ◌⊎◌, ◌-◌, ◌<◌, ◌≤◌, ◌^◌, ◌++◌, ◌==◌, ℕ, Bool, List, [], ◌∷◌, Option, None, Some, IsTrue, IsUtf8, Result, Ok, Err, IsErr, ⊤, cond, drop, is_some, length, min, nat_lt, unwrap_or}
use Rattle.std.specs.Int.{from_bool}
use Rattle.std.specs.Global.{Vec}
use Rattle.std.specs.FinMap.{contains_key, insert, len, remove}
use Rattle.pcache_base.specs.declared.error.ErrorType.{ErrorType}
use Rattle.pcache_base.specs.declared.error.ErrorType.TheVariants.{OutOfMemory}
use Rattle.pcache_base.specs.declared.key.CompactCacheKey.{CompactCacheKey}
use Rattle.pcache_evict.specs.Entry.{entry_with, id_of, key_of}
use Rattle.pcache_evict.specs.Listed.{Listed, empty_list, map_of}
use Rattle.pcache_evict.specs.Recency.{Recency, loaded_all}
use Rattle.pcache_evict.specs.Shards.{Sharded, all, empty_shards, added_last_all, list_at}
use Rattle.pcache_evict.specs.Tracked.{Evicted, IsFair, IsWithin, Limits, Tracked, added, evicted_with, incremented, weight, without}
use Rattle.pcache_evict.specs.declared.eviction.entry_key.CacheEntryKey.{CacheEntryKey}
use Rattle.pcache_files.specs.FileSpelling.{SpellsFile}
use Rattle.pcache_files.specs.FileWriting.{IsTooLong, file_written}
use Rattle.pcache_c.specs.Codes.{OnGood, OnText, Outcome, bad_value, code_in, hash_at, no_memory, nothing, ok, unreadable, variance_at, wrong_kind}
use Rattle.pcache_c.specs.Handles.{Fills, IsSame}
use Rattle.pcache_c.specs.declared.entries.PcacheEntry.{PcacheEntry}
use Rattle.pcache_c.specs.declared.handle.PcacheHandle.{PcacheHandle}
use Rattle.pcache_c.specs.declared.managers.Managed.{Managed}
use Rattle.pcache_c.specs.declared.managers.PcacheTotals.{PcacheTotals}
use Rattle.pcache_c.specs.declared.object.Object.{Object}
use Rattle.pcache_c.specs.declared.object.Object.TheVariants as object

-- a manager, what it evicted that was not handed over yet, and what was handed over last
pub record Managing : Type 0 where
  pub tracked : Tracked
  pub limits : Limits
  pub evicted : Evicted
  pub waiting : List CacheEntryKey
  pub shown : Option CacheEntryKey

abbrev pub managing : {M : Type 0} → (M → Tracked) → (M → Limits) → (M → Evicted) → Managed M → Managing
managing tracked limits evicted m = record {
  tracked = tracked m.manager;
  limits = limits m.manager;
  evicted = evicted m.manager;
  waiting = m.waiting.items;
  shown = m.shown;
}

abbrev pub managing_list : Managed Listed → Managing
managing_list m = managing (λ x. map_of x.entries) (λ x. x.limits) (λ x. x.evicted) m

abbrev pub managing_shards : Managed Sharded → Managing
managing_shards m = managing (λ x. map_of (all x.shards)) (λ x. x.limits) (λ x. x.evicted) m

-- of an object of either kind
abbrev pub as_manager : Object → Option Managing
as_manager (object.Simple m) = Some (managing_list m)
as_manager (object.Sharded m) = Some (managing_shards m)
as_manager _ = None

-- nothing changed
pub record IsLeft (old new : Managing) : Type 0 where
  pub tracked : new.tracked ≡ old.tracked
  pub limits : new.limits ≡ old.limits
  pub evicted : new.evicted ≡ old.evicted
  pub waiting : new.waiting ≡ old.waiting
  pub shown : new.shown ≡ old.shown

-- the manager is to track this map, and evicts what is to be handed over
pub record Evicts (target : Tracked) (old new : Managing) : Type 0 where
  pub fair : IsFair old.limits target new.waiting
  pub tracked : new.tracked ≡ without new.waiting target
  pub evicted : new.evicted ≡ evicted_with old.evicted target new.waiting
  pub limits : new.limits ≡ old.limits
  pub shown : new.shown ≡ old.shown

-- an admission: the wrong call as long as something waits to be handed over
abbrev pub Admits : CacheEntryKey → ℕ → Managing → Managing → ℕ → Type 0
Admits item size old new code = Outcome (old.waiting ≡ []) (Evicts (insert old.tracked item size) old new) ⊥
    (λ e. (e ≡ OutOfMemory) × IsLeft old new) (IsLeft old new) code

-- no memory is wanted for an entry that is there if the limits hold
pub record RefusesIncrement (item : CacheEntryKey) (delta : ℕ) (most : Option ℕ) (old new : Managing) (e : ErrorType) : Type 0 where
  pub kind : e ≡ OutOfMemory
  pub left : IsLeft old new
  pub wanted : IsTrue (contains_key old.tracked item) → ¬ IsWithin old.limits (incremented old.tracked item delta most)

abbrev pub Increments : CacheEntryKey → ℕ → Option ℕ → Managing → Managing → ℕ → Type 0
Increments item delta most old new code = Outcome (old.waiting ≡ []) (Evicts (incremented old.tracked item delta most) old new) ⊥
    (RefusesIncrement item delta most old new) (IsLeft old new) code

-- an access

pub record Accessed (item : CacheEntryKey) (size : ℕ) (old new : Managing) (was : ℕ) : Type 0 where
  pub says : was ≡ from_bool (contains_key old.tracked item)
  pub tracked : new.tracked ≡ added old.tracked item size
  pub limits : new.limits ≡ old.limits
  pub evicted : new.evicted ≡ old.evicted
  pub waiting : new.waiting ≡ old.waiting
  pub shown : new.shown ≡ old.shown

abbrev pub Accesses : CacheEntryKey → ℕ → Managing → Managing → ℕ → ℕ → Type 0
Accesses item size old new was code = Outcome ⊤ (Accessed item size old new was) ⊥
    (λ e. (e ≡ OutOfMemory) × IsLeft old new × (¬ IsTrue (contains_key old.tracked item))) ⊥ code

-- a removal

pub record Removes (item : CacheEntryKey) (old new : Managing) (code : ℕ) : Type 0 where
  pub code_is : code ≡ ok
  pub tracked : new.tracked ≡ remove old.tracked item
  pub limits : new.limits ≡ old.limits
  pub evicted : new.evicted ≡ old.evicted
  pub waiting : new.waiting ≡ old.waiting
  pub shown : new.shown ≡ old.shown

-- a look that is no use
abbrev pub Peeks : CacheEntryKey → Managing → ℕ → ℕ → Type 0
Peeks item m was code = (code ≡ ok) × (was ≡ from_bool (contains_key m.tracked item))

pub record SaysTotals (m : Managing) (out : PcacheTotals) : Type 0 where
  pub weight : out.weight ≡ min (weight m.tracked) (2 ^ 64 - 1)
  pub entries : out.entries ≡ len m.tracked
  pub evicted_weight : out.evicted_weight ≡ m.evicted.weight
  pub evicted_entries : out.evicted_entries ≡ m.evicted.count
  pub waiting : out.waiting ≡ length m.waiting

-- the entry of a key with a hash, a variance if there is one, and a tag, with this number if its flag is set
abbrev pub entry_keyed : List ℕ → Option (List ℕ) → List ℕ → PcacheEntry → CacheEntryKey
entry_keyed primary variance tag e = entry_with (record { primary = primary; variance = variance; user_tag = tag }) (cond (e.has_id == 0) None (Some e.id))

-- what follows of an entry's key, in the parts that a caller in C gives
abbrev pub OnEntry : List ℕ → List ℕ → List ℕ → PcacheEntry → ℕ → Type 0 → (CacheEntryKey → Type 0) → Type 0
OnEntry primary variance tag e code same does = OnGood (hash_at primary) code same (λ p. OnGood (variance_at variance) code same (λ v.
    OnText tag code same (does (entry_keyed p v tag e))))

-- the key itself, or the code if there is none
abbrev pub MakesEntry : List ℕ → List ℕ → List ℕ → PcacheEntry → Result CacheEntryKey ℕ → Type 0
MakesEntry primary variance tag e result = OnGood (hash_at primary) (code_in result) ⊤ (λ p. OnGood (variance_at variance) (code_in result) ⊤ (λ v.
    OnText tag (code_in result) (IsErr result) (result ≡ Ok (entry_keyed p v tag e))))

-- what is said of an entry that is handed over: its number and its variance have flags
pub record Shows (e : CacheEntryKey) (primary variance variance_before : List ℕ) (out : PcacheEntry) : Type 0 where
  pub hash : primary ≡ (key_of e).primary
  pub variance_is : variance ≡ unwrap_or (key_of e).variance variance_before
  pub has_variance : out.has_variance ≡ from_bool (is_some (key_of e).variance)
  pub tag : out.tag_len ≡ length (key_of e).user_tag
  pub has_id : out.has_id ≡ from_bool (is_some (id_of e))
  pub id : out.id ≡ unwrap_or (id_of e) 0

-- the next entry that waits is handed over
pub record HandsNext (e : CacheEntryKey) (rest : List CacheEntryKey) (old new : Managing) : Type 0 where
  pub waiting : new.waiting ≡ rest
  pub shown : new.shown ≡ Some e
  pub tracked : new.tracked ≡ old.tracked
  pub limits : new.limits ≡ old.limits
  pub evicted : new.evicted ≡ old.evicted

abbrev pub NextOf : List CacheEntryKey → Managing → Managing → (CacheEntryKey → Type 0) → ℕ → Type 0
NextOf [] old new shows code = (code ≡ nothing) × IsLeft old new
NextOf (e ∷ rest) old new shows code = (code ≡ ok) × HandsNext e rest old new × shows e

-- the first entry that waits is handed over, with what is said of it, if any waits
abbrev pub HandsFirst : Managing → Managing → List ℕ → List ℕ → List ℕ → PcacheEntry → ℕ → Type 0
HandsFirst old new primary variance variance_before out code = NextOf old.waiting old new (λ e. Shows e primary variance variance_before out) code

-- bytes are at the start of a buffer, if it has room for all of them; else it is left as it was
abbrev pub IsWritten : List ℕ → List ℕ → List ℕ → ℕ → Type 0
IsWritten bytes old new code = ((code ≡ ok) × (length bytes ≤ length old) × (new ≡ bytes ++ drop (length bytes) old))
    ⊎ ((code ≡ bad_value) × (length old < length bytes) × (new ≡ old))

-- the tag of the entry that was handed over last
abbrev pub WritesTag : Option CacheEntryKey → List ℕ → List ℕ → ℕ → Type 0
WritesTag None old new code = (code ≡ nothing) × (new ≡ old)
WritesTag (Some e) old new code = IsWritten (key_of e).user_tag old new code

-- the list that the number of a shard names
abbrev pub list_saved : Object → ℕ → Option (Option Recency)
list_saved (object.Simple m) shard = Some (cond (shard == 0) (Some m.manager.entries) None)
list_saved (object.Sharded m) shard = Some (cond (nat_lt shard 16) (Some (list_at m.manager.shards shard)) None)
list_saved _ shard = None

-- the file of a list, or why there is none
abbrev pub IsFileOf : Recency → Result (Vec ℕ) ℕ → Type 0
IsFileOf l (Ok file) = (file.items ≡ file_written l) × SpellsFile (file_written l) l
IsFileOf l (Err code) = (code ≡ no_memory) ⊎ ((code ≡ unreadable) × IsTooLong l)

-- the file of a list: its length is said, and its bytes are written if there is room
pub record SavesList (l : Recency) (old new : List ℕ) (said code : ℕ) : Type 0 where
  pub spelled : SpellsFile (file_written l) l
  pub length_is : said ≡ length (file_written l)
  pub written : IsWritten (file_written l) old new code

abbrev pub Saves : Recency → List ℕ → List ℕ → ℕ → ℕ → Type 0
Saves l old new said code = ((code ≡ no_memory) × (new ≡ old)) ⊎ ((code ≡ unreadable) × IsTooLong l × (new ≡ old)) ⊎ SavesList l old new said code

-- the list that a file spells is put in; bytes that spell none, and a lack of memory, change nothing
abbrev pub LoadsInto : {M : Type 0} → (Recency → M) → M → M → List ℕ → ℕ → Type 0
LoadsInto becomes m n bytes code = ((code ≡ no_memory) × (n ≡ m)) ⊎ ((code ≡ unreadable) × ((l : Recency) → ¬ SpellsFile bytes l) × (n ≡ m))
    ⊎ ((code ≡ ok) × (l : Recency) × SpellsFile bytes l × (n ≡ becomes l))

abbrev pub with_list : Managed Listed → Recency → Managed Listed
with_list m l = record m { manager = record m.manager { entries = loaded_all l m.manager.entries } }

abbrev pub with_shards : Managed Sharded → Recency → Managed Sharded
with_shards m l = record m { manager = record m.manager { shards = added_last_all 16 l m.manager.shards } }

abbrev pub Loads : Object → Object → List ℕ → ℕ → Type 0
Loads (object.Simple m) b bytes code = (n : Managed Listed) × (b ≡ object.Simple n) × LoadsInto (with_list m) m n bytes code
Loads (object.Sharded m) b bytes code = (n : Managed Sharded) × (b ≡ object.Sharded n) × LoadsInto (with_shards m) m n bytes code
Loads a b bytes code = (code ≡ wrong_kind) × (b ≡ a)

-- a handle gets an empty manager, of which nothing waits, or there was no memory for it
abbrev pub MakesList : ℕ → Option ℕ → PcacheHandle → PcacheHandle → ℕ → Type 0
MakesList limit watermark old new code = ((code ≡ no_memory) × IsSame old new)
    ⊎ ((m : Managed Listed) × (m.manager ≡ empty_list limit watermark) × (m.waiting.items ≡ []) × (m.shown ≡ None)
    × Fills (object.Simple m) old new code)

abbrev pub MakesShards : ℕ → Option ℕ → PcacheHandle → PcacheHandle → ℕ → Type 0
MakesShards limit watermark old new code = ((code ≡ no_memory) × IsSame old new)
    ⊎ ((m : Managed Sharded) × (m.manager ≡ empty_shards 16 limit watermark) × (m.waiting.items ≡ []) × (m.shown ≡ None)
    × Fills (object.Sharded m) old new code)
