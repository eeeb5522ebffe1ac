-- Writes: what a call does to a cache, from p to q, with this result. The request is r before it and s after it (own).
use Rattle.std.specs.Prelude.{[], ◌≡◌, ◌⊎◌, ℕ, Bool, true, List, Option, None, Some, IfErr, IfOk, OnErr, OnOk, Result, cond, option_map}
use Rattle.pcache_base.specs.CompactKey.{compact_of}
use Rattle.pcache_base.specs.Key.{Key, slot}
use Rattle.pcache_base.specs.declared.key.CompactCacheKey.{CompactCacheKey}
use Rattle.pcache_base.specs.declared.error.ErrorType.{ErrorType}
use Rattle.pcache_base.specs.declared.error.ErrorType.TheVariants.{OutOfMemory}
use Rattle.pcache_request.specs.Finishing.{after_finish}
use Rattle.pcache_request.specs.NoBody.{LeavesNone}
use Rattle.pcache_request.specs.Requests.{Request}
use Rattle.pcache_request.specs.WriteEnds.{EndsAs}
use Rattle.pcache_request.specs.declared.cache.finish.FinishReport.{FinishReport}
use Rattle.pcache_store.specs.Notes.{added}
use Rattle.pcache_store.specs.Past.{Note, WritePurged}
use Rattle.pcache_store.specs.Readers.{in_memory}
use Rattle.pcache_store.specs.Store.{Store, write_purged}
use Rattle.pcache_request.specs.Writing as writing
use Rattle.pcache_cache.specs.Fetching.{FetchNote, is_outdated}
use Rattle.pcache_cache.specs.Parts.{Adds, LacksMemory, MayEnd, Parts, locks_of, manager_of, store_of, takes_bytes, tracked_at_end, written_by, written_past}
use Rattle.pcache_cache.specs.Room.{IfRoom, evicted_in}
use Rattle.pcache_cache.specs.Strays.{LeavesNoStray}
use Rattle.pcache_cache.specs.Weighing.{ending_weight, entered}

-- the write begins, whenever its response was fetched
pub record Begins (result : Result (Unit {0}) ErrorType) (r s : Request) (p q : Parts) : Type 0 where
  pub takes : writing.BeginsWrite result true true r s (store_of p) (store_of q) (locks_of p) (locks_of q)
  pub phase : s.phase ≡ r.phase
  pub own : r.uses.eviction ≡ true → OnOk result (MayEnd q.store s)
  pub rest : q ≡ record p { store = q.store; past = q.past; locks = q.locks; deeds = q.deeds }

-- the removal of a write of a slot, if there is one: nobody finds it any more, and its end stores nothing
abbrev pub without_write : ℕ → Option ℕ → Store → Store
without_write k None s = s
without_write k (Some w) s = write_purged s k w

abbrev pub write_gone : ℕ → Option ℕ → Option Note
write_gone k None = None
write_gone k (Some w) = Some (WritePurged k w)

-- the same parts once the write of a key was removed
abbrev pub write_removed : Option Key → Option ℕ → Parts → Parts
write_removed None w p = p
write_removed (Some k) w p = record p { store = without_write (slot k) w p.store; past = added (write_gone (slot k) w) p.past }

-- the key, if that is so
abbrev pub key_if : Bool → Option Key → Option CompactCacheKey
key_if outdated key = cond outdated (option_map compact_of key) None

-- The write begins. If the key, or its URL, was purged since the fetch began, the write is removed at once: the request has its response,
-- and nothing is stored.
pub record BeginsSo (fetch : Option FetchNote) (result : Result (Unit {0}) ErrorType) (r s : Request) (p q : Parts) : Type 0 where
  pub between : Parts
  pub begins : Begins result r s p between
  pub removed : q ≡ cond (is_outdated fetch r.key p.purges) (write_removed s.key s.write between) between
  pub own : r.uses.eviction ≡ true → OnOk result (MayEnd q.store s)

-- the same, or there was no memory for that removal, and nothing was done
abbrev pub BeginsWrite : Option FetchNote → Result (Unit {0}) ErrorType → Request → Request → Parts → Parts → Type 0
BeginsWrite fetch result r s p q = BeginsSo fetch result r s p q ⊎ ((is_outdated fetch r.key p.purges ≡ true) × LacksMemory result r s p q)

-- bytes are added to the write
pub record Writes (result : Result Bool ErrorType) (bytes : List ℕ) (eof : Bool) (r s : Request) (p q : Parts) : Type 0 where
  pub request : s ≡ r
  pub written : IfOk result (λ b. b ≡ takes_bytes p.store r.write)
  pub store : OnOk result (q.store ≡ written_by r.write bytes eof p.store)
  pub past : OnOk result (Adds (written_past p.store r.write bytes eof) p.past q.past)
  pub own : MayEnd p.store r → MayEnd q.store s
  pub same : OnErr result (q ≡ p)
  pub kind : IfErr result (λ e. e ≡ OutOfMemory)
  pub rest : q ≡ record p { store = q.store; past = q.past }

-- the write ends
pub record EndsWrite (result : Result (Option FinishReport) ErrorType) (r s : Request) (p q : Parts) : Type 0 where
  pub request : s ≡ after_finish r
  pub ended : EndsAs result (λ end. writing.Finishes in_memory r (entered p.weighing p.store r.write) (tracked_at_end p r end) end (store_of p) (store_of q) (manager_of p) (manager_of q) (locks_of p) (locks_of q))
  pub only : LeavesNoStray r.key p q
  pub room : IfRoom r.key (ending_weight p.weighing p.store r.write) p (evicted_in result ≡ [])
  pub withdrawn : OnErr result (LeavesNone r.key r.write p.store q.store)
  pub limits : q.limits ≡ p.limits
  pub weighing : q.weighing ≡ p.weighing
  pub purges : q.purges ≡ p.purges
