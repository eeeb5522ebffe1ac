-- Look-ups, and the hits that come of them: what a call does to a cache, from p to q, with this result. The request is r before it and
-- s after it (own).
use Rattle.std.specs.Prelude.{◌≡◌, ◌⊎◌, ℕ, Option, None, IsOk, IsTrue, OnErr, OnOk, Result, cond, option_map, true}
use Rattle.pcache_base.specs.Key.{Key, slot}
use Rattle.pcache_base.specs.declared.error.ErrorType.{ErrorType}
use Rattle.pcache_meta.specs.Meta.{Meta}
use Rattle.pcache_request.specs.Admissions.{decision_taken}
use Rattle.pcache_request.specs.Looking as looking
use Rattle.pcache_request.specs.Requests.{Request, asks_for_hit, counts_found, found_for, tracked_gone_for}
use Rattle.pcache_request.specs.declared.phase.HitStatus.{HitStatus}
use Rattle.pcache_store.specs.Notes.{added, leave_noted, noted}
use Rattle.pcache_store.specs.Past.{Purged}
use Rattle.pcache_store.specs.Purge.{purge_outcome, purged_at}
use Rattle.pcache_store.specs.Readers.{if_complete, reader_of}
use Rattle.pcache_store.specs.Store.{Reader, Store, left}
use Rattle.pcache_store.specs.declared.memory.hit.MemHitHandler.{MemHitHandler}
use Rattle.pcache_cache.specs.Fetching.{PurgesSeen, is_old_variant}
use Rattle.pcache_cache.specs.Parts.{Adds, LacksMemory, Parts, locks_of, store_of}
use Rattle.pcache_cache.specs.Strays.{LeavesNoStray}

-- the same parts without what is stored for the request's key, which its entry goes with
abbrev pub emptied : Request → Parts → Parts
emptied r p = record p {
  store = purged_at p.store (option_map slot r.key);
  past = added (option_map (λ k. Purged (slot k)) r.key) p.past;
  tracked = tracked_gone_for r.uses.eviction r.key (purge_outcome true p.store (option_map slot r.key)) p.tracked;
}

-- the same parts without what is stored for a variant that was written before its URL was purged
abbrev pub without_old : Request → Parts → Parts
without_old r p = cond (is_old_variant r.key p.store p.purges) (emptied r p) p

-- such a variant could not be removed for want of memory, and nothing was done
abbrev pub KeepsOld : {A : Type 0} → Result A ErrorType → Request → Request → Parts → Parts → Type 0
KeepsOld result r s p q = (is_old_variant r.key p.store p.purges ≡ true) × LacksMemory result r s p q

-- the key is looked up, and no policy is asked
pub record LooksIn (result : Result (Option (Meta × MemHitHandler)) ErrorType) (now : ℕ) (r s : Request) (p q : Parts) : Type 0 where
  pub takes : looking.LooksUp reader_of result None now r s (store_of p) (store_of q) (locks_of p) (locks_of q)
  pub phase : OnOk result (s.phase ≡ r.phase)
  pub uses : OnOk result (s.uses ≡ r.uses)
  pub rest : q ≡ record p { store = q.store; past = q.past; locks = q.locks; deeds = q.deeds }

-- the key is looked up; if the store has nothing, a policy in use is asked first
pub record LooksInAsking (result : Result (Option (Meta × MemHitHandler)) ErrorType) (now : ℕ) (r s : Request) (p q : Parts) : Type 0 where
  pub takes : looking.LooksUp reader_of result (decision_taken p.store r s) now r s (store_of p) (store_of q) (locks_of p) (locks_of q)
  pub rest : q ≡ record p { store = q.store; past = q.past; locks = q.locks; deeds = q.deeds }

-- The same, once a variant that was written before its URL was purged is removed.
abbrev pub LooksUp : Result (Option (Meta × MemHitHandler)) ErrorType → ℕ → Request → Request → Parts → Parts → Type 0
LooksUp result now r s p q = LooksIn result now r s (without_old r p) q ⊎ KeepsOld result r s p q

abbrev pub LooksUpAsking : Result (Option (Meta × MemHitHandler)) ErrorType → ℕ → Request → Request → Parts → Parts → Type 0
LooksUpAsking result now r s p q = LooksInAsking result now r s (without_old r p) q ⊎ KeepsOld result r s p q

-- what a look-up finds, if that is a complete body, and not that of a variant that was written before its URL was purged
abbrev pub body_found : Option Key → Store → PurgesSeen → Option (Meta × Reader)
body_found k s p = cond (is_old_variant k s p) None (if_complete (found_for s k))

-- the pair that a look-up found is taken; nothing more is tracked, and nothing less
pub record TakesFound (result : Result (Unit {0}) ErrorType) (status : HitStatus) (m : Meta) (h : Reader) (now : ℕ) (r s : Request) (p q : Parts) : Type 0 where
  pub takes : looking.TakesFound result status m h now r s (store_of p) (store_of q) (locks_of p) (locks_of q)
  pub something : OnErr result (IsTrue (counts_found status h r) ⊎ IsTrue (asks_for_hit status r))
  pub only : LeavesNoStray None p q
  pub rest : q ≡ record p { store = q.store; past = q.past; locks = q.locks; deeds = q.deeds }

-- a reader is let go
pub record LetsGo (h : Reader) (p q : Parts) : Type 0 where
  pub store : q.store ≡ left p.store h
  pub past : Adds (noted (leave_noted h)) p.past q.past
  pub rest : q ≡ record p { store = q.store; past = q.past }

-- the reader ends
pub record EndsHit (result : Result (Unit {0}) ErrorType) (r s : Request) (p q : Parts) : Type 0 where
  pub takes : looking.EndsHit r s (store_of p) (store_of q)
  pub answer : IsOk result
  pub rest : q ≡ record p { store = q.store; past = q.past }
