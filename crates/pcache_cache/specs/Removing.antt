-- Removals: what a call does to a cache, from p to q, with this result. The request is r before it and s after it (own).
use Rattle.std.specs.Prelude.{◌≡◌, ℕ, Bool, true, Option, None, Some, IfOk, OnErr, OnOk, Result, option_map}
use Rattle.pcache_base.specs.Key.{Key, slot}
use Rattle.pcache_base.specs.declared.error.ErrorType.{ErrorType}
use Rattle.pcache_request.specs.Removals as removal
use Rattle.pcache_request.specs.Requests.{Request, is_removed_by}
use Rattle.pcache_store.specs.Purge.{expire_outcome, purge_outcome}
use Rattle.pcache_cache.specs.Fetching.{PurgesSeen, purge_seen}
use Rattle.pcache_cache.specs.Parts.{Parts, manager_of, store_of}
use Rattle.pcache_cache.specs.Strays.{LeavesNoStray}

-- what the cache has seen of purges once the key was purged
abbrev pub purges_after : Option Key → ℕ → PurgesSeen → PurgesSeen
purges_after None next p = p
purges_after (Some k) next p = purge_seen (slot k) next p

-- what is stored for the key is removed
pub record Removes (result : Result Bool ErrorType) (r s : Request) (p q : Parts) : Type 0 where
  pub request : s ≡ r
  pub there : IfOk result (λ there. there ≡ is_removed_by (purge_outcome true p.store (option_map slot r.key)))
  pub takes : removal.Purges result true r.uses.eviction r.key (store_of p) (store_of q) (manager_of p) (manager_of q)
  pub only : r.uses.eviction ≡ true → LeavesNoStray r.key p q
  pub same : OnErr result (q ≡ p)
  pub rest : q ≡ record p { store = q.store; past = q.past; tracked = q.tracked }

-- the key is purged: the same, and the cache has seen one more purge
pub record Purges (result : Result Bool ErrorType) (r s : Request) (p q : Parts) : Type 0 where
  pub request : s ≡ r
  pub there : IfOk result (λ there. there ≡ is_removed_by (purge_outcome true p.store (option_map slot r.key)))
  pub takes : removal.Purges result true r.uses.eviction r.key (store_of p) (store_of q) (manager_of p) (manager_of q)
  pub only : r.uses.eviction ≡ true → LeavesNoStray r.key p q
  pub seen : OnOk result (q.purges ≡ purges_after r.key p.store.next p.purges)
  pub same : OnErr result (q ≡ p)
  pub rest : q ≡ record p { store = q.store; past = q.past; tracked = q.tracked; purges = q.purges }

-- the freshness of what is stored for the key ends
pub record Expires (result : Result Bool ErrorType) (now : ℕ) (r s : Request) (p q : Parts) : Type 0 where
  pub request : s ≡ r
  pub there : IfOk result (λ there. there ≡ is_removed_by (expire_outcome p.store (option_map slot r.key)))
  pub takes : removal.Expires result now r.uses.eviction r.key (store_of p) (store_of q) (manager_of p) (manager_of q)
  pub only : LeavesNoStray None p q
  pub same : OnErr result (q ≡ p)
  pub rest : q ≡ record p { store = q.store; past = q.past; tracked = q.tracked }
