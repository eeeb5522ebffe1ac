-- Removals of what is stored for a key: what a call makes of a storage, from a to b, and of a manager, from x to y, with this
-- result (own).
use Rattle.std.specs.Prelude.{◌≡◌, ℕ, Bool, Option, IfErr, OnErr, OnOk, Result, option_map}
use Rattle.pcache_base.specs.Key.{Key, slot}
use Rattle.pcache_base.specs.declared.error.ErrorType.{ErrorType}
use Rattle.pcache_base.specs.declared.error.ErrorType.TheVariants.{OutOfMemory}
use Rattle.pcache_request.specs.Requests.{tracked_gone_for}
use Rattle.pcache_request.specs.Sides.{ManagerSide, StoreSide}
use Rattle.pcache_request.specs.StorePasts.{Past, expired_past, purged_past}
use Rattle.pcache_store.specs.Purge.{expire_outcome, expired_at, purge_outcome, purged_at}
use Rattle.pcache_store.specs.Store.{Store}
use Rattle.pcache_store.specs.declared.storage.PurgeOutcome.{PurgeOutcome}

-- the storage finds this for the key and is left as this one, with this past; and an entry that it removed goes from a manager in use
pub record Removes {A : Type 0} (result : Result A ErrorType) (found : PurgeOutcome) (then : Store) (noted : Past) (uses : Bool) (key : Option Key) (a b : StoreSide) (x y : ManagerSide) : Type 0 where
  pub store : OnOk result (b.store ≡ then)
  pub past : OnOk result (b.past ≡ noted)
  pub tracked : OnOk result (y.tracked ≡ tracked_gone_for uses key found x.tracked)
  pub same_store : OnErr result (b.store ≡ a.store)
  pub same_past : OnErr result (b.past ≡ a.past)
  pub same_tracked : OnErr result (y.tracked ≡ x.tracked)
  pub limits : y.limits ≡ x.limits
  pub evicted : y.evicted ≡ x.evicted
  pub kind : IfErr result (λ e. e ≡ OutOfMemory)

-- the key is purged
abbrev pub Purges : {A : Type 0} → Result A ErrorType → Bool → Bool → Option Key → StoreSide → StoreSide → ManagerSide → ManagerSide → Type 0
Purges result numbers uses key a b x y =
    Removes result (purge_outcome numbers a.store (option_map slot key)) (purged_at a.store (option_map slot key)) (purged_past key a.past) uses key a b x y

-- the freshness of what is stored for the key ends
abbrev pub Expires : {A : Type 0} → Result A ErrorType → ℕ → Bool → Option Key → StoreSide → StoreSide → ManagerSide → ManagerSide → Type 0
Expires result now uses key a b x y =
    Removes result (expire_outcome a.store (option_map slot key)) (expired_at now a.store (option_map slot key)) (expired_past now key a.past) uses key a b x y
