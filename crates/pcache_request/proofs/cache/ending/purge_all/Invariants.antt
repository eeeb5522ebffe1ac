use Rattle.std.proofs.Common.{◌≡◌, ℕ, ◌+◌, ◌≤◌, drop, true}
use Rattle.pcache_store.specs.Store.{Store}
use Rattle.pcache_request.specs.Finishing.{PurgesAll, TakesAll}
use Rattle.pcache_request.specs.StorePasts.{Past, entry_past}
use Rattle.pcache_request.proofs.cache.ending.purge_all.Given as goal

abbrev pub invariant-loop-entry : goal.invariant-loop-entry
invariant-loop-entry g l =
    record {
      few : l.failed ≤ l.entry-index;
      told : (m : ℕ) (t : Store) → PurgesAll g.S.StoreMeaning.guarantees.numbers (g.S.StoreMeaning.state l.storage) (drop l.entry-index l.entries) m t → PurgesAll g.S.StoreMeaning.guarantees.numbers (g.S.StoreMeaning.state l.fn.storage) l.entries (l.failed + m) t;
      noted : (m : ℕ) (t : Past) → TakesAll (entry_past g.S.StoreMeaning.guarantees.numbers) (g.S.StoreMeaning.past l.storage) (drop l.entry-index l.entries) m t → TakesAll (entry_past g.S.StoreMeaning.guarantees.numbers) (g.S.StoreMeaning.past l.fn.storage) l.entries (l.failed + m) t;
      sure : g.S.StoreMeaning.guarantees.purges ≡ true → l.failed ≡ 0;
    }
