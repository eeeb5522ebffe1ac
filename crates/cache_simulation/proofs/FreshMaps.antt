-- When bodies came in, as a map.
use Rattle.pcache_evict.specs.Entry.{entry_eq, entry_ties}
use Rattle.pcache_evict.specs.Recency.{Recency}
use Rattle.pcache_evict.proofs.Recency.{laws}
use Rattle.cache_simulation.proofs.Words.{◌≡◌, ℕ, cond, None, Some, ap, sym, ◌∙◌, eq_by_cmp, CacheEntryKey, entry_cmp, entries_total, Tracked, weight_of, map_of, exact_entries, get-map_of, Fresh}
use Rattle.std.specs.FinMap as fin

-- entries that differ at one key make maps that differ there
pub put : (es fs : Recency) (k : CacheEntryKey) (v : ℕ) → ((q : CacheEntryKey) → weight_of q fs ≡ cond (entry_eq k q) (Some v) (weight_of q es)) → map_of fs ≡ fin.insert (map_of es) k v
put es fs k v h = fin.same_map entries_total exact_entries _ _ (λ q.
    get-map_of fs q ∙ h q ∙ ap (λ b. cond b (Some v) (weight_of q es)) (laws.symm k q ∙ entry_ties q k)
    ∙ sym (fin.get-insert entries_total (map_of es) k v q ∙ ap (λ o. cond (eq_by_cmp entry_cmp q k) (Some v) o) (get-map_of es q)))

pub taken : (es fs : Recency) (k : CacheEntryKey) → ((q : CacheEntryKey) → weight_of q fs ≡ cond (entry_eq k q) None (weight_of q es)) → map_of fs ≡ fin.remove (map_of es) k
taken es fs k h = fin.same_map entries_total exact_entries _ _ (λ q.
    get-map_of fs q ∙ h q ∙ ap (λ b. cond b None (weight_of q es)) (laws.symm k q ∙ entry_ties q k)
    ∙ sym (fin.get-remove entries_total (map_of es) k q ∙ ap (λ o. cond (eq_by_cmp entry_cmp q k) None o) (get-map_of es q)))

abbrev pub fresh_of : ℕ → Tracked → Fresh
fresh_of time came = record { time = time; came = came }
