-- An entry that was not tracked is added and taken out again.
use Rattle.std.proofs.Common.{◌≡◌, ℕ, Bool, true, false, Option, Some, None, is_some, cond, if◌then◌else◌, ap, refl, sym, ◌∙◌}
use Rattle.std.specs.Ordering.{eq_by_cmp}
use Rattle.std.specs.FinMap.{contains_key, get, insert, remove, get-insert, get-remove, same_map}
use Rattle.std.proofs.lemmas.Map.Views.{tells_apart}
use Rattle.pcache_evict.proofs.EntryOrder.{exact_entries}
use Rattle.pcache_evict.specs.Entry.{entry_cmp, entries_total}
use Rattle.pcache_evict.specs.Tracked.{Tracked, added}
use Rattle.pcache_evict.specs.declared.eviction.entry_key.CacheEntryKey.{CacheEntryKey}

is-none : (o : Option ℕ) → is_some o ≡ false → o ≡ None
is-none None h = refl
is-none (Some n) h = absurd (cc)

cleared : (b : Bool) (n : ℕ) (o : Option ℕ) → (b ≡ true → o ≡ None) → cond b None (cond b (Some n) o) ≡ o
cleared true n o none = sym (none refl)
cleared false n o none = refl

pub taken_back : (m : Tracked) (e : CacheEntryKey) (n : ℕ) → contains_key m e ≡ false → remove (added m e n) e ≡ m
taken_back m e n none = ap (λ b. remove (if b then m else insert m e n) e) none ∙ same_map entries_total exact_entries _ _ (λ q.
    get-remove entries_total (insert m e n) e q ∙ ap (cond (eq_by_cmp entry_cmp q e) None) (get-insert entries_total m e n q)
    ∙ cleared (eq_by_cmp entry_cmp q e) n (get m q) (λ t. ap (get m) (tells_apart exact_entries q e t) ∙ is-none (get m e) none))
