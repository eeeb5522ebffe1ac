-- What the changes of a tracked map leave at an entry, and its weight as a sum.
use Rattle.std.proofs.lemmas.Bool.{or_parts}
use Rattle.pcache_evict.proofs.Words.{◌≡◌, Bool, false, cond, None, List, [], ◌∷◌, refl, ap, ◌∙◌, list_any, eq_by_cmp, CacheEntryKey, entry_cmp, entries_total, Tracked, without}
use Rattle.std.specs.FinMap as map

abbrev ties : CacheEntryKey → CacheEntryKey → Bool
ties = eq_by_cmp entry_cmp

pub get-remove_apart : (m : Tracked) (x e : CacheEntryKey) → ties x e ≡ false → map.get (map.remove m e) x ≡ map.get m x
get-remove_apart m x e t = map.get-remove entries_total m e x ∙ ap (λ b. cond b None (map.get m x)) t

-- an entry that is none of these keeps its weight
pub get-without_apart : (out : List CacheEntryKey) (m : Tracked) (x : CacheEntryKey) → list_any (ties x) out ≡ false → map.get (without out m) x ≡ map.get m x
get-without_apart [] m x h = refl
get-without_apart (e ∷ out) m x h =
    let parts = or_parts (ties x e) (list_any (ties x) out) h in
    get-without_apart out (map.remove m e) x parts.1 ∙ get-remove_apart m x e parts.0
