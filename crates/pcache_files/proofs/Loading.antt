-- A list that is loaded into an empty one.
use Rattle.std.specs.Map.{keys_of}
use Rattle.std.proofs.lemmas.Map.Keys.{IsDistinct-head, IsDistinct-tail}
use Rattle.pcache_files.specs.FileLaws.{FilesSpellOneList, SavedIsLoaded}
use Rattle.pcache_files.proofs.Words.{◌≡◌, ℕ, true, false, cond, Some, None, is_some, [], ◌∷◌, ◌++◌, refl, sym, ap, subst, ◌∙◌, append_assoc, AllByRecursion, append-nil, CacheEntryKey, entry_eq, Recency, loaded, loaded_all, moved, weight_of, IsOnce, laws, same_key}
use Rattle.pcache_files.proofs.FileExact.{one_list}
use Rattle.pcache_files.proofs.Written.{file_then}

apart : (k j : CacheEntryKey) → entry_eq j k ≡ false → entry_eq k j ≡ false
apart k j off = elim (entry_eq k j) as (λ b. entry_eq k j ≡ b → b ≡ false) [
  | true ↦ λ t. let same : k ≡ j = same_key k j t in let here : entry_eq j k ≡ true = subst (λ x. entry_eq j x ≡ true) (sym same) (laws.refl j) in absurd (cc (here, off))
  | false ↦ λ t. refl
] refl

-- an entry is not among others that come before it
before : (k : CacheEntryKey) (w : ℕ) (done rest : Recency) → IsOnce (done ++ (k, w) ∷ rest) → weight_of k done ≡ None
before k w [] rest once = refl
before k w (e ∷ done) rest once =
    ap (λ b. cond b (Some e.1) (weight_of k done)) (apart k e.0 (last e.0 done (IsDistinct-head entry_eq e.0 (keys_of (done ++ (k, w) ∷ rest)) once)))
    ∙ before k w done rest (IsDistinct-tail entry_eq e.0 (keys_of (done ++ (k, w) ∷ rest)) once)
  where
    last : (j : CacheEntryKey) (done : Recency) → AllByRecursion (λ y. entry_eq j y ≡ false) (keys_of (done ++ (k, w) ∷ rest)) → entry_eq j k ≡ false
    last j [] h = h.0
    last j (e ∷ done) h = last j done h.1

load_rest : (rest done : Recency) → IsOnce (done ++ rest) → loaded_all rest done ≡ done ++ rest
load_rest [] done once = sym (append-nil done)
load_rest (e ∷ rest) done once =
    let missing = before e.0 e.1 done rest once in
    let behind : loaded e.0 e.1 done ≡ done ++ e ∷ [] = ap (λ o. cond (is_some o) (moved e.0 e.1 done) (done ++ e ∷ [])) missing in
    let whole : (done ++ e ∷ []) ++ rest ≡ done ++ (e ∷ rest) = append_assoc done (e ∷ []) rest in
    ap (loaded_all rest) behind ∙ load_rest rest (done ++ e ∷ []) (subst IsOnce (sym whole) once) ∙ whole

pub saved_is_loaded : SavedIsLoaded
saved_is_loaded = λ l good once. (file_then l good, load_rest l [] once)

pub files_spell_one_list : FilesSpellOneList
files_spell_one_list = one_list
