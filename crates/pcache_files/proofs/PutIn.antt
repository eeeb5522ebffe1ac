-- What is put in from files, on the map of what is tracked.
use Rattle.std.proofs.Common.{length-append}
use Rattle.std.specs.List.{IsDistinct}
use Rattle.std.specs.Ordering.{eq_by_cmp}
use Rattle.pcache_evict.specs.Entry.{entry_cmp, entries_total, entry_ties}
use Rattle.pcache_evict.specs.Tracked.{added}
use Rattle.pcache_evict.specs.Shards.{ArePlaced, IsShard, list_at, shard_of, in_shard, added_last, added_last_all}
use Rattle.pcache_evict.proofs.EntryOrder.{exact_entries}
use Rattle.pcache_evict.proofs.Maps.{get-map_of, map-moved}
use Rattle.pcache_evict.proofs.Sharded.{E, Apart, at_home, both, found-all, once-append, placed-put, in_range}
use Rattle.pcache_evict.proofs.Cuts.{joined-there, joined-new}
use Rattle.std.specs.Prelude.{IfSome, IfNone, option_map}
use Rattle.std.specs.Path.{path_join}
use Rattle.pcache_files.specs.FileWriting.{file_written}
use Rattle.pcache_files.specs.Folder.{AreFiles, IsFile, IsRead, IsSaved, found, missing, set_all, added_all, shard_name}
use Rattle.pcache_files.proofs.Words.{◌≡◌, ℕ, suc, ◌+◌, ◌≤◌, true, false, cond, Option, None, Some, is_some, length, arith, List, [], ◌∷◌, ◌++◌, refl, ap, sym, subst, ◌∙◌, append_assoc, AllByRecursion, append-nil, CacheEntryKey, entry_eq, Recency, weight_of, moved, loaded, loaded_all, map_of, IsOnce, all, laws, same_key, zero, Error, AreSaved, Loads, shard_files, shard_names}
use Rattle.std.specs.FinMap as fin

apart_none : (k : CacheEntryKey) (l : Recency) → weight_of k l ≡ None → Apart k l
apart_none k [] none = tt
apart_none k (e ∷ l) none =
    elim (entry_eq k e.0) as (λ b. entry_eq k e.0 ≡ b → cond b (Some e.1) (weight_of k l) ≡ None → Apart k (e ∷ l)) [
      | true ↦ λ t h. absurd (cc h)
      | false ↦ λ t h. (t, apart_none k l h)
    ] refl none

-- an entry in the middle, if it is not before
middle : (k : CacheEntryKey) (n : ℕ) (a b : Recency) (q : CacheEntryKey) → Apart k a → weight_of q (a ++ (k, n) ∷ b) ≡ cond (entry_eq q k) (Some n) (weight_of q (a ++ b))
middle k n [] b q h = refl
middle k n (e ∷ a) b q h =
    ap (cond (entry_eq q e.0) (Some e.1)) (middle k n a b q h.1)
    ∙ (elim (entry_eq q k) as (λ t. entry_eq q k ≡ t → cond (entry_eq q e.0) (Some e.1) (cond t (Some n) (weight_of q (a ++ b))) ≡ cond t (Some n) (cond (entry_eq q e.0) (Some e.1) (weight_of q (a ++ b)))) [
      | true ↦ λ t. ap (λ b. cond b (Some e.1) (Some n)) (ap (λ x. entry_eq x e.0) (same_key q k t) ∙ h.0)
      | false ↦ λ t. refl
    ] refl)

-- lists that are looked up alike but for one entry have maps that differ in it
inserted : (k : CacheEntryKey) (n : ℕ) (old new : Recency) → ((q : CacheEntryKey) → weight_of q new ≡ cond (entry_eq q k) (Some n) (weight_of q old)) → map_of new ≡ fin.insert (map_of old) k n
inserted k n old new same = fin.same_map entries_total exact_entries _ _ (λ q.
    get-map_of new q
    ∙ same q
    ∙ ap (λ b. cond b (Some n) (weight_of q old)) (entry_ties q k)
    ∙ sym (fin.get-insert entries_total (map_of old) k n q ∙ ap (cond (eq_by_cmp entry_cmp q k) (Some n)) (get-map_of old q)))

-- ---- one list

map_loaded : (k : CacheEntryKey) (n : ℕ) (l : Recency) → map_of (loaded k n l) ≡ fin.insert (map_of l) k n
map_loaded k n l = elim (weight_of k l) as (λ o. weight_of k l ≡ o → map_of (cond (is_some o) (moved k n l) (l ++ (k, n) ∷ [])) ≡ fin.insert (map_of l) k n) [
  | None ↦ λ none. inserted k n l (l ++ (k, n) ∷ []) (λ q. middle k n l [] q (apart_none k l none) ∙ ap (λ l. cond (entry_eq q k) (Some n) (weight_of q l)) (append-nil l))
  | Some w ↦ λ some. map-moved k n l
] refl

pub map_loaded_all : (entries l : Recency) → map_of (loaded_all entries l) ≡ set_all entries (map_of l)
map_loaded_all [] l = refl
map_loaded_all (e ∷ entries) l = map_loaded_all entries (loaded e.0 e.1 l) ∙ ap (set_all entries) (map_loaded e.0 e.1 l)

-- ---- lists in shards

once_one : (k : CacheEntryKey) (w : ℕ) → IsOnce ((k, w) ∷ [])
unfolding IsDistinct
once_one k w = (tt, tt)

other_way : (k : CacheEntryKey) (w : ℕ) (l : Recency) → Apart k l → AllByRecursion (λ (e : E). AllByRecursion (λ (f : E). entry_eq e.0 f.0 ≡ false) ((k, w) ∷ [])) l
other_way k w [] h = tt
other_way k w (e ∷ l) h = ((laws.symm e.0 k ∙ h.0, tt), other_way k w l h.1)

shard_joined : (n : ℕ) (k : CacheEntryKey) (w : ℕ) (l : Recency) → IsShard n (shard_of n k) l → IsShard n (shard_of n k) (added_last k w l)
shard_joined n k w l s = elim (weight_of k l) as (λ o. weight_of k l ≡ o → IsShard n (shard_of n k) (cond (is_some o) l (l ++ (k, w) ∷ []))) [
  | None ↦ λ none. record {
    own = both (λ e. shard_of n e.0 ≡ shard_of n k) l ((k, w) ∷ []) s.own (refl, tt);
    once = once-append l ((k, w) ∷ []) s.once (once_one k w) (other_way k w l (apart_none k l none));
  }
  | Some v ↦ λ some. s
] refl

placed_joined : (n : ℕ) (k : CacheEntryKey) (w : ℕ) (shards : List Recency) → ArePlaced n shards → ArePlaced n (in_shard n k (added_last k w) shards)
placed_joined n k w shards p = placed-put n shards (shard_of n k) _ (in_range n shards k p) (shard_joined n k w (list_at shards (shard_of n k)) (p.each (shard_of n k))) p

map_joined : (n : ℕ) (k : CacheEntryKey) (w : ℕ) (shards : List Recency) → ArePlaced n shards → map_of (all (in_shard n k (added_last k w) shards)) ≡ added (map_of (all shards)) k w
map_joined n k w shards p =
    let l = list_at shards (shard_of n k) in
    let s = at_home n shards k p in
    let found = found-all n shards k p in
    elim (weight_of k l) as (λ o. weight_of k l ≡ o → map_of (all (in_shard n k (added_last k w) shards)) ≡ added (map_of (all shards)) k w) [
      | None ↦ λ none.
          let whole : all (in_shard n k (λ l. l ++ (k, w) ∷ []) shards) ≡ (s.front ++ l) ++ (k, w) ∷ s.back = s.put (l ++ (k, w) ∷ []) ∙ ap (λ t. s.front ++ t) (append_assoc l ((k, w) ∷ []) s.back) ∙ sym (append_assoc s.front l ((k, w) ∷ s.back)) in
          let old : all shards ≡ (s.front ++ l) ++ s.back = s.here ∙ sym (append_assoc s.front l s.back) in
          let apart : Apart k (s.front ++ l) = both (λ e. entry_eq k e.0 ≡ false) s.front l s.before (apart_none k l none) in
          let absent : is_some (fin.get (map_of (all shards)) k) ≡ false = ap is_some (get-map_of (all shards) k ∙ found ∙ none) in
          ap (λ x. map_of (all x)) (sym (joined-new n shards k w (ap is_some none)))
          ∙ inserted k w (all shards) (all (in_shard n k (λ l. l ++ (k, w) ∷ []) shards)) (λ q. ap (weight_of q) whole ∙ middle k w (s.front ++ l) s.back q apart ∙ ap (λ t. cond (entry_eq q k) (Some w) (weight_of q t)) (sym old))
          ∙ sym (ap (λ b. cond b (map_of (all shards)) (fin.insert (map_of (all shards)) k w)) absent)
      | Some v ↦ λ some.
          let there : is_some (fin.get (map_of (all shards)) k) ≡ true = ap is_some (get-map_of (all shards) k ∙ found ∙ some) in
          ap (λ x. map_of (all x)) (sym (joined-there n shards k w (ap is_some some)))
          ∙ sym (ap (λ b. cond b (map_of (all shards)) (fin.insert (map_of (all shards)) k w)) there)
    ] refl

pub map_joined_all : (n : ℕ) (entries : Recency) (shards : List Recency) → ArePlaced n shards → map_of (all (added_last_all n entries shards)) ≡ added_all entries (map_of (all shards))
map_joined_all n [] shards p = refl
map_joined_all n (e ∷ entries) shards p =
    map_joined_all n entries (in_shard n e.0 (added_last e.0 e.1) shards) (placed_joined n e.0 e.1 shards p) ∙ ap (added_all entries) (map_joined n e.0 e.1 shards p)

-- ---- files one after the other

found_more : (lists : List (Option Recency)) (l : Recency) → found (lists ++ Some l ∷ []) ≡ found lists ++ l
found_more [] l = append-nil l
found_more (None ∷ lists) l = found_more lists l
found_more (Some m ∷ lists) l = ap (λ x. m ++ x) (found_more lists l) ∙ sym (append_assoc m (found lists) l)

found_none : (lists : List (Option Recency)) → found (lists ++ None ∷ []) ≡ found lists
found_none [] = refl
found_none (None ∷ lists) = found_none lists
found_none (Some m ∷ lists) = ap (λ x. m ++ x) (found_none lists)

missing_more : (lists : List (Option Recency)) (l : Recency) → missing (lists ++ Some l ∷ []) ≡ missing lists
missing_more [] l = refl
missing_more (None ∷ lists) l = ap suc (missing_more lists l)
missing_more (Some m ∷ lists) l = missing_more lists l

missing_none : (lists : List (Option Recency)) → missing (lists ++ None ∷ []) ≡ suc (missing lists)
missing_none [] = refl
missing_none (None ∷ lists) = ap suc (missing_none lists)
missing_none (Some m ∷ lists) = missing_none lists

more_one : (n : ℕ) → suc n ≡ n + 1
more_one n = omega arith

module _ {F : Type 0} (opens : List ℕ → F → Type 0) (left : F → Option (List ℕ)) (source : F → ℕ) (refuses : List ℕ → Error → Type 0) (fails : F → Error → F → Type 0) (dir : List ℕ) where
  abbrev pub Each : List (List ℕ) → List (Option Recency) → Type 0
  Each = AreFiles opens left source refuses fails dir

  abbrev pub One : List ℕ → Option Recency → Type 0
  One name list = IsFile opens left source refuses fails (path_join dir name) list

  each_more : (names : List (List ℕ)) (lists : List (Option Recency)) (name : List ℕ) (o : Option Recency) → Each names lists → One name o → Each (names ++ name ∷ []) (lists ++ o ∷ [])
  each_more [] [] name o h one = (one, tt)
  each_more [] (x ∷ lists) name o h one = absurd h
  each_more (n ∷ names) [] name o h one = absurd h
  each_more (n ∷ names) (x ∷ lists) name o h one = (h.0, each_more names lists name o h.1 one)

  abbrev pub Loaded : List (List ℕ) → ℕ → Recency → Type 0
  Loaded = Loads opens left source refuses fails dir

  pub loads_none : Loaded [] 0 []
  loads_none = record { lists = []; each = tt; skips = refl; all = refl }

  loads_read : (names : List (List ℕ)) (name : List ℕ) (skipped : ℕ) (entries l new : Recency) → Loaded names skipped entries → One name (Some l) → new ≡ entries ++ l → Loaded (names ++ name ∷ []) skipped new
  loads_read names name skipped entries l new so_far one is = record {
    lists = so_far.lists ++ Some l ∷ [];
    each = each_more names so_far.lists name (Some l) so_far.each one;
    skips = so_far.skips ∙ sym (missing_more so_far.lists l);
    all = is ∙ ap (λ x. x ++ l) so_far.all ∙ sym (found_more so_far.lists l);
  }

  loads_skipped : (names : List (List ℕ)) (name : List ℕ) (skipped : ℕ) (entries : Recency) → Loaded names skipped entries → One name None → Loaded (names ++ name ∷ []) (skipped + 1) entries
  loads_skipped names name skipped entries so_far one = record {
    lists = so_far.lists ++ None ∷ [];
    each = each_more names so_far.lists name None so_far.each one;
    skips = ap (λ n. n + 1) so_far.skips ∙ sym (more_one (missing so_far.lists)) ∙ sym (missing_none so_far.lists);
    all = so_far.all ∙ sym (found_none so_far.lists);
  }

  loads_on : {X : Type 0} (view : X → Recency) (o : Option X) (names : List (List ℕ)) (name : List ℕ) (s t : ℕ) (e f : Recency) → Loaded names s e → One name (option_map view o)
      → IfSome o (λ v. (f ≡ e ++ view v) × (t ≡ s)) → IfNone o ((f ≡ e) × (t ≡ s + 1)) → Loaded (names ++ name ∷ []) t f
  loads_on view (Some v) names name s t e f so_far one added missed =
      subst (λ n. Loaded (names ++ name ∷ []) n f) (sym added.1) (loads_read names name s e (view v) f so_far one added.0)
  loads_on view None names name s t e f so_far one added missed =
      subst (λ n. Loaded (names ++ name ∷ []) n f) (sym missed.1) (subst (λ l. Loaded (names ++ name ∷ []) (s + 1) l) (sym missed.0) (loads_skipped names name s e so_far one))

  -- the file of one more shard, as the code takes it in
  pub loads_step : {X : Type 0} (view : X → Recency) (o : Option X) (shards s t : ℕ) (e f : Recency) → Loaded (shard_names shards) s e → One (shard_name shards) (option_map view o)
      → IfSome o (λ v. (f ≡ e ++ view v) × (t ≡ s)) → IfNone o ((f ≡ e) × (t ≡ s + 1)) → Loaded (shard_names (shards + 1)) t f
  loads_step view o shards s t e f so_far one added missed =
      subst (λ n. Loaded (shard_names n) t f) (more_one shards) (loads_on view o (shard_names shards) (shard_name shards) s t e f so_far one added missed)

  few : (names : List (List ℕ)) (lists : List (Option Recency)) → Each names lists → missing lists ≤ length names
  few [] [] h = omega arith
  few [] (x ∷ lists) h = absurd h
  few (n ∷ names) [] h = absurd h
  few (n ∷ names) (None ∷ lists) h = omega (arith, few names lists h.1)
  few (n ∷ names) (Some l ∷ lists) h = omega (arith, few names lists h.1)

  -- no more are skipped than there are shards
  pub skips_few : (shards skipped : ℕ) (entries : Recency) → Loaded (shard_names shards) skipped entries → skipped ≤ shards
  skips_few shards skipped entries h = omega (arith, h.skips, few (shard_names shards) h.lists h.each, many shards)
    where
      many : (n : ℕ) → length (shard_names n) ≡ n
      many zero = refl
      many (suc n) = length-append (shard_names n) (shard_name n ∷ []) ∙ ap (λ m. m + 1) (many n) ∙ sym (more_one n)

  -- one file that was read
  pub loads_one : (name : List ℕ) (l : Recency) → IsRead opens left (path_join dir name) l → Loaded (name ∷ []) 0 l
  loads_one name l one = record { lists = Some l ∷ []; each = (one, tt); skips = refl; all = sym (append-nil l) }

-- ---- files that were saved

module _ {F : Type 0} (makes : List ℕ → F → Type 0) (renames : List ℕ → List ℕ → Type 0) (contents : F → Option (List ℕ)) (is_flushed : F → Type 0) (dir : List ℕ) where
  abbrev pub Are : List (List ℕ × List ℕ) → Type 0
  Are = AreSaved makes renames contents is_flushed dir

  saved_more : (files : List (List ℕ × List ℕ)) (name bytes : List ℕ) → Are files → IsSaved makes renames contents is_flushed (path_join dir name) bytes → Are (files ++ (name, bytes) ∷ [])
  saved_more [] name bytes h one = (one, tt)
  saved_more (file ∷ files) name bytes h one = (h.0, saved_more files name bytes h.1 one)

  -- the file of one more shard
  pub saved_step : (shards : ℕ) (lists : List Recency) → Are (shard_files shards lists) → IsSaved makes renames contents is_flushed (path_join dir (shard_name shards)) (file_written (list_at lists shards)) → Are (shard_files (shards + 1) lists)
  saved_step shards lists h one = subst (λ n. Are (shard_files n lists)) (more_one shards) (saved_more (shard_files shards lists) (shard_name shards) (file_written (list_at lists shards)) h one)
