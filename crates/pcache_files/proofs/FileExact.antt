-- A file is read exactly when it is spelled.
use Rattle.std.specs.Prelude.{IfErr, IfOk}
use Rattle.std.proofs.lemmas.Bool.{eqb-true}
use Rattle.pcache_meta.specs.Reading.{when, GivesOrWants, number_at, text_at}
use Rattle.pcache_meta.proofs.Exact.{when_some, same_parts, number_takes, number_again, number_behind, number_exact, array_behind}
use Rattle.pcache_meta.proofs.TextExact.{text_takes, text_again, text_behind}
use Rattle.pcache_files.specs.FileReading.{key_items_at, only_at, pair_at, entry_at, node_at, nodes_at, file_at}
use Rattle.pcache_files.proofs.Words.{◌≡◌, ℕ, zero, suc, eqb, List, [], ◌∷◌, length, Option, Some, None, refl, sym, ap, subst, ◌∙◌, inl, inr, Result, Ok, Err, IsErrOf, ◌⊎◌, nil_from_length, some_pair_parts, same_Some, ErrorType, InternalError, OutOfMemory, CompactCacheKey, CacheEntryKey, entry_with, Recency, NumberThen, ArrayThen, HashThen, OptionThen, array_at, items_at, hash_at, optional_at, IsBytes, after, after_rest, chosen, array_takes, array_again, items_takes, items_again, optional_takes, optional_again, optional_behind, hash_exact, KeyItemsThen, KeyThen, EntryThen, NodeThen, NodesThen, SpellsFile}
use Rattle.pcache_files.specs.FileSpelling as spell

-- ---- keys

key_items_takes : (bytes : List ℕ) (k : CompactCacheKey) (rest : List ℕ) → IsBytes bytes → key_items_at bytes ≡ Some (k, rest) → KeyItemsThen bytes k rest
unfolding key_items_at
key_items_takes bytes k rest fits e = after (hash_at bytes) _ (k, rest) e (λ primary r1 read1 go.
    let t1 = hash_exact.takes bytes primary r1 fits read1 in
    let f1 = hash_exact.behind bytes primary r1 fits t1 in
    after (optional_at hash_at r1) _ (k, rest) go (λ variance r2 read2 go.
    let t2 = optional_takes hash_at HashThen hash_exact r1 variance r2 f1 read2 in
    let f2 = optional_behind hash_at HashThen hash_exact r1 variance r2 f1 t2 in
    after (text_at r2) _ (k, rest) go (λ tag r3 read3 end.
    let t3 = text_takes r2 tag r3 f2 read3 in
    same_parts KeyItemsThen bytes _ k r3 rest end (record { later1 = r1; primary = t1; later2 = r2; variance = t2; user_tag = t3 }))))

key_items_again : (bytes : List ℕ) (k : CompactCacheKey) (rest : List ℕ) → KeyItemsThen bytes k rest → key_items_at bytes ≡ Some (k, rest)
unfolding key_items_at
key_items_again bytes k rest t =
    rw (hash_exact.again bytes k.primary t.later1 t.primary, optional_again hash_at HashThen hash_exact t.later1 k.variance t.later2 t.variance, text_again t.later2 k.user_tag rest t.user_tag) refl

key_items_behind : (bytes : List ℕ) (k : CompactCacheKey) (rest : List ℕ) → IsBytes bytes → KeyItemsThen bytes k rest → IsBytes rest
key_items_behind bytes k rest fits t =
    text_behind t.later2 k.user_tag rest (optional_behind hash_at HashThen hash_exact t.later1 k.variance t.later2 (hash_exact.behind bytes k.primary t.later1 fits t.primary) t.variance) t.user_tag

-- ---- entries

only_takes : (bytes items : List ℕ) (e : CacheEntryKey) (rest : List ℕ) → IsBytes items → ArrayThen bytes 3 items → only_at items ≡ Some (e, rest) → EntryThen bytes e rest
unfolding only_at
only_takes bytes items e rest fits head read = after (key_items_at items) _ (e, rest) read (λ k r found end.
    let there = key_items_takes items k r fits found in
    same_parts EntryThen bytes (entry_with k None) e r rest end (spell.only k refl (record { items = items; head = head; each = there })))

pair_takes : (bytes items : List ℕ) (e : CacheEntryKey) (rest : List ℕ) → IsBytes items → ArrayThen bytes 2 items → pair_at items ≡ Some (e, rest) → EntryThen bytes e rest
unfolding pair_at
pair_takes bytes items e rest fits head read = after_rest (items_at 3 items) _ (e, rest) read (λ r1 read1 go.
    let t1 = items_takes 3 items r1 fits read1 in
    let f1 = array_behind items 3 r1 fits t1 in
    after (key_items_at r1) _ (e, rest) go (λ k r2 read2 go.
    let t2 = key_items_takes r1 k r2 f1 read2 in
    let f2 = key_items_behind r1 k r2 f1 t2 in
    after (optional_at number_at r2) _ (e, rest) go (λ id r3 read3 end.
    let t3 = optional_takes number_at NumberThen number_exact r2 id r3 f2 read3 in
    same_parts EntryThen bytes (entry_with k id) e r3 rest end (spell.pair k id items r2 refl head (record { items = r1; head = t1; each = t2 }) t3))))

entry_takes : (bytes : List ℕ) (e : CacheEntryKey) (rest : List ℕ) → IsBytes bytes → entry_at bytes ≡ Some (e, rest) → EntryThen bytes e rest
unfolding entry_at
entry_takes bytes e rest fits read = after (array_at bytes) _ (e, rest) read (λ n items found go.
    let head = array_takes bytes n items fits found in
    let later = array_behind bytes n items fits head in
    elim (chosen (eqb n 3) _ _ _ go) [
      | inl p ↦ let three : n ≡ 3 = eqb-true _ _ p.0 in only_takes bytes items e rest later (rw (← three) head) p.1
      | inr p ↦ elim (chosen (eqb n 2) _ _ _ p.1) [
        | inl q ↦ let two : n ≡ 2 = eqb-true _ _ q.0 in pair_takes bytes items e rest later (rw (← two) head) q.1
        | inr q ↦ absurd (cc q.1)
      ]
    ])

only_again : (k : CompactCacheKey) (e : CacheEntryKey) (items rest : List ℕ) → e ≡ entry_with k None → KeyItemsThen items k rest → only_at items ≡ Some (e, rest)
unfolding only_at
only_again k e items rest is t = rw (key_items_again items k rest t, is) refl

pair_again : (k : CompactCacheKey) (id : Option ℕ) (e : CacheEntryKey) (items later rest : List ℕ) → e ≡ entry_with k id → KeyThen items k later → OptionThen NumberThen later id rest → pair_at items ≡ Some (e, rest)
unfolding pair_at
pair_again k id e items later rest is t number =
    rw (items_again 3 items t.items t.head, key_items_again t.items k later t.each, optional_again number_at NumberThen number_exact later id rest number, is) refl

entry_again : (bytes : List ℕ) (e : CacheEntryKey) (rest : List ℕ) → EntryThen bytes e rest → entry_at bytes ≡ Some (e, rest)
unfolding entry_at
entry_again bytes e rest (spell.only k is t) = rw (array_again bytes 3 t.items t.head) (only_again k e t.items rest is t.each)
entry_again bytes e rest (spell.pair k id items later is head t number) = rw (array_again bytes 2 items head) (pair_again k id e items later rest is t number)

entry_behind : (bytes : List ℕ) (e : CacheEntryKey) (rest : List ℕ) → IsBytes bytes → EntryThen bytes e rest → IsBytes rest
entry_behind bytes e rest fits (spell.only k is t) = key_items_behind t.items k rest (array_behind bytes 3 t.items fits t.head) t.each
entry_behind bytes e rest fits (spell.pair k id items later is head t number) =
    let inside = array_behind bytes 2 items fits head in
    optional_behind number_at NumberThen number_exact later id rest (key_items_behind t.items k later (array_behind items 3 t.items inside t.head) t.each) number

-- ---- nodes

pub node_takes : (bytes : List ℕ) (node : CacheEntryKey × ℕ) (rest : List ℕ) → IsBytes bytes → node_at bytes ≡ Some (node, rest) → NodeThen bytes node rest
unfolding node_at
node_takes bytes node rest fits read = after_rest (items_at 2 bytes) _ (node, rest) read (λ items read1 go.
    let t1 = items_takes 2 bytes items fits read1 in
    let f1 = array_behind bytes 2 items fits t1 in
    after (entry_at items) _ (node, rest) go (λ e r2 read2 go.
    let t2 = entry_takes items e r2 f1 read2 in
    let f2 = entry_behind items e r2 f1 t2 in
    after (number_at r2) _ (node, rest) go (λ weight r3 read3 end.
    let t3 = number_takes r2 weight r3 f2 read3 in
    same_parts NodeThen bytes (e, weight) node r3 rest end (record { items = items; head = t1; later = r2; entry = t2; weight = t3 }))))

pub node_again : (bytes : List ℕ) (node : CacheEntryKey × ℕ) (rest : List ℕ) → NodeThen bytes node rest → node_at bytes ≡ Some (node, rest)
unfolding node_at
node_again bytes node rest t =
    rw (items_again 2 bytes t.items t.head, entry_again t.items node.0 t.later t.entry, number_again t.later node.1 rest t.weight) refl

node_behind : (bytes : List ℕ) (node : CacheEntryKey × ℕ) (rest : List ℕ) → IsBytes bytes → NodeThen bytes node rest → IsBytes rest
node_behind bytes node rest fits t =
    number_behind t.later node.1 rest (entry_behind t.items node.0 t.later (array_behind bytes 2 t.items fits t.head) t.entry) t.weight

-- the nodes that are read are spelled so, and as many as were asked for
nodes_takes : (n : ℕ) (bytes : List ℕ) (l : Recency) (rest : List ℕ) → IsBytes bytes → nodes_at n bytes ≡ Some (l, rest) → NodesThen bytes l rest × (length l ≡ n)
unfolding nodes_at
nodes_takes zero bytes [] rest fits read = let p = some_pair_parts [] [] bytes rest read in (p.1, refl)
nodes_takes zero bytes (node ∷ l) rest fits read = let p = some_pair_parts [] (node ∷ l) bytes rest read in absurd (cc p.0)
nodes_takes (suc n) bytes l rest fits read = after (node_at bytes) _ (l, rest) read (λ node later found go.
    let t = node_takes bytes node later fits found in
    after (nodes_at n later) _ (l, rest) go (λ nodes last found end.
    let more = nodes_takes n later nodes last (node_behind bytes node later fits t) found in
    let same = some_pair_parts (node ∷ nodes) l last rest end in
    let there : NodesThen bytes (node ∷ nodes) last = (later, t, more.0) in
    let size : length (node ∷ nodes) ≡ suc n = ap suc more.1 in
    (rw (← same.0, ← same.1) there, rw (← same.0) size)))

pub nodes_again : (bytes : List ℕ) (l : Recency) (rest : List ℕ) → NodesThen bytes l rest → nodes_at (length l) bytes ≡ Some (l, rest)
unfolding nodes_at
nodes_again bytes [] rest t = ap (λ (bytes : List ℕ). Some ([], bytes)) t
nodes_again bytes (node ∷ l) rest t = rw (node_again bytes node t.0 t.1, nodes_again t.0 l rest t.2) refl

-- ---- files

pub file_takes : (bytes : List ℕ) (l : Recency) → IsBytes bytes → file_at bytes ≡ Some l → SpellsFile bytes l
unfolding file_at
file_takes bytes l fits read = after (array_at bytes) _ l read (λ count items found go.
    let head = array_takes bytes count items fits found in
    after (nodes_at count items) _ l go (λ nodes rest found go.
    let there = nodes_takes count items nodes rest (array_behind bytes count items fits head) found in
    after_rest (when (eqb (length rest) 0) rest) _ l go (λ last check end.
    let v = when_some _ _ _ check in
    let none : rest ≡ [] = nil_from_length rest (eqb-true _ _ v.0) in
    let is : nodes ≡ l = same_Some nodes l end in
    made bytes count items nodes rest l head there.0 there.1 none is)))
  where
    made : (bytes : List ℕ) (count : ℕ) (items : List ℕ) (nodes : Recency) (rest : List ℕ) (l : Recency) → ArrayThen bytes count items → NodesThen items nodes rest → length nodes ≡ count → rest ≡ [] → nodes ≡ l → SpellsFile bytes l
    made bytes count items nodes rest l head there size none is =
        let all_of : NodesThen items nodes [] = rw (← none) there in
        rw (← is) (record { items = items; head = rw size head; nodes = all_of })

pub file_again : (bytes : List ℕ) (l : Recency) → SpellsFile bytes l → file_at bytes ≡ Some l
unfolding file_at
file_again bytes l t = rw (array_again bytes (length l) t.items t.head, nodes_again t.items l [] t.nodes) refl

-- no bytes spell two lists
pub one_list : (bytes : List ℕ) (l m : Recency) → SpellsFile bytes l → SpellsFile bytes m → l ≡ m
one_list bytes l m s t = same_Some l m (sym (file_again bytes l s) ∙ file_again bytes m t)

-- ---- the same of what a reader of the code returned

module _ {X : Type 0} (view : X → Recency) where
  pub read_found : (bytes : List ℕ) (r : Result X ErrorType) → IsBytes bytes → GivesOrWants view r (file_at bytes) → IfOk r (λ v. SpellsFile bytes (view v))
  read_found bytes (Ok v) fits gives = file_takes bytes (view v) fits gives
  read_found bytes (Err e) fits gives = tt

  pub read_same : (bytes : List ℕ) (r : Result X ErrorType) (l : Recency) → GivesOrWants view r (file_at bytes) → SpellsFile bytes l → IfOk r (λ v. view v ≡ l)
  read_same bytes (Ok v) l gives spelled = same_Some (view v) l (sym gives ∙ file_again bytes l spelled)
  read_same bytes (Err e) l gives spelled = tt

  pub read_refused : (bytes : List ℕ) (r : Result X ErrorType) (l : Recency) → GivesOrWants view r (file_at bytes) → IsErrOf r InternalError → SpellsFile bytes l → ⊥
  read_refused bytes r l gives refused spelled =
      let P : Result X ErrorType → Type 0 = λ x. GivesOrWants view x (file_at bytes) in
      let none : file_at bytes ≡ None = subst P refused gives in
      let some = file_again bytes l spelled in
      cc (none, some)

  pub read_kinds : (bytes : List ℕ) (r : Result X ErrorType) → GivesOrWants view r (file_at bytes) → IfErr r (λ e. (e ≡ OutOfMemory) ⊎ (e ≡ InternalError))
  read_kinds bytes (Ok v) gives = tt
  read_kinds bytes (Err InternalError) gives = inr refl
  read_kinds bytes (Err OutOfMemory) gives = inl refl
  read_kinds bytes (Err _) gives = absurd gives
