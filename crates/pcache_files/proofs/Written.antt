-- What is written of a list spells it.
use Rattle.std.proofs.lemmas.List.{length-append}
use Rattle.std.proofs.lemmas.Grind.{flat_map-append}
use Rattle.std.proofs.Math.Seq.{get_or-append_seam}
use Rattle.std.proofs.lemmas.Bool.{cases_lt}
use Rattle.std.specs.Prelude.{slice_index_or, ◌↔◌}
use Rattle.pcache_evict.specs.declared.eviction.entry_key.CacheEntryKey.TheVariants.{KeyOnly, Identified}
use Rattle.pcache_meta.specs.Writing.{optional_written, IsHash}
use Rattle.pcache_meta.proofs.Spelled.{array_then, hash_then, number_then, optional_then, text_then}
use Rattle.pcache_files.specs.FileWriting.{key_written, entry_written, node_written, file_written, IsKey, IsNode, IsTooLong, AreNodes}
use Rattle.pcache_files.proofs.Words.{◌≡◌, ℕ, ◌<◌, ◌≤◌, ◌^◌, List, [], ◌∷◌, ◌++◌, length, Some, refl, sym, ap, subst, ◌∙◌, append_assoc, arith, inl, inr, flat_map, AllByRecursion, append-nil, flat_map-cons, Err, IsErrOf, Ok, Result, ErrorType, InternalError, CompactCacheKey, CacheEntryKey, key_of, Recency, HashThen, number_written, array_written, text_written, hash_written, KeyThen, EntryThen, NodeThen, NodesThen, SpellsFile}
use Rattle.pcache_files.specs.FileSpelling as spell

pub key_then : (k : CompactCacheKey) (rest : List ℕ) → IsKey k → KeyThen (key_written k ++ rest) k rest
unfolding key_written
key_then k rest is =
    let tag = text_written k.user_tag in
    let variance = optional_written hash_written k.variance in
    let primary = hash_written k.primary in
    let later2 = tag ++ rest in
    let later1 = variance ++ later2 in
    let items = primary ++ later1 in
    let shape : array_written 3 ++ primary ++ variance ++ tag ++ rest ≡ array_written 3 ++ items = simp append_assoc in
    rw shape (record {
      items = items;
      head = array_then 3 items (omega arith);
      each = record {
        later1 = later1;
        primary = hash_then k.primary later1 is.primary;
        later2 = later2;
        variance = optional_then hash_written HashThen IsHash hash_then k.variance later2 is.variance;
        user_tag = text_then k.user_tag rest is.short is.utf8;
      };
    })

pub entry_then : (e : CacheEntryKey) (rest : List ℕ) (weight : ℕ) → IsNode (e, weight) → EntryThen (entry_written e ++ rest) e rest
unfolding entry_written
entry_then (KeyOnly k) rest weight is = spell.only k refl (key_then k rest is.key)
entry_then (Identified k n) rest weight is =
    let later = number_written n ++ rest in
    let items = key_written k ++ later in
    let shape : array_written 2 ++ key_written k ++ number_written n ++ rest ≡ array_written 2 ++ items = simp append_assoc in
    rw shape (spell.pair k (Some n) items later refl (array_then 2 items (omega arith)) (key_then k later is.key) (number_then n rest is.id))

pub node_then : (node : CacheEntryKey × ℕ) (rest : List ℕ) → IsNode node → NodeThen (node_written node ++ rest) node rest
unfolding node_written
node_then node rest is =
    let later = number_written node.1 ++ rest in
    let items = entry_written node.0 ++ later in
    let shape : array_written 2 ++ entry_written node.0 ++ number_written node.1 ++ rest ≡ array_written 2 ++ items = simp append_assoc in
    rw shape (record {
      items = items;
      head = array_then 2 items (omega arith);
      later = later;
      entry = entry_then node.0 later node.1 is;
      weight = number_then node.1 rest is.weight;
    })

pub nodes_then : (l : Recency) (rest : List ℕ) → AllByRecursion IsNode l → NodesThen (flat_map node_written l ++ rest) l rest
nodes_then [] rest is = refl
nodes_then (node ∷ l) rest is =
    let later = flat_map node_written l ++ rest in
    let shape : flat_map node_written (node ∷ l) ++ rest ≡ node_written node ++ later = rw flat_map-cons (append_assoc (node_written node) (flat_map node_written l) rest) in
    rw shape (later, node_then node later is.0, nodes_then l rest is.1)

pub file_then : (l : Recency) → AreNodes l → SpellsFile (file_written l) l
unfolding file_written
file_then l is =
    let nodes : NodesThen (flat_map node_written l) l [] = subst (λ bytes. NodesThen bytes l []) (append-nil (flat_map node_written l)) (nodes_then l [] is.each) in
    record { items = flat_map node_written l; head = array_then (length l) (flat_map node_written l) is.few; nodes = nodes }

-- of these entries all but those that are left were written
pub record Writes (all left : Recency) (out : List ℕ) : Type 0 where
  pub done : Recency
  pub split : all ≡ done ++ left
  pub text : out ≡ array_written (length all) ++ flat_map node_written done
  pub each : AllByRecursion IsNode done

both : (a : Recency) (node : CacheEntryKey × ℕ) → AllByRecursion IsNode a → IsNode node → AllByRecursion IsNode (a ++ node ∷ [])
both [] node p q = (q, tt)
both (e ∷ a) node p q = (p.0, both a node p.1 q)

one : (node : CacheEntryKey × ℕ) → flat_map node_written (node ∷ []) ≡ node_written node
one node = flat_map-cons node_written node [] ∙ append-nil (node_written node)

pub writes-more : (all left after : Recency) (out new : List ℕ) (node : CacheEntryKey × ℕ) → Writes all left out → left ≡ node ∷ after → new ≡ out ++ node_written node → IsNode node → Writes all after new
writes-more all left after out new node w split is good = record {
  done = w.done ++ node ∷ [];
  split = w.split ∙ ap (λ l. w.done ++ l) split ∙ sym (append_assoc w.done (node ∷ []) after);
  text = is ∙ ap (λ o. o ++ node_written node) w.text
      ∙ append_assoc (array_written (length all)) (flat_map node_written w.done) (node_written node)
      ∙ ap (λ x. array_written (length all) ++ x) (ap (λ x. flat_map node_written w.done ++ x) (sym (one node)) ∙ sym (flat_map-append node_written w.done (node ∷ [])));
  each = both w.done node w.each good;
}

pub writes-all : (all : Recency) (out : List ℕ) (left : Recency) → Writes all left out → left ≡ [] → out ≡ file_written all
unfolding file_written
writes-all all out left w none =
    let whole : all ≡ w.done = w.split ∙ ap (λ l. w.done ++ l) none ∙ append-nil w.done in
    w.text ∙ ap (λ l. array_written (length all) ++ flat_map node_written l) (sym whole)

-- a head that was written is not that of too long a list
pub few : {T : Type 0} (x : T) (n : ℕ) → IsErrOf {E = ErrorType} (Ok x) InternalError ↔ (2 ^ 32 ≤ n) → n < 2 ^ 32
few x n iff = elim (cases_lt n (2 ^ 32)) [ inl lt ↦ lt | inr le ↦ let no = iff.1 le in absurd (cc no) ]

pub writes-spelled : (all : Recency) (out : List ℕ) (left : Recency) → Writes all left out → left ≡ [] → length all < 2 ^ 32 → SpellsFile out all
writes-spelled all out left w none few =
    let whole : all ≡ w.done = w.split ∙ ap (λ l. w.done ++ l) none ∙ append-nil w.done in
    subst (λ bytes. SpellsFile bytes all) (sym (writes-all all out left w none)) (file_then all (record { few = few; each = subst (AllByRecursion IsNode) (sym whole) w.each }))

-- an entry that has no spelling makes its list one that has none
pub too_long : (all left after : Recency) (node : CacheEntryKey × ℕ) (out : List ℕ) → Writes all left out → left ≡ node ∷ after → 2 ^ 32 ≤ length (key_of node.0).user_tag → IsTooLong all
too_long all left after node out w split long =
    let whole : all ≡ w.done ++ node ∷ after = w.split ∙ ap (λ l. w.done ++ l) split in
    let size : length all ≡ length (w.done ++ node ∷ after) = ap (λ (l : Recency). length l) whole in
    let parts = length-append w.done (node ∷ after) in
    let here : slice_index_or all (length w.done) node ≡ node = ap (λ l. slice_index_or l (length w.done) node) whole ∙ get_or-append_seam w.done node after node in
    inr (length w.done, node, omega arith, here, long)

-- an error that was passed on
pub passed_as : {T U : Type 0} (k : ErrorType) (r : Result U ErrorType) (e f : ErrorType) → r ≡ Err f → f ≡ e → IsErrOf r k → IsErrOf {T = T} (Err e) k
passed_as k r e f is same refused = let both = sym is ∙ refused in cc (same, both)

pub passed_on : {T U : Type 0} (r : Result U ErrorType) (e f : ErrorType) → r ≡ Err f → f ≡ e → IsErrOf r InternalError → IsErrOf {T = T} (Err e) InternalError
passed_on r e f is same refused = let both = sym is ∙ refused in cc (same, both)
