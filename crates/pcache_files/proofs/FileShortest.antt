-- No spelling of a list is shorter than the one that is written of it.
use Rattle.std.proofs.Common.{length-append}
use Rattle.pcache_meta.specs.Writing.{optional_written}
use Rattle.pcache_meta.proofs.Shortest.{array_shortest, hash_shortest, number_shortest, text_shortest}
use Rattle.pcache_files.specs.FileLaws.{FilesAreShortest}
use Rattle.pcache_files.specs.FileWriting.{key_written, entry_written, node_written, file_written}
use Rattle.pcache_files.proofs.Words.{◌≡◌, ℕ, ◌+◌, ◌≤◌, List, [], ◌∷◌, ◌++◌, length, Option, Some, None, sym, ap, subst, arith, flat_map, flat_map-cons, CompactCacheKey, CacheEntryKey, entry_with, Recency, NumberThen, ArrayThen, HashThen, OptionThen, number_written, array_written, text_written, hash_written, KeyItemsThen, KeyThen, EntryThen, NodeThen, NodesThen, SpellsFile}
use Rattle.pcache_files.specs.FileSpelling as spell

optional_shortest : {A : Type 0} (written : A → List ℕ) (Then : List ℕ → A → List ℕ → Type 0) → ((bytes : List ℕ) (x : A) (rest : List ℕ) → Then bytes x rest → length (written x) + length rest ≤ length bytes)
    → (bytes : List ℕ) (o : Option A) (rest : List ℕ) → OptionThen Then bytes o rest → length (optional_written written o) + length rest ≤ length bytes
unfolding optional_written
optional_shortest written Then each bytes None rest t = let same : length bytes ≡ length (0xC0 ∷ rest) = ap (λ (l : List ℕ). length l) t in omega arith
optional_shortest written Then each bytes (Some x) rest t = each bytes x rest t

key_shortest : (bytes : List ℕ) (k : CompactCacheKey) (rest : List ℕ) → KeyThen bytes k rest → length (key_written k) + length rest ≤ length bytes
unfolding key_written
key_shortest bytes k rest t =
    let a = array_written 3 in
    let p = hash_written k.primary in
    let v = optional_written hash_written k.variance in
    let g = text_written k.user_tag in
    let head = array_shortest bytes 3 t.items t.head in
    let primary = hash_shortest t.items k.primary t.each.later1 t.each.primary in
    let variance = optional_shortest hash_written HashThen hash_shortest t.each.later1 k.variance t.each.later2 t.each.variance in
    let tag = text_shortest t.each.later2 k.user_tag rest t.each.user_tag in
    let one = length-append a p in
    let two = length-append (a ++ p) v in
    let three = length-append (a ++ p ++ v) g in
    omega arith

-- an entry with a number, or with nil in its place
pair_shortest : (bytes items later : List ℕ) (k : CompactCacheKey) (id : Option ℕ) (rest : List ℕ) → ArrayThen bytes 2 items → KeyThen items k later → OptionThen NumberThen later id rest
    → length (entry_written (entry_with k id)) + length rest ≤ length bytes
unfolding entry_written
pair_shortest bytes items later k None rest head key number =
    let a = array_shortest bytes 2 items head in
    let b = key_shortest items k later key in
    let same : length later ≡ length (0xC0 ∷ rest) = ap (λ (l : List ℕ). length l) number in
    omega arith
pair_shortest bytes items later k (Some n) rest head key number =
    let a = array_shortest bytes 2 items head in
    let b = key_shortest items k later key in
    let d = number_shortest later n rest number in
    let one = length-append (array_written 2) (key_written k) in
    let two = length-append (array_written 2 ++ key_written k) (number_written n) in
    omega arith

only_shortest : (bytes : List ℕ) (k : CompactCacheKey) (rest : List ℕ) → KeyThen bytes k rest → length (entry_written (entry_with k None)) + length rest ≤ length bytes
unfolding entry_written
only_shortest bytes k rest t = key_shortest bytes k rest t

entry_shortest : (bytes : List ℕ) (e : CacheEntryKey) (rest : List ℕ) → EntryThen bytes e rest → length (entry_written e) + length rest ≤ length bytes
entry_shortest bytes e rest (spell.only k is t) = subst (λ e. length (entry_written e) + length rest ≤ length bytes) (sym is) (only_shortest bytes k rest t)
entry_shortest bytes e rest (spell.pair k id items later is head key number) = subst (λ e. length (entry_written e) + length rest ≤ length bytes) (sym is) (pair_shortest bytes items later k id rest head key number)

node_shortest : (bytes : List ℕ) (node : CacheEntryKey × ℕ) (rest : List ℕ) → NodeThen bytes node rest → length (node_written node) + length rest ≤ length bytes
unfolding node_written
node_shortest bytes node rest t =
    let a = array_shortest bytes 2 t.items t.head in
    let b = entry_shortest t.items node.0 t.later t.entry in
    let d = number_shortest t.later node.1 rest t.weight in
    let one = length-append (array_written 2) (entry_written node.0) in
    let two = length-append (array_written 2 ++ entry_written node.0) (number_written node.1) in
    omega arith

nodes_shortest : (bytes : List ℕ) (l : Recency) (rest : List ℕ) → NodesThen bytes l rest → length (flat_map node_written l) + length rest ≤ length bytes
nodes_shortest bytes [] rest t = let same : length bytes ≡ length rest = ap (λ (l : List ℕ). length l) t in omega arith
nodes_shortest bytes (node ∷ l) rest t =
    let first = node_shortest bytes node t.0 t.1 in
    let later = nodes_shortest t.0 l rest t.2 in
    let split : length (flat_map node_written (node ∷ l)) ≡ length (node_written node ++ flat_map node_written l) = ap (λ (l : List ℕ). length l) (flat_map-cons node_written node l) in
    let sum = length-append (node_written node) (flat_map node_written l) in
    omega arith

pub files_are_shortest : FilesAreShortest
unfolding file_written
files_are_shortest = λ bytes l t.
    let a = array_shortest bytes (length l) t.items t.head in
    let b = nodes_shortest t.items l [] t.nodes in
    let sum = length-append (array_written (length l)) (flat_map node_written l) in
    omega arith
