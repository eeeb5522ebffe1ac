-- What a policy is: how it orders entries, and what calls make of that order (own).
use Rattle.std.specs.Prelude.{◌≡◌, ℕ, Option, Bool, List, [], ◌∷◌, is_some, map}
use Rattle.pcache_evict.specs.declared.eviction.entry_key.CacheEntryKey.{CacheEntryKey}
use Rattle.pcache_evict.specs.Tracked.{Limits}
use Rattle.pcache_evict.specs.Recency.{Recency, weight_of, moved, incremented, accessed, others, Evicts}
use Rattle.pcache_evict.specs.Shards.{all, no_entries, in_shard, grown, RunsOut}

-- the entries of an order with their weights, the order without any, and what comes of an order when an entry is used, comes in
-- with a weight and lets others go, gets heavier and lets others go, or is removed
pub record Policy (Order : Type 0) : Type 1 where
  pub entries : Order → Recency
  pub none : Order
  pub Accesses : Order → CacheEntryKey → ℕ → Order → Type 0
  pub Admits : Limits → Order → CacheEntryKey → ℕ → Order → List CacheEntryKey → Type 0
  pub Increments : Limits → Order → CacheEntryKey → ℕ → Option ℕ → Order → List CacheEntryKey → Type 0
  pub Removes : Order → CacheEntryKey → Order → Type 0

-- an entry is in an order
abbrev pub is_in : {O : Type 0} → Policy O → CacheEntryKey → O → Bool
is_in p k o = is_some (weight_of k (p.entries o))

-- LRU: an entry that is used or comes in moves to the front; then the shortest tail goes without which the limits hold
abbrev pub lru : Policy Recency
lru = record {
  entries = λ l. l;
  none = [];
  Accesses = λ l k n l2. l2 ≡ accessed k n l;
  Admits = λ limits l k n l2 out. Evicts limits (moved k n l) l2 out;
  Increments = λ limits l k delta cap l2 out. Evicts limits (incremented k delta cap l) l2 out;
  Removes = λ l k l2. l2 ≡ others k l;
}

-- LRU in shards: each entry is in the list of its key's shard, and the last entries of lists go while the limits do not hold; which
-- list loses one is left open
abbrev pub sharded : ℕ → Policy (List Recency)
sharded n = record {
  entries = all;
  none = no_entries n;
  Accesses = λ s k size s2. s2 ≡ in_shard n k (accessed k size) s;
  Admits = λ limits s k size s2 out. RunsOut limits (in_shard n k (moved k size) s) out s2;
  Increments = λ limits s k delta cap s2 out. RunsOut limits (in_shard n k (grown k delta cap) s) out s2;
  Removes = λ s k s2. s2 ≡ in_shard n k (others k) s;
}

-- ---- orders of managers of which only the trait is known

-- an order as any manager shows it: lists of entries, each entry with its weight and one number more, as of its uses
abbrev pub Shown : Type 0
Shown = List (List (CacheEntryKey × ℕ × ℕ))

-- what calls make of an order that is shown so, as in `Policy`
pub record Rules : Type 1 where
  pub Accesses : Shown → CacheEntryKey → ℕ → Shown → Type 0
  pub Admits : Limits → Shown → CacheEntryKey → ℕ → Shown → List CacheEntryKey → Type 0
  pub Increments : Limits → Shown → CacheEntryKey → ℕ → Option ℕ → Shown → List CacheEntryKey → Type 0
  pub Removes : Shown → CacheEntryKey → Shown → Type 0

-- what the first rules allow, the second ones do too
pub record AllowAsMuch (r q : Rules) : Type 0 where
  pub accesses : (s t : Shown) (k : CacheEntryKey) (n : ℕ) → r.Accesses s k n t → q.Accesses s k n t
  pub admits : (l : Limits) (s t : Shown) (k : CacheEntryKey) (n : ℕ) (out : List CacheEntryKey) → r.Admits l s k n t out → q.Admits l s k n t out
  pub increments : (l : Limits) (s t : Shown) (k : CacheEntryKey) (n : ℕ) (cap : Option ℕ) (out : List CacheEntryKey) → r.Increments l s k n cap t out → q.Increments l s k n cap t out
  pub removes : (s t : Shown) (k : CacheEntryKey) → r.Removes s k t → q.Removes s k t

-- what is shown is two orders of which this relation leads from one to the other
abbrev pub Between : {O : Type 0} → (O → Shown) → (O → O → Type 0) → Shown → Shown → Type 0
Between {O} shows leads s t = (a : O) × (b : O) × (s ≡ shows a) × (t ≡ shows b) × leads a b

-- a policy's rules, by what its orders show
abbrev pub rules_of : {O : Type 0} → (O → Shown) → Policy O → Rules
rules_of shows p = record {
  Accesses = λ s k n t. Between shows (λ a b. p.Accesses a k n b) s t;
  Admits = λ limits s k n t out. Between shows (λ a b. p.Admits limits a k n b out) s t;
  Increments = λ limits s k delta cap t out. Between shows (λ a b. p.Increments limits a k delta cap b out) s t;
  Removes = λ s k t. Between shows (λ a b. p.Removes a k b) s t;
}

-- a recency list shows its entries with their weights
abbrev pub list_shown : Recency → List (CacheEntryKey × ℕ × ℕ)
list_shown l = map (λ (e : CacheEntryKey × ℕ). (e.0, e.1, 0)) l

-- one list, and the lists of shards
abbrev pub one_shown : Recency → Shown
one_shown l = list_shown l ∷ []

abbrev pub lists_shown : List Recency → Shown
lists_shown s = map list_shown s
