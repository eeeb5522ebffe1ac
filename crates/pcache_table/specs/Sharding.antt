-- Keys in shards (own): the shard of a key is the key modulo the number of shards.
use Rattle.std.specs.Prelude.{ℕ, ◌≡◌, ◌%◌, ◌==◌, ◌++◌, refl, Some, None, List, [], ◌∷◌, slice_get, Contains, nat_eq, map, slice_index_or}
use Rattle.std.specs.List.{FoldsTo, range_with_len}
use Rattle.std.specs.Fn.{Called}
use denote.Ref.{Bor}
use denote.Param.Members.{Mut}
use Rattle.std.specs.Coded.{Coded, code_by, coded×, coded_list, coded_ℕ}
use Rattle.std.specs.Ordering.{nat_cmp}
use Rattle.std.specs.Map.{remove_entry}
use Rattle.lru.specs.LruCache.{lru_cache, put_entries}
use Rattle.std.specs.FinMap.{FinMap, code, entries, from_entries, get, retain_keys}

-- what a contract sees of a shard: its place, and its map
pub record Part (V : Type 0) : Type 0 where
  pub place : ℕ
  pub map : FinMap nat_cmp V

-- the encoding of a shard, which the value of a model needs
abbrev pub part_code : {V : Type 0} → Coded V → Coded (Part V)
part_code {V} v = code_by (ℕ × FinMap nat_cmp V) (coded× coded_ℕ (code coded_ℕ v)) (λ p. (p.place, p.map)) (λ p. record { place = p.0; map = p.1 }) (λ _. refl)

-- a map has no key of another shard
abbrev pub Belongs : {V : Type 0} → ℕ → ℕ → FinMap nat_cmp V → Type 0
Belongs shards place m = (key : ℕ) → (key % shards ≡ place → ⊥) → get m key ≡ None

-- each shard is at its place, with only keys of its own
pub record Placed {V : Type 0} (shards : ℕ) (place : ℕ) (p : Part V) : Type 0 where
  pub at : p.place ≡ place
  pub own : Belongs shards place p.map

-- the same for a list of shards
abbrev pub AllPlaced : {V : Type 0} → ℕ → List (Part V) → Type 0
AllPlaced {V} shards ps = (place : ℕ) (p : Part V) → slice_get ps place ≡ Some p → Placed shards place p

-- the entries of all shards
abbrev pub all_entries : {V : Type 0} → List (Part V) → List (ℕ × V)
all_entries [] = []
all_entries (p ∷ ps) = entries p.map ++ all_entries ps

-- one map of the entries of all shards
unfoldable pub one_map : {V : Type 0} → List (Part V) → FinMap nat_cmp V
one_map ps = from_entries (all_entries ps)

-- the part of a map whose keys belong to one shard
abbrev pub part_of : {V : Type 0} → ℕ → ℕ → FinMap nat_cmp V → FinMap nat_cmp V
part_of shards place m = retain_keys m (λ key. (key % shards) == place)

-- what a contract sees of an LRU shard: its place, how many keys it may have, and its entries, the one used last
-- first
pub record LruPart (V : Type 0) : Type 0 where
  pub place : ℕ
  pub cap : ℕ
  pub entries : List (ℕ × V)

-- the encoding of an LRU shard
abbrev pub lru_part_code : {V : Type 0} → Coded V → Coded (LruPart V)
lru_part_code {V} v = code_by (ℕ × (ℕ × List (ℕ × V))) (coded× coded_ℕ (coded× coded_ℕ (coded_list (coded× coded_ℕ v)))) (λ p. (p.place, (p.cap, p.entries))) (λ p. record { place = p.0; cap = p.1.0; entries = p.1.1 }) (λ _. refl)

-- a list has no key of another shard
abbrev pub OwnKeys : {V : Type 0} → ℕ → ℕ → List (ℕ × V) → Type 0
OwnKeys {V} shards place es = (e : ℕ × V) → Contains es e → e.0 % shards ≡ place

-- a shard with a key put in front (a full list drops its last key), and one with a key removed
abbrev pub part_with : {V : Type 0} → ℕ → V → LruPart V → LruPart V
part_with key value p = record p { entries = put_entries nat_eq (lru_cache p.entries p.cap) key value }

abbrev pub part_without : {V : Type 0} → ℕ → LruPart V → LruPart V
part_without key p = record p { entries = remove_entry (nat_eq key) p.entries }

-- each shard is at its place, with only keys of its own
abbrev pub InPlace : {V : Type 0} → ℕ → ℕ → LruPart V → Type 0
InPlace shards place p = (p.place ≡ place) × OwnKeys shards place p.entries

-- the same for a list of shards
abbrev pub AllInPlace : {V : Type 0} → ℕ → List (LruPart V) → Type 0
AllInPlace {V} shards ps = (place : ℕ) (p : LruPart V) → slice_get ps place ≡ Some p → InPlace shards place p

-- the shard at a place
abbrev pub list_at : {V : Type 0} → List (LruPart V) → ℕ → LruPart V
list_at ps place = slice_index_or ps place (record { place = place; cap = 1; entries = [] })

-- so many empty shards
abbrev pub new_lists : {V : Type 0} → ℕ → ℕ → List (LruPart V)
new_lists shards cap = map (λ place. record { place = place; cap = cap; entries = [] }) (range_with_len 0 shards)

-- what a contract sees of the lock of such a shard: its place, and how many keys the shard may have
pub record Seat : Type 0 where
  pub place : ℕ
  pub cap : ℕ

-- the locks of so many shards
abbrev pub seats : ℕ → ℕ → List Seat
seats shards cap = map (λ place. record { place = place; cap = cap }) (range_with_len 0 shards)

-- a call of f at a key and its value, both of them lent, may leave f'
pub record CalledAtEntry {F V : Type 0} (g : Mut F (Bor ℕ × (Bor V × Unit {0})) (Unit {0})) (f : F) (entry : ℕ × V) (f' : F) : Type 0 where
  pub key : Bor ℕ
  pub value : Bor V
  pub shows : (key.now ≡ entry.0) × (value.now ≡ entry.1)
  pub called : Called g f (key, (value, tt)) tt f'

-- calls of f at the entries of a shard, each once, in the order of their keys; the shard has no keys but its own
abbrev pub Visits : {F V : Type 0} → Mut F (Bor ℕ × (Bor V × Unit {0})) (Unit {0}) → ℕ → F → Part V → F → Type 0
Visits g shards f p f' = Belongs shards p.place p.map × FoldsTo (CalledAtEntry g) f (entries p.map) f'

-- and then one shard after another, in the order of their places
abbrev pub VisitsEach : {F V : Type 0} → Mut F (Bor ℕ × (Bor V × Unit {0})) (Unit {0}) → ℕ → F → Type 0
VisitsEach {F} {V} g shards f = (ps : List (Part V)) × (last : F) × (map (λ p. p.place) ps ≡ range_with_len 0 shards) × FoldsTo (Visits g shards) f ps last
