-- When a response was fetched, and which purges came after that (own). A cache counts its purges, and a request notes, as its fetch
-- begins, how many there were. A response whose fetch began before a purge of its key, or of its URL (the key without its variance), and
-- whose write begins after it, is not stored, and of a URL's variants none is found whose write began before the URL was purged. A cache keeps of its purges the last one
-- of each of 1,024 places, and a slot's place is the slot modulo their number. So a purge counts for all slots of its place: more is
-- refused for that, and never less.
use Rattle.std.specs.Prelude.{ℕ, ◌≡◌, ◌≤◌, length, ◌+◌, ◌-◌, ◌^◌, ◌%◌, ◌==◌, ◌&&◌, ◌||◌, nat_lt, min, Bool, false, cond, List, replicate, slice_index, slice_set, Option, None, Some, is_some}
use Rattle.pcache_base.specs.Key.{Key, primary_of, slot, slot_of}
use Rattle.pcache_store.specs.Readers.{number_found}
use Rattle.pcache_store.specs.Store.{Store, find}

-- what a cache has seen of purges
pub record PurgesSeen : Type 0 where
  -- how many there were; a count that reached 2^64 - 1 stays there
  pub count : ℕ
  -- of each place: the count with the last purge there, zero if there was none
  pub last : List ℕ
  -- of each place: the number that the next write had at that purge
  pub next : List ℕ

-- none yet
abbrev pub no_purges : PurgesSeen
no_purges = record { count = 0; last = replicate 1024 0; next = replicate 1024 0 }

-- the place of a slot
abbrev pub place_of : ℕ → ℕ
place_of slot = slot % 1024

-- one more purge: of this slot, when the next write had this number
abbrev pub purge_counted : ℕ → ℕ
purge_counted n = min (n + 1) (2 ^ 64 - 1)

abbrev pub purge_seen : ℕ → ℕ → PurgesSeen → PurgesSeen
purge_seen slot next p = record {
  count = purge_counted p.count;
  last = slice_set p.last (place_of slot) (purge_counted p.count);
  next = slice_set p.next (place_of slot) next;
}

-- whether a purge came after so many purges; the last count says nothing of when
abbrev pub is_after : ℕ → ℕ → Bool
is_after purges last = nat_lt purges last || (last == 2 ^ 64 - 1)

-- whether a slot was purged since so many purges
abbrev pub purged_since : ℕ → ℕ → PurgesSeen → Bool
purged_since purges slot p = is_after purges (slice_index p.last (place_of slot))

-- of what was seen, each place has a count, and none is greater than that of all purges
pub record AreCounted (p : PurgesSeen) : Type 0 where
  pub places : length p.last ≡ 1024
  pub last : (place : ℕ) → slice_index p.last place ≤ p.count
  pub most : p.count ≤ 2 ^ 64 - 1

-- the slot of a URL: that of the key without its variance
abbrev pub url_slot : Key → ℕ
url_slot k = slot_of (primary_of k) None

-- what a request notes as its fetch begins: the slot of its URL, and how many purges there were
pub record FetchNote : Type 0 where
  pub url : ℕ
  pub purges : ℕ

-- the fetch of a key begins
abbrev pub fetch_begun : Option Key → PurgesSeen → Option FetchNote
fetch_begun None p = None
fetch_begun (Some k) p = Some (record { url = url_slot k; purges = p.count })

-- how many purges there were when the fetch of a URL began: none if its begin was not noted
abbrev pub purges_before : Option FetchNote → ℕ → ℕ
purges_before None url = 0
purges_before (Some f) url = cond (f.url == url) f.purges 0

-- a key, or its URL, was purged since its fetch began
abbrev pub is_outdated : Option FetchNote → Option Key → PurgesSeen → Bool
is_outdated f None p = false
is_outdated f (Some k) p = purged_since (purges_before f (url_slot k)) (slot k) p || purged_since (purges_before f (url_slot k)) (url_slot k) p

-- there is a write with a number, and it is less
abbrev pub is_before : Option ℕ → ℕ → Bool
is_before None next = false
is_before (Some n) next = nat_lt n next

-- what a look-up would find of a variant was written before its URL was purged
abbrev pub is_old_variant : Option Key → Store → PurgesSeen → Bool
is_old_variant None s p = false
is_old_variant (Some k) s p = is_some k.variance && is_before (number_found (find s (slot k))) (slice_index p.next (place_of (url_slot k)))
