-- What a store contains, what its calls do to it, and what its readers read (own).
use Rattle.std.specs.Prelude.{ℕ, ◌+◌, ◌-◌, ◌==◌, ◌&&◌, ◌||◌, nat_eq, nat_le, nat_lt, not, Bool, true, false, Option, Some, None, is_none, is_some, cond, List, [], ◌++◌, drop, length, slice_range, min}
use Rattle.std.specs.Option.{option_eq}
use Rattle.std.specs.Ordering.{nat_cmp}
use Rattle.std.specs.FinMap.{FinMap, empty, get, insert, remove, contains_key, len}
use Rattle.pcache_meta.specs.Meta.{Meta, in_place_of, numbered}
use Rattle.pcache_base.specs.declared.poll.Poll.{Poll}
use Rattle.pcache_base.specs.declared.poll.Poll.TheVariants.{Ready, Pending}
use Rattle.pcache_store.specs.Greatest.{greatest}
use Rattle.pcache_table.specs.Numbers.{least}

-- a complete body
pub record Stored : Type 0 where
  pub meta : Meta
  pub bytes : List ℕ

-- a write, kept while its handler or a reader names it
pub record Written : Type 0 where
  pub slot : ℕ  -- its key's slot
  pub meta : Meta
  pub bytes : List ℕ
  pub told : Bool  -- its end is known: it was announced (`eof`), or the write was finished
  pub flying : Bool  -- it is in flight: its handler was not spent
  pub readers : ℕ  -- how many readers follow it

-- the slot of a key: its complete body, and the numbers of its writes in flight that met no removal
pub record Slot : Type 0 where
  pub body : Option Stored
  pub untouched : FinMap nat_cmp (Unit {0})

-- the slots by key, the writes by number, and the number of the next write
pub record Store : Type 0 where
  pub slots : FinMap nat_cmp Slot
  pub writes : FinMap nat_cmp Written
  pub next : ℕ
  -- whether a look-up prefers the newest response, and the end of a write replaces no newer body; no call changes it
  pub newest : Bool

-- what a storage promises of all its calls: whether a removal always succeeds, and whether an entry has a number, that of
-- the write which fills it
pub record Guarantees : Type 0 where
  pub purges : Bool
  pub numbers : Bool

-- what a reader reads: a range of a complete body, which it gives once, with the number of the write that stored the body; or
-- a write, of which it has read the first `place` bytes
pub data Reader : Type 0 where
  Whole : (id : Option ℕ) (body : List ℕ) (start stop : ℕ) (done : Bool) → Reader
  Part : (write place : ℕ) → Reader

-- the number of the write that stored a complete body, if there is one: its meta names it
abbrev pub number_of_body : Option Stored → Option ℕ
number_of_body None = None
number_of_body (Some b) = b.meta.entry_id

-- a write's number, if it is greater than that of a complete body's write
abbrev pub later_than : Option ℕ → Option ℕ → Option ℕ
later_than None n = n
later_than (Some b) None = None
later_than (Some b) (Some n) = cond (nat_lt b n) (Some n) None

-- the write in flight that a look-up finds in a slot, if it finds one: of those that met no removal the one that began first;
-- or, if the newest response is preferred, the one that began last, unless the complete body is of a later write
abbrev pub first_in : Bool → Slot → Option ℕ
first_in false x = least x.untouched
first_in true x = later_than (number_of_body x.body) (greatest x.untouched)

-- a look-up: that write, or else the complete body
abbrev pub found_body : Option Stored → Option (Meta × Reader)
found_body None = None
found_body (Some b) = Some (b.meta, Whole b.meta.entry_id b.bytes 0 (length b.bytes) false)

-- a reader of a write from its beginning, with its meta
abbrev pub found_part : ℕ → Option Written → Option (Meta × Reader)
found_part n None = None
found_part n (Some w) = Some (w.meta, Part n 0)

-- the write with this number if there is one, or else the complete body
abbrev pub found_first : FinMap nat_cmp Written → Option ℕ → Option Stored → Option (Meta × Reader)
found_first ws None b = found_body b
found_first ws (Some n) b = found_part n (get ws n)

-- what a look-up finds in a slot
abbrev pub found_in : Bool → FinMap nat_cmp Written → Option Slot → Option (Meta × Reader)
found_in newest ws None = None
found_in newest ws (Some x) = found_first ws (first_in newest x) x.body

-- what a look-up of a key finds
abbrev pub find : Store → ℕ → Option (Meta × Reader)
find s k = found_in s.newest s.writes (get s.slots k)

-- the write with this number, if it is in flight and of the key
abbrev pub found_flying : ℕ → ℕ → Option Written → Option (Meta × Reader)
found_flying k n None = None
found_flying k n (Some w) = cond (w.flying && (w.slot == k)) (Some (w.meta, Part n 0)) None

-- a look-up of the write that a tag names
abbrev pub find_write : Store → ℕ → Option ℕ → Option (Meta × Reader)
find_write s k None = None
find_write s k (Some n) = found_flying k n (get s.writes n)

-- whether a write's record is kept: its handler or a reader names it
abbrev pub is_named : Written → Bool
is_named w = w.flying || nat_lt 0 w.readers

-- a write's record written back, or removed if nothing names it
abbrev pub kept : FinMap nat_cmp Written → ℕ → Written → FinMap nat_cmp Written
kept ws n w = cond (is_named w) (insert ws n w) (remove ws n)

-- one more reader of a write
abbrev pub followed_on : FinMap nat_cmp Written → ℕ → Option Written → FinMap nat_cmp Written
followed_on ws n None = ws
followed_on ws n (Some w) = insert ws n (record w { readers = w.readers + 1 })

-- the store after one more reader of a write was given
abbrev pub joined : Store → ℕ → Store
joined s n = record s { writes = followed_on s.writes n (get s.writes n) }

-- the store after a reader was given
abbrev pub followed_by : Store → Reader → Store
followed_by s (Whole id body start stop done) = s
followed_by s (Part n place) = joined s n

-- the store after a look-up that found this
abbrev pub followed : Store → Option (Meta × Reader) → Store
followed s None = s
followed s (Some p) = followed_by s p.1

-- one reader less
abbrev pub left_on : FinMap nat_cmp Written → ℕ → Option Written → FinMap nat_cmp Written
left_on ws n None = ws
left_on ws n (Some w) = kept ws n (record w { readers = w.readers - 1 })

-- the store after a reader was let go
abbrev pub left : Store → Reader → Store
left s (Whole id body start stop done) = s
left s (Part n place) = record s { writes = left_on s.writes n (get s.writes n) }

-- whether a slot is empty; an empty slot is removed
abbrev pub is_idle : Slot → Bool
is_idle x = is_none x.body && (len x.untouched == 0)

-- a slot written back, or removed if it is empty
abbrev pub with_slot : FinMap nat_cmp Slot → ℕ → Slot → FinMap nat_cmp Slot
with_slot xs k x = cond (is_idle x) (remove xs k) (insert xs k x)

-- a new write of a key
abbrev pub slot_or_new : Option Slot → Slot
slot_or_new None = record { body = None; untouched = empty }
slot_or_new (Some x) = x

-- a slot with one more write in flight
abbrev pub opened_in : Slot → ℕ → Slot
opened_in x n = record x { untouched = insert x.untouched n tt }

-- the slots after a write of a key began
abbrev pub opened : FinMap nat_cmp Slot → ℕ → ℕ → FinMap nat_cmp Slot
opened xs k n = insert xs k (opened_in (slot_or_new (get xs k)) n)

-- a write that was just begun: no bytes, in flight, without readers
abbrev pub new_write : ℕ → Meta → Written
new_write k m = record { slot = k; meta = m; bytes = []; told = false; flying = true; readers = 0 }

-- a write begun: its meta has its number, whatever number the given meta had
abbrev pub begun : Store → ℕ → Meta → Store
begun s k m = record s { slots = opened s.slots k s.next; writes = insert s.writes s.next (new_write k (numbered s.next m)); next = s.next + 1 }

-- more bytes of a write
abbrev pub wrote_on : FinMap nat_cmp Written → ℕ → List ℕ → Bool → Option Written → FinMap nat_cmp Written
wrote_on ws n bytes eof None = ws
wrote_on ws n bytes eof (Some w) = insert ws n (record w { bytes = w.bytes ++ bytes; told = eof })

-- the store after bytes were added to a write
abbrev pub wrote : Store → ℕ → List ℕ → Bool → Store
wrote s n bytes eof = record s { writes = wrote_on s.writes n bytes eof (get s.writes n) }

-- whether the end of a write is known
abbrev pub is_told : Option Written → Bool
is_told None = false
is_told (Some w) = w.told

-- whether a write is in flight and met no removal: its number is in its key's slot
abbrev pub is_untouched_in : ℕ → Option Slot → Bool
is_untouched_in n None = false
is_untouched_in n (Some x) = contains_key x.untouched n

-- whether a write that has a record is in flight and met no removal
abbrev pub is_untouched_on : Store → ℕ → Option Written → Bool
is_untouched_on s n None = false
is_untouched_on s n (Some w) = is_untouched_in n (get s.slots w.slot)

abbrev pub is_untouched : Store → ℕ → Bool
is_untouched s n = is_untouched_on s n (get s.writes n)

-- a write whose handler is gone, and the removal of its number from its key's slot
abbrev pub grounded : FinMap nat_cmp Written → ℕ → Written → FinMap nat_cmp Written
grounded ws n w = kept ws n (record w { flying = false })

-- the records after the handler of a write is gone
abbrev pub grounded_on : FinMap nat_cmp Written → ℕ → Option Written → FinMap nat_cmp Written
grounded_on ws n None = ws
grounded_on ws n (Some w) = grounded ws n w

-- a write whose body was stored: its handler is gone, and its end is known, also if it was not announced
abbrev pub closed : FinMap nat_cmp Written → ℕ → Written → FinMap nat_cmp Written
closed ws n w = kept ws n (record w { flying = false; told = true })

-- the slots after the number of a write was removed from its key's slot
abbrev pub shut_on : FinMap nat_cmp Slot → ℕ → ℕ → Option Slot → FinMap nat_cmp Slot
shut_on xs k n None = xs
shut_on xs k n (Some x) = with_slot xs k (record x { untouched = remove x.untouched n })

abbrev pub shut : FinMap nat_cmp Slot → ℕ → ℕ → FinMap nat_cmp Slot
shut xs k n = shut_on xs k n (get xs k)

-- a write is of this key, and its meta names it by its number
abbrev pub is_write_under : ℕ → ℕ → Option Written → Bool
is_write_under k n None = false
is_write_under k n (Some w) = (w.slot == k) && option_eq nat_eq w.meta.entry_id (Some n)

-- a write dropped
abbrev pub dropped_on : Store → ℕ → Option Written → Store
dropped_on s n None = s
dropped_on s n (Some w) = record s { slots = shut s.slots w.slot n; writes = grounded s.writes n w }

-- the store after a write was dropped
abbrev pub dropped : Store → ℕ → Store
dropped s n = dropped_on s n (get s.writes n)

-- a write finished: its body replaces an older one
abbrev pub stored_on : FinMap nat_cmp Slot → ℕ → ℕ → Stored → Option Slot → FinMap nat_cmp Slot
stored_on xs k n b None = xs
stored_on xs k n b (Some x) = insert xs k (record { body = Some b; untouched = remove x.untouched n })

-- the store after a write was finished
abbrev pub finished_on : Store → ℕ → Option Written → Store
finished_on s n None = s
finished_on s n (Some w) = record s { slots = stored_on s.slots w.slot n (record { meta = w.meta; bytes = w.bytes }) (get s.slots w.slot); writes = closed s.writes n w }

abbrev pub finished : Store → ℕ → Store
finished s n = finished_on s n (get s.writes n)

-- how many bytes were added to a write
abbrev pub written_size : Option Written → ℕ
written_size None = 0
written_size (Some w) = length w.bytes

-- a removal of a key: its body and the numbers of its writes are removed
abbrev pub purged : Store → ℕ → Store
purged s k = record s { slots = remove s.slots k }

-- whether there is a complete body, and it is that of the write with this number
abbrev pub has_body_of : ℕ → Option Stored → Bool
has_body_of n b = option_eq nat_eq (number_of_body b) (Some n)

-- whether a slot has a write with this number: in flight and untouched, or with the complete body
abbrev pub has_write : ℕ → Option Slot → Bool
has_write n None = false
has_write n (Some x) = contains_key x.untouched n || has_body_of n x.body

-- a removal of one write of a key: its number is removed, and so is the complete body if it is that of this write
abbrev pub body_with : ℕ → Option Stored → Option Stored
body_with n b = cond (has_body_of n b) b None

-- the complete body, unless it is that of this write
abbrev pub body_without : ℕ → Option Stored → Option Stored
body_without n b = cond (has_body_of n b) None b

-- a slot without this write and without its body
abbrev pub slot_without : ℕ → Slot → Slot
slot_without n x = record { body = body_without n x.body; untouched = remove x.untouched n }

-- the slots after one write of a key was removed
abbrev pub write_gone_on : FinMap nat_cmp Slot → ℕ → ℕ → Option Slot → FinMap nat_cmp Slot
write_gone_on xs k n None = xs
write_gone_on xs k n (Some x) = with_slot xs k (slot_without n x)

-- the store after one write of a key was removed
abbrev pub write_purged : Store → ℕ → ℕ → Store
write_purged s k n = record s { slots = write_gone_on s.slots k n (get s.slots k) }

-- a complete body's meta changed
abbrev pub complete_body : Option Slot → Option Stored
complete_body None = None
complete_body (Some x) = x.body

-- whether there is a number, and it is greater
abbrev pub is_later : ℕ → Option ℕ → Bool
is_later n None = false
is_later n (Some b) = nat_lt n b

-- whether a slot's complete body is that of a later write
abbrev pub has_later_body : ℕ → Option Slot → Bool
has_later_body n x = is_later n (number_of_body (complete_body x))

-- whether a write is superseded: the store prefers the newest response, and the write's key has a complete body of a later
-- write
abbrev pub is_superseded_on : Store → ℕ → Option Written → Bool
is_superseded_on s n None = false
is_superseded_on s n (Some w) = s.newest && has_later_body n (get s.slots w.slot)

abbrev pub is_superseded : Store → ℕ → Bool
is_superseded s n = is_superseded_on s n (get s.writes n)

-- a slot whose complete body's meta is changed
abbrev pub with_meta : (Meta → Meta) → Slot → Option Stored → Slot
with_meta f x None = x
with_meta f x (Some b) = record x { body = Some (record b { meta = f b.meta }) }

-- the slots with the changed meta, if there is a complete body
abbrev pub meta_changed_in : (Meta → Meta) → FinMap nat_cmp Slot → ℕ → Slot → Option Stored → FinMap nat_cmp Slot
meta_changed_in f xs k x None = xs
meta_changed_in f xs k x (Some b) = insert xs k (with_meta f x (Some b))

abbrev pub meta_changed_on : (Meta → Meta) → FinMap nat_cmp Slot → ℕ → Option Slot → FinMap nat_cmp Slot
meta_changed_on f xs k None = xs
meta_changed_on f xs k (Some x) = meta_changed_in f xs k x x.body

-- the store with the meta of a key's complete body changed
abbrev pub meta_changed : (Meta → Meta) → Store → ℕ → Store
meta_changed f s k = record s { slots = meta_changed_on f s.slots k (get s.slots k) }

-- a meta set for a complete body, which keeps the number of its write
abbrev pub meta_set : Meta → Store → ℕ → Store
meta_set m = meta_changed (λ old. in_place_of old m)

-- one read of a write: all unread bytes; pending if there are none but more may come; otherwise the end
abbrev pub read_part : ℕ → Option Written → Poll (Option (List ℕ))
read_part place None = Ready None
read_part place (Some w) = cond (nat_lt place (length w.bytes)) (Ready (Some (drop place w.bytes))) (cond (w.flying && not w.told) Pending (Ready None))

-- what a read gives: of a complete body its range once, then the end
abbrev pub read_of : Store → Reader → Poll (Option (List ℕ))
read_of s (Whole id body start stop done) = Ready (cond done None (Some (slice_range body start stop)))
read_of s (Part n place) = read_part place (get s.writes n)

-- a read gives a piece
abbrev pub gives_piece : Poll (Option (List ℕ)) → Bool
gives_piece (Ready piece) = is_some piece
gives_piece Pending = false

-- how many bytes of a write a reader has read after a read
abbrev pub offset_after : ℕ → Option Written → ℕ
offset_after place None = place
offset_after place (Some w) = cond (nat_lt place (length w.bytes)) (length w.bytes) place

-- a reader after a read
abbrev pub reader_after : Store → Reader → Reader
reader_after s (Whole id body start stop done) = Whole id body start stop true
reader_after s (Part n place) = Part n (offset_after place (get s.writes n))

-- another range of a complete body, from an index within it to an end that is not before it; an end past the body's end
-- counts as that
abbrev pub end_or : Option ℕ → ℕ → ℕ
end_or None n = n
end_or (Some e) n = min e n

-- a range does not end before its start
abbrev pub is_forward : ℕ → Option ℕ → Bool
is_forward start None = true
is_forward start (Some e) = nat_le start e

-- a reader moved to another range: only one of a complete body, to an index that the body has
abbrev pub sought : Reader → ℕ → Option ℕ → Option Reader
sought (Whole id body a b done) start stop = cond (nat_lt start (length body) && is_forward start stop) (Some (Whole id body start (end_or stop (length body)) false)) None
sought (Part n place) start stop = None

-- whether a reader can be moved to another range
abbrev pub can_seek : Reader → Bool
can_seek (Whole id body start stop done) = true
can_seek (Part n place) = false

-- the number of the write that a reader reads, or whose body it reads
abbrev pub write_read : Reader → Option ℕ
write_read (Whole id body start stop done) = id
write_read (Part n place) = Some n

-- whether a hit counts as an access, and its weight: a complete body does, with its length
abbrev pub counts_access : Reader → Bool
counts_access (Whole id body start stop done) = true
counts_access (Part n place) = false

-- the weight of a hit: the length of a complete body in bytes
abbrev pub reader_weight : Reader → ℕ
reader_weight (Whole id body start stop done) = length body
reader_weight (Part n place) = 0

-- whether a reader of a write has given the whole body: each byte of it, and its end is known. A write that was dropped
-- before its end was announced has none
abbrev pub is_whole_part : ℕ → Option Written → Bool
is_whole_part place None = false
is_whole_part place (Some w) = w.told && nat_le (length w.bytes) place

-- whether a reader has given all that it was to give: of a complete body its range, of a write the whole body
abbrev pub is_whole : Store → Reader → Bool
is_whole s (Whole id body start stop done) = done
is_whole s (Part n place) = is_whole_part place (get s.writes n)

-- the length of a write's body, if its end is known
abbrev pub length_told : Option Written → Option ℕ
length_told None = None
length_told (Some w) = cond w.told (Some (length w.bytes)) None

-- the length of the body that a reader reads, whatever its range: that of a complete body, and that of a write whose end is
-- known
abbrev pub body_length : Store → Reader → Option ℕ
body_length s (Whole id body start stop done) = Some (length body)
body_length s (Part n place) = length_told (get s.writes n)
