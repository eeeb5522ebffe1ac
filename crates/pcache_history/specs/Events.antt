-- What the events of a history say of writes, keys and entries (own). Events are listed newest first. Where most events
-- say nothing, a function says how one event changes the result so far; the definition over the list then has two
-- clauses.
use Rattle.std.specs.Prelude.{ℕ, ◌+◌, Bool, true, false, not, ◌&&◌, ◌||◌, ◌==◌, nat_eq, if◌then◌else◌, Option, None, Some, is_some, List, [], ◌∷◌, ◌++◌, length, sum_by}
use Rattle.std.specs.Option.{option_map, option_and_then, option_eq}
use Rattle.std.specs.List.{list_any}
use Rattle.std.specs.FinMap as map
use Rattle.pcache_meta.specs.Meta.{Meta, expired_at, in_place_of, numbered}
use Rattle.pcache_base.specs.Totals.{share}
use Rattle.pcache_evict.specs.declared.eviction.entry_key.CacheEntryKey.{CacheEntryKey}
use Rattle.pcache_evict.specs.Entry.{id_of}
use Rattle.pcache_evict.specs.Tracked.{Tracked, Evicted, evicted_with, without, added}
use Rattle.pcache_store.specs.Store.{Stored}
use Rattle.pcache_request.specs.Finishing.{entry_slot}
use Rattle.pcache_history.specs.declared.entry.Event.{Event}
use Rattle.pcache_history.specs.declared.entry.Event.TheVariants.{Begin, Wrote, Finish, Dropped, Admit, Access, Purge, Untrack, Expire, Renew}

-- the test holds of the value, if there is one
abbrev pub option_any : {A : Type 0} → (A → Bool) → Option A → Bool
option_any p None = false
option_any p (Some x) = p x

-- the events after the newest one that passes
abbrev pub until : (Event → Bool) → List Event → List Event
until p [] = []
until p (e ∷ es) = if p e then [] else e ∷ until p es

-- What one event says.

-- the number of writes begun
abbrev pub count_begin : Event → ℕ → ℕ
count_begin (Begin x k m) n = n + 1
count_begin _ n = n

-- whether it begins the write, and the write's slot and meta, which has the write's number from then on
abbrev pub begins : ℕ → Event → Bool
begins w (Begin x k m) = x == w
begins w _ = false

-- the slot and the meta of a write, after one more event
abbrev pub begin_at : ℕ → Event → Option (ℕ × Meta) → Option (ℕ × Meta)
begin_at w (Begin x k m) before = if x == w then Some (k, numbered x m) else before
begin_at w _ before = before

-- the write's bytes, and whether their end is announced
abbrev pub with_bytes_of : ℕ → Event → List ℕ → List ℕ
with_bytes_of w (Wrote x bytes eof) before = if x == w then before ++ bytes else before
with_bytes_of w _ before = before

-- whether the end of a write is known, after one more event: it is announced, or the write is finished
abbrev pub told_at : ℕ → Event → Bool → Bool
told_at w (Wrote x bytes eof) before = if x == w then eof else before
told_at w (Finish x true) before = if x == w then true else before
told_at w _ before = before

-- whether it ends the write, and whether it stores the write
abbrev pub ends : ℕ → Event → Bool
ends w (Finish x kept) = x == w
ends w (Dropped x) = x == w
ends w _ = false

-- the write that an event stores
abbrev pub finishes : Event → Option ℕ
finishes (Finish w true) = Some w
finishes _ = None

-- whether an event stores the write
abbrev pub stores : ℕ → Event → Bool
stores w (Finish x true) = x == w
stores w _ = false

-- whether an entry is of a slot: its key has this slot, whatever the key's user tag
abbrev pub names_slot : ℕ → CacheEntryKey → Bool
names_slot k e = entry_slot e == k

-- whether a write of a slot is removed when an entry is evicted: the entry is of the slot, and has no number or that of the
-- write
abbrev pub is_number : ℕ → Option ℕ → Bool
is_number w None = true
is_number w (Some n) = n == w

-- whether a write of a slot is removed with an entry, and with one of several
abbrev pub goes_with : ℕ → ℕ → CacheEntryKey → Bool
goes_with k w e = names_slot k e && is_number w (id_of e)

abbrev pub goes_with_any : ℕ → ℕ → List CacheEntryKey → Bool
goes_with_any k w out = list_any (goes_with k w) out

-- a removal of the write w of the slot k: a purge of its key, or an admission that evicts its entry, or the entry of its key
-- without a number
abbrev pub removes : ℕ → ℕ → Event → Bool
removes k w (Purge q) = q == k
removes k w (Admit e n out) = goes_with_any k w out
removes k w _ = false

-- how it changes the meta of the complete body of a key: an expiry ends its freshness, a revalidation sets another
-- meta, which has the number of the same write
abbrev pub alters : ℕ → Event → Meta → Meta
alters k (Expire q now) m = if q == k then expired_at now m else m
alters k (Renew q new) m = if q == k then in_place_of m new else m
alters k _ m = m

-- the tracked entries after it
abbrev pub track : Event → Tracked → Tracked
track (Admit e n out) m = without out (map.insert m e n)
track (Access e n) m = added m e n
track (Untrack e) m = map.remove m e
track _ m = m

-- the totals of all evictions after one more event, if these entries were tracked before it: an admission adds what it evicted
abbrev pub evicts : Tracked → Event → Evicted → Evicted
evicts m (Admit e n out) before = evicted_with before (map.insert m e n) out
evicts m _ before = before

-- What a list of events says.

-- the same totals after these events, listed oldest first
abbrev pub evicted_by : Tracked → Evicted → List Event → Evicted
evicted_by m before [] = before
evicted_by m before (e ∷ events) = evicted_by (track e m) (evicts m e before) events

-- how many writes were begun
abbrev pub begun : List Event → ℕ
begun [] = 0
begun (e ∷ es) = count_begin e (begun es)

-- the slot and the meta of a write, if it was begun
abbrev pub begin_of : ℕ → List Event → Option (ℕ × Meta)
begin_of w [] = None
begin_of w (e ∷ es) = begin_at w e (begin_of w es)

-- the events after the write began
abbrev pub since : ℕ → List Event → List Event
since w es = until (begins w) es

-- whether the write was finished or dropped
abbrev pub has_ended : ℕ → List Event → Bool
has_ended w es = list_any (ends w) es

-- whether the write's finish succeeded
abbrev pub was_stored : ℕ → List Event → Bool
was_stored w es = list_any (stores w) es

-- from its begin until its finish or drop
abbrev pub in_flight : ℕ → List Event → Bool
in_flight w es = is_some (begin_of w es) && not (has_ended w es)

-- whether the write is of the key
abbrev pub is_of : ℕ → ℕ → List Event → Bool
is_of k w es = option_any (λ b. b.0 == k) (begin_of w es)

-- the write of the key whose successful finish comes last
abbrev pub last_finished : ℕ → List Event → Option ℕ
last_finished k [] = None
last_finished k (e ∷ es) = if option_any (λ w. is_of k w es) (finishes e) then finishes e else last_finished k es

-- whether the write of this slot was stored, and another of the slot after it
abbrev pub is_replaced : ℕ → ℕ → List Event → Bool
is_replaced k w es = was_stored w es && not (option_eq nat_eq (last_finished k es) (Some w))

-- whether the write was removed since it began, or replaced since it was stored: it is untouched if not
abbrev pub is_removed : ℕ → List Event → Bool
is_removed w es = option_any (λ b. list_any (removes b.0 w) (since w es) || is_replaced b.0 w es) (begin_of w es)

-- all bytes of the write, one after another, also those after a removal
abbrev pub body_of : ℕ → List Event → List ℕ
body_of w [] = []
body_of w (e ∷ es) = with_bytes_of w e (body_of w es)

-- whether the end of the write is known: it was announced, or the write was finished
abbrev pub is_told : ℕ → List Event → Bool
is_told w [] = false
is_told w (e ∷ es) = told_at w e (is_told w es)

-- the meta of a key's body after these events
abbrev pub altered_by : ℕ → List Event → Meta → Meta
altered_by k [] m = m
altered_by k (e ∷ es) m = alters k e (altered_by k es m)

-- the meta of a finished write's body: the one that it began with, altered by the events after its finish
abbrev pub meta_kept : ℕ → List Event → ℕ → Meta → Meta
meta_kept w es k m = altered_by k (until (stores w) es) m

-- a finished write's body
abbrev pub body_stored : ℕ → List Event → Option Stored
body_stored w es = option_map (λ b. record { meta = meta_kept w es b.0 b.1; bytes = body_of w es }) (begin_of w es)

-- the body of the last finished write of the key, if that is untouched: the key stands
abbrev pub complete : ℕ → List Event → Option Stored
complete k es = option_and_then (λ w. if is_removed w es then None else body_stored w es) (last_finished k es)

-- a write of the key in flight and untouched
abbrev pub is_open : ℕ → ℕ → List Event → Bool
is_open k w es = is_of k w es && (in_flight w es && not (is_removed w es))

-- the tracked entries after the events, from those tracked before them
abbrev pub tracked : Tracked → List Event → Tracked
tracked start [] = start
tracked start (e ∷ es) = track e (tracked start es)

-- the slots of successful finishes, each once
abbrev pub with_key : Option ℕ → List ℕ → List ℕ
with_key None ks = ks
with_key (Some k) ks = if list_any (λ q. q == k) ks then ks else k ∷ ks

-- the slots with a finished write, each once
abbrev pub finished_keys : List Event → List ℕ
finished_keys [] = []
finished_keys (e ∷ es) = with_key (option_and_then (λ w. option_map (λ b. b.0) (begin_of w es)) (finishes e)) (finished_keys es)

-- the length of a complete body, in bytes
abbrev pub stored_size : Stored → ℕ
stored_size b = length b.bytes

-- the sum of the lengths of all complete bodies, in bytes
abbrev pub stored : List Event → ℕ
stored es = sum_by (λ k. share stored_size (complete k es)) (finished_keys es)

-- the number of all complete bodies
abbrev pub slots : List Event → ℕ
slots es = sum_by (λ k. share (λ _. 1) (complete k es)) (finished_keys es)
