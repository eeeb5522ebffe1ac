-- What the reader of a request has given since it was made, by the history (own). Bytes whose copy failed count too: the
-- event of the read has them, not its reply. The event of a read does not name its reader: it is the one that the request of
-- its entry holds then, so what a reader gave is found in the entries of its request alone.
use Rattle.std.specs.Prelude.{◌≡◌, ℕ, ◌≤◌, ◌==◌, cond, if◌then◌else◌, Some, List, [], ◌∷◌, ◌++◌, length, take, slice_range}
use Rattle.pcache_base.specs.declared.poll.Poll.TheVariants.{Ready}
use Rattle.pcache_store.specs.Store.{Reader, Whole, Part}
use Rattle.pcache_history.specs.declared.entry.Entry.{Entry}
use Rattle.pcache_history.specs.declared.entry.Event.{Event}
use Rattle.pcache_history.specs.declared.entry.Event.TheVariants as E
use Rattle.pcache_history.specs.Events.{body_of}
use Rattle.pcache_history.specs.Ongoing.{ReplyKind, Change, opens, takes, begins, reads_on, seeks, change_of, kind_of_reply, is_done, is_taken}

-- the bytes that a read gave, if it gave any
abbrev pub given_in : List Event → List ℕ
given_in (E.Read (Ready (Some bytes)) ∷ es) = bytes
given_in _ = []

-- how one call changes the bytes that its request's reader has given: none after a request opened, a hit was taken, a
-- write began with a reader, or the reader was moved to another range; a read adds what it gave
abbrev pub read_on : Change → ReplyKind → List Event → List ℕ → List ℕ
read_on (opens options) o events before = cond (is_done o) [] before
read_on (takes s) o events before = cond (is_taken o) [] before
read_on begins o events before = cond (is_done o) [] before
read_on reads_on o events before = before ++ given_in events
read_on (seeks start end) o events before = cond (is_done o) [] before
read_on _ o events before = before

-- the bytes that a request's reader has given since it was made
abbrev pub read_by : ℕ → List Entry → List ℕ
read_by r [] = []
read_by r (e ∷ h) = if e.call.request == r then read_on (change_of e.call.act) (kind_of_reply e.reply) e.events (read_by r h) else read_by r h

-- a reader of a complete body has given its range after it is done, and nothing before; a reader of a write has given
-- the prefix of the write's body that it has read
abbrev pub HasRead : List Event → Reader → List ℕ → Type 0
HasRead es (Whole id body start stop done) bytes = bytes ≡ cond done (slice_range body start stop) []
HasRead es (Part w place) bytes = (bytes ≡ take place (body_of w es)) × (place ≤ length (body_of w es))
