-- The deed that a note stands for (own).
use Rattle.std.specs.Duration.{as_nanos}
use Rattle.pcache_lock.specs.declared.lock.past.Note.{Note}
use Rattle.pcache_lock.specs.declared.lock.past.Note.TheVariants as note
use Rattle.pcache_lock.specs.Deeds.{Deed, Released, Published, Made, ReadLocked, Unlocked, asked, asked_again, given_up}

abbrev pub deed_of : Note → Deed
deed_of (note.Asked slot stale now number is_permit) = asked slot stale now number is_permit
deed_of (note.Released number reason) = Released number reason
deed_of (note.GivenUp number is_permit) = given_up number is_permit
deed_of (note.Polled number now is_old) = asked_again number now is_old
deed_of (note.Published number tokens) = Published number tokens.now
deed_of (note.Made number age_timeout stale now) = Made number (as_nanos age_timeout) stale now
deed_of (note.ReadLocked number) = ReadLocked number
deed_of (note.Unlocked number reason) = Unlocked number reason
