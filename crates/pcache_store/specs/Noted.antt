-- The note that a step stands for, if it did something to the store (own).
use Rattle.std.specs.Prelude.{true, Option, Some}
use Rattle.std.specs.Option.{option_map}
use Rattle.pcache_store.specs.declared.memory.past.Given.{Given}
use Rattle.pcache_store.specs.declared.memory.past.Given.TheVariants as given
use Rattle.pcache_store.specs.declared.memory.past.Step.{Step}
use Rattle.pcache_store.specs.declared.memory.past.Step.TheVariants as step
use Rattle.pcache_store.specs.Past.{Note, Began, Wrote, Finished, Dropped, MetaSet, Joined, Left}
use Rattle.pcache_store.specs.Notes.{removal_noted, expiry_noted}

abbrev pub note_of : Step → Option Note
note_of (step.Wrote number bytes eof) = Some (Wrote number bytes.now eof)
note_of (step.Finished number) = Some (Finished number)
note_of (step.Dropped number) = Some (Dropped number)
note_of (step.Removed slot id) = removal_noted true slot id
note_of (step.Expired slot now) = expiry_noted now slot
note_of (step.Joined number) = option_map Joined number
note_of (step.Left number) = Some (Left number)

-- the same of what was done with a meta
abbrev pub given_note : Given → Note
given_note (given.Began slot number meta) = Began slot number meta.now
given_note (given.Set slot meta) = MetaSet slot meta.now
