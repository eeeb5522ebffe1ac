-- The events of and the reply to the end of a put, as the code makes them (own).
use Rattle.std.specs.Prelude.{ℕ, true, Option, None, Some, IsSome, List, [], ◌∷◌, length}
use Rattle.pcache_evict.specs.declared.eviction.entry_key.CacheEntryKey.{CacheEntryKey}
use Rattle.pcache_put.specs.declared.report.PutEnd.{PutEnd}
use Rattle.pcache_put.specs.declared.report.PutEnd.TheVariants as end
use Rattle.pcache_history.specs.declared.call.Reply.{Reply}
use Rattle.pcache_history.specs.declared.call.Reply.TheVariants as R
use Rattle.pcache_history.specs.declared.entry.Event.{Event}
use Rattle.pcache_history.specs.declared.entry.Event.TheVariants as E
use Rattle.pcache_world.specs.Step.{refused_end}

-- the end of a put that made no write
abbrev pub IsUnwritten : PutEnd → Type 0
IsUnwritten (end.NotCached reason) = Unit {0}
IsUnwritten (end.Refused e) = Unit {0}
IsUnwritten how = ⊥

-- the end of a put's write; a stored body has an entry
abbrev pub IsWritten : PutEnd → Option CacheEntryKey → Type 0
IsWritten (end.Stored f) entry = IsSome entry
IsWritten (end.Dropped e) entry = Unit {0}
IsWritten (end.Withdrawn e) entry = Unit {0}
IsWritten how entry = ⊥

abbrev pub end_reply : PutEnd → Reply
end_reply (end.NotCached reason) = R.NotCached reason
end_reply (end.Refused e) = R.Refused e
end_reply (end.Dropped e) = R.Refused e
end_reply (end.Stored f) = R.Stored f.size (length f.evicted.items)
end_reply (end.Withdrawn e) = R.Refused e

abbrev pub admit_noted : ℕ → List CacheEntryKey → Option CacheEntryKey → List Event
admit_noted n out None = []
admit_noted n out (Some e) = E.Admit e n out ∷ []

abbrev pub end_noted : ℕ → ℕ → PutEnd → Option CacheEntryKey → List Event
end_noted w k (end.Stored f) entry = E.Finish w true ∷ admit_noted f.size f.evicted.items entry
end_noted w k (end.Dropped e) entry = refused_end w e ∷ []
end_noted w k (end.Withdrawn e) entry = E.Finish w true ∷ E.Purge k ∷ []
end_noted w k how entry = []
