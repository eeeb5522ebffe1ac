-- What a store keeps for a body beside its bytes (own).
use Rattle.std.specs.Prelude.{ℕ, Option, Some, None, length}
use Rattle.pcache_meta.specs.HeaderText.{header_written}
use Rattle.pcache_meta.specs.Meta.{Meta}
use Rattle.pcache_store.specs.Store.{Stored, Written}

-- the length of the text of a meta's head, in bytes
abbrev pub head_size : Meta → ℕ
head_size m = length (header_written m.header)

-- the lengths of a complete body and of its head
abbrev pub lengths : Stored → ℕ × ℕ
lengths b = (length b.bytes, head_size b.meta)

-- the same of a write; zero if there is none
abbrev pub write_lengths : Option Written → ℕ × ℕ
write_lengths None = (0, 0)
write_lengths (Some w) = (length w.bytes, head_size w.meta)
