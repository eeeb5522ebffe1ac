-- A meta that is kept as the two byte strings that are written of it, one behind the other (own).
use Rattle.std.specs.Prelude.{◌≡◌, ℕ, ◌≤◌, List, [], length, take, drop, Option, Some, unwrap_or}
use Rattle.pcache_meta.specs.Header.{Header}
use Rattle.pcache_meta.specs.HeaderReading.{header_at}
use Rattle.pcache_meta.specs.HeaderText.{header_written}
use Rattle.pcache_meta.specs.Internal.{of_the_epoch, upgraded}
use Rattle.pcache_meta.specs.Meta.{Meta}
use Rattle.pcache_meta.specs.MetaBytes.{SpellsMeta}
use Rattle.pcache_meta.specs.MetaReading.{internal_at}
use Rattle.pcache_meta.specs.MetaWriting.{internal_written}
use Rattle.pcache_meta.specs.Reading.{◌>>=◌}
use Rattle.pcache_meta.specs.declared.header.HttpVersion.TheVariants.{Http11}

-- the meta that two byte strings spell, if they spell one
unfoldable pub meta_at : List ℕ → List ℕ → Option Meta
meta_at internal header = do
  m ← internal_at internal
  h ← header_at header
  Some (record { internal = m; header = h })

-- an empty head, for strings that spell nothing
abbrev pub no_header : Header
no_header = record { version = Http11; status = 200; fields = [] }

-- the meta that two byte strings spell
unfoldable pub meta_of : List ℕ → List ℕ → Meta
meta_of internal header = unwrap_or (meta_at internal header) (record { internal = upgraded of_the_epoch; header = no_header })

-- the two byte strings are the ones that are written of the meta m, and they spell it
pub record AreOf (m : Meta) (internal header : List ℕ) : Type 0 where
  pub said : internal ≡ internal_written m.internal
  pub head : header ≡ header_written m.header
  pub spelled : SpellsMeta internal header m

-- the meta that a text spells: what it says beside its head up to the place `split`, and behind it the head
unfoldable pub kept_at : ℕ → List ℕ → Meta
kept_at split text = meta_of (take split text) (drop split text)

-- the text is what is written of that meta, in two parts
pub record IsKept (split : ℕ) (text : List ℕ) : Type 0 where
  pub within : split ≤ length text
  pub parts : AreOf (kept_at split text) (take split text) (drop split text)
