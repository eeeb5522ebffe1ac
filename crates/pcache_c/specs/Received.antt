-- The head of a response in the bytes in which it came (RFC 9112, as `httparse` reads it).
use Rattle.std.specs.Prelude.{◌≡◌, ◌⊎◌, ◌≤◌, ◌++◌, ℕ, List, drop, length}
use Rattle.httparse.specs.Grammar.{HasNoResponse, MayBecomeResponse, ReadsResponse, ResponseHead, print_response}
use Rattle.pcache_meta.specs.declared.header.ResponseHeader.{ResponseHeader}
use Rattle.pcache_response.specs.Head.{IsAccepted, header_of}
use Rattle.pcache_c.specs.Codes.{no_memory, nothing, unreadable}
use Rattle.pcache_c.specs.Handles.{Fills, IsSame}
use Rattle.pcache_c.specs.declared.handle.PcacheHandle.{PcacheHandle}
use Rattle.pcache_c.specs.declared.object.Object.TheVariants as object

-- the first n bytes are a head with at most 256 fields, and this is kept of it
pub record IsHeadOf (bytes : List ℕ) (n : ℕ) (kept : ResponseHeader) : Type 0 where
  pub head : ResponseHead
  pub reads : ReadsResponse bytes head (drop n bytes)
  pub size : n ≡ length (print_response head)
  pub few : length head.fields ≤ 256
  pub accepted : IsAccepted head
  pub kept_is : kept ≡ header_of head

-- whatever bytes follow, no first ones are such a head
abbrev pub NeverHasHead : List ℕ → Type 0
NeverHasHead bytes = (more : List ℕ) (n : ℕ) (kept : ResponseHeader) → ¬ (IsHeadOf (bytes ++ more) n kept)

-- why no head was made of bytes: there was no memory for it; it has not ended, and may end; or it never is one
abbrev pub RefusesBytes : List ℕ → ℕ → Type 0
RefusesBytes bytes code = (code ≡ no_memory) ⊎ ((code ≡ nothing) × HasNoResponse bytes × MayBecomeResponse bytes) ⊎ ((code ≡ unreadable) × NeverHasHead bytes)

-- a handle gets the head at the start of the bytes, and its length is said
abbrev pub Receives : List ℕ → PcacheHandle → PcacheHandle → ℕ → ℕ → Type 0
Receives bytes old new taken code = (RefusesBytes bytes code × IsSame old new)
    ⊎ ((kept : ResponseHeader) × IsHeadOf bytes taken kept × Fills (object.Head kept) old new code)
