-- What a key of a trace stands by (own).
use Rattle.std.specs.Prelude.{ℕ, ◌-◌, nat_le, if◌then◌else◌, Option, None, Some, List, [], ◌∷◌, ◌++◌, length, take, drop, replicate}
use Rattle.pcache_base.specs.Blake2b.{blake2b_128}
use Rattle.pcache_base.specs.declared.key.CompactCacheKey.{CompactCacheKey}

-- a stored key without a tag
abbrev pub without_tag : List ℕ → Option (List ℕ) → CompactCacheKey
without_tag first second = record { primary = first; variance = second; user_tag = [] }

-- at most fifteen bytes as sixteen: zeros fill them up, and the last one is their number
abbrev pub padded : List ℕ → List ℕ
padded part = part ++ replicate (15 - length part) 0 ++ length part ∷ []

-- a key that stands by itself: of at most fifteen bytes; or of sixteen and up to fifteen more
abbrev pub by_itself : List ℕ → CompactCacheKey
by_itself key = if nat_le (length key) 15 then without_tag (padded key) None else without_tag (take 16 key) (Some (padded (drop 16 key)))

-- a key that stands by this hash of it
abbrev pub by_hash : List ℕ → CompactCacheKey
by_hash hash = without_tag hash None

-- what a key stands by where nothing goes by its hash; the second part of a longer one is none that a short one has
abbrev pub stands_by : List ℕ → CompactCacheKey
stands_by key = if nat_le (length key) 31 then by_itself key else without_tag (blake2b_128 key) (Some (replicate 16 255))
