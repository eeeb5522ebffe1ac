-- The number of a body's bytes, if it is limited (the phase table), and the length of a head, if that is (own).
use Rattle.std.specs.Prelude.{ℕ, ◌+◌, ◌^◌, ◌-◌, nat_le, min, not, Bool, true, false, Option, Some, None, option_map}
use Rattle.pcache_response.specs.Counted.{Counted}
use Rattle.pcache_request.specs.Requests.{Request}

-- a count of zero, with so many bytes allowed
abbrev pub with_limit : ℕ → Request → Request
with_limit n r = record r { size = Some (record { bytes = 0; limit = n }) }

abbrev pub limit_of : Counted → ℕ
limit_of c = c.limit

-- so many more bytes, up to the largest number of 64 bits
abbrev pub counted : ℕ → Counted → Counted
counted n c = record c { bytes = min (c.bytes + n) (2 ^ 64 - 1) }

abbrev pub with_bytes : ℕ → Request → Request
with_bytes n r = record r { size = option_map (counted n) r.size }

-- the counted bytes are within the limit; without a limit they always are
abbrev pub is_within : Option Counted → Bool
is_within None = true
is_within (Some c) = nat_le c.bytes c.limit

-- a head of at most so many bytes is allowed
abbrev pub with_head_limit : ℕ → Request → Request
with_head_limit n r = record r { head_limit = Some n }

-- a head of this length is within the limit; without a limit each is
abbrev pub is_head_within : Option ℕ → ℕ → Bool
is_head_within None n = true
is_head_within (Some most) n = nat_le n most

-- the head that is written, if there is one, is longer than the limit
abbrev pub exceeds_head : Option ℕ → Option ℕ → Bool
exceeds_head most None = false
exceeds_head most (Some n) = not (is_head_within most n)
