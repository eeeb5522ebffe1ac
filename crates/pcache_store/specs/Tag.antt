-- The tag that names a write, for readers of a write in flight (own): the eight bytes of its number, high byte first.
use Rattle.std.specs.Prelude.{ℕ, List, Option, Some, None, Result, Ok, Err, cond, length, ◌==◌, ◌≡◌, ◌≢◌}
use Rattle.std.specs.Int.{w64, from_be_bytes}
use Rattle.pcache_base.specs.declared.error.ErrorType.{ErrorType}
use Rattle.pcache_base.specs.declared.error.ErrorType.TheVariants.{InternalError}

unfoldable pub number_of_tag : List ℕ → Option ℕ
number_of_tag tag = cond (length tag == 8) (Some (from_be_bytes w64 tag)) None

-- the number that a tag names, if there is a tag and it names one
abbrev pub named_by : Option (List ℕ) → Option ℕ
named_by None = None
named_by (Some tag) = number_of_tag tag

-- what reading a tag of so many bytes returns: those bytes, or an error if there are more or fewer
abbrev pub Reads : ℕ → List ℕ → Result (List ℕ) ErrorType → Type 0
Reads n tag (Ok bytes) = (bytes ≡ tag) × (length tag ≡ n)
Reads n tag (Err e) = (e ≡ InternalError) × (length tag ≢ n)
