-- That a head and a body are of one response (own): each meta that is set names the write whose body it is for, and what is found has
-- the meta with which its own write began, or the last one that was set for that very write, expired if the body was since. Notes are
-- listed newest first.
use Rattle.std.specs.Prelude.{ℕ, ◌≡◌, ◌==◌, nat_eq, Bool, if◌then◌else◌, Option, Some, None, List, [], ◌∷◌, IsSome}
use Rattle.std.specs.Option.{option_eq, option_map}
use Rattle.pcache_meta.specs.Meta.{Meta, expired_at, numbered}
use Rattle.pcache_store.specs.Store.{Store, Reader, find, write_read}
use Rattle.pcache_store.specs.Past.{Note, Began, MetaSet, Expired}
use Rattle.pcache_store.specs.PastSays.{last_finished}

-- there is a number, and it is this one
abbrev pub is_number : ℕ → Option ℕ → Bool
is_number w n = option_eq nat_eq n (Some w)

-- each meta that was set for a key names the write of the key that was finished last by then: the one whose body had its meta changed
abbrev pub SetsNameTheirs : List Note → Type 0
SetsNameTheirs [] = Unit {0}
SetsNameTheirs (MetaSet k m ∷ past) = IsSome m.entry_id × (m.entry_id ≡ last_finished k past) × SetsNameTheirs past
SetsNameTheirs (_ ∷ past) = SetsNameTheirs past

-- the meta of a write after one more note: that with which it begins; one that is set by its number, in place of the one before; and
-- that one expired, if the body that expires is this write's
abbrev pub meta_at : ℕ → Note → List Note → Option Meta → Option Meta
meta_at w (Began k n m) past sofar = if n == w then Some (numbered n m) else sofar
meta_at w (MetaSet k m) past sofar = if is_number w m.entry_id then Some (numbered w m) else sofar
meta_at w (Expired k now) past sofar = if is_number w (last_finished k past) then option_map (expired_at now) sofar else sofar
meta_at w _ past sofar = sofar

-- the meta of a write's own response
abbrev pub meta_of : ℕ → List Note → Option Meta
meta_of w [] = None
meta_of w (e ∷ past) = meta_at w e past (meta_of w past)

-- what is found has the meta of the write that its reader reads
abbrev pub MetasAreTheirs : Store → List Note → Type 0
MetasAreTheirs s past = (k : ℕ) (m : Meta) (r : Reader) → find s k ≡ Some (m, r) → (w : ℕ) × (write_read r ≡ Some w) × (meta_of w past ≡ Some m)
