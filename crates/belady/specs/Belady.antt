-- Bodies of one size, replaced so that most requests are hits: the one goes that is asked for last (Belady, A study of
-- replacement algorithms for a virtual-storage computer, 1966). What comes in may be that one, and a body that is not asked for
-- again is not kept.
use Rattle.std.specs.Prelude.{ℕ, nat_le, ◌+◌, ◌==◌, ◌&&◌, Bool, Option, None, Some, List, [], ◌∷◌, take, if◌then◌else◌}
use Rattle.std.specs.List.{list_any}
use Rattle.std.specs.Ordering.{nat_cmp}
use Rattle.std.specs.BTreeMap.{is_at}
use Rattle.std.specs.BTreeSet.{insert_key}
use Rattle.std.specs.Set.{remove_key}

-- the first of these requests for a body, if they are numbered from this number on
abbrev pub first : ℕ → ℕ → List ℕ → Option ℕ
first body from [] = None
first body from (b ∷ bodies) = if b == body then Some from else first body (from + 1) bodies

-- for each request, which one is the next for its body
abbrev pub nexts : ℕ → List ℕ → List (Option ℕ)
nexts from [] = []
nexts from (b ∷ bodies) = first b (from + 1) bodies ∷ nexts (from + 1) bodies

-- A body that is kept is known by the number of the request that asks for it next; the numbers ascend.

-- a request is a hit if it was awaited
abbrev pub is_hit : ℕ → List ℕ → Bool
is_hit i kept = list_any (is_at (nat_cmp i)) kept

-- then its body awaits its next request, if there is one
abbrev pub awaited : ℕ → Option ℕ → List ℕ → List ℕ
awaited i None kept = remove_key (is_at (nat_cmp i)) kept
awaited i (Some next) kept = insert_key nat_cmp (remove_key (is_at (nat_cmp i)) kept) next

-- of one too many the one goes that is asked for last
abbrev pub after : ℕ → ℕ → Option ℕ → List ℕ → List ℕ
after limit i next kept = take limit (awaited i next kept)

-- the hits of a cache with room for so many bodies, among the requests that are numbered from `from` on; these requests, each with the
-- next one for its body, are numbered from `i` on
abbrev pub hits_of : ℕ → ℕ → ℕ → List (Option ℕ) → List ℕ → ℕ
hits_of limit from i [] kept = 0
hits_of limit from i (next ∷ nexts) kept = (if nat_le from i && is_hit i kept then 1 else 0) + hits_of limit from (i + 1) nexts (after limit i next kept)
