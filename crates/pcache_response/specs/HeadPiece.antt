-- A head with one more piece (own).
use Rattle.std.specs.Prelude.{◌≡◌, ℕ, ◌+◌, ◌≤◌, List, ◌++◌, length, take}
use Rattle.pcache_response.specs.HeadEnd.{EndsAt, IsUnfinished}
use Rattle.pcache_response.specs.declared.head_end.HeadPiece.{HeadPiece}
use Rattle.pcache_response.specs.declared.head_end.HeadPiece.TheVariants.{Open, Ended}

-- the piece is added to the bytes before it; if the head ends in it, only its bytes up to that end are added
abbrev pub IsJoined : List ℕ → List ℕ → HeadPiece → Type 0
IsJoined before piece (Open bytes) = (bytes ≡ before ++ piece) × IsUnfinished (before ++ piece)
IsJoined before piece (Ended head used) =
    (used ≤ length piece) × (head.items ≡ before ++ take used piece) × EndsAt (before ++ piece) (length before + used)
