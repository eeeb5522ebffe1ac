-- A past that only grew (own).
use Rattle.std.specs.Prelude.{◌≡◌, ◌++◌, List}

-- it has something more, at its front, where the newest is
abbrev pub Grew : {A : Type 0} → List A → List A → Type 0
Grew old new = (added : List _) × (new ≡ added ++ old)
