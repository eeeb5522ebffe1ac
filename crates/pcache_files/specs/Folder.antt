-- What the files of a folder gave, what is tracked once they are loaded, and what a save left (own). What a file will give
-- is a function of the file, `left`, where it is known. What a call on a path gave is a relation (`opens`, `makes`,
-- `renames`, `refuses`), and so is how a call on a file fails (`fails`). Nothing is known of them, so only a call that was
-- made shows one.
-- An open file keeps its number (`source`), so what has its number is no other file.
use Rattle.std.specs.Prelude.{◌≡◌, ◌≢◌, ◌⊎◌, ℕ, zero, suc, List, [], ◌∷◌, ◌++◌, Option, Some, None, codes, decimal}
use Rattle.std.specs.FinMap.{insert}
use Rattle.std.specs.Io.KnownBytes.{Appends}
use Rattle.std.specs.Path.{path_join}
use Rattle.std_io.specs.declared.io.error.Error.{Error}
use Rattle.std_io.specs.IoError.{error_kind}
use Rattle.std_io.specs.declared.io.kind.ErrorKind.TheVariants as kinds
use Rattle.pcache_evict.specs.Recency.{Recency}
use Rattle.pcache_evict.specs.Shards.{list_at}
use Rattle.pcache_evict.specs.Tracked.{Tracked, added}
use Rattle.pcache_files.specs.Device.{Gave, GaveUp}
use Rattle.pcache_files.specs.FileSpelling.{SpellsFile}
use Rattle.pcache_files.specs.FileWriting.{file_written}

-- ---- names

-- of the file of a manager with one list (upstream's)
abbrev pub list_name : List ℕ
list_name = codes "simple_lru.data"

-- of the file of the shard with this number (upstream's)
abbrev pub shard_name : ℕ → List ℕ
shard_name shard = codes "lru.data." ++ decimal shard

-- of the files of the first shards
abbrev pub shard_names : ℕ → List (List ℕ)
shard_names zero = []
shard_names (suc n) = shard_names n ++ shard_name n ∷ []

-- a name is one of these
abbrev pub IsListed : List ℕ → List (List ℕ) → Type 0
IsListed name [] = ⊥
IsListed name (other ∷ names) = (name ≡ other) ⊎ IsListed name names

-- ---- what is loaded

-- the file of this path was opened and read to its end, and what it gave spells this list
pub record IsRead {F : Type 0} (opens : List ℕ → F → Type 0) (left : F → Option (List ℕ)) (path : List ℕ) (l : Recency) : Type 0 where
  pub opened : F
  pub found : opens path opened
  pub after : F
  pub bytes : List ℕ
  pub gave : Gave (left opened) (left after) bytes
  pub spelled : SpellsFile bytes l

-- a call on this path failed, and not for want of memory
pub record IsRefused (refuses : List ℕ → Error → Type 0) (path : List ℕ) : Type 0 where
  pub error : Error
  pub given : refuses path error
  pub cause : error_kind error ≢ kinds.OutOfMemory

-- a call on this path failed
abbrev pub HasRefused : (List ℕ → Error → Type 0) → List ℕ → Type 0
HasRefused refuses path = (e : Error) × refuses path e

-- the file of this path was opened, and a read of it gave up
pub record IsUnread {F : Type 0} (opens : List ℕ → F → Type 0) (source : F → ℕ) (fails : F → Error → F → Type 0) (path : List ℕ) : Type 0 where
  pub opened : F
  pub found : opens path opened
  pub before : F
  pub after : F
  pub same : source after ≡ source opened
  pub cause : GaveUp fails before after

-- the file of this path was opened, and what it gives spells no list
pub record IsForeign {F : Type 0} (opens : List ℕ → F → Type 0) (left : F → Option (List ℕ)) (path : List ℕ) : Type 0 where
  pub opened : F
  pub found : opens path opened
  pub no_list : (bytes : List ℕ) → left opened ≡ Some bytes → (l : Recency) → ¬ (SpellsFile bytes l)

-- the file of this path could not be opened, or a read of it gave up
abbrev pub IsUnavailable : {F : Type 0} → (List ℕ → F → Type 0) → (F → ℕ) → (List ℕ → Error → Type 0) → (F → Error → F → Type 0) → List ℕ → Type 0
IsUnavailable opens source refuses fails path = IsRefused refuses path ⊎ IsUnread opens source fails path

-- what one file gave: its list; or nothing, if it was skipped since it is unavailable or spells none
abbrev pub IsFile : {F : Type 0} → (List ℕ → F → Type 0) → (F → Option (List ℕ)) → (F → ℕ) → (List ℕ → Error → Type 0) → (F → Error → F → Type 0) → List ℕ → Option Recency → Type 0
IsFile opens left source refuses fails path (Some l) = IsRead opens left path l
IsFile opens left source refuses fails path None = IsUnavailable opens source refuses fails path ⊎ IsForeign opens left path

-- what the files of these names in a folder gave, one after the other
abbrev pub AreFiles : {F : Type 0} → (List ℕ → F → Type 0) → (F → Option (List ℕ)) → (F → ℕ) → (List ℕ → Error → Type 0) → (F → Error → F → Type 0) → List ℕ → List (List ℕ) → List (Option Recency) → Type 0
AreFiles opens left source refuses fails dir [] [] = Unit {0}
AreFiles opens left source refuses fails dir (name ∷ names) (list ∷ lists) = IsFile opens left source refuses fails (path_join dir name) list × AreFiles opens left source refuses fails dir names lists
AreFiles opens left source refuses fails dir names lists = ⊥

-- the lists that were found, one after the other
abbrev pub found : List (Option Recency) → Recency
found [] = []
found (None ∷ lists) = found lists
found (Some l ∷ lists) = l ++ found lists

-- how many lists were not found
abbrev pub missing : List (Option Recency) → ℕ
missing [] = 0
missing (None ∷ lists) = suc (missing lists)
missing (Some l ∷ lists) = missing lists

-- of the files of these names in a folder so many were skipped, and the others gave these entries, one file after the other
pub record Loads {F : Type 0} (opens : List ℕ → F → Type 0) (left : F → Option (List ℕ)) (source : F → ℕ) (refuses : List ℕ → Error → Type 0) (fails : F → Error → F → Type 0) (dir : List ℕ) (names : List (List ℕ)) (skipped : ℕ) (entries : Recency) : Type 0 where
  pub lists : List (Option Recency)
  pub each : AreFiles opens left source refuses fails dir names lists
  pub skips : skipped ≡ missing lists
  pub all : entries ≡ found lists

-- the map with the weights of these entries, one after the other
abbrev pub set_all : Recency → Tracked → Tracked
set_all [] m = m
set_all (e ∷ entries) m = set_all entries (insert m e.0 e.1)

-- the map with those of these entries added that it does not have, one after the other
abbrev pub added_all : Recency → Tracked → Tracked
added_all [] m = m
added_all (e ∷ entries) m = added_all entries (added m e.0 e.1)

-- ---- what is saved

-- these bytes were written to a file, all of them, and flushed
abbrev pub IsWritten : {F : Type 0} → (F → Option (List ℕ)) → (F → Type 0) → F → List ℕ → Type 0
IsWritten {F} contents is_flushed made bytes = (after : F) × Appends (contents made) (contents after) bytes × is_flushed after

-- a file was made, these bytes were written to it, and it was given this path
pub record IsSaved {F : Type 0} (makes : List ℕ → F → Type 0) (renames : List ℕ → List ℕ → Type 0) (contents : F → Option (List ℕ)) (is_flushed : F → Type 0) (path bytes : List ℕ) : Type 0 where
  pub temporary : List ℕ
  pub made : F
  pub anew : makes temporary made
  pub written : IsWritten contents is_flushed made bytes
  pub named : renames temporary path

-- a call on a path failed, and not for want of memory, or a write or a flush of a file gave up
pub data IsUnsaved {F : Type 0} (refuses : List ℕ → Error → Type 0) (fails : F → Error → F → Type 0) : Type 0 where
  refused : (path : List ℕ) → IsRefused refuses path → IsUnsaved refuses fails
  unwritten : (before after : F) → GaveUp fails before after → IsUnsaved refuses fails

-- the files of these names in a folder were saved with these bytes
abbrev pub AreSaved : {F : Type 0} → (List ℕ → F → Type 0) → (List ℕ → List ℕ → Type 0) → (F → Option (List ℕ)) → (F → Type 0) → List ℕ → List (List ℕ × List ℕ) → Type 0
AreSaved makes renames contents is_flushed dir [] = Unit {0}
AreSaved makes renames contents is_flushed dir (file ∷ files) = IsSaved makes renames contents is_flushed (path_join dir file.0) file.1 × AreSaved makes renames contents is_flushed dir files

-- the files of the first shards, each with its list
abbrev pub shard_files : ℕ → List Recency → List (List ℕ × List ℕ)
shard_files zero shards = []
shard_files (suc n) shards = shard_files n shards ++ (shard_name n, file_written (list_at shards n)) ∷ []
