-- Which requests of a trace are made to the caches (own; the sample is that of the FAST 2015 paper, see Sampled).
use Rattle.std.specs.Prelude.{◌≡◌, ℕ, ◌+◌, ◌*◌, ◌/◌, ◌^◌, ◌==◌, ◌||◌, not, Bool, Option, None, Some, List, ◌++◌, length, sum_by, if◌then◌else◌}
use Rattle.std.specs.Option.{option_map}
use Rattle.std.specs.List.{filter_map}
use Rattle.pcache_base.specs.Blake2b.{blake2b_128}
use Rattle.pcache_base.specs.Key.{number_of}
use Rattle.pcache_base.specs.declared.key.CompactCacheKey.{CompactCacheKey}
use Rattle.pcache_evict.specs.Entry.{entry_with}
use Rattle.cache_simulation.specs.declared.options.Setting.{Setting}
use Rattle.cache_simulation.specs.declared.player.Player.{Player}
use Rattle.cache_simulation.specs.declared.report.Row.{Row}
use Rattle.cache_simulation.specs.declared.run.Request.{Request}
use Rattle.cache_simulation.specs.Caches.{HasPlayed, Ran, rules_in, start_in}
use Rattle.cache_simulation.specs.Names.{stands_by, by_hash}
use Rattle.cache_simulation.specs.Sampled.{is_in_part, expected, expected_bytes}

-- a line of a trace: the bytes of its key, the size of the body, and the second
pub record Line : Type 0 where
  pub key : List ℕ
  pub size : ℕ
  pub second : ℕ

abbrev pub line : List ℕ → ℕ → ℕ → Line
line key size second = record { key = key; size = size; second = second }

-- the first eight bytes of a hash as a number
abbrev pub front_of : List ℕ → ℕ
front_of hash = number_of hash / 2 ^ 64

-- the request of a line whose key stands by this one
abbrev pub request_with : CompactCacheKey → ℕ → ℕ → Request
request_with key size second = record { item = entry_with key None; size = size; time = second * 1000000000 }

-- whether each key stands by its hash: a sample and shards go by it
abbrev pub go_by_hashes : Setting → Bool
go_by_hashes s = s.has_shards || not (s.sample.rate == 1000000)

-- what a key stands by
abbrev pub key_in : Setting → List ℕ → CompactCacheKey
key_in s key = if go_by_hashes s then by_hash (blake2b_128 key) else stands_by key

-- the same, if the key's hash is in the sample
abbrev pub named_in : Setting → List ℕ → Option CompactCacheKey
named_in s key = if is_in_part s.sample.rate s.sample.part (front_of (blake2b_128 key)) then Some (key_in s key) else None

-- a line is a request if its key is in the sample
abbrev pub request_of : Setting → Line → Option Request
request_of s l = option_map (λ key. request_with key l.size l.second) (named_in s l.key)

-- the requests of these lines that are made
abbrev pub requests_of : Setting → List Line → List Request
requests_of s lines = filter_map (request_of s) lines

-- these requests were made after those before the mark, or wait in the batch
abbrev pub HasAsked : List Request → List Request → Player → Type 0
HasAsked before asked p = (made : List Request) × HasPlayed before made p.runs × (asked ≡ made ++ p.batch.items)

abbrev pub bytes_in : List Line → ℕ
bytes_in lines = sum_by (λ (l : Line). l.size) lines

-- these lines were read after those before the mark
pub record HasRead (before lines : List Line) (p : Player) : Type 0 where
  pub asked : HasAsked (requests_of p.runs.setting before) (requests_of p.runs.setting lines) p
  pub first : p.from ≡ length before
  pub requests : p.all.requests ≡ length lines
  pub bytes : p.all.bytes ≡ bytes_in lines

-- a row tells what the plain run of its policy gives of the requests of these lines after those before them, and how many were to be
-- expected of so many lines
pub record IsRowOf (setting : Setting) (before lines : List Line) (row : Row) : Type 0 where
  pub by : row.setting ≡ setting
  pub ran : Ran (requests_of setting before) (requests_of setting lines) (rules_in row.told.policy setting row.size) (start_in setting) row.told
  pub begins : row.from ≡ length before
  pub ends : row.until ≡ length before + length lines
  pub requests : row.expected ≡ expected setting.sample.rate (length lines)
  pub bytes : row.expected_bytes ≡ expected_bytes setting.sample.rate (bytes_in lines)
