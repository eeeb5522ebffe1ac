-- The limits that a request has on a body's length and on a head's (own).
use Rattle.std.specs.Prelude.{◌≡◌, ℕ}
use Rattle.std.specs.Int.{from_bool}
use Rattle.pcache_cache.specs.Parts.{Parts}
use Rattle.pcache_cache.specs.Weighing.{written_head}
use Rattle.pcache_request.specs.Phases.{IsOn, WasEnabled}
use Rattle.pcache_request.specs.Sizes.{exceeds_head, is_within, with_bytes, with_head_limit, with_limit}
use Rattle.pcache_c.specs.Codes.{Outcome, ok}
use Rattle.pcache_c.specs.Requests.{IsUnchanged, KeepsFound}
use Rattle.pcache_c.specs.declared.served.Open.{Open}

-- how many bytes a body has at most is set, and none are counted

abbrev pub LimitsBody : ℕ → Open → Open → ℕ → Type 0
LimitsBody most o p code = Outcome (IsOn o.request.cache.phase) ((p.request.cache ≡ with_limit most o.request.cache) × KeepsFound o p) ⊥ (λ e. ⊥) (p ≡ o) code

-- bytes of the body are counted, and it is said whether those so far are within the limit

pub record Counted (count : ℕ) (o p : Open) (within : ℕ) : Type 0 where
  pub says : within ≡ from_bool (is_within p.request.cache.size)
  pub request : p.request.cache ≡ with_bytes count o.request.cache
  pub rest : KeepsFound o p

abbrev pub CountsBody : ℕ → ℕ → Open → Open → ℕ → Type 0
CountsBody count within o p code = Outcome (WasEnabled o.request.cache.phase) (Counted count o p within) ⊥ (λ e. ⊥) (p ≡ o) code

-- how many bytes a head has at most, as the text that is stored, is set

abbrev pub LimitsHead : ℕ → Open → Open → ℕ → Type 0
LimitsHead most o p code = Outcome (IsOn o.request.cache.phase) ((p.request.cache ≡ with_head_limit most o.request.cache) × KeepsFound o p) ⊥ (λ e. ⊥) (p ≡ o) code

-- whether the head of the request's write is longer is said: without a limit, and without a write, it is not

abbrev pub SaysHeadIsTooLong : Parts → Parts → Open → Open → ℕ → ℕ → Type 0
SaysHeadIsTooLong c d o p out code = IsUnchanged c d o p × (code ≡ ok) × (out ≡ from_bool (exceeds_head o.request.cache.head_limit (written_head c.store o.request.cache.write)))
