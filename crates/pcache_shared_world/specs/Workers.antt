-- What a worker does to its share (own).
use Rattle.std.specs.Prelude.{◌≡◌, ◌<◌, ◌+◌, ℕ, List, ◌++◌, map, take, length, [], slice_index_or, Vec}
use Rattle.pcache_history.specs.declared.call.Call.{Call}
use Rattle.pcache_shared_world.specs.declared.receipt.Receipt.{Receipt}

abbrev pub calls_of : List Receipt → List Call
calls_of receipts = map (λ (r : Receipt). r.call) receipts

-- the share still has its receipts, and after them those of the first calls of the script
abbrev pub Runs : List Call → List Receipt → List Receipt → Type 0
Runs script before after = (new : List Receipt) × (n : ℕ) × (after ≡ before ++ new) × (calls_of new ≡ take n script)

-- the same, with all calls of the script
abbrev pub RunsWhole : List Call → List Receipt → List Receipt → Type 0
RunsWhole script before after = (new : List Receipt) × (after ≡ before ++ new) × (calls_of new ≡ script)

abbrev pub script_at : {A : Type 0} → List (Vec Call A) → ℕ → List Call
script_at scripts i = slice_index_or (map (λ s. s.items) scripts) i []

-- each share has run its script so
abbrev pub EachRuns : {A : Type 0} → (List Call → List Receipt → List Receipt → Type 0) → List (Vec Call A) → List (List Receipt) → List (List Receipt) → Type 0
EachRuns Runs scripts before after = (i : ℕ) (d : List Receipt) → i < length before → Runs (script_at scripts i) (slice_index_or before i d) (slice_index_or after i d)

-- each share has its old receipts and one more for each call of its script
abbrev pub HaveGrown : {A : Type 0} → List (Vec Call A) → List ℕ → List (List Receipt) → Type 0
HaveGrown scripts before shares = (i : ℕ) (d : List Receipt) → i < length shares → length (slice_index_or shares i d) ≡ slice_index_or before i 0 + length (script_at scripts i)
