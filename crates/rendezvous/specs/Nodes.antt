-- Which node a key goes to: rendezvous hashing, by which the node wins whose hash with the key is highest (Thaler, Ravishankar,
-- Using name-based mappings to increase hit rates, IEEE/ACM Transactions on Networking 6, 1998).
use Rattle.std.specs.Prelude.{◌≡◌, ℕ, ◌+◌, ◌*◌, ◌/◌, ◌%◌, ◌^◌, ◌<◌, ◌≤◌, ◌⊎◌, bit_xor, List, All, Contains}

-- one step of the finalizer of SplitMix64, which spreads a number over all bits (Steele, Lea, Flood, Fast splittable pseudorandom
-- number generators, OOPSLA 2014), and the whole of it
abbrev pub stirred : ℕ → ℕ → ℕ → ℕ
stirred shift factor n = bit_xor n (n / 2 ^ shift) * factor % 2 ^ 64

abbrev pub mixed : ℕ → ℕ
mixed n = let last = stirred 27 0x94d049bb133111eb (stirred 30 0xbf58476d1ce4e5b9 n) in bit_xor last (last / 2 ^ 31)

-- the hash of a key's hash and a node
abbrev pub score : ℕ → ℕ → ℕ
score hash node = mixed (bit_xor hash (mixed ((node + 1) % 2 ^ 64)))

-- a node does not lose to another: its hash is higher, or as high and its number is no higher
abbrev pub Beats : ℕ → ℕ → ℕ → Type 0
Beats hash node other = (score hash other < score hash node) ⊎ ((score hash other ≡ score hash node) × (node ≤ other))

-- a key goes to the one of these nodes that loses to none of them
pub record GoesTo (hash : ℕ) (nodes : List ℕ) (node : ℕ) : Type 0 where
  pub there : Contains nodes node
  pub wins : All (Beats hash node) nodes
