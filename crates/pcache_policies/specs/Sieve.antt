-- SIEVE: one list from the newest entry to the oldest, and a hand that chooses the entries to evict (Zhang, Yang,
-- Yue, Vigfusson, Rashmi, NSDI 2024).
use Rattle.std.specs.Prelude.{◌≡◌, ◌≢◌, ℕ, ◌⊎◌, ◌==◌, false, List, [], ◌∷◌, ◌++◌, if◌then◌else◌}
use Rattle.pcache_evict.specs.declared.eviction.entry_key.CacheEntryKey.{CacheEntryKey}
use Rattle.pcache_evict.specs.declared.eviction.policy.EvictionPolicy.TheVariants as named
use Rattle.pcache_evict.specs.Tracked.{Limits}
use Rattle.pcache_evict.specs.Recency.{Recency}
use Rattle.pcache_evict.specs.Policy.{Policy, Shown}
use Rattle.pcache_policies.specs.declared.queue.Seen.{Seen}
use Rattle.pcache_policies.specs.Queue.{Queue, plain, rest_of, reseen, unused, used, queue_shown}
use Rattle.pcache_policies.specs.Leaving.{HasRoom}
use Rattle.pcache_policies.specs.Managed.{Way, policy_of}

-- the list is `ahead ++ passed`; the hand is at the last entry of `ahead`, or at the oldest entry if `ahead` is empty
pub record Sieve : Type 0 where
  pub ahead : Queue
  pub passed : Queue

abbrev pub sieve : Queue → Queue → Sieve
sieve a p = record { ahead = a; passed = p }

-- all entries
abbrev pub whole : Sieve → Queue
whole s = s.ahead ++ s.passed

-- all entries with their weights alone
abbrev pub entries : Sieve → Recency
entries s = plain (whole s)

-- room is made for `count` entries of this total weight: while there is none, the hand looks at the entry that it is at, clears
-- its bit if that is set, evicts it if not, and moves to the next newer one, and from the newest to the oldest
pub data MakesRoom (limits : Limits) (size count : ℕ) : Sieve → List CacheEntryKey → Sieve → Type 0 where
  rests : (s : Sieve) → HasRoom limits size count (entries s) ⊎ (whole s ≡ []) → MakesRoom limits size count s [] s
  clears : (s m t : Sieve) (k : CacheEntryKey) (v : Seen) (out : List CacheEntryKey) → ¬ HasRoom limits size count (entries s)
      → s.ahead ≡ m.ahead ++ (k, v) ∷ [] → v.uses ≢ 0 → m.passed ≡ (k, unused v.weight) ∷ s.passed → MakesRoom limits size count m out t → MakesRoom limits size count s out t
  goes : (s m t : Sieve) (k : CacheEntryKey) (v : Seen) (out : List CacheEntryKey) → ¬ HasRoom limits size count (entries s)
      → s.ahead ≡ m.ahead ++ (k, v) ∷ [] → v.uses ≡ 0 → m.passed ≡ s.passed → MakesRoom limits size count m out t → MakesRoom limits size count s (k ∷ out) t
  turns : (s t : Sieve) (out : List CacheEntryKey) → ¬ HasRoom limits size count (entries s)
      → s.ahead ≡ [] → MakesRoom limits size count (sieve s.passed []) out t → MakesRoom limits size count s out t

-- the list with the hand at the entry that it looks at next
abbrev pub turned : Queue → Queue → Sieve
turned [] p = sieve p []
turned (e ∷ a) p = sieve (e ∷ a) p

-- a new entry is added as the newest, with its bit clear
abbrev pub entered : CacheEntryKey → ℕ → Sieve → Sieve
entered k n s = let at = turned s.ahead s.passed in sieve ((k, unused n) ∷ at.ahead) at.passed

-- the list with this record of an entry, wherever it is; and the list without an entry
abbrev pub reseen_in : CacheEntryKey → Seen → Sieve → Sieve
reseen_in k v s = sieve (reseen k v s.ahead) (reseen k v s.passed)

-- the list without an entry
abbrev pub rest_in : CacheEntryKey → Sieve → Sieve
rest_in k s = sieve (rest_of k s.ahead) (rest_of k s.passed)

-- a use sets the bit of an entry, in place
abbrev pub noted : CacheEntryKey → Seen → Sieve → Sieve
noted k v s = if v.uses == 0 then reseen_in k (used v.weight) s else s

-- the order as a manager shows it
abbrev pub sieve_shown : Sieve → Shown
sieve_shown s = queue_shown s.ahead ∷ queue_shown s.passed ∷ []

-- SIEVE as the way of a queue; an entry that is admitted again gets its weight in place, which is a use
abbrev pub sieve_way : Way Sieve
sieve_way = record {
  policy = named.Sieve;
  whole = whole;
  none = sieve [] [];
  shown = sieve_shown;
  MakesRoom = λ limits size count s out t. MakesRoom limits size count s out t;
  is_known = λ k s. false;
  entered = λ known k n s. entered k n s;
  used = noted;
  readmitted = λ k v n s. reseen_in k (used n) s;
  reseen_in = reseen_in;
  rest_in = rest_in;
}

-- SIEVE as a policy
abbrev pub sieve_policy : Policy Sieve
sieve_policy = policy_of sieve_way
