-- Several caches, each with the keys that go to it, and one behind them (own; which node a key goes to is said in Nodes of rendezvous).
use Rattle.std.specs.Prelude.{◌≡◌, ◌≢◌, ℕ, ◌<◌, ◌==◌, nat_lt, Bool, false, not, if◌then◌else◌, Option, None, Some, List, [], ◌++◌, map, length, get_or}
use Rattle.std.specs.List.{filter_map}
use Rattle.rendezvous.specs.Nodes.{GoesTo}
use Rattle.cache_simulation.specs.declared.cache.Cache.{Cache}
use Rattle.cache_simulation.specs.declared.cache.Told.{Told}
use Rattle.cache_simulation.specs.declared.options.Policy.{Policy as Named}
use Rattle.cache_simulation.specs.declared.options.Setting.{Setting}
use Rattle.cache_simulation.specs.declared.run.Request.{Request}
use Rattle.cache_simulation.specs.declared.tiers.Tiers.{Tiers}
use Rattle.cache_simulation.specs.Caches.{StandsIn, Ran, rules_in, start_in, shape_of, counts_of}

-- a request that was made: the node that got it, if there was one, and whether it was made to the shield
pub record Visit : Type 0 where
  pub request : Request
  pub node : Option ℕ
  pub is_behind : Bool

abbrev pub is_at : ℕ → Option ℕ → Bool
is_at n None = false
is_at n (Some m) = m == n

-- the requests that a node got, and those that the shield got
abbrev pub at_node : ℕ → List Visit → List Request
at_node n visits = filter_map (λ (v : Visit). if is_at n v.node then Some v.request else None) visits

abbrev pub behind : List Visit → List Request
behind visits = filter_map (λ (v : Visit). if v.is_behind then Some v.request else None) visits

-- a cache of this policy and size has served these requests alone
pub record Got (setting : Setting) (policy : Named) (size : ℕ) (asked : List Request) (c : Cache) : Type 0 where
  pub stands : StandsIn setting [] asked c
  pub shape : shape_of c ≡ (policy, size)

-- each node has served the requests that are its own, and the shield these
pub record HasServed (own : ℕ → List Request) (asked : List Request) (t : Tiers) : Type 0 where
  pub nodes : (n : ℕ) (d : Cache) → n < length t.nodes.items → Got t.setting t.policy t.size (own n) (get_or t.nodes.items n d)
  pub shield : (c : Cache) → t.shield ≡ Some c → Got t.setting t.policy c.size asked c

-- after these visits
abbrev pub HasHad : List Visit → Tiers → Type 0
HasHad visits t = HasServed (λ n. at_node n visits) (behind visits) t

-- the node that a key goes to, of those that are there
abbrev pub IsNodeOf : ℕ → List ℕ → Option ℕ → Type 0
IsNodeOf hash there None = there ≡ []
IsNodeOf hash there (Some n) = GoesTo hash there n

-- how many hits a cache has counted, and one of several
abbrev pub hits_in : Cache → ℕ
hits_in c = (counts_of c.run).hits

abbrev pub hits_at : ℕ → List Cache → ℕ
hits_at n nodes = get_or (map hits_in nodes) n 0

-- whether a node answered: it has more hits than before
abbrev pub has_answered : Option ℕ → List Cache → List Cache → Bool
has_answered None old new = false
has_answered (Some n) old new = nat_lt (hits_at n old) (hits_at n new)

-- a request with this hash was made to the node that its key goes to, and to the shield if that did not answer it
pub record IsVisit (hash : ℕ) (asked : Request) (old new : Tiers) (v : Visit) : Type 0 where
  pub request : v.request ≡ asked
  pub node : IsNodeOf hash old.there.items v.node
  pub answered : v.is_behind ≡ not (has_answered v.node old.nodes.items new.nodes.items)

-- a cache had these requests made to it after those that it had
pub record Makes (requests : List Request) (old new : Cache) : Type 0 where
  pub serves : (setting : Setting) (before asked : List Request) → StandsIn setting before asked old → StandsIn setting before (asked ++ requests) new
  pub shape : shape_of new ≡ shape_of old

-- one of several caches had; the others stay
pub record MakesAt (n : ℕ) (requests : List Request) (old new : List Cache) : Type 0 where
  pub long : length new ≡ length old
  pub own : (d : Cache) → Makes requests (get_or old n d) (get_or new n d)
  pub others : (m : ℕ) (d : Cache) → m ≢ n → get_or new m d ≡ get_or old m d

-- the requests of a node, and one more if it is this one
abbrev pub one_more : ℕ → List Request → (ℕ → List Request) → ℕ → List Request
one_more n more own m = if n == m then own m ++ more else own m

-- a node tells what the plain run of its policy gives of its requests
abbrev pub Tells : Setting → Named → ℕ → List Request → Told → Type 0
Tells setting policy size asked told = (told.policy ≡ policy) × Ran [] asked (rules_in policy setting size) (start_in setting) told

-- each node does, of the requests that it got
pub record TellEach (visits : List Visit) (t : Tiers) (told : List Told) : Type 0 where
  pub long : length told ≡ length t.nodes.items
  pub each : (n : ℕ) (d : Told) → n < length told → Tells t.setting t.policy t.size (at_node n visits) (get_or told n d)
