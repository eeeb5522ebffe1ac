-- A step of a sound world leaves it sound.
use Rattle.std.proofs.Common.{option_map}
use Rattle.std.specs.FinMap.{find, get-from_entries}
use Rattle.pcache_history.proofs.WriteLaws.{legal_world}
use Rattle.pcache_world.proofs.Words.{◌≡◌, ℕ, ◌+◌, ◌^◌, ◌<◌, ◌==◌, cond, Option, None, Some, List, [], ◌∷◌, ap, sym, subst, ◌∙◌, refl, arith, length, is_at, nat_cmp_total, FinMap, get, from_entries, same_map, nat_cmp-IsAntisymmetric, lookup, nat_cmp, nat_tests, Tracked, Limits, Locks, Store, Call, Reply, Entry, Event, Ongoing, IsOfOne, untold, read_locks, IsCopy, IsSound, Turn, IsMoved, IsOfWorldIn}
use Rattle.pcache_world.proofs.MovedState.{set_to}
use Rattle.pcache_world.proofs.Opened.{get-set_to}
use Rattle.pcache_world.proofs.ReadLocks.{locks-few}
use Rattle.pcache_world.proofs.Uniform.{call-age, each-call-keeps}
use Rattle.pcache_world.proofs.Untold.{world-told}

-- the requests as entries, and as the map that the entries make
pub find-lookup : (es : List (ℕ × Ongoing)) (q : ℕ) → find nat_cmp q es ≡ lookup (is_at (nat_cmp q)) es
find-lookup [] q = refl
find-lookup (e ∷ es) q = ap (cond (is_at (nat_cmp q) e.0) (Some e.1)) (find-lookup es q)

pub lookup-get : (es : List (ℕ × Ongoing)) (q : ℕ) → lookup (is_at (nat_cmp q)) es ≡ get (from_entries {R = nat_cmp} es) q
lookup-get es q = sym (get-from_entries nat_cmp_total es q ∙ find-lookup es q)

pub at-number : (r q : ℕ) → (r == q) ≡ is_at (nat_cmp r) q
at-number r q = grind (arith, nat_tests)

pub set-at : (all : FinMap nat_cmp Ongoing) (r : ℕ) (o : Option Ongoing) (q : ℕ) → get (set_to all r o) q ≡ cond (is_at (nat_cmp r) q) o (get all q)
set-at all r o q = get-set_to all r o q ∙ ap (λ b. cond b o (get all q)) (at-number r q)

-- if only what is open under one number changes, the entries are the requests with that change
pub entries-after : (before after : List (ℕ × Ongoing)) (n : ℕ) → IsMoved n before after → from_entries {R = nat_cmp} after ≡ set_to (from_entries {R = nat_cmp} before) n (lookup (is_at (nat_cmp n)) after)
entries-after before after n is =
    let now = lookup (is_at (nat_cmp n)) after in
    same_map nat_cmp_total nat_cmp-IsAntisymmetric _ _ (λ q.
    sym (lookup-get after q) ∙ is q ∙ (λ i. cond (is_at (nat_cmp n) q) now (lookup-get before q i)) ∙ sym (set-at (from_entries {R = nat_cmp} before) n now q))

-- a request of a world is one, whatever its read lock was told
pub of-world : (q : Option Ongoing) → IsOfWorldIn (option_map untold q) → IsOfWorldIn q
of-world None h = h
of-world (Some x) h = world-told x.request h

-- what a call names is a request of a world
pub named-world : (limits : Limits) (start m : Tracked) (s : Store) (t : Locks) (before : List (ℕ × Ongoing)) (h : List Entry) → IsSound limits start m s t (from_entries {R = nat_cmp} before) h → (n : ℕ) → IsOfWorldIn (lookup (is_at (nat_cmp n)) before)
named-world limits start m s t before h k n =
    let all = from_entries {R = nat_cmp} before in
    subst IsOfWorldIn (sym (lookup-get before n)) (of-world (get all n) (subst IsOfWorldIn (sym (k.requests n)) (legal_world t.age_timeout limits start h k.legal n)))

-- what a call of a sound world is, by the requests as a map
module _ (limits : Limits) (start m m' : Tracked) (s s' : Store) (t t' : Locks) (before after : List (ℕ × Ongoing)) (h : List Entry) (call : Call) (reply : Reply) (events : List Event) (k : IsSound limits start m s t (from_entries {R = nat_cmp} before) h) (small : length before < 2 ^ 64)
    (one : IsOfOne call.act) (turn : IsOfWorldIn (lookup (is_at (nat_cmp call.request)) before) → Turn limits call.request call.act (lookup (is_at (nat_cmp call.request)) before) s m t reply events (lookup (is_at (nat_cmp call.request)) after) s' m' t') where
  abbrev all : FinMap nat_cmp Ongoing
  all = from_entries {R = nat_cmp} before

  abbrev n : ℕ
  n = call.request

  abbrev q' : Option Ongoing
  q' = lookup (is_at (nat_cmp n)) after

  few : (l : ℕ) → read_locks all l + 1 < 2 ^ 128
  few l = let most = locks-few before l in omega arith

  pub made : Turn limits call.request call.act (get all n) s m t reply events q' s' m' t'
  made =
      let world : IsOfWorldIn (lookup (is_at (nat_cmp n)) before) = named-world limits start m s t before h k n in
      subst (λ o. Turn limits call.request call.act o s m t reply events q' s' m' t') (lookup-get before n) (turn world)

  -- it leaves the world sound, with one more entry in its history; its reply is recorded as it is copied
  pub step_sound : (told : Reply) → IsMoved call.request before after → IsCopy reply told → IsSound limits start m' s' t' (from_entries {R = nat_cmp} after) (record { call = call; reply = told; events = events } ∷ h)
  step_sound told moved copy =
      subst (λ (x : FinMap nat_cmp Ongoing). IsSound limits start m' s' t' x (record { call = call; reply = told; events = events } ∷ h)) (sym (entries-after before after call.request moved))
      (each-call-keeps limits start m m' s s' t t' all h call reply told events q' k few made copy one)

  pub step_age : t'.age_timeout ≡ t.age_timeout
  step_age = call-age limits start m m' s s' t t' all h call reply events q' k few made
