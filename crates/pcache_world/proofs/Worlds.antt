-- A world at its start, and after one more call.
use Rattle.std.proofs.Common.{option_map}
use Rattle.pcache_history.specs.declared.call.Act.{Act}
use Rattle.pcache_put.specs.Puts.{Says}
use Rattle.pcache_world.specs.Handing.{Acts}
use Rattle.pcache_world.proofs.Words.{◌≡◌, ℕ, ◌<◌, ◌^◌, length, Option, None, Some, List, [], ◌∷◌, ◌++◌, refl, ap, sym, subst, ◌∙◌, inl, reverse, false, IsSome, both_ways, reverse-append, nat_cmp, FinMap, empty, from_entries, get-empty, Evicted, Tracked, Limits, CacheEntryKey, Locks, no_locks, Store, Call, Reply, Entry, Event, evicted_by, tracked, request_in, events_of, AddsEvicted, facts_for, facts_in, of_one, of_two, open_at, taker_at, Ongoing, IsTable, read_locks, started, IsCopy, HasSome, PutTurn, PutsSound, IsSound, readers}
use Rattle.pcache_history.specs.declared.call.Act.TheVariants as C
use Rattle.pcache_world.proofs.Counts.{readers-none}
use Rattle.pcache_world.proofs.Evicting.{added}
use Rattle.pcache_world.proofs.Handing.{give_age, give_sound, hands-by-map}
use Rattle.pcache_world.proofs.LockTable.{table-none}
use Rattle.pcache_world.proofs.Opened.{open-none}
use Rattle.pcache_world.proofs.PutSound.{has-some, puts-after, puts-given}
use Rattle.pcache_world.proofs.ReadLocks.{locks-none}
use Rattle.pcache_world.proofs.SoundOf.{sound-of}
use Rattle.pcache_world.proofs.States.{state-none, state-same}
use Rattle.pcache_world.proofs.Turned.{entries-after, lookup-get, made, named-world, step_age, step_sound}
use Rattle.pcache_world.proofs.Waiting.{locked-none}

-- with an empty history, no requests and an empty store a world is sound, whatever the manager holds
sound-empty : (limits : Limits) (start : Tracked) (s : Store) (t : Locks) (age : ℕ) → s ≡ record { slots = empty; writes = empty; next = 0; newest = false } → t ≡ no_locks age → IsSound limits start start s t empty []
sound-empty limits start s t age is unlocked =
    sound-of limits start start s t empty [] tt refl
    (state-same [] (λ _. 0) (readers empty) s (λ w. sym (readers-none w)) (state-none s (ap (λ (t : Store). t.slots) is) (ap (λ (t : Store). t.writes) is) (ap (λ (t : Store). t.next) is) (ap (λ (t : Store). t.newest) is)))
    open-none (locked-none age t unlocked)
    (subst (IsTable [] (read_locks empty)) (sym unlocked) (subst (λ f. IsTable [] f (no_locks age)) (λ i l. sym (locks-none l) i) (table-none age)))
    (λ r x is. let no : ◌≡◌ {A = Option Ongoing} None (Some x) = sym (get-empty nat_cmp r) ∙ is in absurd (cc))

pub sound-new : (limits : Limits) (start : Tracked) (s : Store) (t : Locks) (age : ℕ) (all : List (ℕ × Ongoing)) (h : List Entry) → s ≡ record { slots = empty; writes = empty; next = 0; newest = false } → t ≡ no_locks age → all ≡ [] → h ≡ []
    → IsSound limits start start s t (from_entries {R = nat_cmp} all) (reverse h)
sound-new limits start s t age all h is unlocked none new =
    subst (λ (es : List (ℕ × Ongoing)). IsSound limits start start s t (from_entries {R = nat_cmp} es) (reverse h)) (sym none)
    (subst (λ (xs : List Entry). IsSound limits start start s t empty (reverse xs)) (sym new) (sound-empty limits start s t age is unlocked))

-- the same parts, whose start and history are in another form
pub sound-same : (limits : Limits) (start start' m : Tracked) (s : Store) (t : Locks) (all : FinMap nat_cmp Ongoing) (h h' : List Entry) → IsSound limits start m s t all (reverse h) → start' ≡ start → h' ≡ h → IsSound limits start' m s t all (reverse h')
sound-same limits start start' m s t all h h' k first is = subst (λ (first : Tracked). IsSound limits first m s t all (reverse h')) (sym first) (subst (λ (xs : List Entry). IsSound limits start m s t all (reverse xs)) (sym is) k)

-- the same of a store and a lock table that are equal to these
pub sound-at : {limits : Limits} {start m : Tracked} {s s' : Store} {t t' : Locks} {all : FinMap nat_cmp Ongoing} {h : List Entry} → IsSound limits start m s t all h → s' ≡ s → t' ≡ t → IsSound limits start m s' t' all h
sound-at {limits} {start} {m} {s} {s'} {t} {t'} {all} {h} k store table =
    subst (λ (u : Store). IsSound limits start m u t' all h) (sym store) (subst (λ (u : Locks). IsSound limits start m s u all h) (sym table) k)

-- what was taken down at the start is told of no manager
pub started-once : {V : Type 0} (f : V → List (CacheEntryKey × ℕ)) (o : Option V) (m n : Tracked) → IsSome o → started (option_map f o) m ≡ started (option_map f o) n
started-once f None m n some = absurd (both_ways false refl some)
started-once f (Some all) m n some = refl

-- one more call, of one request or put, or of two requests, whose reply is recorded as it is copied
module _ (limits : Limits) (says : Says) (start m m' : Tracked) (s s' : Store) (t t' : Locks) (before after : List (ℕ × Ongoing)) (h : List Entry) (call : Call) (reply told : Reply) (events : List Event) (k : IsSound limits start m s t (from_entries {R = nat_cmp} before) h) (puts : PutsSound says (from_entries {R = nat_cmp} before) h)
    (small : length before < 2 ^ 64) (copy : IsCopy reply told) where
  some : HasSome says s (open_at call.request before)
  some = has-some limits start m s t says before h call.request k puts

  acts-sound : Acts limits says call before s m t reply events after s' m' t' → IsSound limits start m' s' t' (from_entries {R = nat_cmp} after) (record { call = call; reply = told; events = events } ∷ h)
  acts-sound (of_one one turn put moved) = step_sound limits start m m' s s' t t' before after h call reply events k small one (λ w. turn w some) told moved copy
  acts-sound (of_two to is hands same kept) =
      subst (λ (c : Act). IsSound limits start m' s' t' (from_entries {R = nat_cmp} after) (record { call = record { request = call.request; act = c }; reply = told; events = events } ∷ h)) (sym is)
      (subst (λ (x : Store). IsSound limits start m' x t' (from_entries {R = nat_cmp} after) (record { call = record { request = call.request; act = C.Give to }; reply = told; events = events } ∷ h)) (sym same)
      (subst (λ (x : Tracked). IsSound limits start x s t' (from_entries {R = nat_cmp} after) (record { call = record { request = call.request; act = C.Give to }; reply = told; events = events } ∷ h)) (sym kept)
      (give_sound limits start m s t t' before after h call.request to reply events k small hands told copy)))

  acts-puts : Acts limits says call before s m t reply events after s' m' t' → PutsSound says (from_entries {R = nat_cmp} after) (record { call = call; reply = told; events = events } ∷ h)
  acts-puts (of_one one turn put moved) =
      let n = call.request in
      let all : FinMap nat_cmp Ongoing = from_entries {R = nat_cmp} before in
      let q' = open_at n after in
      let now = (made limits start m m' s s' t t' before after h call reply events k small one (λ w. turn w some)).now in
      subst (λ (x : FinMap nat_cmp Ongoing). PutsSound says x (record { call = call; reply = told; events = events } ∷ h)) (sym (entries-after before after call.request moved))
      (puts-after says all h n call.act reply told events q' puts k.requests (subst (λ p. PutTurn says call.act reply events p q') (lookup-get before n) put) now copy)
  acts-puts (of_two to is hands same kept) =
      subst (λ (c : Act). PutsSound says (from_entries {R = nat_cmp} after) (record { call = record { request = call.request; act = c }; reply = told; events = events } ∷ h)) (sym is)
      (puts-given says (from_entries {R = nat_cmp} before) (from_entries {R = nat_cmp} after) h call.request to reply told events puts k.requests (hands-by-map limits start m s t t' before after h call.request to reply events k small hands).requests)

  -- and the totals grow by what it evicted
  acts-evicted : (v v' : Evicted) → Acts limits says call before s m t reply events after s' m' t' → AddsEvicted call.act (open_at call.request before) m v events v' → v' ≡ evicted_by m v events
  acts-evicted v v' (of_one one turn put moved) adds =
      let n = call.request in
      let world = named-world limits start m s t before h k n in
      added m v (facts_in s t (request_in (open_at n before))) call.act (open_at n before) reply events v' world (turn world some).answers adds
  acts-evicted v v' (of_two to is hands same kept) adds =
      let n = call.request in
      let q = open_at n before in
      added m v (facts_for s t (request_in q) (taker_at n to (λ r. open_at r before))) (C.Give to) q reply events v' (named-world limits start m s t before h k n) (hands.answers s) (subst (λ (a : Act). AddsEvicted a q m v events v') is adds)

  acts-age : Acts limits says call before s m t reply events after s' m' t' → t'.age_timeout ≡ t.age_timeout
  acts-age (of_one one turn put moved) = step_age limits start m m' s s' t t' before after h call reply events k small one (λ w. turn w some)
  acts-age (of_two to is hands same kept) = give_age limits start m s t t' before after h call.request to reply events k small hands

pub sound-step : (limits limits' : Limits) (says : Says) (start start' m m' : Tracked) (s s' : Store) (t t' : Locks) (before after : List (ℕ × Ongoing)) (h h' : List Entry) (call : Call) (reply told : Reply) (events : List Event)
    → IsSound limits start m s t (from_entries {R = nat_cmp} before) (reverse h) → PutsSound says (from_entries {R = nat_cmp} before) (reverse h) → length before < 2 ^ 64
    → Acts limits says call before s m t reply events after s' m' t' → IsCopy reply told
    → limits' ≡ limits → start' ≡ start → h' ≡ h ++ record { call = call; reply = told; events = events } ∷ []
    → IsSound limits' start' m' s' t' (from_entries {R = nat_cmp} after) (reverse h')
sound-step limits limits' says start start' m m' s s' t t' before after h h' call reply told events k puts small acts copy same first is =
    let entry : Entry = record { call = call; reply = told; events = events } in
    let more = acts-sound limits says start m m' s s' t t' before after (reverse h) call reply told events k puts small copy acts in
    let turned : reverse h' ≡ entry ∷ reverse h = ap reverse is ∙ reverse-append h (entry ∷ []) in
    subst (λ (l : Limits). IsSound l start' m' s' t' (from_entries {R = nat_cmp} after) (reverse h')) (sym same)
    (subst (λ (first : Tracked). IsSound limits first m' s' t' (from_entries {R = nat_cmp} after) (reverse h')) (sym first)
    (subst (λ (xs : List Entry). IsSound limits start m' s' t' (from_entries {R = nat_cmp} after) xs) (sym turned) more))

-- and what it keeps of its puts
pub puts-step : (limits : Limits) (says : Says) (start m m' : Tracked) (s s' : Store) (t t' : Locks) (before after : List (ℕ × Ongoing)) (h h' : List Entry) (call : Call) (reply told : Reply) (events : List Event)
    → IsSound limits start m s t (from_entries {R = nat_cmp} before) (reverse h) → PutsSound says (from_entries {R = nat_cmp} before) (reverse h) → length before < 2 ^ 64
    → Acts limits says call before s m t reply events after s' m' t' → IsCopy reply told
    → h' ≡ h ++ record { call = call; reply = told; events = events } ∷ [] → PutsSound says (from_entries {R = nat_cmp} after) (reverse h')
puts-step limits says start m m' s s' t t' before after h h' call reply told events k puts small acts copy is =
    let entry : Entry = record { call = call; reply = told; events = events } in
    let turned : reverse h' ≡ entry ∷ reverse h = ap reverse is ∙ reverse-append h (entry ∷ []) in
    subst (λ (xs : List Entry). PutsSound says (from_entries {R = nat_cmp} after) xs) (sym turned) (acts-puts limits says start m m' s s' t t' before after (reverse h) call reply told events k puts small copy acts)

-- the events say what was evicted in all
pub evicted-step : (limits : Limits) (says : Says) (start m m' : Tracked) (s s' : Store) (t t' : Locks) (before after : List (ℕ × Ongoing)) (h : List Entry) (call : Call) (reply : Reply) (events : List Event) (v v' : Evicted)
    → IsSound limits start m s t (from_entries {R = nat_cmp} before) (reverse h) → PutsSound says (from_entries {R = nat_cmp} before) (reverse h) → length before < 2 ^ 64
    → Acts limits says call before s m t reply events after s' m' t' → AddsEvicted call.act (open_at call.request before) m v events v' → v' ≡ evicted_by (tracked start (events_of (reverse h))) v events
evicted-step limits says start m m' s s' t t' before after h call reply events v v' k puts small acts adds =
    acts-evicted limits says start m m' s s' t t' before after (reverse h) call reply reply events k puts small (inl refl) v v' acts adds ∙ ap (λ x. evicted_by x v events) k.tracks

-- after how long permits are too old stays as it is
pub same-age : (limits : Limits) (says : Says) (start m m' : Tracked) (s s' : Store) (t t' : Locks) (before after : List (ℕ × Ongoing)) (h : List Entry) (call : Call) (reply : Reply) (events : List Event)
    → IsSound limits start m s t (from_entries {R = nat_cmp} before) (reverse h) → PutsSound says (from_entries {R = nat_cmp} before) (reverse h) → length before < 2 ^ 64
    → Acts limits says call before s m t reply events after s' m' t' → t'.age_timeout ≡ t.age_timeout
same-age limits says start m m' s s' t t' before after h call reply events k puts small acts = acts-age limits says start m m' s s' t t' before after (reverse h) call reply reply events k puts small (inl refl) acts
