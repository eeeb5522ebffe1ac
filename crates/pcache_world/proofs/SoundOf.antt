-- A legal history, and parts that agree with it, make a sound world: the rest follows from these.
use Rattle.std.proofs.Common.{option_map}
use Rattle.std.proofs.lemmas.Bool.{ne_eqb}
use Rattle.pcache_history.proofs.Due.{AreMade}
use Rattle.pcache_history.proofs.WriteLaws.{legal_kept}
use Rattle.pcache_world.proofs.Words.{◌≡◌, ℕ, ◌+◌, Bool, true, false, cond, ◌==◌, if◌then◌else◌, Option, None, Some, List, refl, ap, sym, ◌∙◌, arith, nat_cmp, eq_by_cmp, nat_cmp_total, FinMap, get, remove, len, get-remove, nat_cmp-IsAntisymmetric, eq-eqb, both_ways, total, share, total-remove, Tracked, Limits, Locks, Store, Entry, Event, in_flight, tracked, option_any, deeds_of, Ongoing, request_of, untold, events_of, makes_of, slot_of, IsLegal, IsTable, read_locks, AllHold, IsState, AreOpen, AreOngoing, IsSound, readers, writers_in, IsLocked, cmp_same, total-zero}
use Rattle.pcache_world.proofs.Counts.{writes-one}

-- Who holds a write.

abbrev count : Bool → ℕ
count b = if b then 1 else 0

one-writer : (w : ℕ) (q : Option Ongoing) → makes_of q ≡ Some w → share (writers_in w) q ≡ 1
one-writer w None h = absurd (cc)
one-writer w (Some x) h = writes-one x w h

no-writer : (w : ℕ) (q : Option Ongoing) → (makes_of q ≡ Some w → ⊥) → share (writers_in w) q ≡ 0
no-writer w None n = refl
no-writer w (Some x) n =
    elim x.request.write as (λ o. x.request.write ≡ o → count (option_any (λ y. y == w) o) ≡ 0) [
      | None ↦ λ _. refl
      | Some y ↦ λ is. ap count (ne_eqb y w (λ same. n (is ∙ ap Some same)))
    ] refl

-- what a read lock was told plays no part
same-writer : (w : ℕ) (q : Option Ongoing) → share (writers_in w) q ≡ share (writers_in w) (option_map untold q)
same-writer w None = refl
same-writer w (Some x) = refl

held_by_one : (es : List Event) (all : FinMap nat_cmp Ongoing) (open_of : ℕ → Option Ongoing) (slots : ℕ → Option ℕ) → ((r : ℕ) → option_map untold (get all r) ≡ open_of r) → AreMade (λ r. makes_of (open_of r)) slots es → AreOngoing es all
held_by_one es all open_of slots is made w =
    elim (in_flight w es) as (λ b. in_flight w es ≡ b → total (writers_in w) all ≡ count b) [
      | true ↦ λ fly.
          let p = made.some w fly in
          let one = writer-at p.0 ∙ one-writer w (open_of p.0) p.1 in
          let split : total (writers_in w) (remove all p.0) + share (writers_in w) (get all p.0) ≡ total (writers_in w) all = total-remove nat_cmp_total (writers_in w) nat_cmp-IsAntisymmetric all p.0 in
          let rest : total (writers_in w) (remove all p.0) ≡ 0 = total-zero (writers_in w) (len (remove all p.0)) (remove all p.0) refl (λ q. others p.0 p.1 q) in
          omega arith
      | false ↦ λ none. total-zero (writers_in w) (len all) all refl (λ q. writer-at q ∙ no-writer w (open_of q) (λ h. both_ways _ none (made.flies q w h)))
    ] refl
  where
    writer-at : (q : ℕ) → share (writers_in w) (get all q) ≡ share (writers_in w) (open_of q)
    writer-at q = same-writer w (get all q) ∙ ap (share (writers_in w)) (is q)

    others : (r : ℕ) → makes_of (open_of r) ≡ Some w → (q : ℕ) → share (writers_in w) (get (remove all r) q) ≡ 0
    others r has q =
        ap (share (writers_in w)) (get-remove nat_cmp_total all r q)
        ∙ elim (eq_by_cmp nat_cmp q r) as (λ b. eq_by_cmp nat_cmp q r ≡ b → share (writers_in w) (cond b None (get all q)) ≡ 0) [
          | true ↦ λ _. refl
          | false ↦ λ f. writer-at q ∙ no-writer w (open_of q) (λ h. both_ways _ f (cmp_same q r ∙ eq-eqb r q (sym (made.only q r w h has))))
        ] refl

pub sound-of : (limits : Limits) (start now : Tracked) (s : Store) (t : Locks) (all : FinMap nat_cmp Ongoing) (h : List Entry) → IsLegal t.age_timeout limits start h → now ≡ tracked start (events_of h) → IsState (events_of h) (readers all) s → AreOpen h all → IsLocked (events_of h) t
    → IsTable (deeds_of h) (read_locks all) t → AllHold (deeds_of h) t all → IsSound limits start now s t all h
sound-of limits start now s t all h l is state are locks table holds =
    let k = legal_kept t.age_timeout limits start h l in
    record { legal = l; tidy = k.tidy; state = state; tracks = is; exact = k.exact; bounded = k.bounded; requests = are; writes = held_by_one (events_of h) all (λ r. request_of r h) (λ r. slot_of (request_of r h)) are k.made; locks = locks; table = table; holds = holds }
