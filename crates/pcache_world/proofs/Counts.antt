-- How many readers a write has, once a request was set or removed, and that a write which a request holds is in flight.
use Rattle.pcache_store.specs.Store.{Reader}
use Rattle.pcache_world.proofs.Words.{◌≡◌, ℕ, ◌+◌, ◌≤◌, ◌==◌, if◌then◌else◌, true, false, Some, List, refl, ap, subst, ◌∙◌, arith, nat_cmp, nat_cmp_total, FinMap, empty, get, insert, remove, nat_cmp-IsAntisymmetric, share, total-insert, total-remove, total-empty, Event, in_flight, option_any, Ongoing, follows, readers_in, readers, writers_in, writers, AreOngoing, same-number}

pub readers-none : (w : ℕ) → readers empty w ≡ 0
readers-none w = total-empty nat_cmp_total (readers_in w)

-- a request that holds the write counts once
pub writes-one : (x : Ongoing) (w : ℕ) → x.request.write ≡ Some w → writers_in w x ≡ 1
writes-one x w e = ap (λ o. if option_any (λ q. q == w) o then 1 else 0) e ∙ ap (λ b. if b then 1 else 0) (same-number w)

module _ (all : FinMap nat_cmp Ongoing) (r : ℕ) where
  pub readers-insert : (x : Ongoing) (w : ℕ) → readers (insert all r x) w + share (readers_in w) (get all r) ≡ readers all w + readers_in w x
  readers-insert x w = total-insert nat_cmp_total (readers_in w) all r x

  pub readers-remove : (w : ℕ) → readers (remove all r) w + share (readers_in w) (get all r) ≡ readers all w
  readers-remove w = total-remove nat_cmp_total (readers_in w) nat_cmp-IsAntisymmetric all r

  writers-remove : (w : ℕ) → writers (remove all r) w + share (writers_in w) (get all r) ≡ writers all w
  writers-remove w = total-remove nat_cmp_total (writers_in w) nat_cmp-IsAntisymmetric all r

  -- a request that is there
  module _ (old : Ongoing) (is : get all r ≡ Some old) where
    pub readers-gone : (w : ℕ) → readers (remove all r) w + readers_in w old ≡ readers all w
    readers-gone w = subst (λ o. readers (remove all r) w + share (readers_in w) o ≡ readers all w) is (readers-remove w)

    pub writers-gone : (w : ℕ) → writers (remove all r) w + writers_in w old ≡ writers all w
    writers-gone w = subst (λ o. writers (remove all r) w + share (writers_in w) o ≡ writers all w) is (writers-remove w)

    pub reader-counted : (w : ℕ) → readers_in w old ≤ readers all w
    reader-counted w = let e = readers-gone w in omega arith

    pub reader-follows : (rd : Reader) → old.request.reader ≡ Some rd → (w : ℕ) → follows w (Some rd) ≤ readers all w
    reader-follows rd e w =
        let h : follows w old.request.reader ≡ follows w (Some rd) = ap (follows w) e in
        let c = reader-counted w in
        omega arith

    pub writer-counted : (w : ℕ) → old.request.write ≡ Some w → 1 ≤ writers all w
    writer-counted w e = let one = writes-one old w e in let c = writers-gone w in omega arith

    -- the write that it holds is in flight
    pub write-flies : (es : List Event) → AreOngoing es all → (w : ℕ) → old.request.write ≡ Some w → in_flight w es ≡ true
    write-flies es held w e =
        let one = writer-counted w e in
        elim (in_flight w es) as (λ b. writers all w ≡ (if b then 1 else 0) → b ≡ true) [ true ↦ λ _. refl | false ↦ λ h. absurd (omega arith) ] (held w)
