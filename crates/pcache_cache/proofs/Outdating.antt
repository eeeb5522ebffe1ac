-- A purge outdates each fetch that began before it.
use Rattle.std.proofs.Math.Bool.{or-true}
use Rattle.std.proofs.Math.Nat.{mod-lt}
use Rattle.std.proofs.lemmas.Bool.Decides.{nat_tests}
use Rattle.std.proofs.lemmas.List.{get_or-set_other, get_or-set_same, length-replicate, length-set}
use Rattle.std.specs.Prelude.{zero, suc, ◌||◌, ◌^◌, ◌-◌, ◌<◌, replicate, slice_index}
use Rattle.pcache_base.specs.Key.{slot}
use Rattle.pcache_cache.specs.Fetching.{AreCounted, FetchNote, PurgesSeen, fetch_begun, is_after, is_outdated, no_purges, place_of, purge_counted, purge_seen, purged_since, purges_before, url_slot}
use Rattle.pcache_cache.proofs.Words.{◌≡◌, ◌≢◌, ◌==◌, ◌≤◌, ℕ, Bool, true, false, cond, Option, None, Some, Key, arith, refl, ap, sym, subst, ◌∙◌, eq-eqb, eqb-true, both_ways}

in_place : (slot : ℕ) → place_of slot < 1024
in_place slot = mod-lt slot (omega arith)

-- the count after one more purge is after all counts until then
after_all : (before count : ℕ) → before ≤ count → is_after before (purge_counted count) ≡ true
after_all before count le = grind (arith, nat_tests)

still_after : (purges last count : ℕ) → last ≤ count → count ≤ 2 ^ 64 - 1 → is_after purges last ≡ true → is_after purges (purge_counted count) ≡ true
still_after purges last count le most is = grind (arith, nat_tests)

-- the place of the slot that was purged has the new count, and each other one the old
own_place : (p : PurgesSeen) (purged next : ℕ) → AreCounted p → slice_index (purge_seen purged next p).last (place_of purged) ≡ purge_counted p.count
own_place p purged next counted = get_or-set_same p.last (place_of purged) (purge_counted p.count) 0 (subst (λ n. place_of purged < n) (sym counted.places) (in_place purged))

other_place : (p : PurgesSeen) (purged next place : ℕ) → place ≢ place_of purged → slice_index (purge_seen purged next p).last place ≡ slice_index p.last place
other_place p purged next place ne = get_or-set_other p.last (place_of purged) place (purge_counted p.count) 0 ne

grows : (count : ℕ) → count ≤ 2 ^ 64 - 1 → count ≤ purge_counted count
grows count most = grind (arith)

bounded : (count : ℕ) → purge_counted count ≤ 2 ^ 64 - 1
bounded count = grind (arith)

-- what holds of a place that is the purged one, and of each other
by_place : {P : Type 0} (place purged : ℕ) → (place ≡ purged → P) → (place ≢ purged → P) → P
by_place {P} place purged f g =
    elim (place == purged) as (λ b. (place == purged) ≡ b → P) [
      | true ↦ λ e. f (eqb-true place purged e)
      | false ↦ λ e. g (λ same. both_ways _ e (eq-eqb place purged same))
    ] refl

since_stays : (p : PurgesSeen) (purged next purges slot : ℕ) → AreCounted p → purged_since purges slot p ≡ true → purged_since purges slot (purge_seen purged next p) ≡ true
since_stays p purged next purges slot counted is =
    by_place (place_of slot) (place_of purged)
    (λ same. ap (λ n. is_after purges (slice_index (purge_seen purged next p).last n)) same ∙ ap (is_after purges) (own_place p purged next counted) ∙ still_after purges (slice_index p.last (place_of slot)) p.count (counted.last (place_of slot)) counted.most is)
    (λ other. ap (is_after purges) (other_place p purged next (place_of slot) other) ∙ is)

or_stays : (a b x y : Bool) → (a ≡ true → x ≡ true) → (b ≡ true → y ≡ true) → (a || b) ≡ true → (x || y) ≡ true
or_stays true b x y f g is = ap (λ z. z || y) (f refl)
or_stays false b x y f g is = ap (λ z. x || z) (g is) ∙ or-true x

pub stays_outdated : (fetch : Option FetchNote) (k : Option Key) (seen : PurgesSeen) (purged next : ℕ) → AreCounted seen → is_outdated fetch k seen ≡ true → is_outdated fetch k (purge_seen purged next seen) ≡ true
stays_outdated fetch None seen purged next counted is = is
stays_outdated fetch (Some k) seen purged next counted is =
    let n = purges_before fetch (url_slot k) in
    or_stays (purged_since n (slot k) seen) (purged_since n (url_slot k) seen) _ _ (since_stays seen purged next n (slot k) counted) (since_stays seen purged next n (url_slot k) counted) is

-- a fetch of a key that began with so many purges, and a purge of a slot
since_purged : (k : Key) (before seen : PurgesSeen) (purged next : ℕ) → before.count ≤ seen.count → AreCounted seen → purged_since (purges_before (fetch_begun (Some k) before) (url_slot k)) purged (purge_seen purged next seen) ≡ true
since_purged k before seen purged next le counted =
    ap (λ b. is_after (cond b before.count 0) (slice_index (purge_seen purged next seen).last (place_of purged))) (eq-eqb (url_slot k) (url_slot k) refl)
    ∙ ap (is_after before.count) (own_place seen purged next counted)
    ∙ after_all before.count seen.count le

pub key_outdated : (k : Key) (before seen : PurgesSeen) (next : ℕ) → before.count ≤ seen.count → AreCounted seen → is_outdated (fetch_begun (Some k) before) (Some k) (purge_seen (slot k) next seen) ≡ true
key_outdated k before seen next le counted =
    ap (λ a. a || purged_since (purges_before (fetch_begun (Some k) before) (url_slot k)) (url_slot k) (purge_seen (slot k) next seen)) (since_purged k before seen (slot k) next le counted)

pub url_outdated : (k : Key) (before seen : PurgesSeen) (next : ℕ) → before.count ≤ seen.count → AreCounted seen → is_outdated (fetch_begun (Some k) before) (Some k) (purge_seen (url_slot k) next seen) ≡ true
url_outdated k before seen next le counted =
    let a = purged_since (purges_before (fetch_begun (Some k) before) (url_slot k)) (slot k) (purge_seen (url_slot k) next seen) in
    ap (λ b. a || b) (since_purged k before seen (url_slot k) next le counted) ∙ or-true a

pub none_counted : AreCounted no_purges
none_counted = record { places = length-replicate {A = ℕ} 1024 0; last = λ place. none place; most = omega arith }
  where
    zeros : (n place : ℕ) → slice_index (replicate n 0) place ≡ 0
    zeros zero place = refl
    zeros (suc n) zero = refl
    zeros (suc n) (suc place) = zeros n place

    none : (place : ℕ) → slice_index (replicate 1024 0) place ≤ 0
    none place = subst (λ n. n ≤ 0) (sym (zeros 1024 place)) (omega arith)

pub more_counted : (seen : PurgesSeen) (purged next : ℕ) → AreCounted seen → AreCounted (purge_seen purged next seen) × (seen.count ≤ (purge_seen purged next seen).count)
more_counted seen purged next counted = (
  record {
    places = length-set seen.last (place_of purged) (purge_counted seen.count) ∙ counted.places;
    last = λ place. by_place place (place_of purged)
        (λ same. subst (λ n. n ≤ purge_counted seen.count) (sym (ap (slice_index (purge_seen purged next seen).last) same ∙ own_place seen purged next counted)) (omega arith))
        (λ other. subst (λ n. n ≤ purge_counted seen.count) (sym (other_place seen purged next place other)) (let h = counted.last place in let g = grows seen.count counted.most in omega (arith, h, g)));
    most = bounded seen.count;
  },
  grows seen.count counted.most,
)
