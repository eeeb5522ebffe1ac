-- What is stored stays within the limits.
use Rattle.std.specs.Option.{option_map, unwrap_or}
use Rattle.std.specs.List.{AllByRecursion, IsDistinct, sum_by}
use Rattle.std.proofs.lemmas.List.Sums.{sum_by-cons, sum_by-le-sum_by}
use Rattle.std.proofs.lemmas.Map.Keys.{IsDistinct-cons}
use Rattle.pcache_base.proofs.Totals.{sum-le-total, len-total}
use Rattle.pcache_evict.specs.declared.eviction.entry_key.CacheEntryKey.TheVariants.{KeyOnly, Identified}
use Rattle.pcache_evict.specs.Tracked.{IsWithin, weight}
use Rattle.pcache_base.specs.CompactKey.{compact_slot}
use Rattle.pcache_history.specs.declared.entry.Event.TheVariants.{Read}
use Rattle.pcache_history.specs.Events.{with_key, finished_keys, stored, slots}
use Rattle.pcache_history.proofs.Words.{◌≡◌, ◌≢◌, ℕ, ◌≤◌, Bool, true, false, ◌&&◌, ◌==◌, if◌then◌else◌, Option, None, Some, is_some, List, [], ◌∷◌, refl, ap, sym, subst, ◌∙◌, arith, IfSome, list_any, nat_cmp, eq_by_cmp, eqb-true, eq-eqb, both_ways, or_parts, and_parts, Meta, expired_at, in_place_of, total, share, CacheEntryKey, entry_cmp, entries_total, id_of, Tracked, Limits, exact_entries, Stored, Event, Look, Ask, Access, Begin, Wrote, Finish, Dropped, Release, LetGo, Aged, Admit, Purge, Expire, Renew, Untrack, begun, begin_of, names_slot, is_removed, in_flight, body_of, complete, tracked, stored_size, IsTidy, IsExact, IsBounded, standing_entry}
use Rattle.std.specs.FinMap as map
use Rattle.pcache_history.proofs.Steps.{complete-wrote, complete-begin, complete-purge, complete-expire, complete-renew, complete-finish, body_with, altered_body}
use Rattle.pcache_history.proofs.Tidy.{tidy-finish}
use Rattle.pcache_history.proofs.Exact.{apart, standing-numbered}
use Rattle.pcache_history.proofs.Sums.{cmp_same}

-- The keys of finished writes are each there once.

none_same : (k : ℕ) (ks : List ℕ) → list_any (λ q. q == k) ks ≡ false → AllByRecursion (λ y. eq_by_cmp nat_cmp k y ≡ false) ks
none_same k [] h = tt
none_same k (q ∷ ks) h = let p = or_parts (q == k) (list_any (λ q. q == k) ks) h in (cmp_same k q ∙ p.0, none_same k ks p.1)

distinct-with : (o : Option ℕ) (ks : List ℕ) → IsDistinct (eq_by_cmp nat_cmp) ks → IsDistinct (eq_by_cmp nat_cmp) (with_key o ks)
distinct-with None ks d = d
distinct-with (Some k) ks d =
    elim (list_any (λ q. q == k) ks) as (λ b. list_any (λ q. q == k) ks ≡ b → IsDistinct (eq_by_cmp nat_cmp) (if b then ks else k ∷ ks)) [
      | true ↦ λ _. d
      | false ↦ λ none. IsDistinct-cons (eq_by_cmp nat_cmp) k ks (none_same k ks none) d
    ] refl

nil_distinct : IsDistinct (eq_by_cmp nat_cmp) []
unfolding IsDistinct
nil_distinct = tt

pub keys_distinct : (es : List Event) → IsDistinct (eq_by_cmp nat_cmp) (finished_keys es)
keys_distinct [] = nil_distinct
keys_distinct (Finish w true ∷ es) = distinct-with (option_map (λ (b : ℕ × Meta). b.0) (begin_of w es)) (finished_keys es) (keys_distinct es)
keys_distinct (Finish w false ∷ es) = keys_distinct es
keys_distinct (Look k a ∷ es) = keys_distinct es
keys_distinct (Ask k n b ∷ es) = keys_distinct es
keys_distinct (Access e n ∷ es) = keys_distinct es
keys_distinct (Begin w k m ∷ es) = keys_distinct es
keys_distinct (Wrote w bs eof ∷ es) = keys_distinct es
keys_distinct (Dropped w ∷ es) = keys_distinct es
keys_distinct (Release n ∷ es) = keys_distinct es
keys_distinct (LetGo n ∷ es) = keys_distinct es
keys_distinct (Aged n ∷ es) = keys_distinct es
keys_distinct (Admit e n out ∷ es) = keys_distinct es
keys_distinct (Purge k ∷ es) = keys_distinct es
keys_distinct (Expire k t ∷ es) = keys_distinct es
keys_distinct (Renew k m ∷ es) = keys_distinct es
keys_distinct (Untrack e ∷ es) = keys_distinct es
keys_distinct (Read a ∷ es) = keys_distinct es

-- What stands is tracked: so it is within what is tracked, by weight and by number.

-- an entry for a key of which none was admitted with a number: one without a number
abbrev missing : ℕ → CacheEntryKey
missing k = KeyOnly (record { primary = []; variance = None; user_tag = k ∷ [] })

-- the number by which an entry differs from those of other keys
abbrev first : List ℕ → ℕ
first [] = 0
first (k ∷ ks) = k

abbrev mark : CacheEntryKey → ℕ
mark (KeyOnly c) = first c.user_tag
mark (Identified c n) = compact_slot c

-- the entry of a key
abbrev place : List Event → ℕ → CacheEntryKey
place es k = unwrap_or (standing_entry k es) (missing k)

marked : (k : ℕ) (e : CacheEntryKey) → (names_slot k e && is_some (id_of e)) ≡ true → mark e ≡ k
marked k (KeyOnly c) h = absurd (both_ways _ (never (names_slot k (KeyOnly c))) h)
  where
    never : (b : Bool) → (b && false) ≡ false
    never true = refl
    never false = refl
marked k (Identified c n) h = eqb-true (compact_slot c) k (and_parts _ _ h).0

place-mark : (es : List Event) (k : ℕ) → mark (place es k) ≡ k
place-mark es k =
    elim (standing_entry k es) as (λ o. standing_entry k es ≡ o → mark (unwrap_or o (missing k)) ≡ k) [
      | None ↦ λ _. refl
      | Some e ↦ λ is. marked k e (standing-numbered es k e is)
    ] refl

apart_places : (k : ℕ) (ks : List ℕ) (es : List Event) → AllByRecursion (λ y. eq_by_cmp nat_cmp k y ≡ false) ks → AllByRecursion (λ y. eq_by_cmp entry_cmp (place es k) (place es y) ≡ false) ks
apart_places k [] es a = tt
apart_places k (q ∷ ks) es a =
    let ne : k ≢ q = λ same. both_ways _ a.0 (cmp_same k q ∙ eq-eqb q k (sym same)) in
    (apart (place es k) (place es q) (λ same. ne (sym (place-mark es k) ∙ ap mark same ∙ place-mark es q)), apart_places k ks es a.1)

distinct_places : (ks : List ℕ) (es : List Event) → IsDistinct (eq_by_cmp nat_cmp) ks → IsDistinct (λ a b. eq_by_cmp entry_cmp (place es a) (place es b)) ks
unfolding IsDistinct
distinct_places [] es d = tt
distinct_places (k ∷ ks) es d = (apart_places k ks es d.0, distinct_places ks es d.1)

all_of : {A : Type 0} (P : A → Type 0) → ((a : A) → P a) → (xs : List A) → AllByRecursion P xs
all_of P f [] = tt
all_of P f (x ∷ xs) = (f x, all_of P f xs)

-- a measure of what stands, added up
abbrev standing : (Stored → ℕ) → List Event → ℕ
standing f es = sum_by (λ k. share f (complete k es)) (finished_keys es)

standing_within : (f : Stored → ℕ) (g : ℕ → ℕ) (start : Tracked) (es : List Event) → IsExact start es → ((b : Stored) → f b ≡ g (stored_size b)) → standing f es ≤ total g (tracked start es)
standing_within f g start es ex same =
    sum-le-total entries_total g exact_entries (λ k. place es k) (λ k. share f (complete k es)) (finished_keys es) (tracked start es) (distinct_places (finished_keys es) es (keys_distinct es)) (all_of _ part (finished_keys es))
  where
    part : (k : ℕ) → share f (complete k es) ≤ share g (map.get (tracked start es) (place es k))
    part k =
        elim (complete k es) as (λ o. complete k es ≡ o → share f o ≤ share g (map.get (tracked start es) (place es k))) [
          | None ↦ λ _. omega arith
          | Some b ↦ λ is.
              let x = ex k b is in
              let e = same b in
              let at : place es k ≡ x.0 = ap (λ o. unwrap_or o (missing k)) x.1 in
              let h = ap (share g) (ap (map.get (tracked start es)) at ∙ x.2) in
              omega arith
        ] refl

if_some : {P Q : ℕ → Type 0} (o : Option ℕ) → ((x : ℕ) → P x → Q x) → IfSome o P → IfSome o Q
if_some None f h = h
if_some (Some x) f h = f x h

pub bound-within : (limits : Limits) (start : Tracked) (es : List Event) → IsExact start es → IsWithin limits (tracked start es) → IsBounded limits es
bound-within limits start es ex within =
    record {
      bytes =
          let b : stored es ≤ weight (tracked start es) = standing_within stored_size (λ x. x) start es ex (λ _. refl) in
          let c = within.weight in
          omega arith;
      count = if_some {P = λ most. map.len (tracked start es) ≤ most} {Q = λ most. slots es ≤ most} limits.watermark (λ most h.
          let b : slots es ≤ total (λ _. 1) (tracked start es) = standing_within (λ _. 1) (λ _. 1) start es ex (λ _. refl) in
          let c = len-total (tracked start es) in
          omega arith) within.count;
    }

-- Events.

pub bound-none : (limits : Limits) → IsBounded limits []
bound-none limits = record { bytes = omega arith; count = all limits.watermark }
  where
    all : (o : Option ℕ) → IfSome o (λ most. 0 ≤ most)
    all None = tt
    all (Some x) = omega arith

-- if no more stands
pub bound-less : (limits : Limits) (es now : List Event) → ((f : Stored → ℕ) → standing f now ≤ standing f es) → IsBounded limits es → IsBounded limits now
bound-less limits es now less b =
    record {
      bytes = let a = less stored_size in let c = b.bytes in omega arith;
      count = if_some {P = λ most. slots es ≤ most} {Q = λ most. slots now ≤ most} limits.watermark (λ most h. let a = less (λ _. 1) in omega arith) b.count;
    }

-- where the same stands
same_sum : (f : Stored → ℕ) (ks : List ℕ) (g h : ℕ → Option Stored) → ((k : ℕ) → g k ≡ h k) → sum_by (λ k. share f (g k)) ks ≤ sum_by (λ k. share f (h k)) ks
same_sum f ks g h same = sum_by-le-sum_by (λ k. share f (g k)) (λ k. share f (h k)) ks (λ k. let e = ap (share f) (same k) in omega arith)

pub bound-wrote : (limits : Limits) (es : List Event) (w : ℕ) (bs : List ℕ) (eof : Bool) → IsTidy es → in_flight w es ≡ true → IsBounded limits es → IsBounded limits (Wrote w bs eof ∷ es)
bound-wrote limits es w bs eof tidy fly b = bound-less limits es (Wrote w bs eof ∷ es) (λ f. same_sum f (finished_keys es) (λ k. complete k (Wrote w bs eof ∷ es)) (λ k. complete k es) (complete-wrote es w bs eof tidy fly)) b

pub bound-begin : (limits : Limits) (es : List Event) (k : ℕ) (m : Meta) → IsTidy es → IsBounded limits es → IsBounded limits (Begin (begun es) k m ∷ es)
bound-begin limits es k m tidy b = bound-less limits es (Begin (begun es) k m ∷ es) (λ f. same_sum f (finished_keys es) (λ q. complete q (Begin (begun es) k m ∷ es)) (λ q. complete q es) (complete-begin es k m tidy)) b

less_share : (f : Stored → ℕ) (b : Bool) (o p : Option Stored) → p ≡ (if b then None else o) → share f p ≤ share f o
less_share f true o p is = let e = ap (share f) is in omega arith
less_share f false o p is = let e = ap (share f) is in omega arith

pub bound-purge : (limits : Limits) (es : List Event) (k : ℕ) → IsTidy es → IsBounded limits es → IsBounded limits (Purge k ∷ es)
bound-purge limits es k tidy b =
    bound-less limits es (Purge k ∷ es) (λ f. sum_by-le-sum_by (λ q. share f (complete q (Purge k ∷ es))) (λ q. share f (complete q es)) (finished_keys es) (λ q. less_share f (k == q) (complete q es) (complete q (Purge k ∷ es)) (complete-purge es k tidy q))) b

same-share : (f : Stored → ℕ) (b : Bool) (g : Meta → Meta) (o : Option Stored) → ((x : Stored) → f (altered_body g x) ≡ f x) → share f (if b then option_map (altered_body g) o else o) ≡ share f o
same-share f true g None same = refl
same-share f true g (Some x) same = same x
same-share f false g o same = refl

pub bound-expire : (limits : Limits) (es : List Event) (k t : ℕ) → IsTidy es → IsBounded limits es → IsBounded limits (Expire k t ∷ es)
bound-expire limits es k t tidy b =
    record {
      bytes = let a = less stored_size (λ x. refl) in let c = b.bytes in omega arith;
      count = if_some {P = λ most. slots es ≤ most} {Q = λ most. slots (Expire k t ∷ es) ≤ most} limits.watermark (λ most h. let a = less (λ _. 1) (λ x. refl) in omega arith) b.count;
    }
  where
    less : (f : Stored → ℕ) → ((x : Stored) → f (altered_body (expired_at t) x) ≡ f x) → standing f (Expire k t ∷ es) ≤ standing f es
    less f same = sum_by-le-sum_by (λ q. share f (complete q (Expire k t ∷ es))) (λ q. share f (complete q es)) (finished_keys es)
        (λ q. let e = ap (share f) (complete-expire es k t tidy q) ∙ same-share f (k == q) (expired_at t) (complete q es) same in omega arith)

pub bound-renew : (limits : Limits) (es : List Event) (k : ℕ) (m : Meta) → IsTidy es → IsBounded limits es → IsBounded limits (Renew k m ∷ es)
bound-renew limits es k m tidy b =
    record {
      bytes = let a = less stored_size (λ x. refl) in let c = b.bytes in omega arith;
      count = if_some {P = λ most. slots es ≤ most} {Q = λ most. slots (Renew k m ∷ es) ≤ most} limits.watermark (λ most h. let a = less (λ _. 1) (λ x. refl) in omega arith) b.count;
    }
  where
    less : (f : Stored → ℕ) → ((x : Stored) → f (altered_body (λ old. in_place_of old m) x) ≡ f x) → standing f (Renew k m ∷ es) ≤ standing f es
    less f same = sum_by-le-sum_by (λ q. share f (complete q (Renew k m ∷ es))) (λ q. share f (complete q es)) (finished_keys es)
        (λ q. let e = ap (share f) (complete-renew es k m tidy q) ∙ same-share f (k == q) (λ old. in_place_of old m) (complete q es) same in omega arith)

-- a finish that stores: but for its key, what stands is within the limits
pub bound-undone : (limits : Limits) (es : List Event) (w k : ℕ) (m : Meta) → IsTidy es → in_flight w es ≡ true → begin_of w es ≡ Some (k, m) → is_removed w es ≡ false → IsBounded limits es → IsBounded limits (Purge k ∷ Finish w true ∷ es)
bound-undone limits es w k m tidy fly is whole b =
    bound-less limits es (Purge k ∷ Finish w true ∷ es) (λ f.
    subst (λ o. sum_by (λ q. share f (complete q (Purge k ∷ Finish w true ∷ es))) (with_key (option_map (λ (a : ℕ × Meta). a.0) o) (finished_keys es)) ≤ standing f es) (sym is) (with_one f (finished_keys es))) b
  where
    gone : (q : ℕ) → complete q (Purge k ∷ Finish w true ∷ es) ≡ (if k == q then None else complete q es)
    gone q =
        complete-purge (Finish w true ∷ es) k (tidy-finish es w k m is whole fly tidy) q
        ∙ ap (λ o. if k == q then None else o) (complete-finish es w k m tidy fly is whole q)
        ∙ elim (k == q) as (λ a. (if a then None else (if a then Some (body_with m (body_of w es)) else complete q es)) ≡ (if a then None else complete q es)) [ true ↦ refl | false ↦ refl ]

    with_one : (f : Stored → ℕ) (ks : List ℕ) → sum_by (λ q. share f (complete q (Purge k ∷ Finish w true ∷ es))) (with_key (Some k) ks) ≤ sum_by (λ q. share f (complete q es)) ks
    with_one f ks =
        let less = sum_by-le-sum_by (λ q. share f (complete q (Purge k ∷ Finish w true ∷ es))) (λ q. share f (complete q es)) ks (λ q. less_share f (k == q) (complete q es) (complete q (Purge k ∷ Finish w true ∷ es)) (gone q)) in
        elim (list_any (λ q. q == k) ks) as (λ a. sum_by (λ q. share f (complete q (Purge k ∷ Finish w true ∷ es))) (if a then ks else k ∷ ks) ≤ sum_by (λ q. share f (complete q es)) ks) [
          | true ↦ less
          | false ↦
              let split = sum_by-cons (λ q. share f (complete q (Purge k ∷ Finish w true ∷ es))) k ks in
              let none = ap (share f) (gone k ∙ ap (λ a. if a then None else complete k es) (eq-eqb k k refl)) in
              omega arith
        ]
