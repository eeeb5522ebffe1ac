-- With no number open a world's store keeps no record of a write.
use Rattle.std.proofs.Common.{option_map}
use Rattle.std.specs.FinMap.{len-empty}
use Rattle.pcache_store.specs.Store.{Written}
use Rattle.pcache_world.proofs.Words.{◌≡◌, ℕ, Bool, false, true, ◌||◌, nat_lt, if◌then◌else◌, Option, None, Some, List, refl, ap, sym, ◌∙◌, arith, nat_cmp, nat_cmp_total, FinMap, empty, get, get-empty, len, same_map, nat_cmp-IsAntisymmetric, total-empty, Tracked, Limits, Locks, Store, Entry, Event, in_flight, Ongoing, request_of, events_of, IsSound, readers, record_of, writers, writers_in, untold}
use Rattle.pcache_world.proofs.Counts.{readers-none}

untold-none : (q : Option Ongoing) → option_map untold q ≡ None → q ≡ None
untold-none None is = refl
untold-none (Some x) is = absurd (cc)

if-none : {A : Type 0} (c : Bool) (x : Option A) → c ≡ false → (if c then x else None) ≡ None
if-none true x is = absurd (cc)
if-none false x is = refl

no-record : (w n : ℕ) (es : List Event) → in_flight w es ≡ false → n ≡ 0 → record_of w n es ≡ None
no-record w n es grounded zero = if-none (in_flight w es || nat_lt 0 n) _ (λ i. grounded i || nat_lt 0 (zero i))

-- a write that no request holds is not in flight
grounded : (n : ℕ) (b : Bool) → n ≡ (if b then 1 else 0) → n ≡ 0 → b ≡ false
grounded n true held none = absurd (omega arith)
grounded n false held none = refl

pub records-none : (limits : Limits) (start now : Tracked) (s : Store) (t : Locks) (all : FinMap nat_cmp Ongoing) (h : List Entry) → IsSound limits start now s t all h → ((r : ℕ) → request_of r h ≡ None) → len s.writes ≡ 0
records-none limits start now s t all h k none =
    let gone : all ≡ empty = same_map nat_cmp_total nat_cmp-IsAntisymmetric all empty (λ r. untold-none (get all r) (k.requests r ∙ none r) ∙ sym (get-empty nat_cmp r)) in
    let unread : (w : ℕ) → readers all w ≡ 0 = λ w. ap (λ (m : FinMap nat_cmp Ongoing). readers m w) gone ∙ readers-none w in
    let unwritten : (w : ℕ) → writers all w ≡ 0 = λ w. ap (λ (m : FinMap nat_cmp Ongoing). writers m w) gone ∙ total-empty nat_cmp_total (writers_in w) in
    let kept : s.writes ≡ empty = same_map nat_cmp_total nat_cmp-IsAntisymmetric s.writes empty (λ w.
    k.state.writes w ∙ no-record w (readers all w) (events_of h) (grounded (writers all w) (in_flight w (events_of h)) (k.writes w) (unwritten w)) (unread w) ∙ sym (get-empty nat_cmp w)) in
    ap len kept ∙ len-empty nat_cmp Written
