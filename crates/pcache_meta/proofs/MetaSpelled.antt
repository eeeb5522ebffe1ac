-- What is written of a meta beside its head is spelled so.
use Rattle.std.proofs.Common.{length-append}
use Rattle.pcache_base.specs.Moments.{IsMoment}
use Rattle.pcache_meta.specs.Internal.{of_version2}
use Rattle.pcache_meta.specs.declared.meta.internal_meta.InternalMetaV2.{InternalMetaV2}
use Rattle.pcache_meta.specs.Writing.{number_written, array_written, hash_written, optional_written}
use Rattle.pcache_meta.specs.MetaWriting.{moment_written, items_written, item_count, last_written, internal_written, old_written, version0_written, version1_written, version2_written, AreItems, IsInternal, IsOldInternal}
use Rattle.pcache_meta.proofs.Words.{◌≡◌, ℕ, ◌+◌, ◌/◌, ◌%◌, ◌^◌, ◌<◌, ◌≤◌, Bool, true, false, ltb, List, [], ◌∷◌, ◌++◌, length, Option, Some, None, refl, subst, append_assoc, arith, IfSome, IfOk, OnOk, Result, Ok, Err, Vec, append-nil, Internal, OldInternal, upgraded, NumberForm, number_text, ArrayForm, array_text, NumberThen, OptionThen, HashThen, MomentThen, OldInternalThen, ItemThen, NewInternalThen, InternalThen, SpellsInternal, shortest_number, shortest_array, IsHash}
use Rattle.pcache_meta.specs.Spelling as form
use Rattle.pcache_meta.specs.MetaSpelling as spell
use Rattle.pcache_meta.proofs.Spelled.{number_then, array_then, hash_then, optional_then}

-- ---- moments

pub moment_then : (m : ℕ) (rest : List ℕ) → IsMoment m → MomentThen (moment_written m ++ rest) m rest
unfolding moment_written
moment_then m rest is =
    let secs : ℕ = m / 1000000000 in
    let nanos : ℕ = m % 1000000000 in
    let items : List ℕ = number_written secs ++ (number_written nanos ++ rest) in
    let regrouped : moment_written m ++ rest ≡ array_written 2 ++ items = simp append_assoc in
    rw regrouped (record {
      secs = secs;
      nanos = nanos;
      moment = omega arith;
      in_second = omega arith;
      items = items;
      head = array_then 2 items (omega arith);
      later = number_written nanos ++ rest;
      first = number_then secs (number_written nanos ++ rest) (omega (arith, is));
      second = number_then nanos rest (omega arith);
    })

-- ---- each part is a byte at least

number_some : (n : ℕ) → 0 < length (number_written n)
unfolding number_written
number_some n = form_some (shortest_number n) where
  form_some : (f : NumberForm) → 0 < length (number_text f n)
  form_some form.short = omega arith
  form_some form.wide8 = omega arith
  form_some form.wide16 = omega arith
  form_some form.wide32 = omega arith
  form_some form.wide64 = omega arith

array_some : (n : ℕ) → 0 < length (array_written n)
unfolding array_written
array_some n = form_some (shortest_array n) where
  form_some : (f : ArrayForm) → 0 < length (array_text f n)
  form_some form.short = omega arith
  form_some form.wide16 = omega arith
  form_some form.wide32 = omega arith

moment_some : (m : ℕ) → 3 ≤ length (moment_written m)
unfolding moment_written
moment_some m = simp length-append (omega (arith, array_some 2, number_some (m / 1000000000), number_some (m % 1000000000)))

-- ---- versions 0 and 1

old_then : (m : OldInternal) → IsOldInternal m → OldInternalThen (old_written m) m []
unfolding old_written
old_then m is =
    let r4 : List ℕ = number_written m.stale_if_error_sec ++ [] in
    let r3 : List ℕ = number_written m.stale_while_revalidate_sec ++ r4 in
    let r2 : List ℕ = moment_written m.created ++ r3 in
    let regrouped : old_written m ≡ moment_written m.fresh_until ++ r2 = simp (append_assoc, append-nil) in
    rw regrouped (record {
      later1 = r2;
      fresh_until = moment_then m.fresh_until r2 is.fresh_until;
      later2 = r3;
      created = moment_then m.created r3 is.created;
      windows = record {
        later = r4;
        first = number_then m.stale_while_revalidate_sec r4 (omega (arith, is.stale_while_revalidate_sec));
        first_fits = is.stale_while_revalidate_sec;
        second = number_then m.stale_if_error_sec [] (omega (arith, is.stale_if_error_sec));
        second_fits = is.stale_if_error_sec;
      };
    })

version0_then : (m : OldInternal) → IsOldInternal m → InternalThen (version0_written m) (upgraded m) []
unfolding version0_written
version0_then m is = spell.version0 m (old_written m) refl (array_then 4 (old_written m) (omega arith)) (old_then m is)

version1_then : (m : OldInternal) → IsOldInternal m → InternalThen (version1_written m) (upgraded m) []
unfolding version1_written
version1_then m is =
    let regrouped : version1_written m ≡ array_written 5 ++ (1 ∷ old_written m) = simp append_assoc in
    rw regrouped (spell.version1 m (old_written m) refl (array_then 5 (1 ∷ old_written m) (omega arith)) (old_then m is))

version1_long : (m : OldInternal) → 10 ≤ length (version1_written m)
unfolding version1_written old_written
version1_long m =
    simp length-append (omega (
      arith,
      array_some 5,
      moment_some m.fresh_until,
      moment_some m.created,
      number_some m.stale_while_revalidate_sec,
      number_some m.stale_if_error_sec,
    ))

-- ---- versions 2 and 3

-- a present item
item_then : {A : Type 0} (present : Bool) (Then : List ℕ → A → List ℕ → Type 0) (bytes : List ℕ) (o : Option A) (rest : List ℕ)
    → present ≡ true → OptionThen Then bytes o rest → ItemThen present Then bytes o rest
item_then true Then bytes o rest e t = t
item_then false Then bytes o rest e t = absurd cc

-- the items that both have, and the last ones in any form
items_then : (extra : ℕ) (m : Internal) (last after : List ℕ) → AreItems m → ltb 0 extra ≡ true → ltb 1 extra ≡ true
    → ItemThen (ltb 2 extra) MomentThen last m.provenance after → ItemThen (ltb 3 extra) NumberThen after m.entry_id []
    → NewInternalThen extra (items_written m ++ last) m []
unfolding items_written
items_then extra m last after is first second provenance number =
    let r7 : List ℕ = optional_written moment_written m.epoch_override ++ last in
    let r6 : List ℕ = optional_written hash_written m.variance ++ r7 in
    let r5 : List ℕ = number_written m.stale_if_error_sec ++ r6 in
    let r4 : List ℕ = number_written m.stale_while_revalidate_sec ++ r5 in
    let r3 : List ℕ = moment_written m.updated ++ r4 in
    let r2 : List ℕ = moment_written m.created ++ r3 in
    let regrouped : items_written m ++ last ≡ moment_written m.fresh_until ++ r2 = simp append_assoc in
    rw regrouped (record {
      later1 = r2;
      fresh_until = moment_then m.fresh_until r2 is.fresh_until;
      later2 = r3;
      created = moment_then m.created r3 is.created;
      later3 = r4;
      updated = moment_then m.updated r4 is.updated;
      later4 = r6;
      windows = record {
        later = r5;
        first = number_then m.stale_while_revalidate_sec r5 (omega (arith, is.stale_while_revalidate_sec));
        first_fits = is.stale_while_revalidate_sec;
        second = number_then m.stale_if_error_sec r6 (omega (arith, is.stale_if_error_sec));
        second_fits = is.stale_if_error_sec;
      };
      later5 = r7;
      variance = item_then (ltb 0 extra) HashThen r6 m.variance r7 first (optional_then hash_written HashThen IsHash hash_then m.variance r7 is.variance);
      later6 = last;
      epoch_override =
          item_then (ltb 1 extra) MomentThen r7 m.epoch_override last second (optional_then moment_written MomentThen IsMoment moment_then m.epoch_override last is.epoch_override);
      later7 = after;
      provenance = provenance;
      entry_id = number;
    })

-- they are nine bytes at least
items_long : (m : Internal) → 9 ≤ length (items_written m)
unfolding items_written
items_long m = simp length-append (omega (arith, moment_some m.fresh_until, moment_some m.created, moment_some m.updated))

internal_then : (m : Internal) → IsInternal m → InternalThen (internal_written m) m []
unfolding internal_written
internal_then m is =
    let last : List ℕ = optional_written number_written m.entry_id ++ [] in
    let r8 : List ℕ = optional_written moment_written m.provenance ++ last in
    let regrouped : internal_written m ≡ array_written 10 ++ (3 ∷ (items_written m ++ r8)) = simp (append_assoc, append-nil) in
    rw regrouped (
    spell.version3 (items_written m ++ r8) (array_then 10 (3 ∷ (items_written m ++ r8)) (omega arith)) (
    items_then 4 m r8 last is.items refl refl (optional_then moment_written MomentThen IsMoment moment_then m.provenance last is.provenance)
    (optional_then number_written NumberThen (λ n. n < 2 ^ 64) number_then m.entry_id [] is.entry_id)
    )
    )

internal_long : (m : Internal) → 10 ≤ length (internal_written m)
unfolding internal_written
internal_long m = simp length-append (omega (arith, array_some 10, items_long m))

-- the last item of version 2, or none
last_then : (o : Option ℕ) → IfSome o IsMoment
    → (extra : ℕ) × (item_count o ≡ 6 + extra) × (extra ≤ 3) × (ltb 0 extra ≡ true) × (ltb 1 extra ≡ true) × (ltb 3 extra ≡ false)
    × ItemThen (ltb 2 extra) MomentThen (last_written o) o []
unfolding last_written
last_then None is = (2, refl, omega arith, refl, refl, refl, (refl, refl))
last_then (Some m) is = (3, refl, omega arith, refl, refl, refl, subst (λ bytes. MomentThen bytes m []) (append-nil (moment_written m)) (moment_then m [] is))

-- an item that is left out
no_item : (present : Bool) (bytes : List ℕ) → present ≡ false → ItemThen present NumberThen bytes None bytes
no_item true bytes e = absurd cc
no_item false bytes e = (refl, refl)

version2_then : (m : InternalMetaV2) → AreItems (of_version2 m) → IfSome m.provenance IsMoment → InternalThen (version2_written m) (of_version2 m) []
unfolding version2_written
version2_then m is last_is =
    let r8 : List ℕ = last_written m.provenance in
    let items : List ℕ = items_written (of_version2 m) ++ r8 in
    let regrouped : version2_written m ≡ array_written (item_count m.provenance) ++ (2 ∷ items) = simp append_assoc in
    let (extra, count, few, first, second, fourth, last) = last_then m.provenance last_is in
    rw (regrouped, count) (
    spell.version2 extra items few (array_then (6 + extra) (2 ∷ items) (omega arith)) (items_then extra (of_version2 m) r8 [] is first second last (no_item (ltb 3 extra) [] fourth))
    )

version2_long : (m : InternalMetaV2) → 10 ≤ length (version2_written m)
unfolding version2_written
version2_long m = simp length-append (omega (arith, array_some (item_count m.provenance), items_long (of_version2 m)))

-- ---- the same of what a writer of the code returned

pub spelled_version0 : {E : Type 0} (r : Result (Vec ℕ) E) (m : OldInternal) → IfOk r (λ v. v.items ≡ version0_written m) → OnOk r (IsOldInternal m)
    → IfOk r (λ v. InternalThen v.items (upgraded m) [])
spelled_version0 (Ok v) m written is = rw written (version0_then m is)
spelled_version0 (Err e) m written is = tt

pub spelled_version1 : {E : Type 0} (r : Result (Vec ℕ) E) (m : OldInternal) → IfOk r (λ v. v.items ≡ version1_written m) → OnOk r (IsOldInternal m)
    → IfOk r (λ v. SpellsInternal v.items (upgraded m))
spelled_version1 (Ok v) m written is = rw written (version1_long m, version1_then m is)
spelled_version1 (Err e) m written is = tt

pub spelled_version2 : {E : Type 0} (r : Result (Vec ℕ) E) (m : InternalMetaV2) → IfOk r (λ v. v.items ≡ version2_written m) → OnOk r (AreItems (of_version2 m))
    → OnOk r (IfSome m.provenance IsMoment) → IfOk r (λ v. SpellsInternal v.items (of_version2 m))
spelled_version2 (Ok v) m written is last = rw written (version2_long m, version2_then m is last)
spelled_version2 (Err e) m written is last = tt

pub spelled_internal : {E : Type 0} (r : Result (Vec ℕ) E) (m : Internal) → IfOk r (λ v. v.items ≡ internal_written m) → OnOk r (IsInternal m)
    → IfOk r (λ v. SpellsInternal v.items m)
spelled_internal (Ok v) m written is = rw written (internal_long m, internal_then m is)
spelled_internal (Err e) m written is = tt
