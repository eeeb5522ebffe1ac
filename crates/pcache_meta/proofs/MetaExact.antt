-- What a meta says beside its head is read exactly when it is spelled.
use Rattle.std.proofs.Common.{leb}
use Rattle.std.specs.Prelude.{OnErr}
use Rattle.pcache_base.specs.Moments.{nanos_of}
use Rattle.pcache_meta.specs.MetaSpelling.{WindowsThen}
use Rattle.pcache_meta.specs.Reading.{Gives, number_at, number_below_at, array_at, items_at, hash_at, mark_at}
use Rattle.pcache_meta.specs.MetaReading.{moment_at, item_at, old_internal_at, upgraded_at, new_internal_at, versioned_at, internal_at}
use Rattle.pcache_meta.proofs.Words.{◌≡◌, ℕ, ◌+◌, ◌-◌, ◌^◌, ◌≤◌, Bool, true, false, ltb, eqb, List, [], ◌∷◌, length, Option, Some, None, refl, sym, ap, ◌∙◌, arith, inl, inr, ltb-false, le-ltb, eqb-true, nil_from_length, some_pair_parts, same_Some, Result, Ok, Err, IfErr, IfOk, ErrorType, InternalError, Internal, OldInternal, upgraded, NumberThen, ArrayThen, HashThen, MomentThen, OldInternalThen, ItemThen, NewInternalThen, InternalThen, SpellsInternal, when}
use Rattle.pcache_meta.specs.MetaSpelling as spell
use Rattle.pcache_meta.proofs.Exact.{IsBytes, IsBytes-rest, after, after_rest, when_some, chosen, same_parts, number_takes, number_again, number_behind, number_exact, array_takes, array_again, array_behind, array_not_nil, items_takes, items_again, number_below_takes, number_below_again, IsExact, optional_takes, optional_again, optional_behind, hash_exact, mark_takes, mark_again}

-- ---- moments

moment_takes : (bytes : List ℕ) (m : ℕ) (rest : List ℕ) → IsBytes bytes → moment_at bytes ≡ Some (m, rest) → MomentThen bytes m rest
unfolding moment_at
moment_takes bytes m rest fits e = after_rest (items_at 2 bytes) _ (m, rest) e (λ items read go.
    let head = items_takes 2 bytes items fits read in
    let fits1 : IsBytes items = array_behind bytes 2 items fits head in
    after (number_at items) _ (m, rest) go (λ s later read go.
    let secs = number_takes items s later fits1 read in
    let fits2 : IsBytes later = number_behind items s later fits1 secs in
    after (number_below_at 1000000000 later) _ (m, rest) go (λ n last read end.
    let nanos = number_below_takes 1000000000 later n last fits2 read in
    let there : MomentThen bytes (nanos_of s n) last = record {
      secs = s;
      nanos = n;
      moment = refl;
      in_second = nanos.below;
      items = items;
      head = head;
      later = later;
      first = secs;
      second = nanos.number;
    } in
    same_parts MomentThen bytes (nanos_of s n) m last rest end there)))

moment_again : (bytes : List ℕ) (m : ℕ) (rest : List ℕ) → MomentThen bytes m rest → moment_at bytes ≡ Some (m, rest)
unfolding moment_at
moment_again bytes m rest t =
    rw (items_again 2 bytes t.items t.head, number_again t.items t.secs t.later t.first, number_below_again 1000000000 t.later t.nanos rest t.second t.in_second)
    (ap (λ (n : ℕ). Some (n, rest)) (sym t.moment))

moment_behind : (bytes : List ℕ) (m : ℕ) (rest : List ℕ) → IsBytes bytes → MomentThen bytes m rest → IsBytes rest
moment_behind bytes m rest fits t =
    number_behind t.later t.nanos rest (number_behind t.items t.secs t.later (array_behind bytes 2 t.items fits t.head) t.first) t.second

pub moment_exact : IsExact moment_at MomentThen
moment_exact = record {
  takes = moment_takes;
  again = moment_again;
  behind = moment_behind;
  not_nil = λ bytes m rest t. array_not_nil bytes 2 t.items t.head;
}

-- ---- an item that may be left out

item_takes : {A : Type 0} (present : Bool) (read : List ℕ → Option (A × List ℕ)) (Then : List ℕ → A → List ℕ → Type 0) → IsExact read Then
    → (bytes : List ℕ) (o : Option A) (rest : List ℕ) → IsBytes bytes → item_at present read bytes ≡ Some (o, rest) → ItemThen present Then bytes o rest
unfolding item_at
item_takes true read Then exact bytes o rest fits e = optional_takes read Then exact bytes o rest fits e
item_takes false read Then exact bytes o rest fits e = let p = some_pair_parts None o bytes rest e in (sym p.0, p.1)

item_again : {A : Type 0} (present : Bool) (read : List ℕ → Option (A × List ℕ)) (Then : List ℕ → A → List ℕ → Type 0) → IsExact read Then
    → (bytes : List ℕ) (o : Option A) (rest : List ℕ) → ItemThen present Then bytes o rest → item_at present read bytes ≡ Some (o, rest)
unfolding item_at
item_again true read Then exact bytes o rest t = optional_again read Then exact bytes o rest t
item_again false read Then exact bytes o rest t = rw (t.0, t.1) refl

item_behind : {A : Type 0} (present : Bool) (read : List ℕ → Option (A × List ℕ)) (Then : List ℕ → A → List ℕ → Type 0) → IsExact read Then
    → (bytes : List ℕ) (o : Option A) (rest : List ℕ) → IsBytes bytes → ItemThen present Then bytes o rest → IsBytes rest
item_behind true read Then exact bytes o rest fits t = optional_behind read Then exact bytes o rest fits t
item_behind false read Then exact bytes o rest fits t = rw (← t.1) fits

-- ---- versions 0 and 1

old_takes : (bytes : List ℕ) (m : OldInternal) (rest : List ℕ) → IsBytes bytes → old_internal_at bytes ≡ Some (m, rest) → OldInternalThen bytes m rest
unfolding old_internal_at
old_takes bytes m rest fits e = after (moment_at bytes) _ (m, rest) e (λ fresh r1 read1 go.
    let t1 = moment_exact.takes bytes fresh r1 fits read1 in
    let f1 = moment_exact.behind bytes fresh r1 fits t1 in
    after (moment_at r1) _ (m, rest) go (λ created r2 read2 go.
    let t2 = moment_exact.takes r1 created r2 f1 read2 in
    let f2 = moment_exact.behind r1 created r2 f1 t2 in
    after (number_below_at (2 ^ 32) r2) _ (m, rest) go (λ first r3 read3 go.
    let t3 = number_below_takes (2 ^ 32) r2 first r3 f2 read3 in
    let f3 = number_behind r2 first r3 f2 t3.number in
    after (number_below_at (2 ^ 32) r3) _ (m, rest) go (λ second r4 read4 end.
    let t4 = number_below_takes (2 ^ 32) r3 second r4 f3 read4 in
    same_parts OldInternalThen bytes _ m r4 rest end (record {
      later1 = r1;
      fresh_until = t1;
      later2 = r2;
      created = t2;
      windows = record { later = r3; first = t3.number; first_fits = t3.below; second = t4.number; second_fits = t4.below };
    })))))

old_again : (bytes : List ℕ) (m : OldInternal) (rest : List ℕ) → OldInternalThen bytes m rest → old_internal_at bytes ≡ Some (m, rest)
unfolding old_internal_at
old_again bytes m rest t =
    let w = t.windows in
    rw (
      moment_exact.again bytes m.fresh_until t.later1 t.fresh_until,
      moment_exact.again t.later1 m.created t.later2 t.created,
      number_below_again (2 ^ 32) t.later2 m.stale_while_revalidate_sec w.later w.first w.first_fits,
      number_below_again (2 ^ 32) w.later m.stale_if_error_sec rest w.second w.second_fits,
    ) refl

-- an old version as it is read: what it says, and what the latest version makes of that
upgraded_takes : {P : Type 0} (bytes : List ℕ) (m : Internal) (rest : List ℕ) → IsBytes bytes → upgraded_at bytes ≡ Some (m, rest)
    → ((old : OldInternal) → m ≡ upgraded old → OldInternalThen bytes old rest → P) → P
unfolding upgraded_at
upgraded_takes bytes m rest fits e go = after (old_internal_at bytes) _ (m, rest) e (λ old r read end.
    let same = some_pair_parts (upgraded old) m r rest end in
    go old (sym same.0) (rw (← same.1) (old_takes bytes old r fits read)))

upgraded_again : (bytes : List ℕ) (old : OldInternal) (m : Internal) (rest : List ℕ) → m ≡ upgraded old → OldInternalThen bytes old rest
    → upgraded_at bytes ≡ Some (m, rest)
unfolding upgraded_at
upgraded_again bytes old m rest is t = rw (old_again bytes old rest t, is) refl

-- ---- versions 2 and 3

new_takes : (extra : ℕ) (bytes : List ℕ) (m : Internal) (rest : List ℕ) → IsBytes bytes → new_internal_at extra bytes ≡ Some (m, rest) → NewInternalThen extra bytes m rest
unfolding new_internal_at
new_takes extra bytes m rest fits e = after (moment_at bytes) _ (m, rest) e (λ fresh r1 read1 go.
    let t1 = moment_exact.takes bytes fresh r1 fits read1 in
    let f1 = moment_exact.behind bytes fresh r1 fits t1 in
    after (moment_at r1) _ (m, rest) go (λ created r2 read2 go.
    let t2 = moment_exact.takes r1 created r2 f1 read2 in
    let f2 = moment_exact.behind r1 created r2 f1 t2 in
    after (moment_at r2) _ (m, rest) go (λ updated r3 read3 go.
    let t3 = moment_exact.takes r2 updated r3 f2 read3 in
    let f3 = moment_exact.behind r2 updated r3 f2 t3 in
    after (number_below_at (2 ^ 32) r3) _ (m, rest) go (λ first r4 read4 go.
    let t4 = number_below_takes (2 ^ 32) r3 first r4 f3 read4 in
    let f4 = number_behind r3 first r4 f3 t4.number in
    after (number_below_at (2 ^ 32) r4) _ (m, rest) go (λ second r5 read5 go.
    let t5 = number_below_takes (2 ^ 32) r4 second r5 f4 read5 in
    let f5 = number_behind r4 second r5 f4 t5.number in
    after (item_at (ltb 0 extra) hash_at r5) _ (m, rest) go (λ variance r6 read6 go.
    let t6 = item_takes (ltb 0 extra) hash_at HashThen hash_exact r5 variance r6 f5 read6 in
    let f6 = item_behind (ltb 0 extra) hash_at HashThen hash_exact r5 variance r6 f5 t6 in
    after (item_at (ltb 1 extra) moment_at r6) _ (m, rest) go (λ epoch r7 read7 go.
    let t7 = item_takes (ltb 1 extra) moment_at MomentThen moment_exact r6 epoch r7 f6 read7 in
    let f7 = item_behind (ltb 1 extra) moment_at MomentThen moment_exact r6 epoch r7 f6 t7 in
    after (item_at (ltb 2 extra) moment_at r7) _ (m, rest) go (λ provenance r8 read8 go.
    let t8 = item_takes (ltb 2 extra) moment_at MomentThen moment_exact r7 provenance r8 f7 read8 in
    let f8 = item_behind (ltb 2 extra) moment_at MomentThen moment_exact r7 provenance r8 f7 t8 in
    after (item_at (ltb 3 extra) number_at r8) _ (m, rest) go (λ number r9 read9 end.
    let t9 = item_takes (ltb 3 extra) number_at NumberThen number_exact r8 number r9 f8 read9 in
    same_parts (NewInternalThen extra) bytes _ m r9 rest end (record {
      later1 = r1;
      fresh_until = t1;
      later2 = r2;
      created = t2;
      later3 = r3;
      updated = t3;
      later4 = r5;
      windows = record { later = r4; first = t4.number; first_fits = t4.below; second = t5.number; second_fits = t5.below };
      later5 = r6;
      variance = t6;
      later6 = r7;
      epoch_override = t7;
      later7 = r8;
      provenance = t8;
      entry_id = t9;
    }))))))))))

new_again : (extra : ℕ) (bytes : List ℕ) (m : Internal) (rest : List ℕ) → NewInternalThen extra bytes m rest → new_internal_at extra bytes ≡ Some (m, rest)
unfolding new_internal_at
new_again extra bytes m rest t =
    let w = t.windows in
    rw (
      moment_exact.again bytes m.fresh_until t.later1 t.fresh_until,
      moment_exact.again t.later1 m.created t.later2 t.created,
      moment_exact.again t.later2 m.updated t.later3 t.updated,
      number_below_again (2 ^ 32) t.later3 m.stale_while_revalidate_sec w.later w.first w.first_fits,
      number_below_again (2 ^ 32) w.later m.stale_if_error_sec t.later4 w.second w.second_fits,
      item_again (ltb 0 extra) hash_at HashThen hash_exact t.later4 m.variance t.later5 t.variance,
      item_again (ltb 1 extra) moment_at MomentThen moment_exact t.later5 m.epoch_override t.later6 t.epoch_override,
      item_again (ltb 2 extra) moment_at MomentThen moment_exact t.later6 m.provenance t.later7 t.provenance,
      item_again (ltb 3 extra) number_at NumberThen number_exact t.later7 m.entry_id rest t.entry_id,
    ) refl

-- ---- any version

versioned_takes : (count : ℕ) (bytes items : List ℕ) (m : Internal) (rest : List ℕ) → IsBytes items → ArrayThen bytes count items
    → versioned_at count items ≡ Some (m, rest) → InternalThen bytes m rest
unfolding versioned_at
versioned_takes count bytes items m rest fits head e = elim (chosen (eqb count 4) _ _ _ e) [
  | inl p ↦
      let four : count ≡ 4 = eqb-true _ _ p.0 in
      upgraded_takes items m rest fits p.1 (λ old is there. spell.version0 old items is (rw (← four) head) there)
  | inr p ↦ elim (chosen (eqb count 5) _ _ _ p.1) [
    | inl q ↦ after_rest (mark_at 1 items) _ (m, rest) q.1 (λ r mark go.
        let five : count ≡ 5 = eqb-true _ _ q.0 in
        let begins = mark_takes 1 items r mark in
        upgraded_takes r m rest (IsBytes-rest 1 r (rw (← begins) fits)) go (λ old is there. spell.version1 old r is (rw (← five, ← begins) head) there))
    | inr q ↦ elim (chosen (eqb count 10) _ _ _ q.1) [
      | inl t ↦ after_rest (mark_at 3 items) _ (m, rest) t.1 (λ k mark go.
          let ten : count ≡ 10 = eqb-true _ _ t.0 in
          let begins = mark_takes 3 items k mark in
          spell.version3 k (rw (← ten, ← begins) head) (new_takes 4 k m rest (IsBytes-rest 3 k (rw (← begins) fits)) go))
      | inr t ↦ elim (chosen (ltb count 6) _ _ _ t.1) [
        | inl r ↦ absurd (cc r.1)
        | inr r ↦ elim (chosen (ltb 9 count) _ _ _ r.1) [
          | inl s ↦ absurd (cc s.1)
          | inr s ↦ after_rest (mark_at 2 items) _ (m, rest) s.1 (λ k mark go.
              let low : 6 ≤ count = ltb-false _ _ r.0 in
              let high : count ≤ 9 = ltb-false _ _ s.0 in
              let sum : 6 + (count - 6) ≡ count = omega arith in
              let begins = mark_takes 2 items k mark in
              spell.version2 (count - 6) k (omega arith) (rw (sum, ← begins) head) (new_takes (count - 6) k m rest (IsBytes-rest 2 k (rw (← begins) fits)) go))
        ]
      ]
    ]
  ]
]

-- what is read is spelled so
pub internal_takes : (bytes : List ℕ) (m : Internal) → IsBytes bytes → internal_at bytes ≡ Some m → SpellsInternal bytes m
unfolding internal_at
internal_takes bytes m fits e = after_rest (when (leb 10 (length bytes)) bytes) _ m e (λ long check go.
    let w = when_some _ _ _ check in
    let enough : 10 ≤ length bytes = Prim.grind (arith, w.0) in
    after (array_at long) _ m go (λ count items read go.
    let head : ArrayThen bytes count items = array_takes bytes count items fits (rw w.1 read) in
    after (versioned_at count items) _ m go (λ found rest read go.
    let there = versioned_takes count bytes items found rest (array_behind bytes count items fits head) head read in
    after_rest (when (eqb (length rest) 0) rest) _ m go (λ last check end.
    let v = when_some _ _ _ check in
    let none : rest ≡ [] = nil_from_length rest (eqb-true _ _ v.0) in
    let is : found ≡ m = same_Some found m end in
    (enough, rw (← is, ← none) there)))))

versioned_again : (bytes : List ℕ) (m : Internal) (rest : List ℕ) → InternalThen bytes m rest
    → (count : ℕ) × (items : List ℕ) × (array_at bytes ≡ Some (count, items)) × (versioned_at count items ≡ Some (m, rest))
unfolding versioned_at
versioned_again bytes m rest (spell.version0 old items is head t) = (4, items, array_again bytes 4 items head, upgraded_again items old m rest is t)
versioned_again bytes m rest (spell.version1 old items is head t) =
    (5, 1 ∷ items, array_again bytes 5 (1 ∷ items) head, rw (mark_again 1 items) (upgraded_again items old m rest is t))
versioned_again bytes m rest (spell.version2 extra items few head t) =
    let not4 : eqb (6 + extra) 4 ≡ false = Prim.grind arith in
    let not5 : eqb (6 + extra) 5 ≡ false = Prim.grind arith in
    let not10 : eqb (6 + extra) 10 ≡ false = Prim.grind (arith, few) in
    let low : ltb (6 + extra) 6 ≡ false = le-ltb _ _ (omega arith) in
    let high : ltb 9 (6 + extra) ≡ false = le-ltb _ _ (omega arith) in
    let same : 6 + extra - 6 ≡ extra = omega arith in (
      6 + extra,
      2 ∷ items,
      array_again bytes (6 + extra) (2 ∷ items) head,
      rw (not4, not5, not10, low, high, mark_again 2 items, same) (new_again extra items m rest t),
    )
versioned_again bytes m rest (spell.version3 items head t) =
    (10, 3 ∷ items, array_again bytes 10 (3 ∷ items) head, rw (mark_again 3 items) (new_again 4 items m rest t))

-- what is spelled so is read
pub internal_again : (bytes : List ℕ) (m : Internal) → SpellsInternal bytes m → internal_at bytes ≡ Some m
unfolding internal_at
internal_again bytes m spelled =
    let long : leb 10 (length bytes) ≡ true = Prim.grind (arith, spelled.0) in
    let (count, items, head, body) = versioned_again bytes m [] spelled.1 in
    rw (long, head, body) refl

-- ---- the same of what a reader of the code returned

pub read_found : (bytes : List ℕ) (r : Result Internal ErrorType) → IsBytes bytes → Gives (λ m. m) r (internal_at bytes)
    → IfOk r (λ m. SpellsInternal bytes m)
read_found bytes (Ok m) fits gives = internal_takes bytes m fits gives
read_found bytes (Err e) fits gives = tt

pub read_same : (bytes : List ℕ) (r : Result Internal ErrorType) (m : Internal) → Gives (λ m. m) r (internal_at bytes) → SpellsInternal bytes m
    → IfOk r (λ found. found ≡ m)
read_same bytes (Ok found) m gives spelled = same_Some found m (sym gives ∙ internal_again bytes m spelled)
read_same bytes (Err e) m gives spelled = tt

pub read_refused : (bytes : List ℕ) (r : Result Internal ErrorType) → Gives (λ m. m) r (internal_at bytes)
    → OnErr r ((m : Internal) → ¬ (SpellsInternal bytes m))
read_refused bytes (Ok m) gives = tt
read_refused bytes (Err InternalError) gives = λ m spelled. let e = internal_again bytes m spelled in absurd (cc (gives, e))
read_refused bytes (Err _) gives = absurd gives

pub read_kind : (bytes : List ℕ) (r : Result Internal ErrorType) → Gives (λ m. m) r (internal_at bytes) → IfErr r (λ e. e ≡ InternalError)
read_kind bytes (Ok m) gives = tt
read_kind bytes (Err InternalError) gives = refl
read_kind bytes (Err _) gives = absurd gives
