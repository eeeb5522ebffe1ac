-- No spelling of a number, of an array's head, of a text, of a hash or of a moment is shorter than the one that is
-- written.
use Rattle.std.proofs.Common.{length-append}
use Rattle.pcache_meta.specs.MetaWriting.{moment_written}
use Rattle.pcache_meta.specs.Writing.{number_written, array_written, text_head_written, text_written, hash_written}
use Rattle.pcache_meta.proofs.Words.{◌≡◌, ℕ, ◌+◌, ◌/◌, ◌%◌, ◌^◌, ◌<◌, ◌≤◌, ltb, List, [], ◌∷◌, ◌++◌, length, refl, ap, arith, inl, inr, flat_map, ltb-false, flat_map-cons, NumberForm, number_limit, number_text, NumberThen, ArrayForm, array_limit, array_text, ArrayThen, TextForm, text_limit, text_head, TextThen, BytesThen, HashThen, MomentThen, shortest_number, shortest_array, shortest_text}
use Rattle.pcache_meta.specs.Spelling as spell
use Rattle.pcache_meta.proofs.Exact.{chosen}

-- ---- numbers

-- a size that covers each form that a number below the limit may need
number_within : (n limit size : ℕ) → n < limit → 1 ≤ size → (2 ^ 7 < limit → 2 ≤ size) → (2 ^ 8 < limit → 3 ≤ size)
    → (2 ^ 16 < limit → 5 ≤ size) → (2 ^ 32 < limit → 9 ≤ size) → length (number_written n) ≤ size
unfolding number_written
number_within n limit size lt one two three five nine = elim (chosen (ltb n (2 ^ 7)) _ _ (shortest_number n) refl) [
  | inl p ↦ rw (← p.1) one
  | inr p ↦ elim (chosen (ltb n (2 ^ 8)) _ _ (shortest_number n) p.1) [
    | inl q ↦ rw (← q.1) (two (omega (arith, ltb-false _ _ p.0)))
    | inr q ↦ elim (chosen (ltb n (2 ^ 16)) _ _ (shortest_number n) q.1) [
      | inl r ↦ rw (← r.1) (three (omega (arith, ltb-false _ _ q.0)))
      | inr r ↦ elim (chosen (ltb n (2 ^ 32)) _ _ (shortest_number n) r.1) [
        | inl s ↦ rw (← s.1) (five (omega (arith, ltb-false _ _ r.0)))
        | inr s ↦ rw (← s.1) (nine (omega (arith, ltb-false _ _ s.0)))
      ]
    ]
  ]
]

number_least : (form : NumberForm) (n : ℕ) → n < number_limit form → length (number_written n) ≤ length (number_text form n)
number_least spell.short n lt = number_within n (2 ^ 7) 1 lt (omega arith) (λ h. omega arith) (λ h. omega arith) (λ h. omega arith) (λ h. omega arith)
number_least spell.wide8 n lt = number_within n (2 ^ 8) 2 lt (omega arith) (λ h. omega arith) (λ h. omega arith) (λ h. omega arith) (λ h. omega arith)
number_least spell.wide16 n lt = number_within n (2 ^ 16) 3 lt (omega arith) (λ h. omega arith) (λ h. omega arith) (λ h. omega arith) (λ h. omega arith)
number_least spell.wide32 n lt = number_within n (2 ^ 32) 5 lt (omega arith) (λ h. omega arith) (λ h. omega arith) (λ h. omega arith) (λ h. omega arith)
number_least spell.wide64 n lt = number_within n (2 ^ 64) 9 lt (omega arith) (λ h. omega arith) (λ h. omega arith) (λ h. omega arith) (λ h. omega arith)

pub number_shortest : (bytes : List ℕ) (n : ℕ) (rest : List ℕ) → NumberThen bytes n rest → length (number_written n) + length rest ≤ length bytes
number_shortest bytes n rest t =
    let size = ap (λ (b : List ℕ). length b) t.text in
    omega (arith, size, length-append (number_text t.form n) rest, number_least t.form n t.fits)

-- ---- heads of arrays

array_within : (n limit size : ℕ) → n < limit → 1 ≤ size → (16 < limit → 3 ≤ size) → (2 ^ 16 < limit → 5 ≤ size) → length (array_written n) ≤ size
unfolding array_written
array_within n limit size lt one three five = elim (chosen (ltb n 16) _ _ (shortest_array n) refl) [
  | inl p ↦ rw (← p.1) one
  | inr p ↦ elim (chosen (ltb n (2 ^ 16)) _ _ (shortest_array n) p.1) [
    | inl q ↦ rw (← q.1) (three (omega (arith, ltb-false _ _ p.0)))
    | inr q ↦ rw (← q.1) (five (omega (arith, ltb-false _ _ q.0)))
  ]
]

array_least : (form : ArrayForm) (n : ℕ) → n < array_limit form → length (array_written n) ≤ length (array_text form n)
array_least spell.short n lt = array_within n 16 1 lt (omega arith) (λ h. omega arith) (λ h. omega arith)
array_least spell.wide16 n lt = array_within n (2 ^ 16) 3 lt (omega arith) (λ h. omega arith) (λ h. omega arith)
array_least spell.wide32 n lt = array_within n (2 ^ 32) 5 lt (omega arith) (λ h. omega arith) (λ h. omega arith)

pub array_shortest : (bytes : List ℕ) (n : ℕ) (rest : List ℕ) → ArrayThen bytes n rest → length (array_written n) + length rest ≤ length bytes
array_shortest bytes n rest t =
    let size = ap (λ (b : List ℕ). length b) t.text in
    omega (arith, size, length-append (array_text t.form n) rest, array_least t.form n t.fits)

-- ---- texts

text_within : (n limit size : ℕ) → n < limit → 1 ≤ size → (32 < limit → 2 ≤ size) → (2 ^ 8 < limit → 3 ≤ size) → (2 ^ 16 < limit → 5 ≤ size)
    → length (text_head_written n) ≤ size
unfolding text_head_written
text_within n limit size lt one two three five = elim (chosen (ltb n 32) _ _ (shortest_text n) refl) [
  | inl p ↦ rw (← p.1) one
  | inr p ↦ elim (chosen (ltb n (2 ^ 8)) _ _ (shortest_text n) p.1) [
    | inl q ↦ rw (← q.1) (two (omega (arith, ltb-false _ _ p.0)))
    | inr q ↦ elim (chosen (ltb n (2 ^ 16)) _ _ (shortest_text n) q.1) [
      | inl r ↦ rw (← r.1) (three (omega (arith, ltb-false _ _ q.0)))
      | inr r ↦ rw (← r.1) (five (omega (arith, ltb-false _ _ r.0)))
    ]
  ]
]

text_least : (form : TextForm) (n : ℕ) → n < text_limit form → length (text_head_written n) ≤ length (text_head form n)
text_least spell.short n lt = text_within n 32 1 lt (omega arith) (λ h. omega arith) (λ h. omega arith) (λ h. omega arith)
text_least spell.wide8 n lt = text_within n (2 ^ 8) 2 lt (omega arith) (λ h. omega arith) (λ h. omega arith) (λ h. omega arith)
text_least spell.wide16 n lt = text_within n (2 ^ 16) 3 lt (omega arith) (λ h. omega arith) (λ h. omega arith) (λ h. omega arith)
text_least spell.wide32 n lt = text_within n (2 ^ 32) 5 lt (omega arith) (λ h. omega arith) (λ h. omega arith) (λ h. omega arith)

pub text_shortest : (bytes t rest : List ℕ) → TextThen bytes t rest → length (text_written t) + length rest ≤ length bytes
unfolding text_written
text_shortest bytes t rest there =
    let size = ap (λ (b : List ℕ). length b) there.text in
    omega (
      arith,
      size,
      length-append (text_head there.form (length t)) (t ++ rest),
      length-append t rest,
      length-append (text_head_written (length t)) t,
      text_least there.form (length t) there.fits,
    )

-- ---- hashes

each_shortest : (bytes bs rest : List ℕ) → BytesThen bytes bs rest → length (flat_map number_written bs) + length rest ≤ length bytes
each_shortest bytes [] rest t = let size = ap (λ (b : List ℕ). length b) t in omega (arith, size)
each_shortest bytes (b ∷ bs) rest t =
    let parts : length (flat_map number_written (b ∷ bs)) ≡ length (number_written b) + length (flat_map number_written bs) =
    rw flat_map-cons (length-append (number_written b) (flat_map number_written bs)) in
    omega (arith, parts, number_shortest bytes b t.1 t.2, each_shortest t.1 bs rest t.3)

pub hash_shortest : (bytes hash rest : List ℕ) → HashThen bytes hash rest → length (hash_written hash) + length rest ≤ length bytes
unfolding hash_written
hash_shortest bytes hash rest t =
    omega (
      arith,
      length-append (array_written 16) (flat_map number_written hash),
      array_shortest bytes 16 t.items t.head,
      each_shortest t.items hash rest t.each,
    )

-- ---- moments

pub moment_shortest : (bytes : List ℕ) (m : ℕ) (rest : List ℕ) → MomentThen bytes m rest → length (moment_written m) + length rest ≤ length bytes
unfolding moment_written
moment_shortest bytes m rest t =
    let secs : t.secs ≡ m / 1000000000 = omega (arith, t.moment, t.in_second) in
    let nanos : t.nanos ≡ m % 1000000000 = omega (arith, t.moment, t.in_second) in
    let first = ap (λ (n : ℕ). length (number_written n)) secs in
    let second = ap (λ (n : ℕ). length (number_written n)) nanos in
    simp length-append (omega (
      arith,
      first,
      second,
      array_shortest bytes 2 t.items t.head,
      number_shortest t.items t.secs t.later t.first,
      number_shortest t.later t.nanos rest t.second,
    ))
