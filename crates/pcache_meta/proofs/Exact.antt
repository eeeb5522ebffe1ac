-- Reading gives exactly what is spelled: what is read is spelled so (`.._takes`), and what is spelled so is read, as
-- that value (`.._again`); the bytes after it are bytes (`.._behind`).
use Rattle.std.proofs.Common.{◌⊎◌}
use Rattle.std.specs.Int.{Width, w64, byte_len, from_be_bytes}
use Rattle.std.proofs.lemmas.Bool.{cases_lt}
use Rattle.std.proofs.lemmas.List.{length-append, length-take, get_or-take, get_or_past, get_or-append-add}
use Rattle.std.proofs.lemmas.Nat.{be_bytes_2, be_bytes_4, be_bytes_8, from_be_bytes-to_be_bytes_2, from_be_bytes-to_be_bytes_4, from_be_bytes-to_be_bytes_8}
use Rattle.pcache_meta.specs.Reading.{wide_at, number_at, array_at, items_at, number_below_at, small_numbers_at, hash_at, starts_with_nil, optional_at, mark_at}
use Rattle.pcache_meta.proofs.Words.{◌≡◌, ℕ, zero, suc, ◌+◌, ◌-◌, ◌^◌, ◌<◌, ◌≤◌, Bool, true, false, cond, ltb, eqb, List, [], ◌∷◌, ◌++◌, length, get_or, take, drop, Option, Some, None, refl, sym, ap, ◌∙◌, arith, inl, inr, w8, w16, w32, to_be_bytes, ltb-false, ltb-true, lt-ltb, le-ltb, eqb-true, take_at, drop_at, take-append-drop, some_pair_parts, NumberForm, number_limit, number_text, NumberThen, ArrayForm, array_limit, array_text, ArrayThen, BytesThen, HashThen, OptionThen, ◌>>=◌, when}
use Rattle.pcache_meta.specs.Spelling as spell

abbrev pub IsBytes : List ℕ → Type 0
IsBytes bytes = (i : ℕ) → get_or bytes i 0 < 256

pub IsBytes-rest : (b : ℕ) (bytes : List ℕ) → IsBytes (b ∷ bytes) → IsBytes bytes
IsBytes-rest b bytes h i = h (suc i)

pub IsBytes-behind : (x y : List ℕ) → IsBytes (x ++ y) → IsBytes y
IsBytes-behind x y h i = rw (get_or-append-add x y i 0) at (h (length x + i))

IsBytes-take : (n : ℕ) (bytes : List ℕ) → IsBytes bytes → IsBytes (take n bytes)
IsBytes-take n bytes h i =
    elim (cases_lt i n) [
      | inl lt ↦ rw (get_or-take n bytes i 0 lt) (h i)
      | inr le ↦ rw (get_or_past (take n bytes) i 0 (omega (arith, length-take n bytes))) (omega arith)
    ]

-- what follows from a step that gave a value and a rest
pub after : {A B P : Type 0} (o : Option (A × List ℕ)) (f : A × List ℕ → Option B) (y : B) → (o >>= f) ≡ Some y
    → ((x : A) (r : List ℕ) → o ≡ Some (x, r) → f (x, r) ≡ Some y → P) → P
after (Some p) f y e go = go p.0 p.1 refl e
after None f y e go = absurd cc

-- the same of a step that gave a rest alone
pub after_rest : {B P : Type 0} (o : Option (List ℕ)) (f : List ℕ → Option B) (y : B) → (o >>= f) ≡ Some y
    → ((r : List ℕ) → o ≡ Some r → f r ≡ Some y → P) → P
after_rest (Some r) f y e go = go r refl e
after_rest None f y e go = absurd cc

pub when_some : (b : Bool) (bytes rest : List ℕ) → when b bytes ≡ Some rest → (b ≡ true) × (bytes ≡ rest)
when_some true bytes rest e = (refl, cc)
when_some false bytes rest e = absurd cc

guard_some : {A : Type 0} (b : Bool) (x y : A) → cond b None (Some x) ≡ Some y → (b ≡ false) × (x ≡ y)
guard_some true x y e = absurd cc
guard_some false x y e = (refl, cc)

-- which way a test went
pub chosen : {A : Type 0} (b : Bool) (x y z : A) → cond b x y ≡ z → ((b ≡ true) × (x ≡ z)) ⊎ ((b ≡ false) × (y ≡ z))
chosen true x y z e = inl (refl, e)
chosen false x y z e = inr (refl, e)

-- ---- numbers of a width

pub record IsWide (w : Width) (limit : ℕ) : Type 0 where
  pub len : (n : ℕ) → length (to_be_bytes w n) ≡ byte_len w
  pub back : (bytes : List ℕ) → length bytes ≡ byte_len w → IsBytes bytes → to_be_bytes w (from_be_bytes w bytes) ≡ bytes
  pub again : (n : ℕ) → n < limit → from_be_bytes w (to_be_bytes w n) ≡ n
  pub below : (bytes : List ℕ) → IsBytes bytes → from_be_bytes w bytes < limit

back_8 : (bytes : List ℕ) → length bytes ≡ 1 → IsBytes bytes → to_be_bytes w8 (from_be_bytes w8 bytes) ≡ bytes
back_8 [] len fits = absurd (omega arith)
back_8 (b ∷ []) len fits = ap (λ (n : ℕ). n ∷ []) (omega (arith, fits 0))
back_8 (b ∷ c ∷ bytes) len fits = absurd (omega arith)

pub wide8 : IsWide w8 (2 ^ 8)
wide8 = record {
  len = λ n. refl;
  back = back_8;
  again = λ n lt. omega arith;
  below = λ bytes fits. omega (arith, fits 0);
}

pub wide16 : IsWide w16 (2 ^ 16)
wide16 = record {
  len = λ n. refl;
  back = λ bytes len fits. be_bytes_2 bytes _ len fits refl;
  again = λ n lt. from_be_bytes-to_be_bytes_2 n lt;
  below = λ bytes fits. omega (arith, fits 0, fits 1);
}

pub wide32 : IsWide w32 (2 ^ 32)
wide32 = record {
  len = λ n. refl;
  back = λ bytes len fits. be_bytes_4 bytes _ len fits refl;
  again = λ n lt. from_be_bytes-to_be_bytes_4 n lt;
  below = λ bytes fits. omega (arith, fits 0, fits 1, fits 2, fits 3);
}

pub wide64 : IsWide w64 (2 ^ 64)
wide64 = record {
  len = λ n. refl;
  back = λ bytes len fits. be_bytes_8 bytes _ len fits refl;
  again = λ n lt. from_be_bytes-to_be_bytes_8 n lt;
  below = λ bytes fits. omega (arith, fits 0, fits 1, fits 2, fits 3, fits 4, fits 5, fits 6, fits 7);
}

pub wide_takes : (w : Width) (limit : ℕ) (wide : IsWide w limit) (bytes : List ℕ) (n : ℕ) (rest : List ℕ) → IsBytes bytes
    → wide_at w bytes ≡ Some (n, rest) → (bytes ≡ to_be_bytes w n ++ rest) × (n < limit)
unfolding wide_at
wide_takes w limit wide bytes n rest fits e =
    let front : List ℕ = take (byte_len w) bytes in
    let g = guard_some (ltb (length bytes) (byte_len w)) (from_be_bytes w front, drop (byte_len w) bytes) (n, rest) e in
    let long : byte_len w ≤ length bytes = ltb-false _ _ g.0 in
    let n-is : from_be_bytes w front ≡ n = ap (λ (p : ℕ × List ℕ). p.0) g.1 in
    let rest-is : drop (byte_len w) bytes ≡ rest = ap (λ (p : ℕ × List ℕ). p.1) g.1 in
    let text : to_be_bytes w n ≡ front = rw (← n-is) (wide.back front (omega (arith, length-take (byte_len w) bytes)) (IsBytes-take (byte_len w) bytes fits)) in
    (rw (text, ← rest-is) (sym (take-append-drop (byte_len w) bytes)), rw (← n-is) (wide.below front (IsBytes-take (byte_len w) bytes fits)))

pub wide_again : (w : Width) (limit : ℕ) (wide : IsWide w limit) (n : ℕ) (rest : List ℕ) → n < limit → wide_at w (to_be_bytes w n ++ rest) ≡ Some (n, rest)
unfolding wide_at
wide_again w limit wide n rest lt =
    let len = wide.len n in
    let long : ltb (length (to_be_bytes w n ++ rest)) (byte_len w) ≡ false = le-ltb _ _ (omega (arith, length-append (to_be_bytes w n) rest)) in
    rw (long, take_at (to_be_bytes w n) rest (byte_len w) len, drop_at (to_be_bytes w n) rest (byte_len w) len, wide.again n lt) refl

-- ---- numbers

pub marked : (mark b : ℕ) (bytes text rest : List ℕ) → eqb b mark ≡ true → bytes ≡ text ++ rest → b ∷ bytes ≡ (mark ∷ text) ++ rest
marked mark b bytes text rest m e = let same : b ≡ mark = eqb-true _ _ m in rw (same, e) refl

pub number_takes : (bytes : List ℕ) (n : ℕ) (rest : List ℕ) → IsBytes bytes → number_at bytes ≡ Some (n, rest) → NumberThen bytes n rest
unfolding number_at
number_takes [] n rest fits e = absurd cc
number_takes (b ∷ bytes) n rest fits e =
    let tail : IsBytes bytes = IsBytes-rest b bytes fits in
    elim (chosen (ltb b 0x80) _ _ _ e) [
      | inl p ↦
          let same = some_pair_parts b n bytes rest p.1 in
          record { form = spell.short; fits = omega (arith, ltb-true b 0x80 p.0, same.0); text = cc (same.0, same.1) }
      | inr p ↦ elim (chosen (eqb b 0xCC) _ _ _ p.1) [
        | inl q ↦ let t = wide_takes w8 (2 ^ 8) wide8 bytes n rest tail q.1 in
            record { form = spell.wide8; fits = t.1; text = marked 0xCC b bytes (to_be_bytes w8 n) rest q.0 t.0 }
        | inr q ↦ elim (chosen (eqb b 0xCD) _ _ _ q.1) [
          | inl r ↦ let t = wide_takes w16 (2 ^ 16) wide16 bytes n rest tail r.1 in
              record { form = spell.wide16; fits = t.1; text = marked 0xCD b bytes (to_be_bytes w16 n) rest r.0 t.0 }
          | inr r ↦ elim (chosen (eqb b 0xCE) _ _ _ r.1) [
            | inl s ↦ let t = wide_takes w32 (2 ^ 32) wide32 bytes n rest tail s.1 in
                record { form = spell.wide32; fits = t.1; text = marked 0xCE b bytes (to_be_bytes w32 n) rest s.0 t.0 }
            | inr s ↦ elim (chosen (eqb b 0xCF) _ _ _ s.1) [
              | inl u ↦ let t = wide_takes w64 (2 ^ 64) wide64 bytes n rest tail u.1 in
                  record { form = spell.wide64; fits = t.1; text = marked 0xCF b bytes (to_be_bytes w64 n) rest u.0 t.0 }
              | inr u ↦ absurd (cc u.1)
            ]
          ]
        ]
      ]
    ]

form_again : (form : NumberForm) (n : ℕ) (rest : List ℕ) → n < number_limit form → number_at (number_text form n ++ rest) ≡ Some (n, rest)
unfolding number_at
form_again spell.short n rest lt = let small : ltb n 0x80 ≡ true = lt-ltb n 0x80 lt in rw small refl
form_again spell.wide8 n rest lt = wide_again w8 (2 ^ 8) wide8 n rest lt
form_again spell.wide16 n rest lt = wide_again w16 (2 ^ 16) wide16 n rest lt
form_again spell.wide32 n rest lt = wide_again w32 (2 ^ 32) wide32 n rest lt
form_again spell.wide64 n rest lt = wide_again w64 (2 ^ 64) wide64 n rest lt

pub number_again : (bytes : List ℕ) (n : ℕ) (rest : List ℕ) → NumberThen bytes n rest → number_at bytes ≡ Some (n, rest)
number_again bytes n rest t = ap number_at t.text ∙ form_again t.form n rest t.fits

pub number_behind : (bytes : List ℕ) (n : ℕ) (rest : List ℕ) → IsBytes bytes → NumberThen bytes n rest → IsBytes rest
number_behind bytes n rest fits t = IsBytes-behind (number_text t.form n) rest (rw (← t.text) fits)

-- ---- heads of arrays

pub array_takes : (bytes : List ℕ) (n : ℕ) (rest : List ℕ) → IsBytes bytes → array_at bytes ≡ Some (n, rest) → ArrayThen bytes n rest
unfolding array_at
array_takes [] n rest fits e = absurd cc
array_takes (b ∷ bytes) n rest fits e =
    let tail : IsBytes bytes = IsBytes-rest b bytes fits in
    elim (chosen (eqb b 0xDC) _ _ _ e) [
      | inl p ↦ let t = wide_takes w16 (2 ^ 16) wide16 bytes n rest tail p.1 in
          record { form = spell.wide16; fits = t.1; text = marked 0xDC b bytes (to_be_bytes w16 n) rest p.0 t.0 }
      | inr p ↦ elim (chosen (eqb b 0xDD) _ _ _ p.1) [
        | inl q ↦ let t = wide_takes w32 (2 ^ 32) wide32 bytes n rest tail q.1 in
            record { form = spell.wide32; fits = t.1; text = marked 0xDD b bytes (to_be_bytes w32 n) rest q.0 t.0 }
        | inr q ↦ elim (chosen (ltb b 0x90) _ _ _ q.1) [
          | inl r ↦ absurd (cc r.1)
          | inr r ↦ elim (chosen (ltb b 0xA0) _ _ _ r.1) [
            | inl s ↦
                let same = some_pair_parts (b - 0x90) n bytes rest s.1 in
                let low : 0x90 ≤ b = ltb-false _ _ r.0 in
                let high : b < 0xA0 = ltb-true _ _ s.0 in
                let is : b ≡ 0x90 + n = omega (arith, same.0) in
                record { form = spell.short; fits = omega (arith, same.0); text = cc (is, same.1) }
            | inr s ↦ absurd (cc s.1)
          ]
        ]
      ]
    ]

array_form_again : (form : ArrayForm) (n : ℕ) (rest : List ℕ) → n < array_limit form → array_at (array_text form n ++ rest) ≡ Some (n, rest)
unfolding array_at
array_form_again spell.short n rest lt =
    let not16 : eqb (0x90 + n) 0xDC ≡ false = Prim.grind arith in
    let not32 : eqb (0x90 + n) 0xDD ≡ false = Prim.grind arith in
    let low : ltb (0x90 + n) 0x90 ≡ false = le-ltb _ _ (omega arith) in
    let high : ltb (0x90 + n) 0xA0 ≡ true = lt-ltb _ _ (omega arith) in
    let same : 0x90 + n - 0x90 ≡ n = omega arith in
    rw (not16, not32, low, high, same) refl
array_form_again spell.wide16 n rest lt = wide_again w16 (2 ^ 16) wide16 n rest lt
array_form_again spell.wide32 n rest lt = wide_again w32 (2 ^ 32) wide32 n rest lt

pub array_again : (bytes : List ℕ) (n : ℕ) (rest : List ℕ) → ArrayThen bytes n rest → array_at bytes ≡ Some (n, rest)
array_again bytes n rest t = ap array_at t.text ∙ array_form_again t.form n rest t.fits

pub array_behind : (bytes : List ℕ) (n : ℕ) (rest : List ℕ) → IsBytes bytes → ArrayThen bytes n rest → IsBytes rest
array_behind bytes n rest fits t = IsBytes-behind (array_text t.form n) rest (rw (← t.text) fits)

form_not_nil : (form : ArrayForm) (n : ℕ) (rest : List ℕ) → n < array_limit form → starts_with_nil (array_text form n ++ rest) ≡ false
form_not_nil spell.short n rest lt = Prim.grind arith
form_not_nil spell.wide16 n rest lt = refl
form_not_nil spell.wide32 n rest lt = refl

-- no array begins as nil does
pub array_not_nil : (bytes : List ℕ) (n : ℕ) (rest : List ℕ) → ArrayThen bytes n rest → starts_with_nil bytes ≡ false
array_not_nil bytes n rest t = ap starts_with_nil t.text ∙ form_not_nil t.form n rest t.fits

-- ---- a reader that gives exactly what is spelled

pub record IsExact {A : Type 0} (read : List ℕ → Option (A × List ℕ)) (Then : List ℕ → A → List ℕ → Type 0) : Type 0 where
  pub takes : (bytes : List ℕ) (x : A) (rest : List ℕ) → IsBytes bytes → read bytes ≡ Some (x, rest) → Then bytes x rest
  pub again : (bytes : List ℕ) (x : A) (rest : List ℕ) → Then bytes x rest → read bytes ≡ Some (x, rest)
  pub behind : (bytes : List ℕ) (x : A) (rest : List ℕ) → IsBytes bytes → Then bytes x rest → IsBytes rest
  pub not_nil : (bytes : List ℕ) (x : A) (rest : List ℕ) → Then bytes x rest → starts_with_nil bytes ≡ false

-- numbers, which never begin as nil does
number_not_nil : (f : NumberForm) (n : ℕ) (rest : List ℕ) → n < number_limit f → starts_with_nil (number_text f n ++ rest) ≡ false
number_not_nil spell.short n rest lt = Prim.grind arith
number_not_nil spell.wide8 n rest lt = refl
number_not_nil spell.wide16 n rest lt = refl
number_not_nil spell.wide32 n rest lt = refl
number_not_nil spell.wide64 n rest lt = refl

pub number_exact : IsExact number_at NumberThen
number_exact = record {
  takes = number_takes;
  again = number_again;
  behind = number_behind;
  not_nil = λ bytes n rest t. ap starts_with_nil t.text ∙ number_not_nil t.form n rest t.fits;
}

pub same_parts : {A : Type 0} (Then : List ℕ → A → List ℕ → Type 0) (bytes : List ℕ) (a x : A) (b y : List ℕ)
    → ◌≡◌ {A = Option (A × List ℕ)} (Some (a, b)) (Some (x, y)) → Then bytes a b → Then bytes x y
same_parts Then bytes a x b y e t =
    let p = some_pair_parts a x b y e in
    rw (← p.0, ← p.1) t

pub items_takes : (count : ℕ) (bytes rest : List ℕ) → IsBytes bytes → items_at count bytes ≡ Some rest → ArrayThen bytes count rest
unfolding items_at
items_takes count bytes rest fits e = after (array_at bytes) _ rest e (λ n r read go.
    let w = when_some _ _ _ go in
    let same : n ≡ count = eqb-true _ _ w.0 in
    rw (← same, ← w.1) (array_takes bytes n r fits read))

pub items_again : (count : ℕ) (bytes rest : List ℕ) → ArrayThen bytes count rest → items_at count bytes ≡ Some rest
unfolding items_at
items_again count bytes rest t = let same : eqb count count ≡ true = Prim.grind arith in rw (array_again bytes count rest t, same) refl

-- ---- a number below a limit

pub record BelowThen (limit : ℕ) (bytes : List ℕ) (n : ℕ) (rest : List ℕ) : Type 0 where
  pub number : NumberThen bytes n rest
  pub below : n < limit

pub number_below_takes : (limit : ℕ) (bytes : List ℕ) (n : ℕ) (rest : List ℕ) → IsBytes bytes → number_below_at limit bytes ≡ Some (n, rest) → BelowThen limit bytes n rest
unfolding number_below_at
number_below_takes limit bytes n rest fits e = after (number_at bytes) _ (n, rest) e (λ k r read go.
    after_rest (when (ltb k limit) r) _ (n, rest) go (λ s check end.
    let w = when_some _ _ _ check in
    let below : k < limit = ltb-true _ _ w.0 in
    let there : BelowThen limit bytes k s = record { number = rw (← w.1) (number_takes bytes k r fits read); below = below } in
    same_parts (BelowThen limit) bytes k n s rest end there))

pub number_below_again : (limit : ℕ) (bytes : List ℕ) (n : ℕ) (rest : List ℕ) → NumberThen bytes n rest → n < limit → number_below_at limit bytes ≡ Some (n, rest)
unfolding number_below_at
number_below_again limit bytes n rest t lt = let yes : ltb n limit ≡ true = lt-ltb _ _ lt in rw (number_again bytes n rest t, yes) refl

-- ---- hashes

small_takes : (n : ℕ) (bytes bs rest : List ℕ) → IsBytes bytes → small_numbers_at n bytes ≡ Some (bs, rest) → BytesThen bytes bs rest × (length bs ≡ n)
unfolding small_numbers_at
small_takes zero bytes bs rest fits e =
    let p = some_pair_parts [] bs bytes rest e in
    rw (← p.0, ← p.1) (refl, refl)
small_takes (suc n) bytes bs rest fits e = after (number_below_at 256 bytes) _ (bs, rest) e (λ b later read go.
    let first = number_below_takes 256 bytes b later fits read in
    after (small_numbers_at n later) _ (bs, rest) go (λ cs last read end.
    let others = small_takes n later cs last (number_behind bytes b later fits first.number) read in
    let p = some_pair_parts (b ∷ cs) bs last rest end in
    rw (← p.0, ← p.1) ((first.below, later, first.number, others.0), ap suc others.1)))

small_again : (bytes bs rest : List ℕ) → BytesThen bytes bs rest → small_numbers_at (length bs) bytes ≡ Some (bs, rest)
unfolding small_numbers_at
small_again bytes [] rest t = ap (λ (x : List ℕ). Some ([], x)) t
small_again bytes (b ∷ bs) rest t =
    rw (number_below_again 256 bytes b t.1 t.2 t.0, small_again t.1 bs rest t.3) refl

small_behind : (bytes bs rest : List ℕ) → IsBytes bytes → BytesThen bytes bs rest → IsBytes rest
small_behind bytes [] rest fits t = rw (← t) fits
small_behind bytes (b ∷ bs) rest fits t = small_behind t.1 bs rest (number_behind bytes b t.1 fits t.2) t.3

hash_takes : (bytes bs rest : List ℕ) → IsBytes bytes → hash_at bytes ≡ Some (bs, rest) → HashThen bytes bs rest
unfolding hash_at
hash_takes bytes bs rest fits e = after_rest (items_at 16 bytes) _ (bs, rest) e (λ items read go.
    let head = items_takes 16 bytes items fits read in
    let each = small_takes 16 items bs rest (array_behind bytes 16 items fits head) go in
    record { size = each.1; items = items; head = head; each = each.0 })

hash_again : (bytes bs rest : List ℕ) → HashThen bytes bs rest → hash_at bytes ≡ Some (bs, rest)
unfolding hash_at
hash_again bytes bs rest t = rw (items_again 16 bytes t.items t.head) (rw t.size at (small_again t.items bs rest t.each))

pub hash_behind : (bytes bs rest : List ℕ) → IsBytes bytes → HashThen bytes bs rest → IsBytes rest
hash_behind bytes bs rest fits t = small_behind t.items bs rest (array_behind bytes 16 t.items fits t.head) t.each

pub hash_exact : IsExact hash_at HashThen
hash_exact = record {
  takes = hash_takes;
  again = hash_again;
  behind = hash_behind;
  not_nil = λ bytes bs rest t. array_not_nil bytes 16 t.items t.head;
}

-- ---- a value, or nil

nil_first : (bytes : List ℕ) → starts_with_nil bytes ≡ true → bytes ≡ 0xC0 ∷ drop 1 bytes
nil_first [] e = absurd cc
nil_first (b ∷ bytes) e = let same : b ≡ 0xC0 = eqb-true _ _ e in rw same refl

pub optional_takes : {A : Type 0} (read : List ℕ → Option (A × List ℕ)) (Then : List ℕ → A → List ℕ → Type 0) → IsExact read Then
    → (bytes : List ℕ) (o : Option A) (rest : List ℕ) → IsBytes bytes → optional_at read bytes ≡ Some (o, rest) → OptionThen Then bytes o rest
unfolding optional_at
optional_takes {A = A} read Then exact bytes o rest fits e = elim (chosen (starts_with_nil bytes) _ _ _ e) [
  | inl p ↦ same_parts (OptionThen Then) bytes None o (drop 1 bytes) rest p.1 (nil_first bytes p.0)
  | inr p ↦ after (read bytes) _ (o, rest) p.1 (λ x r found end.
      same_parts (OptionThen Then) bytes (Some x) o r rest end (exact.takes bytes x r fits found))
]

pub optional_again : {A : Type 0} (read : List ℕ → Option (A × List ℕ)) (Then : List ℕ → A → List ℕ → Type 0) → IsExact read Then
    → (bytes : List ℕ) (o : Option A) (rest : List ℕ) → OptionThen Then bytes o rest → optional_at read bytes ≡ Some (o, rest)
unfolding optional_at
optional_again read Then exact bytes None rest t = rw t refl
optional_again read Then exact bytes (Some x) rest t = rw (exact.not_nil bytes x rest t, exact.again bytes x rest t) refl

pub optional_behind : {A : Type 0} (read : List ℕ → Option (A × List ℕ)) (Then : List ℕ → A → List ℕ → Type 0) → IsExact read Then
    → (bytes : List ℕ) (o : Option A) (rest : List ℕ) → IsBytes bytes → OptionThen Then bytes o rest → IsBytes rest
optional_behind read Then exact bytes None rest fits t = IsBytes-rest 0xC0 rest (rw (← t) fits)
optional_behind read Then exact bytes (Some x) rest fits t = exact.behind bytes x rest fits t

-- ---- a byte that is given

pub mark_takes : (mark : ℕ) (bytes rest : List ℕ) → mark_at mark bytes ≡ Some rest → bytes ≡ mark ∷ rest
unfolding mark_at
mark_takes mark [] rest e = absurd cc
mark_takes mark (b ∷ bytes) rest e =
    let w = when_some _ _ _ e in
    let same : b ≡ mark = eqb-true _ _ w.0 in
    cc (same, w.1)

pub mark_again : (mark : ℕ) (rest : List ℕ) → mark_at mark (mark ∷ rest) ≡ Some rest
unfolding mark_at
mark_again mark rest = let same : eqb mark mark ≡ true = Prim.grind arith in rw same refl
