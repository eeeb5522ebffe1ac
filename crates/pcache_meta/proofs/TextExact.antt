-- A text is read exactly when it is spelled.
use Rattle.std.specs.Str.{is_utf8}
use Rattle.std.proofs.lemmas.List.{length-append, length-take-le}
use Rattle.std.proofs.lemmas.Str.{IsUtf8-from_is_utf8, is_utf8-from_IsUtf8}
use Rattle.pcache_meta.specs.Reading.{bytes_at, text_head_at, utf8_of, text_at}
use Rattle.pcache_meta.proofs.Words.{◌≡◌, ℕ, ◌+◌, ◌-◌, ◌^◌, ◌<◌, ◌≤◌, Bool, true, false, ltb, eqb, List, [], ◌∷◌, ◌++◌, length, take, drop, Some, None, refl, sym, ap, ◌∙◌, arith, inl, inr, IsUtf8, w8, w16, w32, to_be_bytes, ltb-true, ltb-false, lt-ltb, le-ltb, take_at, drop_at, take-append-drop, some_pair_parts, TextForm, text_limit, text_head, TextThen}
use Rattle.pcache_meta.specs.Spelling as spell
use Rattle.pcache_meta.proofs.Exact.{IsBytes, after, after_rest, when_some, chosen, wide_takes, wide_again, wide8, wide16, wide32, marked, IsBytes-rest, IsBytes-behind, same_parts}

not_true : (b : Bool) → (b ≡ true → ⊥) → b ≡ false
not_true true never = absurd (never refl)
not_true false never = refl

pub utf8_of-some : (bytes t : List ℕ) → t ≡ bytes → IsUtf8 bytes → utf8_of bytes ≡ Some t
unfolding utf8_of
utf8_of-some bytes t e is = rw (is_utf8-from_IsUtf8 bytes is, e) refl

pub utf8_of-none : (bytes : List ℕ) → (IsUtf8 bytes → ⊥) → utf8_of bytes ≡ None
unfolding utf8_of
utf8_of-none bytes never = rw (not_true (is_utf8 bytes) (λ e. never (IsUtf8-from_is_utf8 bytes e))) refl

pub bytes_takes : (n : ℕ) (bytes t rest : List ℕ) → bytes_at n bytes ≡ Some (t, rest) → (bytes ≡ t ++ rest) × (length t ≡ n)
unfolding bytes_at
bytes_takes n bytes t rest e = elim (chosen (ltb (length bytes) n) _ _ _ e) [
  | inl p ↦ absurd (cc p.1)
  | inr p ↦
      let long : n ≤ length bytes = ltb-false _ _ p.0 in
      let same = some_pair_parts (take n bytes) t (drop n bytes) rest p.1 in
      (rw (← same.0, ← same.1) (sym (take-append-drop n bytes)), rw (← same.0) (length-take-le n bytes long))
]

bytes_again : (t rest : List ℕ) → bytes_at (length t) (t ++ rest) ≡ Some (t, rest)
unfolding bytes_at
bytes_again t rest =
    let long : ltb (length (t ++ rest)) (length t) ≡ false = le-ltb _ _ (omega (arith, length-append t rest)) in
    rw (long, take_at t rest (length t) refl, drop_at t rest (length t) refl) refl

head_takes : (bytes : List ℕ) (n : ℕ) (rest : List ℕ) → IsBytes bytes → text_head_at bytes ≡ Some (n, rest)
    → (form : TextForm) × (n < text_limit form) × (bytes ≡ text_head form n ++ rest)
unfolding text_head_at
head_takes [] n rest fits e = absurd cc
head_takes (b ∷ bytes) n rest fits e =
    let tail : IsBytes bytes = IsBytes-rest b bytes fits in
    elim (chosen (eqb b 0xD9) _ _ _ e) [
      | inl p ↦ let t = wide_takes w8 (2 ^ 8) wide8 bytes n rest tail p.1 in (spell.wide8, t.1, marked 0xD9 b bytes (to_be_bytes w8 n) rest p.0 t.0)
      | inr p ↦ elim (chosen (eqb b 0xDA) _ _ _ p.1) [
        | inl q ↦ let t = wide_takes w16 (2 ^ 16) wide16 bytes n rest tail q.1 in (spell.wide16, t.1, marked 0xDA b bytes (to_be_bytes w16 n) rest q.0 t.0)
        | inr q ↦ elim (chosen (eqb b 0xDB) _ _ _ q.1) [
          | inl r ↦ let t = wide_takes w32 (2 ^ 32) wide32 bytes n rest tail r.1 in (spell.wide32, t.1, marked 0xDB b bytes (to_be_bytes w32 n) rest r.0 t.0)
          | inr r ↦ elim (chosen (ltb b 0xA0) _ _ _ r.1) [
            | inl s ↦ absurd (cc s.1)
            | inr s ↦ elim (chosen (ltb b 0xC0) _ _ _ s.1) [
              | inl u ↦
                  let same = some_pair_parts (b - 0xA0) n bytes rest u.1 in
                  let low : 0xA0 ≤ b = ltb-false _ _ s.0 in
                  let high : b < 0xC0 = ltb-true _ _ u.0 in
                  let is : b ≡ 0xA0 + n = omega (arith, same.0) in
                  (spell.short, omega (arith, same.0), cc (is, same.1))
              | inr u ↦ absurd (cc u.1)
            ]
          ]
        ]
      ]
    ]

head_again : (form : TextForm) (n : ℕ) (rest : List ℕ) → n < text_limit form → text_head_at (text_head form n ++ rest) ≡ Some (n, rest)
unfolding text_head_at
head_again spell.short n rest lt =
    let a : eqb (0xA0 + n) 0xD9 ≡ false = Prim.grind arith in
    let b : eqb (0xA0 + n) 0xDA ≡ false = Prim.grind arith in
    let c : eqb (0xA0 + n) 0xDB ≡ false = Prim.grind arith in
    let low : ltb (0xA0 + n) 0xA0 ≡ false = le-ltb _ _ (omega arith) in
    let high : ltb (0xA0 + n) 0xC0 ≡ true = lt-ltb _ _ (omega arith) in
    let same : 0xA0 + n - 0xA0 ≡ n = omega arith in
    rw (a, b, c, low, high, same) refl
head_again spell.wide8 n rest lt = wide_again w8 (2 ^ 8) wide8 n rest lt
head_again spell.wide16 n rest lt = wide_again w16 (2 ^ 16) wide16 n rest lt
head_again spell.wide32 n rest lt = wide_again w32 (2 ^ 32) wide32 n rest lt

text_of_parts : (bytes : List ℕ) (form : TextForm) (n : ℕ) (r t rest : List ℕ) → n < text_limit form → bytes ≡ text_head form n ++ r
    → r ≡ t ++ rest → length t ≡ n → IsUtf8 t → TextThen bytes t rest
text_of_parts bytes form n r t rest fits head body len utf8 =
    record { form = form; fits = rw len fits; utf8 = utf8; text = rw (head, body, len) refl }

pub text_takes : (bytes t rest : List ℕ) → IsBytes bytes → text_at bytes ≡ Some (t, rest) → TextThen bytes t rest
unfolding text_at utf8_of
text_takes bytes t rest fits e = after (text_head_at bytes) _ (t, rest) e (λ n r read go.
    let head = head_takes bytes n r fits read in
    after (bytes_at n r) _ (t, rest) go (λ body last read go.
    let parts = bytes_takes n r body last read in
    after_rest (utf8_of body) _ (t, rest) go (λ text read end.
    let w = when_some (is_utf8 body) body text read in
    let there : TextThen bytes body last = text_of_parts bytes head.0 n r body last head.1 head.2 parts.0 parts.1 (IsUtf8-from_is_utf8 body w.0) in
    same_parts TextThen bytes text t last rest end (rw (← w.1) there))))

pub text_again : (bytes t rest : List ℕ) → TextThen bytes t rest → text_at bytes ≡ Some (t, rest)
unfolding text_at
text_again bytes t rest there =
    ap text_at there.text
    ∙ rw (head_again there.form (length t) (t ++ rest) there.fits, bytes_again t rest, utf8_of-some t t refl there.utf8) refl

-- the bytes after a text are bytes
pub text_behind : (bytes t rest : List ℕ) → IsBytes bytes → TextThen bytes t rest → IsBytes rest
text_behind bytes t rest fits there =
    IsBytes-behind t rest (IsBytes-behind (text_head there.form (length t)) (t ++ rest) (rw (← there.text) fits))
