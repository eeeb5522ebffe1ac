-- What `http_header` says of names and values, and `http` of statuses, as tests.
use Rattle.std.proofs.Common.{◌*◌}
use Rattle.http_header.specs.Token.{is_token_byte, lowercase}
use Rattle.http.specs.StatusCode.{IsCodeText}
use Rattle.pcache_meta.specs.HeaderReading.{name_at, value_at, status_at, are_digits, when_digits}
use Rattle.pcache_meta.proofs.Words.{◌≡◌, ℕ, ◌+◌, ◌-◌, ◌/◌, ◌%◌, Bool, true, false, cond, List, [], ◌∷◌, length, refl, sym, subst, arith, ◌&&◌, IsTrue, nat_lt, nat_le, bytes_eq, list_all, lt-ltb, ltb-true, All-head, All-tail, bytes_eq-Decides, token_test, is_value_byte, AllPass, IsHeaderName, is_header_name, IsFieldValue, Option, Some, None, same_Some, IsStatusCode, code_digits, IsHeaderName-from_test, AllPass-from_test}

pub not_true : (b : Bool) → (b ≡ true → ⊥) → b ≡ false
not_true true never = absurd (never refl)
not_true false never = refl

pub and_true : (a b : Bool) → a ≡ true → b ≡ true → (a && b) ≡ true
and_true a b p q = rw (p, q) refl

test_of_all : (test : ℕ → Bool) (bs : List ℕ) → AllPass test bs → list_all test bs ≡ true
test_of_all test [] all = refl
test_of_all test (b ∷ bs) all =
    and_true (test b) (list_all test bs) (All-head (λ x. IsTrue (test x)) b bs all) (test_of_all test bs (All-tail (λ x. IsTrue (test x)) b bs all))

tokens : (bs : List ℕ) → AllPass is_token_byte bs → list_all token_test bs ≡ true
unfolding is_token_byte
tokens bs all = test_of_all token_test bs all

pub is_header_name-true : (bs : List ℕ) → IsHeaderName bs → is_header_name bs ≡ true
is_header_name-true bs is =
    let some : nat_lt 0 (length bs) ≡ true = lt-ltb _ _ is.0.0.0 in
    let few : nat_le (length bs) 65535 ≡ true = Prim.grind (arith, is.0.1) in
    let low : bytes_eq (lowercase bs) bs ≡ true = (bytes_eq-Decides (lowercase bs) bs).1 is.1 in
    and_true _ _ (and_true _ _ (and_true _ _ some (tokens bs is.0.0.1)) few) low

pub is_header_name-false : (bs : List ℕ) → (IsHeaderName bs → ⊥) → is_header_name bs ≡ false
is_header_name-false bs never = not_true (is_header_name bs) (λ e. never (IsHeaderName-from_test bs e))

pub value_test-true : (bs : List ℕ) → IsFieldValue bs → list_all is_value_byte bs ≡ true
value_test-true bs is = test_of_all is_value_byte bs is

pub value_test-false : (bs : List ℕ) → (IsFieldValue bs → ⊥) → list_all is_value_byte bs ≡ false
value_test-false bs never = not_true (list_all is_value_byte bs) (λ e. never (AllPass-from_test is_value_byte bs e))

-- a name that was made is read; what is no name is not
pub name_at-some : (bs name : List ℕ) → name ≡ bs → IsHeaderName name → name_at bs ≡ Some name
unfolding name_at
name_at-some bs name e is = rw (← e, is_header_name-true name is) refl

pub name_at-none : (bs : List ℕ) → (IsHeaderName bs → ⊥) → name_at bs ≡ None
unfolding name_at
name_at-none bs never = rw (is_header_name-false bs never) refl

pub value_at-some : (bs value : List ℕ) → value ≡ bs → IsFieldValue value → value_at bs ≡ Some value
unfolding value_at
value_at-some bs value e is = rw (← e, value_test-true value is) refl

pub value_at-none : (bs : List ℕ) → (IsFieldValue bs → ⊥) → value_at bs ≡ None
unfolding value_at
value_at-none bs never = rw (value_test-false bs never) refl

-- ---- statuses

are_digits-true : (n : ℕ) (bytes : List ℕ) → IsStatusCode n → code_digits n ≡ bytes → are_digits n bytes ≡ true
are_digits-true n bytes is digits =
    let low : nat_le 100 n ≡ true = Prim.grind (arith, is.0) in
    let high : nat_lt n 1000 ≡ true = lt-ltb _ _ is.1 in
    let text : bytes_eq (code_digits n) bytes ≡ true = (bytes_eq-Decides (code_digits n) bytes).1 digits in
    and_true (nat_le 100 n && nat_lt n 1000) (bytes_eq (code_digits n) bytes) (and_true (nat_le 100 n) (nat_lt n 1000) low high) text

if_true : (b : Bool) (n : ℕ) → b ≡ true → cond b (Some n) None ≡ Some n
if_true true n e = refl
if_true false n e = absurd cc

when_digits-some : (k n : ℕ) (bytes : List ℕ) → k ≡ n → IsStatusCode n → code_digits n ≡ bytes → when_digits k bytes ≡ Some n
when_digits-some k n bytes same is digits =
    let P : ℕ → Type 0 = λ j. when_digits j bytes ≡ Some n in
    subst P (sym same) (if_true (are_digits n bytes) n (are_digits-true n bytes is digits))

pub status_at-some : (bytes : List ℕ) (n : ℕ) → code_digits n ≡ bytes → IsStatusCode n → status_at bytes ≡ Some n
unfolding status_at
status_at-some bytes n digits is =
    let k : ℕ = (48 + n / 100 - 48) * 100 + (48 + n / 10 % 10 - 48) * 10 + (48 + n % 10 - 48) in
    let same : k ≡ n = omega (arith, is.0, is.1) in
    rw (← digits) (when_digits-some k n (code_digits n) same is refl)

pub and_parts : (a b : Bool) → (a && b) ≡ true → (a ≡ true) × (b ≡ true)
and_parts true b e = (refl, e)
and_parts false b e = absurd cc

if_some : (b : Bool) (k n : ℕ) → cond b (Some k) None ≡ Some n → (b ≡ true) × (k ≡ n)
if_some true k n e = (refl, same_Some k n e)
if_some false k n e = absurd cc

when_digits-takes : (k n : ℕ) (bytes : List ℕ) → when_digits k bytes ≡ Some n → IsStatusCode n × (bytes ≡ code_digits n)
when_digits-takes k n bytes e =
    let w = if_some (are_digits k bytes) k n e in
    let parts = and_parts (nat_le 100 k && nat_lt k 1000) (bytes_eq (code_digits k) bytes) w.0 in
    let range = and_parts (nat_le 100 k) (nat_lt k 1000) parts.0 in
    let digits : code_digits k ≡ bytes = (bytes_eq-Decides (code_digits k) bytes).0 parts.1 in
    rw (← w.1) ((Prim.grind (arith, range.0), ltb-true k 1000 range.1), sym digits)

pub status_at-takes : (bytes : List ℕ) (n : ℕ) → status_at bytes ≡ Some n → IsStatusCode n × (bytes ≡ code_digits n)
unfolding status_at
status_at-takes [] n e = absurd cc
status_at-takes (a ∷ []) n e = absurd cc
status_at-takes (a ∷ b ∷ []) n e = absurd cc
status_at-takes (a ∷ b ∷ c ∷ []) n e = when_digits-takes ((a - 48) * 100 + (b - 48) * 10 + (c - 48)) n (a ∷ b ∷ c ∷ []) e
status_at-takes (a ∷ b ∷ c ∷ d ∷ bytes) n e = absurd cc

none_of : (o : Option ℕ) → ((n : ℕ) → o ≡ Some n → ⊥) → o ≡ None
none_of (Some n) never = absurd (never n refl)
none_of None never = refl

pub status_at-none : (bytes : List ℕ) → (IsCodeText bytes → ⊥) → status_at bytes ≡ None
status_at-none bytes never = none_of (status_at bytes) (λ n e. let t = status_at-takes bytes n e in never (n, t.0, t.1))
