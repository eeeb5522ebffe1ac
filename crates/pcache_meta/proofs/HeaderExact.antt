-- The text of a head is read exactly when it is spelled.
use Rattle.std.proofs.Common.{length-append}
use Rattle.std.specs.Prelude.{codes}
use Rattle.http_header.specs.Token.{is_token_byte}
use Rattle.pcache_meta.specs.HeaderText.{field_text, field_line, fields_text, version_text, status_text, header_text}
use Rattle.pcache_meta.specs.HeaderReading.{name_at, value_at, field_at, append_at, fields_at, version_at, status_at, status_line_at, ordered_at, header_at, unordered_at}
use Rattle.pcache_meta.specs.Reading.{bytes_at, mark_at}
use Rattle.pcache_meta.specs.declared.header.HttpVersion.TheVariants.{Http09, Http10, Http11, Http2, Http3}
use Rattle.pcache_meta.proofs.Words.{◌≡◌, ℕ, zero, suc, ◌<◌, ◌≤◌, Bool, true, false, eqb, List, [], ◌∷◌, ◌++◌, length, Option, Some, None, refl, sym, ap, subst, ◌∙◌, append_assoc, arith, inl, inr, All, ◌&&◌, IsTrue, bytes_eq, list_all, flat_map, eqb-true, append-nil, append_cancel_left, nil_from_length, flat_map-cons, All-nil, All-cons, All-head, All-tail, some_pair_parts, same_Some, bytes_eq-Decides, IsStatusCode, code_digits, token_test, is_value_byte, AllPass, IsHeaderName, is_header_name, IsFieldValue, append, append_all, pairs, IsHeaderName-from_test, AllPass-from_test, Fields, Header, Field, IsField, FitsMap, line_end, SpellsHeader, line_from, name_from, ◌>>=◌, HttpVersion}
use Rattle.pcache_meta.proofs.Exact.{after, after_rest, when_some, chosen, mark_takes, mark_again}
use Rattle.pcache_meta.proofs.TextExact.{bytes_takes}
use Rattle.pcache_meta.proofs.HeaderLines.{line_then, fields_step, fields_none, line_shorter}
use Rattle.pcache_meta.proofs.HeaderMaps.{append_at-held, append_at-takes, FitsMap-before}
use Rattle.pcache_meta.proofs.HeaderNames.{name_at-some, value_at-some, not_true, status_at-some, status_at-takes}

-- what follows from a step that gave something
pub after_one : {A B P : Type 0} (o : Option A) (f : A → Option B) (y : B) → (o >>= f) ≡ Some y → ((x : A) → o ≡ Some x → f x ≡ Some y → P) → P
after_one (Some x) f y e go = go x refl e
after_one None f y e go = absurd cc

-- ---- the colon

pub name_takes : (front bytes n r : List ℕ) → name_from front bytes ≡ Some (n, r) → (k : List ℕ) × (n ≡ front ++ k) × (bytes ≡ k ++ 0x3A ∷ r)
name_takes front [] n r e = absurd cc
name_takes front (a ∷ bytes) n r e = elim (chosen (eqb a 0x3A) _ _ _ e) [
  | inl p ↦
      let same = some_pair_parts front n bytes r p.1 in
      let colon : a ≡ 0x3A = eqb-true _ _ p.0 in
      ([], sym same.0 ∙ sym (append-nil front), cc (colon, same.1))
  | inr p ↦
      let (k, is, text) = name_takes (front ++ a ∷ []) bytes n r p.1 in
      (a ∷ k, is ∙ append_assoc front (a ∷ []) k, ap (λ (x : List ℕ). a ∷ x) text)
]

no_colon : (b : ℕ) → IsTrue (is_token_byte b) → eqb b 0x3A ≡ false
unfolding is_token_byte
no_colon b t = not_true (eqb b 0x3A) (λ e. let is : b ≡ 0x3A = eqb-true _ _ e in let colon : token_test 0x3A ≡ true = rw is at t in absurd (cc colon))

name_again : (front name r : List ℕ) → AllPass is_token_byte name → name_from front (name ++ 0x3A ∷ r) ≡ Some (front ++ name, r)
name_again front [] r all = ap (λ (x : List ℕ). Some (x, r)) (sym (append-nil front))
name_again front (a ∷ name) r all =
    let other : eqb a 0x3A ≡ false = no_colon a (All-head (λ x. IsTrue (is_token_byte x)) a name all) in
    rw other (name_again (front ++ a ∷ []) name r (All-tail (λ x. IsTrue (is_token_byte x)) a name all)
    ∙ ap (λ (x : List ℕ). Some (x, r)) (append_assoc front (a ∷ []) name))

-- ---- the field

made_name : (bytes name : List ℕ) → name_at bytes ≡ Some name → IsHeaderName name × (bytes ≡ name)
unfolding name_at
made_name bytes name e = let w = when_some (is_header_name bytes) bytes name e in (rw (← w.1) (IsHeaderName-from_test bytes w.0), w.1)

made_value : (bytes value : List ℕ) → value_at bytes ≡ Some value → IsFieldValue value × (bytes ≡ value)
unfolding value_at
made_value bytes value e = let w = when_some (list_all is_value_byte bytes) bytes value e in (rw (← w.1) (AllPass-from_test is_value_byte bytes w.0), w.1)

field_joined : (text k r behind name value : List ℕ) → text ≡ k ++ 0x3A ∷ r → r ≡ 0x20 ∷ behind → k ≡ name → behind ≡ value
    → text ≡ name ++ 0x3A ∷ 0x20 ∷ value
field_joined text k r behind name value whole gap first second = rw (whole, gap, first, second) refl

pub field_takes : (text : List ℕ) (f : Field) → field_at text ≡ Some f → IsField f × (text ≡ field_text f)
unfolding field_at field_text
field_takes text f e = after (name_from [] text) _ f e (λ n r read go.
    let (k, is, whole) = name_takes [] text n r read in
    after_rest (mark_at 0x20 r) _ f go (λ behind space go.
    let gap = mark_takes 0x20 r behind space in
    after_rest (name_at n) _ f go (λ name named go.
    let a = made_name n name named in
    after_rest (value_at behind) _ f go (λ value valued end.
    let b = made_value behind value valued in
    let same = some_pair_parts name f.0 value f.1 end in
    let first : k ≡ f.0 = sym is ∙ a.1 ∙ same.0 in
    let second : behind ≡ f.1 = b.1 ∙ same.1 in
    ((rw (← same.0) a.0, rw (← same.1) b.0), field_joined text k r behind f.0 f.1 whole gap first second)))))

pub field_again : (f : Field) → IsField f → field_at (field_text f) ≡ Some f
unfolding field_at field_text
field_again f is =
    rw (name_again [] f.0 (0x20 ∷ f.1) is.0.0.0.1, mark_again 0x20 f.1, name_at-some f.0 f.0 refl is.0, value_at-some f.1 f.1 refl is.1) refl

-- ---- lines

-- no CR
abbrev HasNoReturn : List ℕ → Type 0
HasNoReturn [] = Unit {0}
HasNoReturn (b ∷ bytes) = (eqb b 0x0D ≡ false) × HasNoReturn bytes

no_return-append : (xs ys : List ℕ) → HasNoReturn xs → HasNoReturn ys → HasNoReturn (xs ++ ys)
no_return-append [] ys a b = b
no_return-append (x ∷ xs) ys a b = (a.0, no_return-append xs ys a.1 b)

token_no_return : (b : ℕ) → IsTrue (is_token_byte b) → eqb b 0x0D ≡ false
unfolding is_token_byte
token_no_return b t = not_true (eqb b 0x0D) (λ e. let is : b ≡ 0x0D = eqb-true _ _ e in let return : token_test 0x0D ≡ true = rw is at t in cc return)

value_no_return : (b : ℕ) → IsTrue (is_value_byte b) → eqb b 0x0D ≡ false
value_no_return b t = not_true (eqb b 0x0D) (λ e. let is : b ≡ 0x0D = eqb-true _ _ e in let return : is_value_byte 0x0D ≡ true = rw is at t in cc return)

name_no_return : (bytes : List ℕ) → AllPass is_token_byte bytes → HasNoReturn bytes
name_no_return [] all = tt
name_no_return (b ∷ bytes) all =
    (token_no_return b (All-head (λ x. IsTrue (is_token_byte x)) b bytes all), name_no_return bytes (All-tail (λ x. IsTrue (is_token_byte x)) b bytes all))

values_no_return : (bytes : List ℕ) → AllPass is_value_byte bytes → HasNoReturn bytes
values_no_return [] all = tt
values_no_return (b ∷ bytes) all =
    (value_no_return b (All-head (λ x. IsTrue (is_value_byte x)) b bytes all), values_no_return bytes (All-tail (λ x. IsTrue (is_value_byte x)) b bytes all))

pub field_no_return : (f : Field) → IsField f → HasNoReturn (field_text f)
unfolding field_text
field_no_return f is =
    no_return-append f.0 (0x3A ∷ 0x20 ∷ f.1) (name_no_return f.0 is.0.0.0.1) (refl, (refl, values_no_return f.1 is.1))

pub line_takes : (front bytes text behind : List ℕ) → line_from front bytes ≡ Some (text, behind)
    → (k : List ℕ) × (text ≡ front ++ k) × (bytes ≡ k ++ (0x0D ∷ 0x0A ∷ behind))
line_takes front [] text behind e = absurd cc
line_takes front (a ∷ []) text behind e = absurd cc
line_takes front (a ∷ b ∷ bytes) text behind e = elim (chosen (eqb a 0x0D && eqb b 0x0A) _ _ _ e) [
  | inl p ↦
      let same = some_pair_parts front text bytes behind p.1 in
      let both = and_parts (eqb a 0x0D) (eqb b 0x0A) p.0 in
      let return : a ≡ 0x0D = eqb-true _ _ both.0 in
      let feed : b ≡ 0x0A = eqb-true _ _ both.1 in
      ([], sym same.0 ∙ sym (append-nil front), rw (return, feed, same.1) refl)
  | inr p ↦
      let (k, is, whole) = line_takes (front ++ a ∷ []) (b ∷ bytes) text behind p.1 in
      (a ∷ k, is ∙ append_assoc front (a ∷ []) k, ap (λ (x : List ℕ). a ∷ x) whole)
] where
  and_parts : (x y : Bool) → (x && y) ≡ true → (x ≡ true) × (y ≡ true)
  and_parts true y e = (refl, e)
  and_parts false y e = absurd cc

pub line_again : (front k behind : List ℕ) → HasNoReturn k → line_from front (k ++ (0x0D ∷ 0x0A ∷ behind)) ≡ Some (front ++ k, behind)
line_again front [] behind none = ap (λ (x : List ℕ). Some (x, behind)) (sym (append-nil front))
line_again front (a ∷ []) behind none =
    rw none.0 (line_again (front ++ a ∷ []) [] behind tt ∙ ap (λ (x : List ℕ). Some (x, behind)) (append_assoc front (a ∷ []) []))
line_again front (a ∷ b ∷ k) behind none =
    rw none.0 (line_again (front ++ a ∷ []) (b ∷ k) behind none.1 ∙ ap (λ (x : List ℕ). Some (x, behind)) (append_assoc front (a ∷ []) (b ∷ k)))

-- ---- the lines of the fields

pub fields_cons : (f : Field) (lines : List Field) → fields_text (f ∷ lines) ≡ field_text f ++ (0x0D ∷ 0x0A ∷ fields_text lines)
unfolding fields_text field_line
fields_cons f lines =
    let rest : List ℕ = flat_map field_line lines in
    let first : flat_map field_line (f ∷ lines) ≡ (field_text f ++ line_end) ++ rest = flat_map-cons field_line f lines in
    ap (λ (x : List ℕ). x ++ line_end) first ∙ append_assoc (field_text f ++ line_end) rest line_end ∙ append_assoc (field_text f) line_end (rest ++ line_end)

-- what lines up to the empty one make of a map
pub record Makes (m : Fields) (bytes : List ℕ) (out : Fields) : Type 0 where
  pub lines : List Field
  pub text : bytes ≡ fields_text lines
  pub valid : All IsField lines
  pub made : out ≡ append_all m lines
  pub held : FitsMap out

makes_none : (m out : Fields) (bytes k behind : List ℕ) → bytes ≡ k ++ (0x0D ∷ 0x0A ∷ behind) → k ≡ [] → behind ≡ [] → m ≡ out → FitsMap m → Makes m bytes out
unfolding fields_text
makes_none m out bytes k behind whole empty end same held = record {
  lines = [];
  text = rw (whole, empty, end) refl;
  valid = All-nil IsField;
  made = sym same;
  held = rw (← same) held;
}

makes_more : (m n out : Fields) (bytes k behind : List ℕ) (f : Field) → bytes ≡ k ++ (0x0D ∷ 0x0A ∷ behind) → k ≡ field_text f → IsField f
    → n ≡ append m f.0 f.1 → Makes n behind out → Makes m bytes out
makes_more m n out bytes k behind f whole line field step rest = record {
  lines = f ∷ rest.lines;
  text = rw (whole, line, rest.text) (sym (fields_cons f rest.lines));
  valid = All-cons IsField f rest.lines field rest.valid;
  made = rest.made ∙ ap (λ (x : Fields). append_all x rest.lines) step;
  held = rest.held;
}

-- one line, with what is known of those after it
one_line : (m : Fields) (bytes : List ℕ) (out : Fields) → FitsMap m → fields_at m bytes ≡ Some out
    → ((n : Fields) (behind : List ℕ) → length behind < length bytes → FitsMap n → fields_at n behind ≡ Some out → Makes n behind out) → Makes m bytes out
unfolding fields_at
one_line m bytes out held e later = go (line_from [] bytes) refl where
  go : (o : Option (List ℕ × List ℕ)) → line_from [] bytes ≡ o → Makes m bytes out
  go None line = absurd (let none = fields_none m bytes line in cc)
  go (Some p) line =
      let text : List ℕ = p.0 in
      let behind : List ℕ = p.1 in
      let (k, is, whole) = line_takes [] bytes text behind line in
      let step : line_then m text behind ≡ Some out = sym (fields_step m bytes text behind line) ∙ e in
      elim (chosen (eqb (length text) 0) _ _ _ step) [
        | inl q ↦ elim (chosen (eqb (length behind) 0) _ _ _ q.1) [
          | inl r ↦
              let empty : k ≡ [] = sym is ∙ nil_from_length text (eqb-true _ _ q.0) in
              makes_none m out bytes k behind whole empty (nil_from_length behind (eqb-true _ _ r.0)) (same_Some m out r.1) held
          | inr r ↦ absurd (cc r.1)
        ]
        | inr q ↦ after_one (field_at text) _ out q.1 (λ f read rest.
            let parts = field_takes text f read in
            after_one (append_at m f) _ out rest (λ n room rest.
            let taken = append_at-takes m f n room in
            makes_more m n out bytes k behind f whole (sym is ∙ parts.1) parts.0 taken.0 (later n behind (line_shorter [] bytes text behind line) taken.1 rest)))
      ]

fields_takes_within : (count : ℕ) (m : Fields) (bytes : List ℕ) (out : Fields) → length bytes ≤ count → FitsMap m → fields_at m bytes ≡ Some out → Makes m bytes out
fields_takes_within zero m bytes out short held e =
    one_line m bytes out held e (λ n behind shorter held' e'. absurd (omega (arith, short, shorter)))
fields_takes_within (suc count) m bytes out short held e =
    one_line m bytes out held e (λ n behind shorter held' e'. fields_takes_within count n behind out (omega (arith, short, shorter)) held' e')

fields_takes : (bytes : List ℕ) (out : Fields) → fields_at [] bytes ≡ Some out → Makes [] bytes out
fields_takes bytes out e = fields_takes_within (length bytes) [] bytes out (omega arith) (omega arith, omega arith) e

held_start : (m : Fields) (lines : List Field) → FitsMap (append_all m lines) → FitsMap m
held_start m [] held = held
held_start m (f ∷ lines) held = FitsMap-before m f (held_start (append m f.0 f.1) lines held)

fields_again : (m : Fields) (lines : List Field) → All IsField lines → FitsMap (append_all m lines) → fields_at m (fields_text lines) ≡ Some (append_all m lines)
unfolding fields_at fields_text field_text
fields_again m [] valid held = refl
fields_again m (f ∷ lines) valid held =
    let field = All-head IsField f lines valid in
    let rest = fields_again (append m f.0 f.1) lines (All-tail IsField f lines valid) held in
    let some : eqb (length (field_text f)) 0 ≡ false = Prim.grind (arith, length-append f.0 (0x3A ∷ 0x20 ∷ f.1)) in
    let line = line_again [] (field_text f) (fields_text lines) (field_no_return f field) in
    ap (λ (b : List ℕ). fields_at m b) (fields_cons f lines)
    ∙ fields_step m (field_text f ++ (0x0D ∷ 0x0A ∷ fields_text lines)) (field_text f) (fields_text lines) line
    ∙ rw (some, field_again f field, append_at-held m f (held_start (append m f.0 f.1) lines held)) rest

-- ---- the line of version and status

version_takes : (bytes : List ℕ) (v : HttpVersion) → version_at bytes ≡ Some v → bytes ≡ version_text v ++ 0x20 ∷ []
unfolding version_at
version_takes bytes v e = elim (chosen (bytes_eq bytes (codes "HTTP/0.9 ")) _ _ _ e) [
  | inl p ↦ text_is (codes "HTTP/0.9 ") Http09 p.0 p.1 refl
  | inr p ↦ elim (chosen (bytes_eq bytes (codes "HTTP/1.0 ")) _ _ _ p.1) [
    | inl q ↦ text_is (codes "HTTP/1.0 ") Http10 q.0 q.1 refl
    | inr q ↦ elim (chosen (bytes_eq bytes (codes "HTTP/1.1 ")) _ _ _ q.1) [
      | inl r ↦ text_is (codes "HTTP/1.1 ") Http11 r.0 r.1 refl
      | inr r ↦ elim (chosen (bytes_eq bytes (codes "HTTP/2.0 ")) _ _ _ r.1) [
        | inl s ↦ text_is (codes "HTTP/2.0 ") Http2 s.0 s.1 refl
        | inr s ↦ elim (chosen (bytes_eq bytes (codes "HTTP/3.0 ")) _ _ _ s.1) [
          | inl u ↦ text_is (codes "HTTP/3.0 ") Http3 u.0 u.1 refl
          | inr u ↦ absurd (cc u.1)
        ]
      ]
    ]
  ]
] where
  text_is : (text : List ℕ) (w : HttpVersion) → bytes_eq bytes text ≡ true → ◌≡◌ {A = Option HttpVersion} (Some w) (Some v) → text ≡ version_text w ++ 0x20 ∷ []
      → bytes ≡ version_text v ++ 0x20 ∷ []
  text_is text w test same is =
      (bytes_eq-Decides bytes text).0 test ∙ is ∙ ap (λ (x : HttpVersion). version_text x ++ 0x20 ∷ []) (same_Some w v same)

version_again : (v : HttpVersion) → version_at (version_text v ++ 0x20 ∷ []) ≡ Some v
unfolding version_at
version_again Http09 = refl
version_again Http10 = refl
version_again Http11 = refl
version_again Http2 = refl
version_again Http3 = refl

pub status_line_takes : (text : List ℕ) (x : HttpVersion × ℕ) → status_line_at text ≡ Some x → (text ≡ status_text x.0 x.1) × IsStatusCode x.1
unfolding status_line_at status_text
status_line_takes text x e = after (bytes_at 9 text) _ x e (λ front rest cut go.
    let whole = bytes_takes 9 text front rest cut in
    after_one (version_at front) _ x go (λ v version go.
    let first = version_takes front v version in
    after_one (status_at rest) _ x go (λ n status end.
    let second = status_at-takes rest n status in
    let same : ◌≡◌ {A = HttpVersion × ℕ} (v, n) x = same_Some (v, n) x end in
    let text_is : text ≡ version_text v ++ 0x20 ∷ code_digits n =
    whole.0 ∙ rw (first, second.1) (append_assoc (version_text v) (0x20 ∷ []) (code_digits n)) in
    rw (← same) (text_is, second.0))))

cut_again : (v : HttpVersion) (n : ℕ) → bytes_at 9 (status_text v n) ≡ Some (version_text v ++ 0x20 ∷ [], code_digits n)
unfolding bytes_at status_text
cut_again Http09 n = refl
cut_again Http10 n = refl
cut_again Http11 n = refl
cut_again Http2 n = refl
cut_again Http3 n = refl

pub status_line_again : (v : HttpVersion) (n : ℕ) → IsStatusCode n → status_line_at (status_text v n) ≡ Some (v, n)
unfolding status_line_at
status_line_again v n is = rw (cut_again v n, version_again v, status_at-some (code_digits n) n refl is) refl

version_no_return : (v : HttpVersion) → HasNoReturn (version_text v)
version_no_return Http09 = (refl, (refl, (refl, (refl, (refl, (refl, (refl, (refl, tt))))))))
version_no_return Http10 = (refl, (refl, (refl, (refl, (refl, (refl, (refl, (refl, tt))))))))
version_no_return Http11 = (refl, (refl, (refl, (refl, (refl, (refl, (refl, (refl, tt))))))))
version_no_return Http2 = (refl, (refl, (refl, (refl, (refl, (refl, (refl, (refl, tt))))))))
version_no_return Http3 = (refl, (refl, (refl, (refl, (refl, (refl, (refl, (refl, tt))))))))

pub status_no_return : (v : HttpVersion) (n : ℕ) → HasNoReturn (status_text v n)
unfolding status_text
status_no_return v n =
    no_return-append (version_text v) (0x20 ∷ code_digits n) (version_no_return v) (refl, (Prim.grind arith, (Prim.grind arith, (Prim.grind arith, tt))))

-- ---- the whole text

pub text_parts : (v : HttpVersion) (n : ℕ) (lines : List Field) → header_text v n lines ≡ status_text v n ++ (0x0D ∷ 0x0A ∷ fields_text lines)
unfolding header_text
text_parts v n lines = append_assoc (status_text v n) line_end (fields_text lines)

pub joined : (bytes k text rest first fields : List ℕ) → bytes ≡ k ++ (0x0D ∷ 0x0A ∷ rest) → text ≡ k → text ≡ first → rest ≡ fields
    → bytes ≡ first ++ (0x0D ∷ 0x0A ∷ fields)
joined bytes k text rest first fields whole line is later = rw (whole, ← line, is, later) refl

-- lines that are in their map's order, and no others
ordered_takes : (bytes : List ℕ) (m n : Fields) → ordered_at bytes m ≡ Some n → (n ≡ m) × (bytes ≡ fields_text (pairs m))
unfolding ordered_at
ordered_takes bytes m n e = elim (chosen (bytes_eq bytes (fields_text (pairs m))) _ _ _ e) [
  | inl p ↦ (sym (same_Some m n p.1), (bytes_eq-Decides bytes (fields_text (pairs m))).0 p.0)
  | inr p ↦ absurd (cc p.1)
]

ordered_again : (bytes : List ℕ) (m : Fields) → bytes ≡ fields_text (pairs m) → ordered_at bytes m ≡ Some m
unfolding ordered_at
ordered_again bytes m is = rw ((bytes_eq-Decides bytes (fields_text (pairs m))).1 is) refl

-- what is read is spelled so
pub header_takes : (bytes : List ℕ) (h : Header) → header_at bytes ≡ Some h → SpellsHeader bytes h
unfolding header_at
header_takes bytes h e = after (line_from [] bytes) _ h e (λ text rest line go.
    let (k, is, whole) = line_takes [] bytes text rest line in
    after_one (status_line_at text) _ h go (λ x status go.
    let first = status_line_takes text x status in
    after_one (fields_at [] rest) _ h go (λ fields read go.
    after_one (ordered_at rest fields) _ h go (λ ordered order end.
    let made = fields_takes rest fields read in
    let stands = ordered_takes rest fields ordered order in
    let there : SpellsHeader bytes (record { version = x.0; status = x.1; fields = fields }) = record {
      lines = made.lines;
      text =
          joined bytes k text rest (status_text x.0 x.1) (fields_text made.lines) whole is first.0 made.text ∙ sym (text_parts x.0 x.1 made.lines);
      status = first.1;
      valid = made.valid;
      fields = made.made;
      held = made.held;
      order =
          joined bytes k text rest (status_text x.0 x.1) (fields_text (pairs fields)) whole is first.0 stands.1 ∙ sym (text_parts x.0 x.1 (pairs fields));
    } in
    let P : Header → Type 0 = λ y. SpellsHeader bytes y in
    subst P (ap (λ (f : Fields). let y : Header = record { version = x.0; status = x.1; fields = f } in y) (sym stands.0) ∙ same_Some (record { version = x.0; status = x.1; fields = ordered }) h end) there))))

-- what is spelled so is read
pub header_again : (bytes : List ℕ) (h : Header) → SpellsHeader bytes h → header_at bytes ≡ Some h
unfolding header_at header_text
header_again bytes h spelled =
    let whole : bytes ≡ status_text h.version h.status ++ (0x0D ∷ 0x0A ∷ fields_text spelled.lines) = spelled.text ∙ text_parts h.version h.status spelled.lines in
    let line = line_again [] (status_text h.version h.status) (fields_text spelled.lines) (status_no_return h.version h.status) in
    let fields = fields_again [] spelled.lines spelled.valid (rw (← spelled.fields) spelled.held) in
    let same : fields_text spelled.lines ≡ fields_text (pairs (append_all [] spelled.lines)) =
    append_cancel_left (status_text h.version h.status ++ line_end) _ _ (sym spelled.text ∙ spelled.order ∙ ap (λ (m : Fields). header_text h.version h.status (pairs m)) spelled.fields) in
    rw (whole, line, status_line_again h.version h.status spelled.status, fields, ordered_again (fields_text spelled.lines) (append_all [] spelled.lines) same)
    (ap (λ (f : Fields). let x : Header = record { version = h.version; status = h.status; fields = f } in Some x) (sym spelled.fields))

-- what is read is also read without a look at the order of its lines
pub unordered_again : (bytes : List ℕ) (h : Header) → header_at bytes ≡ Some h → unordered_at bytes ≡ Some h
unfolding header_at unordered_at
unordered_again bytes h e = after (line_from [] bytes) _ h e (λ text rest line go.
    after_one (status_line_at text) _ h go (λ x status go.
    after_one (fields_at [] rest) _ h go (λ fields read go.
    after_one (ordered_at rest fields) _ h go (λ ordered order end.
    let stands = ordered_takes rest fields ordered order in
    rw (line, status, read) (ap (λ (f : Fields). let y : Header = record { version = x.0; status = x.1; fields = f } in Some y) (sym stands.0) ∙ end)))))
