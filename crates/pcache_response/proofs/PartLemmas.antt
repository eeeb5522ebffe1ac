-- What parts amount to, one after another.
use Rattle.std.proofs.Common.{length-drop, append-nil, min}
use Rattle.std.proofs.lemmas.Bool.{leb-false, leb-true}
use Rattle.std.proofs.lemmas.List.{drop-append-le}
use Rattle.std.proofs.Math.Seq.{drop-append-add, take-nil}
use Rattle.pcache_response.specs.Response.{declared_body, is_whole}
use Rattle.pcache_response.specs.Parts.{parts_of, whole_parts}
use Rattle.pcache_response.specs.declared.response_parse.ParsePart.{ParsePart}
use Rattle.pcache_response.proofs.Words.{◌≡◌, ℕ, ◌+◌, ◌-◌, ◌<◌, ◌≤◌, ◌⊎◌, inl, inr, Bool, true, false, cond, Option, None, Some, List, [], ◌∷◌, ◌++◌, length, take, drop, refl, ap, sym, ◌∙◌, subst, arith, length-append, length-take, ◌==◌, nat_le, eqb-true, take-append-le, take_all, nil_from_length, take-append-add, ResponseHeader, ReadsHeader, EndsAt, Response, IsResponse, IsUnreadable, HasSize, Given, nothing, given_in_all, add_all, body_of, body_parts, left_behind, AtBody, TakenIn}
use Rattle.pcache_response.specs.declared.response_parse.ParsePart.TheVariants as part
use Rattle.pcache_response.proofs.Ends.{ends_more, ends_within}

le_yes : (a b : ℕ) → a ≤ b → nat_le a b ≡ true
le_yes a b h = elim (nat_le a b) as (λ t. nat_le a b ≡ t → t ≡ true) [ true ↦ λ e. refl | false ↦ λ e. absurd (omega (arith, leb-false a b e)) ] refl

le_no : (a b : ℕ) → b < a → nat_le a b ≡ false
le_no a b h = elim (nat_le a b) as (λ t. nat_le a b ≡ t → t ≡ false) [ true ↦ λ e. absurd (omega (arith, leb-true a b e)) | false ↦ λ e. refl ] refl

order : (k n : ℕ) → (k ≤ n) ⊎ (n < k)
order k n = grind arith

-- a part is given if there are bytes for it
add_bytes : (g : Given) (b : List ℕ) (w t : Bool) → (length b == 0) ≡ t → add_all g (cond t [] (part.Body b w ∷ [])) ≡ record { head = g.head; body = g.body ++ b; whole = cond t g.whole w }
add_bytes g b w true e =
    let none : b ≡ [] = nil_from_length b (eqb-true (length b) 0 e) in
    ap (λ (x : List ℕ). record { head = g.head; body = x; whole = g.whole }) (sym (append-nil g.body) ∙ ap (λ x. g.body ++ x) (sym none))
add_bytes g b w false e = refl

-- a front of two pieces is one of the first, and then one of the second
take_two : (n : ℕ) (a b : List ℕ) → (n ≤ length a) ⊎ (length a < n) → take n a ++ take (n - length a) b ≡ take n (a ++ b)
take_two n a b (inl le) =
    let none : n - length a ≡ 0 = omega (arith, le) in
    ap (λ k. take n a ++ take k b) none ∙ append-nil (take n a) ∙ sym (take-append-le n a b le)
take_two n a b (inr gt) =
    let whole : length a + (n - length a) ≡ n = omega (arith, gt) in
    ap (λ x. x ++ take (n - length a) b) (take_all n a (omega (arith, gt))) ∙ sym (take-append-add a b (n - length a)) ∙ ap (λ k. take k (a ++ b)) whole

-- whether so many bytes have come, before and after
whole_two : (n a b : ℕ) (t : Bool) → (min (n - a) b == 0) ≡ t → (n ≤ a + b) ⊎ (a + b < n) → cond t (nat_le n a) (nat_le (n - a) b) ≡ nat_le n (a + b)
whole_two n a b true e (inl le) =
    let z = eqb-true (min (n - a) b) 0 e in
    let few : n ≤ a = omega (arith, z, le) in
    le_yes n a few ∙ sym (le_yes n (a + b) le)
whole_two n a b true e (inr gt) = le_no n a (omega (arith, gt)) ∙ sym (le_no n (a + b) gt)
whole_two n a b false e (inl le) = le_yes (n - a) b (omega (arith, le)) ∙ sym (le_yes n (a + b) le)
whole_two n a b false e (inr gt) = le_no (n - a) b (omega (arith, gt)) ∙ sym (le_no n (a + b) gt)

never : (t : Bool) → cond t false false ≡ false
never true = refl
never false = refl

body_two : (size : Option ℕ) (a b : List ℕ) → declared_body size a ++ declared_body (left_behind size (length a)) b ≡ declared_body size (a ++ b)
body_two None a b = refl
body_two (Some n) a b = take_two n a b (order n (length a))

flag_two : (size : Option ℕ) (a b : List ℕ) (t : Bool) → (length (declared_body (left_behind size (length a)) b) == 0) ≡ t → cond t (is_whole size a) (is_whole (left_behind size (length a)) b) ≡ is_whole size (a ++ b)
flag_two None a b t e = never t
flag_two (Some n) a b t e =
    let sum = length-append a b in
    let count : (min (n - length a) (length b) == 0) ≡ t = ap (λ k. k == 0) (sym (length-take (n - length a) b)) ∙ e in
    whole_two n (length a) (length b) t count (order n (length a + length b)) ∙ ap (λ k. nat_le n k) (sym sum)

given_is : (h : ResponseHeader) (x y : List ℕ) (v w : Bool) → x ≡ y → v ≡ w → ◌≡◌ {A = Given} (record { head = Some h; body = x; whole = v }) (record { head = Some h; body = y; whole = w })
given_is h x y v w e f = rw (e, f) refl

-- the parts of more bytes make up what is given of all
pub body_more : (h : ResponseHeader) (size : Option ℕ) (a b : List ℕ) → add_all (given_in_all (record { head = h; size = size; behind = a })) (body_parts (left_behind size (length a)) b) ≡ given_in_all (record { head = h; size = size; behind = a ++ b })
body_more h size a b =
    let left = left_behind size (length a) in
    add_bytes (given_in_all (record { head = h; size = size; behind = a })) (declared_body left b) (is_whole left b) _ refl
    ∙ given_is h _ _ _ _ (body_two size a b) (flag_two size a b _ refl)

-- and so much is left
pub left_more : (size : Option ℕ) (a b : List ℕ) → left_behind (left_behind size (length a)) (length b) ≡ left_behind size (length (a ++ b))
left_more None a b = refl
left_more (Some n) a b =
    let sum = length-append a b in
    let e : n - length a - length b ≡ n - length (a ++ b) = omega (arith, sum) in
    ap (λ (k : ℕ). Some k) e

left_all : (size : Option ℕ) → left_behind size 0 ≡ size
left_all None = refl
left_all (Some n) = let e : n - 0 ≡ n = omega arith in ap (λ (k : ℕ). Some k) e

no_body : (size : Option ℕ) → declared_body size [] ≡ []
no_body None = refl
no_body (Some n) = take-nil n

-- the parts of a piece in which the head ends make up what is given of it
pub whole_given : (r : Response) → add_all nothing (whole_parts r) ≡ given_in_all r
whole_given r =
    let start : ◌≡◌ {A = Given} (record { head = Some r.head; body = []; whole = is_whole r.size [] }) (given_in_all (record { head = r.head; size = r.size; behind = [] })) = given_is r.head _ _ _ _ (sym (no_body r.size)) refl in
    ap (λ (g : Given). add_all g (body_parts r.size r.behind)) start
    ∙ ap (λ (left : Option ℕ). add_all (given_in_all (record { head = r.head; size = r.size; behind = [] })) (body_parts left r.behind)) (sym (left_all r.size))
    ∙ body_more r.head r.size [] r.behind

-- a head and then a body
pub parts_there : (h : ResponseHeader × Bool) (size : Option ℕ) (b : Option (List ℕ × Bool)) (behind : List ℕ) → h.1 ≡ is_whole size [] → body_of b ≡ body_parts size behind
    → parts_of (record { head = Some h; body = b }) ≡ whole_parts (record { head = h.0; size = size; behind = behind })
parts_there h size b behind e f = ap (λ (xs : List ParsePart). part.Head h.0 h.1 ∷ xs) f ∙ ap (λ (w : Bool). part.Head h.0 w ∷ body_parts size behind) e

-- the rest of a piece
pub rest_is : (k : ℕ) (xs : List ℕ) → take (length xs - k) (drop k xs) ≡ drop k xs
rest_is k xs = take_all (length xs - k) (drop k xs) (omega (arith, length-drop k xs))

-- a response goes on with more bytes after its head
pub response_more : (bytes more : List ℕ) (r : Response) → IsResponse bytes r → IsResponse (bytes ++ more) (record r { behind = r.behind ++ more })
response_more bytes more r h = record {
  cut = h.cut;
  ends = ends_more bytes more h.cut h.ends;
  head = subst (λ xs. ReadsHeader xs r.head) (sym (take-append-le h.cut bytes more (ends_within bytes h.cut h.ends))) h.head;
  size = h.size;
  behind = ap (λ xs. xs ++ more) h.behind ∙ sym (drop-append-le h.cut bytes more (ends_within bytes h.cut h.ends));
}

-- a head that ends in a piece
pub response_starts : (before piece head : List ℕ) (used : ℕ) (header : ResponseHeader) (size : Option ℕ) → EndsAt (before ++ piece) (length before + used) → head ≡ before ++ take used piece → ReadsHeader head header → HasSize header size
    → IsResponse (before ++ piece) (record { head = header; size = size; behind = drop used piece })
response_starts before piece head used header size ends is reads sized = record {
  cut = length before + used;
  ends = ends;
  head = subst (λ xs. ReadsHeader xs header) (is ∙ sym (take-append-add before piece used)) reads;
  size = sized;
  behind = sym (drop-append-add before piece used);
}

-- one that can't be read
pub unreadable_there : (before piece head : List ℕ) (used : ℕ) → EndsAt (before ++ piece) (length before + used) → head ≡ before ++ take used piece → ((header : ResponseHeader) → ¬ (ReadsHeader head header)) → IsUnreadable (before ++ piece)
unreadable_there before piece head used ends is none = record {
  cut = length before + used;
  ends = ends;
  no_head = λ header reads. none header (subst (λ xs. ReadsHeader xs header) (take-append-add before piece used ∙ sym is) reads);
}

-- a body goes on
pub body_joined : (left after : Option ℕ) (bytes piece : List ℕ) (g : Given) (new : List ParsePart) → TakenIn (AtBody left) bytes g → after ≡ left_behind left (length piece) → new ≡ body_parts left piece
    → TakenIn (AtBody after) (bytes ++ piece) (add_all g new)
body_joined left after bytes piece g new taken e f =
    let r = taken.0 in (
      record r { behind = r.behind ++ piece },
      response_more bytes piece r taken.1,
      e ∙ ap (λ (l : Option ℕ). left_behind l (length piece)) taken.2 ∙ left_more r.size r.behind piece,
      ap (add_all g) (f ∙ ap (λ (l : Option ℕ). body_parts l piece) taken.2) ∙ ap (λ (x : Given). add_all x (body_parts (left_behind r.size (length r.behind)) piece)) taken.3 ∙ body_more r.head r.size r.behind piece,
    )
