-- Bytes say one thing.
use Rattle.std.specs.Prelude.{nat_lt, not}
use Rattle.std.specs.Option.{SomeIff}
use Rattle.std.proofs.lemmas.Bool.Decides.{nat_tests}
use Rattle.pcache_response.specs.Response.{IsComplete, HasSizeBy, may_end}
use Rattle.pcache_response.specs.Parts.{is_missing}
use Rattle.pcache_response.specs.Progress.{Parsed, AtHead, AtEnd, HasFailed}
use Rattle.pcache_response.proofs.Words.{◌≡◌, ℕ, ◌-◌, Bool, true, false, Option, None, Some, List, length, take, drop, refl, ap, sym, ◌∙◌, subst, arith, nat_le, FieldValue, ResponseHeader, ReadsHeader, header_of, IsUnfinished, Response, IsResponse, IsUnreadable, HasSize, Given, given_in_all, left_behind, AtBody, TakenIn}
use Rattle.pcache_response.proofs.HeadLemmas.{one_head}
use Rattle.pcache_response.proofs.Ends.{ends_unique}

one_value : (P : Type 0) (v : ℕ) (a b : Option ℕ) → SomeIff a P v → SomeIff b P v → a ≡ b
one_value P v None None h k = refl
one_value P v None (Some y) h k = absurd (h k.0)
one_value P v (Some x) None h k = absurd (k h.0)
one_value P v (Some x) (Some y) h k = ap (λ (n : ℕ). Some n) (h.1 ∙ sym k.1)

one_size_by : (bodiless : Bool) (field : Option FieldValue) (a b : Option ℕ) → HasSizeBy bodiless field a → HasSizeBy bodiless field b → a ≡ b
one_size_by true field a b h k = h ∙ sym k
one_size_by false None a b h k = h ∙ sym k
one_size_by false (Some v) a b h k = one_value _ _ a b h k

one_header : (bytes : List ℕ) (a b : ResponseHeader) → ReadsHeader bytes a → ReadsHeader bytes b → a ≡ b
one_header bytes a b h k = h.3 ∙ ap header_of (one_head bytes h.0 k.0 h.1.reads k.1.reads) ∙ sym k.3

response_is : (h g : ResponseHeader) (a b : Option ℕ) (x y : List ℕ) → h ≡ g → a ≡ b → x ≡ y → ◌≡◌ {A = Response} (record { head = h; size = a; behind = x }) (record { head = g; size = b; behind = y })
response_is h g a b x y e f d = rw (e, f, d) refl

-- bytes are one response at most
pub one_response : (bytes : List ℕ) (r q : Response) → IsResponse bytes r → IsResponse bytes q → r ≡ q
one_response bytes r q h k =
    let cut = ends_unique bytes h.cut k.cut h.ends k.ends in
    let head : r.head ≡ q.head = one_header (take k.cut bytes) r.head q.head (subst (λ n. ReadsHeader (take n bytes) r.head) cut h.head) k.head in
    let size : r.size ≡ q.size = one_size_by _ _ r.size q.size (subst (λ (x : ResponseHeader). HasSize x r.size) head h.size) k.size in
    response_is r.head q.head r.size q.size r.behind q.behind head size (h.behind ∙ ap (λ n. drop n bytes) cut ∙ sym k.behind)

bytes_missing : (left size : Option ℕ) (behind : List ℕ) → left ≡ left_behind size (length behind) → is_missing left ≡ not (may_end size behind)
bytes_missing left None behind is = rw is refl
bytes_missing left (Some k) behind is = rw is (counted k (length behind))
  where
    counted : (k n : ℕ) → nat_lt 0 (k - n) ≡ not (nat_le k n)
    counted k n = grind (arith, nat_tests)

-- if bytes of the body are missing, the response may not end
pub missing_early : (left : Option ℕ) (bytes : List ℕ) (g : Given) → is_missing left ≡ true → TakenIn (AtBody left) bytes g → IsComplete bytes → ⊥
missing_early left bytes g some taken complete =
    let same = one_response bytes complete.0 taken.0 complete.1 taken.1 in
    let ends = subst (λ (r : Response). may_end r.size r.behind ≡ true) same complete.2 in
    let none = bytes_missing left taken.0.size taken.0.behind taken.2 in
    clash (may_end taken.0.size taken.0.behind) (sym none ∙ some) ends
  where
    clash : (b : Bool) → not b ≡ true → b ≡ true → ⊥
    clash true h e = cc
    clash false h e = cc

-- nor while the head has not ended
pub unfinished_early : (bytes : List ℕ) → IsUnfinished bytes → IsComplete bytes → ⊥
unfinished_early bytes unended complete = unended complete.1.cut complete.1.ends

one_head_or_body : (bytes : List ℕ) (r : Response) → IsUnfinished bytes → IsResponse bytes r → ⊥
one_head_or_body bytes r unended h = unended h.cut h.ends

-- parsers that took in the same bytes are in the same state and gave the same
pub one_outcome : (p q : Parsed) (bytes : List ℕ) (g h : Given) → TakenIn p bytes g → TakenIn q bytes h → (p ≡ q) × (g ≡ h)
one_outcome (AtHead a) (AtHead b) bytes g h x y = (ap (λ (k : List ℕ). AtHead k) (x.0 ∙ sym y.0), x.2 ∙ sym y.2)
one_outcome (AtHead a) (AtBody b) bytes g h x y = absurd (one_head_or_body bytes y.0 x.1 y.1)
one_outcome (AtHead a) AtEnd bytes g h x y = absurd y
one_outcome (AtHead a) (HasFailed e) bytes g h x y = absurd y
one_outcome (AtBody a) (AtHead b) bytes g h x y = absurd (one_head_or_body bytes x.0 y.1 x.1)
one_outcome (AtBody a) (AtBody b) bytes g h x y =
    let same = one_response bytes x.0 y.0 x.1 y.1 in (
      ap (λ (l : Option ℕ). AtBody l) (x.2 ∙ ap (λ (r : Response). left_behind r.size (length r.behind)) same ∙ sym y.2),
      x.3 ∙ ap given_in_all same ∙ sym y.3,
    )
one_outcome (AtBody a) AtEnd bytes g h x y = absurd y
one_outcome (AtBody a) (HasFailed e) bytes g h x y = absurd y
one_outcome AtEnd q bytes g h x y = absurd x
one_outcome (HasFailed e) q bytes g h x y = absurd x

-- a head that can't be read is no response, and has ended
pub unreadable_is_none : (p : Parsed) (bytes : List ℕ) (g : Given) → TakenIn p bytes g → IsUnreadable bytes → ⊥
unreadable_is_none (AtHead a) bytes g x bad = x.1 bad.cut bad.ends
unreadable_is_none (AtBody a) bytes g x bad =
    let is = x.1 in
    let cut = ends_unique bytes is.cut bad.cut is.ends bad.ends in
    bad.no_head x.0.head (subst (λ n. ReadsHeader (take n bytes) x.0.head) cut is.head)
unreadable_is_none AtEnd bytes g x bad = x
unreadable_is_none (HasFailed e) bytes g x bad = x
