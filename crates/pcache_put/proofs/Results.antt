-- What comes of a put.
use Rattle.std.proofs.Common.{length-take}
use Rattle.std.specs.Option.{SomeIff}
use Rattle.pcache_base.specs.declared.reason.NoCacheReason.TheVariants.{ResponseTooLarge as TooLarge}
use Rattle.pcache_response.proofs.Ends.{nothing_unfinished}
use Rattle.pcache_response.proofs.Unique.{one_response}
use Rattle.pcache_response.specs.Response.{IsComplete, may_end}
use Rattle.pcache_put.specs.Policies.{Judges, is_above}
use Rattle.pcache_put.specs.Puts.{Outcome, Stores, Declines, Refuses, outcome, ComesTo, NoHead, BadHead, WithHead, IsResult}
use Rattle.pcache_put.specs.State.{Declined}
use Rattle.pcache_put.specs.Steps.{IsRefusal, StoresFilled}
use Rattle.pcache_put.proofs.Words.{◌≡◌, ℕ, ◌-◌, ◌^◌, ◌≤◌, ◌⊎◌, inl, inr, Bool, true, false, Option, None, Some, List, [], ◌∷◌, ◌++◌, length, min, refl, ap, sym, subst, ◌∙◌, arith, length-append, nat_lt, if◌then◌else◌, nat_tests, ErrorType, OutOfMemory, InternalError, InvalidHttpHeader, ResponseTooLarge, IncompleteHttpBody, WriteRemoved, NumbersExhausted, Io, Superseded, NoCacheReason, RespCacheable, Cacheable, Uncacheable, Meta, ResponseHeader, unreadable_is_none, Given, given_in_all, left_behind, Parsed, AtHead, AtBody, HasFailed, TakenIn, Response, IsResponse, IsUnreadable, declared_body, Counted, DeclaresBy, Piece, joined, Says, counted, is_over, Stage, InHead, HasDeclined, IsOver, Filled, BodyRead, BodyTaken, Overrun, Counts, IsWhyOver, TakenBy, limit_of}
use Rattle.pcache_put.proofs.Pieces.{ends_before, judged_more, unreadable_more}

-- ---- one more piece

declined_more : (says : Says) (limit : Option ℕ) (reason : NoCacheReason) (pieces : List Piece) (p : Piece) → Declined says limit reason pieces → Declined says limit reason (pieces ++ p ∷ [])
declined_more says limit reason pieces p h = record {
  r = record h.r { behind = h.r.behind ++ p.bytes };
  now = h.now;
  moment = ends_before pieces p h.now h.moment;
  judged = judged_more says limit pieces p h.now h.r (Uncacheable reason) h.judged;
}

longer : (size : Option ℕ) (a b : List ℕ) → length (declared_body size a) ≤ length (declared_body size (a ++ b))
longer None a b = omega (arith, length-append a b)
longer (Some n) a b = omega (arith, length-append a b, length-take n a, length-take n (a ++ b))

still_over : (limit m n : ℕ) → m ≤ n → nat_lt limit (min m (2 ^ 64 - 1)) ≡ true → nat_lt limit (min n (2 ^ 64 - 1)) ≡ true
still_over limit m n le h = grind (arith, nat_tests)

over_more : (limit : Option ℕ) (a b : List ℕ) → length a ≤ length b → is_over limit a ≡ true → is_over limit b ≡ true
over_more None a b le h = h
over_more (Some limit) a b le h = still_over limit (length a) (length b) le h

overrun_more : (says : Says) (limit : Option ℕ) (pieces : List Piece) (p : Piece) → Overrun says limit pieces → Overrun says limit (pieces ++ p ∷ [])
overrun_more says limit pieces p h = record {
  r = record h.r { behind = h.r.behind ++ p.bytes };
  now = h.now;
  meta = h.meta;
  moment = ends_before pieces p h.now h.moment;
  judged = judged_more says limit pieces p h.now h.r (Cacheable h.meta) h.judged;
  over = over_more limit (declared_body h.r.size h.r.behind) (declared_body h.r.size (h.r.behind ++ p.bytes)) (longer h.r.size h.r.behind p.bytes) h.over;
}

why_more : (says : Says) (limit : Option ℕ) (kind : ErrorType) (pieces : List Piece) (p : Piece) → IsWhyOver says limit kind pieces → IsWhyOver says limit kind (pieces ++ p ∷ [])
why_more says limit InvalidHttpHeader pieces p h = unreadable_more pieces p h
why_more says limit ResponseTooLarge pieces p h = overrun_more says limit pieces p h
why_more says limit IncompleteHttpBody pieces p h = absurd h
why_more says limit OutOfMemory pieces p h = tt
why_more says limit InternalError pieces p h = tt
why_more says limit WriteRemoved pieces p h = tt
why_more says limit NumbersExhausted pieces p h = tt
why_more says limit Io pieces p h = tt
why_more says limit Superseded pieces p h = tt

-- once nothing is stored, and once a call failed
pub taken_declined : (says : Says) (size : Option Counted) (parser : Parsed) (stage now : Stage) (reason : NoCacheReason) (pieces : List Piece) (p : Piece) (f : Option Filled) → stage ≡ HasDeclined reason → now ≡ HasDeclined reason → TakenBy says size parser stage pieces f → TakenBy says size parser now (pieces ++ p ∷ []) f
taken_declined says size parser stage now reason pieces p f is at h =
    let taken = subst (λ (x : Stage). TakenBy says size parser x pieces f) is h in
    subst (λ (x : Stage). TakenBy says size parser x (pieces ++ p ∷ []) f) (sym at) (declined_more says (limit_of size) reason pieces p taken.0, taken.1)

pub taken_over : (says : Says) (size : Option Counted) (parser : Parsed) (stage now : Stage) (kind : ErrorType) (pieces : List Piece) (p : Piece) (f : Option Filled) → stage ≡ IsOver kind → now ≡ IsOver kind → TakenBy says size parser stage pieces f → TakenBy says size parser now (pieces ++ p ∷ []) f
taken_over says size parser stage now kind pieces p f is at h =
    subst (λ (x : Stage). TakenBy says size parser x (pieces ++ p ∷ []) f) (sym at) (why_more says (limit_of size) kind pieces p (subst (λ (x : Stage). TakenBy says size parser x pieces f) is h))

-- ---- the end

pub head_result : (says : Says) (size : Option Counted) (parser : Parsed) (stage : Stage) (pieces : List Piece) (f : Option Filled) → stage ≡ InHead → TakenBy says size parser stage pieces f → IsResult says (limit_of size) pieces (Refuses IncompleteHttpBody)
head_result says size parser stage pieces f is h =
    let taken = subst (λ (x : Stage). TakenBy says size parser x pieces f) is h in
    record { now = 0; moment = inr (λ r response. taken.0.unfinished response.cut response.ends); comes = NoHead taken.0.unfinished refl }

pub declined_result : (says : Says) (size : Option Counted) (parser : Parsed) (stage : Stage) (reason : NoCacheReason) (pieces : List Piece) (f : Option Filled) → stage ≡ HasDeclined reason → TakenBy says size parser stage pieces f → IsResult says (limit_of size) pieces (Declines reason)
declined_result says size parser stage reason pieces f is h =
    let taken = subst (λ (x : Stage). TakenBy says size parser x pieces f) is h in
    record { now = taken.0.now; moment = inl taken.0.moment; comes = WithHead taken.0.r (Uncacheable reason) taken.0.judged refl }

no_response : (bytes : List ℕ) (r : Response) → IsUnreadable bytes → IsResponse bytes r → ⊥
no_response bytes r bad is = unreadable_is_none (AtBody (left_behind r.size (length r.behind))) bytes (given_in_all r) (r, is, refl, refl) bad

overrun_is : (limit : Option ℕ) (meta : Meta) (size : Option ℕ) (behind : List ℕ) → is_over limit (declared_body size behind) ≡ true → Refuses ResponseTooLarge ≡ outcome limit (Cacheable meta) size behind
overrun_is limit meta size behind over = rw over refl

why_result : (says : Says) (limit : Option ℕ) (kind : ErrorType) (pieces : List Piece) → IsWhyOver says limit kind pieces → IsRefusal (IsResult says limit pieces) kind
why_result says limit InvalidHttpHeader pieces h = record { now = 0; moment = inr (λ r is. no_response (joined pieces) r h is); comes = BadHead h refl }
why_result says limit ResponseTooLarge pieces h = record { now = h.now; moment = inl h.moment; comes = WithHead h.r (Cacheable h.meta) h.judged (overrun_is limit h.meta h.r.size h.r.behind h.over) }
why_result says limit IncompleteHttpBody pieces h = absurd h
why_result says limit OutOfMemory pieces h = tt
why_result says limit InternalError pieces h = tt
why_result says limit WriteRemoved pieces h = tt
why_result says limit NumbersExhausted pieces h = tt
why_result says limit Io pieces h = tt
why_result says limit Superseded pieces h = tt

pub over_result : (says : Says) (size : Option Counted) (parser : Parsed) (stage : Stage) (kind : ErrorType) (pieces : List Piece) (f : Option Filled) → stage ≡ IsOver kind → TakenBy says size parser stage pieces f → IsRefusal (IsResult says (limit_of size) pieces) kind
over_result says size parser stage kind pieces f is h = why_result says (limit_of size) kind pieces (subst (λ (x : Stage). TakenBy says size parser x pieces f) is h)

-- a body within its limit
within_limit : (size : Option Counted) (body : List ℕ) → Counts size body → is_over (limit_of size) body ≡ false
within_limit None body counts = refl
within_limit (Some c) body counts = counts.1

ended_is : (limit : Option ℕ) (meta : Meta) (size : Option ℕ) (behind body : List ℕ) → body ≡ declared_body size behind → is_over limit body ≡ false → may_end size behind ≡ true → Stores meta body ≡ outcome limit (Cacheable meta) size behind
ended_is limit meta size behind body is over ends = rw is (rw (ap (is_over limit) (sym is) ∙ over, ends) refl)

early_is : (limit : Option ℕ) (meta : Meta) (size : Option ℕ) (behind body : List ℕ) → body ≡ declared_body size behind → is_over limit body ≡ false → may_end size behind ≡ false → Refuses IncompleteHttpBody ≡ outcome limit (Cacheable meta) size behind
early_is limit meta size behind body is over ends = rw (ap (is_over limit) (sym is) ∙ over, ends) refl

not_yet : (b : Bool) → ¬ (b ≡ true) → b ≡ false
not_yet true h = absurd (h refl)
not_yet false h = refl

in_parser : (says : Says) (limit : Option ℕ) (parser : Parsed) (meta : Meta) (pieces : List Piece) (body : List ℕ) → (h : BodyRead says limit parser meta pieces body) → TakenIn parser (joined pieces) (given_in_all h.r)
in_parser says limit parser meta pieces body h = subst (λ (x : Parsed). TakenIn x (joined pieces) (given_in_all h.r)) (sym h.stands) (h.r, h.judged.response, refl, refl)

pub early_result : (says : Says) (size : Option Counted) (parser : Parsed) (fresh_until : ℕ) (pieces : List Piece) (f : Option Filled) (e : ErrorType) → (e ≡ IncompleteHttpBody) ⊎ (parser ≡ HasFailed e)
    → (e ≡ IncompleteHttpBody → (bytes : List ℕ) (g : Given) → TakenIn parser bytes g → ¬ (IsComplete bytes)) → BodyTaken says size parser fresh_until pieces f → IsRefusal (IsResult says (limit_of size) pieces) e
early_result says size parser fresh_until pieces None e why early h = absurd h
early_result says size parser fresh_until pieces (Some m) e (inr failed) early h = absurd (let at = h.0.stands in cc (failed, at))
early_result says size parser fresh_until pieces (Some m) e (inl is) early h =
    let b = h.0 in
    let ends : may_end b.r.size b.r.behind ≡ false = not_yet (may_end b.r.size b.r.behind) (λ t. early is (joined pieces) (given_in_all b.r) (in_parser says (limit_of size) parser m.meta pieces m.body b) (b.r, b.judged.response, t)) in
    subst (IsRefusal (IsResult says (limit_of size) pieces)) (sym is) (record {
      now = b.now;
      moment = inl b.moment;
      comes = WithHead b.r (Cacheable m.meta) b.judged (early_is (limit_of size) m.meta b.r.size b.r.behind m.body b.came (within_limit size m.body h.1) ends);
    })

pub stored_result : (says : Says) (size : Option Counted) (parser : Parsed) (fresh_until : ℕ) (pieces : List Piece) (f : Option Filled)
    → ((bytes : List ℕ) (g : Given) → TakenIn parser bytes g → IsComplete bytes) → BodyTaken says size parser fresh_until pieces f → StoresFilled (IsResult says (limit_of size) pieces) f
stored_result says size parser fresh_until pieces None complete h = absurd h
stored_result says size parser fresh_until pieces (Some m) complete h =
    let b = h.0 in
    let whole = complete (joined pieces) (given_in_all b.r) (in_parser says (limit_of size) parser m.meta pieces m.body b) in
    let same : whole.0 ≡ b.r = one_response (joined pieces) whole.0 b.r whole.1 b.judged.response in
    let ends : may_end b.r.size b.r.behind ≡ true = subst (λ (r : Response). may_end r.size r.behind ≡ true) same whole.2 in
    record {
      now = b.now;
      moment = inl b.moment;
      comes = WithHead b.r (Cacheable m.meta) b.judged (ended_is (limit_of size) m.meta b.r.size b.r.behind m.body b.came (within_limit size m.body h.1) ends);
    }

-- ---- one result

one_value : (P : Type 0) (v : ℕ) (a b : Option ℕ) → SomeIff a P v → SomeIff b P v → a ≡ b
one_value P v None None h k = refl
one_value P v None (Some y) h k = absurd (h k.0)
one_value P v (Some x) None h k = absurd (k h.0)
one_value P v (Some x) (Some y) h k = ap (λ (n : ℕ). Some n) (h.1 ∙ sym k.1)

one_length : (o : Option (List ℕ)) (a b : Option ℕ) → DeclaresBy o a → DeclaresBy o b → a ≡ b
one_length None a b h k = h ∙ sym k
one_length (Some v) a b h k = one_value _ _ a b h k

one_verdict : (limit : Option ℕ) (answer v w : RespCacheable) → Judges limit answer v → Judges limit answer w → v ≡ w
one_verdict limit (Uncacheable reason) v w h k = h ∙ sym k
one_verdict limit (Cacheable meta) v w h k =
    h.2 ∙ ap (λ (l : Option ℕ). if is_above limit l then Uncacheable TooLarge else Cacheable meta) (one_length _ h.0 k.0 h.1 k.1) ∙ sym k.2

pub one_result : (says : Says) (limit : Option ℕ) (bytes : List ℕ) (now : ℕ) (o q : Outcome) → ((header : ResponseHeader) (now : ℕ) (a b : RespCacheable) → says header now a → says header now b → a ≡ b) → ComesTo says limit bytes now o → ComesTo says limit bytes now q → o ≡ q
one_result says limit bytes now o q unique (NoHead h e) (NoHead k d) = e ∙ sym d
one_result says limit bytes now o q unique (NoHead h e) (BadHead k d) = absurd (h k.cut k.ends)
one_result says limit bytes now o q unique (NoHead h e) (WithHead r v k d) = absurd (h k.response.cut k.response.ends)
one_result says limit bytes now o q unique (BadHead h e) (NoHead k d) = absurd (k h.cut h.ends)
one_result says limit bytes now o q unique (BadHead h e) (BadHead k d) = e ∙ sym d
one_result says limit bytes now o q unique (BadHead h e) (WithHead r v k d) = absurd (no_response bytes r h k.response)
one_result says limit bytes now o q unique (WithHead r v h e) (NoHead k d) = absurd (k h.response.cut h.response.ends)
one_result says limit bytes now o q unique (WithHead r v h e) (BadHead k d) = absurd (no_response bytes r k h.response)
one_result says limit bytes now o q unique (WithHead r v h e) (WithHead s w k d) =
    let same : r ≡ s = one_response bytes r s h.response k.response in
    let answers : h.answer ≡ k.answer = unique s.head now h.answer k.answer (subst (λ (x : Response). says x.head now h.answer) same h.said) k.said in
    let verdict : v ≡ w = one_verdict limit k.answer v w (subst (λ (a : RespCacheable). Judges limit a v) answers h.judged) k.judged in
    e ∙ (λ i. outcome limit (verdict i) (same i).size (same i).behind) ∙ sym d

-- ---- the beginning

pub taken_nothing : (says : Says) → TakenBy says None (AtHead []) InHead [] None
taken_nothing says = (record { unfinished = nothing_unfinished; stands = refl; counts = tt }, refl)

none_over : (limit : ℕ) → nat_lt limit (min 0 (2 ^ 64 - 1)) ≡ false
none_over limit = grind (arith, nat_tests)

none_counted : 0 ≡ counted []
none_counted = refl

-- a limit that is set before the head has ended
pub taken_limited : (says : Says) (size : Option Counted) (limit : ℕ) (parser : Parsed) (stage : Stage) (pieces : List Piece) → stage ≡ InHead → TakenBy says size parser stage pieces None → TakenBy says (Some (record { bytes = 0; limit = limit })) parser stage pieces None
taken_limited says size limit parser stage pieces is h =
    let taken = subst (λ (x : Stage). TakenBy says size parser x pieces None) is h in
    subst (λ (x : Stage). TakenBy says (Some (record { bytes = 0; limit = limit })) parser x pieces None) (sym is)
    (record { unfinished = taken.0.unfinished; stands = taken.0.stands; counts = (none_counted, none_over limit) }, taken.1)
