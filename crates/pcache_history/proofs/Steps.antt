-- What stands for a key after one more event.
use Rattle.std.proofs.Common.{nat_eq}
use Rattle.std.specs.Option.{option_map, option_eq}
use Rattle.std.proofs.lemmas.Bool.{cases_lt, not-false}
use Rattle.pcache_history.specs.Events.{since, ends, removes, is_replaced}
use Rattle.pcache_history.proofs.Words.{◌≡◌, ℕ, ◌<◌, Bool, true, false, not, ◌&&◌, ◌||◌, ◌==◌, if◌then◌else◌, Option, None, Some, is_some, List, [], ◌∷◌, ◌++◌, refl, ap, sym, subst, ◌∙◌, arith, inl, inr, option_and_then, list_any, eqb-true, ne_eqb, and_parts, both_ways, not-true, or_left, or_right, or_parts, nat_tests, Meta, expired_at, in_place_of, numbered, CacheEntryKey, Stored, Event, Begin, Wrote, Finish, Admit, Purge, Expire, Renew, begun, begin_of, until, stores, goes_with_any, option_any, was_stored, is_removed, has_ended, in_flight, body_of, is_of, last_finished, altered_by, meta_kept, complete, IsTidy}
use Rattle.pcache_history.proofs.Sums.{same-number}

-- a write in flight was begun, and has not ended
pub flies : (w : ℕ) (es : List Event) → in_flight w es ≡ true → (is_some (begin_of w es) ≡ true) × (has_ended w es ≡ false)
flies w es h = let p = and_parts _ _ h in (p.0, not-true _ p.1)

pub below : (w : ℕ) (es : List Event) → IsTidy es → is_some (begin_of w es) ≡ true → w < begun es
below w es tidy h = elim (cases_lt w (begun es)) [ inl lt ↦ lt | inr ge ↦ absurd (both_ways _ (ap is_some (tidy.unbegun w ge)) h) ]

-- a write of a key was begun
pub begun_of : (k w : ℕ) (es : List Event) → is_of k w es ≡ true → is_some (begin_of w es) ≡ true
begun_of k w es h = elim (begin_of w es) as (λ o. option_any (λ (b : ℕ × Meta). b.0 == k) o ≡ true → is_some o ≡ true) [ None ↦ λ e. cc | Some b ↦ λ _. refl ] h

-- what stands of the last finished write of a key, if two readings of each write agree
by_last : {A : Type 0} (o : Option ℕ) (f g : ℕ → Option A) → ((w : ℕ) → o ≡ Some w → f w ≡ g w) → option_and_then f o ≡ option_and_then g o
by_last None f g h = refl
by_last (Some w) f g h = h w refl

-- a body, unless its write met a removal; its meta is what f makes of the one that it began with under its key
abbrev pub unless_removed : Bool → Option (ℕ × Meta) → (ℕ → Meta → Meta) → List ℕ → Option Stored
unless_removed b o f body = if b then None else option_map (λ x. record { meta = f x.0 x.1; bytes = body }) o

pub complete-wrote : (es : List Event) (w : ℕ) (bs : List ℕ) (eof : Bool) → IsTidy es → in_flight w es ≡ true → (k : ℕ) → complete k (Wrote w bs eof ∷ es) ≡ complete k es
complete-wrote es w bs eof tidy fly k =
    by_last (last_finished k es) _ _ (λ x is.
    let apart : (w == x) ≡ false = ne_eqb w x (λ same. both_ways _ (flies w es fly).1 (subst (λ y. has_ended y es ≡ true) (sym same) (tidy.finished k x is).0)) in
    ap (λ b. unless_removed (is_removed x es) (begin_of x es) (meta_kept x es) (if b then body_of x es ++ bs else body_of x es)) apart)

pub complete-begin : (es : List Event) (k : ℕ) (m : Meta) → IsTidy es → (q : ℕ) → complete q (Begin (begun es) k m ∷ es) ≡ complete q es
complete-begin es k m tidy q =
    by_last (last_finished q es) _ _ (λ x is.
    let lt : x < begun es = below x es tidy (begun_of q x es (tidy.finished q x is).1) in
    let apart : (begun es == x) ≡ false = ne_eqb (begun es) x (omega arith) in
    ap (λ b. unless_removed (option_any (λ (a : ℕ × Meta). list_any (removes a.0 x) (if b then [] else Begin (begun es) k m ∷ since x es) || is_replaced a.0 x es) (if b then Some (k, numbered (begun es) m) else begin_of x es)) (if b then Some (k, numbered (begun es) m) else begin_of x es) (meta_kept x es) (body_of x es)) apart)

-- an event that removes writes, those that pass
removed-last : (p r s : ℕ → Bool) (k : ℕ) (o : Option (ℕ × Meta)) (f : ℕ → Meta → Meta) (body : List ℕ) → option_any (λ (b : ℕ × Meta). b.0 == k) o ≡ true
    → unless_removed (option_any (λ (b : ℕ × Meta). (p b.0 || r b.0) || s b.0) o) o f body ≡ (if p k then None else unless_removed (option_any (λ (b : ℕ × Meta). r b.0 || s b.0) o) o f body)
removed-last p r s k None f body h = cc
removed-last p r s k (Some e) f body h =
    ap (λ x. unless_removed ((x || r e.0) || s e.0) (Some e) f body) (ap p (eqb-true e.0 k h))
    ∙ elim (p k) as (λ x. unless_removed ((x || r e.0) || s e.0) (Some e) f body ≡ (if x then None else unless_removed (r e.0 || s e.0) (Some e) f body)) [ true ↦ refl | false ↦ refl ]

under : {A : Type 0} (p : ℕ → Bool) (o : Option ℕ) (f : ℕ → Option A) → option_and_then (λ w. if p w then None else f w) o ≡ (if option_any p o then None else option_and_then f o)
under p None f = refl
under p (Some w) f = refl

-- all of what stands of a key, or nothing
pub whole : {A : Type 0} (b : Bool) (o : Option ℕ) (f : ℕ → Option A) → (if option_any (λ _. b) o then None else option_and_then f o) ≡ (if b then None else option_and_then f o)
whole true None f = refl
whole true (Some w) f = refl
whole false None f = refl
whole false (Some w) f = refl

pub complete-purge : (es : List Event) (k : ℕ) → IsTidy es → (q : ℕ) → complete q (Purge k ∷ es) ≡ (if k == q then None else complete q es)
complete-purge es k tidy q =
    by_last (last_finished q es) _ (λ x. if k == q then None else unless_removed (is_removed x es) (begin_of x es) (meta_kept x es) (body_of x es)) (λ x is.
    removed-last (λ y. k == y) (λ y. list_any (removes y x) (since x es)) (λ y. is_replaced y x es) q (begin_of x es) (meta_kept x es) (body_of x es) (tidy.finished q x is).1)
    ∙ under (λ _. k == q) (last_finished q es) _
    ∙ whole (k == q) (last_finished q es) _

-- whether what stands of a key goes with these entries
abbrev pub goes_last : ℕ → List Event → List CacheEntryKey → Bool
goes_last q es out = option_any (λ w. goes_with_any q w out) (last_finished q es)

pub complete-admit : (es : List Event) (e : CacheEntryKey) (n : ℕ) (out : List CacheEntryKey) → IsTidy es → (q : ℕ) → complete q (Admit e n out ∷ es) ≡ (if goes_last q es out then None else complete q es)
complete-admit es e n out tidy q =
    by_last (last_finished q es) _ (λ x. if goes_with_any q x out then None else unless_removed (is_removed x es) (begin_of x es) (meta_kept x es) (body_of x es)) (λ x is.
    removed-last (λ y. goes_with_any y x out) (λ y. list_any (removes y x) (since x es)) (λ y. is_replaced y x es) q (begin_of x es) (meta_kept x es) (body_of x es) (tidy.finished q x is).1)
    ∙ under (λ x. goes_with_any q x out) (last_finished q es) _

-- the body of a write that is finished
abbrev pub body_with : Meta → List ℕ → Stored
body_with m body = record { meta = m; bytes = body }

-- what came after the finish of another write alters what came after this one's
meta-later : (es : List Event) (w x : ℕ) → (w == x) ≡ false → meta_kept x (Finish w true ∷ es) ≡ meta_kept x es
meta-later es w x apart = ap (λ (b : Bool). λ (k : ℕ) (m : Meta). altered_by k (if b then [] else Finish w true ∷ until (stores x) es) m) apart

-- nothing came after a finish that is the newest event
meta-unaltered : (es : List Event) (w : ℕ) → meta_kept w (Finish w true ∷ es) ≡ (λ k m. m)
meta-unaltered es w = ap (λ (b : Bool). λ (k : ℕ) (m : Meta). altered_by k (if b then [] else Finish w true ∷ until (stores w) es) m) (same-number w)

-- a write is replaced by no finish of its own
and-false : (a : Bool) → (a && false) ≡ false
and-false true = refl
and-false false = refl

pub same-write : (w : ℕ) → option_eq nat_eq (Some w) (Some w) ≡ true
same-write w = grind (arith, nat_tests)

pub its-own : (es : List Event) (w k : ℕ) (m : Meta) → begin_of w es ≡ Some (k, m) → is_removed w es ≡ false → is_removed w (Finish w true ∷ es) ≡ false
its-own es w k m is kept =
    ap after is
    ∙ ap (λ b. list_any (removes k w) (since w es) || ((((w == w) || was_stored w es) && not (option_eq nat_eq (if b then Some w else last_finished k es) (Some w))))) (same-number k)
    ∙ ap (λ b. list_any (removes k w) (since w es) || ((((w == w) || was_stored w es) && not b))) (same-write w)
    ∙ ap (λ b. list_any (removes k w) (since w es) || b) (and-false ((w == w) || was_stored w es))
    ∙ ap (λ b. b || false) (or_parts (list_any (removes k w) (since w es)) (is_replaced k w es) (sym (ap before is) ∙ kept)).0
  where
    after : Option (ℕ × Meta) → Bool
    after o = option_any (λ (b : ℕ × Meta). list_any (removes b.0 w) (since w es) || ((((w == w) || was_stored w es) && not (option_eq nat_eq (if option_any (λ (c : ℕ × Meta). c.0 == b.0) o then Some w else last_finished b.0 es) (Some w))))) o

    before : Option (ℕ × Meta) → Bool
    before o = option_any (λ (b : ℕ × Meta). list_any (removes b.0 w) (since w es) || is_replaced b.0 w es) o

-- the finish of a write leaves those of other keys
pub others-stay : (es : List Event) (w k : ℕ) (m : Meta) → begin_of w es ≡ Some (k, m) → (x q : ℕ) → (k == q) ≡ false → is_of q x es ≡ true → (w == x) ≡ false → is_removed x (Finish w true ∷ es) ≡ is_removed x es
others-stay es w k m is x q other of apart = inner (begin_of x es) of
  where
    inner : (o : Option (ℕ × Meta)) → option_any (λ (c : ℕ × Meta). c.0 == q) o ≡ true
        → option_any (λ (b : ℕ × Meta). list_any (removes b.0 x) (since x es) || (((w == x) || was_stored x es) && not (option_eq nat_eq (if is_of b.0 w es then Some w else last_finished b.0 es) (Some x)))) o
        ≡ option_any (λ (b : ℕ × Meta). list_any (removes b.0 x) (since x es) || is_replaced b.0 x es) o
    inner None h = cc
    inner (Some e) h =
        let none : is_of e.0 w es ≡ false = ap (option_any (λ (c : ℕ × Meta). c.0 == e.0)) is ∙ ap (λ y. k == y) (eqb-true e.0 q h) ∙ other in
        ap (λ b. list_any (removes e.0 x) (since x es) || ((b || was_stored x es) && not (option_eq nat_eq (if is_of e.0 w es then Some w else last_finished e.0 es) (Some x)))) apart
        ∙ ap (λ b. list_any (removes e.0 x) (since x es) || (was_stored x es && not (option_eq nat_eq (if b then Some w else last_finished e.0 es) (Some x)))) none

-- a finish that stores
pub complete-finish : (es : List Event) (w k : ℕ) (m : Meta) → IsTidy es → in_flight w es ≡ true → begin_of w es ≡ Some (k, m) → is_removed w es ≡ false
    → (q : ℕ) → complete q (Finish w true ∷ es) ≡ (if k == q then Some (body_with m (body_of w es)) else complete q es)
complete-finish es w k m tidy fly is kept q =
    ap (λ o. option_and_then now (if option_any (λ (b : ℕ × Meta). b.0 == q) o then Some w else last_finished q es)) is
    ∙ elim (k == q) as (λ b. (k == q) ≡ b → option_and_then now (if b then Some w else last_finished q es) ≡ (if b then Some (body_with m (body_of w es)) else complete q es)) [
      | true ↦ λ _. ap (λ b. unless_removed b (begin_of w es) (meta_kept w (Finish w true ∷ es)) (body_of w es)) (its-own es w k m is kept) ∙ (λ i. unless_removed false (is i) (meta-unaltered es w i) (body_of w es))
      | false ↦ λ other. by_last (last_finished q es) now _ (λ x last.
          let ends = tidy.finished q x last in
          let apart : (w == x) ≡ false = ne_eqb w x (λ same. both_ways _ (flies w es fly).1 (subst (λ y. has_ended y es ≡ true) (sym same) ends.0)) in
          ap (λ b. unless_removed b (begin_of x es) (meta_kept x (Finish w true ∷ es)) (body_of x es)) (others-stay es w k m is x q other ends.1 apart)
          ∙ ap (λ f. unless_removed (is_removed x es) (begin_of x es) f (body_of x es)) (meta-later es w x apart))
    ] refl
  where
    now : ℕ → Option Stored
    now x = unless_removed (is_removed x (Finish w true ∷ es)) (begin_of x es) (meta_kept x (Finish w true ∷ es)) (body_of x es)

-- a write that was stored has ended, so one in flight was not
stores-ends : (w : ℕ) (e : Event) → stores w e ≡ true → ends w e ≡ true
stores-ends w (Finish x true) h = h
stores-ends w (Finish x false) h = absurd (cc)
stores-ends w e h = absurd (cc)

stored-ended : (w : ℕ) (es : List Event) → was_stored w es ≡ true → has_ended w es ≡ true
stored-ended w [] h = absurd (cc)
stored-ended w (e ∷ es) h =
    elim (stores w e) as (λ b. stores w e ≡ b → (b || was_stored w es) ≡ true → (ends w e || has_ended w es) ≡ true) [
      | true ↦ λ t _. or_left _ _ (stores-ends w e t)
      | false ↦ λ _ rest. or_right _ _ (stored-ended w es rest)
    ] refl h

pub not-stored : (w : ℕ) (es : List Event) → has_ended w es ≡ false → was_stored w es ≡ false
not-stored w es live = elim (was_stored w es) as (λ b. was_stored w es ≡ b → b ≡ false) [ true ↦ λ t. absurd (both_ways _ live (stored-ended w es t)) | false ↦ λ _. refl ] refl

-- a write that has not ended was not replaced
pub flies-removed : (w : ℕ) (es : List Event) → has_ended w es ≡ false → is_removed w es ≡ option_any (λ (b : ℕ × Meta). list_any (removes b.0 w) (since w es)) (begin_of w es)
flies-removed w es live =
    ap (λ s. option_any (λ (b : ℕ × Meta). list_any (removes b.0 w) (since w es) || (s && not (option_eq nat_eq (last_finished b.0 es) (Some w)))) (begin_of w es)) (not-stored w es live)
    ∙ elim (begin_of w es) as (λ (o : Option (ℕ × Meta)). option_any (λ (b : ℕ × Meta). list_any (removes b.0 w) (since w es) || false) o ≡ option_any (λ (b : ℕ × Meta). list_any (removes b.0 w) (since w es)) o) [ None ↦ refl | Some b ↦ or-false (list_any (removes b.0 w) (since w es)) ]
  where
    or-false : (b : Bool) → (b || false) ≡ b
    or-false true = refl
    or-false false = refl

-- a stored write of a key that is untouched is the last finished one, and stands
is-last : (o : Option ℕ) (w : ℕ) → option_eq nat_eq o (Some w) ≡ true → o ≡ Some w
is-last None w h = absurd (cc)
is-last (Some x) w h = ap Some (eqb-true x w h)

pub untouched-last : (k w : ℕ) (es : List Event) → was_stored w es ≡ true → is_of k w es ≡ true → is_removed w es ≡ false → last_finished k es ≡ Some w
untouched-last k w es st of kept = inner (begin_of w es) of kept
  where
    inner : (o : Option (ℕ × Meta)) → option_any (λ (b : ℕ × Meta). b.0 == k) o ≡ true → option_any (λ (b : ℕ × Meta). list_any (removes b.0 w) (since w es) || is_replaced b.0 w es) o ≡ false → last_finished k es ≡ Some w
    inner None h clean = absurd (cc)
    inner (Some b) h clean =
        let replaced : is_replaced k w es ≡ false = ap (λ y. is_replaced y w es) (sym (eqb-true b.0 k h)) ∙ (or_parts (list_any (removes b.0 w) (since w es)) (is_replaced b.0 w es) clean).1 in
        is-last (last_finished k es) w (not-false _ (sym (ap (λ s. s && not (option_eq nat_eq (last_finished k es) (Some w))) st) ∙ replaced))

pub survives : (k w : ℕ) (es : List Event) → was_stored w es ≡ true → is_of k w es ≡ true → is_removed w es ≡ false → is_some (complete k es) ≡ true
survives k w es st of kept =
    ap is_some (ap (option_and_then (λ x. unless_removed (is_removed x es) (begin_of x es) (meta_kept x es) (body_of x es))) (untouched-last k w es st of kept)
    ∙ ap (λ b. unless_removed b (begin_of w es) (meta_kept w es) (body_of w es)) kept)
    ∙ elim (begin_of w es) as (λ (o : Option (ℕ × Meta)). option_any (λ (b : ℕ × Meta). b.0 == k) o ≡ true → is_some (unless_removed false o (meta_kept w es) (body_of w es)) ≡ true) [ None ↦ λ h. absurd (cc) | Some b ↦ λ _. refl ] of

-- the body whose meta is altered
abbrev pub altered_body : (Meta → Meta) → Stored → Stored
altered_body g b = record b { meta = g b.meta }

altered-last : (k q : ℕ) (g : Meta → Meta) (b : Bool) (o : Option (ℕ × Meta)) (f : ℕ → Meta → Meta) (body : List ℕ) → option_any (λ (x : ℕ × Meta). x.0 == q) o ≡ true
    → unless_removed b o (λ j m. if k == j then g (f j m) else f j m) body ≡ (if k == q then option_map (altered_body g) (unless_removed b o f body) else unless_removed b o f body)
altered-last k q g b None f body h = cc
altered-last k q g true (Some e) f body h = elim (k == q) as (λ (x : Bool). ◌≡◌ {A = Option Stored} None (if x then None else None)) [ true ↦ refl | false ↦ refl ]
altered-last k q g false (Some e) f body h =
    ap (λ (j : ℕ). Some (body_with (if k == j then g (f e.0 e.1) else f e.0 e.1) body)) (eqb-true e.0 q h)
    ∙ elim (k == q) as (λ (x : Bool). Some (body_with (if x then g (f e.0 e.1) else f e.0 e.1) body) ≡ (if x then Some (body_with (g (f e.0 e.1)) body) else Some (body_with (f e.0 e.1) body))) [ true ↦ refl | false ↦ refl ]

under-map : (b : Bool) (g : Meta → Meta) (o : Option ℕ) (f : ℕ → Option Stored) → option_and_then (λ w. if b then option_map (altered_body g) (f w) else f w) o ≡ (if b then option_map (altered_body g) (option_and_then f o) else option_and_then f o)
under-map true g None f = refl
under-map true g (Some w) f = refl
under-map false g None f = refl
under-map false g (Some w) f = refl

-- an event after which the metas under a key are these of before
complete-altered : (es : List Event) (k : ℕ) (g : Meta → Meta) → IsTidy es → (q : ℕ)
    → option_and_then (λ x. unless_removed (is_removed x es) (begin_of x es) (λ j m. if k == j then g (meta_kept x es j m) else meta_kept x es j m) (body_of x es)) (last_finished q es) ≡ (if k == q then option_map (altered_body g) (complete q es) else complete q es)
complete-altered es k g tidy q =
    by_last (last_finished q es) _ (λ x. if k == q then option_map (altered_body g) (before x) else before x) (λ x is.
    altered-last k q g (is_removed x es) (begin_of x es) (meta_kept x es) (body_of x es) (tidy.finished q x is).1)
    ∙ under-map (k == q) g (last_finished q es) before
  where
    before : ℕ → Option Stored
    before x = unless_removed (is_removed x es) (begin_of x es) (meta_kept x es) (body_of x es)

-- an expiry
pub complete-expire : (es : List Event) (k t : ℕ) → IsTidy es → (q : ℕ) → complete q (Expire k t ∷ es) ≡ (if k == q then option_map (altered_body (expired_at t)) (complete q es) else complete q es)
complete-expire es k t tidy q = complete-altered es k (expired_at t) tidy q

-- a revalidation
pub complete-renew : (es : List Event) (k : ℕ) (m : Meta) → IsTidy es → (q : ℕ) → complete q (Renew k m ∷ es) ≡ (if k == q then option_map (altered_body (λ old. in_place_of old m)) (complete q es) else complete q es)
complete-renew es k m tidy q = complete-altered es k (λ old. in_place_of old m) tidy q
