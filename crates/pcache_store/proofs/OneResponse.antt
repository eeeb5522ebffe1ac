-- What is found has the meta of its own write, if each meta that was set names the write that it is of.
use Rattle.std.specs.Option.{option_map}
use Rattle.pcache_meta.specs.Meta.{expired_at}
use Rattle.pcache_store.specs.OneResponse.{MetasAreTheirs, SetsNameTheirs, is_number, meta_of}
use Rattle.pcache_store.specs.PastLaws.{IsOfItsWrite}
use Rattle.pcache_store.specs.Store.{Part, write_read}
use Rattle.pcache_store.proofs.Words.{◌≡◌, ℕ, ◌==◌, Bool, true, false, if◌then◌else◌, Option, None, Some, List, [], ◌∷◌, refl, ap, sym, subst, ◌∙◌, arith, eqb-true, Meta, in_place_of, numbered, Store, Stored, Written, new_write, Reader, Whole, Note, Began, Wrote, Finished, Dropped, Purged, WritePurged, MetaSet, Expired, Joined, Left, PastLeads, IsWhatPastSays, empty_from, after, before, finishes, longer, ended, closed_write, write_of, is_of, is_removed, last_finished, write_finished, body_stored, altered_by}
use Rattle.pcache_store.proofs.PastLaws.{found-is-of-its-write, is-of-ended, untouched-open}
use Rattle.pcache_store.proofs.PastMaps.{same-number}
use Rattle.pcache_store.proofs.PastStates.{IsState, state-led, state-of}
use Rattle.pcache_store.proofs.PastWrites.{IsEnded, complete-some, opens-some, stored-numbered}

number-is : (w : ℕ) (n : Option ℕ) → is_number w n ≡ true → n ≡ Some w
number-is w None h = cc
number-is w (Some v) h = ap Some (eqb-true v w h)

number-of : (w : ℕ) (n : Option ℕ) → n ≡ Some w → is_number w n ≡ true
number-of w n is = ap (is_number w) is ∙ same-number w

-- ---- a write in flight was not finished, so no meta was set for it

not-last : (past : List Note) (s : Store) (st : IsState past s) (w : ℕ) (r : Written) → write_of w past ≡ Some r → r.flying ≡ true → (q : ℕ) → is_number w (last_finished q past) ≡ false
not-last past s st w r is fly q = inner (is_number w (last_finished q past)) refl
  where
    inner : (b : Bool) → is_number w (last_finished q past) ≡ b → b ≡ false
    inner true h =
        let over : IsEnded q (Some r) = subst (IsEnded q) is (st.last q w (number-is w (last_finished q past) h)) in
        let down : r.flying ≡ false = over.1 in
        cc
    inner false h = refl

-- one more note, of which this is known of the write before it
mapped : (b : Bool) (f : Written → Written) (o : Option Written) (own : Option Meta) → ((x : Written) → (f x).meta ≡ x.meta) → ((x : Written) → (f x).flying ≡ true → x.flying ≡ true)
    → ((x : Written) → o ≡ Some x → x.flying ≡ true → own ≡ Some x.meta) → (r : Written) → (if b then option_map f o else o) ≡ Some r → r.flying ≡ true → own ≡ Some r.meta
mapped true f None own keeps flies was r is fly = absurd (cc)
mapped true f (Some x) own keeps flies was r is fly =
    let same : f x ≡ r = cc in
    was x refl (flies x (ap (λ (y : Written). y.flying) same ∙ fly)) ∙ ap Some (sym (keeps x) ∙ ap (λ (y : Written). y.meta) same)
mapped false f o own keeps flies was r is fly = was r is fly

begun-is : (b : Bool) (q n : ℕ) (c : Meta) (o : Option Written) (own : Option Meta) → ((x : Written) → o ≡ Some x → x.flying ≡ true → own ≡ Some x.meta) → (r : Written) → (if b then Some (new_write q (numbered n c)) else o) ≡ Some r → r.flying ≡ true
    → (if b then Some (numbered n c) else own) ≡ Some r.meta
begun-is true q n c o own was r is fly = let same : new_write q (numbered n c) ≡ r = cc in ap (λ (y : Written). Some y.meta) same
begun-is false q n c o own was r is fly = was r is fly

own-flying : (past : List Note) (start : ℕ) (newest : Bool) (t : Store) → PastLeads past (empty_from start newest) t → SetsNameTheirs past → (w : ℕ) (r : Written) → write_of w past ≡ Some r → r.flying ≡ true → meta_of w past ≡ Some r.meta
own-flying [] start newest t led named w r is fly = absurd (cc)
own-flying (Began q n c ∷ past) start newest t led named w r is fly = begun-is (n == w) q n c (write_of w past) (meta_of w past) (own-flying past start newest led.0 led.1.0 named w) r is fly
own-flying (Wrote n bytes eof ∷ past) start newest t led named w r is fly = mapped (n == w) (longer bytes eof) (write_of w past) (meta_of w past) (λ x. refl) (λ x f. f) (own-flying past start newest led.0 led.1.0 named w) r is fly
own-flying (Finished n ∷ past) start newest t led named w r is fly = mapped (n == w) closed_write (write_of w past) (meta_of w past) (λ x. refl) (λ x f. absurd (cc)) (own-flying past start newest led.0 led.1.0 named w) r is fly
own-flying (Dropped n ∷ past) start newest t led named w r is fly = mapped (n == w) ended (write_of w past) (meta_of w past) (λ x. refl) (λ x f. absurd (cc)) (own-flying past start newest led.0 led.1.0 named w) r is fly
own-flying (Purged q ∷ past) start newest t led named w r is fly = own-flying past start newest led.0 led.1.0 named w r is fly
own-flying (WritePurged q n ∷ past) start newest t led named w r is fly = own-flying past start newest led.0 led.1.0 named w r is fly
own-flying (MetaSet q c ∷ past) start newest t led named w r is fly =
    ap (λ b. if b then Some (numbered w c) else meta_of w past) (ap (is_number w) named.1 ∙ not-last past led.0 (state-led past start newest led.0 led.1.0) w r is fly q)
    ∙ own-flying past start newest led.0 led.1.0 named.2 w r is fly
own-flying (Expired q now ∷ past) start newest t led named w r is fly =
    ap (λ b. if b then option_map (expired_at now) (meta_of w past) else meta_of w past) (not-last past led.0 (state-led past start newest led.0 led.1.0) w r is fly q)
    ∙ own-flying past start newest led.0 led.1.0 named w r is fly
own-flying (Joined n ∷ past) start newest t led named w r is fly = own-flying past start newest led.0 led.1.0 named w r is fly
own-flying (Left n ∷ past) start newest t led named w r is fly = own-flying past start newest led.0 led.1.0 named w r is fly

-- ---- a body that was stored

-- a write that was finished last has a slot of its own
ended-slot : (k : ℕ) (o : Option Written) → IsEnded k o → (r : Written) × (o ≡ Some r) × (r.slot ≡ k)
ended-slot k None h = absurd h
ended-slot k (Some r) h = (r, refl, h.0)

one-slot : (past : List Note) (s : Store) (st : IsState past s) (k q w : ℕ) → last_finished k past ≡ Some w → last_finished q past ≡ Some w → q ≡ k
one-slot past s st k q w last other =
    let a = ended-slot k (write_of w past) (st.last k w last) in
    let b = ended-slot q (write_of w past) (st.last q w other) in
    let both : Some a.0 ≡ Some b.0 = sym a.1 ∙ b.1 in
    let same : a.0 ≡ b.0 = cc in
    sym b.2 ∙ ap (λ (y : Written). y.slot) (sym same) ∙ a.2

-- what changes a meta of a key's body is of the write that was finished last
of-last : (past : List Note) (s : Store) (st : IsState past s) (k q w : ℕ) → last_finished k past ≡ Some w → is_number w (last_finished q past) ≡ (q == k)
of-last past s st k q w last = inner (q == k) refl
  where
    inner : (b : Bool) → (q == k) ≡ b → is_number w (last_finished q past) ≡ b
    inner true t = number-of w (last_finished q past) (ap (λ z. last_finished z past) (eqb-true q k t) ∙ last)
    inner false t = other (is_number w (last_finished q past)) refl
      where
        other : (b : Bool) → is_number w (last_finished q past) ≡ b → b ≡ false
        other true h =
            let same = one-slot past s st k q w last (number-is w (last_finished q past) h) in
            let yes : (q == k) ≡ true = ap (λ z. q == z) (sym same) ∙ same-number q in
            cc
        other false h = refl

-- the body of a write with its meta as it was made of the write's
abbrev pub made : ℕ → ℕ → List Note → Written → Stored
made k w past r = record { meta = altered_by k (after (finishes w) past) r.meta; bytes = r.bytes }

-- a note that changes the metas of a key by this function: the body's, and that of the write itself
changed : (b : Bool) (f : Meta → Meta) (A : Written → Meta) (o : Option Written) (own next : Option Meta) (c : Stored) → ((x : Written) → o ≡ Some x → own ≡ Some (A x)) → ((x : Written) → o ≡ Some x → next ≡ Some (f (A x)))
    → option_map (λ (r : Written). record { meta = if b then f (A r) else A r; bytes = r.bytes }) o ≡ Some c → (if b then next else own) ≡ Some c.meta
changed b f A None own next c was next_is is = absurd (cc)
changed true f A (Some x) own next c was next_is is =
    let same : record { meta = f (A x); bytes = x.bytes } ≡ c = cc in
    next_is x refl ∙ ap (λ (y : Stored). Some y.meta) same
changed false f A (Some x) own next c was next_is is =
    let same : record { meta = A x; bytes = x.bytes } ≡ c = cc in
    was x refl ∙ ap (λ (y : Stored). Some y.meta) same

own-stored : (past : List Note) (start : ℕ) (newest : Bool) (t : Store) → PastLeads past (empty_from start newest) t → SetsNameTheirs past → (k w : ℕ) (c : Stored) → last_finished k past ≡ Some w → body_stored k w past ≡ Some c → meta_of w past ≡ Some c.meta
own-stored [] start newest t led named k w c last is = absurd (cc)
own-stored (Began q n x ∷ past) start newest t led named k w c last is = inner (n == w) refl (own-stored past start newest led.0 led.1.0 named k w c last is)
  where
    inner : (b : Bool) → (n == w) ≡ b → meta_of w past ≡ Some c.meta → (if b then Some (numbered n x) else meta_of w past) ≡ Some c.meta
    inner true e old =
        let st = state-led past start newest led.0 led.1.0 in
        let fresh : write_of w past ≡ None = ap (λ z. write_of z past) (sym (eqb-true n w e)) ∙ ap (λ z. write_of z past) led.1.1.0 ∙ st.fresh led.0.next (omega arith) in
        let there = ended-slot k (write_of w past) (st.last k w last) in
        let none : Some there.0 ≡ None = sym there.1 ∙ fresh in
        absurd (cc)
    inner false e old = old
own-stored (Wrote n bytes eof ∷ past) start newest t led named k w c last is = own-stored past start newest led.0 led.1.0 named k w c last is
own-stored (Finished n ∷ past) start newest t led named k w c last is = inner (is_of k n past) refl last (own-stored past start newest led.0 led.1.0 named k w c)
  where
    of-flying : (o : Option Written) → write_of n past ≡ o → is_of k n past ≡ true → option_map (λ (r : Written). record { meta = r.meta; bytes = r.bytes }) o ≡ Some c → meta_of n past ≡ Some c.meta
    of-flying None there of body = absurd (cc)
    of-flying (Some r) there of body =
        let same : record { meta = r.meta; bytes = r.bytes } ≡ c = cc in
        let flies = opens-some k (is_removed k n past) (write_of n past) (untouched-open led.0 past (state-led past start newest led.0 led.1.0) k n of led.1.1.0) in
        let both : Some r ≡ Some flies.0 = sym there ∙ flies.1 in
        let it : r ≡ flies.0 = cc in
        own-flying past start newest led.0 led.1.0 named n r there (ap (λ (y : Written). y.flying) it ∙ flies.3) ∙ ap (λ (y : Stored). Some y.meta) same

    stored-now : body_stored k n (Finished n ∷ past) ≡ option_map (λ (r : Written). record { meta = r.meta; bytes = r.bytes }) (write_of n past)
    stored-now = ap (λ b. option_map (λ (r : Written). record { meta = altered_by k (if b then [] else Finished n ∷ after (finishes n) past) r.meta; bytes = r.bytes }) (write_of n (if b then past else before (finishes n) past))) (same-number n)

    stored-before : (n == w) ≡ false → body_stored k w (Finished n ∷ past) ≡ body_stored k w past
    stored-before off = ap (λ b. option_map (λ (r : Written). record { meta = altered_by k (if b then [] else Finished n ∷ after (finishes w) past) r.meta; bytes = r.bytes }) (write_of w (if b then past else before (finishes w) past))) off

    apart : is_of k n past ≡ false → last_finished k past ≡ Some w → (b : Bool) → (n == w) ≡ b → b ≡ false
    apart not old true e =
        let st = state-led past start newest led.0 led.1.0 in
        let of : is_of k w past ≡ true = is-of-ended led.0 past st k (write_of w past) (st.last k w old) in
        let of-n : is_of k n past ≡ true = ap (λ z. is_of k z past) (eqb-true n w e) ∙ of in
        cc
    apart not old false e = refl

    inner : (b : Bool) → is_of k n past ≡ b → (if b then Some n else last_finished k past) ≡ Some w → (last_finished k past ≡ Some w → body_stored k w past ≡ Some c → meta_of w past ≡ Some c.meta) → meta_of w past ≡ Some c.meta
    inner true of now earlier =
        let same : n ≡ w = cc in
        subst (λ z. body_stored k z (Finished n ∷ past) ≡ Some c → meta_of z past ≡ Some c.meta) same (λ body. of-flying (write_of n past) refl of (sym stored-now ∙ body)) is
    inner false not old earlier = earlier old (sym (stored-before (apart not old (n == w) refl)) ∙ is)
own-stored (Dropped n ∷ past) start newest t led named k w c last is = own-stored past start newest led.0 led.1.0 named k w c last is
own-stored (Purged q ∷ past) start newest t led named k w c last is = own-stored past start newest led.0 led.1.0 named k w c last is
own-stored (WritePurged q n ∷ past) start newest t led named k w c last is = own-stored past start newest led.0 led.1.0 named k w c last is
own-stored (MetaSet q x ∷ past) start newest t led named k w c last is =
    let st = state-led past start newest led.0 led.1.0 in
    ap (λ b. if b then Some (numbered w x) else meta_of w past) (ap (is_number w) named.1 ∙ of-last past led.0 st k q w last)
    ∙ changed (q == k) (λ old. in_place_of old x) (λ r. altered_by k (after (finishes w) past) r.meta) (write_finished w past) (meta_of w past) (Some (numbered w x)) c
    (λ r there. own-stored past start newest led.0 led.1.0 named.2 k w (made k w past r) last (ap (option_map (made k w past)) there))
    (λ r there. ap (λ n. Some (in_place_of (record (altered_by k (after (finishes w) past) r.meta) { internal = record (altered_by k (after (finishes w) past) r.meta).internal { entry_id = n } }) x)) (sym (stored-numbered k w past (made k w past r) (ap (option_map (made k w past)) there))))
    is
own-stored (Expired q now ∷ past) start newest t led named k w c last is =
    let st = state-led past start newest led.0 led.1.0 in
    ap (λ b. if b then option_map (expired_at now) (meta_of w past) else meta_of w past) (of-last past led.0 st k q w last)
    ∙ changed (q == k) (expired_at now) (λ r. altered_by k (after (finishes w) past) r.meta) (write_finished w past) (meta_of w past) (option_map (expired_at now) (meta_of w past)) c
    (λ r there. own-stored past start newest led.0 led.1.0 named k w (made k w past r) last (ap (option_map (made k w past)) there))
    (λ r there. ap (option_map (expired_at now)) (own-stored past start newest led.0 led.1.0 named k w (made k w past r) last (ap (option_map (made k w past)) there)))
    is
own-stored (Joined n ∷ past) start newest t led named k w c last is = own-stored past start newest led.0 led.1.0 named k w c last is
own-stored (Left n ∷ past) start newest t led named k w c last is = own-stored past start newest led.0 led.1.0 named k w c last is

-- ---- what is found

pub metas-are-theirs : (s : Store) (past : List Note) → IsWhatPastSays s past → SetsNameTheirs past → MetasAreTheirs s past
metas-are-theirs s past is named k m r found = by r (found-is-of-its-write s past (state-of s past is) k m r found)
  where
    by : (r : Reader) → IsOfItsWrite k past m r → (w : ℕ) × (write_read r ≡ Some w) × (meta_of w past ≡ Some m)
    by (Part w place) p =
        let flies = opens-some k (is_removed k w past) (write_of w past) p.1 in
        (w, refl, own-flying past is.0 s.newest s is.1 named w flies.0 flies.1 flies.3 ∙ sym (ap (option_map (λ (y : Written). y.meta)) flies.1) ∙ p.2)
    by (Whole id body start stop done) p =
        let c = complete-some k past (record { meta = m; bytes = body }) p.4 in
        let both : Some c.0 ≡ Some p.0 = sym c.1 ∙ p.1 in
        let same : c.0 ≡ p.0 = cc in
        (c.0, p.2 ∙ sym both, own-stored past is.0 s.newest s is.1 named k c.0 (record { meta = m; bytes = body }) c.1 c.3)
