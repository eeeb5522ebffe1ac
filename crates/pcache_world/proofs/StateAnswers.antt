-- The results of a store are what the events say, if the store agrees with them.
use Rattle.std.proofs.Common.{T, length-drop, ltb-true, ne_eqb}
use Rattle.std.specs.Option.{option_map}
use Rattle.std.specs.Ordering.{is_lt, is_eq}
use Rattle.std.specs.declared.cmp.Ordering.TheVariants.{Less, Equal, Greater}
use Rattle.std.specs.Cmp.{tied_itself}
use Rattle.std.specs.FinMap.{entries, get-entries, entries_sorted, len-entries}
use Rattle.std.specs.FinMap.Entries.{is_sorted, below_all}
use Rattle.pcache_base.specs.declared.poll.Poll.TheVariants.{Ready}
use Rattle.pcache_table.specs.Numbers.{first_key, least}
use Rattle.pcache_store.specs.Store.{Stored, Written, Reader, found_body, found_part, first_in, found_first, found_in, find, is_untouched_on, read_part, offset_after}
use Rattle.pcache_history.specs.History.{Finds, reads}
use Rattle.pcache_world.proofs.Words.{◌≡◌, ℕ, ◌+◌, ◌-◌, ◌<◌, ◌≤◌, ◌==◌, Bool, true, false, not, cond, ◌&&◌, if◌then◌else◌, Option, None, Some, is_some, is_none, List, [], ◌∷◌, length, drop, refl, ap, sym, subst, ◌∙◌, arith, inl, inr, nat_lt, IsSome, nat_cmp, nat_cmp_total, FinMap, get, contains_key, len, and_parts, Meta, Pending, Store, Slot, Whole, Part, found_flying, find_write, followed, is_untouched_in, is_idle, is_untouched, read_of, reader_after, Answer, Event, begin_of, in_flight, is_of, is_open, is_removed, complete, pair_of, read_past, HasAny, follows, IsState, cmp_same, same-number}
use Rattle.std.specs.FinMap as map
use Rattle.pcache_store.specs.Store as store
use Rattle.pcache_history.specs.declared.entry.Answer.TheVariants as A
use Rattle.pcache_history.specs.Events as ev
use Rattle.pcache_world.proofs.StateWrites.{kept_as, begun-flying, record-flying, record-read, part_of}

-- ---- the least number

lt_from : (a b : ℕ) → T (is_lt (nat_cmp a b)) → a < b
lt_from a b h =
    elim (nat_lt a b) as (λ t. nat_lt a b ≡ t → T (is_lt (cond t Less (cond (a == b) Equal Greater))) → a < b) [
      | true ↦ λ e _. ltb-true a b e
      | false ↦ λ _ h. elim (a == b) as (λ t. T (is_lt (cond t Equal Greater)) → a < b) [ true ↦ λ z. absurd z | false ↦ λ z. absurd z ] h
    ] refl h

first : (a b : Bool) → T (a && b) → T a
first true b p = tt
first false b p = p

second : (a b : Bool) → T (a && b) → T b
second true b p = p
second false b p = absurd p

module _ {X : Type 0} where
  below-none : (q y : ℕ) (es : List (ℕ × X)) → q < y → T (below_all nat_cmp y es) → map.find nat_cmp q es ≡ None
  below-none q y [] lt h = refl
  below-none q y (e ∷ es) lt h =
      let next : y < e.0 = lt_from y e.0 (first _ _ h) in
      let apart : (e.0 == q) ≡ false = ne_eqb e.0 q (λ same. absurd (omega arith)) in
      ap (λ b. cond b (Some e.1) (map.find nat_cmp q es)) (cmp_same q e.0 ∙ apart) ∙ below-none q y es lt (second _ _ h)

  first-some : (es : List (ℕ × X)) (w : ℕ) → T (is_sorted nat_cmp es) → first_key es ≡ Some w → (is_some (map.find nat_cmp w es) ≡ true) × ((q : ℕ) → q < w → map.find nat_cmp q es ≡ None)
  first-some [] w h e = absurd (cc)
  first-some (x ∷ es) w h e =
      let same : x.0 ≡ w = cc in
      subst (λ v. (is_some (map.find nat_cmp v (x ∷ es)) ≡ true) × ((q : ℕ) → q < v → map.find nat_cmp q (x ∷ es) ≡ None)) same (
        ap (λ r. is_some (cond (is_eq r) (Some x.1) (map.find nat_cmp x.0 es))) (tied_itself nat_cmp_total x.0),
        λ q lt.
            let apart : (x.0 == q) ≡ false = ne_eqb x.0 q (λ same. absurd (omega arith)) in
            ap (λ b. cond b (Some x.1) (map.find nat_cmp q es)) (cmp_same q x.0 ∙ apart) ∙ below-none q x.0 es lt (first _ _ h),
      )

  no-first : (es : List (ℕ × X)) → first_key es ≡ None → es ≡ []
  no-first [] e = refl
  no-first (x ∷ es) e = absurd (cc)

  pub least-some : (m : FinMap nat_cmp X) (w : ℕ) → least m ≡ Some w → (contains_key m w ≡ true) × ((q : ℕ) → q < w → contains_key m q ≡ false)
  least-some m w e =
      let f = first-some (entries m) w (entries_sorted m) e in
      (ap is_some (get-entries m w) ∙ f.0, λ q lt. ap is_some (get-entries m q ∙ f.1 q lt))

  pub least-none : (m : FinMap nat_cmp X) → least m ≡ None → (q : ℕ) → contains_key m q ≡ false
  least-none m e q = ap is_some (get-entries m q ∙ ap (map.find nat_cmp q) (no-first (entries m) e))

  least-empty : (m : FinMap nat_cmp X) → least m ≡ None → len m ≡ 0
  least-empty m e = len-entries m ∙ ap length (no-first (entries m) e)

-- ---- every look-up has a result

answer-part : (w : ℕ) (o : Option Written) → (a : Answer) × (pair_of a ≡ found_part w o)
answer-part w None = (A.Nothing, refl)
answer-part w (Some v) = (A.Streaming v.meta w, refl)

answer-first : (ws : FinMap nat_cmp Written) (f : Option ℕ) (b : Option Stored) → (a : Answer) × (pair_of a ≡ found_first ws f b)
answer-first ws None None = (A.Nothing, refl)
answer-first ws None (Some b) = (A.Complete b.meta b.bytes, refl)
answer-first ws (Some w) b = answer-part w (get ws w)

answer-in : (newest : Bool) (ws : FinMap nat_cmp Written) (o : Option Slot) → (a : Answer) × (pair_of a ≡ found_in newest ws o)
answer-in newest ws None = (A.Nothing, refl)
answer-in newest ws (Some x) = answer-first ws (first_in newest x) x.body

pub found-answer : (s : Store) (k : ℕ) → (a : Answer) × (pair_of a ≡ find s k)
found-answer s k = answer-in s.newest s.writes (get s.slots k)

-- a write that a look-up gives has a record
kept-part : (ws : FinMap nat_cmp Written) (w v : ℕ) (o : Option Written) → get ws w ≡ o → part_of (found_part w o) ≡ Some v → is_some (get ws v) ≡ true
kept-part ws w v None e h = absurd (cc)
kept-part ws w v (Some r) e h = let same : w ≡ v = cc in ap (λ x. is_some (get ws x)) (sym same) ∙ ap is_some e

kept-first : (ws : FinMap nat_cmp Written) (f : Option ℕ) (b : Option Stored) (v : ℕ) → part_of (found_first ws f b) ≡ Some v → is_some (get ws v) ≡ true
kept-first ws None None v h = absurd (cc)
kept-first ws None (Some b) v h = absurd (cc)
kept-first ws (Some w) b v h = kept-part ws w v (get ws w) refl h

kept-in : (newest : Bool) (ws : FinMap nat_cmp Written) (o : Option Slot) (v : ℕ) → part_of (found_in newest ws o) ≡ Some v → is_some (get ws v) ≡ true
kept-in newest ws None v h = absurd (cc)
kept-in newest ws (Some x) v h = kept-first ws (first_in newest x) x.body v h

pub found-kept : (s : Store) (k w : ℕ) → part_of (find s k) ≡ Some w → is_some (get s.writes w) ≡ true
found-kept s k w h = kept-in s.newest s.writes (get s.slots k) w h

-- ---- a look-up

-- the body that a pair reads
abbrev body_in : Meta → Reader → Option Stored
body_in m (Whole id body start stop done) = Some (record { meta = m; bytes = body })
body_in m (Part w place) = None

abbrev body_read : Option (Meta × Reader) → Option Stored
body_read None = None
body_read (Some p) = body_in p.0 p.1

abbrev meta_of : Option (Meta × Reader) → Option Meta
meta_of p = option_map (λ q. q.0) p

open-flying : (es : List Event) (k w : ℕ) → is_open k w es ≡ true → in_flight w es ≡ true
open-flying es k w h = (and_parts _ _ (and_parts _ _ h).1).0

module _ (es : List Event) (n : ℕ → ℕ) (s : Store) (st : IsState es n s) (k : ℕ) where
  finds-nothing : get s.slots k ≡ None → Finds es k A.Nothing
  finds-nothing e = (λ q. sym (st.untouched k q) ∙ ap (is_untouched_in q) e, sym (st.bodies k) ∙ ap store.complete_body e)

  module _ (x : Slot) (there : get s.slots k ≡ Some x) where
    open-is : (q : ℕ) → is_open k q es ≡ contains_key x.untouched q
    open-is q = sym (st.untouched k q) ∙ ap (is_untouched_in q) there

    complete-is : complete k es ≡ x.body
    complete-is = sym (st.bodies k) ∙ ap store.complete_body there

    finds-body : ((q : ℕ) → is_open k q es ≡ false) → (o : Option Stored) → x.body ≡ o → (a : Answer) → pair_of a ≡ found_body o → Finds es k a
    finds-body none None e A.Nothing h = (none, complete-is ∙ e)
    finds-body none None e (A.Complete m body) h = absurd (cc)
    finds-body none None e (A.Streaming m w) h = absurd (cc)
    finds-body none (Some b) e A.Nothing h = absurd (cc)
    finds-body none (Some b) e (A.Complete m body) h = (none, complete-is ∙ e ∙ ap body_read (sym h))
    finds-body none (Some b) e (A.Streaming m w) h = let c : ◌≡◌ {A = Option ℕ} (Some w) None = ap part_of h in absurd (cc)

    finds-part : (w : ℕ) (b : ℕ × Meta) → is_open k w es ≡ true → ((q : ℕ) → q < w → is_open k q es ≡ false) → begin_of w es ≡ Some b → (a : Answer) → pair_of a ≡ Some (b.1, Part w 0) → Finds es k a
    finds-part w b here below is A.Nothing h = absurd (cc)
    finds-part w b here below is (A.Complete m body) h = let c : ◌≡◌ {A = Option ℕ} None (Some w) = ap part_of h in absurd (cc)
    finds-part w b here below is (A.Streaming m v) h =
        let c : Some v ≡ Some w = ap part_of h in
        let same : v ≡ w = cc in
        subst (λ y. Finds es k (A.Streaming m y)) (sym same) (here, below, ap (option_map (λ (p : ℕ × Meta). p.1)) is ∙ ap meta_of (sym h))

    finds-first : (f : Option ℕ) → least x.untouched ≡ f → (a : Answer) → pair_of a ≡ found_first s.writes f x.body → Finds es k a
    finds-first None l a h = finds-body (λ q. open-is q ∙ least-none x.untouched l q) x.body refl a h
    finds-first (Some w) l a h =
        let f = least-some x.untouched w l in
        let here : is_open k w es ≡ true = open-is w ∙ f.0 in
        let g = begun-flying w es (open-flying es k w here) in
        finds-part w g.0 here (λ q lt. open-is q ∙ f.1 q lt) g.1 a (h ∙ ap (found_part w) (record-flying es n s st w g.0 (open-flying es k w here) g.1))

    any-here : (f : Option ℕ) → least x.untouched ≡ f → HasAny es k true
    any-here (Some w) l = inl (w, open-is w ∙ (least-some x.untouched w l).0)
    any-here None l =
        let empty : len x.untouched ≡ 0 = least-empty x.untouched l in
        let busy : (is_none x.body && true) ≡ false = ap (λ m. is_none x.body && (m == 0)) (sym empty) ∙ st.filled k x there in
        inr (subst (λ o. IsSome o) (sym complete-is) (elim x.body as (λ o. (is_none o && true) ≡ false → IsSome o) [ None ↦ λ e. absurd (cc) | Some b ↦ λ _. refl ] busy))

  finds-in : (o : Option Slot) → get s.slots k ≡ o → (a : Answer) → pair_of a ≡ found_in false s.writes o → Finds es k a
  finds-in None e A.Nothing h = finds-nothing e
  finds-in None e (A.Complete m body) h = absurd (cc)
  finds-in None e (A.Streaming m w) h = absurd (cc)
  finds-in (Some x) e a h = finds-first x e (least x.untouched) refl a h

  pub finds-is : (a : Answer) → pair_of a ≡ find s k → Finds es k a
  finds-is a h = finds-in (get s.slots k) refl a (h ∙ ap (λ b. found_in b s.writes (get s.slots k)) st.newest)

  pub any-is : HasAny es k (is_some (get s.slots k))
  any-is = elim (get s.slots k) as (λ o. get s.slots k ≡ o → HasAny es k (is_some o)) [
    | None ↦ λ e. finds-nothing e
    | Some x ↦ λ e. any-here x e (least x.untouched) refl
  ] refl

-- ---- readers

same-part : (place fly_readers : ℕ) (fly : Bool) (body : List ℕ) (told : Bool) (o : Option (ℕ × Meta)) → read_part place (option_map (kept_as fly fly_readers body told) o) ≡ read_part place (option_map (kept_as fly 0 body told) o)
same-part place fly_readers fly body told None = refl
same-part place fly_readers fly body told (Some b) = refl

pub reads-is : (es : List Event) (n : ℕ → ℕ) (s : Store) → IsState es n s → (rd : Reader) → ((w : ℕ) → follows w (Some rd) ≤ n w) → read_of s rd ≡ reads es rd
reads-is es n s st (Whole id body start stop done) h = refl
reads-is es n s st (Part w place) h =
    let most : 1 ≤ n w = subst (λ b. (if b then 1 else 0) ≤ n w) (same-number w) (h w) in
    ap (read_part place) (record-read es n s st w (omega arith)) ∙ same-part place (n w) (in_flight w es) (ev.body_of w es) (ev.is_told w es) (begin_of w es)

past-part : (w place : ℕ) (o : Option Written) → read_past (read_part place o) (Part w place) ≡ Part w (offset_after place o)
past-part w place None = refl
past-part w place (Some v) =
    elim (nat_lt place (length v.bytes)) as (λ t. nat_lt place (length v.bytes) ≡ t → read_past (cond t (Ready (Some (drop place v.bytes))) (cond (v.flying && not v.told) Pending (Ready None))) (Part w place) ≡ Part w (cond t (length v.bytes) place)) [
      | true ↦ λ e.
          let lt : place < length v.bytes = ltb-true place (length v.bytes) e in
          let rest : length (drop place v.bytes) ≡ length v.bytes - place = length-drop place v.bytes in
          let all : place + length (drop place v.bytes) ≡ length v.bytes = omega arith in
          ap (Part w) all
      | false ↦ λ _. elim (v.flying && not v.told) as (λ (t : Bool). read_past (cond t Pending (Ready None)) (Part w place) ≡ Part w place) [ true ↦ refl | false ↦ refl ]
    ] refl

pub read-past : (s : Store) (rd : Reader) → read_past (read_of s rd) rd ≡ reader_after s rd
read-past s (Whole id body start stop done) = refl
read-past s (Part w place) = past-part w place (get s.writes w)

-- ---- a write in flight

module _ (es : List Event) (n : ℕ → ℕ) (s : Store) (st : IsState es n s) (w : ℕ) (fly : in_flight w es ≡ true) where
  pub stands-is : is_untouched s w ≡ not (is_removed w es)
  stands-is =
      let f = begun-flying w es fly in
      let b = f.0 in
      ap (is_untouched_on s w) (record-flying es n s st w b fly f.1) ∙ st.untouched b.0 w
      ∙ (λ i. ev.option_any (λ (c : ℕ × Meta). c.0 == b.0) (f.1 i) && (fly i && not (is_removed w es)))
      ∙ ap (λ t. t && not (is_removed w es)) (same-number b.0)

  pub told-is : store.is_told (get s.writes w) ≡ ev.is_told w es
  told-is = let f = begun-flying w es fly in ap store.is_told (record-flying es n s st w f.0 fly f.1)

  pub size-is : store.written_size (get s.writes w) ≡ length (ev.body_of w es)
  size-is = let f = begun-flying w es fly in ap store.written_size (record-flying es n s st w f.0 fly f.1)
