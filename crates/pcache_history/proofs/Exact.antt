-- Of each standing key, the entry that was admitted last stays tracked with the length of its body.
use Rattle.std.specs.declared.cmp.Ordering.{Ordering}
use Rattle.std.specs.declared.cmp.Ordering.TheVariants.{Less, Equal, Greater}
use Rattle.std.specs.Option.{option_map}
use Rattle.pcache_evict.specs.Tracked.{without, added}
use Rattle.pcache_request.specs.Finishing.{entry_slot}
use Rattle.pcache_history.specs.declared.entry.Event.TheVariants.{Read}
use Rattle.pcache_history.specs.Events.{is_number, goes_with}
use Rattle.pcache_history.proofs.Words.{◌≡◌, ◌≢◌, ℕ, Bool, true, false, cond, ◌&&◌, ◌==◌, if◌then◌else◌, Option, None, Some, is_some, List, [], ◌∷◌, refl, ap, sym, subst, ◌∙◌, eq_by_cmp, is_eq, tied_itself, option_and_then, eqb-true, eq-eqb, both_ways, or_parts, and_parts, and_from, Key, slot, Meta, expired_at, in_place_of, CacheEntryKey, entry_cmp, entries_total, id_of, Tracked, exact_entries, Stored, entry_of, Event, Look, Ask, Access, Begin, Wrote, Finish, Dropped, Release, LetGo, Aged, Admit, Purge, Expire, Renew, Untrack, begun, begin_of, names_slot, goes_with_any, option_any, is_removed, in_flight, body_of, last_finished, meta_kept, complete, tracked, stored_size, IsTidy, IsExact, standing_entry}
use Rattle.std.specs.FinMap as map
use Rattle.pcache_history.proofs.Steps.{complete-wrote, complete-begin, complete-purge, complete-admit, complete-expire, complete-renew, complete-finish, body_with, altered_body, goes_last, unless_removed}
use Rattle.pcache_history.proofs.Tidy.{tidy-finish}

-- Entries and the slots that they name.

-- an entry is of one slot
pub names_only : (k : ℕ) (e : CacheEntryKey) → names_slot k e ≡ true → (q : ℕ) → names_slot q e ≡ (k == q)
names_only k e h q = ap (λ z. z == q) (eqb-true (entry_slot e) k h)

-- the entry of a key is of its slot, and has the number that it was made with
pub entry_names : (k : Key) (n : Option ℕ) → names_slot (slot k) (entry_of k n) ≡ true
entry_names k None = eq-eqb (slot k) (slot k) refl
entry_names k (Some n) = eq-eqb (slot k) (slot k) refl

-- an entry with the number of a write goes with it
pub goes-own : (k w : ℕ) (e : CacheEntryKey) → names_slot k e ≡ true → id_of e ≡ Some w → goes_with k w e ≡ true
goes-own k w e names is = and_from _ _ names (ap (is_number w) is ∙ eq-eqb w w refl)

pub standing-numbered : (es : List Event) (k : ℕ) (e : CacheEntryKey) → standing_entry k es ≡ Some e → (names_slot k e && is_some (id_of e)) ≡ true
standing-numbered [] k e h = absurd (cc)
standing-numbered (Admit x n out ∷ es) k e h =
    elim (names_slot k x && is_some (id_of x)) as (λ b. (names_slot k x && is_some (id_of x)) ≡ b → (if b then Some x else standing_entry k es) ≡ Some e → (names_slot k e && is_some (id_of e)) ≡ true) [
      | true ↦ λ t here. let same : x ≡ e = cc in subst (λ y. (names_slot k y && is_some (id_of y)) ≡ true) same t
      | false ↦ λ _ old. standing-numbered es k e old
    ] refl h
standing-numbered (Look q a ∷ es) k e h = standing-numbered es k e h
standing-numbered (Ask q n b ∷ es) k e h = standing-numbered es k e h
standing-numbered (Access x n ∷ es) k e h = standing-numbered es k e h
standing-numbered (Begin w q m ∷ es) k e h = standing-numbered es k e h
standing-numbered (Wrote w bs eof ∷ es) k e h = standing-numbered es k e h
standing-numbered (Finish w b ∷ es) k e h = standing-numbered es k e h
standing-numbered (Dropped w ∷ es) k e h = standing-numbered es k e h
standing-numbered (Release n ∷ es) k e h = standing-numbered es k e h
standing-numbered (LetGo n ∷ es) k e h = standing-numbered es k e h
standing-numbered (Aged n ∷ es) k e h = standing-numbered es k e h
standing-numbered (Purge q ∷ es) k e h = standing-numbered es k e h
standing-numbered (Expire q t ∷ es) k e h = standing-numbered es k e h
standing-numbered (Renew q m ∷ es) k e h = standing-numbered es k e h
standing-numbered (Untrack x ∷ es) k e h = standing-numbered es k e h
standing-numbered (Read a ∷ es) k e h = standing-numbered es k e h

pub standing-names : (es : List Event) (k : ℕ) (e : CacheEntryKey) → standing_entry k es ≡ Some e → names_slot k e ≡ true
standing-names es k e h = (and_parts _ _ (standing-numbered es k e h)).0

-- What is tracked of an entry, after a change at another.

tie : (r : Ordering) → is_eq r ≡ true → r ≡ Equal
tie Less e = cc
tie Equal e = refl
tie Greater e = cc

pub apart : (x e : CacheEntryKey) → x ≢ e → eq_by_cmp entry_cmp x e ≡ false
apart x e ne = elim (eq_by_cmp entry_cmp x e) as (λ b. eq_by_cmp entry_cmp x e ≡ b → b ≡ false) [ true ↦ λ t. absurd (ne (exact_entries x e (tie _ t))) | false ↦ λ t. refl ] refl

kept-remove : (m : Tracked) (x e : CacheEntryKey) → x ≢ e → map.get (map.remove m e) x ≡ map.get m x
kept-remove m x e ne = map.get-remove entries_total m e x ∙ ap (λ b. cond b None (map.get m x)) (apart x e ne)

kept-insert : (m : Tracked) (x e : CacheEntryKey) (n : ℕ) → x ≢ e → map.get (map.insert m e n) x ≡ map.get m x
kept-insert m x e n ne = map.get-insert entries_total m e n x ∙ ap (λ b. cond b (Some n) (map.get m x)) (apart x e ne)

here-insert : (m : Tracked) (e : CacheEntryKey) (n : ℕ) → map.get (map.insert m e n) e ≡ Some n
here-insert m e n = map.get-insert entries_total m e n e ∙ ap (λ r. cond (is_eq r) (Some n) (map.get m e)) (tied_itself entries_total e)

kept-without : (out : List CacheEntryKey) (m : Tracked) (x : CacheEntryKey) (k w : ℕ) → goes_with k w x ≡ true → goes_with_any k w out ≡ false → map.get (without out m) x ≡ map.get m x
kept-without [] m x k w of h = refl
kept-without (e ∷ out) m x k w of h =
    let parts = or_parts (goes_with k w e) (goes_with_any k w out) h in
    kept-without out (map.remove m e) x k w of parts.1 ∙ kept-remove m x e (λ same. both_ways _ parts.0 (subst (λ y. goes_with k w y ≡ true) same of))

-- Events.

pub exact-none : (start : Tracked) → IsExact start []
exact-none start = λ k b h. absurd (cc)

pub exact-wrote : (start : Tracked) (es : List Event) (w : ℕ) (bs : List ℕ) (eof : Bool) → IsTidy es → in_flight w es ≡ true → IsExact start es → IsExact start (Wrote w bs eof ∷ es)
exact-wrote start es w bs eof tidy fly ex = λ q b h. ex q b (sym (complete-wrote es w bs eof tidy fly q) ∙ h)

pub exact-begin : (start : Tracked) (es : List Event) (k : ℕ) (m : Meta) → IsTidy es → IsExact start es → IsExact start (Begin (begun es) k m ∷ es)
exact-begin start es k m tidy ex = λ q b h. ex q b (sym (complete-begin es k m tidy q) ∙ h)

-- a key that stands after a removal was not removed
kept : {A : Type 0} (b : Bool) (o : Option A) (x : A) → (if b then None else o) ≡ Some x → (b ≡ false) × (o ≡ Some x)
kept true o x h = absurd (cc)
kept false o x h = (refl, h)

pub exact-purge : (start : Tracked) (es : List Event) (k : ℕ) → IsTidy es → IsExact start es → IsExact start (Purge k ∷ es)
exact-purge start es k tidy ex = λ q b h. ex q b (kept (k == q) (complete q es) b (sym (complete-purge es k tidy q) ∙ h)).1

-- a body whose meta was altered is as long as the one before
was-stored : (b : Bool) (g : Meta → Meta) (o : Option Stored) (x : Stored) → (if b then option_map (altered_body g) o else o) ≡ Some x → (y : Stored) × (o ≡ Some y) × (stored_size y ≡ stored_size x)
was-stored true g None x h = absurd (cc)
was-stored true g (Some y) x h = let e : altered_body g y ≡ x = cc in (y, refl, ap stored_size e)
was-stored false g o x h = (x, h, refl)

pub exact-expire : (start : Tracked) (es : List Event) (k t : ℕ) → IsTidy es → IsExact start es → IsExact start (Expire k t ∷ es)
exact-expire start es k t tidy ex = λ q b h.
    let was = was-stored (k == q) (expired_at t) (complete q es) b (sym (complete-expire es k t tidy q) ∙ h) in
    let old = ex q was.0 was.1 in
    (old.0, old.1, old.2 ∙ ap Some was.2, old.3)

pub exact-renew : (start : Tracked) (es : List Event) (k : ℕ) (m : Meta) → IsTidy es → IsExact start es → IsExact start (Renew k m ∷ es)
exact-renew start es k m tidy ex = λ q b h.
    let was = was-stored (k == q) (λ old. in_place_of old m) (complete q es) b (sym (complete-renew es k m tidy q) ∙ h) in
    let old = ex q was.0 was.1 in
    (old.0, old.1, old.2 ∙ ap Some was.2, old.3)

-- an entry of which no key stands
pub exact-untrack : (start : Tracked) (es : List Event) (e : CacheEntryKey) → ((k : ℕ) → names_slot k e ≡ true → complete k es ≡ None) → IsExact start es → IsExact start (Untrack e ∷ es)
exact-untrack start es e gone ex = λ q b h.
    let old = ex q b h in
    let mine = standing-names es q old.0 old.1 in
    (old.0, old.1, kept-remove (tracked start es) old.0 e (λ same. both_ways _ (ap is_some (gone q (subst (λ y. names_slot q y ≡ true) same mine))) (ap is_some h)) ∙ old.2, old.3)

pub exact-access : (start : Tracked) (es : List Event) (e : CacheEntryKey) (n : ℕ) → IsExact start es → IsExact start (Access e n ∷ es)
exact-access start es e n ex = λ q b h. let old = ex q b h in (old.0, old.1, stays (tracked start es) old.0 (stored_size b) old.2, old.3)
  where
    stays : (m : Tracked) (x : CacheEntryKey) (v : ℕ) → map.get m x ≡ Some v → map.get (added m e n) x ≡ Some v
    stays m x v is =
        elim (map.contains_key m e) as (λ b. map.contains_key m e ≡ b → map.get (if b then m else map.insert m e n) x ≡ Some v) [
          | true ↦ λ _. is
          | false ↦ λ none. kept-insert m x e n (λ same. both_ways _ none (ap is_some (subst (λ y. map.get m y ≡ Some v) same is))) ∙ is
        ] refl

-- what stands of a key after an eviction is of its last finished write, with which nothing went
stood : (q : ℕ) (es : List Event) (out : List CacheEntryKey) (c : Stored) → complete q es ≡ Some c → goes_last q es out ≡ false → (w : ℕ) × (last_finished q es ≡ Some w) × (goes_with_any q w out ≡ false)
stood q es out c is none = elim (last_finished q es) as (λ o. last_finished q es ≡ o → option_any (λ w. goes_with_any q w out) o ≡ false → (w : ℕ) × (last_finished q es ≡ Some w) × (goes_with_any q w out ≡ false)) [
  | None ↦ λ last _. absurd (let no : None ≡ Some c = sym (ap (option_and_then (λ w. unless_removed (is_removed w es) (begin_of w es) (meta_kept w es) (body_of w es))) last) ∙ is in cc)
  | Some w ↦ λ last h. (w, last, h)
] refl none

-- the admission of the last finished write of a key that stands, if all others are tracked
pub exact-admit : (start : Tracked) (es : List Event) (k : ℕ) (b : Stored) (e : CacheEntryKey) (out : List CacheEntryKey) → IsTidy es → complete k es ≡ Some b → names_slot k e ≡ true → id_of e ≡ last_finished k es
    → IsExact start (Purge k ∷ es) → IsExact start (Admit e (stored_size b) out ∷ es)
exact-admit start es k b e out tidy is of number ex = λ q c h.
    let now = map.insert (tracked start es) e (stored_size b) in
    let p = kept (goes_last q es out) (complete q es) c (sym (complete-admit es e (stored_size b) out tidy q) ∙ h) in
    let w = stood q es out c p.1 p.0 in
    elim (k == q) as (λ a. (k == q) ≡ a → (x : CacheEntryKey) × ((if names_slot q e && is_some (id_of e) then Some e else standing_entry q es) ≡ Some x) × (map.get (without out now) x ≡ Some (stored_size c)) × (id_of x ≡ last_finished q es)) [
      | true ↦ λ t.
          let named : names_slot q e ≡ true = names_only k e of q ∙ t in
          let own : id_of e ≡ last_finished q es = number ∙ ap (λ y. last_finished y es) (eqb-true k q t) in
          let both : ◌≡◌ {A = Option Stored} (Some b) (Some c) = sym (subst (λ y. complete y es ≡ Some b) (eqb-true k q t) is) ∙ p.1 in
          let same : b ≡ c = cc in
          (e, ap (λ a. if a then Some e else standing_entry q es) (and_from _ _ named (ap is_some (own ∙ w.1))), kept-without out now e q w.0 (goes-own q w.0 e named (own ∙ w.1)) w.2 ∙ here-insert (tracked start es) e (stored_size b) ∙ ap (λ (y : Stored). Some (stored_size y)) same, own)
      | false ↦ λ f.
          let other : names_slot q e ≡ false = names_only k e of q ∙ f in
          let old = ex q c (complete-purge es k tidy q ∙ ap (λ a. if a then None else complete q es) f ∙ p.1) in
          let mine = standing-names es q old.0 old.1 in
          (old.0, ap (λ a. if a && is_some (id_of e) then Some e else standing_entry q es) other ∙ old.1, kept-without out now old.0 q w.0 (goes-own q w.0 old.0 mine (old.3 ∙ w.1)) w.2 ∙ kept-insert (tracked start es) old.0 e (stored_size b) (λ same. both_ways _ other (subst (λ y. names_slot q y ≡ true) same mine)) ∙ old.2, old.3)
    ] refl

-- a finish that stores: all keys but its own are tracked
pub exact-undone : (start : Tracked) (es : List Event) (w k : ℕ) (m : Meta) → IsTidy es → in_flight w es ≡ true → begin_of w es ≡ Some (k, m) → is_removed w es ≡ false → IsExact start es → IsExact start (Purge k ∷ Finish w true ∷ es)
exact-undone start es w k m tidy fly is whole ex = λ q b h.
    let p = kept (k == q) (complete q (Finish w true ∷ es)) b (sym (complete-purge (Finish w true ∷ es) k (tidy-finish es w k m is whole fly tidy) q) ∙ h) in
    let old = ex q b (ap (λ a. if a then Some (body_with m (body_of w es)) else complete q es) (sym p.0) ∙ (sym (complete-finish es w k m tidy fly is whole q) ∙ p.1)) in
    (old.0, old.1, old.2, old.3 ∙ sym (ap (λ o. if option_any (λ (b : ℕ × Meta). b.0 == q) o then Some w else last_finished q es) is ∙ ap (λ a. if a then Some w else last_finished q es) p.0))
