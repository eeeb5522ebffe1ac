-- What is tracked stays what is stored.
use Rattle.std.specs.Prelude.{All, IsTrue}
use Rattle.std.specs.FinMap.{contains_key}
use Rattle.std.proofs.lemmas.List.Elements.{All-head, All-tail}
use Rattle.pcache_evict.specs.declared.eviction.entry_key.CacheEntryKey.TheVariants.{KeyOnly}
use Rattle.pcache_cache.specs.Strays.{IsStored}
use Rattle.pcache_cache.proofs.Words.{◌≡◌, ◌≢◌, ℕ, ◌⊎◌, inl, inr, true, false, cond, Option, None, Some, is_some, List, [], ◌∷◌, refl, ap, sym, ◌∙◌, nat_eq, option_eq, nat_cmp, eq_by_cmp, is_eq, tied_itself, get, insert, remove, get-insert, get-remove, both_ways, eq-eqb, eqb-true, Key, slot, entry_cmp, entries_total, Tracked, without, CacheEntryKey, Identified, entry_slot, entry_of, body_number, entry_purged, Store, Stored, body_without, complete_body, has_body_of, number_of_body, purged, write_purged, Account, IsBody, IsItsKey, TracksOnly, body_weight, Weighing}
use Rattle.pcache_cache.proofs.Ended.{body-lost, purged_each}
use Rattle.pcache_cache.proofs.Standing.{Fewer, body-remove, cmp_same, same-key}
use Rattle.pcache_cache.proofs.Sums.{entry-same}

module _ (of : Account) (wg : Weighing) where
  -- what stands in another store too
  pub is-body : (s t : Store) (k w n : ℕ) → ((b : Stored) → complete_body (get s.slots k) ≡ Some b → (a : Stored) × (complete_body (get t.slots k) ≡ Some a) × (a.meta.entry_id ≡ b.meta.entry_id) × (body_weight wg a ≡ body_weight wg b)) → IsBody wg s k w n → IsBody wg t k w n
  is-body s t k w n stands b = let p = stands b.0 b.1 in (p.0, p.1, p.2 ∙ b.2, b.3 ∙ sym p.3)

  is-stored : (s t : Store) (e : CacheEntryKey) (n : ℕ) → ((w : ℕ) → IsBody wg s (entry_slot e) w n → IsBody wg t (entry_slot e) w n) → IsStored of wg s e n → IsStored of wg t e n
  is-stored s t e n f own = record { number = own.number; named = own.named; stored = elim own.stored [ inl out ↦ inl out | inr b ↦ inr (f own.number b) ] }

  -- what is complete is so in another store, with the number and the weight that it has
  pub only_stands : (m : Tracked) (s t : Store) → Fewer wg t.slots s.slots → TracksOnly of wg s m → TracksOnly of wg t m
  only_stands m s t more only e n is = is-stored s t e n (λ w. is-body s t (entry_slot e) w n (λ b there. let p = more (entry_slot e) b there in (p.0, p.1, p.3, p.4))) (only e n is)

  pub only_same : (m : Tracked) (s t : Store) → ((k : ℕ) → complete_body (get t.slots k) ≡ complete_body (get s.slots k)) → TracksOnly of wg s m → TracksOnly of wg t m
  only_same m s t same only = only_stands m s t (λ k b is. (b, same k ∙ is, refl, refl, refl)) only

  -- ---- an entry goes, and what is complete under its slot

  -- each tracked entry is of another slot, or left out
  abbrev pub OnlyBut : ℕ → Store → Tracked → Type 0
  OnlyBut k s m = (e : CacheEntryKey) (n : ℕ) → get m e ≡ Some n → IsStored of wg s e n × ((of.is_left_out e ≡ true) ⊎ (entry_slot e ≢ k))

  -- the entry of the body of a key, by its number
  own-is : (s : Store) (k : Key) (e : CacheEntryKey) (n w : ℕ) (id : Option ℕ) → IsItsKey of (Some k) → e ≡ Identified (of.key_of_slot (entry_slot e)) w → IsBody wg s (entry_slot e) w n → entry_slot e ≡ slot k → id ≡ body_number s (slot k) → e ≡ entry_of k id
  own-is s k e n w id its named body at number =
      let here : number_of_body (complete_body (get s.slots (slot k))) ≡ Some w = ap (λ q. number_of_body (complete_body (get s.slots q))) (sym at) ∙ ap number_of_body body.1 ∙ body.2 in
      named ∙ ap (λ q. Identified (of.key_of_slot q) w) at ∙ ap (λ c. Identified c w) (sym its) ∙ ap (entry_of k) (sym (number ∙ here))

  -- what is tracked beside the entry of a key's body
  pub but-stays : (m : Tracked) (s : Store) (k : Key) (id : Option ℕ) → IsItsKey of (Some k) → id ≡ body_number s (slot k) → TracksOnly of wg s m → (e : CacheEntryKey) (n : ℕ) → get m e ≡ Some n → eq_by_cmp entry_cmp e (entry_of k id) ≡ false → IsStored of wg s e n × ((of.is_left_out e ≡ true) ⊎ (entry_slot e ≢ slot k))
  but-stays m s k id its number only e n is other =
      let own = only e n is in (
        own,
        elim own.stored [
          | inl out ↦ inl out
          | inr body ↦ inr (λ at. both_ways _ other (ap (eq_by_cmp entry_cmp e) (sym (own-is s k e n own.number id its own.named body at number)) ∙ tied_itself-eq e))
        ],
      )
    where
      tied_itself-eq : (e : CacheEntryKey) → eq_by_cmp entry_cmp e e ≡ true
      tied_itself-eq e = ap is_eq (tied_itself entries_total e)

  -- what is tracked once an entry is removed was so before, and is another
  was-tracked : (m : Tracked) (x e : CacheEntryKey) (n : ℕ) → get (remove m x) e ≡ Some n → (get m e ≡ Some n) × (eq_by_cmp entry_cmp e x ≡ false)
  was-tracked m x e n is =
      elim (eq_by_cmp entry_cmp e x) as (λ t. eq_by_cmp entry_cmp e x ≡ t → cond t None (get m e) ≡ Some n → (get m e ≡ Some n) × (eq_by_cmp entry_cmp e x ≡ false)) [
        | true ↦ λ t none. absurd (cc)
        | false ↦ λ t there. (there, t)
      ] refl (sym (get-remove entries_total m x e) ∙ is)

  pub only_but : (m : Tracked) (s : Store) (k : Key) (id : Option ℕ) → IsItsKey of (Some k) → id ≡ body_number s (slot k) → TracksOnly of wg s m → OnlyBut (slot k) s (remove m (entry_of k id))
  only_but m s k id its number only e n is = let was = was-tracked m (entry_of k id) e n is in but-stays m s k id its number only e n was.0 was.1

  -- where no body has a number
  pub only_but_none : (m : Tracked) (s : Store) (k : ℕ) → body_number s k ≡ None → TracksOnly of wg s m → OnlyBut k s m
  only_but_none m s k none only e n is =
      let own = only e n is in (
        own,
        elim own.stored [
          | inl out ↦ inl out
          | inr body ↦ inr (λ at. let some : body_number s k ≡ Some own.number = ap (body_number s) (sym at) ∙ ap number_of_body body.1 ∙ body.2 in absurd (cc))
        ],
      )

  -- and nothing else changes
  pub only_elsewhere : (m : Tracked) (s t : Store) (k : ℕ) → ((q : ℕ) → q ≢ k → complete_body (get t.slots q) ≡ complete_body (get s.slots q)) → OnlyBut k s m → TracksOnly of wg t m
  only_elsewhere m s t k same but e n is =
      let p = but e n is in
      record {
        number = p.0.number;
        named = p.0.named;
        stored = elim p.1 [
          | inl out ↦ inl out
          | inr ne ↦ elim p.0.stored [ inl out ↦ inl out | inr body ↦ inr (body.0, same (entry_slot e) ne ∙ body.1, body.2, body.3) ]
        ];
      }

  pub body-apart : (s : Store) (k q : ℕ) → q ≢ k → complete_body (get (purged s k).slots q) ≡ complete_body (get s.slots q)
  body-apart s k q ne =
      body-remove s.slots k q ∙ elim (eq_by_cmp nat_cmp q k) as (λ t. eq_by_cmp nat_cmp q k ≡ t → cond t None (complete_body (get s.slots q)) ≡ complete_body (get s.slots q)) [
        | true ↦ λ t. absurd (ne (same-key q k t))
        | false ↦ λ t. refl
      ] refl

  pub only_purged : (m : Tracked) (s : Store) (k : ℕ) → OnlyBut k s m → TracksOnly of wg (purged s k) m
  only_purged m s k but = only_elsewhere m s (purged s k) k (body-apart s k) but

  -- ---- what is evicted is purged

  abbrev pub HasName : CacheEntryKey → Type 0
  HasName e = (w : ℕ) × (e ≡ Identified (of.key_of_slot (entry_slot e)) w)

  abbrev pub HaveNames : List CacheEntryKey → Type 0
  HaveNames [] = Unit {0}
  HaveNames (e ∷ es) = HasName e × HaveNames es

  other-body : (w v : ℕ) (o : Option Stored) (b : Stored) → o ≡ Some b → b.meta.entry_id ≡ Some w → w ≢ v → body_without v o ≡ Some b
  other-body w v o b is number ne =
      elim (has_body_of v o) as (λ t. has_body_of v o ≡ t → cond t None o ≡ Some b) [
        | true ↦ λ t. absurd (ne (eqb-true w v (sym (ap (has_body_of v) is ∙ ap (λ i. option_eq nat_eq i (Some v)) number) ∙ t)))
        | false ↦ λ t. is
      ] refl

  -- a body stays when the entry of another one goes
  body-stays : (s : Store) (e x : CacheEntryKey) (n w : ℕ) → HasName x → e ≡ Identified (of.key_of_slot (entry_slot e)) w → eq_by_cmp entry_cmp e x ≡ false → IsBody wg s (entry_slot e) w n → IsBody wg (entry_purged true s x) (entry_slot e) w n
  body-stays s e x n w name named other body =
      let v = name.0 in
      let lost : entry_purged true s x ≡ write_purged s (entry_slot x) v = numbered x v name.1 in
      let there : complete_body (get (write_purged s (entry_slot x) v).slots (entry_slot e)) ≡ Some body.0 =
      body-lost s.slots (entry_slot x) v (entry_slot e) ∙ elim (eq_by_cmp nat_cmp (entry_slot e) (entry_slot x)) as (λ t. eq_by_cmp nat_cmp (entry_slot e) (entry_slot x) ≡ t → cond t (body_without v (complete_body (get s.slots (entry_slot x)))) (complete_body (get s.slots (entry_slot e))) ≡ Some body.0) [
        | true ↦ λ t.
            let at : entry_slot e ≡ entry_slot x = same-key (entry_slot e) (entry_slot x) t in
            other-body w v (complete_body (get s.slots (entry_slot x))) body.0 (ap (λ q. complete_body (get s.slots q)) (sym at) ∙ body.1) body.2
            (λ same. both_ways _ other (ap (eq_by_cmp entry_cmp e) (name.1 ∙ ap (λ q. Identified (of.key_of_slot q) v) (sym at) ∙ ap (Identified (of.key_of_slot (entry_slot e))) (sym same) ∙ sym named) ∙ ap is_eq (tied_itself entries_total e)))
        | false ↦ λ t. body.1
      ] refl in
      (body.0, ap (λ (y : Store). complete_body (get y.slots (entry_slot e))) lost ∙ there, body.2, body.3)
    where
      numbered : (x : CacheEntryKey) (v : ℕ) → x ≡ Identified (of.key_of_slot (entry_slot x)) v → entry_purged true s x ≡ write_purged s (entry_slot x) v
      numbered (KeyOnly k) v is = absurd (cc)
      numbered (Identified k u) v is = let same : u ≡ v = cc in ap (write_purged s (entry_slot (Identified k u))) same

  only-one : (m : Tracked) (s : Store) (x : CacheEntryKey) → HasName x → TracksOnly of wg s m → TracksOnly of wg (entry_purged true s x) (remove m x)
  only-one m s x name only e n is =
      let was = was-tracked m x e n is in
      let own = only e n was.0 in
      record { number = own.number; named = own.named; stored = elim own.stored [ inl out ↦ inl out | inr body ↦ inr (body-stays s e x n own.number name own.named was.1 body) ] }

  pub only_each : (out : List CacheEntryKey) (m : Tracked) (s : Store) → HaveNames out → TracksOnly of wg s m → TracksOnly of wg (purged_each s out) (without out m)
  only_each [] m s names only = only
  only_each (x ∷ out) m s names only = only_each out (remove m x) (entry_purged true s x) names.1 (only-one m s x names.0 only)

  -- an entry that is tracked has a name
  pub names : (out : List CacheEntryKey) (m : Tracked) (s : Store) → All (λ e. IsTrue (contains_key m e)) out → TracksOnly of wg s m → HaveNames out
  names [] m s there only = tt
  names (x ∷ out) m s there only = (name (get m x) refl (All-head (λ e. IsTrue (contains_key m e)) x out there), names out m s (All-tail (λ e. IsTrue (contains_key m e)) x out there) only)
    where
      name : (o : Option ℕ) → get m x ≡ o → is_some o ≡ true → HasName x
      name None is never = absurd (cc)
      name (Some n) is so = let own = only x n is in (own.number, own.named)

  -- ---- a body comes to stand under a key, and its entry is admitted

  -- each tracked entry but this one is of another slot, or left out
  abbrev pub OnlyBeside : ℕ → CacheEntryKey → Store → Tracked → Type 0
  OnlyBeside k mine s m = (e : CacheEntryKey) (n : ℕ) → get m e ≡ Some n → eq_by_cmp entry_cmp e mine ≡ false → IsStored of wg s e n × ((of.is_left_out e ≡ true) ⊎ (entry_slot e ≢ k))

  pub only_admitted : (m : Tracked) (s t : Store) (k : Key) (new : Stored) (w n : ℕ) → IsItsKey of (Some k) → ((q : ℕ) → complete_body (get t.slots q) ≡ cond (eq_by_cmp nat_cmp q (slot k)) (Some new) (complete_body (get s.slots q))) → new.meta.entry_id ≡ Some w → n ≡ body_weight wg new → OnlyBeside (slot k) (entry_of k (Some w)) s m → TracksOnly of wg t (insert m (entry_of k (Some w)) n)
  only_admitted m s t k new w n its here number weighs but e x is =
      elim (eq_by_cmp entry_cmp e mine) as (λ b. eq_by_cmp entry_cmp e mine ≡ b → cond b (Some n) (get m e) ≡ Some x → IsStored of wg t e x) [
        | true ↦ λ b own.
            let same : e ≡ mine = entry-same e mine b in
            let at : entry_slot e ≡ slot k = ap entry_slot same in
            let weight : n ≡ x = cc in
            record {
              number = w;
              named = same ∙ ap (λ c. Identified c w) its ∙ ap (λ q. Identified (of.key_of_slot q) w) (sym at);
              stored = inr (new, here (entry_slot e) ∙ ap (λ y. cond y (Some new) (complete_body (get s.slots (entry_slot e)))) (cmp_same (entry_slot e) (slot k) ∙ eq-eqb (slot k) (entry_slot e) (sym at)), number, sym weight ∙ weighs);
            }
        | false ↦ λ b old.
            let p = but e x old b in
            record {
              number = p.0.number;
              named = p.0.named;
              stored = elim p.1 [
                | inl out ↦ inl out
                | inr ne ↦ elim p.0.stored [ inl out ↦ inl out | inr body ↦ inr (body.0, here (entry_slot e) ∙ elsewhere (entry_slot e) ne ∙ body.1, body.2, body.3) ]
              ];
            }
      ] refl (sym (get-insert entries_total m mine n e) ∙ is)
    where
      mine : CacheEntryKey
      mine = entry_of k (Some w)

      elsewhere : (q : ℕ) → q ≢ slot k → cond (eq_by_cmp nat_cmp q (slot k)) (Some new) (complete_body (get s.slots q)) ≡ complete_body (get s.slots q)
      elsewhere q ne = elim (eq_by_cmp nat_cmp q (slot k)) as (λ t. eq_by_cmp nat_cmp q (slot k) ≡ t → cond t (Some new) (complete_body (get s.slots q)) ≡ complete_body (get s.slots q)) [
        | true ↦ λ t. absurd (ne (same-key q (slot k) t))
        | false ↦ λ t. refl
      ] refl
