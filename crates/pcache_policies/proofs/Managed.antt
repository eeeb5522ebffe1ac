-- A manager over a queue that goes by a policy, seen as a finite map: what its calls do is what an eviction manager's contract says.
use Rattle.pcache_evict.specs.Tracked.{added, raised, incremented, evicted_with}
use Rattle.pcache_evict.proofs.Chains.{inside-none}
use Rattle.pcache_policies.specs.Queue.{IsOnce}
use Rattle.pcache_policies.specs.Ring.{going}
use Rattle.pcache_policies.specs.Managed.{Way, accessed, IsCounted, Comes, Admission, Increment, Admitted, Incremented, HasFailed, HasFailedWith}
use Rattle.pcache_policies.proofs.Words.{◌≡◌, ℕ, ◌+◌, ◌-◌, ◌^◌, min, Bool, true, cond, Option, None, Some, is_some, List, [], ◌∷◌, ◌++◌, refl, ap, sym, subst, ◌∙◌, arith, inl, inr, length, length-append, append-nil, ◌⊎◌, keys_of, sum_by-cons, IsDistinct-head, IsDistinct-cons, CacheEntryKey, entry_eq, Tracked, Limits, IsFair, IsWithin, without, weight_in, Recency, weight, IsWithinAsList, map_of, map-others, inside, Seen, Queue, plain, seen_of, reseen, unused, HasRoom, Run, Lawful, Managed, entries_in, KeepsLimits, Admits}
use Rattle.std.specs.FinMap as fin
use Rattle.pcache_policies.proofs.Queues.{plain-rest, once-plain, once-reseen, seen-set}
use Rattle.pcache_policies.proofs.Rings.{apart_none, none_apart}
use Rattle.pcache_policies.proofs.Leavings.{run-none, run-ends-same, none_comes, one_comes, within_of, room-within}
use Rattle.pcache_policies.proofs.Runs.{drops, over_whole}
use Rattle.pcache_policies.proofs.Seens.{found_same, none_some, map-reseen, same_put, map-new, got, there-list}

abbrev pub state : {O : Type 0} → O → Limits → ℕ → ℕ → Managed O
state o limits a c = record { order = o; limits = limits; evicted = record { weight = a; count = c } }

module _ {O : Type 0} (w : Way O) (l : Lawful w) where
  -- ---- which entries go

  -- entries went until the limits held
  kept-run : (limits : Limits) (from t : O) (out : List CacheEntryKey) → w.MakesRoom limits 0 0 from out t → IsOnce (w.whole from) → Run limits out (entries_in w from) (entries_in w t)
  kept-run limits from t out room once =
      subst (λ out. Run limits out (entries_in w from) (entries_in w t)) (append-nil out)
      (l.runs limits [] 0 0 none_comes from t out [] (entries_in w t) room once
      (λ apart. run-none limits (entries_in w t) (once-plain (w.whole t) apart) (at_end (l.ended limits 0 0 from t out room))))
    where
      at_end : HasRoom limits 0 0 (entries_in w t) ⊎ (w.whole t ≡ []) → IsWithinAsList limits (entries_in w t)
      at_end (inl h) = within_of limits [] (entries_in w t) 0 0 none_comes h
      at_end (inr e) = subst (λ q. IsWithinAsList limits (plain q)) (sym e) (inside-none limits)

  -- a new entry came in, or went itself
  comes-run : (limits : Limits) (o t : O) (k : CacheEntryKey) (n : ℕ) (out : List CacheEntryKey) → Comes w limits o k n t out → IsOnce (w.whole o) → seen_of k (w.whole o) ≡ None → Run limits out ((k, n) ∷ entries_in w o) (entries_in w t)
  comes-run limits o t k n out c once none = by_end c.ends
    where
      with_it : IsOnce ((k, unused n) ∷ w.whole o)
      with_it = IsDistinct-cons entry_eq k (keys_of (w.whole o)) (apart_none k (w.whole o) none) once

      over_all : ¬ HasRoom limits n 1 (entries_in w c.left) → HasRoom limits n 1 (entries_in w c.left) ⊎ (w.whole c.left ≡ []) → w.whole c.left ≡ []
      over_all no_room (inl h) = absurd (no_room h)
      over_all no_room (inr e) = e

      by_end : (HasRoom limits n 1 (entries_in w c.left) × (t ≡ w.entered (w.is_known k o) k n c.left) × (out ≡ c.gone)) ⊎ ((¬ HasRoom limits n 1 (entries_in w c.left)) × (t ≡ c.left) × (out ≡ c.gone ++ k ∷ [])) → Run limits out ((k, n) ∷ entries_in w o) (entries_in w t)
      by_end (inl (room, is, keys)) =
          subst (λ out. Run limits out ((k, n) ∷ entries_in w o) (entries_in w t)) (append-nil c.gone ∙ sym keys)
          (l.runs limits ((k, unused n) ∷ []) n 1 (one_comes k n) o c.left c.gone [] (entries_in w t) c.room with_it
          (λ apart. run-ends-same limits [] ((k, n) ∷ entries_in w c.left) ((k, n) ∷ entries_in w c.left) (entries_in w t)
          (ap (λ o. map_of (entries_in w o)) is ∙ l.entered (w.is_known k o) k n c.left (none_apart k (w.whole c.left) (IsDistinct-head entry_eq k (keys_of (w.whole c.left)) apart)))
          (ap (λ o. weight (entries_in w o)) is ∙ l.heavier (w.is_known k o) k n c.left ∙ sym (sum_by-cons (λ (e : CacheEntryKey × ℕ). e.1) (k, n) (entries_in w c.left)))
          (run-none limits ((k, n) ∷ entries_in w c.left) (once-plain ((k, unused n) ∷ w.whole c.left) apart) (within_of limits ((k, n) ∷ []) (entries_in w c.left) n 1 (one_comes k n) room))))
      by_end (inr (no_room, is, keys)) =
          let empty = over_all no_room (l.ended limits n 1 o c.left c.gone c.room) in
          subst (λ out. Run limits out ((k, n) ∷ entries_in w o) (entries_in w t)) (sym keys)
          (l.runs limits ((k, unused n) ∷ []) n 1 (one_comes k n) o c.left c.gone (k ∷ []) (entries_in w t) c.room with_it
          (λ apart. drops limits [] ((k, unused n) ∷ w.whole c.left) [] (w.whole c.left) k (unused n) (entries_in w t) apart (over_whole limits ((k, unused n) ∷ []) (w.whole c.left) n 1 (one_comes k n) no_room) refl
          (λ alone. subst (λ o. Run limits [] (entries_in w c.left) (entries_in w o)) (sym is)
          (run-none limits (entries_in w c.left) (once-plain (w.whole c.left) alone) (subst (λ q. IsWithinAsList limits (plain q)) (sym empty) (inside-none limits))))))

  -- ---- what the map says of it

  pub record Facts (old : Managed O) (m : Tracked) (new : Managed O) (out : List CacheEntryKey) : Type 0 where
    pub fair : IsFair old.limits m out
    pub tracked : map_of (entries_in w new.order) ≡ without out m
    pub evicted : new.evicted ≡ evicted_with old.evicted m out
    pub limits : new.limits ≡ old.limits

  facts : (old new : Managed O) (q : Recency) (before : ℕ) (m : Tracked) (out : List CacheEntryKey) → map_of q ≡ m → weight q ≡ before → Run old.limits out q (entries_in w new.order) → IsCounted w old before new out → Facts old m new out
  facts old new q before m out is heavy run (limits, weight, count) =
      let gone = run.gone in
      let same : weight_in (map_of q) out ≡ weight_in m out = ap (λ m. weight_in m out) is in
      let size : new.evicted.weight ≡ min (old.evicted.weight + weight_in m out) (2 ^ 64 - 1) = omega arith in
      record {
        fair = subst (λ m. IsFair old.limits m out) is run.fair;
        tracked = run.left ∙ ap (without out) is;
        evicted = λ i. record { weight = size i; count = count i };
        limits = limits;
      }

  admits-facts : (old new : Managed O) (k : CacheEntryKey) (n : ℕ) (out : List CacheEntryKey) → Admits w old k n new out → IsOnce (w.whole old.order) → seen_of k (w.whole old.order) ≡ None → Facts old (fin.insert (map_of (entries_in w old.order)) k n) new out
  admits-facts old new k n out a once none =
      facts old new ((k, n) ∷ entries_in w old.order) (n + weight (entries_in w old.order)) _ out (map-new k n (w.whole old.order) none) (sum_by-cons (λ (e : CacheEntryKey × ℕ). e.1) (k, n) (entries_in w old.order)) (comes-run old.limits old.order new.order k n out a.comes once none) a.counted

  map-set : (k : CacheEntryKey) (v : Seen) (o : O) → is_some (seen_of k (w.whole o)) ≡ true → map_of (entries_in w (w.reseen_in k v o)) ≡ fin.insert (map_of (entries_in w o)) k v.weight
  map-set k v o there = ap (λ q. map_of (plain q)) (l.reseen k v o) ∙ map-reseen k v (w.whole o) there

  once_set : (k : CacheEntryKey) (v : Seen) (o : O) → IsOnce (w.whole o) → IsOnce (w.whole (w.reseen_in k v o))
  once_set k v o once = subst IsOnce (sym (l.reseen k v o)) (once-reseen k v (w.whole o) once)

  keeps-facts : (old new : Managed O) (from : O) (m : Tracked) (out : List CacheEntryKey) → map_of (entries_in w from) ≡ m → KeepsLimits w old from new out → IsOnce (w.whole from) → Facts old m new out
  keeps-facts old new from m out is keeps once = facts old new (entries_in w from) _ m out is refl (kept-run old.limits from new.order out keeps.room once) keeps.counted

  pub admission : (o : Option Seen) (old new : Managed O) (k : CacheEntryKey) (n : ℕ) (out : List CacheEntryKey) → seen_of k (w.whole old.order) ≡ o → Admission w o old k n new out → IsOnce (w.whole old.order) → Facts old (fin.insert (map_of (entries_in w old.order)) k n) new out
  admission None old new k n out is a once = admits-facts old new k n out a once is
  admission (Some v) old new k n out is a once = keeps-facts old new (w.readmitted k v n old.order) _ out (l.readmitted k v n old.order once is) a (l.once k v n old.order once)

  pub increment : (o : Option Seen) (old new : Managed O) (k : CacheEntryKey) (delta : ℕ) (most : Option ℕ) (out : List CacheEntryKey) → seen_of k (w.whole old.order) ≡ o → Increment w o old k delta most new out → IsOnce (w.whole old.order) → Facts old (incremented (map_of (entries_in w old.order)) k delta most) new out
  increment None old new k delta most out is a once =
      subst (λ g. Facts old (fin.insert (map_of (entries_in w old.order)) k (raised delta most g)) new out) (sym (got k (w.whole old.order) None is)) (admits-facts old new k (raised delta most None) out a once is)
  increment (Some v) old new k delta most out is a once =
      let r : Seen = record v { weight = raised delta most (Some v.weight) } in
      subst (λ g. Facts old (fin.insert (map_of (entries_in w old.order)) k (raised delta most g)) new out) (sym (got k (w.whole old.order) (Some v) is))
      (keeps-facts old new (w.reseen_in k r old.order) _ out (map-set k r old.order (ap is_some is)) a (once_set k r old.order once))

  -- the limits hold for the order if they hold for the map
  pub within-raised : (limits : Limits) (o : O) (k : CacheEntryKey) (delta : ℕ) (most : Option ℕ) (v : Seen) → seen_of k (w.whole o) ≡ Some v → IsOnce (w.whole o) → IsWithin limits (incremented (map_of (entries_in w o)) k delta most) → IsWithinAsList limits (entries_in w (w.reseen_in k (record v { weight = raised delta most (Some v.weight) }) o))
  within-raised limits o k delta most v is once fits =
      let r : Seen = record v { weight = raised delta most (Some v.weight) } in
      inside limits (entries_in w (w.reseen_in k r o)) (once-plain (w.whole (w.reseen_in k r o)) (once_set k r o once))
      (subst (IsWithin limits) (sym (map-set k r o (ap is_some is)))
      (subst (λ g. IsWithin limits (fin.insert (map_of (entries_in w o)) k (raised delta most g))) (got k (w.whole o) (Some v) is) fits))

  -- a use, on the map
  pub map-accessed : (f : Option Seen) (k : CacheEntryKey) (n : ℕ) (o : O) → seen_of k (w.whole o) ≡ f → IsOnce (w.whole o) → map_of (entries_in w (accessed w f k n o)) ≡ added (map_of (entries_in w o)) k n
  map-accessed None k n o is once =
      l.entered (w.is_known k o) k n o is ∙ map-new k n (w.whole o) is
      ∙ sym (ap (λ b. cond b (map_of (entries_in w o)) (fin.insert (map_of (entries_in w o)) k n)) (sym (there-list k (w.whole o)) ∙ ap is_some is))
  map-accessed (Some v) k n o is once =
      l.used k v o once is
      ∙ sym (ap (λ b. cond b (map_of (entries_in w o)) (fin.insert (map_of (entries_in w o)) k n)) (sym (there-list k (w.whole o)) ∙ ap is_some is))

  pub map-removed : (k : CacheEntryKey) (o : O) → map_of (entries_in w (w.rest_in k o)) ≡ fin.remove (map_of (entries_in w o)) k
  map-removed k o = ap (λ q. map_of (plain q)) (l.rest k o) ∙ ap map_of (plain-rest k (w.whole o)) ∙ map-others k (entries_in w o)

  -- ---- a call that failed

  -- an entry that was set is there
  set_there : (o t : O) (k : CacheEntryKey) (v : Seen) (n : ℕ) → seen_of k (w.whole o) ≡ Some v → map_of (entries_in w t) ≡ fin.insert (map_of (entries_in w o)) k n → is_some (seen_of k (w.whole t)) ≡ true
  set_there o t k v n found is =
      let r : Seen = record v { weight = n } in
      found_same k (reseen k r (w.whole o)) (w.whole t) (is ∙ sym (map-reseen k r (w.whole o) (ap is_some found))) ∙ ap is_some (seen-set k r (w.whole o) (ap is_some found))

  pub readmitted_there : (k : CacheEntryKey) (v : Seen) (n : ℕ) (o : O) → IsOnce (w.whole o) → seen_of k (w.whole o) ≡ Some v → is_some (seen_of k (w.whole (w.readmitted k v n o))) ≡ true
  readmitted_there k v n o once found = set_there o (w.readmitted k v n o) k v n found (l.readmitted k v n o once found)

  pub reseen_there : (k : CacheEntryKey) (v r : Seen) (o : O) → seen_of k (w.whole o) ≡ Some v → is_some (seen_of k (w.whole (w.reseen_in k r o))) ≡ true
  reseen_there k v r o found = ap (λ q. is_some (seen_of k q)) (l.reseen k r o) ∙ ap is_some (seen-set k r (w.whole o) (ap is_some found))

  -- an entry that was set has what it had before
  failed-back : (old mid new : Managed O) (k : CacheEntryKey) (v : Seen) (n : ℕ) → seen_of k (w.whole old.order) ≡ Some v → map_of (entries_in w mid.order) ≡ fin.insert (map_of (entries_in w old.order)) k n → mid.limits ≡ old.limits → mid.evicted ≡ old.evicted
      → HasFailedWith w k v mid new → HasFailed w old new
  failed-back old mid new k v n found is limits evicted h =
      let there : is_some (seen_of k (w.whole mid.order)) ≡ true = set_there old.order mid.order k v n found is in
      record {
        same = h.same ∙ map-reseen k v (w.whole mid.order) there ∙ ap (λ m. fin.insert m k v.weight) is ∙ same_put k n v.weight (map_of (entries_in w old.order)) (got k (w.whole old.order) (Some v) found);
        limits = h.limits ∙ limits;
        evicted = h.evicted ∙ evicted;
      }

  pub readmitted-back : (old mid new : Managed O) (k : CacheEntryKey) (v : Seen) (n : ℕ) → seen_of k (w.whole old.order) ≡ Some v → IsOnce (w.whole old.order) → mid ≡ record old { order = w.readmitted k v n old.order } → HasFailedWith w k v mid new → HasFailed w old new
  readmitted-back old mid new k v n found once is h =
      failed-back old mid new k v n found (ap (λ m. map_of (entries_in w m.order)) is ∙ l.readmitted k v n old.order once found) (ap (λ m. m.limits) is) (ap (λ m. m.evicted) is) h

  pub reseen-back : (old mid new : Managed O) (k : CacheEntryKey) (v r : Seen) → seen_of k (w.whole old.order) ≡ Some v → mid ≡ record old { order = w.reseen_in k r old.order } → HasFailedWith w k v mid new → HasFailed w old new
  reseen-back old mid new k v r found is h =
      failed-back old mid new k v r.weight found (ap (λ m. map_of (entries_in w m.order)) is ∙ map-set k r old.order (ap is_some found)) (ap (λ m. m.limits) is) (ap (λ m. m.evicted) is) h

  -- an entry that is set after a call that failed
  pub set-with : (old mid new : Managed O) (k : CacheEntryKey) (v : Seen) → is_some (seen_of k (w.whole old.order)) ≡ true → HasFailed w old mid → new ≡ record mid { order = w.reseen_in k v mid.order } → HasFailedWith w k v old new
  set-with old mid new k v there h is =
      let still : is_some (seen_of k (w.whole mid.order)) ≡ true = found_same k (w.whole old.order) (w.whole mid.order) h.same ∙ there in
      record {
        same = ap (λ m. map_of (entries_in w m.order)) is ∙ map-set k v mid.order still ∙ ap (λ m. fin.insert m k v.weight) h.same ∙ sym (map-reseen k v (w.whole old.order) there);
        limits = ap (λ m. m.limits) is ∙ h.limits;
        evicted = ap (λ m. m.evicted) is ∙ h.evicted;
      }

  -- what was changed before the limits were looked at counts as from where it began
  pub keeps-from : (old mid new : Managed O) (from : O) (out : List CacheEntryKey) → mid ≡ record old { order = from } → KeepsLimits w mid mid.order new out → KeepsLimits w old from new out
  keeps-from old mid new from out is keeps =
      let there : KeepsLimits w (record old { order = from }) from new out = subst (λ (m : Managed O). KeepsLimits w m m.order new out) is keeps in
      record { room = there.room; counted = there.counted }

  -- the limits held already
  pub keeps-still : (limits : Limits) (a c a2 c2 : ℕ) (o : O) (out : List CacheEntryKey) → IsWithinAsList limits (entries_in w o) → out ≡ [] → a2 ≡ min (a + 0) (2 ^ 64 - 1) → c2 ≡ min (c + 0) (2 ^ 64 - 1)
      → KeepsLimits w (state o limits a c) o (state o limits a2 c2) out
  keeps-still limits a c a2 c2 o out fits empty heavy many =
      let long : length out ≡ 0 = ap (λ (l : List CacheEntryKey). length l) empty in
      record {
        room = subst (λ out. w.MakesRoom limits 0 0 o out o) (sym empty) (l.rests limits 0 0 o (room-within limits (entries_in w o) fits));
        counted = (refl, omega (arith, heavy), omega (arith, many, long));
      }

  -- ---- what the queue chose goes

  module _ {Q : Type 0} (order left : Q → O) (leaving : Q → Queue) where
    pub keeps-in : (limits : Limits) (a c a2 c2 : ℕ) (before r u : Q) (out : List CacheEntryKey)
        → w.MakesRoom limits 0 0 (order before) (going (leaving r)) (left r) → weight (entries_in w (order before)) ≡ weight (entries_in w (left r)) + weight (plain (leaving r))
        → order u ≡ left r → out ≡ going (leaving r) → length out ≡ length (leaving r)
        → a2 ≡ min (a + weight (plain (leaving r))) (2 ^ 64 - 1) → c2 ≡ min (c + length (leaving r)) (2 ^ 64 - 1)
        → KeepsLimits w (state (order before) limits a c) (order before) (state (order u) limits a2 c2) out
    keeps-in limits a c a2 c2 before r u out made parts at keys long heavy many =
        let left_weight : weight (entries_in w (order u)) ≡ weight (entries_in w (left r)) = ap (λ o. weight (entries_in w o)) at in
        record {
          room = subst (λ t. w.MakesRoom limits 0 0 (order before) out t) (sym at) (subst (λ out. w.MakesRoom limits 0 0 (order before) out (left r)) (sym keys) made);
          counted = (refl, omega (arith, heavy, parts, left_weight), omega (arith, many, long));
        }

    pub admits-in : (limits : Limits) (a c a2 c2 : ℕ) (before r s u : Q) (known : Bool) (k : CacheEntryKey) (n : ℕ) (out : List CacheEntryKey)
        → w.MakesRoom limits n 1 (order before) (going (leaving r)) (left r) → weight (entries_in w (order before)) ≡ weight (entries_in w (left r)) + weight (plain (leaving r)) → HasRoom limits n 1 (entries_in w (left r))
        → known ≡ w.is_known k (order before) → left s ≡ w.entered known k n (left r) → leaving s ≡ leaving r → order u ≡ left s → out ≡ going (leaving s) → length out ≡ length (leaving s)
        → a2 ≡ min (a + weight (plain (leaving s))) (2 ^ 64 - 1) → c2 ≡ min (c + length (leaving s)) (2 ^ 64 - 1)
        → Admits w (state (order before) limits a c) k n (state (order u) limits a2 c2) out
    admits-in limits a c a2 c2 before r s u known k n out made parts room knows enters leaves is keys long heavy many =
        let at : order u ≡ w.entered (w.is_known k (order before)) k n (left r) = is ∙ enters ∙ ap (λ b. w.entered b k n (left r)) knows in
        let gone : weight (plain (leaving s)) ≡ weight (plain (leaving r)) = ap (λ q. weight (plain q)) leaves in
        let left_weight : weight (entries_in w (order u)) ≡ n + weight (entries_in w (left r)) = ap (λ o. weight (entries_in w o)) at ∙ l.heavier (w.is_known k (order before)) k n (left r) in
        record {
          comes = record { left = left r; gone = going (leaving r); room = made; ends = inl (room, at, keys ∙ ap going leaves) };
          counted = (refl, omega (arith, heavy, parts, gone, left_weight), omega (arith, many, long));
        }

    pub admits-out : (limits : Limits) (a c a1 c1 a2 c2 : ℕ) (before r u : Q) (k : CacheEntryKey) (n : ℕ) (out all_out : List CacheEntryKey)
        → w.MakesRoom limits n 1 (order before) (going (leaving r)) (left r) → weight (entries_in w (order before)) ≡ weight (entries_in w (left r)) + weight (plain (leaving r)) → ¬ HasRoom limits n 1 (entries_in w (left r))
        → order u ≡ left r → out ≡ going (leaving r) → length out ≡ length (leaving r) → all_out ≡ out ++ k ∷ []
        → a1 ≡ min (a + weight (plain (leaving r))) (2 ^ 64 - 1) → c1 ≡ min (c + length (leaving r)) (2 ^ 64 - 1) → a2 ≡ min (a1 + n) (2 ^ 64 - 1) → c2 ≡ min (c1 + 1) (2 ^ 64 - 1)
        → Admits w (state (order before) limits a c) k n (state (order u) limits a2 c2) all_out
    admits-out limits a c a1 c1 a2 c2 before r u k n out all_out made parts none at keys long last heavy many more one =
        let left_weight : weight (entries_in w (order u)) ≡ weight (entries_in w (left r)) = ap (λ o. weight (entries_in w o)) at in
        let longer : length all_out ≡ length (out ++ k ∷ []) = ap (λ (l : List CacheEntryKey). length l) last in
        let sum = length-append out (k ∷ []) in
        record {
          comes = record { left = left r; gone = going (leaving r); room = made; ends = inr (none, at, last ∙ ap (λ out. out ++ k ∷ []) keys) };
          counted = (refl, omega (arith, heavy, more, parts, left_weight), omega (arith, many, one, long, longer, sum));
        }

-- ---- what a call makes of the order alone

pub admitted : {O : Type 0} (w : Way O) (f : Option Seen) (old new : Managed O) (k : CacheEntryKey) (n : ℕ) (out : List CacheEntryKey) → Admission w f old k n new out → Admitted w f old.limits old.order k n new.order out
admitted w None old new k n out a = a.comes
admitted w (Some v) old new k n out a = a.room

pub incremented-in : {O : Type 0} (w : Way O) (f : Option Seen) (old new : Managed O) (k : CacheEntryKey) (delta : ℕ) (most : Option ℕ) (out : List CacheEntryKey) → Increment w f old k delta most new out → Incremented w f old.limits old.order k delta most new.order out
incremented-in w None old new k delta most out a = a.comes
incremented-in w (Some v) old new k delta most out a = a.room

-- an entry that is not there is not there in an order with the same map
pub absent_still : {O : Type 0} (w : Way O) (o t : O) (k : CacheEntryKey) → map_of (entries_in w t) ≡ map_of (entries_in w o) → seen_of k (w.whole o) ≡ None → seen_of k (w.whole t) ≡ None
absent_still w o t k same none = none_some (seen_of k (w.whole t)) (found_same k (w.whole o) (w.whole t) same ∙ ap is_some none)
