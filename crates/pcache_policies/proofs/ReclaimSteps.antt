-- What choosing entries of the two queues of 2Q does, one after the other.
use Rattle.pcache_policies.specs.Queue.{IsOnce}
use Rattle.pcache_policies.specs.TwoQueues.{TwoQueues, entries, MakesRoom}
use Rattle.pcache_policies.specs.Reclaim.{Kept, left_of, Leaves, Goes, Steps, Chooses}
use Rattle.pcache_policies.proofs.Words.{◌≡◌, ℕ, ◌+◌, ◌<◌, Bool, true, false, List, [], ◌∷◌, ◌++◌, reverse, refl, ap, sym, subst, ◌∙◌, arith, inl, inr, length, length-append, append_assoc, append-nil, keys_of, CacheEntryKey, Limits, Seen, Queue, HasRoom, Ring, all, chosen, SameEntries, Ghosts, queues, remembered}
use Rattle.pcache_policies.specs.TwoQueues as two
use Rattle.pcache_policies.specs.Reclaim as step
use Rattle.pcache_policies.proofs.FifoSteps.{left_map, gone_map, reverse-cons}

module _ {S H : Type 0} where
  abbrev Room : Limits → ℕ → ℕ → Kept S H → Type 0
  Room limits size count q = HasRoom limits size count (entries (left_of q))

  -- so far entries were chosen: what makes room from here on makes room with them
  pub record Far (limits : Limits) (size count : ℕ) (old now : Kept S H) : Type 0 where
    pub run : (rest : List CacheEntryKey) (t : TwoQueues) → MakesRoom limits size count (left_of now) rest t → MakesRoom limits size count (left_of old) (chosen now.ring ++ rest) t
    pub same : SameEntries old.ring now.ring

  pub far-none : (limits : Limits) (size count : ℕ) (old : Kept S H) → old.ring.leaving ≡ [] → Far limits size count old old
  far-none limits size count old none = record { run = λ rest t m. subst (λ (g : Queue). MakesRoom limits size count (left_of old) (reverse (keys_of g) ++ rest) t) (sym none) m; same = refl }

-- what was chosen so far goes before what goes later
more-chosen : (limits : Limits) (size count : ℕ) (old : TwoQueues) (g h : Queue) (k : CacheEntryKey) (v : Seen) (rest : List CacheEntryKey) (t : TwoQueues) → h ≡ (k, v) ∷ g → MakesRoom limits size count old (reverse (keys_of g) ++ k ∷ rest) t → MakesRoom limits size count old (reverse (keys_of h) ++ rest) t
more-chosen limits size count old g h k v rest t is m =
    subst (λ out. MakesRoom limits size count old out t)
    (sym (ap (λ out. out ++ rest) (ap (λ (g : Queue). reverse (keys_of g)) is ∙ reverse-cons k (keys_of g)) ∙ append_assoc (reverse (keys_of g)) (k ∷ []) rest)) m

-- the state that a step names is the one that it leads to
at : (limits : Limits) (size count : ℕ) (a b p q : Queue) (g h : Ghosts) (rest : List CacheEntryKey) (t : TwoQueues) → a ≡ b → p ≡ q → g ≡ h → MakesRoom limits size count (queues a p g) rest t → MakesRoom limits size count (queues b q h) rest t
at limits size count a b p q g h rest t ab pq gh m =
    subst (λ h. MakesRoom limits size count (queues b q h) rest t) gh (subst (λ q. MakesRoom limits size count (queues b q g) rest t) pq (subst (λ b. MakesRoom limits size count (queues b p g) rest t) ab m))

module _ {S H : Type 0} where
  pub far-more : (limits : Limits) (size count : ℕ) (old now new : Kept S H) → Far limits size count old now → ¬ Room limits size count now → IsOnce (all now.ring) → Steps limits.weight now true new → Far limits size count old new
  far-more limits size count old now new far over once (step.ends more a p is) = cc
  far-more limits size count old now new far over once (step.leaves there next l) =
      let many : length now.ring.ahead + length now.ring.passed ≡ length (now.ring.ahead ++ now.ring.passed) = sym (length-append now.ring.ahead now.ring.passed) in
      record {
        run = λ rest t m.
            more-chosen limits size count (left_of old) now.ring.leaving new.ring.leaving l.key l.seen rest t l.leaving
            (far.run (l.key ∷ rest) t (two.leaves (left_of now) t new.ring.passed l.key l.seen rest over next l.passed (at limits size count _ _ _ _ _ _ rest t l.ahead refl (l.ghosts ∙ ap (λ n. remembered l.key n now.ghosts) many) m)));
        same = gone_map now.ring.ahead new.ring.ahead now.ring.leaving new.ring.leaving now.ring.passed new.ring.passed (l.key, l.seen) once l.passed l.leaving l.ahead ∙ far.same;
      }
  far-more limits size count old now new far over once (step.goes there next l) =
      record {
        run = λ rest t m.
            more-chosen limits size count (left_of old) now.ring.leaving new.ring.leaving l.key l.seen rest t l.leaving
            (far.run (l.key ∷ rest) t (two.goes (left_of now) t new.ring.ahead l.key l.seen rest over next l.ahead (at limits size count _ _ _ _ _ _ rest t refl l.passed l.ghosts m)));
        same = left_map now.ring.ahead new.ring.ahead now.ring.leaving new.ring.leaving now.ring.passed new.ring.passed (l.key, l.seen) l.ahead l.leaving l.passed ∙ far.same;
      }

  pub far-done : (limits : Limits) (size count : ℕ) (old now : Kept S H) → Far limits size count old now → Room limits size count now → Chooses limits size count old now
  far-done limits size count old now far room = subst (λ out. MakesRoom limits size count (left_of old) out (left_of now)) (append-nil (chosen now.ring)) (far.run [] (left_of now) (two.rests (left_of now) (inl room)))

  pub far-ends : (limits : Limits) (size count : ℕ) (old now new : Kept S H) → Far limits size count old now → Steps limits.weight now false new → Chooses limits size count old new
  far-ends limits size count old now new far (step.ends more a p is) =
      subst (λ r. Chooses limits size count old r) (sym is)
      (subst (λ out. MakesRoom limits size count (left_of old) out (left_of now)) (append-nil (chosen now.ring)) (far.run [] (left_of now) (two.rests (left_of now) (inr (ap (λ q. q ++ now.ring.passed) a ∙ p)))))
  far-ends limits size count old now new far (step.leaves there next l) = cc
  far-ends limits size count old now new far (step.goes there next l) = cc

-- entries that were not chosen are ever fewer
one_less : (q r : Queue) (k : CacheEntryKey) (v : Seen) → q ≡ r ++ (k, v) ∷ [] → length q ≡ length r + 1
one_less q r k v is = ap (λ (q : Queue). length q) is ∙ length-append r ((k, v) ∷ [])

same_long : (q r : Queue) → q ≡ r → length q ≡ length r
same_long q r is = ap (λ (q : Queue). length q) is

module _ {S H : Type 0} where
  pub smaller : (limit : ℕ) (now new : Kept S H) → Steps limit now true new → length new.ring.ahead + length new.ring.passed < length now.ring.ahead + length now.ring.passed
  smaller limit now new (step.ends more a p is) = cc
  smaller limit now new (step.leaves there next l) =
      let less = one_less now.ring.passed new.ring.passed l.key l.seen l.passed in
      let same = same_long new.ring.ahead now.ring.ahead l.ahead in
      omega arith
  smaller limit now new (step.goes there next l) =
      let less = one_less now.ring.ahead new.ring.ahead l.key l.seen l.ahead in
      let same = same_long new.ring.passed now.ring.passed l.passed in
      omega arith
