-- What looking at entries of a small and a main queue does, one after the other.
use Rattle.std.proofs.Common.{sum_by}
use Rattle.pcache_policies.specs.Queue.{IsOnce}
use Rattle.pcache_policies.specs.S3Fifo.{entries, MakesRoom}
use Rattle.pcache_policies.specs.Fifos.{Kept, left_of, LooksAtSmall, LooksAtMain, Steps, Chooses, steps_of}
use Rattle.pcache_policies.proofs.Words.{◌≡◌, ℕ, suc, ◌+◌, ◌*◌, ◌-◌, ◌<◌, ◌≤◌, Bool, true, false, cond, List, [], ◌∷◌, ◌++◌, reverse, refl, ap, sym, subst, ◌∙◌, arith, inl, inr, length, length-append, append_assoc, append-nil, ◌≢◌, ◌⊎◌, keys_of, reverse-append, sum_by-cons, sum_by-append, CacheEntryKey, Limits, map_of, Seen, Queue, plain, unused, spent, HasRoom, Ring, all, chosen, SameEntries, Fifos, fifos, Ghosts, ghosted}
use Rattle.pcache_policies.specs.S3Fifo as s3
use Rattle.pcache_policies.specs.Fifos as step
use Rattle.pcache_policies.proofs.Queues.{E}
use Rattle.pcache_policies.proofs.Rings.{same-passed, last_ahead, again, chosen_last}

module _ {S H : Type 0} where
  abbrev Room : Limits → ℕ → ℕ → Kept S H → Type 0
  Room limits size count f = HasRoom limits size count (entries (left_of f))

  pub record Far (limits : Limits) (size count : ℕ) (old now : Kept S H) : Type 0 where
    pub run : (rest : List CacheEntryKey) (t : Fifos) → MakesRoom limits size count (left_of now) rest t → MakesRoom limits size count (left_of old) (chosen now.ring ++ rest) t
    pub same : SameEntries old.ring now.ring

  pub far-none : (limits : Limits) (size count : ℕ) (old : Kept S H) → old.ring.leaving ≡ [] → Far limits size count old old
  far-none limits size count old none = record { run = λ rest t m. subst (λ (g : Queue). MakesRoom limits size count (left_of old) (reverse (keys_of g) ++ rest) t) (sym none) m; same = refl }

pub reverse-cons : (x : CacheEntryKey) (xs : List CacheEntryKey) → reverse (x ∷ xs) ≡ reverse xs ++ x ∷ []
reverse-cons x xs = reverse-append (x ∷ []) xs

-- what was chosen so far goes before what goes later
more-chosen : (limits : Limits) (size count : ℕ) (old : Fifos) (g h : Queue) (k : CacheEntryKey) (v : Seen) (rest : List CacheEntryKey) (t : Fifos) → h ≡ (k, v) ∷ g → MakesRoom limits size count old (reverse (keys_of g) ++ k ∷ rest) t → MakesRoom limits size count old (reverse (keys_of h) ++ rest) t
more-chosen limits size count old g h k v rest t is m =
    subst (λ out. MakesRoom limits size count old out t)
    (sym (ap (λ out. out ++ rest) (ap (λ (g : Queue). reverse (keys_of g)) is ∙ reverse-cons k (keys_of g)) ∙ append_assoc (reverse (keys_of g)) (k ∷ []) rest)) m

same-chosen : (limits : Limits) (size count : ℕ) (old : Fifos) (g h : Queue) (rest : List CacheEntryKey) (t : Fifos) → h ≡ g → MakesRoom limits size count old (reverse (keys_of g) ++ rest) t → MakesRoom limits size count old (reverse (keys_of h) ++ rest) t
same-chosen limits size count old g h rest t is m = subst (λ (g : Queue). MakesRoom limits size count old (reverse (keys_of g) ++ rest) t) (sym is) m

-- the state that a step names is the one that it leads to
at : (limits : Limits) (size count : ℕ) (a b p q : Queue) (g h : Ghosts) (rest : List CacheEntryKey) (t : Fifos) → a ≡ b → p ≡ q → g ≡ h → MakesRoom limits size count (fifos a p g) rest t → MakesRoom limits size count (fifos b q h) rest t
at limits size count a b p q g h rest t ab pq gh m =
    subst (λ h. MakesRoom limits size count (fifos b q h) rest t) gh (subst (λ q. MakesRoom limits size count (fifos b q g) rest t) pq (subst (λ b. MakesRoom limits size count (fifos b p g) rest t) ab m))

moved_map : (a b g h p r : Queue) (k : CacheEntryKey) (v : Seen) → IsOnce (a ++ (g ++ p)) → a ≡ b ++ (k, v) ∷ [] → h ≡ g → r ≡ (k, unused v.weight) ∷ p → map_of (plain (b ++ (h ++ r))) ≡ map_of (plain (a ++ (g ++ p)))
moved_map a b g h p r k v once is hs rs = ap (λ h. map_of (plain (b ++ (h ++ r)))) hs ∙ ap (λ r. map_of (plain (b ++ (g ++ r)))) rs ∙ same-passed a b g p (k, v) (unused v.weight) once is refl

pub left_map : (a b g h p r : Queue) (e : E) → a ≡ b ++ e ∷ [] → h ≡ e ∷ g → r ≡ p → map_of (plain (b ++ (h ++ r))) ≡ map_of (plain (a ++ (g ++ p)))
left_map a b g h p r e is hs rs = ap (λ h. map_of (plain (b ++ (h ++ r)))) hs ∙ ap (λ r. map_of (plain (b ++ ((e ∷ g) ++ r)))) rs ∙ ap (λ q. map_of (plain q)) (sym (last_ahead a b g p e is))

again_map : (a b g h p q r : Queue) (e : E) (v : Seen) → IsOnce (a ++ (g ++ p)) → p ≡ q ++ e ∷ [] → v.weight ≡ e.1.weight → h ≡ g → b ≡ a → r ≡ (e.0, v) ∷ q → map_of (plain (b ++ (h ++ r))) ≡ map_of (plain (a ++ (g ++ p)))
again_map a b g h p q r e v once is w hs bs rs = ap (λ h. map_of (plain (b ++ (h ++ r)))) hs ∙ ap (λ b. map_of (plain (b ++ (g ++ r)))) bs ∙ ap (λ r. map_of (plain (a ++ (g ++ r)))) rs ∙ (again a g p q e v once is w).1

pub gone_map : (a b g h p q : Queue) (e : E) → IsOnce (a ++ (g ++ p)) → p ≡ q ++ e ∷ [] → h ≡ e ∷ g → b ≡ a → map_of (plain (b ++ (h ++ q))) ≡ map_of (plain (a ++ (g ++ p)))
gone_map a b g h p q e once is hs bs = ap (λ h. map_of (plain (b ++ (h ++ q)))) hs ∙ ap (λ b. map_of (plain (b ++ ((e ∷ g) ++ q)))) bs ∙ (chosen_last a g p q e once is).1

module _ {S H : Type 0} where
  pub far-more : (limits : Limits) (size count : ℕ) (old now new : Kept S H) → Far limits size count old now → ¬ Room limits size count now → IsOnce (all now.ring) → Steps limits.weight now true new → Far limits size count old new
  far-more limits size count old now new far over once (step.small there next (step.moves k v a used g p gh)) =
      record {
        run = λ rest t m.
            same-chosen limits size count (left_of old) now.ring.leaving new.ring.leaving rest t g
            (far.run rest t (s3.moves (left_of now) t new.ring.ahead k v rest over next a used (at limits size count _ _ _ _ _ _ rest t refl p gh m)));
        same = moved_map now.ring.ahead new.ring.ahead now.ring.leaving new.ring.leaving now.ring.passed new.ring.passed k v once a g p ∙ far.same;
      }
  far-more limits size count old now new far over once (step.small there next (step.leaves k v a few g p gh)) =
      let many : length now.ring.ahead + length now.ring.passed ≡ length (now.ring.ahead ++ now.ring.passed) = sym (length-append now.ring.ahead now.ring.passed) in
      record {
        run = λ rest t m.
            more-chosen limits size count (left_of old) now.ring.leaving new.ring.leaving k v rest t g
            (far.run (k ∷ rest) t (s3.leaves (left_of now) t new.ring.ahead k v rest over next a few (at limits size count _ _ _ _ _ _ rest t refl p (gh ∙ ap (λ n. ghosted k n now.ghosts) many) m)));
        same = left_map now.ring.ahead new.ring.ahead now.ring.leaving new.ring.leaving now.ring.passed new.ring.passed (k, v) a g p ∙ far.same;
      }
  far-more limits size count old now new far over once (step.main next none (step.ends more p is)) = cc
  far-more limits size count old now new far over once (step.main next none (step.returns q k v there a used g s p gh)) =
      record {
        run = λ rest t m.
            same-chosen limits size count (left_of old) now.ring.leaving new.ring.leaving rest t g
            (far.run rest t (s3.returns (left_of now) t q k v rest over next a used (at limits size count _ _ _ _ _ _ rest t s p gh m)));
        same = again_map now.ring.ahead new.ring.ahead now.ring.leaving new.ring.leaving now.ring.passed q new.ring.passed (k, v) (spent v) once a refl g s p ∙ far.same;
      }
  far-more limits size count old now new far over once (step.main next none (step.goes k v there a idle g s gh)) =
      record {
        run = λ rest t m.
            more-chosen limits size count (left_of old) now.ring.leaving new.ring.leaving k v rest t g
            (far.run (k ∷ rest) t (s3.goes (left_of now) t new.ring.passed k v rest over next a idle (at limits size count _ _ _ _ _ _ rest t s refl gh m)));
        same = gone_map now.ring.ahead new.ring.ahead now.ring.leaving new.ring.leaving now.ring.passed new.ring.passed (k, v) once a g s ∙ far.same;
      }

  pub far-done : (limits : Limits) (size count : ℕ) (old now : Kept S H) → Far limits size count old now → Room limits size count now → Chooses limits size count old now
  far-done limits size count old now far room = subst (λ out. MakesRoom limits size count (left_of old) out (left_of now)) (append-nil (chosen now.ring)) (far.run [] (left_of now) (s3.rests (left_of now) (inl room)))

  pub far-ends : (limits : Limits) (size count : ℕ) (old now new : Kept S H) → Far limits size count old now → Steps limits.weight now false new → Chooses limits size count old new
  far-ends limits size count old now new far (step.small there next looks) = cc
  far-ends limits size count old now new far (step.main next none (step.ends more p is)) =
      subst (λ r. Chooses limits size count old r) (sym is)
      (subst (λ out. MakesRoom limits size count (left_of old) out (left_of now)) (append-nil (chosen now.ring)) (far.run [] (left_of now) (s3.rests (left_of now) (inr (ap (λ q. q ++ now.ring.passed) (none p) ∙ p)))))
  far-ends limits size count old now new far (step.main next none (step.returns q k v there a used g s p gh)) = cc
  far-ends limits size count old now new far (step.main next none (step.goes k v there a idle g s gh)) = cc

-- entries that are still looked at are ever fewer
abbrev two : E → ℕ
two e = 2

abbrev one_more : E → ℕ
one_more e = 1 + e.1.uses

sum_last : (f : E → ℕ) (q b : Queue) (e : E) → q ≡ b ++ e ∷ [] → sum_by f q ≡ sum_by f b + f e
sum_last f q b e is =
    let parts = sum_by-append f b (e ∷ []) in
    let one : sum_by f (e ∷ []) ≡ f e + 0 = sum_by-cons f e [] in
    let whole : sum_by f q ≡ sum_by f (b ++ e ∷ []) = ap (sum_by f) is in
    omega arith

module _ {S H : Type 0} where
  pub smaller : (limit : ℕ) (now new : Kept S H) → Steps limit now true new → steps_of new.ring.ahead new.ring.passed < steps_of now.ring.ahead now.ring.passed
  smaller limit now new (step.small there next (step.moves k v a used g p gh)) =
      let less = sum_last two now.ring.ahead new.ring.ahead (k, v) a in
      let more : sum_by one_more new.ring.passed ≡ 1 + sum_by one_more now.ring.passed = ap (sum_by one_more) p ∙ sum_by-cons one_more (k, unused v.weight) now.ring.passed in
      omega arith
  smaller limit now new (step.small there next (step.leaves k v a few g p gh)) =
      let less = sum_last two now.ring.ahead new.ring.ahead (k, v) a in
      let same : sum_by one_more new.ring.passed ≡ sum_by one_more now.ring.passed = ap (sum_by one_more) p in
      omega arith
  smaller limit now new (step.main next none (step.ends more p is)) = cc
  smaller limit now new (step.main next none (step.returns q k v there a used g s p gh)) =
      let less = sum_last one_more now.ring.passed q (k, v) a in
      let more : sum_by one_more new.ring.passed ≡ (1 + (v.uses - 1)) + sum_by one_more q = ap (sum_by one_more) p ∙ sum_by-cons one_more (k, spent v) q in
      let same : sum_by two new.ring.ahead ≡ sum_by two now.ring.ahead = ap (sum_by two) s in
      omega arith
  smaller limit now new (step.main next none (step.goes k v there a idle g s gh)) =
      let less = sum_last one_more now.ring.passed new.ring.passed (k, v) a in
      let same : sum_by two new.ring.ahead ≡ sum_by two now.ring.ahead = ap (sum_by two) s in
      omega arith
