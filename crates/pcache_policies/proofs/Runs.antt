-- Entries of a queue that go one by one.
use Rattle.pcache_policies.specs.Queue.{IsOnce}
use Rattle.pcache_policies.proofs.Words.{◌≡◌, ℕ, List, [], ◌∷◌, ◌++◌, refl, ap, sym, subst, ◌∙◌, append_assoc, keys_of, CacheEntryKey, Limits, Recency, IsWithinAsList, Seen, Queue, plain, HasRoom, Coming, Run}
use Rattle.pcache_evict.specs.Listed as listed
use Rattle.pcache_policies.proofs.Queues.{E, plain-append, once-plain, plain-once}
use Rattle.pcache_policies.proofs.Leavings.{room_of, run-first}

-- the first of two queues with its oldest entry, behind what comes; and the second
pub split_first : (coming s a m : Queue) (e : E) → a ≡ s ++ e ∷ [] → coming ++ (a ++ m) ≡ (coming ++ s) ++ e ∷ m
split_first coming s a m e is = ap (λ a. coming ++ (a ++ m)) is ∙ ap (λ q. coming ++ q) (append_assoc s (e ∷ []) m) ∙ sym (append_assoc coming s (e ∷ m))

pub split_second : (coming a m q : Queue) (e : E) → m ≡ q ++ e ∷ [] → coming ++ (a ++ m) ≡ (coming ++ (a ++ q)) ++ e ∷ []
split_second coming a m q e is = ap (λ m. coming ++ (a ++ m)) is ∙ ap (λ r. coming ++ r) (sym (append_assoc a q (e ∷ []))) ∙ sym (append_assoc coming (a ++ q) (e ∷ []))

-- an entry whose uses are forgotten in place
pub keys_forgot : (x y : Queue) (k : CacheEntryKey) (v w : Seen) → keys_of (x ++ (k, w) ∷ y) ≡ keys_of (x ++ (k, v) ∷ y)
keys_forgot [] y k v w = refl
keys_forgot (e ∷ x) y k v w = ap (λ ks. e.0 ∷ ks) (keys_forgot x y k v w)

pub plain_at : (x y : Queue) (k : CacheEntryKey) (v : Seen) → plain (x ++ (k, v) ∷ y) ≡ plain x ++ (k, v.weight) ∷ plain y
plain_at x y k v = plain-append x ((k, v) ∷ y)

pub over_whole : (limits : Limits) (coming q : Queue) (size count : ℕ) → Coming (plain coming) size count → ¬ HasRoom limits size count (plain q) → ¬ IsWithinAsList limits (plain (coming ++ q))
over_whole limits coming q size count c over = λ w. over (room_of limits (plain coming) (plain q) size count c (subst (IsWithinAsList limits) (plain-append coming q) w))

abbrev pub Runs : Limits → List CacheEntryKey → Queue → Recency → Type 0
Runs limits out q left = Run limits out (plain q) left

-- one entry goes, with what goes then
pub drops : (limits : Limits) (out : List CacheEntryKey) (q x y : Queue) (k : CacheEntryKey) (v : Seen) (left : Recency) → IsOnce q → ¬ IsWithinAsList limits (plain q) → q ≡ x ++ (k, v) ∷ y → (IsOnce (x ++ y) → Runs limits out (x ++ y) left) → Runs limits (k ∷ out) q left
drops limits out q x y k v left once over is rest =
    run-first limits out (plain q) left (plain x) (plain y) k v.weight (once-plain q once) over (ap plain is ∙ plain_at x y k v)
    (λ apart. subst (λ l. Run limits out l left) (plain-append x y) (rest (once_both apart)))
  where
    once_both : listed.IsOnce (plain x ++ plain y) → IsOnce (x ++ y)
    once_both d = plain-once (x ++ y) (subst listed.IsOnce (sym (plain-append x y)) d)
