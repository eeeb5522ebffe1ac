-- No call changes whether a store prefers the newest response.
use Rattle.pcache_request.specs.Requests.{store_found}
use Rattle.pcache_request.specs.Variants.{searched, without_hidden}
use Rattle.pcache_store.specs.Purge.{entry_purged_in}
use Rattle.pcache_store.specs.Store.{finished_on}
use Rattle.pcache_cache.proofs.Words.{◌≡◌, ℕ, Bool, true, false, cond, Option, None, Some, Result, Ok, Err, refl, ap, ◌∙◌, OnErr, OnOk, get, Key, ErrorType, Meta, Request, begun_for, dropped_by, found_for, followed_for, left_by, is_treated_as_miss, is_hidden, HitStatus, Store, Reader, Whole, Part, dropped, dropped_on, finished, followed, followed_by, left}

pub mode-left : (s : Store) (r : Reader) → (left s r).newest ≡ s.newest
mode-left s (Whole id body start stop done) = refl
mode-left s (Part n place) = refl

pub mode-left_by : (s : Store) (o : Option Reader) → (left_by o s).newest ≡ s.newest
mode-left_by s None = refl
mode-left_by s (Some r) = mode-left s r

mode-followed_by : (s : Store) (r : Reader) → (followed_by s r).newest ≡ s.newest
mode-followed_by s (Whole id body start stop done) = refl
mode-followed_by s (Part n place) = refl

pub mode-followed : (s : Store) (p : Option (Meta × Reader)) → (followed s p).newest ≡ s.newest
mode-followed s None = refl
mode-followed s (Some p) = mode-followed_by s p.1

pub mode-dropped : (s : Store) (n : ℕ) → (dropped s n).newest ≡ s.newest
mode-dropped s n = elim (get s.writes n) as (λ o. (dropped_on s n o).newest ≡ s.newest) [ None ↦ refl | Some w ↦ refl ]

pub mode-dropped_by : (s : Store) (o : Option ℕ) → (dropped_by o s).newest ≡ s.newest
mode-dropped_by s None = refl
mode-dropped_by s (Some n) = mode-dropped s n

pub mode-finished : (s : Store) (n : ℕ) → (finished s n).newest ≡ s.newest
mode-finished s n = elim (get s.writes n) as (λ o. (finished_on s n o).newest ≡ s.newest) [ None ↦ refl | Some w ↦ refl ]

pub mode-begun_for : (k : Option Key) (m : Option Meta) (s : Store) → (begun_for k m s).newest ≡ s.newest
mode-begun_for None m s = refl
mode-begun_for (Some k) None s = refl
mode-begun_for (Some k) (Some m) s = refl

pub mode-entry : (s : Store) (k : ℕ) (id : Option ℕ) → (entry_purged_in true s k id).newest ≡ s.newest
mode-entry s k None = refl
mode-entry s k (Some n) = refl

-- look-ups
mode-hidden : (b : Bool) (s : Store) (r : Reader) → (cond b (left s r) s).newest ≡ s.newest
mode-hidden true s r = mode-left s r
mode-hidden false s r = refl

mode-without : (from : Option ℕ) (p : Option (Meta × Reader)) (s : Store) → (without_hidden from p s).newest ≡ s.newest
mode-without from None s = refl
mode-without from (Some p) s = mode-hidden (is_hidden from p.0.created) s p.1

pub mode-searched : (s : Store) (r : Request) → (searched s r).newest ≡ s.newest
mode-searched s r = mode-without r.valid_after (found_for s r.key) (followed s (found_for s r.key)) ∙ mode-followed s (found_for s r.key)

pub mode-looked_with : (deferred : Bool) (r : Request) (s : Store) → (cond deferred (left_by r.reader (dropped_by r.write s)) (searched s r)).newest ≡ s.newest
mode-looked_with true r s = mode-left_by (dropped_by r.write s) r.reader ∙ mode-dropped_by s r.write
mode-looked_with false r s = mode-searched s r

-- what was found is taken
mode-found : (status : HitStatus) (h : Reader) (r : Request) (s : Store) → (store_found status h r s).newest ≡ s.newest
mode-found status h r s = mode-left_by (cond (is_treated_as_miss status) (left s h) s) r.reader ∙ mode-hidden (is_treated_as_miss status) s h

pub mode_taken : {A : Type 0} (s t : Store) (status : HitStatus) (h : Reader) (r : Request) (result : Result A ErrorType) → OnOk result (t ≡ store_found status h r s) → OnErr result (t ≡ left s h) → t.newest ≡ s.newest
mode_taken s t status h r (Ok a) store left_store = ap (λ (x : Store). x.newest) store ∙ mode-found status h r s
mode_taken s t status h r (Err e) store left_store = ap (λ (x : Store). x.newest) left_store ∙ mode-left s h

-- a write begins
pub mode-following : (streams : Bool) (n : ℕ) (r : Request) (t : Store) → (cond streams (left_by r.reader (followed t (followed_for r.key n t))) t).newest ≡ t.newest
mode-following true n r t = mode-left_by (followed t (followed_for r.key n t)) r.reader ∙ mode-followed t (followed_for r.key n t)
mode-following false n r t = refl
