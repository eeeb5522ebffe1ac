-- A body that has room beside the others evicts none.
use Rattle.pcache_base.proofs.Totals.{total-insert}
use Rattle.pcache_evict.proofs.Fair.{none-within}
use Rattle.pcache_request.specs.WriteEnds.{EndsAs}
use Rattle.pcache_cache.specs.Renewing.{Readmits, stock}
use Rattle.pcache_cache.specs.Room.{evicted_by_put, evicted_in}
use Rattle.pcache_cache.proofs.Words.{◌≡◌, ℕ, ◌+◌, ◌≤◌, Bool, true, false, cond, is_some, Option, None, Some, List, [], inl, inr, Result, Ok, Err, IfSome, OnOk, refl, ap, sym, subst, ◌∙◌, arith, get, insert, len, remove, nat_cmp, eq_by_cmp, len-total, total-remove, compact_of, Key, slot, share, total, ErrorType, exact_entries, entries_total, IsWithin, Limits, Tracked, weight, CacheEntryKey, Locks, LockStatus, Parsed, Stage, InHead, InBody, HasDeclined, IsOver, EndsPut, tracked_before_put, PutOutcome, Meta, PurgesAll, Stores, tracked_before, tracked_before_end, without_entry, Request, entry_of, settled, Ends, EndsBody, HoldsNoLock, FinishReport, body_number, in_memory, Store, complete_body, meta_set, purged, slots, Created, Parts, replaced_in, IsSet, Renews, Stock, entry_at, meta_given, reweighs, weight_at, HasRoom, IfRoom, KeepsBodies, beside, weight_with, Account, IsItsKey, TracksOnly, Weighing}
use Rattle.pcache_put.specs.Steps as put_steps
use Rattle.pcache_put.specs.declared.report.PutEnd.TheVariants as put_end
use Rattle.pcache_put.specs.declared.report.PutOutcome.TheVariants as answer
use Rattle.pcache_request.specs.declared.cache.finish.WriteEnd.TheVariants as end
use Rattle.pcache_cache.proofs.Ended.{EndsOf, ends-of}
use Rattle.pcache_cache.proofs.Only.{only_before}
use Rattle.pcache_cache.proofs.Renewed.{body-set, given, slots-unset}
use Rattle.pcache_cache.proofs.Standing.{same-key}
use Rattle.pcache_cache.proofs.Strays.{only_but, only_purged}
use Rattle.pcache_cache.proofs.SumsToStored.{tracked_less}

-- ---- an entry comes in

grown-by : (m : Tracked) (e : CacheEntryKey) (n : ℕ) (f : ℕ → ℕ) → total f (insert m e n) ≤ total f m + f n
grown-by m e n f =
    let grown : total f (insert m e n) + share f (get m e) ≡ total f m + f n = total-insert entries_total f m e n in
    omega arith

-- in place of itself
changed-by : (m : Tracked) (e : CacheEntryKey) (n : ℕ) (f : ℕ → ℕ) → total f (insert m e n) ≤ total f (remove m e) + f n
changed-by m e n f =
    let grown : total f (insert m e n) + share f (get m e) ≡ total f m + f n = total-insert entries_total f m e n in
    let gone : total f (remove m e) + share f (get m e) ≡ total f m = total-remove entries_total f exact_entries m e in
    omega arith

-- ---- a meta is set where a body is complete

keeps-set : (x : Meta) (s : Store) (k q : ℕ) → is_some (complete_body (get (meta_set x s k).slots q)) ≡ is_some (complete_body (get s.slots q))
keeps-set x s k q =
    elim (complete_body (get s.slots k)) as (λ o. complete_body (get s.slots k) ≡ o → is_some (complete_body (get (meta_set x s k).slots q)) ≡ is_some (complete_body (get s.slots q))) [
      | None ↦ λ none. ap (λ xs. is_some (complete_body (get xs q))) (slots-unset x s k none)
      | Some a ↦ λ is. ap is_some (body-set x s k q a is) ∙ elim (eq_by_cmp nat_cmp q k) as (λ t. eq_by_cmp nat_cmp q k ≡ t → is_some (cond t (Some (given x a)) (complete_body (get s.slots q))) ≡ is_some (complete_body (get s.slots q))) [
        | true ↦ λ t. sym (ap is_some (ap (λ y. complete_body (get s.slots y)) (same-key q k t) ∙ is))
        | false ↦ λ t. refl
      ] refl
    ] refl

-- ---- beside those of the bodies

module _ (of : Account) (none : (e : CacheEntryKey) → of.is_left_out e ≡ false) (wg : Weighing) (limits : Limits) where
  -- a map that is a map of such entries, and this much more, is within the limits
  within : (s : Store) (m grown : Tracked) (n : ℕ) → ((f : ℕ → ℕ) → total f grown ≤ total f m + f n) → TracksOnly of wg s m → HasRoom wg limits s n → IsWithin limits grown
  within s m grown n more only room = record {
    weight =
        let most = (tracked_less of none wg s m only).0 in
        let less : weight grown ≤ weight m + n = more (λ x. x) in
        let has = room.weight in
        omega arith;
    count = count limits.watermark room.count;
  }
    where
      count : (o : Option ℕ) → IfSome o (λ most. slots s + 1 ≤ most) → IfSome o (λ most. len grown ≤ most)
      count None h = tt
      count (Some most) h =
          let all = (tracked_less of none wg s m only).1 in
          let less = more (λ _. 1) in
          let a = len-total m in
          let b = len-total grown in
          omega arith

  -- ---- the end of a write

  stores-calm : (Lets : LockStatus → Type 0) (k : Key) (w : ℕ) (id replaced : Option ℕ) (n size failed : ℕ) (out : List CacheEntryKey) (s s' : Store) (m m' : Tracked) → IsItsKey of (Some k) → replaced ≡ body_number s (slot k) → TracksOnly of wg s m → HasRoom wg limits (beside (Some k) s) n
      → Stores in_memory true id Lets k w (Created n) limits size failed out s s' (without_entry true (compact_of k) replaced m) m' → out ≡ []
  stores-calm Lets k w id replaced n size failed out s s' m m' its old only room stores =
      let rest = without_entry true (compact_of k) replaced m in
      none-within limits (insert rest (entry_of k id) n) out stores.admitted.0
      (within (purged s (slot k)) rest (insert rest (entry_of k id) n) n (grown-by rest (entry_of k id) n) (only_purged of wg rest s (slot k) (only_before of wg m s k replaced its old only)) room)

  body-calm : (Lets : LockStatus → Type 0) (k : Key) (w : ℕ) (id replaced : Option ℕ) (n : ℕ) (f : FinishReport) (s s' : Store) (m m' : Tracked) → IsItsKey of (Some k) → replaced ≡ body_number s (slot k) → TracksOnly of wg s m → HasRoom wg limits (beside (Some k) s) n
      → EndsBody in_memory true id Lets k w (Created n) limits (end.Stored f) s s' (tracked_before true k replaced (end.Stored f) m) m' → f.evicted.items ≡ []
  body-calm Lets k w id replaced n f s s' m m' its old only room ends = stores-calm Lets k w id replaced n f.size f.failed_purges f.evicted.items s s' m m' its old only room ends

  ends-calm : (r : Request) (uses : Bool) (id replaced : Option ℕ) (key : Option Key) (write : Option ℕ) (n : ℕ) (f : FinishReport) (s s' : Store) (m m' : Tracked) (t t' : Locks)
      → uses ≡ true → IsItsKey of key → replaced ≡ replaced_in s key → TracksOnly of wg s m → HasRoom wg limits (beside key s) n → EndsOf uses id replaced r key write (Created n) limits (end.Stored f) s s' m m' t t' → f.evicted.items ≡ []
  ends-calm r uses id replaced None None n f s s' m m' t t' used its old only room ends = absurd ends
  ends-calm r uses id replaced (Some k) None n f s s' m m' t t' used its old only room ends = absurd ends
  ends-calm r uses id replaced None (Some w) n f s s' m m' t t' used its old only room ends = absurd ends
  ends-calm r uses id replaced (Some k) (Some w) n f s s' m m' t t' used its old only room ends =
      body-calm (λ status. t' ≡ settled status r.held t) k w id replaced n f s s' m m' its old only room
      (subst (λ u. EndsBody in_memory u id (λ status. t' ≡ settled status r.held t) k w (Created n) limits (end.Stored f) s s' (tracked_before u k replaced (end.Stored f) m) m') used ends)

  pub finish_calm : (r : Request) (replaced : Option ℕ) (n : ℕ) (s s' : Store) (m m' : Tracked) (t t' : Locks) (result : Result (Option FinishReport) ErrorType) → r.uses.eviction ≡ true → IsItsKey of r.key → replaced ≡ replaced_in s r.key → TracksOnly of wg s m → HasRoom wg limits (beside r.key s) n
      → EndsAs result (λ how. Ends in_memory r r.key r.write (Created n) limits how s s' (tracked_before_end r r.key replaced how m) m' t t') → evicted_in result ≡ []
  finish_calm r replaced n s s' m m' t t' (Ok None) used its old only room ends = refl
  finish_calm r replaced n s s' m m' t t' (Ok (Some f)) used its old only room ends =
      ends-calm r r.uses.eviction r.entry replaced r.key r.write n f s s' m m' t t' used its old only room (ends-of r replaced r.key r.write (Created n) limits (end.Stored f) s s' m m' t t' ends)
  finish_calm r replaced n s s' m m' t t' (Err e) used its old only room ends = refl

  -- ---- the end of a put

  put-calm : (k : Key) (parser : Parsed) (stage : Stage) (replaced : Option ℕ) (n : ℕ) (f : FinishReport) (s s' : Store) (m m' : Tracked) → IsItsKey of (Some k) → replaced ≡ body_number s (slot k) → TracksOnly of wg s m → HasRoom wg limits (beside (Some k) s) n
      → EndsPut in_memory k parser (λ _. Created n) limits stage (put_end.Stored f) s s' (tracked_before_put k replaced (put_end.Stored f) m) m' → f.evicted.items ≡ []
  put-calm k parser InHead replaced n f s s' m m' its old only room ends = let no = ends.0 in absurd (cc)
  put-calm k parser (HasDeclined reason) replaced n f s s' m m' its old only room ends = let no = ends.0 in absurd (cc)
  put-calm k parser (IsOver kind) replaced n f s s' m m' its old only room ends = let no = ends.0 in absurd (cc)
  put-calm k parser (InBody w id fresh_until) replaced n f s s' m m' its old only room (inl early) = let no = early.2 in absurd (cc)
  put-calm k parser (InBody w id fresh_until) replaced n f s s' m m' its old only room (inr ends) = body-calm HoldsNoLock k w id replaced n f s s' m m' its old only room ends

  pub put_calm : (k : Key) (parser : Parsed) (stage : Stage) (replaced : Option ℕ) (n : ℕ) (s s' : Store) (m m' : Tracked) (result : Result PutOutcome ErrorType) → IsItsKey of (Some k) → replaced ≡ body_number s (slot k) → TracksOnly of wg s m → HasRoom wg limits (beside (Some k) s) n
      → put_steps.EndsAs result (λ how. EndsPut in_memory k parser (λ _. Created n) limits stage how s s' (tracked_before_put k replaced how m) m') → evicted_by_put result ≡ []
  put_calm k parser stage replaced n s s' m m' (Ok (answer.NotCached reason)) its old only room ends = refl
  put_calm k parser stage replaced n s s' m m' (Ok (answer.Stored f)) its old only room ends = put-calm k parser stage replaced n f s s' m m' its old only room ends
  put_calm k parser stage replaced n s s' m m' (Err e) its old only room ends = refl

  -- ---- a meta is set

  renew-calm : (x : Meta) (k : Key) (a b : Stock) → IsItsKey of (Some k) → TracksOnly of wg a.store a.tracked → HasRoom wg limits (beside (Some k) a.store) (weight_at wg (meta_set x a.store (slot k)) k)
      → (out : List CacheEntryKey) → Readmits limits (entry_at a.store k) (weight_at wg (meta_set x a.store (slot k)) k) out (meta_given x (Some k) a) b → b.store ≡ meta_set x a.store (slot k)
  renew-calm x k a b its only room out readmits =
      let n = weight_at wg (meta_set x a.store (slot k)) k in
      let e = entry_at a.store k in
      let nothing : out ≡ [] =
      none-within limits (insert a.tracked e n) out readmits.fair
      (within (purged a.store (slot k)) (remove a.tracked e) (insert a.tracked e n) n (changed-by a.tracked e n) (only_purged of wg (remove a.tracked e) a.store (slot k) (only_but of wg a.tracked a.store k (body_number a.store (slot k)) its refl only)) room) in
      (subst (λ es. PurgesAll true (meta_set x a.store (slot k)) es 0 b.store) nothing readmits.store).1

  pub renewed_calm : (x : Meta) (key : Option Key) (there : Bool) (a b : Stock) → IsItsKey of key → TracksOnly of wg a.store a.tracked → HasRoom wg limits (beside key a.store) (weight_with wg x key a.store) → Renews wg limits x key (Ok there) a b → KeepsBodies a.store b.store
  renewed_calm x None there a b its only room renews = λ k. ap (λ (y : Stock). is_some (complete_body (get y.store.slots k))) renews.1
  renewed_calm x (Some k) there a b its only room renews = by (reweighs wg x (Some k) a.store) renews.1
    where
      by : (r : Bool) → IsSet r wg limits x (Some k) a b → KeepsBodies a.store b.store
      by false set q = ap (λ (y : Stock). is_some (complete_body (get y.store.slots q))) set ∙ keeps-set x a.store (slot k) q
      by true set q = ap (λ (y : Store). is_some (complete_body (get y.slots q))) (renew-calm x k a b its only room set.0 set.1) ∙ keeps-set x a.store (slot k) q

-- for the result of the call
pub renewed_room : (p : Parts) (x : Meta) (key : Option Key) (result : Result Bool ErrorType) (b : Stock) → Renews p.weighing p.limits x key result (stock p) b → OnOk result (IfRoom key (weight_with p.weighing x key p.store) p (KeepsBodies p.store b.store))
renewed_room p x key (Ok there) b renews = λ of none its only room. renewed_calm of none p.weighing p.limits x key there (stock p) b its only room renews
renewed_room p x key (Err e) b renews = tt
