-- A key that was purged has no body, and so has one whose body's admission failed.
use Rattle.std.proofs.Common.{◌≡◌, ℕ, Bool, true, false, Option, None, Some, ap, sym, subst, ◌∙◌, inl, inr, cond, arith}
use Rattle.std.specs.Ordering.{nat_cmp, eq_by_cmp}
use Rattle.std.specs.Cmp.{nat_cmp_total, unsigned_tied}
use Rattle.std.proofs.lemmas.Bool.Decides.{nat_tests}
use Rattle.std.specs.FinMap.{get, get-remove}
use Rattle.pcache_base.specs.Key.{Key, slot}
use Rattle.pcache_base.specs.declared.error.ErrorType.{ErrorType}
use Rattle.pcache_evict.specs.Tracked.{Tracked, Limits}
use Rattle.pcache_lock.specs.Locks.{Locks}
use Rattle.pcache_lock.specs.declared.lock.status.LockStatus.{LockStatus}
use Rattle.pcache_store.specs.Store.{Store, Guarantees, complete_body, finished, purged}
use Rattle.pcache_store.specs.declared.storage.MissFinishType.{MissFinishType}
use Rattle.pcache_request.specs.Finishing.{Withdraws}
use Rattle.pcache_request.specs.NoBody.{HasNoBody, HasNoBodyFor, IfWithdrawn, LeavesNone}
use Rattle.pcache_request.specs.Requests.{Request, settled}
use Rattle.pcache_request.specs.WriteEnds.{Ends, EndsBody}
use Rattle.pcache_request.specs.declared.cache.finish.WriteEnd.{WriteEnd}
use Rattle.pcache_request.specs.declared.cache.finish.WriteEnd.TheVariants as end

same_key : (k : ℕ) → eq_by_cmp nat_cmp k k ≡ true
same_key k = grind (arith, nat_tests, unsigned_tied k k)

purged_none : (s : Store) (k : Key) → HasNoBody (purged s (slot k)) k
purged_none s k = ap complete_body (get-remove nat_cmp_total s.slots (slot k) (slot k) ∙ ap (λ b. cond b None (get s.slots (slot k))) (same_key (slot k)))

pub withdrawn_none : (Lets : LockStatus → Type 0) (k : Key) (w : ℕ) (e : ErrorType) (s s' : Store) (m m' : Tracked) → Withdraws true Lets k w e s s' m m' → HasNoBody s' k
withdrawn_none Lets k w e s s' m m' h = elim h.purged [
  | inl is ↦ subst (λ t. HasNoBody t k) (sym is) (purged_none (finished s w) k)
  | inr left ↦ absurd (let never : true ≡ false = left.0 in cc)
]

-- the same of how a write ended
pub body_none : (Lets : LockStatus → Type 0) (k : Key) (w : ℕ) (id : Option ℕ) (kind : MissFinishType) (limits : Limits) (used : Bool) (s s' : Store) (m m' : Tracked) (g : Guarantees) → g.purges ≡ true → (how : WriteEnd) → EndsBody g used id Lets k w kind limits how s s' m m' → IfWithdrawn how (HasNoBody s' k)
body_none Lets k w id kind limits used s s' m m' g is (end.Withdrawn e) h = withdrawn_none Lets k w e s s' m m' (subst (λ b. Withdraws b Lets k w e s s' m m') is h)
body_none Lets k w id kind limits used s s' m m' g is how h = tt

-- the same for the report of the end, and for an error
module _ (r : Request) (kind : MissFinishType) (limits : Limits) (s s' : Store) (m m' : Tracked) (t t' : Locks) where
  pub ends_none : (g : Guarantees) → g.purges ≡ true → (k : Option Key) (w : Option ℕ) (how : WriteEnd) → Ends g r k w kind limits how s s' m m' t t' → IfWithdrawn how (HasNoBodyFor s' k)
  ends_none g is None w (end.Withdrawn e) h = tt
  ends_none g is (Some k) None (end.Withdrawn e) h = absurd h
  ends_none g is (Some k) (Some w) (end.Withdrawn e) h = withdrawn_none _ k w e s s' m m' (subst (λ b. Withdraws b (λ status. t' ≡ settled status r.held t) k w e s s' m m') is h)
  ends_none g is k w how h = tt

  pub dropped_leaves : (g : Guarantees) (k : Option Key) (w : Option ℕ) (e : ErrorType) → Ends g r k w kind limits (end.Dropped e) s s' m m' t t' → LeavesNone k w s s'
  dropped_leaves g k None e h = absurd h
  dropped_leaves g None (Some w) e h = absurd h
  dropped_leaves g (Some k) (Some w) e h = inl h.dropped

  pub withdrawn_leaves : (g : Guarantees) → g.purges ≡ true → (k : Option Key) (w : Option ℕ) (e : ErrorType) → Ends g r k w kind limits (end.Withdrawn e) s s' m m' t t' → LeavesNone k w s s'
  withdrawn_leaves g is k None e h = absurd h
  withdrawn_leaves g is None (Some w) e h = absurd h
  withdrawn_leaves g is (Some k) (Some w) e h = inr (ends_none g is (Some k) (Some w) (end.Withdrawn e) h)
