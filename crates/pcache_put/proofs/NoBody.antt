-- A put whose body's admission failed leaves no body under its key.
use Rattle.pcache_evict.specs.Tracked.{Limits}
use Rattle.pcache_request.proofs.NoBody.{body_none}
use Rattle.pcache_request.specs.NoBody.{LeavesNone}
use Rattle.pcache_store.specs.Store.{Guarantees}
use Rattle.pcache_store.specs.declared.storage.MissFinishType.{MissFinishType}
use Rattle.pcache_put.specs.State.{write_in}
use Rattle.pcache_put.specs.declared.report.PutEnd.{PutEnd}
use Rattle.pcache_put.proofs.Words.{◌≡◌, ℕ, true, Some, inl, inr, Key, ErrorType, Tracked, Parsed, HasNoBody, Store, Stage, InHead, InBody, HasDeclined, IsOver, EndsPut, IfWithdrawn}
use Rattle.pcache_request.specs.declared.cache.finish.WriteEnd.TheVariants as writes
use Rattle.pcache_put.specs.declared.report.PutEnd.TheVariants as end

module _ (k : Key) (parser : Parsed) (kinds : ℕ → MissFinishType) (limits : Limits) (s s' : Store) (m m' : Tracked) where
  pub put_none : (g : Guarantees) → g.purges ≡ true → (stage : Stage) (how : PutEnd) → EndsPut g k parser kinds limits stage how s s' m m' → IfWithdrawn how (HasNoBody s' k)
  put_none g is InHead (end.Withdrawn e) h = absurd (let other = h.0 in cc)
  put_none g is (HasDeclined reason) (end.Withdrawn e) h = absurd (let other = h.0 in cc)
  put_none g is (IsOver kind) (end.Withdrawn e) h = absurd (let other = h.0 in cc)
  put_none g is (InBody w id until) (end.Withdrawn e) (inl early) = absurd (let other = early.2 in cc)
  put_none g is (InBody w id until) (end.Withdrawn e) (inr ends) = body_none (λ _. Unit {0}) k w id (kinds w) limits true s s' m m' g is (writes.Withdrawn e) ends
  put_none g is stage how h = tt

  pub refused_leaves : (g : Guarantees) (stage : Stage) (e : ErrorType) → EndsPut g k parser kinds limits stage (end.Refused e) s s' m m' → LeavesNone (Some k) (write_in stage) s s'
  refused_leaves g InHead e h = h.1.0
  refused_leaves g (HasDeclined reason) e h = h.1.0
  refused_leaves g (IsOver kind) e h = h.1.0
  refused_leaves g (InBody w id until) e (inl early) = inl early.3
  refused_leaves g (InBody w id until) e (inr ends) = absurd ends

  pub dropped_leaves : (g : Guarantees) (stage : Stage) (e : ErrorType) → EndsPut g k parser kinds limits stage (end.Dropped e) s s' m m' → LeavesNone (Some k) (write_in stage) s s'
  dropped_leaves g InHead e h = h.1.0
  dropped_leaves g (HasDeclined reason) e h = h.1.0
  dropped_leaves g (IsOver kind) e h = h.1.0
  dropped_leaves g (InBody w id until) e (inl early) = inl early.3
  dropped_leaves g (InBody w id until) e (inr ends) = inl ends.dropped

  pub withdrawn_leaves : (g : Guarantees) → g.purges ≡ true → (stage : Stage) (e : ErrorType) → EndsPut g k parser kinds limits stage (end.Withdrawn e) s s' m m' → LeavesNone (Some k) (write_in stage) s s'
  withdrawn_leaves g is InHead e h = h.1.0
  withdrawn_leaves g is (HasDeclined reason) e h = h.1.0
  withdrawn_leaves g is (IsOver kind) e h = h.1.0
  withdrawn_leaves g is (InBody w id until) e h = inr (put_none g is (InBody w id until) (end.Withdrawn e) h)
