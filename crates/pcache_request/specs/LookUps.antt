-- What a look-up reports of what it did (own).
use Rattle.std.specs.Prelude.{◌≡◌, true, false, Option, Some, None, IfOk, IfErr, OnOk, OnErr, IsTrue, option_map}
use Rattle.pcache_lock.specs.Locks.{Locks, MayFailLock}
use Rattle.pcache_meta.specs.Meta.{Meta}
use Rattle.pcache_predict.specs.declared.admission.Decision.{Decision}
use Rattle.pcache_store.specs.Store.{Store}
use Rattle.pcache_request.specs.Admissions.{is_deferral}
use Rattle.pcache_request.specs.Reports.{name_of}
use Rattle.pcache_request.specs.Requests.{Request}
use Rattle.pcache_request.specs.Variants.{asked_for_key, asks_unseen}
use Rattle.pcache_request.specs.declared.cache.report.LookUp.{LookUp}
use Rattle.pcache_request.specs.declared.cache.report.LookUp.TheVariants.{Found, NotFound, Deferred}

-- the pair that it hands on
abbrev pub handed_on : {H : Type 0} → LookUp H → Option (Meta × H)
handed_on (Found meta hit) = Some (meta, hit)
handed_on (NotFound asked) = None
handed_on (Deferred released) = None

-- P holds unless the lock failed
abbrev pub OnLooked : {H : Type 0} → LookUp H → Type 0 → Type 0
OnLooked (Found meta hit) P = P
OnLooked (NotFound asked) P = OnOk asked P
OnLooked (Deferred released) P = P

-- P holds if the lock failed
abbrev pub OnUnlocked : {H : Type 0} → LookUp H → Type 0 → Type 0
OnUnlocked (Found meta hit) P = Unit {0}
OnUnlocked (NotFound asked) P = OnErr asked P
OnUnlocked (Deferred released) P = Unit {0}

-- what a look-up reports with this decision, or none: if deferred, the lock that was released; otherwise, if it hands
-- nothing on, the lock that was asked for, or why that failed
abbrev pub Tells : {H : Type 0} → Option Decision → Store → Locks → Request → LookUp H → Type 0
Tells d s t r (Found meta hit) = is_deferral d ≡ false
Tells d s t r (NotFound asked) = (is_deferral d ≡ false) × IfOk asked (λ a. a ≡ asked_for_key t r) × IfErr asked (λ e. IsTrue (asks_unseen s r) × MayFailLock t e)
Tells d s t r (Deferred released) = (is_deferral d ≡ true) × (released ≡ option_map name_of r.held)
