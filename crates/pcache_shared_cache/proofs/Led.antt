-- Each call led from the state that it found to the one that it left: the limits and the age of permits stay, and of the two pasts
-- nothing is forgotten.
use Rattle.pcache_cache.proofs.Adding.{end_keeps, ends_request_keeps, found_keeps, handed_keeps, left_keeps, let_go_keeps, looked_keeps, published_keeps, searched_keeps, settled_keeps, taken_keeps, varied_keeps, waited_keeps, writing_keeps, begun_keeps, written_keeps}
use Rattle.pcache_cache.proofs.Growing.{GrewFrom, grew_if, grown_by_note, kept_by_deeds}
use Rattle.pcache_cache.proofs.Owned.{own_keeps}
use Rattle.pcache_base.specs.Key.{Key}
use Rattle.pcache_cache.specs.Fetching.{FetchNote, is_old_variant, is_outdated}
use Rattle.pcache_cache.specs.Filling.{Begins, BeginsSo, EndsWrite, write_gone, write_removed}
use Rattle.pcache_cache.specs.Growing.{Grew}
use Rattle.pcache_cache.specs.Looking.{LetsGo, LooksIn, emptied, without_old}
use Rattle.pcache_cache.specs.Renewing.{named_as, stock}
use Rattle.pcache_cache.specs.Parts.{Adds, tracked_at_end, written_past}
use Rattle.pcache_cache.specs.Weighing.{entered}
use Rattle.pcache_lock.specs.declared.lock.permit.WritePermit.{WritePermit}
use Rattle.pcache_lock.specs.declared.lock.status.LockStatus.TheVariants.{GiveUp}
use Rattle.pcache_meta.specs.Header.{Header}
use Rattle.pcache_request.specs.LockPasts.{end_deeds, found_deeds, handed_deeds, let_go_deeds, looked_deeds, published_deeds, settled_deeds, varied_deeds, waited_deeds}
use Rattle.pcache_request.specs.Releasing.{status_for}
use Rattle.pcache_request.specs.Renewals.{renewed_by}
use Rattle.pcache_request.specs.StorePasts.{begun_past, expired_past, left_past, purged_past, taken_past, writing_past}
use Rattle.pcache_request.specs.WriteEnds.{EndsAs}
use Rattle.pcache_request.specs.declared.cache.finish.FinishReport.{FinishReport}
use Rattle.pcache_request.specs.declared.cache.report.LockName.{LockName}
use Rattle.pcache_request.specs.declared.cache.report.ReleasedLock.{ReleasedLock}
use Rattle.pcache_store.specs.Notes.{added, expiry_noted}
use Rattle.pcache_store.specs.Past.{MetaSet, Note, Purged}
use Rattle.pcache_shared_cache.proofs.Words.{◌≡◌, ⊎_elim, inl, inr, ℕ, Bool, true, false, cond, List, [], ◌∷◌, ◌++◌, append_assoc, ◌∙◌, Option, None, Some, Result, Ok, Err, OnErr, OnOk, ap, option_map, refl, sym, subst, slot, ErrorType, dropped_keeps, grew_by, grew_not, grew_same, kept_by_notes, Disables, EndsRequest, BeginsWrite, Writes, Publishes, Releases, TakesPermit, Waits, EndsHit, LooksUp, TakesFound, Expires, Purges, Revalidates, ServesUncacheable, Varies, Parts, LockWaitOutcome, LockStatus, Done, Poll, NoCacheReason, Meta, published_by, table_handed, table_waited, Request, let_go_by, settled, table_found, dropped_past, searched_past, table_looked_for, table_varied, WriteEnd, HitStatus, leave_noted, noted, in_memory, Reader, MemHitHandler, Leads}
use Rattle.pcache_request.specs.declared.cache.finish.WriteEnd.TheVariants as end
use Rattle.pcache_shared_cache.proofs.Ages.{HasAgeOf, age_as, age_ended, age_found, age_handed, age_if, age_let_go, age_looked, age_published, age_varied, age_waited, settled_at}

err_ap : {A X Y : Type 0} (f : X → Y) (result : Result A ErrorType) (x y : X) → OnErr result (x ≡ y) → OnErr result (f x ≡ f y)
err_ap f (Ok a) x y e = tt
err_ap f (Err k) x y e = ap f e

-- the part after a call that changed nothing of the locks, or nothing of the store
same_deeds : (p q : Parts) → q.deeds ≡ p.deeds → Grew p.deeds q.deeds
same_deeds p q is = grew_same p.deeds q.deeds is

-- a list that grew, and grew once more
grew_then : {A : Type 0} (a b c : List A) → Grew a b → Grew b c → Grew a c
grew_then a b c (xs, is) (ys, so) = (ys ++ xs, so ∙ ap (λ l. ys ++ l) is ∙ sym (append_assoc ys xs a))

-- a past with one more note, if there is one
added_grew : (note : Option Note) (past : List Note) → Grew past (added note past)
added_grew None past = ([], refl)
added_grew (Some note) past = (note ∷ [], refl)

-- nothing changed
pub stayed : (p q : Parts) → q ≡ p → Leads p q
stayed p q same = record {
  limits = ap (λ (x : Parts). x.limits) same;
  weighing = ap (λ (x : Parts). x.weighing) same;
  age = ap (λ (x : Parts). x.locks.age_timeout) same;
  past = grew_same p.past q.past (ap (λ (x : Parts). x.past) same);
  deeds = grew_same p.deeds q.deeds (ap (λ (x : Parts). x.deeds) same);
}

pub purged : {result : Result Bool ErrorType} {r s : Request} {p q : Parts} → Purges result r s p q → Leads p q
purged {result} {r} {s} {p} {q} row = record {
  limits = ap (λ (x : Parts). x.limits) row.rest;
  weighing = ap (λ (x : Parts). x.weighing) row.rest;
  age = ap (λ (x : Parts). x.locks.age_timeout) row.rest;
  past = grew_if result (purged_past r.key) p.past q.past (grown_by_note p.past (option_map (λ k. Purged (slot k)) r.key)) row.takes.past (err_ap (λ (x : Parts). x.past) result q p row.same);
  deeds = grew_same p.deeds q.deeds (ap (λ (x : Parts). x.deeds) row.rest);
}

pub expired : {result : Result Bool ErrorType} {now : ℕ} {r s : Request} {p q : Parts} → Expires result now r s p q → Leads p q
expired {result} {now} {r} {s} {p} {q} row = record {
  limits = ap (λ (x : Parts). x.limits) row.rest;
  weighing = ap (λ (x : Parts). x.weighing) row.rest;
  age = ap (λ (x : Parts). x.locks.age_timeout) row.rest;
  past = grew_if result (expired_past now r.key) p.past q.past (grown_by_note p.past (expiry_noted now (option_map slot r.key))) row.takes.past (err_ap (λ (x : Parts). x.past) result q p row.same);
  deeds = grew_same p.deeds q.deeds (ap (λ (x : Parts). x.deeds) row.rest);
}

pub written : {result : Result Bool ErrorType} {bytes : List ℕ} {eof : Bool} {r s : Request} {p q : Parts} → Writes result bytes eof r s p q → Leads p q
written {result} {bytes} {eof} {r} {s} {p} {q} row = record {
  limits = ap (λ (x : Parts). x.limits) row.rest;
  weighing = ap (λ (x : Parts). x.weighing) row.rest;
  age = ap (λ (x : Parts). x.locks.age_timeout) row.rest;
  past = grew_if result (written_past p.store r.write bytes eof) p.past q.past (written_keeps (kept_by_notes p.past) p.store r.write bytes eof) row.past (err_ap (λ (x : Parts). x.past) result q p row.same);
  deeds = grew_same p.deeds q.deeds (ap (λ (x : Parts). x.deeds) row.rest);
}

grew_as : {A : Type 0} (p q : List A) (x : Option (List A)) → Some q ≡ x → GrewFrom (Some p) x → Grew p q
grew_as p q x is grew = subst (GrewFrom (Some p)) (sym is) grew

looked_past : (result : Result (Option (Meta × MemHitHandler)) ErrorType) (now : ℕ) (r s : Request) (p q : Parts) → LooksIn result now r s p q → Grew p.past q.past
looked_past (Ok f) now r s p q row = grew_by (searched_past p.store r) p.past q.past (searched_keeps (kept_by_notes p.past) p.store r) row.takes.past
looked_past (Err e) now r s p q row = ⊎_elim (λ same. grew_as p.past q.past (Some p.past) same.1 (grew_not p.past))
    (λ gone. grew_as p.past q.past (searched_past p.store r (Some p.past)) gone.1 (searched_keeps (kept_by_notes p.past) p.store r (Some p.past) (grew_not p.past))) row.takes.left

looked_table : (result : Result (Option (Meta × MemHitHandler)) ErrorType) (now : ℕ) (r s : Request) (p q : Parts) → LooksIn result now r s p q → Grew p.deeds q.deeds
looked_table (Ok f) now r s p q row = grew_by (looked_deeds p.store now p.locks r) p.deeds q.deeds (looked_keeps (kept_by_deeds p.deeds) p.store now p.locks r) row.takes.deeds
looked_table (Err e) now r s p q row = grew_as p.deeds q.deeds (Some p.deeds) row.takes.same_deeds (grew_not p.deeds)

looked_in : {result : Result (Option (Meta × MemHitHandler)) ErrorType} {now : ℕ} {r s : Request} {p q : Parts} → LooksIn result now r s p q → Leads p q
looked_in {result} {now} {r} {s} {p} {q} row = record {
  limits = ap (λ (x : Parts). x.limits) row.rest;
  weighing = ap (λ (x : Parts). x.weighing) row.rest;
  age = age_if result p.locks (table_looked_for p.store now r p.locks) q.locks row.takes.table (age_looked p.store now r p.locks) row.takes.same_table;
  past = looked_past result now r s p q row;
  deeds = looked_table result now r s p q row;
}

-- one call after another
leads_then : (p m q : Parts) → Leads p m → Leads m q → Leads p q
leads_then p m q first second = record {
  limits = second.limits ∙ first.limits;
  weighing = second.weighing ∙ first.weighing;
  age = second.age ∙ first.age;
  past = grew_then p.past m.past q.past first.past second.past;
  deeds = grew_then p.deeds m.deeds q.deeds first.deeds second.deeds;
}

-- what is stored for an old variant is removed
emptied_leads : (r : Request) (p : Parts) → Leads p (emptied r p)
emptied_leads r p = record { limits = refl; weighing = refl; age = refl; past = added_grew (option_map (λ k. Purged (slot k)) r.key) p.past; deeds = grew_same p.deeds p.deeds refl }

cleared_leads : (r : Request) (p : Parts) → Leads p (without_old r p)
cleared_leads r p = by (is_old_variant r.key p.store p.purges)
  where
    by : (b : Bool) → Leads p (cond b (emptied r p) p)
    by true = emptied_leads r p
    by false = stayed p p refl

pub looked : {result : Result (Option (Meta × MemHitHandler)) ErrorType} {now : ℕ} {r s : Request} {p q : Parts} → LooksUp result now r s p q → Leads p q
looked {result} {now} {r} {s} {p} {q} (inl row) = leads_then p (without_old r p) q (cleared_leads r p) (looked_in row)
looked {result} {now} {r} {s} {p} {q} (inr row) = stayed p q row.1.same

grew_either : {A R : Type 0} (result : Result R ErrorType) (f h : Option (List A) → Option (List A)) (p q : List A) → ((x : Option (List A)) → GrewFrom (Some p) x → GrewFrom (Some p) (f x)) → ((x : Option (List A)) → GrewFrom (Some p) x → GrewFrom (Some p) (h x))
    → OnOk result (Adds f p q) → OnErr result (Adds h p q) → Grew p q
grew_either (Ok a) f h p q keeps keeps' ok err = grew_by f p q keeps ok
grew_either (Err e) f h p q keeps keeps' ok err = grew_by h p q keeps' err

pub taken : {result : Result (Unit {0}) ErrorType} {status : HitStatus} {m : Meta} {h : Reader} {now : ℕ} {r s : Request} {p q : Parts} → TakesFound result status m h now r s p q → Leads p q
taken {result} {status} {m} {h} {now} {r} {s} {p} {q} row = record {
  limits = ap (λ (x : Parts). x.limits) row.rest;
  weighing = ap (λ (x : Parts). x.weighing) row.rest;
  age = age_if result p.locks (table_found status now r p.locks) q.locks row.takes.table (age_found status now r p.locks) row.takes.same_table;
  past = grew_either result (taken_past status h r) (noted (leave_noted h)) p.past q.past (taken_keeps (kept_by_notes p.past) status h r) (grown_by_note p.past (leave_noted h)) row.takes.past row.takes.left_past;
  deeds = grew_either result (found_deeds status now p.locks r) (λ x. x) p.deeds q.deeds (found_keeps (kept_by_deeds p.deeds) status now p.locks r) (λ x is. is) row.takes.deeds row.takes.same_deeds;
}

pub let_go : {h : Reader} {p q : Parts} → LetsGo h p q → Leads p q
let_go {h} {p} {q} row = record {
  limits = ap (λ (x : Parts). x.limits) row.rest;
  weighing = ap (λ (x : Parts). x.weighing) row.rest;
  age = ap (λ (x : Parts). x.locks.age_timeout) row.rest;
  past = grew_by (noted (leave_noted h)) p.past q.past (grown_by_note p.past (leave_noted h)) row.past;
  deeds = grew_same p.deeds q.deeds (ap (λ (x : Parts). x.deeds) row.rest);
}

pub hit_ended : {result : Result (Unit {0}) ErrorType} {r s : Request} {p q : Parts} → EndsHit result r s p q → Leads p q
hit_ended {result} {r} {s} {p} {q} row = record {
  limits = ap (λ (x : Parts). x.limits) row.rest;
  weighing = ap (λ (x : Parts). x.weighing) row.rest;
  age = ap (λ (x : Parts). x.locks.age_timeout) row.rest;
  past = grew_by (left_past r.reader) p.past q.past (left_keeps (kept_by_notes p.past) r.reader) row.takes.past;
  deeds = grew_same p.deeds q.deeds (ap (λ (x : Parts). x.deeds) row.rest);
}

pub request_ended : {result : Option LockName} {r : Request} {p q : Parts} → EndsRequest result r p q → Leads p q
request_ended {result} {r} {p} {q} row = record {
  limits = ap (λ (x : Parts). x.limits) row.rest;
  weighing = ap (λ (x : Parts). x.weighing) row.rest;
  age = age_as p.locks (let_go_by r.held p.locks) q.locks row.takes.table (age_let_go r.held p.locks);
  past = grew_by (λ l. left_past r.reader (dropped_past r.write l)) p.past q.past (λ x is. left_keeps (kept_by_notes p.past) r.reader (dropped_past r.write x) (dropped_keeps (kept_by_notes p.past) r.write x is)) row.takes.gives.past;
  deeds = grew_by (let_go_deeds r.held) p.deeds q.deeds (let_go_keeps (kept_by_deeds p.deeds) r.held) row.takes.deeds;
}

pub disabled : {result : Option LockName} {reason : NoCacheReason} {r s : Request} {p q : Parts} → Disables result reason r s p q → Leads p q
disabled {result} {reason} {r} {s} {p} {q} row = record {
  limits = ap (λ (x : Parts). x.limits) row.rest;
  weighing = ap (λ (x : Parts). x.weighing) row.rest;
  age = settled_at (status_for (λ text. GiveUp) reason) r.held p.locks q.locks row.takes.settles.table;
  past = grew_by (λ l. left_past r.reader (dropped_past r.write l)) p.past q.past (λ x is. left_keeps (kept_by_notes p.past) r.reader (dropped_past r.write x) (dropped_keeps (kept_by_notes p.past) r.write x is)) row.takes.gives.past;
  deeds = grew_by (settled_deeds (status_for (λ text. GiveUp) reason) r.held) p.deeds q.deeds (settled_keeps (kept_by_deeds p.deeds) (status_for (λ text. GiveUp) reason) r.held) row.takes.settles.deeds;
}

pub asked_on : {result : Result (Poll LockWaitOutcome) ErrorType} {now : ℕ} {r s : Request} {p q : Parts} → Waits result now r s p q → Leads p q
asked_on {result} {now} {r} {s} {p} {q} row = record {
  limits = ap (λ (x : Parts). x.limits) row.rest;
  weighing = ap (λ (x : Parts). x.weighing) row.rest;
  age = age_if result p.locks (table_waited p.locks now r.held r) q.locks row.takes.table (age_waited p.locks now r.held r) (err_ap (λ (x : Parts). x.locks) result q p row.same);
  past = grew_same p.past q.past (ap (λ (x : Parts). x.past) row.rest);
  deeds = grew_if result (waited_deeds p.locks now r.held r) p.deeds q.deeds (waited_keeps (kept_by_deeds p.deeds) p.locks now r.held r) row.takes.deeds (err_ap (λ (x : Parts). x.deeds) result q p row.same);
}

-- what is held of a lock is given back with this status, and nothing else is done
settled_on : (status : LockStatus) (r : Request) (p q : Parts) → q.locks ≡ settled status r.held p.locks → Adds (settled_deeds status r.held) p.deeds q.deeds → q ≡ record p { locks = q.locks; deeds = q.deeds } → Leads p q
settled_on status r p q table deeds rest = record {
  limits = ap (λ (x : Parts). x.limits) rest;
  weighing = ap (λ (x : Parts). x.weighing) rest;
  age = settled_at status r.held p.locks q.locks table;
  past = grew_same p.past q.past (ap (λ (x : Parts). x.past) rest);
  deeds = grew_by (settled_deeds status r.held) p.deeds q.deeds (settled_keeps (kept_by_deeds p.deeds) status r.held) deeds;
}

pub released : {result : Option ReleasedLock} {reason : NoCacheReason} {r s : Request} {p q : Parts} → Releases result reason r s p q → Leads p q
released {result} {reason} {r} {s} {p} {q} row = settled_on (status_for (λ text. GiveUp) reason) r p q row.takes.settles.table row.takes.settles.deeds row.rest

pub served_on : {result : Option LockName} {h : Header} {reason : NoCacheReason} {r s : Request} {p q : Parts} → ServesUncacheable result h reason r s p q → Leads p q
served_on {result} {h} {reason} {r} {s} {p} {q} row = settled_on (status_for (λ text. GiveUp) reason) r p q row.takes.settles.table row.takes.settles.deeds row.rest

pub permit_taken : {result : Option LockName} {permit : WritePermit} {r s : Request} {p q : Parts} → TakesPermit result permit r s p q → Leads p q
permit_taken {result} {permit} {r} {s} {p} {q} row = record {
  limits = ap (λ (x : Parts). x.limits) row.rest;
  weighing = ap (λ (x : Parts). x.weighing) row.rest;
  age = age_as p.locks (table_handed permit r p.locks) q.locks row.takes.table (age_handed permit r p.locks);
  past = grew_same p.past q.past (ap (λ (x : Parts). x.past) row.rest);
  deeds = grew_by (handed_deeds permit r) p.deeds q.deeds (handed_keeps (kept_by_deeds p.deeds) permit r) row.takes.deeds;
}

pub published : {result : Result (Option LockName) ErrorType} {tokens : List ℕ} {r : Request} {p q : Parts} → Publishes result tokens r p q → Leads p q
published {result} {tokens} {r} {p} {q} row = record {
  limits = ap (λ (x : Parts). x.limits) row.rest;
  weighing = ap (λ (x : Parts). x.weighing) row.rest;
  age = age_if result p.locks (published_by tokens r.held p.locks) q.locks row.takes.table (age_published tokens r.held p.locks) (err_ap (λ (x : Parts). x.locks) result q p row.same);
  past = grew_same p.past q.past (ap (λ (x : Parts). x.past) row.rest);
  deeds = grew_if result (published_deeds tokens r.held) p.deeds q.deeds (published_keeps (kept_by_deeds p.deeds) tokens r.held) row.takes.deeds (err_ap (λ (x : Parts). x.deeds) result q p row.same);
}

pub renewed_body : {result : Result Bool ErrorType} {m : Meta} {r s : Request} {p q : Parts} → Revalidates result m r s p q → Leads p q
renewed_body {result} {m} {r} {s} {p} {q} row = record {
  limits = ap (λ (x : Parts). x.limits) row.rest;
  weighing = ap (λ (x : Parts). x.weighing) row.rest;
  age = settled_at Done r.held p.locks q.locks row.goes_on.settles.table;
  past = own_keeps (kept_by_notes p.past) p.weighing p.limits (renewed_by (named_as r.meta m) r.meta) r.key result (stock p) (stock q) (λ own. grown_by_note p.past (option_map (λ k. MetaSet (slot k) (renewed_by (named_as r.meta m) r.meta)) r.key) (Some p.past) (grew_not p.past)) row.renews (grew_not p.past);
  deeds = grew_by (settled_deeds Done r.held) p.deeds q.deeds (settled_keeps (kept_by_deeds p.deeds) Done r.held) row.goes_on.settles.deeds;
}

pub varied_on : {result : Option LockName} {variance : Option (List ℕ)} {r s : Request} {p q : Parts} → Varies result variance r s p q → Leads p q
varied_on {result} {variance} {r} {s} {p} {q} row = record {
  limits = ap (λ (x : Parts). x.limits) row.rest;
  weighing = ap (λ (x : Parts). x.weighing) row.rest;
  age = age_as p.locks (table_varied variance r p.locks) q.locks row.takes.table (age_varied variance r p.locks);
  past = grew_same p.past q.past (ap (λ (x : Parts). x.past) row.rest);
  deeds = grew_by (varied_deeds variance r) p.deeds q.deeds (varied_keeps (kept_by_deeds p.deeds) variance r) row.takes.deeds;
}

begun_notes : (result : Result (Unit {0}) ErrorType) (r s : Request) (p q : Parts) → Begins result r s p q → Grew p.past q.past
begun_notes (Ok a) r s p q row = grew_by (writing_past true p.store r) p.past q.past (writing_keeps (kept_by_notes p.past) true p.store r) row.takes.past
begun_notes (Err e) r s p q row = ⊎_elim (λ same. grew_as p.past q.past (Some p.past) same.2 (grew_not p.past))
    (λ gone. grew_as p.past q.past (begun_past p.store r (Some p.past)) gone.2 (begun_keeps (kept_by_notes p.past) p.store r (Some p.past) (grew_not p.past))) row.takes.err

begun_deeds : (result : Result (Unit {0}) ErrorType) (r s : Request) (p q : Parts) → Begins result r s p q → Grew p.deeds q.deeds
begun_deeds (Ok a) r s p q row = grew_by (settled_deeds Done r.held) p.deeds q.deeds (settled_keeps (kept_by_deeds p.deeds) Done r.held) row.takes.deeds
begun_deeds (Err e) r s p q row = ⊎_elim (λ same. grew_as p.deeds q.deeds (Some p.deeds) same.4 (grew_not p.deeds))
    (λ gone. grew_as p.deeds q.deeds (settled_deeds Done r.held (Some p.deeds)) gone.4 (settled_keeps (kept_by_deeds p.deeds) Done r.held (Some p.deeds) (grew_not p.deeds))) row.takes.err

begun_age : (result : Result (Unit {0}) ErrorType) (r s : Request) (p q : Parts) → Begins result r s p q → HasAgeOf p.locks q.locks
begun_age (Ok a) r s p q row = settled_at Done r.held p.locks q.locks row.takes.table
begun_age (Err e) r s p q row = ⊎_elim (λ same. age_as p.locks p.locks q.locks same.3 refl) (λ gone. settled_at Done r.held p.locks q.locks gone.3) row.takes.err

begun_first : {result : Result (Unit {0}) ErrorType} {r s : Request} {p q : Parts} → Begins result r s p q → Leads p q
begun_first {result} {r} {s} {p} {q} row = record {
  limits = ap (λ (x : Parts). x.limits) row.rest;
  weighing = ap (λ (x : Parts). x.weighing) row.rest;
  age = begun_age result r s p q row;
  past = begun_notes result r s p q row;
  deeds = begun_deeds result r s p q row;
}

-- a write is removed
write_gone_leads : (k : Option Key) (w : Option ℕ) (p : Parts) → Leads p (write_removed k w p)
write_gone_leads None w p = stayed p p refl
write_gone_leads (Some k) w p = record { limits = refl; weighing = refl; age = refl; past = added_grew (write_gone (slot k) w) p.past; deeds = grew_same p.deeds p.deeds refl }

begun_so : {fetch : Option FetchNote} {result : Result (Unit {0}) ErrorType} {r s : Request} {p q : Parts} → BeginsSo fetch result r s p q → Leads p q
begun_so {fetch} {result} {r} {s} {p} {q} row = by (is_outdated fetch r.key p.purges) row.removed
  where
    m : Parts
    m = row.between

    first : Leads p m
    first = begun_first row.begins

    by : (b : Bool) → q ≡ cond b (write_removed s.key s.write m) m → Leads p q
    by true is = subst (λ (x : Parts). Leads p x) (sym is) (leads_then p m (write_removed s.key s.write m) first (write_gone_leads s.key s.write m))
    by false is = subst (λ (x : Parts). Leads p x) (sym is) first

pub begun : {fetch : Option FetchNote} {result : Result (Unit {0}) ErrorType} {r s : Request} {p q : Parts} → BeginsWrite fetch result r s p q → Leads p q
begun {fetch} {result} {r} {s} {p} {q} (inl row) = begun_so row
begun {fetch} {result} {r} {s} {p} {q} (inr row) = stayed p q row.1.same

-- what holds of each way in which a write can have ended
ended_any : {X : Type 0} {P : WriteEnd → Type 0} (result : Result (Option FinishReport) ErrorType) → EndsAs result P → ((how : WriteEnd) → P how → X) → X
ended_any (Ok None) is so = so end.Nothing is
ended_any (Ok (Some f)) is so = so (end.Stored f) is
ended_any (Err e) (inl is) so = so (end.Dropped e) is
ended_any (Err e) (inr is) so = so (end.Withdrawn e) is

pub ended : {result : Result (Option FinishReport) ErrorType} {r s : Request} {p q : Parts} → EndsWrite result r s p q → Leads p q
ended {result} {r} {s} {p} {q} row = record {
  limits = row.limits;
  weighing = row.weighing;
  age = ended_any result row.ended (λ how is. age_ended in_memory r r.key r.write (entered p.weighing p.store r.write) p.limits how p.store q.store (tracked_at_end p r how) q.tracked p.locks q.locks is.ends);
  past = ended_any result row.ended (λ how is. ends_request_keeps (kept_by_notes p.past) in_memory r.key r.write how (Some p.past) (Some q.past) is.past (grew_not p.past));
  deeds = ended_any result row.ended (λ how is. grew_by (end_deeds r.write r.held how) p.deeds q.deeds (end_keeps (kept_by_deeds p.deeds) r.write r.held how) is.deeds);
}
