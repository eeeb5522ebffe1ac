-- What each note leaves true of a past of a store, each call of a cache leaves true of it; and so for the deeds of a lock table.
use Rattle.pcache_base.specs.declared.poll.Poll.{Poll}
use Rattle.pcache_base.specs.declared.poll.Poll.TheVariants.{Ready, Pending}
use Rattle.pcache_cache.specs.Parts.{written_past}
use Rattle.pcache_lock.specs.Deeds.{Left, Published, Released, asked, asked_again, given_up, tells_old}
use Rattle.pcache_lock.specs.Locks.{holder, is_permit, lock_given, number_of_lock}
use Rattle.pcache_lock.specs.Permits.{Permit}
use Rattle.pcache_lock.specs.Waiting.{polled}
use Rattle.pcache_lock.specs.declared.lock.outcome.LockWaitOutcome.{LockWaitOutcome}
use Rattle.pcache_lock.specs.declared.lock.permit.Locked.TheVariants.{Write, Read}
use Rattle.pcache_lock.specs.declared.lock.status.LockStatus.TheVariants.{TransientError}
use Rattle.pcache_put.specs.Pasts.{EndsPutPast, past_begun, past_left, past_wrote}
use Rattle.pcache_put.specs.declared.report.Written.{Written}
use Rattle.pcache_request.specs.Finishing.{TakesAll, entry_slot}
use Rattle.pcache_request.specs.LockPasts.{asked_deeds, ended_deeds, given_deed, key_locked_deeds, let_go_deed, polled_deeds}
use Rattle.pcache_request.specs.LockWaits.{unusable_in, wait_result}
use Rattle.pcache_request.specs.Requests.{asks_as_stale, asks_for_hit, begin_followed}
use Rattle.pcache_request.specs.StorePasts.{EndsPast, EndsRequestPast, begun_past, begun_past_for, entry_past, found_past, hidden_past, left_past, looked_past, searched_past, taken_past, writing_past}
use Rattle.pcache_request.specs.Variants.{leaves_variant}
use Rattle.pcache_request.specs.WriteEnds.{status_after}
use Rattle.pcache_evict.specs.Entry.{id_of}
use Rattle.pcache_store.specs.Notes.{expiry_noted, leave_noted, look_noted, noted, removal_noted}
use Rattle.pcache_store.specs.Past.{Began, Dropped, Finished, MetaSet, Purged, Wrote}
use Rattle.pcache_store.specs.Store.{Guarantees, Part, Reader as BodyReader, Whole, is_told}
use Rattle.pcache_cache.proofs.Words.{◌≡◌, inl, inr, ℕ, Bool, true, false, List, [], ◌∷◌, Option, None, Some, Result, Ok, Err, cond, refl, sym, subst, option_map, get, Key, slot, ErrorType, NoCacheReason, put_past, IsNotSet, IsSet, Renews, Stock, meta_given, reweighs, Weighing, Limits, CacheEntryKey, Deed, Locks, is_unlocking, Locked, LockStatus, Done, Meta, Decision, Put, Stage, InHead, InBody, HasDeclined, IsOver, write_in, stage_begun, write_end, PutEnd, is_deferral, Deeds, end_deeds, found_deeds, handed_deeds, let_go_deeds, looked_deeds, looked_with_deeds, published_deeds, settled_deeds, varied_deeds, waited_deeds, Request, found_for, is_treated_as_miss, Past, dropped_past, is_hidden, is_unseen_for, WriteEnd, HitStatus, Note, Store}
use Rattle.pcache_lock.specs.Deeds as deeds
use Rattle.pcache_put.specs.Steps as steps
use Rattle.pcache_request.specs.declared.cache.finish.WriteEnd.TheVariants as end

-- ---- deeds

-- each deed leaves it true, but for the unlocking of a permit that is held
abbrev pub KeptByDeeds : (Deeds → Type 0) → Type 0
KeptByDeeds Q = (d : Deed) (p : Deeds) → is_unlocking d ≡ false → Q p → Q (deeds.noted d p)

one_of : {A : Type 0} (Q : A → Type 0) (b : Bool) (p q : A) → Q p → Q q → Q (cond b p q)
one_of Q true p q h k = h
one_of Q false p q h k = k

no_unlock_asked : (k now n : ℕ) (stale b : Bool) → is_unlocking (asked k stale now n b) ≡ false
no_unlock_asked k now n stale true = refl
no_unlock_asked k now n stale false = refl

no_unlock_polled : (n now : ℕ) (b : Bool) → is_unlocking (asked_again n now b) ≡ false
no_unlock_polled n now true = refl
no_unlock_polled n now false = refl

let_go_one_keeps : {Q : Deeds → Type 0} → KeptByDeeds Q → (l : Locked) (p : Deeds) → Q p → Q (let_go_deed l p)
let_go_one_keeps keeps (Write w) p h = keeps (given_up w.number true) p refl h
let_go_one_keeps keeps (Read r) p h = keeps (given_up r.number false) p refl h

pub let_go_keeps : {Q : Deeds → Type 0} → KeptByDeeds Q → (h : Option Locked) (p : Deeds) → Q p → Q (let_go_deeds h p)
let_go_keeps keeps None p is = is
let_go_keeps keeps (Some l) p is = let_go_one_keeps keeps l p is

pub settled_keeps : {Q : Deeds → Type 0} → KeptByDeeds Q → (s : LockStatus) (h : Option Locked) (p : Deeds) → Q p → Q (settled_deeds s h p)
settled_keeps keeps s None p is = is
settled_keeps keeps s (Some (Write w)) p is = keeps (Released w.number s) p refl is
settled_keeps keeps s (Some (Read r)) p is = let_go_one_keeps keeps (Read r) p is

asked_keeps : {Q : Deeds → Type 0} → KeptByDeeds Q → (stale : Bool) (now : ℕ) (t : Locks) (k : Option Key) (h : Option Locked) (p : Deeds) → Q p → Q (asked_deeds stale now t k h p)
asked_keeps keeps stale now t None h p is = is
asked_keeps keeps stale now t (Some k) h p is =
    let l : Locked = lock_given t stale (holder t (slot k)) in
    let_go_keeps keeps h (given_deed stale now t (slot k) p) (keeps (asked (slot k) stale now (number_of_lock l) (is_permit l)) p (no_unlock_asked (slot k) now (number_of_lock l) stale (is_permit l)) is)

key_locked_keeps : {Q : Deeds → Type 0} → KeptByDeeds Q → (now : ℕ) (t : Locks) (r : Request) (p : Deeds) → Q p → Q (key_locked_deeds now t r p)
key_locked_keeps {Q} keeps now t r p is = one_of Q r.uses.lock (asked_deeds false now t r.key r.held p) p (asked_keeps keeps false now t r.key r.held p is) is

pub looked_keeps : {Q : Deeds → Type 0} → KeptByDeeds Q → (s : Store) (now : ℕ) (t : Locks) (r : Request) (p : Deeds) → Q p → Q (looked_deeds s now t r p)
looked_keeps {Q} keeps s now t r p is = one_of Q (is_unseen_for s r) (key_locked_deeds now t r p) p (key_locked_keeps keeps now t r p is) is

pub looked_with_keeps : {Q : Deeds → Type 0} → KeptByDeeds Q → (d : Option Decision) (s : Store) (now : ℕ) (t : Locks) (r : Request) (p : Deeds) → Q p → Q (looked_with_deeds d s now t r p)
looked_with_keeps {Q} keeps d s now t r p is = one_of Q (is_deferral d) (settled_deeds TransientError r.held p) (looked_deeds s now t r p) (settled_keeps keeps TransientError r.held p is) (looked_keeps keeps s now t r p is)

pub found_keeps : {Q : Deeds → Type 0} → KeptByDeeds Q → (s : HitStatus) (now : ℕ) (t : Locks) (r : Request) (p : Deeds) → Q p → Q (found_deeds s now t r p)
found_keeps {Q} keeps s now t r p is = one_of Q (asks_for_hit s r) (asked_deeds (asks_as_stale s r.phase) now t r.key r.held p) p (asked_keeps keeps (asks_as_stale s r.phase) now t r.key r.held p is) is

pub handed_keeps : {Q : Deeds → Type 0} → KeptByDeeds Q → (w : Permit) (r : Request) (p : Deeds) → Q p → Q (handed_deeds w r p)
handed_keeps {Q} keeps w r p is = one_of Q r.uses.lock (let_go_deeds r.held p) (let_go_deed (Write w) p) (let_go_keeps keeps r.held p is) (let_go_one_keeps keeps (Write w) p is)

pub published_keeps : {Q : Deeds → Type 0} → KeptByDeeds Q → (tokens : List ℕ) (h : Option Locked) (p : Deeds) → Q p → Q (published_deeds tokens h p)
published_keeps keeps tokens None p is = is
published_keeps keeps tokens (Some (Write w)) p is = keeps (Published w.number tokens) p refl is
published_keeps keeps tokens (Some (Read r)) p is = is

pub varied_keeps : {Q : Deeds → Type 0} → KeptByDeeds Q → (v : Option (List ℕ)) (r : Request) (p : Deeds) → Q p → Q (varied_deeds v r p)
varied_keeps {Q} keeps v r p is = one_of Q (leaves_variant v r.key) (settled_deeds Done r.held p) p (settled_keeps keeps Done r.held p is) is

ended_keeps : {Q : Deeds → Type 0} → KeptByDeeds Q → (o : Poll LockWaitOutcome) (n : ℕ) (p : Deeds) → Q p → Q (ended_deeds o n p)
ended_keeps keeps (Ready o) n p is = keeps (Left n) p refl is
ended_keeps keeps Pending n p is = is

pub waited_keeps : {Q : Deeds → Type 0} → KeptByDeeds Q → (t : Locks) (now : ℕ) (h : Option Locked) (r : Request) (p : Deeds) → Q p → Q (waited_deeds t now h r p)
waited_keeps keeps t now None r p is = is
waited_keeps keeps t now (Some (Write w)) r p is = is
waited_keeps keeps t now (Some (Read rd)) r p is =
    let is_old = tells_old (polled now (unusable_in r.key) rd.watch (get t.cores rd.number)) in
    ended_keeps keeps (wait_result t now (Some (Read rd)) r) rd.number (polled_deeds now t rd (unusable_in r.key) p)
    (keeps (asked_again rd.number now is_old) p (no_unlock_polled rd.number now is_old) is)

pub end_keeps : {Q : Deeds → Type 0} → KeptByDeeds Q → (w : Option ℕ) (h : Option Locked) (how : WriteEnd) (p : Deeds) → Q p → Q (end_deeds w h how p)
end_keeps keeps None h how p is = is
end_keeps keeps (Some w) h how p is = settled_keeps keeps (status_after how) h p is

-- ---- notes

-- a note that a meta was set
abbrev pub is_set : Option Note → Bool
is_set (Some (MetaSet k m)) = true
is_set _ = false

-- each note leaves it true, but for one that a meta was set
abbrev pub KeptByNotes : (Past → Type 0) → Type 0
KeptByNotes Q = (n : Option Note) (p : Past) → is_set n ≡ false → Q p → Q (noted n p)

no_set_left : (r : BodyReader) → is_set (leave_noted r) ≡ false
no_set_left (Whole id body start stop done) = refl
no_set_left (Part n place) = refl

no_set_looked : (f : Option (Meta × BodyReader)) → is_set (look_noted f) ≡ false
no_set_looked None = refl
no_set_looked (Some (m, Whole id body start stop done)) = refl
no_set_looked (Some (m, Part n place)) = refl

no_set_removed : (numbers : Bool) (k : ℕ) (id : Option ℕ) → is_set (removal_noted numbers k id) ≡ false
no_set_removed numbers k None = refl
no_set_removed true k (Some n) = refl
no_set_removed false k (Some n) = refl

pub no_set_expired : (now : ℕ) (k : Option ℕ) → is_set (expiry_noted now k) ≡ false
no_set_expired now None = refl
no_set_expired now (Some k) = refl

pub no_set_purged : (k : Option Key) → is_set (option_map (λ x. Purged (slot x)) k) ≡ false
no_set_purged None = refl
no_set_purged (Some k) = refl

pub left_keeps : {Q : Past → Type 0} → KeptByNotes Q → (r : Option BodyReader) (p : Past) → Q p → Q (left_past r p)
left_keeps keeps None p is = is
left_keeps keeps (Some r) p is = keeps (leave_noted r) p (no_set_left r) is

-- a reader that was found is let go again
pub left_one_keeps : {Q : Past → Type 0} → KeptByNotes Q → (r : BodyReader) (p : Past) → Q p → Q (noted (leave_noted r) p)
left_one_keeps keeps r p is = keeps (leave_noted r) p (no_set_left r) is

pub dropped_keeps : {Q : Past → Type 0} → KeptByNotes Q → (w : Option ℕ) (p : Past) → Q p → Q (dropped_past w p)
dropped_keeps keeps None p is = is
dropped_keeps keeps (Some w) p is = keeps (Some (Dropped w)) p refl is

hidden_keeps : {Q : Past → Type 0} → KeptByNotes Q → (from : Option ℕ) (f : Option (Meta × BodyReader)) (p : Past) → Q p → Q (hidden_past from f p)
hidden_keeps keeps from None p is = is
hidden_keeps {Q} keeps from (Some q) p is = one_of Q (is_hidden from q.0.created) (noted (leave_noted q.1) p) p (keeps (leave_noted q.1) p (no_set_left q.1) is) is

pub searched_keeps : {Q : Past → Type 0} → KeptByNotes Q → (s : Store) (r : Request) (p : Past) → Q p → Q (searched_past s r p)
searched_keeps keeps s r p is = hidden_keeps keeps r.valid_after (found_for s r.key) (found_past s r.key p) (keeps (look_noted (found_for s r.key)) p (no_set_looked (found_for s r.key)) is)

pub looked_past_keeps : {Q : Past → Type 0} → KeptByNotes Q → (d : Option Decision) (s : Store) (r : Request) (p : Past) → Q p → Q (looked_past d s r p)
looked_past_keeps {Q} keeps d s r p is =
    one_of Q (is_deferral d) (left_past r.reader (dropped_past r.write (found_past s r.key p))) (searched_past s r p)
    (left_keeps keeps r.reader (dropped_past r.write (found_past s r.key p)) (dropped_keeps keeps r.write (found_past s r.key p) (keeps (look_noted (found_for s r.key)) p (no_set_looked (found_for s r.key)) is)))
    (searched_keeps keeps s r p is)

pub taken_keeps : {Q : Past → Type 0} → KeptByNotes Q → (s : HitStatus) (h : BodyReader) (r : Request) (p : Past) → Q p → Q (taken_past s h r p)
taken_keeps {Q} keeps s h r p is = left_keeps keeps r.reader (cond (is_treated_as_miss s) (noted (leave_noted h) p) p) (one_of Q (is_treated_as_miss s) (noted (leave_noted h) p) p (keeps (leave_noted h) p (no_set_left h) is) is)

begun_for_keeps : {Q : Past → Type 0} → KeptByNotes Q → (k : Option Key) (m : Option Meta) (s : Store) (p : Past) → Q p → Q (begun_past_for k m s p)
begun_for_keeps keeps (Some k) (Some m) s p is = keeps (Some (Began (slot k) s.next m)) p refl is
begun_for_keeps keeps (Some k) None s p is = is
begun_for_keeps keeps None m s p is = is

pub begun_keeps : {Q : Past → Type 0} → KeptByNotes Q → (s : Store) (r : Request) (p : Past) → Q p → Q (begun_past s r p)
begun_keeps keeps s r p is = begun_for_keeps keeps r.key r.meta s p is

pub writing_keeps : {Q : Past → Type 0} → KeptByNotes Q → (streams : Bool) (s : Store) (r : Request) (p : Past) → Q p → Q (writing_past streams s r p)
writing_keeps {Q} keeps streams s r p is =
    let begun = begun_keeps keeps s r p is in
    one_of Q streams (left_past r.reader (noted (look_noted (begin_followed s r)) (begun_past s r p))) (begun_past s r p)
    (left_keeps keeps r.reader (noted (look_noted (begin_followed s r)) (begun_past s r p)) (keeps (look_noted (begin_followed s r)) (begun_past s r p) (no_set_looked (begin_followed s r)) begun)) begun

pub written_keeps : {Q : Past → Type 0} → KeptByNotes Q → (s : Store) (w : Option ℕ) (bytes : List ℕ) (eof : Bool) (p : Past) → Q p → Q (written_past s w bytes eof p)
written_keeps keeps s None bytes eof p is = is
written_keeps {Q} keeps s (Some w) bytes eof p is = one_of Q (is_told (get s.writes w)) p (noted (Some (Wrote w bytes eof)) p) is (keeps (Some (Wrote w bytes eof)) p refl is)

taken_all_keeps : {Q : Past → Type 0} (step : Past → CacheEntryKey → Past) → ((p : Past) (e : CacheEntryKey) → Q p → Q (step p e)) → (p : Past) (es : List CacheEntryKey) (n : ℕ) (q : Past) → TakesAll step p es n q → Q p → Q q
taken_all_keeps {Q} step keeps p [] n q takes is = subst Q (sym takes.1) is
taken_all_keeps step keeps p (e ∷ es) n q (inl takes) is = taken_all_keeps step keeps (step p e) es n q takes (keeps p e is)
taken_all_keeps step keeps p (e ∷ es) n q (inr takes) is = taken_all_keeps step keeps p es takes.0 q takes.2 is

ends_keeps : {Q : Past → Type 0} → KeptByNotes Q → (g : Guarantees) (k : Key) (w : ℕ) (how : WriteEnd) (p q : Past) → EndsPast g k w how p q → Q p → Q q
ends_keeps {Q} keeps g k w end.Nothing p q ends is = subst Q (sym ends) is
ends_keeps keeps g k w (end.Stored f) p q ends is =
    taken_all_keeps (entry_past g.numbers) (λ x e. keeps (removal_noted g.numbers (entry_slot e) (id_of e)) x (no_set_removed g.numbers (entry_slot e) (id_of e))) (noted (Some (Finished w)) p) f.evicted.items f.failed_purges q ends (keeps (Some (Finished w)) p refl is)
ends_keeps {Q} keeps g k w (end.Dropped e) p q ends is = subst Q (sym ends) (keeps (Some (Dropped w)) p refl is)
ends_keeps {Q} keeps g k w (end.Withdrawn e) p q (inl ends) is = subst Q (sym ends) (keeps (Some (Purged (slot k))) (noted (Some (Finished w)) p) refl (keeps (Some (Finished w)) p refl is))
ends_keeps {Q} keeps g k w (end.Withdrawn e) p q (inr ends) is = subst Q (sym ends.1) (keeps (Some (Finished w)) p refl is)

pub ends_request_keeps : {Q : Past → Type 0} → KeptByNotes Q → (g : Guarantees) (k : Option Key) (w : Option ℕ) (how : WriteEnd) (p q : Past) → EndsRequestPast g k w how p q → Q p → Q q
ends_request_keeps {Q} keeps g k None how p q ends is = subst Q (sym ends) is
ends_request_keeps {Q} keeps g None (Some w) how p q ends is = subst Q (sym ends) is
ends_request_keeps keeps g (Some k) (Some w) how p q ends is = ends_keeps keeps g k w how p q ends is

begun_put_keeps : {Q : Past → Type 0} → KeptByNotes Q → (k : ℕ) (m : Option Meta) (next : ℕ) (p : Past) → Q p → Q (past_begun k m next p)
begun_put_keeps keeps k None next p is = is
begun_put_keeps keeps k (Some m) next p is = keeps (Some (Began k next m)) p refl is

wrote_put_keeps : {Q : Past → Type 0} → KeptByNotes Q → (w : Option ℕ) (b : Option Written) (p : Past) → Q p → Q (past_wrote w b p)
wrote_put_keeps keeps None b p is = is
wrote_put_keeps keeps (Some w) None p is = is
wrote_put_keeps keeps (Some w) (Some b) p is = keeps (Some (Wrote w b.bytes b.eof)) p refl is

left_put_keeps : {Q : Past → Type 0} → KeptByNotes Q → (answered : Result (Option NoCacheReason) ErrorType) (stage : Stage) (p : Past) → Q p → Q (past_left answered stage p)
left_put_keeps keeps (Ok a) stage p is = is
left_put_keeps keeps (Err e) stage p is = dropped_keeps keeps (write_in stage) p is

pub put_keeps : {Q : Past → Type 0} → KeptByNotes Q → {C : Type 0} (put : Put C) (d : steps.Done) (answered : Result (Option NoCacheReason) ErrorType) (s : Store) (p : Past) → Q p → Q (put_past put d answered s p)
put_keeps keeps put d answered s p is =
    let stage = stage_begun put.stage d.began s.next (Some s.next) in
    left_put_keeps keeps answered stage (past_wrote (write_in stage) d.wrote (past_begun (slot put.key) d.began s.next p))
    (wrote_put_keeps keeps (write_in stage) d.wrote (past_begun (slot put.key) d.began s.next p) (begun_put_keeps keeps (slot put.key) d.began s.next p is))

pub ends_put_keeps : {Q : Past → Type 0} → KeptByNotes Q → (g : Guarantees) (k : Key) (stage : Stage) (how : PutEnd) (p q : Past) → EndsPutPast g k stage how p q → Q p → Q q
ends_put_keeps {Q} keeps g k InHead how p q ends is = subst Q (sym ends) is
ends_put_keeps {Q} keeps g k (HasDeclined reason) how p q ends is = subst Q (sym ends) is
ends_put_keeps {Q} keeps g k (IsOver kind) how p q ends is = subst Q (sym ends) is
ends_put_keeps keeps g k (InBody w id fresh_until) how p q ends is = ends_keeps keeps g k w (write_end how) p q ends is

-- the meta of a body was set, which leaves it true too
set_keeps : {Q : Past → Type 0} → KeptByNotes Q → (again : Bool) (how : Weighing) (limits : Limits) (x : Meta) (key : Option Key) (a b : Stock) → Q (Some (meta_given x key a).past) → IsSet again how limits x key a b → Q (Some b.past)
set_keeps {Q} keeps false how limits x key a b given set = subst (λ (s : Stock). Q (Some s.past)) (sym set) given
set_keeps keeps true how limits x None a b given set = absurd set
set_keeps keeps true how limits x (Some k) a b given set = taken_all_keeps (entry_past true) (λ l e. keeps (removal_noted true (entry_slot e) (id_of e)) l (no_set_removed true (entry_slot e) (id_of e))) (Some (meta_given x (Some k) a).past) set.0 0 (Some b.past) set.1.past given

-- or memory was refused for that
unset_keeps : {Q : Past → Type 0} → KeptByNotes Q → (again : Bool) (x : Meta) (key : Option Key) (a b : Stock) → Q (Some (meta_given x key a).past) → IsNotSet again x key a b → Q (Some a.past) → Q (Some b.past)
unset_keeps {Q} keeps false x key a b given stays is = subst (λ (s : Stock). Q (Some s.past)) (sym stays) is
unset_keeps keeps true x None a b given never is = absurd never
unset_keeps {Q} keeps true x (Some k) a b given (inl stays) is = subst (λ (s : Stock). Q (Some s.past)) (sym stays) is
unset_keeps {Q} keeps true x (Some k) a b given (inr gone) is = subst (λ (s : Stock). Q (Some s.past)) (sym gone) (keeps (Some (Purged (slot k))) (Some (meta_given x (Some k) a).past) refl given)

pub renews_keeps : {Q : Past → Type 0} → KeptByNotes Q → (how : Weighing) (limits : Limits) (x : Meta) (key : Option Key) (result : Result Bool ErrorType) (a b : Stock) → Q (Some (meta_given x key a).past) → Renews how limits x key result a b → Q (Some a.past) → Q (Some b.past)
renews_keeps keeps how limits x key (Ok there) a b given renews is = set_keeps keeps (reweighs how x key a.store) how limits x key a b given renews.1
renews_keeps keeps how limits x key (Err e) a b given renews is = unset_keeps keeps (reweighs how x key a.store) x key a b given renews.2 is
