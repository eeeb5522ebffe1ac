-- What the end of a put does, by what its context promises.
use Rattle.pcache_put.specs.Puts.{Says, Outcome as Comes}
use Rattle.pcache_put.specs.State.{entry_in}
use Rattle.pcache_put.specs.Steps.{EndsEarly, TellsResult, stage_ended, write_end}
use Rattle.pcache_request.specs.Requests.{Request}
use Rattle.pcache_request.specs.WriteEnds.{EndsBody, EndsWrite as EndsIn, HoldsNoLock}
use Rattle.pcache_history.specs.Due.{reader_for}
use Rattle.pcache_world.specs.Moved.{Act, Did, RunsActs}
use Rattle.pcache_history.specs.PutHistory.{Tells}
use Rattle.pcache_world.specs.PutSteps.{IsUnwritten, IsWritten, end_reply}
use Rattle.pcache_history.specs.Rules.{ClosesAt, EndsFilling}
use Rattle.pcache_history.specs.Taking.{filling}
use Rattle.pcache_world.proofs.Words.{in_memory, ◌≡◌, ℕ, ◌⊎◌, length, true, false, is_some, Option, None, Some, List, [], ◌∷◌, ◌++◌, refl, ap, sym, subst, ◌∙◌, inl, inr, slot, ErrorType, OutOfMemory, IncompleteHttpBody, Tracked, Limits, CacheEntryKey, Locks, no_locks, Counted, Piece, IsResult, Stage, InHead, InBody, HasDeclined, IsOver, Filled, TakenBy, limit_of, write_in, EndsPut, entry_reported, PutEnd, after_finish, dropped_by, entry_of, WriteEnd, FinishReport, created, MayFailFinish, Store, dropped, Reply, Event, IsOfWorld, Owed, slot_of, Facts, facts_in, Ongoing, ongoing_put, Joins, Leaves, At, IsNextAt, IsSame, Moves, after_event, after_join, after_leave, at_call, end_noted, Closes, refused_end, Taking, AreOfNoLock}
use Rattle.pcache_base.specs.declared.error.ErrorType.TheVariants as error
use Rattle.pcache_put.specs.declared.report.PutEnd.TheVariants as end
use Rattle.pcache_request.specs.declared.cache.finish.WriteEnd.TheVariants as writes
use Rattle.pcache_history.specs.declared.call.Reply.TheVariants as R
use Rattle.pcache_history.specs.declared.entry.Event.TheVariants as E
use Rattle.pcache_world.proofs.LockSteps.{quiet-refused}
use Rattle.pcache_world.proofs.Oldest.{dropped_ends}
use Rattle.pcache_world.proofs.MovesOf.{does, finish-dropped, finish-stored, finish-withdrawn, stop, with_pair}
use Rattle.pcache_world.proofs.PutFed.{none-some, not-failed}

-- ---- the same moves of two that have the key and the reader in common

next-like : (limits : Limits) (owed : Option Owed) (a : At) (q r : Option Ongoing) (e : Event) → slot_of r ≡ slot_of q → reader_for r ≡ reader_for q → IsNextAt limits owed a q e → IsNextAt limits owed a r e
next-like limits None a q r (E.Begin w k m) slots readers d = (d.0, d.1, slots ∙ d.2)
next-like limits None a q r (E.Finish w true) slots readers d = d
next-like limits None a q r (E.Finish w false) slots readers d = d
next-like limits None a q r (E.Read x) slots readers d = (d.0, readers ∙ d.1, d.2, d.3)
next-like limits None a q r e slots readers d = d
next-like limits (Some n) a q r (E.Admit e w out) slots readers d = let own = d.1 in (d.0, (own.0, slots ∙ own.1, own.2), d.2, d.3)
next-like limits (Some n) a q r (E.Purge k) slots readers d = slots ∙ d
next-like limits (Some n) a q r (E.Release l) slots readers d = d
next-like limits (Some n) a q r e slots readers d = absurd d

acts-like : (limits : Limits) (q r : Option Ongoing) (acts : List Act) (a b c : At) → slot_of r ≡ slot_of q → reader_for r ≡ reader_for q → RunsActs limits q acts a b → IsSame b c → RunsActs limits r acts a c
acts-like limits q r [] a b c slots readers same on = record {
  count = λ w. on.count w ∙ same.count w;
  write = on.write ∙ same.write;
  owed = on.owed ∙ same.owed;
  store = on.store ∙ same.store;
  tracked = on.tracked ∙ same.tracked;
}
acts-like limits q r (Did e ∷ acts) a b c slots readers did on = (next-like limits a.owed a q r e slots readers did.0, acts-like limits q r acts (after_event e a) b c slots readers did.1 on)
acts-like limits q r (Joins p ∷ acts) a b c slots readers did on = (did.0, acts-like limits q r acts (after_join p a) b c slots readers did.1 on)
acts-like limits q r (Leaves o ∷ acts) a b c slots readers did on = (did.0, did.1, acts-like limits q r acts (after_leave did.0 o a) b c slots readers did.2 on)

-- ---- the end of a put's write, as that of a request

module _ (p : Taking) (s u : Store) (limits : Limits) (m m' : Tracked) (w : ℕ) (id : Option ℕ) (until : ℕ) (stands-so : p.stage ≡ InBody w id until) (own : id ≡ Some w) where
  abbrev pub x : Request
  x = filling p.key (Some w) id

  abbrev y : Request
  y = after_finish x

  abbrev nowhere : Locks
  nowhere = no_locks 0

  lets : (how : WriteEnd) → EndsBody in_memory true id HoldsNoLock p.key w (created s w) limits how s u m m' → EndsIn in_memory x p.key w (created s w) limits how s u m m' nowhere nowhere
  lets writes.Nothing h = h
  lets (writes.Stored f) h = record { untouched = h.untouched; newest = h.newest; size_is = h.size_is; admitted = h.admitted; purges = h.purges; sure = h.sure; released = refl }
  lets (writes.Dropped e) h = record { why = h.why; dropped = h.dropped; tracked = h.tracked; released = refl }
  lets (writes.Withdrawn e) h = record { why = h.why; untouched = h.untouched; newest = h.newest; purged = h.purged; tracked = h.tracked; released = refl }

  -- of a put in place of the request
  of-put : (events : List Event) → Moves limits (Some (with_pair None None x)) s m events (Some (with_pair None None y)) u m' → Moves limits (Some (ongoing_put p)) s m events None u m'
  of-put events moves =
      subst (λ (z : Taking). Moves limits (Some (ongoing_put z)) s m events None u m') as-it-is
      (moves.0, moves.1, acts-like limits (Some (with_pair None None x)) (Some (ongoing_put standing)) moves.0 (at_call (Some (ongoing_put standing)) s m) (at_call (Some (with_pair None None y)) u m') (at_call None u m') refl refl moves.2 (record { count = λ v. refl; write = refl; owed = refl; store = refl; tracked = refl }))
    where
      standing : Taking
      standing = record { key = p.key; size = p.size; parser = p.parser; stage = InBody w id until }

      as-it-is : standing ≡ p
      as-it-is = λ i. record { key = p.key; size = p.size; parser = p.parser; stage = sym stands-so i }

  -- the entry of a stored body has the number of its write
  noted-entry : (f : FinishReport) (entry : Option CacheEntryKey) → entry ≡ Some (entry_of p.key id) → end_noted w (slot p.key) (end.Stored f) entry ≡ E.Finish w true ∷ E.Admit (entry_of p.key (Some w)) f.size f.evicted.items ∷ []
  noted-entry f entry is =
      ap (λ o. end_noted w (slot p.key) (end.Stored f) o) is ∙ ap (λ n. E.Finish w true ∷ E.Admit (entry_of p.key n) f.size f.evicted.items ∷ []) own

  body-moves : (how : PutEnd) (entry : Option CacheEntryKey) (events : List Event) → IsOfWorld x → entry ≡ entry_reported p.key (InBody w id until) how → EndsBody in_memory true id HoldsNoLock p.key w (created s w) limits (write_end how) s u m m' → events ≡ end_noted w (slot p.key) how entry
      → Moves limits (Some (ongoing_put p)) s m events None u m'
  body-moves (end.NotCached reason) entry events world told h is = absurd h
  body-moves (end.Refused e) entry events world told h is = absurd h
  body-moves (end.Stored f) entry events world told h is =
      of-put events (finish-stored None x y None s u p.key w limits m m' nowhere nowhere None [] refl refl refl refl
      (writes.Stored f) f (entry_of p.key id) (E.Finish w true ∷ []) events refl world own refl (lets (writes.Stored f) h) refl (is ∙ ap (λ o. end_noted w (slot p.key) (end.Stored f) o) told))
  body-moves (end.Withdrawn e) entry events world told h is =
      of-put events (finish-withdrawn None x y None s u p.key w limits m m' nowhere nowhere None [] refl refl refl refl
      (writes.Withdrawn e) e (slot p.key) (E.Finish w true ∷ []) events refl refl (lets (writes.Withdrawn e) h) refl is)
  body-moves (end.Dropped e) entry events world told h is =
      of-put events (finish-dropped None x y None s u p.key w limits m m' nowhere nowhere None [] refl refl refl refl
      (writes.Dropped e) e e (refused_end w e) events refl refl refl (lets (writes.Dropped e) h) is)

  -- the response ended too early
  early-moves : (events : List Event) → events ≡ E.Dropped w ∷ [] → u ≡ dropped s w → m' ≡ m → Moves limits (Some (ongoing_put p)) s m events None u m'
  early-moves events is to same =
      subst (λ es. Moves limits (Some (ongoing_put p)) s m es None u m') (sym is)
      (does limits (Some (ongoing_put p)) (E.Dropped w) [] (at_call (Some (ongoing_put p)) s m) (at_call None u m') (ap write_in stands-so)
      (stop limits (Some (ongoing_put p)) (after_event (E.Dropped w) (at_call (Some (ongoing_put p)) s m)) (at_call None u m') (record { count = λ v. refl; write = refl; owed = refl; store = to; tracked = same })))

  -- the reply
  abbrev pub facts : Locks → Facts
  facts t = facts_in s t x

  body-answers : (t : Locks) → s.newest ≡ false → (how : PutEnd) (entry : Option CacheEntryKey) (events : List Event) → entry ≡ entry_reported p.key (InBody w id until) how → EndsBody in_memory true id HoldsNoLock p.key w (created s w) limits (write_end how) s u m m' → events ≡ end_noted w (slot p.key) how entry
      → EndsFilling (facts t) x p.key w (end_reply how) events
  body-answers t oldest (end.NotCached reason) entry events told h is = absurd h
  body-answers t oldest (end.Refused e) entry events told h is = absurd h
  body-answers t oldest (end.Stored f) entry events told h is =
      inl (f.evicted.items, h.untouched, is ∙ noted-entry f entry told ∙ ap (λ n. E.Finish w true ∷ E.Admit (entry_of p.key (Some w)) n f.evicted.items ∷ []) h.size_is, ap (λ n. R.Stored n (length f.evicted.items)) h.size_is)
  body-answers t oldest (end.Withdrawn e) entry events told h is = inr (inl (h.untouched, is, ap R.Refused h.why))
  body-answers t oldest (end.Dropped e) entry events told h is = dropped_ends (facts t) x p.key s w e events refl oldest h.why is

-- ---- by the stage of the put

module _ (p : Taking) (s u : Store) (limits : Limits) (m m' : Tracked) (how : PutEnd) (entry : Option CacheEntryKey) (told : entry ≡ entry_reported p.key p.stage how) (ends : EndsPut in_memory p.key p.parser (created s) limits p.stage how s u m m') where
  abbrev EndsAt : Stage → Type 0
  EndsAt stage = EndsPut in_memory p.key p.parser (created s) limits stage how s u m m'

  -- a put that made no write
  unwritten-is : (stage : Stage) → EndsAt stage → write_in stage ≡ None → IsUnwritten how
  unwritten-is InHead h none = subst IsUnwritten (sym h.0) tt
  unwritten-is (InBody w id until) h none = none-some w none
  unwritten-is (HasDeclined reason) h none = subst IsUnwritten (sym h.0) tt
  unwritten-is (IsOver kind) h none = subst IsUnwritten (sym h.0) tt

  pub unwritten : write_in p.stage ≡ None → IsUnwritten how
  unwritten none = unwritten-is p.stage ends none

  unwritten-still : (stage : Stage) → EndsAt stage → write_in stage ≡ None → (u ≡ s) × (m' ≡ m)
  unwritten-still InHead h none = h.1
  unwritten-still (InBody w id until) h none = none-some w none
  unwritten-still (HasDeclined reason) h none = h.1
  unwritten-still (IsOver kind) h none = h.1

  pub unwritten-moves : (events : List Event) → events ≡ [] → write_in p.stage ≡ None → Moves limits (Some (ongoing_put p)) s m events None u m'
  unwritten-moves events none at =
      let still = unwritten-still p.stage ends at in
      subst (λ es. Moves limits (Some (ongoing_put p)) s m es None u m') (sym none)
      (stop limits (Some (ongoing_put p)) (at_call (Some (ongoing_put p)) s m) (at_call None u m') (record { count = λ v. refl; write = sym at; owed = refl; store = still.0; tracked = still.1 }))

  unwritten-at : (f : Facts) (stage : Stage) (events : List Event) → EndsAt stage → events ≡ [] → write_in stage ≡ None → ClosesAt f p.key stage (end_reply how) events
  unwritten-at f InHead events h none at = (ap end_reply h.0, none)
  unwritten-at f (InBody w id until) events h none at = none-some w at
  unwritten-at f (HasDeclined reason) events h none at = (ap end_reply h.0, none)
  unwritten-at f (IsOver kind) events h none at = (ap end_reply h.0, none)

  pub unwritten-answers : (f : Facts) (events : List Event) → events ≡ [] → write_in p.stage ≡ None → Closes f (Some p) (end_reply how) events
  unwritten-answers f events none at = unwritten-at f p.stage events ends none at

  -- one that made a write
  written-as : (w : ℕ) (id : Option ℕ) (until : ℕ) → entry ≡ entry_reported p.key (InBody w id until) how → EndsAt (InBody w id until) → IsWritten how entry
  written-as w id until own (inl (e, why, is, to, same)) = subst (λ z. IsWritten z entry) (sym is) tt
  written-as w id until own (inr h) = by how own h
    where
      by : (how : PutEnd) → entry ≡ entry_reported p.key (InBody w id until) how → EndsBody in_memory true id HoldsNoLock p.key w (created s w) limits (write_end how) s u m m' → IsWritten how entry
      by (end.NotCached reason) own h = absurd h
      by (end.Refused e) own h = absurd h
      by (end.Stored f) own h = ap is_some own
      by (end.Dropped e) own h = tt
      by (end.Withdrawn e) own h = tt

  pub written : (w : ℕ) → write_in p.stage ≡ Some w → IsWritten how entry
  written w has = by p.stage told ends has
    where
      by : (stage : Stage) → entry ≡ entry_reported p.key stage how → EndsAt stage → write_in stage ≡ Some w → IsWritten how entry
      by InHead own h has = absurd (cc)
      by (InBody v id until) own h has = written-as v id until own h
      by (HasDeclined reason) own h has = absurd (cc)
      by (IsOver kind) own h has = absurd (cc)

  -- its parser has not failed, since it has taken in some pieces
  module _ (says : Says) (size : Option Counted) (pieces : List Piece) (f : Option Filled) (taken : TakenBy says size p.parser p.stage pieces f) where
    early-is : (w : ℕ) (id : Option ℕ) (until : ℕ) (entry : Option CacheEntryKey) (events : List Event) → TakenBy says size p.parser (InBody w id until) pieces f → EndsEarly p.parser w how s u m m' → events ≡ end_noted w (slot p.key) how entry
        → (events ≡ E.Dropped w ∷ []) × (end_reply how ≡ R.Refused IncompleteHttpBody) × (u ≡ dropped s w) × (m' ≡ m)
    early-is w id until entry events got (e, why, is, to, same) noted =
        let early : e ≡ IncompleteHttpBody = elim why [ inl h ↦ h | inr failed ↦ absurd (not-failed s (no_locks 0) says size p.parser (InBody w id until) pieces f e got (λ z h. absurd (cc)) (λ z h. absurd (cc)) failed) ] in
        (noted ∙ ap (λ z. end_noted w (slot p.key) z entry) (is ∙ ap end.Dropped early), ap end_reply (is ∙ ap end.Dropped early), to, same)

    pub written-moves : (w : ℕ) (events : List Event) → IsOfWorld (ongoing_put p).request → write_in p.stage ≡ Some w → entry_in p.stage ≡ Some w → events ≡ end_noted w (slot p.key) how entry → Moves limits (Some (ongoing_put p)) s m events None u m'
    written-moves w events world has mine noted = by p.stage refl
      where
        by : (stage : Stage) → p.stage ≡ stage → Moves limits (Some (ongoing_put p)) s m events None u m'
        by InHead is = absurd (let no : ◌≡◌ {A = Option ℕ} None (Some w) = ap write_in (sym is) ∙ has in cc)
        by (HasDeclined reason) is = absurd (let no : ◌≡◌ {A = Option ℕ} None (Some w) = ap write_in (sym is) ∙ has in cc)
        by (IsOver kind) is = absurd (let no : ◌≡◌ {A = Option ℕ} None (Some w) = ap write_in (sym is) ∙ has in cc)
        by (InBody v id until) is =
            let whole : ◌≡◌ {A = Option ℕ} (Some v) (Some w) = ap write_in (sym is) ∙ has in
            let same : w ≡ v = cc in
            let events-are = noted ∙ ap (λ n. end_noted n (slot p.key) how entry) same in
            elim (subst EndsAt is ends) [
              | inl h ↦ let e = early-is v id until entry events (subst (λ (z : Stage). TakenBy says size p.parser z pieces f) is taken) h events-are in early-moves p s u limits m m' v id until is (ap entry_in (sym is) ∙ mine ∙ ap Some same) events e.0 e.2 e.3
              | inr h ↦ body-moves p s u limits m m' v id until is (ap entry_in (sym is) ∙ mine ∙ ap Some same) how entry events (subst (λ (z : Stage). IsOfWorld (filling p.key (write_in z) (entry_in z))) is world) (told ∙ ap (λ (z : Stage). entry_reported p.key z how) is) h events-are
            ]

    pub written-answers : (t : Locks) (w : ℕ) (events : List Event) → s.newest ≡ false → write_in p.stage ≡ Some w → entry_in p.stage ≡ Some w → events ≡ end_noted w (slot p.key) how entry → Closes (facts_in s t (ongoing_put p).request) (Some p) (end_reply how) events
    written-answers t w events oldest has mine noted = by p.stage refl
      where
        by : (stage : Stage) → p.stage ≡ stage → Closes (facts_in s t (ongoing_put p).request) (Some p) (end_reply how) events
        by InHead is = absurd (let no : ◌≡◌ {A = Option ℕ} None (Some w) = ap write_in (sym is) ∙ has in cc)
        by (HasDeclined reason) is = absurd (let no : ◌≡◌ {A = Option ℕ} None (Some w) = ap write_in (sym is) ∙ has in cc)
        by (IsOver kind) is = absurd (let no : ◌≡◌ {A = Option ℕ} None (Some w) = ap write_in (sym is) ∙ has in cc)
        by (InBody v id until) is =
            let whole : ◌≡◌ {A = Option ℕ} (Some v) (Some w) = ap write_in (sym is) ∙ has in
            let same : w ≡ v = cc in
            let events-are = noted ∙ ap (λ n. end_noted n (slot p.key) how entry) same in
            subst (λ (z : Stage). ClosesAt (facts_in s t (filling p.key (write_in z) (entry_in z))) p.key z (end_reply how) events) (sym is) (elim (subst EndsAt is ends) [
              | inl h ↦ let e = early-is v id until entry events (subst (λ (z : Stage). TakenBy says size p.parser z pieces f) is taken) h events-are in inl (e.0, e.1)
              | inr h ↦ inr (body-answers p s u limits m m' v id until is (ap entry_in (sym is) ∙ mine ∙ ap Some same) t oldest how entry events (told ∙ ap (λ (z : Stage). entry_reported p.key z how) is) h events-are)
            ])

  -- only a lack of memory has a body withdrawn
  withdrawn-why : (stage : Stage) → EndsAt stage → (e : ErrorType) → how ≡ end.Withdrawn e → e ≡ OutOfMemory
  withdrawn-why InHead h e is = let no : ◌≡◌ {A = PutEnd} (end.Refused IncompleteHttpBody) (end.Withdrawn e) = sym h.0 ∙ is in absurd (cc)
  withdrawn-why (HasDeclined reason) h e is = let no : ◌≡◌ {A = PutEnd} (end.NotCached reason) (end.Withdrawn e) = sym h.0 ∙ is in absurd (cc)
  withdrawn-why (IsOver kind) h e is = let no : ◌≡◌ {A = PutEnd} (end.Refused kind) (end.Withdrawn e) = sym h.0 ∙ is in absurd (cc)
  withdrawn-why (InBody w id until) (inl (d, why, so, to, same)) e is = let no : ◌≡◌ {A = PutEnd} (end.Dropped d) (end.Withdrawn e) = sym so ∙ is in absurd (cc)
  withdrawn-why (InBody w id until) (inr h) e is = (subst (λ z. EndsBody in_memory true id HoldsNoLock p.key w (created s w) limits (write_end z) s u m m') is h).why

  tells-as : (comes : Comes → Type 0) (f : Option Filled) (z : PutEnd) → ((e : ErrorType) → z ≡ end.Withdrawn e → e ≡ OutOfMemory) → TellsResult comes f z → Tells comes f (end_reply z)
  tells-as comes f (end.NotCached reason) why tells = tells
  tells-as comes f (end.Refused e) why tells = tells
  tells-as comes f (end.Dropped e) why tells = tells
  tells-as comes f (end.Stored r) why tells = tells
  tells-as comes f (end.Withdrawn e) why tells = subst (λ z. Tells comes f (R.Refused z)) (sym (why e refl)) tt

  pub tells-end : (comes : Comes → Type 0) (f : Option Filled) → TellsResult comes f how → Tells comes f (end_reply how)
  tells-end comes f tells = tells-as comes f how (withdrawn-why p.stage ends) tells

-- the store once the put itself ended: no write was left
ended-still : (how : PutEnd) (stage : Stage) (s u : Store) → stage ≡ stage_ended how → u ≡ dropped_by (write_in stage) s → u ≡ s
ended-still how stage s u is to = to ∙ ap (λ z. dropped_by (write_in z) s) is ∙ by how
  where
    by : (how : PutEnd) → dropped_by (write_in (stage_ended how)) s ≡ s
    by (end.NotCached reason) = refl
    by (end.Refused e) = refl
    by (end.Dropped e) = refl
    by (end.Stored f) = refl
    by (end.Withdrawn e) = refl

module _ (p : Taking) (s u : Store) (limits : Limits) (m m' : Tracked) (how : PutEnd) (entry : Option CacheEntryKey) (told : entry ≡ entry_reported p.key p.stage how) (ends : EndsPut in_memory p.key p.parser (created s) limits p.stage how s u m m') where
  pub written-answers-as : (says : Says) (pieces : List Piece) (f : Option Filled) (taken : TakenBy says p.size p.parser p.stage pieces f) (t : Locks) (w j : ℕ) (reply : Reply) (events : List Event) → s.newest ≡ false → write_in p.stage ≡ Some w → entry_in p.stage ≡ Some w → j ≡ slot p.key → reply ≡ end_reply how → events ≡ end_noted w j how entry → Closes (facts_in s t (ongoing_put p).request) (Some p) reply events
  written-answers-as says pieces f taken t w j reply events oldest has mine at is noted =
      subst (λ z. Closes (facts_in s t (ongoing_put p).request) (Some p) z events) (sym is) (written-answers p s u limits m m' how entry told ends says p.size pieces f taken t w events oldest has mine (noted ∙ ap (λ k. end_noted w k how entry) at))

  pub written-moves-as : (says : Says) (pieces : List Piece) (f : Option Filled) (taken : TakenBy says p.size p.parser p.stage pieces f) (v : Store) (stage : Stage) (w j : ℕ) (events : List Event) → IsOfWorld (ongoing_put p).request → write_in p.stage ≡ Some w → entry_in p.stage ≡ Some w → j ≡ slot p.key → events ≡ end_noted w j how entry → stage ≡ stage_ended how → v ≡ dropped_by (write_in stage) u
      → Moves limits (Some (ongoing_put p)) s m events None v m'
  written-moves-as says pieces f taken v stage w j events world has mine at noted stands to =
      subst (λ (z : Store). Moves limits (Some (ongoing_put p)) s m events None z m') (sym (ended-still how stage u v stands to)) (written-moves p s u limits m m' how entry told ends says p.size pieces f taken w events world has mine (noted ∙ ap (λ k. end_noted w k how entry) at))

  pub unwritten-answers-as : (f : Facts) (reply : Reply) (events : List Event) → events ≡ [] → write_in p.stage ≡ None → reply ≡ end_reply how → Closes f (Some p) reply events
  unwritten-answers-as f reply events none at is = subst (λ z. Closes f (Some p) z events) (sym is) (unwritten-answers p s u limits m m' how entry told ends f events none at)

  pub unwritten-moves-as : (v : Store) (stage : Stage) (events : List Event) → events ≡ [] → write_in p.stage ≡ None → stage ≡ stage_ended how → v ≡ dropped_by (write_in stage) u → Moves limits (Some (ongoing_put p)) s m events None v m'
  unwritten-moves-as v stage events none at stands to =
      subst (λ (z : Store). Moves limits (Some (ongoing_put p)) s m events None z m') (sym (ended-still how stage u v stands to)) (unwritten-moves p s u limits m m' how entry told ends events none at)

  pub tells-as-answered : (says : Says) (pieces : List Piece) (f : Option Filled) (reply : Reply) → reply ≡ end_reply how → TellsResult (IsResult says (limit_of p.size) pieces) f how → Tells (IsResult says (limit_of p.size) pieces) f reply
  tells-as-answered says pieces f reply is tells = subst (Tells (IsResult says (limit_of p.size) pieces) f) (sym is) (tells-end p s u limits m m' how entry told ends (IsResult says (limit_of p.size) pieces) f tells)

-- ---- no lock is spoken of

pub quiet-end : (w k : ℕ) (how : PutEnd) (entry : Option CacheEntryKey) (events : List Event) → events ≡ end_noted w k how entry → AreOfNoLock events
quiet-end w k how entry events is = subst AreOfNoLock (sym is) (by how entry)
  where
    by : (how : PutEnd) (entry : Option CacheEntryKey) → AreOfNoLock (end_noted w k how entry)
    by (end.NotCached reason) entry = tt
    by (end.Refused e) entry = tt
    by (end.Dropped e) entry = (quiet-refused w e, tt)
    by (end.Stored f) None = (tt, tt)
    by (end.Stored f) (Some e) = (tt, (tt, tt))
    by (end.Withdrawn e) entry = (tt, (tt, tt))

-- ---- a put that is dropped

pub drop-moves : (x : Ongoing) (p : Taking) (s u : Store) (w : ℕ) (old events : List Event) → ongoing_put p ≡ x → write_in p.stage ≡ Some w → old ≡ [] → events ≡ old ++ E.Dropped w ∷ [] → u ≡ dropped_by (write_in p.stage) s → (limits : Limits) (m : Tracked) → Moves limits (Some x) s m events None u m
drop-moves x p s u w old events held has none is to limits m =
    subst (λ (y : Ongoing). Moves limits (Some y) s m events None u m) held
    (subst (λ es. Moves limits (Some (ongoing_put p)) s m es None u m) (sym (is ∙ ap (λ es. es ++ E.Dropped w ∷ []) none))
    (does limits (Some (ongoing_put p)) (E.Dropped w) [] (at_call (Some (ongoing_put p)) s m) (at_call None u m) has
    (stop limits (Some (ongoing_put p)) (after_event (E.Dropped w) (at_call (Some (ongoing_put p)) s m)) (at_call None u m) (record { count = λ v. refl; write = refl; owed = refl; store = to ∙ ap (λ o. dropped_by o s) has; tracked = refl }))))
