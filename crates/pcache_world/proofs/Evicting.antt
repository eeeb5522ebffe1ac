-- How calls change the totals of all that the manager evicted.
use Rattle.pcache_evict.specs.Tracked.{evicted_with}
use Rattle.pcache_put.specs.Steps.{evicted_ended}
use Rattle.pcache_request.specs.Requests.{Request}
use Rattle.pcache_request.specs.WriteEnds.{evicted_after}
use Rattle.pcache_history.specs.declared.call.Act.{Act}
use Rattle.pcache_history.proofs.SettlesLaw.{IsNoEnd, evicts_no_more}
use Rattle.pcache_world.proofs.Words.{◌≡◌, ℕ, true, cond, Option, None, Some, List, [], ◌∷◌, ◌++◌, refl, ap, sym, subst, ◌∙◌, inl, inr, get, insert, ErrorType, WriteRemoved, Key, Tracked, Evicted, Limits, CacheEntryKey, Parsed, Stage, InHead, InBody, HasDeclined, IsOver, write_in, EndsPut, entry_reported, PutEnd, IsFilling, entry_of, finishes_of, FinishReport, WriteEnd, created, in_memory, Store, written_size, RequestAct, Reply, Event, IsOfWorld, IsOfWorldIn, evicted_by, Facts, Ongoing, Replies, each, AddsEvicted, end_noted, refused_end}
use Rattle.pcache_put.specs.declared.report.PutEnd.TheVariants as end
use Rattle.pcache_request.specs.declared.cache.finish.WriteEnd.TheVariants as writes
use Rattle.pcache_history.specs.declared.call.Act.TheVariants as C
use Rattle.pcache_history.specs.declared.call.RequestAct.TheVariants as Q
use Rattle.pcache_history.specs.declared.entry.Event.TheVariants as E
use Rattle.pcache_world.proofs.MovesOf.{fill-on}
use Rattle.pcache_world.proofs.PutFed.{none-some}

-- ---- events that admit nothing, and an end that does

module _ (m : Tracked) (v : Evicted) where
  pub idle-evicts : (now : Evicted) (events : List Event) → events ≡ [] → now ≡ v → now ≡ evicted_by m v events
  idle-evicts now events none same = same ∙ sym (ap (evicted_by m v) none)

  pub stored-evicts : (w n : ℕ) (o : Option ℕ) (e : CacheEntryKey) (out : List CacheEntryKey) (old mid events : List Event) → old ≡ [] → mid ≡ old ++ E.Finish w true ∷ each E.Release o → events ≡ mid ++ E.Admit e n out ∷ [] → evicted_by m v events ≡ evicted_with v (insert m e n) out
  stored-evicts w n o e out old mid events none one is = ap (evicted_by m v) (is ∙ ap (λ es. es ++ E.Admit e n out ∷ []) (one ∙ ap (λ es. es ++ E.Finish w true ∷ each E.Release o) none)) ∙ by o
    where
      by : (o : Option ℕ) → evicted_by m v ((E.Finish w true ∷ each E.Release o) ++ E.Admit e n out ∷ []) ≡ evicted_with v (insert m e n) out
      by None = refl
      by (Some l) = refl

  dropped-evicts : (w : ℕ) (kind : ErrorType) (o : Option ℕ) → evicted_by m v (refused_end w kind ∷ each E.Release o) ≡ v
  dropped-evicts w WriteRemoved None = refl
  dropped-evicts w WriteRemoved (Some l) = refl
  dropped-evicts w kind None = refl
  dropped-evicts w kind (Some l) = refl

  -- ---- the end of a request's write

  module _ (x : Request) (s : Store) (k : Key) (w : ℕ) (o : Option ℕ) (how : WriteEnd) (now : Evicted) (old : List Event) (key : x.key ≡ Some k) (has : x.write ≡ Some w) (none : old ≡ [])
      (after : now ≡ evicted_after x x.key (finishes_of (created s) x.write) m v how) where
    known : (z : WriteEnd) → how ≡ z → now ≡ evicted_after x (Some k) (created s w) m v z
    known z so = after ∙ (λ i. evicted_after x (key i) (finishes_of (created s) (has i)) m v (so i))

    pub finish-stores : (f : FinishReport) (e : CacheEntryKey) (mid events : List Event) → how ≡ writes.Stored f → IsFilling x.phase → IsOfWorld x → e ≡ entry_of k x.entry → f.size ≡ written_size (get s.writes w) → mid ≡ old ++ E.Finish w true ∷ each E.Release o → events ≡ mid ++ E.Admit e f.size f.evicted.items ∷ []
        → now ≡ evicted_by m v events
    finish-stores f e mid events so fills world entry size one is =
        let out = f.evicted.items in
        known (writes.Stored f) so
        ∙ ap (λ b. cond b (evicted_with v (insert m (entry_of k x.entry) (written_size (get s.writes w))) out) v) (world.eviction (fill-on x.phase fills))
        ∙ (λ i. evicted_with v (insert m (sym entry i) (sym size i)) out)
        ∙ sym (stored-evicts w f.size o e out old mid events none one is)

    pub finish-drops : (e kind : ErrorType) (first : Event) (events : List Event) → how ≡ writes.Dropped e → first ≡ refused_end w kind → events ≡ old ++ first ∷ each E.Release o → now ≡ evicted_by m v events
    finish-drops e kind first events so at is =
        known (writes.Dropped e) so ∙ sym (ap (evicted_by m v) (is ∙ (λ i. none i ++ at i ∷ each E.Release o)) ∙ dropped-evicts w kind o)

    pub finish-withdraws : (e : ErrorType) (j : ℕ) (mid events : List Event) → how ≡ writes.Withdrawn e → mid ≡ old ++ E.Finish w true ∷ each E.Release o → events ≡ mid ++ E.Purge j ∷ [] → now ≡ evicted_by m v events
    finish-withdraws e j mid events so one is =
        known (writes.Withdrawn e) so ∙ sym (ap (evicted_by m v) (is ∙ ap (λ es. es ++ E.Purge j ∷ []) (one ∙ ap (λ es. es ++ E.Finish w true ∷ each E.Release o) none)) ∙ by o)
      where
        by : (o : Option ℕ) → evicted_by m v ((E.Finish w true ∷ each E.Release o) ++ E.Purge j ∷ []) ≡ v
        by None = refl
        by (Some l) = refl

  -- ---- the end of a put

  module _ (limits : Limits) (k : Key) (parser : Parsed) (s u : Store) (m' : Tracked) (now : Evicted) where
    by-body : (w : ℕ) (id : Option ℕ) (until j : ℕ) (how : PutEnd) (entry : Option CacheEntryKey) (events : List Event) → EndsPut in_memory k parser (created s) limits (InBody w id until) how s u m m' → entry ≡ entry_reported k (InBody w id until) how
        → now ≡ evicted_ended k (created s) (InBody w id until) m v how → events ≡ end_noted w j how entry → now ≡ evicted_by m v events
    by-body w id until j (end.NotCached reason) entry events ends told after is = after ∙ sym (ap (evicted_by m v) is)
    by-body w id until j (end.Refused e) entry events ends told after is = after ∙ sym (ap (evicted_by m v) is)
    by-body w id until j (end.Dropped e) entry events ends told after is = after ∙ sym (ap (evicted_by m v) is ∙ dropped-evicts w e None)
    by-body w id until j (end.Withdrawn e) entry events ends told after is = after ∙ sym (ap (evicted_by m v) is)
    by-body w id until j (end.Stored f) entry events (inl early) told after is = let never : ◌≡◌ {A = PutEnd} (end.Stored f) (end.Dropped early.0) = early.2 in absurd (cc)
    by-body w id until j (end.Stored f) entry events (inr body) told after is =
        after
        ∙ ap (λ n. evicted_with v (insert m (entry_of k id) n) f.evicted.items) (sym body.size_is)
        ∙ sym (ap (evicted_by m v) (is ∙ ap (λ o. end_noted w j (end.Stored f) o) told))

    pub close-evicts : (stage : Stage) (w j : ℕ) (how : PutEnd) (entry : Option CacheEntryKey) (events : List Event) → write_in stage ≡ Some w → EndsPut in_memory k parser (created s) limits stage how s u m m' → entry ≡ entry_reported k stage how
        → now ≡ evicted_ended k (created s) stage m v how → events ≡ end_noted w j how entry → now ≡ evicted_by m v events
    close-evicts InHead w j how entry events has ends told after is = none-some w (sym has)
    close-evicts (HasDeclined reason) w j how entry events has ends told after is = none-some w (sym has)
    close-evicts (IsOver kind) w j how entry events has ends told after is = none-some w (sym has)
    close-evicts (InBody y id until) w j how entry events has ends told after is =
        let same : ◌≡◌ {A = ℕ} w y = let at : ◌≡◌ {A = Option ℕ} (Some w) (Some y) = sym has in cc in
        by-body y id until j how entry events ends told after (is ∙ ap (λ n. end_noted n j how entry) same)

    pub unwritten-evicts : (stage : Stage) (how : PutEnd) (events : List Event) → write_in stage ≡ None → now ≡ evicted_ended k (created s) stage m v how → events ≡ [] → now ≡ evicted_by m v events
    unwritten-evicts InHead how events none after is = idle-evicts now events is after
    unwritten-evicts (HasDeclined reason) how events none after is = idle-evicts now events is after
    unwritten-evicts (IsOver kind) how events none after is = idle-evicts now events is after
    unwritten-evicts (InBody w id until) how events none after is = none-some w none

  -- ---- every call

  -- a call of a request that does nothing
  pub idle-adds : (act : RequestAct) (q : Option Ongoing) (now : Evicted) (events : List Event) → events ≡ [] → now ≡ v → AddsEvicted (C.Request act) q m v events now
  idle-adds Q.Finish q now events none same = λ world. idle-evicts now events none same
  idle-adds act q now events none same = same

  -- a call that ends no write
  pub others_add : (act named : Act) (q : Option Ongoing) (now : Evicted) (events : List Event) → act ≡ named → IsNoEnd named → now ≡ v → AddsEvicted act q m v events now
  others_add act named q now events is plain same = subst (λ z. AddsEvicted z q m v events now) (sym is) (by named plain)
    where
      by : (named : Act) → IsNoEnd named → AddsEvicted named q m v events now
      by (C.Request Q.Finish) plain = absurd plain
      by C.Close plain = absurd plain
      by act plain = same

  pub added : (f : Facts) (act : Act) (q : Option Ongoing) (reply : Reply) (events : List Event) (now : Evicted) → IsOfWorldIn q → Replies f act q reply events → AddsEvicted act q m v events now → now ≡ evicted_by m v events
  added f (C.Request Q.Finish) q reply events now world replies adds = adds world
  added f C.Close q reply events now world replies adds = adds
  added f act q reply events now world replies adds = adds ∙ sym (evicts_no_more f act q reply events m v tt replies)
