-- In a legal history the finish of a body that is stored comes first in its entry, and the rest of the entry settles the body.
use Rattle.std.specs.Option.{option_map}
use Rattle.std.proofs.lemmas.List.Folds.{list_any-append}
use Rattle.pcache_evict.specs.Tracked.{Evicted}
use Rattle.pcache_put.specs.State.{Stage, InHead, InBody, HasDeclined, IsOver, write_in}
use Rattle.pcache_put.specs.Steps.{stage_begun}
use Rattle.pcache_put.specs.declared.report.Written.{Written}
use Rattle.pcache_request.specs.Requests.{counts_found}
use Rattle.pcache_request.specs.Variants.{leaves_variant}
use Rattle.pcache_store.specs.Store.{Reader}
use Rattle.pcache_history.specs.Events.{evicted_by, track}
use Rattle.pcache_history.specs.Rules.{AsksIf, Closes, ClosesAt, Does, EndsFilling, Feeds, FeedsAt, Finishes, IsDone, Takes, TakesPiece, accesses, began_noted, each, given_up, let_go_of, permit_of, piece_noted, renew_of, wrote_noted, number_read}
use Rattle.pcache_history.specs.Settling.{Settles, SettlesAtOnce, SettlesWrite, SettlesAlways}
use Rattle.pcache_history.specs.Taking.{filling}
use Rattle.pcache_history.proofs.Words.{◌≡◌, ℕ, Bool, true, false, if◌then◌else◌, ◌||◌, Option, None, Some, IfSome, List, [], ◌∷◌, ◌++◌, length, refl, ap, sym, subst, ◌∙◌, inl, inr, list_any, Key, slot, OutOfMemory, Tracked, Limits, Permit, Locked, Meta, is_deferral, Request, entry_of, is_unseen, HitStatus, Act, LockKind, Reply, Answer, Entry, Event, makes_of, slot_of, begin_of, body_of, Facts, request_in, Ongoing, carrying, decides, ongoing_put, pair_of, request_of, events_of, IsLegal, Log, HasLegal, FollowsRule, HandsOn, IsCopy, IsIdle, LooksOn, Misses, Replies, drop_of, release_of, Taking}
use Rattle.pcache_history.specs.declared.call.Act.TheVariants as C
use Rattle.pcache_history.specs.declared.call.RequestAct.TheVariants as Q
use Rattle.pcache_history.specs.declared.call.Reply.TheVariants as R
use Rattle.pcache_history.specs.declared.entry.Event.TheVariants as E
use Rattle.pcache_history.proofs.Exact.{entry_names}
use Rattle.pcache_history.proofs.AnswersLaw.{legal-part}
use Rattle.pcache_history.proofs.PutShape.{IsShaped, legal_shaped}
use Rattle.pcache_history.proofs.WriteLaws.{legal_kept}

-- Events none of which stores a body or admits an entry.

abbrev ends_one : Event → Bool
ends_one (E.Finish w true) = true
ends_one (E.Admit e n out) = true
ends_one e = false

abbrev EndsNone : List Event → Type 0
EndsNone events = list_any ends_one events ≡ false

none-both : (xs ys : List Event) → EndsNone xs → EndsNone ys → EndsNone (xs ++ ys)
none-both xs ys x y = list_any-append ends_one xs ys ∙ (λ i. x i || y i)

none-each : (f : ℕ → Event) → ((n : ℕ) → ends_one (f n) ≡ false) → (o : Option ℕ) → EndsNone (each f o)
none-each f plain None = refl
none-each f plain (Some n) = ap (λ b. b || false) (plain n)

none-release : (held : Option Locked) → EndsNone (release_of held)
none-release held = none-each E.Release (λ n. refl) (permit_of held)

none-let_go : (held : Option Locked) → EndsNone (let_go_of held)
none-let_go held = none-each E.LetGo (λ n. refl) (permit_of held)

none-drop : (w : Option ℕ) → EndsNone (drop_of w)
none-drop w = none-each E.Dropped (λ n. refl) w

none-if : (b : Bool) (xs : List Event) → EndsNone xs → EndsNone (if b then xs else [])
none-if true xs x = x
none-if false xs x = refl

none-idle : (answer reply : Reply) (events : List Event) → IsIdle answer reply events → EndsNone events
none-idle answer reply events idle = subst EndsNone (sym idle.1) refl

none-done : (reply : Reply) (events : List Event) → IsDone reply events → EndsNone events
none-done reply events (inl idle) = none-idle _ reply events idle
none-done reply events (inr idle) = none-idle _ reply events idle

none-asks : (b : Bool) (k : ℕ) (held : Option Locked) (events : List Event) (l : Option LockKind) → AsksIf b k held events l → EndsNone events
none-asks true k held events l asks = subst EndsNone (sym asks.2) (none-let_go held)
none-asks false k held events l asks = subst EndsNone (sym asks.0) refl

none-misses : (f : Facts) (k : ℕ) (a : Answer) (x : Request) (reply : Reply) (events : List Event) → Misses f k a x reply events → EndsNone events
none-misses f k a x reply events (inl (e, used, why, is, told)) = subst EndsNone (sym is) refl
none-misses f k a x reply events (inr (more, l, asks, is, told)) = subst EndsNone (sym is) (none-asks x.uses.lock k x.held more l asks)

none-hands : (b : Bool) (f : Facts) (k : ℕ) (a : Answer) (x : Request) (reply : Reply) (events : List Event) → HandsOn b f k a x reply events → EndsNone events
none-hands true f k a x reply events on = none-misses f k a x reply events on
none-hands false f k a x reply events on = subst EndsNone (sym on.0) refl

none-looks : (b : Bool) (f : Facts) (k : ℕ) (a : Answer) (x : Request) (reply : Reply) (events : List Event) → LooksOn b f k a x reply events → EndsNone events
none-looks true f k a x reply events on = subst EndsNone (sym on.0) (none-both (release_of x.held) (drop_of x.write) (none-release x.held) (none-drop x.write))
none-looks false f k a x reply events on = none-hands (is_unseen x.valid_after (pair_of a)) f k a x reply events on

none-accesses : (s : HitStatus) (k : Key) (h : Reader) (x : Request) → EndsNone (accesses s k h x)
none-accesses s k h x = none-if (counts_found s h x) _ refl

none-given : (p : Option Permit) (taker : Option Ongoing) → EndsNone (given_up p taker)
none-given None taker = refl
none-given (Some p) None = refl
none-given (Some p) (Some y) = none-let_go _

none-piece : (k : ℕ) (w : Option ℕ) (m : Option Meta) (b : Option Written) → EndsNone (piece_noted k w m b)
none-piece k w m b = none-both (began_noted k w m) (wrote_noted w b) (began w m) (wrote w b)
  where
    began : (w : Option ℕ) (m : Option Meta) → EndsNone (began_noted k w m)
    began None m = refl
    began (Some w) None = refl
    began (Some w) (Some m) = refl

    wrote : (w : Option ℕ) (b : Option Written) → EndsNone (wrote_noted w b)
    wrote None b = refl
    wrote (Some w) None = refl
    wrote (Some w) (Some b) = refl

none-takes : (f : Facts) (k : ℕ) (stage : Stage) (w : Option ℕ) (m : Option Meta) (b : Option Written) (reply : Reply) (events : List Event) → TakesPiece f k stage w m b reply events → EndsNone events
none-takes f k stage w m b reply events (inl (told, is)) = subst EndsNone (sym is) (none-piece k w m b)
none-takes f k stage w m b reply events (inr (inl (reason, none, idle))) = none-idle _ reply events idle
none-takes f k stage w m b reply events (inr (inr (e, why, begun, told, is))) = subst EndsNone (sym is) (none-both (piece_noted k w m None) (drop_of w) (none-piece k w m None) (none-drop w))

none-feeds : (f : Facts) (k : ℕ) (stage : Stage) (reply : Reply) (events : List Event) → FeedsAt f k stage reply events → EndsNone events
none-feeds f k InHead reply events (m, b, takes) = none-takes f k InHead (write_in (stage_begun InHead m f.next (Some f.next))) m b reply events takes
none-feeds f k (InBody w id until) reply events (b, takes) = none-takes f k (InBody w id until) (Some w) None b reply events takes
none-feeds f k (HasDeclined reason) reply events idle = none-idle _ reply events idle
none-feeds f k (IsOver kind) reply events idle = none-idle _ reply events idle

-- Only the end of a write may store a body, and admit its entry.

abbrev pub IsNoEnd : Act → Type 0
IsNoEnd (C.Request Q.Finish) = ⊥
IsNoEnd C.Close = ⊥
IsNoEnd act = Unit {0}

none-does : (f : Facts) (act : Act) (q : Option Ongoing) (reply : Reply) (events : List Event) → IsNoEnd act → Does f act q reply events → EndsNone events
none-does f (C.Files a) q reply events plain d = subst EndsNone (sym d.1) refl
none-does f (C.Open options) q reply events plain d = none-done reply events d
none-does f (C.Put k limit) q reply events plain d = none-done reply events d
none-does f act None reply events plain d = absurd d
none-does f (C.Request (Q.Enable options)) (Some x) reply events plain d = none-idle _ reply events d
none-does f (C.Request (Q.Disable why)) (Some x) reply events plain d = subst EndsNone (sym d.1) (none-both (release_of x.request.held) (drop_of x.request.write) (none-release x.request.held) (none-drop x.request.write))
none-does f (C.Request (Q.Key k)) (Some x) reply events plain d = none-done reply events d
none-does f (C.Request (Q.Look t c)) (Some x) reply events plain (inl (some, idle)) = none-idle _ reply events idle
none-does f (C.Request (Q.Look t c)) (Some x) reply events plain (inr (k, a, key, found, on)) = none-looks (is_deferral (decides a (carrying c x))) f (slot k) a (carrying c x).request reply events on
none-does f (C.Request (Q.Vary v)) (Some x) reply events plain d = none-idle _ reply events d
none-does f (C.Request (Q.Found s t)) (Some x) reply events plain d = takes x.pair d
  where
    takes : (p : Option (Meta × Reader)) → Takes f s x.request p reply events → EndsNone events
    takes None d = absurd d
    takes (Some p) (inl idle) = none-idle _ reply events idle
    takes (Some p) (inr (k, key, inl (e, why, told, is))) = subst EndsNone (sym is) (none-accesses s k p.1 x.request)
    takes (Some p) (inr (k, key, inr (more, l, asks, is, told))) = subst EndsNone (sym is) (none-both (accesses s k p.1 x.request) more (none-accesses s k p.1 x.request) (none-asks _ (slot k) x.request.held more l asks))
none-does f (C.Request Q.Bypass) (Some x) reply events plain d = none-idle _ reply events d
none-does f (C.Request Q.Miss) (Some x) reply events plain d = none-idle _ reply events d
none-does f (C.Request (Q.Meta m)) (Some x) reply events plain d = none-done reply events d
none-does f (C.Request Q.Begin) (Some x) reply events plain (inl (e, why, idle)) = none-idle _ reply events idle
none-does f (C.Request Q.Begin) (Some x) reply events plain (inr (k, m, key, meta, is, told)) = subst EndsNone (sym is) (none-release x.request.held)
none-does f (C.Request (Q.Write bytes eof)) (Some x) reply events plain (inl idle) = none-idle _ reply events idle
none-does f (C.Request (Q.Write bytes eof)) (Some x) reply events plain (inr (w, writes, told, is)) = subst EndsNone (sym is) refl
none-does f (C.Request Q.Finish) (Some x) reply events plain d = absurd plain
none-does f (C.Request Q.Read) (Some x) reply events plain (inl (some, idle)) = none-idle _ reply events idle
none-does f (C.Request Q.Read) (Some x) reply events plain (inr (is, told)) = subst EndsNone (sym is) refl
none-does f (C.Request (Q.Seek start end)) (Some x) reply events plain d = none-idle _ reply events d
none-does f (C.Request Q.Done) (Some x) reply events plain d = none-done reply events d
none-does f (C.Request Q.Purge) (Some x) reply events plain (inl idle) = none-idle _ reply events idle
none-does f (C.Request Q.Purge) (Some x) reply events plain (inr (k, key, is, told)) = subst EndsNone (sym is) (none-if _ (E.Untrack (entry_of k f.number) ∷ []) refl)
none-does f (C.Request (Q.Expire t)) (Some x) reply events plain (inl idle) = none-idle _ reply events idle
none-does f (C.Request (Q.Expire t)) (Some x) reply events plain (inr (k, key, is, told)) = subst EndsNone (sym is) refl
none-does f (C.Request (Q.Lock is_used)) (Some x) reply events plain d = none-idle _ reply events d
none-does f (C.Wait t) (Some x) reply events plain (inl (first, fills, idle)) = none-idle _ reply events idle
none-does f (C.Wait t) (Some x) reply events plain (inr (told, is)) = subst EndsNone (sym is) (none-if (f.too_old t) _ (none-each E.Aged (λ n. refl) (number_read x.request.held)))
none-does f (C.Request (Q.Publish tokens)) (Some x) reply events plain d = none-done reply events d
none-does f (C.Request (Q.Release why)) (Some x) reply events plain d = subst EndsNone (sym d.1) (none-release x.request.held)
none-does f (C.Give to) (Some x) reply events plain d = subst EndsNone (sym d.1) (none-given _ f.taker)
none-does f (C.Request Q.Updating) (Some x) reply events plain d = none-idle _ reply events d
none-does f (C.Request (Q.Uncacheable h why)) (Some x) reply events plain (inl idle) = none-idle _ reply events idle
none-does f (C.Request (Q.Uncacheable h why)) (Some x) reply events plain (inr (told, is)) = subst EndsNone (sym is) (none-release x.request.held)
none-does f (C.Request (Q.Variance v)) (Some x) reply events plain d = subst EndsNone (sym d.1) (none-if (leaves_variant v x.request.key) _ (none-release x.request.held))
none-does f (C.Request (Q.Revalidate m)) (Some x) reply events plain (inl (k, key, told, is)) = subst EndsNone (sym is) (none-both (renew_of f.complete (slot k) _) (release_of x.request.held) (none-if f.complete _ refl) (none-release x.request.held))
none-does f (C.Request (Q.Revalidate m)) (Some x) reply events plain (inr (there, told, is)) = subst EndsNone (sym is) (none-release x.request.held)
none-does f (C.Request Q.Phase) (Some x) reply events plain d = none-idle _ reply events d
none-does f C.End (Some x) reply events plain d = subst EndsNone (sym d.1) (none-both (drop_of x.request.write) (let_go_of x.request.held) (none-drop x.request.write) (none-let_go x.request.held))
none-does f (C.Feed bytes t) (Some x) reply events plain d = feeds x.put d
  where
    feeds : (p : Option Taking) → Feeds f p reply events → EndsNone events
    feeds None d = absurd d
    feeds (Some p) d = none-feeds f (slot p.key) p.stage reply events d
none-does f C.Drop (Some x) reply events plain d = subst EndsNone (sym d.1) (none-drop x.request.write)
none-does f C.Close (Some x) reply events plain d = absurd plain

either-none : (a b : Bool) → (a || b) ≡ false → (a ≡ false) × (b ≡ false)
either-none true b is = absurd (cc)
either-none false b is = (refl, is)

-- So every other call leaves the totals of what was evicted.

evicts-none : (m : Tracked) (before : Evicted) (events : List Event) → EndsNone events → evicted_by m before events ≡ before
evicts-none m before [] none = refl
evicts-none m before (E.Admit e n out ∷ events) none = absurd (cc)
evicts-none m before (e ∷ events) none = evicts-none (track e m) before events (either-none (ends_one e) (list_any ends_one events) none).1

pub evicts_no_more : (f : Facts) (act : Act) (q : Option Ongoing) (reply : Reply) (events : List Event) (m : Tracked) (before : Evicted) → IsNoEnd act → Replies f act q reply events → evicted_by m before events ≡ before
evicts_no_more f act q reply events m before plain (inl (finds, inl (may, other, does))) = evicts-none m before events (none-does f act q reply events plain does)
evicts_no_more f act q reply events m before plain (inl (finds, inr (fails, idle))) = evicts-none m before events (none-idle _ reply events idle)
evicts_no_more f act q reply events m before plain (inr (other, idle)) = evicts-none m before events (none-idle _ reply events idle)

-- Events none of which stores a body.

abbrev stores_one : Event → Bool
stores_one (E.Finish w true) = true
stores_one e = false

abbrev StoresNone : List Event → Type 0
StoresNone events = list_any stores_one events ≡ false

store-both : (xs ys : List Event) → StoresNone xs → StoresNone ys → StoresNone (xs ++ ys)
store-both xs ys x y = list_any-append stores_one xs ys ∙ (λ i. x i || y i)

stores-less : (e : Event) → ends_one e ≡ false → stores_one e ≡ false
stores-less (E.Finish w true) none = absurd (cc)
stores-less e none = refl

no-store : (events : List Event) → EndsNone events → StoresNone events
no-store [] none = refl
no-store (e ∷ events) none =
    let parts = either-none (ends_one e) (list_any ends_one events) none in
    (λ i. stores-less e parts.0 i || no-store events parts.1 i)

-- A list that stores a body, and one that begins so.

stores-some : (earlier rest : List Event) (w : ℕ) → list_any stores_one (earlier ++ E.Finish w true ∷ rest) ≡ true
stores-some [] rest w = refl
stores-some (e ∷ earlier) rest w = ap (λ b. stores_one e || b) (stores-some earlier rest w) ∙ or-true (stores_one e)
  where
    or-true : (b : Bool) → (b || true) ≡ true
    or-true true = refl
    or-true false = refl

never : {A : Type 0} (events earlier rest : List Event) (w : ℕ) → StoresNone events → events ≡ earlier ++ E.Finish w true ∷ rest → A
never events earlier rest w none is = let plain : true ≡ false = sym (stores-some earlier rest w) ∙ ap (list_any stores_one) (sym is) ∙ none in absurd (cc)

comes-first : (earlier tail rest : List Event) (v w : ℕ) → StoresNone tail → E.Finish v true ∷ tail ≡ earlier ++ E.Finish w true ∷ rest → (earlier ≡ []) × (v ≡ w) × (tail ≡ rest)
comes-first [] tail rest v w none is = (refl, cc, cc)
comes-first (e ∷ earlier) tail rest v w none is = let behind : tail ≡ earlier ++ E.Finish w true ∷ rest = cc in never tail earlier rest w none behind

settles-behind : (k w n : ℕ) (reply : Reply) (o : Option ℕ) (events : List Event) → Settles k w n reply events → Settles k w n reply (each E.Release o ++ events)
settles-behind k w n reply None events h = h
settles-behind k w n reply (Some l) events h = h

-- The end of a write.

starved-copy : (reply told : Reply) → IsCopy reply told → reply ≡ R.Refused OutOfMemory → told ≡ R.Refused OutOfMemory
starved-copy reply told (inl same) is = same ∙ is
starved-copy reply told (inr other) is = other.0

module _ (f : Facts) (x : Request) (k : Key) (v w : ℕ) (reply told : Reply) (copy : IsCopy reply told) (events earlier rest : List Event) (at : events ≡ earlier ++ E.Finish w true ∷ rest) where
  abbrev Ended : Type 0
  Ended = (earlier ≡ []) × (v ≡ w) × Settles (slot k) v f.size told rest

  ended-by : (last : Event) → stores_one last ≡ false → events ≡ E.Finish v true ∷ release_of x.held ++ last ∷ [] → Settles (slot k) v f.size told (last ∷ []) → Ended
  ended-by last plain is settles =
      let tail = release_of x.held ++ last ∷ [] in
      let first = comes-first earlier tail rest v w (store-both (release_of x.held) (last ∷ []) (no-store (release_of x.held) (none-release x.held)) (ap (λ b. b || false) plain)) (sym is ∙ at) in
      (first.0, first.1, subst (Settles (slot k) v f.size told) first.2 (settles-behind (slot k) v f.size told (permit_of x.held) (last ∷ []) settles))

  by-ends : EndsFilling f x k v reply events → Ended
  by-ends (inl (out, untouched, is, stored)) = ended-by (E.Admit (entry_of k (Some v)) f.size out) refl is (entry_names k (Some v), refl, refl, refl)
  by-ends (inr (inl (untouched, is, starved))) = ended-by (E.Purge (slot k)) refl is (refl, starved-copy reply told copy starved, refl)
  by-ends (inr (inr (inl (removed, is, refused)))) = never events earlier rest w (subst StoresNone (sym is) (no-store (release_of x.held) (none-release x.held))) at
  by-ends (inr (inr (inr (is, starved)))) = never events earlier rest w (subst StoresNone (sym is) (no-store (release_of x.held) (none-release x.held))) at

-- Of an entry.

module _ (age : ℕ) (limits : Limits) (start : Tracked) (before : List Entry) (entry : Entry) (w : ℕ) (earlier rest : List Event) (legal : IsLegal age limits start (entry ∷ before)) (at : entry.events ≡ earlier ++ E.Finish w true ∷ rest) where
  abbrev Settled : Type 0
  Settled = (earlier ≡ []) × SettlesWrite w (events_of before) entry.reply rest

  -- the request's write was begun under its key, and its size is that of its body
  by-write : (x : Ongoing) (y : Request) (k : Key) (v : ℕ) → request_of entry.call.request before ≡ Some x → x.request.write ≡ Some v → x.request.key ≡ Some k → EndsFilling legal.0.facts y k v legal.0.reply_made entry.events → Settled
  by-write x y k v has writes key ends =
      let es = events_of before in
      let r = entry.call.request in
      let f = legal.0.facts in
      let e = by-ends f y k v w legal.0.reply_made entry.reply legal.0.copy entry.events earlier rest at ends in
      let made = (legal_kept age limits start before legal.1).made.keyed r v (ap makes_of has ∙ writes) in
      let slots : ◌≡◌ {A = Option ℕ} (Some made.0) (Some (slot k)) = sym made.2 ∙ ap slot_of has ∙ ap (option_map slot) key in
      let same : made.0 ≡ slot k = cc in
      let size : f.size ≡ length (body_of v es) = legal.0.says.size v (ap (λ q. (request_in q).write) has ∙ writes) in
      (e.0, (made.0, made.1, subst (λ n. begin_of n es ≡ Some (made.0, made.1)) e.1 made.3, subst (λ n. Settles made.0 w n entry.reply rest) (size ∙ ap (λ n. length (body_of n es)) e.1) (subst (λ q. Settles q w f.size entry.reply rest) (sym same) (subst (λ n. Settles (slot k) n f.size entry.reply rest) e.1 e.2))))

  by-none : EndsNone entry.events → Settled
  by-none none = never entry.events earlier rest w (no-store entry.events none) at

  by-finish : (x : Ongoing) → request_of entry.call.request before ≡ Some x → (o : Option ℕ) → x.request.write ≡ o → Finishes legal.0.facts x.request o legal.0.reply_made entry.events → Settled
  by-finish x has None writes idle = by-none (none-idle _ legal.0.reply_made entry.events idle)
  by-finish x has (Some v) writes (k, key, ends) = by-write x x.request k v has writes key ends

  by-stage : (x : Ongoing) (p : Taking) → request_of entry.call.request before ≡ Some x → x ≡ ongoing_put p → (stage : Stage) → p.stage ≡ stage → ClosesAt legal.0.facts p.key stage legal.0.reply_made entry.events → Settled
  by-stage x p has is InHead stands idle = by-none (none-idle _ legal.0.reply_made entry.events idle)
  by-stage x p has is (HasDeclined reason) stands idle = by-none (none-idle _ legal.0.reply_made entry.events idle)
  by-stage x p has is (IsOver kind) stands idle = by-none (none-idle _ legal.0.reply_made entry.events idle)
  by-stage x p has is (InBody v id until) stands (inl (dropped, refused)) = by-none (subst EndsNone (sym dropped) refl)
  by-stage x p has is (InBody v id until) stands (inr ends) = by-write x (filling p.key (Some v) id) p.key v has (ap (λ (y : Ongoing). y.request.write) is ∙ ap write_in stands) (ap (λ (y : Ongoing). y.request.key) is) ends

  by-close : (x : Ongoing) → request_of entry.call.request before ≡ Some x → (o : Option Taking) → IfSome o (λ p. x ≡ ongoing_put p) → Closes legal.0.facts o legal.0.reply_made entry.events → Settled
  by-close x has None shaped d = absurd d
  by-close x has (Some p) shaped d = by-stage x p has shaped p.stage refl d

  by-does : (act : Act) (q : Option Ongoing) → request_of entry.call.request before ≡ q → Does legal.0.facts act q legal.0.reply_made entry.events → Settled
  by-does (C.Files a) q has d = by-none (none-does legal.0.facts (C.Files a) q legal.0.reply_made entry.events tt d)
  by-does (C.Open options) q has d = by-none (none-done legal.0.reply_made entry.events d)
  by-does (C.Put k limit) q has d = by-none (none-done legal.0.reply_made entry.events d)
  by-does (C.Request Q.Finish) (Some x) has d = by-finish x has x.request.write refl d
  by-does C.Close (Some x) has d = by-close x has x.put (subst IsShaped has (legal_shaped age limits start before legal.1 entry.call.request)) d
  by-does act None has d = by-none (none-does legal.0.facts act None legal.0.reply_made entry.events (no-end act d) d)
    where
      no-end : (act : Act) → Does legal.0.facts act None legal.0.reply_made entry.events → IsNoEnd act
      no-end (C.Request Q.Finish) d = absurd d
      no-end C.Close d = absurd d
      no-end act d = tt
  by-does act (Some x) has d = by-none (none-does legal.0.facts act (Some x) legal.0.reply_made entry.events tt d)

  by-answers : (act : Act) (q : Option Ongoing) → request_of entry.call.request before ≡ q → FollowsRule legal.0.facts act q legal.0.reply_made entry.events → Settled
  by-answers act q has (inl (may, other, does)) = by-does act q has does
  by-answers act q has (inr (fails, idle)) = by-none (none-idle _ legal.0.reply_made entry.events idle)

  by-replies : Replies legal.0.facts entry.call.act (request_of entry.call.request before) legal.0.reply_made entry.events → Settled
  by-replies (inl (finds, answers)) = by-answers entry.call.act (request_of entry.call.request before) refl answers
  by-replies (inr (other, idle)) = by-none (none-idle _ legal.0.reply_made entry.events idle)

pub settles_at_once : SettlesAtOnce
settles_at_once age limits start before entry w earlier rest legal at = by-replies age limits start before entry w earlier rest legal at legal.0.answers

-- of a world's own history
pub settles_always : (log : Log) → HasLegal log → SettlesAlways log
settles_always log legal before entry w earlier rest is at =
    settles_at_once log.age log.limits log.start before entry w earlier rest (legal-part log.age log.limits log.start is.0 entry before (subst (IsLegal log.age log.limits log.start) is.1 legal)) at
