-- Replies of look-ups, readers at their end, and what is promised of a world's own history.
use Rattle.std.specs.Option.{option_map}
use Rattle.pcache_request.specs.Variants.{hides_pair}
use Rattle.pcache_store.specs.Store.{Reader}
use Rattle.pcache_history.specs.Facts.{Says}
use Rattle.pcache_history.specs.Headline.{is_found, HandsOnExactly, HandsOnUnhidden, says_found, TellsExactly, ReadsTheWhole, IsEntryOf, FindsUntouched, FinishesUntouched, HitsTheLast, IsWithinAlways, EvictsNothingWithin, GivesWhereNoneWaits}
use Rattle.pcache_history.specs.Rules.{Looks, look_reply}
use Rattle.pcache_history.proofs.Words.{◌≡◌, ℕ, ◌≤◌, Bool, true, false, not, ◌&&◌, cond, nat_lt, Option, None, Some, IsSome, List, [], ◌∷◌, ◌++◌, refl, ap, sym, subst, ◌∙◌, ◌↔◌, inl, inr, arith, length, take, drop, take_all, reverse, nat_tests, Key, slot, Poll, Ready, Pending, Tracked, Limits, Meta, Decision, is_deferral, Request, is_hidden, is_unseen, Part, read_part, LockKind, Reply, Answer, Entry, Event, deeds_of, begin_of, in_flight, body_of, is_told, Facts, HasUntouched, Ongoing, carrying, decides, pair_of, request_of, events_of, reads, IsLegal, Gives, Log, HasLegal, read_by, FollowsRule, Replies, HandsOn, LooksOn, Misses, drop_of, release_of, IsCopy}
use Rattle.pcache_history.specs.declared.call.Act.TheVariants as C
use Rattle.pcache_history.specs.declared.call.RequestAct.TheVariants as Q
use Rattle.pcache_history.specs.declared.call.Reply.TheVariants as R
use Rattle.pcache_history.specs.declared.entry.Answer.TheVariants as A
use Rattle.pcache_history.specs.declared.entry.Event.TheVariants as E
use Rattle.pcache_history.proofs.AnswersLaw.{legal-part, looks_are_true, reads_are_true}
use Rattle.pcache_history.proofs.Found.{follows_a_write}
use Rattle.pcache_history.proofs.WriteLaws.{finds_exactly, reads_the_last, is_within_limits, finishes_exactly}
use Rattle.pcache_history.proofs.ReadsLaw.{reads_a_beginning, written_as}
use Rattle.pcache_history.proofs.TrackedLaws.{evicts-fairly}
use Rattle.pcache_history.proofs.Waiting.{gives_the_permit_exactly}

-- what the reply to a look-up says of what it found
tells-found : (a : Answer) (l : Option LockKind) → says_found (look_reply a l) ≡ Some (is_found a)
tells-found A.Nothing l = refl
tells-found (A.Complete m body) l = refl
tells-found (A.Streaming m w) l = refl

-- a reply that says nothing of what was found
tells-none : {P : Type 0} (reply silent : Reply) (b : Bool) → reply ≡ silent → says_found silent ≡ None → says_found reply ≡ Some b → P
tells-none reply silent b is none told = let no : ◌≡◌ {A = Option Bool} None (Some b) = sym none ∙ sym (ap says_found is) ∙ told in absurd (cc)

none-hides : (o : Option (Meta × Reader)) → hides_pair None o ≡ false
none-hides None = refl
none-hides (Some p) = refl

-- what is said and handed on of what was found
abbrev IsHandedOn : Ongoing → Answer → Type 0
IsHandedOn x a = (is_found a ≡ true) × (hides_pair x.request.valid_after (pair_of a) ≡ false)

module _ (f : Facts) (k : ℕ) (x : Ongoing) (reply : Reply) (events : List Event) (b : Bool) (told : says_found reply ≡ Some b) where
  misses-tell : (a : Answer) → Misses f k a x.request reply events → b ≡ false
  misses-tell a (inl (e, used, why, is, refused)) = tells-none reply (R.Refused e) b refused refl told
  misses-tell a (inr (more, l, asks, is, nothing)) = let same : ◌≡◌ {A = Option Bool} (Some b) (Some false) = sym told ∙ ap says_found nothing in cc

  hands-tell : (a : Answer) (hidden : Bool) → is_found a ≡ true → HandsOn hidden f k a x.request reply events → (b ≡ true) ↔ ((is_found a ≡ true) × (hidden ≡ false))
  hands-tell a true some m = let none = misses-tell a m in (λ t. absurd (cc), λ p. absurd (let never = p.1 in cc))
  hands-tell a false some m = let same : ◌≡◌ {A = Option Bool} (Some b) (Some (is_found a)) = sym told ∙ ap says_found m.1 ∙ tells-found a None in (λ _. (some, refl), λ _. cc)

  looks-tell : (a : Answer) → LooksOn (is_deferral (decides a x)) f k a x.request reply events → (b ≡ true) ↔ IsHandedOn x a
  looks-tell A.Nothing h =
      let none : b ≡ false = elim (is_deferral (decides A.Nothing x)) as (λ c. LooksOn c f k A.Nothing x.request reply events → b ≡ false) [
        | true ↦ λ g. let same : ◌≡◌ {A = Option Bool} (Some b) (Some false) = sym told ∙ ap says_found g.1 in cc
        | false ↦ λ g. misses-tell A.Nothing g
      ] h in
      (λ t. absurd (cc), λ p. absurd (let never = p.0 in cc))
  looks-tell (A.Complete m body) h = hands-tell (A.Complete m body) (is_hidden x.request.valid_after m.created) refl h
  looks-tell (A.Streaming m w) h = hands-tell (A.Streaming m w) (is_hidden x.request.valid_after m.created) refl h

-- its events begin with what was found
misses-first : (f : Facts) (k : ℕ) (a : Answer) (x : Request) (reply : Reply) (events : List Event) → Misses f k a x reply events → (more : List Event) × (events ≡ E.Look k a ∷ more)
misses-first f k a x reply events (inl (e, used, why, is, refused)) = ([], is)
misses-first f k a x reply events (inr (more, l, asks, is, nothing)) = (more, is)

looks-first : (c h : Bool) (f : Facts) (k : ℕ) (a : Answer) (x : Request) (reply : Reply) (events : List Event) → is_unseen x.valid_after (pair_of a) ≡ h → LooksOn c f k a x reply events → (more : List Event) × (events ≡ E.Look k a ∷ more)
looks-first true h f k a x reply events seen on = (release_of x.held ++ drop_of x.write, on.0)
looks-first false true f k a x reply events seen on = misses-first f k a x reply events (subst (λ c. HandsOn c f k a x reply events) seen on)
looks-first false false f k a x reply events seen on = ([], (subst (λ c. HandsOn c f k a x reply events) seen on).0)

-- what a look-up found, and what its reply says of it
module _ (b : Bool) (x : Ongoing) where
  abbrev Tells : List Event → Facts → List Event → Type 0
  Tells es f events = (k : Key) × (a : Answer) × (more : List Event) × (x.request.key ≡ Some k) × (pair_of a ≡ f.found) × (events ≡ E.Look (slot k) a ∷ more) × ((b ≡ true) ↔ IsHandedOn x a)

  by-looks : (es : List Event) (f : Facts) (d : Option Decision) (reply : Reply) (events : List Event) → says_found reply ≡ Some b → Looks f (carrying d x) reply events → Tells es f events
  by-looks es f d reply events told (inl idle) = tells-none reply (R.Refused _) b idle.1.0 refl told
  by-looks es f d reply events told (inr (k, a, key, found, on)) =
      let y = carrying d x in
      let first = looks-first (is_deferral (decides a y)) (is_unseen y.request.valid_after (pair_of a)) f (slot k) a y.request reply events refl on in
      (k, a, first.0, key, found, first.1, looks-tell f (slot k) y reply events b told a on)

  by-answers : (es : List Event) (f : Facts) (t : ℕ) (d : Option Decision) (reply : Reply) (events : List Event) → says_found reply ≡ Some b → FollowsRule f (C.Request (Q.Look t d)) (Some x) reply events → Tells es f events
  by-answers es f t d reply events told (inl a) = by-looks es f d reply events told a.2
  by-answers es f t d reply events told (inr a) = tells-none reply R.WrongCall b a.1.0 refl told

  by-replies : (es : List Event) (f : Facts) (t : ℕ) (d : Option Decision) (reply : Reply) (events : List Event) → says_found reply ≡ Some b → Replies f (C.Request (Q.Look t d)) (Some x) reply events → Tells es f events
  by-replies es f t d reply events told (inl a) = by-answers es f t d reply events told a.1
  by-replies es f t d reply events told (inr a) = tells-none reply R.WrongCall b a.1.0 refl told

  by-copy : (es : List Event) (f : Facts) (t : ℕ) (d : Option Decision) (reply told : Reply) (events : List Event) → says_found told ≡ Some b → IsCopy reply told → Replies f (C.Request (Q.Look t d)) (Some x) reply events → Tells es f events
  by-copy es f t d reply told events is (inl same) a = by-replies es f t d reply events (ap says_found (sym same) ∙ is) a
  by-copy es f t d reply told events is (inr other) a = tells-none told (R.Refused _) b other.0 refl is

  by-entry : (age : ℕ) (limits : Limits) (start : Tracked) (before : List Entry) (entry : Entry) (t : ℕ) (d : Option Decision) → IsLegal age limits start (entry ∷ before) → entry.call.act ≡ C.Request (Q.Look t d) → request_of entry.call.request before ≡ Some x → says_found entry.reply ≡ Some b
      → (f : Facts) × Says age (events_of before) (deeds_of before) entry.call.request x.request f × Tells (events_of before) f entry.events
  by-entry age limits start before entry t d l act has told =
      let r = entry.call.request in
      let moved = subst (λ q. Gives age limits start (events_of before) (deeds_of before) r q entry.call.act entry.reply entry.events) has l.0 in
      let looked = subst (λ c. Gives age limits start (events_of before) (deeds_of before) r (Some x) c entry.reply entry.events) act moved in
      (looked.facts, looked.says, by-copy (events_of before) looked.facts t d looked.reply_made entry.reply entry.events told looked.copy looked.answers)

pub tells_exactly : TellsExactly
tells_exactly age limits start before entry t d x k b l act has key bare told =
    let h = by-entry b x age limits start before entry t d l act has told in
    let n = h.2 in
    let same : ◌≡◌ {A = Option Key} (Some n.0) (Some k) = sym n.3 ∙ key in
    let at : n.0 ≡ k = cc in
    let law = finds_exactly age limits start before (slot n.0) n.1 l.1 (h.1.found n.0 n.1 n.3 n.4) in
    let unhidden : hides_pair x.request.valid_after (pair_of n.1) ≡ false = ap (λ o. hides_pair o (pair_of n.1)) bare ∙ none-hides (pair_of n.1) in
    subst (λ q. (b ≡ true) ↔ HasUntouched (slot q) (events_of before)) at ((λ is. law.0 (n.6.0 is).0), (λ u. n.6.1 (law.1 u, unhidden)))

pub hands_on_exactly : HandsOnExactly
hands_on_exactly age limits start before entry t d x k answer rest b l act has is told =
    let h = by-entry b x age limits start before entry t d l act has told in
    let n = h.2 in
    let all : ◌≡◌ {A = List Event} (E.Look (slot n.0) n.1 ∷ n.2) (E.Look k answer ∷ rest) = sym n.5 ∙ is in
    let same : n.1 ≡ answer = cc in
    subst (λ a. (b ≡ true) ↔ IsHandedOn x a) same n.6

-- a reader of a write that returns the end has given all of it
gave-all : (place : ℕ) (body : List ℕ) (more : Bool) (got : List ℕ) → ◌≡◌ {A = Poll (Option (List ℕ))} (Ready None) (cond (nat_lt place (length body)) (Ready (Some (drop place body))) (cond more Pending (Ready None))) → (got ≡ take place body) × (place ≤ length body) → got ≡ body
gave-all place body more got is h =
    h.0 ∙ take_all place body (elim (nat_lt place (length body)) as (λ b. nat_lt place (length body) ≡ b → ◌≡◌ {A = Poll (Option (List ℕ))} (Ready None) (cond b (Ready (Some (drop place body))) (cond more Pending (Ready None))) → length body ≤ place) [
      | true ↦ λ t e. absurd (cc)
      | false ↦ λ f e. grind (arith, nat_tests)
    ] refl is)

pub reads_the_whole : ReadsTheWhole
reads_the_whole age limits start before entry rest x w place l is has reader =
    let es = events_of before in
    let told = reads_are_true age limits start before entry (Ready None) rest l is in
    let opened : ◌≡◌ {A = Option Ongoing} (Some told.0) (Some x) = sym told.2 ∙ has in
    let same : told.0 ≡ x = cc in
    let readers : ◌≡◌ {A = Option Reader} (Some told.1) (Some (Part w place)) = sym told.3 ∙ ap (λ (y : Ongoing). y.request.reader) same ∙ reader in
    let own : told.1 ≡ Part w place = cc in
    let gave = told.4 ∙ ap (reads es) own in
    let h = reads_a_beginning age limits start before entry.call.request x (Part w place) l.1 has reader in
    elim (begin_of w es) as (λ o. begin_of w es ≡ o → IsSome o → read_by entry.call.request before ≡ body_of w es) [
      | None ↦ λ _ none. absurd (cc)
      | Some p ↦ λ b _. gave-all place (body_of w es) (in_flight w es && not (is_told w es)) (read_by entry.call.request before) (gave ∙ ap (λ o. read_part place (option_map (written_as w es) o)) b) h
    ] refl (follows_a_write age limits start before entry.call.request x w place l.1 has reader)

-- ---- a world's own history

module _ (log : Log) (legal : HasLegal log) where
  at-entry : (entry : Entry) (before : List Entry) → IsEntryOf log entry before → IsLegal log.age log.limits log.start (entry ∷ before)
  at-entry entry before at = legal-part log.age log.limits log.start at.0 entry before (subst (IsLegal log.age log.limits log.start) at.1 legal)

  pub finds_untouched : FindsUntouched log
  finds_untouched before entry k answer rest at is =
      let l = at-entry entry before at in
      finds_exactly log.age log.limits log.start before k answer l.1 (looks_are_true log.age log.limits log.start before entry k answer rest l is)

  pub hands_on_unhidden : HandsOnUnhidden log
  hands_on_unhidden before entry t d x k answer rest b at = hands_on_exactly log.age log.limits log.start before entry t d x k answer rest b (at-entry entry before at)

  pub finishes_untouched : FinishesUntouched log
  finishes_untouched before entry w is_stored rest at = finishes_exactly log.age log.limits log.start before entry w is_stored rest (at-entry entry before at)

  pub hits_the_last : HitsTheLast log
  hits_the_last before entry k m body rest at is =
      let l = at-entry entry before at in
      reads_the_last log.age log.limits log.start before k m body l.1 (looks_are_true log.age log.limits log.start before entry k (A.Complete m body) rest l is)

  pub stays_within : IsWithinAlways log
  stays_within = is_within_limits log.age log.limits log.start (reverse log.history) legal

  pub evicts_nothing_within : EvictsNothingWithin log
  evicts_nothing_within before entry earlier rest e n out at is = (evicts-fairly log.age log.limits log.start before entry earlier rest e n out (at-entry entry before at) is).1

  pub gives_where_none_waits : GivesWhereNoneWaits log
  gives_where_none_waits before entry earlier rest k n b at = gives_the_permit_exactly log.age log.limits log.start before entry earlier rest k n b (at-entry entry before at)
