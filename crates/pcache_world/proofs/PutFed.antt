-- What a piece of a put does, by what its context promises.
use Rattle.std.proofs.Common.{◌↔◌, option_map}
use Rattle.pcache_response.specs.Parts.{left_behind}
use Rattle.pcache_response.specs.Progress.{AtBody, HasFailed}
use Rattle.pcache_put.specs.Puts.{Says, joined}
use Rattle.pcache_response.specs.Response.{Response, is_whole}
use Rattle.pcache_response.proofs.Unique.{one_response}
use Rattle.pcache_put.specs.State.{Accepted, BodyRead}
use Rattle.pcache_put.specs.Steps.{ReturnsAgain, BeginsAtHead, EndsPiece, HasWholeBody, IfRefused, IsBegunBefore, MayFailPiece, filled_on, filled_wrote, is_done, stage_begun, store_after}
use Rattle.pcache_put.proofs.Bodies.{done_whole}
use Rattle.pcache_put.specs.declared.report.PieceEnd.{PieceEnd}
use Rattle.pcache_put.specs.declared.report.Written.{Written}
use Rattle.pcache_store.specs.Store.{is_told}
use Rattle.pcache_history.specs.PutHistory.{SayEnds, filled_by}
use Rattle.pcache_history.specs.Rules.{FeedsAt, IsFeedRefusal, piece_noted, wrote_noted}
use Rattle.pcache_world.proofs.Words.{◌≡◌, ℕ, ◌≤◌, ◌^◌, ◌⊎◌, true, length, Option, None, Some, IfSome, List, [], ◌∷◌, ◌++◌, refl, ap, sym, subst, ◌∙◌, inl, inr, Key, slot, ErrorType, NoCacheReason, Tracked, Limits, Locks, Meta, Parsed, AtHead, Counted, Piece, Stage, InHead, InBody, HasDeclined, IsOver, Filled, TakenBy, limit_of, write_in, dropped_by, Store, get, Reply, Event, slot_of, Facts, facts_in, Ongoing, ongoing_put, untold, At, Moves, MovesBy, MovesStore, at_call, AreWhole, IgnoresAt, SayBegins, EndsWhole, PutTurn, Feeds, drop_of, Taking}
use Rattle.pcache_base.specs.declared.error.ErrorType.TheVariants as error
use Rattle.pcache_put.specs.declared.report.PieceEnd.TheVariants as piece
use Rattle.pcache_history.specs.declared.call.Act.TheVariants as C
use Rattle.pcache_history.specs.declared.call.Reply.TheVariants as R
use Rattle.pcache_history.specs.declared.entry.Event.TheVariants as E
use Rattle.pcache_world.proofs.MovesOf.{does, drops, stop}

pub none-some : {A B : Type 0} (a : A) → ◌≡◌ {A = Option A} (Some a) None → B
none-some a is = absurd (cc)

append-nil : (xs : List Event) → xs ++ [] ≡ xs
append-nil [] = refl
append-nil (e ∷ xs) = ap (λ ys. e ∷ ys) (append-nil xs)

-- ---- the parts move by what is noted

module _ (limits : Limits) (q : Option Ongoing) (k : Key) (count : ℕ → ℕ) (s : Store) (m : Tracked) (own : slot_of q ≡ Some (slot k)) where
  abbrev pub before : Stage → At
  before stage = record { count = count; write = write_in stage; owed = None; store = s; tracked = m }

  abbrev pub behind : Stage → Option Meta → Option Written → At
  behind stage began b = record { count = count; write = write_in (stage_begun stage began s.next (Some s.next)); owed = None; store = store_after k stage began b (Some s.next) s; tracked = m }

  pub noted : (stage : Stage) (began : Option Meta) (b : Option Written) (rest : List Event) (last : At) → BeginsAtHead stage began → MovesBy limits q rest (behind stage began b) last
      → MovesBy limits q (piece_noted (slot k) (write_in (stage_begun stage began s.next (Some s.next))) began b ++ rest) (before stage) last
  noted InHead None b rest last begins moves = moves
  noted InHead (Some n) None rest last begins moves = does limits q (E.Begin s.next (slot k) n) rest (before InHead) last (refl, refl, own) moves
  noted InHead (Some n) (Some b) rest last begins moves =
      does limits q (E.Begin s.next (slot k) n) (E.Wrote s.next b.bytes b.eof ∷ rest) (before InHead) last (refl, refl, own)
      (does limits q (E.Wrote s.next b.bytes b.eof) rest (behind InHead (Some n) None) last refl moves)
  noted (InBody w id until) None None rest last begins moves = moves
  noted (InBody w id until) None (Some b) rest last begins moves = does limits q (E.Wrote w b.bytes b.eof) rest (before (InBody w id until)) last refl moves
  noted (InBody w id until) (Some n) b rest last begins moves = none-some n begins
  noted (HasDeclined reason) None b rest last begins moves = moves
  noted (HasDeclined reason) (Some n) b rest last begins moves = none-some n begins
  noted (IsOver kind) None b rest last begins moves = moves
  noted (IsOver kind) (Some n) b rest last begins moves = none-some n begins

-- and the store stays
none-stored : (k : Key) (stage : Stage) (began : Option Meta) (b : Option Written) (s : Store) → BeginsAtHead stage began → write_in (stage_begun stage began s.next (Some s.next)) ≡ None → store_after k stage began b (Some s.next) s ≡ s
none-stored k InHead None b s begins is = refl
none-stored k InHead (Some n) b s begins is = none-some s.next is
none-stored k (InBody w id until) None b s begins is = none-some w is
none-stored k (InBody w id until) (Some n) b s begins is = none-some n begins
none-stored k (HasDeclined reason) None b s begins is = refl
none-stored k (HasDeclined reason) (Some n) b s begins is = none-some n begins
none-stored k (IsOver kind) None b s begins is = refl
none-stored k (IsOver kind) (Some n) b s begins is = none-some n begins

none-before : (stage : Stage) (began : Option Meta) (n : ℕ) → BeginsAtHead stage began → write_in (stage_begun stage began n (Some n)) ≡ None → write_in stage ≡ None
none-before InHead began n begins is = refl
none-before (InBody w id until) None n begins is = is
none-before (InBody w id until) (Some m) n begins is = none-some m begins
none-before (HasDeclined reason) began n begins is = refl
none-before (IsOver kind) began n begins is = refl

module _ (p p' : Taking) (s s1 : Store) (began : Option Meta) (b : Option Written) (j : ℕ) (at : j ≡ slot p.key) (begins : BeginsAtHead p.stage began) (to : s1 ≡ store_after p.key p.stage began b (Some s.next) s) where
  abbrev pub now : Stage
  now = stage_begun p.stage began s.next (Some s.next)

  abbrev pub x : Ongoing
  x = ongoing_put p

  abbrev pub y : Ongoing
  y = ongoing_put p'

  -- it goes on
  pub goes-moves : (w : Option ℕ) (old events : List Event) → old ≡ [] → w ≡ write_in p'.stage → p'.stage ≡ now → events ≡ old ++ piece_noted j w began b → MovesStore (Some x) s events (Some y) s1
  goes-moves w old events none has stands is limits m =
      subst (λ es. Moves limits (Some x) s m es (Some y) s1 m) (sym (is ∙ (λ i. none i ++ piece_noted (at i) ((has ∙ ap write_in stands) i) began b) ∙ sym (append-nil (piece_noted (slot p.key) (write_in now) began b))))
      (noted limits (Some x) p.key (λ v. 0) s m refl p.stage began b [] (at_call (Some y) s1 m) begins
      (stop limits (Some x) (behind limits (Some x) p.key (λ v. 0) s m refl p.stage began b) (at_call (Some y) s1 m) (record { count = λ v. refl; write = ap write_in stands; owed = refl; store = to; tracked = refl })))

  -- nothing is stored
  pub declined-moves : (events : List Event) → events ≡ [] → write_in now ≡ None → write_in p'.stage ≡ None → MovesStore (Some x) s events (Some y) s1
  declined-moves events none before-none after-none limits m =
      subst (λ es. Moves limits (Some x) s m es (Some y) s1 m) (sym none)
      (stop limits (Some x) (at_call (Some x) s m) (at_call (Some y) s1 m) (record { count = λ v. refl; write = after-none ∙ sym (none-before p.stage began s.next begins before-none); owed = refl; store = to ∙ none-stored p.key p.stage began b s begins before-none; tracked = refl }))

  -- it fails, and the write is dropped
  pub refused-moves : (u : Store) (w : Option ℕ) (old mid events : List Event) → old ≡ [] → w ≡ write_in now → write_in p'.stage ≡ None → mid ≡ old ++ piece_noted j w began b → events ≡ mid ++ drop_of w → u ≡ dropped_by w s1 → MovesStore (Some x) s events (Some y) u
  refused-moves u w old mid events none has over one is left limits m =
      let first = behind limits (Some x) p.key (λ v. 0) s m refl p.stage began b in
      subst (λ es. Moves limits (Some x) s m es (Some y) u m)
      (sym (is ∙ ap (λ es. es ++ drop_of w) (one ∙ (λ i. none i ++ piece_noted (at i) (has i) began b)) ∙ ap (λ o. piece_noted (slot p.key) (write_in now) began b ++ drop_of o) has ∙ ap (λ es. piece_noted (slot p.key) (write_in now) began b ++ es) (sym (append-nil (drop_of (write_in now))))))
      (noted limits (Some x) p.key (λ v. 0) s m refl p.stage began b (drop_of (write_in now) ++ []) (at_call (Some y) u m) begins
      (drops limits (Some x) (write_in now) [] first (at_call (Some y) u m) refl refl
      (stop limits (Some x) (record first { write = None; store = dropped_by (write_in now) first.store }) (at_call (Some y) u m)
      (record { count = λ v. refl; write = over; owed = refl; store = left ∙ (λ i. dropped_by (has i) (to i)); tracked = refl }))))

-- ---- what was taken in

begun-filled : (says : Says) (size : Option Counted) (parser : Parsed) (pieces : List Piece) (k n : ℕ) (stage : Stage) (began : Option Meta) (b : Option Written) (f : Option Filled) → BeginsAtHead stage began → TakenBy says size parser stage pieces f → (write_in (stage_begun stage began n (Some n)) ≡ None → f ≡ None)
    → filled_by (piece_noted k (write_in (stage_begun stage began n (Some n))) began b) f ≡ filled_on began b f
begun-filled says size parser pieces k n InHead None None f begins t none = refl
begun-filled says size parser pieces k n InHead None (Some b) f begins t none = none refl ∙ ap (filled_wrote (Some b)) (sym (none refl))
begun-filled says size parser pieces k n InHead (Some m) None f begins t none = refl
begun-filled says size parser pieces k n InHead (Some m) (Some b) f begins t none = refl
begun-filled says size parser pieces k n (InBody w id until) None None f begins t none = refl
begun-filled says size parser pieces k n (InBody w id until) None (Some b) None begins t none = refl
begun-filled says size parser pieces k n (InBody w id until) None (Some b) (Some f) begins t none = refl
begun-filled says size parser pieces k n (InBody w id until) (Some m) b f begins t none = none-some m begins
begun-filled says size parser pieces k n (HasDeclined reason) None None f begins t none = refl
begun-filled says size parser pieces k n (HasDeclined reason) None (Some b) f begins t none = none refl ∙ ap (filled_wrote (Some b)) (sym (none refl))
begun-filled says size parser pieces k n (HasDeclined reason) (Some m) b f begins t none = none-some m begins
begun-filled says size parser pieces k n (IsOver kind) None None f begins t none = refl
begun-filled says size parser pieces k n (IsOver kind) None (Some b) f begins t none = none refl ∙ ap (filled_wrote (Some b)) (sym (none refl))
begun-filled says size parser pieces k n (IsOver kind) (Some m) b f begins t none = none-some m begins

-- if a put goes on, it made no write before its head ended
head-filled : (says : Says) (size : Option Counted) (parser : Parsed) (pieces : List Piece) (stage : Stage) (f : Option Filled) → TakenBy says size parser stage pieces f → ((kind : ErrorType) → stage ≡ IsOver kind → ⊥) → write_in stage ≡ None → f ≡ None
head-filled says size parser pieces InHead f t on none = t.1
head-filled says size parser pieces (InBody w id until) f t on none = none-some w none
head-filled says size parser pieces (HasDeclined reason) f t on none = t.1
head-filled says size parser pieces (IsOver kind) f t on none = absurd (on kind refl)

-- ---- the whole body

-- a body is whole for its parser as it is for its pieces
read-whole : (says : Says) (limit : Option ℕ) (parser : Parsed) (meta : Meta) (pieces : List Piece) (body : List ℕ) → BodyRead says limit parser meta pieces body → (is_done parser ≡ true) ↔ AreWhole pieces
read-whole says limit parser meta pieces body h =
    let same : is_done parser ≡ is_whole h.r.size h.r.behind = ap is_done h.stands ∙ done_whole h.r.size h.r.behind in (
      λ is. (h.r, h.judged.response, sym same ∙ is),
      λ w. same ∙ subst (λ (r : Response). is_whole r.size r.behind ≡ true) (one_response (joined pieces) w.0 h.r w.1 h.judged.response) w.2,
    )

taken-whole : (says : Says) (size : Option Counted) (parser : Parsed) (w : ℕ) (id : Option ℕ) (until : ℕ) (pieces : List Piece) (f : Option Filled) → TakenBy says size parser (InBody w id until) pieces f → (is_done parser ≡ true) ↔ AreWhole pieces
taken-whole says size parser w id until pieces None t = absurd t
taken-whole says size parser w id until pieces (Some f) t = read-whole says (limit_of size) parser f.meta pieces f.body t.0

-- so a piece is ignored if it comes after the whole body
whole-ignored : (says : Says) (size : Option Counted) (parser : Parsed) (stage : Stage) (pieces : List Piece) (f : Option Filled) (reply : Reply) (events : List Event) → TakenBy says size parser stage pieces f → (HasWholeBody stage parser → (reply ≡ R.Done) × (events ≡ [])) → IgnoresAt stage pieces reply events
whole-ignored says size parser InHead pieces f reply events t ignored = tt
whole-ignored says size parser (InBody w id until) pieces f reply events t ignored = λ whole. ignored ((taken-whole says size parser w id until pieces f t).1 whole)
whole-ignored says size parser (HasDeclined reason) pieces f reply events t ignored = tt
whole-ignored says size parser (IsOver kind) pieces f reply events t ignored = tt

-- and the end is announced with the bytes that complete the body
wrote-ends : (says : Says) (size : Option Counted) (parser : Parsed) (stage : Stage) (pieces : List Piece) (f : Option Filled) (b : Option Written) → TakenBy says size parser stage pieces f → IfSome b (λ (w : Written). w.eof ≡ is_done parser) → SayEnds pieces (wrote_noted (write_in stage) b)
wrote-ends says size parser InHead pieces f b t last = tt
wrote-ends says size parser (InBody w id until) pieces f None t last = tt
wrote-ends says size parser (InBody w id until) pieces f (Some b) t last = let whole = taken-whole says size parser w id until pieces f t in ((λ is. whole.0 (sym last ∙ is), λ all. last ∙ whole.1 all), tt)
wrote-ends says size parser (HasDeclined reason) pieces f b t last = tt
wrote-ends says size parser (IsOver kind) pieces f b t last = tt

piece-ends : (pieces : List Piece) (k : ℕ) (w : Option ℕ) (began : Option Meta) (b : Option Written) → SayEnds pieces (wrote_noted w b) → SayEnds pieces (piece_noted k w began b)
piece-ends pieces k None began b ends = ends
piece-ends pieces k (Some w) None b ends = ends
piece-ends pieces k (Some w) (Some m) b ends = ends

-- a write begins with the meta that the policy gives
piece-begins : (says : Says) (limit : Option ℕ) (pieces : List Piece) (k : ℕ) (w : Option ℕ) (began : Option Meta) (b : Option Written) → IfSome began (λ m. Accepted says limit m pieces) → SayBegins says limit pieces (piece_noted k w began b)
piece-begins says limit pieces k None began b h = tt
piece-begins says limit pieces k (Some w) None None h = tt
piece-begins says limit pieces k (Some w) None (Some b) h = tt
piece-begins says limit pieces k (Some w) (Some m) None h = (h, tt)
piece-begins says limit pieces k (Some w) (Some m) (Some b) h = (h, tt)

-- a piece that fails says no end, as it wrote nothing; its write may have begun
module _ (pieces : List Piece) (k : ℕ) where
  refused-ends : (w : Option ℕ) (began : Option Meta) → SayEnds pieces (piece_noted k w began None ++ drop_of w)
  refused-ends None began = tt
  refused-ends (Some w) None = tt
  refused-ends (Some w) (Some m) = tt

  refused-begins : (says : Says) (limit : Option ℕ) (w : Option ℕ) (began : Option Meta) → IfSome began (λ m. Accepted says limit m pieces) → SayBegins says limit pieces (piece_noted k w began None ++ drop_of w)
  refused-begins says limit None began h = tt
  refused-begins says limit (Some w) None h = tt
  refused-begins says limit (Some w) (Some m) h = (h, tt)

nothing-noted : (k : ℕ) (w : Option ℕ) (began : Option Meta) (b : Option Written) → (began ≡ None) × (b ≡ None) → piece_noted k w began b ≡ []
nothing-noted k None began b none = refl
nothing-noted k (Some w) None None none = refl
nothing-noted k (Some w) (Some m) b none = none-some m none.0
nothing-noted k (Some w) None (Some b) none = none-some b none.1

-- what a call promises of a piece that comes after the whole body, and of the end that it announces
abbrev pub Ignores : Taking → Option Meta → Option Written → Type 0
Ignores p began b = HasWholeBody p.stage p.parser → (began ≡ None) × (b ≡ None)

abbrev pub SaysLast : Says → Taking → Taking → Option Written → Type 0
SaysLast says p p' b = (pieces : List Piece) (f : Option Filled) → TakenBy says p.size p.parser p.stage pieces f → IfSome b (λ (w : Written). w.eof ≡ is_done p'.parser)

abbrev pub HasBegun : Says → Taking → Piece → Option Meta → Type 0
HasBegun says p q began = (pieces : List Piece) (f : Option Filled) → TakenBy says p.size p.parser p.stage pieces f → IfSome began (λ m. Accepted says (limit_of p.size) m (pieces ++ q ∷ []))

abbrev pub OnTaken : Says → Taking → Taking → Piece → Option Meta → Option Written → Type 0
OnTaken says p p' q began b = (pieces : List Piece) (f : Option Filled) → TakenBy says p.size p.parser p.stage pieces f → TakenBy says p'.size p'.parser p'.stage (pieces ++ q ∷ []) (filled_on began b f)

pub goes-puts : (says : Says) (p p' : Taking) (bytes : List ℕ) (t n j : ℕ) (began : Option Meta) (b : Option Written) (w : Option ℕ) (old events : List Event) → BeginsAtHead p.stage began → ((kind : ErrorType) → p.stage ≡ IsOver kind → ⊥) → OnTaken says p p' (record { bytes = bytes; now = t }) began b → old ≡ [] → w ≡ write_in p'.stage → p'.stage ≡ stage_begun p.stage began n (Some n)
    → events ≡ old ++ piece_noted j w began b → Ignores p began b → SaysLast says p p' b → HasBegun says p (record { bytes = bytes; now = t }) began → PutTurn says (C.Feed bytes t) R.Done events (Some (ongoing_put p)) (Some (ongoing_put p'))
goes-puts says p p' bytes t n j began b w old events begins on taken none has stands is ignored last begun = record {
  taken = λ pieces f got.
      let noted-as : events ≡ piece_noted j (write_in (stage_begun p.stage began n (Some n))) began b = is ∙ (λ i. none i ++ piece_noted j ((has ∙ ap write_in stands) i) began b) in
      let same : filled_by events f ≡ filled_on began b f = ap (λ es. filled_by es f) noted-as ∙ begun-filled says p.size p.parser pieces j n p.stage began b f begins got (λ z. head-filled says p.size p.parser pieces p.stage f got on (none-before p.stage began n begins z)) in
      subst (TakenBy says p'.size p'.parser p'.stage (pieces ++ record { bytes = bytes; now = t } ∷ [])) (sym same) (taken pieces f got);
  closes = λ pieces f got. tt;
  ignores = λ pieces f got. whole-ignored says p.size p.parser p.stage pieces f R.Done events got (λ whole. (refl, is ∙ (λ i. none i ++ nothing-noted j w began b (ignored whole) i)));
  begins = λ pieces f got.
      let more = pieces ++ record { bytes = bytes; now = t } ∷ [] in
      subst (SayBegins says (limit_of p.size) more) (sym (is ∙ (λ i. none i ++ piece_noted j w began b))) (piece-begins says (limit_of p.size) more j w began b (begun pieces f got));
  ends = λ pieces f got.
      let more = pieces ++ record { bytes = bytes; now = t } ∷ [] in
      subst (SayEnds more) (sym (is ∙ (λ i. none i ++ piece_noted j (has i) began b)))
      (piece-ends more j (write_in p'.stage) began b (wrote-ends says p'.size p'.parser p'.stage more (filled_on began b f) b (taken pieces f got) (last pieces f got)));
}

over-as : (says : Says) (size : Option Counted) (parser : Parsed) (stage : Stage) (kind : ErrorType) (pieces : List Piece) (f g : Option Filled) → stage ≡ IsOver kind → TakenBy says size parser stage pieces g → TakenBy says size parser stage pieces f
over-as says size parser stage kind pieces f g is t = subst (λ (z : Stage). TakenBy says size parser z pieces f) (sym is) (subst (λ (z : Stage). TakenBy says size parser z pieces g) is t)

pub refused-puts : (says : Says) (p p' : Taking) (bytes : List ℕ) (t j : ℕ) (began : Option Meta) (b : Option Written) (e kind : ErrorType) (w : Option ℕ) (events : List Event) → OnTaken says p p' (record { bytes = bytes; now = t }) began b → p'.stage ≡ IsOver e
    → events ≡ piece_noted j w began None ++ drop_of w → HasBegun says p (record { bytes = bytes; now = t }) began → (HasWholeBody p.stage p.parser → ⊥) → PutTurn says (C.Feed bytes t) (R.Refused kind) events (Some (ongoing_put p)) (Some (ongoing_put p'))
refused-puts says p p' bytes t j began b e kind w events taken stands is begun never = record {
  taken = λ pieces f got. over-as says p'.size p'.parser p'.stage e (pieces ++ record { bytes = bytes; now = t } ∷ []) (filled_by events f) (filled_on began b f) stands (taken pieces f got);
  closes = λ pieces f got. tt;
  ignores = λ pieces f got. whole-ignored says p.size p.parser p.stage pieces f (R.Refused kind) events got (λ whole. absurd (never whole));
  begins = λ pieces f got.
      let more = pieces ++ record { bytes = bytes; now = t } ∷ [] in
      subst (SayBegins says (limit_of p.size) more) (sym is) (refused-begins more j says (limit_of p.size) w began (begun pieces f got));
  ends = λ pieces f got. let more = pieces ++ record { bytes = bytes; now = t } ∷ [] in subst (SayEnds more) (sym is) (refused-ends more j w began);
}

-- ---- the reply

module _ (s : Store) (t : Locks) where
  abbrev pub facts : Key → Stage → Facts
  facts k stage = facts_in s t (ongoing_put (record { key = k; size = None; parser = AtHead []; stage = stage })).request

  abbrev pub AtStage : Key → Stage → Reply → List Event → Type 0
  AtStage k stage reply events = FeedsAt (facts k stage) (slot k) stage reply events

  head-refusal : (f : Facts) (e : ErrorType) → f.next ≡ s.next → MayFailPiece InHead s e → IsFeedRefusal f InHead e
  head-refusal f error.OutOfMemory is may = tt
  head-refusal f error.InvalidHttpHeader is may = tt
  head-refusal f error.ResponseTooLarge is may = tt
  head-refusal f error.NumbersExhausted is may = subst (λ n. 2 ^ 64 ≤ n) (sym is) may
  head-refusal f e is may = absurd may

  body-refusal : (f : Facts) (w : ℕ) (id : Option ℕ) (until : ℕ) (e : ErrorType) → (is_told (get s.writes w) ≡ true → ⊥) → MayFailPiece (InBody w id until) s e → IsFeedRefusal f (InBody w id until) e
  body-refusal f w id until error.OutOfMemory untold may = tt
  body-refusal f w id until error.InvalidHttpHeader untold may = tt
  body-refusal f w id until error.ResponseTooLarge untold may = tt
  body-refusal f w id until error.InternalError untold may = absurd (untold may)
  body-refusal f w id until e untold may = absurd may

  -- a parser that has failed takes in nothing more
  pub not-failed : (says : Says) (size : Option Counted) (parser : Parsed) (stage : Stage) (pieces : List Piece) (f : Option Filled) (e : ErrorType) → TakenBy says size parser stage pieces f → ((kind : ErrorType) → stage ≡ IsOver kind → ⊥) → ((reason : NoCacheReason) → stage ≡ HasDeclined reason → ⊥) → parser ≡ HasFailed e → ⊥
  not-failed says size parser InHead pieces f e taken on off is = let g : ◌≡◌ {A = Parsed} (HasFailed e) (AtHead (joined pieces)) = sym is ∙ taken.0.stands in cc
  not-failed says size parser (InBody w id until) pieces None e taken on off is = taken
  not-failed says size parser (InBody w id until) pieces (Some f) e taken on off is = let r = taken.0 in let g : ◌≡◌ {A = Parsed} (HasFailed e) (AtBody (left_behind r.r.size (length r.r.behind))) = sym is ∙ r.stands in cc
  not-failed says size parser (HasDeclined reason) pieces f e taken on off is = off reason refl
  not-failed says size parser (IsOver kind) pieces f e taken on off is = on kind refl

pub not-over : {M : Type 0} (stage : Stage) (end : PieceEnd M) → ReturnsAgain stage end → end ≡ piece.GoesOn → (kind : ErrorType) → stage ≡ IsOver kind → ⊥
not-over {M = M} stage end again on kind is = let g : ◌≡◌ {A = PieceEnd M} piece.GoesOn (piece.Refused kind None) = sym on ∙ subst (λ (z : Stage). ReturnsAgain z end) is again in cc

module _ {M : Type 0} (s : Store) (t : Locks) where
  pub goes-answers : (k : Key) (stage : Stage) (end : PieceEnd M) (began : Option Meta) (b : Option Written) (events : List Event) → ReturnsAgain stage end → end ≡ piece.GoesOn → BeginsAtHead stage began → events ≡ piece_noted (slot k) (write_in (stage_begun stage began s.next (Some s.next))) began b → AtStage s t k stage R.Done events
  goes-answers k InHead end began b events again on begins is = (began, b, inl (refl, is))
  goes-answers k (InBody w id until) end None b events again on begins is = (b, inl (refl, is))
  goes-answers k (InBody w id until) end (Some m) b events again on begins is = none-some m begins
  goes-answers k (HasDeclined reason) end began b events again on begins is = absurd (let g : piece.GoesOn ≡ piece.NotCached reason = sym on ∙ again in cc)
  goes-answers k (IsOver kind) end began b events again on begins is = absurd (let g : piece.GoesOn ≡ piece.Refused kind None = sym on ∙ again in cc)

  pub declined-answers : (k : Key) (stage : Stage) (end : PieceEnd M) (began : Option Meta) (b : Option Written) (reason : NoCacheReason) (events : List Event) → ReturnsAgain stage end → end ≡ piece.NotCached reason → BeginsAtHead stage began → write_in (stage_begun stage began s.next (Some s.next)) ≡ None → events ≡ []
      → AtStage s t k stage (R.NotCached reason) events
  declined-answers k InHead end began b reason events again on begins none is = (began, b, inr (inl (reason, none, (refl, is))))
  declined-answers k (InBody w id until) end None b reason events again on begins none is = none-some w none
  declined-answers k (InBody w id until) end (Some m) b reason events again on begins none is = none-some m begins
  declined-answers k (HasDeclined why) end began b reason events again on begins none is = let g : ◌≡◌ {A = PieceEnd M} (piece.NotCached reason) (piece.NotCached why) = sym on ∙ again in let same : reason ≡ why = cc in (ap R.NotCached same, is)
  declined-answers k (IsOver kind) end began b reason events again on begins none is = absurd (let g : ◌≡◌ {A = PieceEnd M} (piece.NotCached reason) (piece.Refused kind None) = sym on ∙ again in cc)

  pub refused-answers : (says : Says) (size : Option Counted) (parser : Parsed) (pieces : List Piece) (f : Option Filled) (k : Key) (stage : Stage) (end : PieceEnd M) (began : Option Meta) (e kind : ErrorType) (writer : Option M) (w : Option ℕ) (events : List Event)
      → TakenBy says size parser stage pieces f → ReturnsAgain stage end → end ≡ piece.Refused e writer → kind ≡ e → BeginsAtHead stage began → MayFailPiece stage s e ⊎ (parser ≡ HasFailed e) → IsBegunBefore stage e began ⊎ (parser ≡ HasFailed e) → w ≡ write_in (stage_begun stage began s.next (Some s.next))
      → events ≡ piece_noted (slot k) w began None ++ drop_of w → EndsWhole s (write_in stage) pieces → (HasWholeBody stage parser → ⊥) → AtStage s t k stage (R.Refused kind) events
  refused-answers says size parser pieces f k InHead end began e kind writer w events taken again on same begins why whether has is ended never =
      let failed-not : parser ≡ HasFailed e → ⊥ = not-failed s t says size parser InHead pieces f e taken (λ z h. absurd (cc)) (λ z h. absurd (cc)) in
      let may : MayFailPiece InHead s e = elim why [ inl may ↦ may | inr failed ↦ absurd (failed-not failed) ] in
      let told : IsBegunBefore InHead e began = elim whether [ inl told ↦ told | inr failed ↦ absurd (failed-not failed) ] in
      (began, None, inr (inr (e, head-refusal s t (facts s t k InHead) e refl may, told, ap R.Refused same, is ∙ ap (λ o. piece_noted (slot k) o began None ++ drop_of o) has)))
  refused-answers says size parser pieces f k (InBody v id until) end None e kind writer w events taken again on same begins why whether has is ended never =
      let untold : is_told (get s.writes v) ≡ true → ⊥ = λ told. never ((taken-whole says size parser v id until pieces f taken).1 (ended told)) in
      let may : MayFailPiece (InBody v id until) s e = elim why [ inl may ↦ may | inr failed ↦ absurd (not-failed s t says size parser (InBody v id until) pieces f e taken (λ z h. absurd (cc)) (λ z h. absurd (cc)) failed) ] in
      (None, inr (inr (e, body-refusal s t (facts s t k (InBody v id until)) v id until e untold may, refl, ap R.Refused same, is ∙ ap (λ o. piece_noted (slot k) o None None ++ drop_of o) has)))
  refused-answers says size parser pieces f k (InBody v id until) end (Some m) e kind writer w events taken again on same begins why whether has is ended never = none-some m begins
  refused-answers says size parser pieces f k (HasDeclined reason) end began e kind writer w events taken again on same begins why whether has is ended never = absurd (let g : ◌≡◌ {A = PieceEnd M} (piece.Refused e writer) (piece.NotCached reason) = sym on ∙ again in cc)
  refused-answers says size parser pieces f k (IsOver over) end None e kind writer w events taken again on same begins why whether has is ended never =
      let g : ◌≡◌ {A = PieceEnd M} (piece.Refused e writer) (piece.Refused over None) = sym on ∙ again in
      let which : e ≡ over = cc in
      (ap R.Refused (same ∙ which), is ∙ ap (λ o. piece_noted (slot k) o None None ++ drop_of o) has)
  refused-answers says size parser pieces f k (IsOver over) end (Some m) e kind writer w events taken again on same begins why whether has is ended never = none-some m begins

-- ---- how a piece ended, as it is known

pub ends-on : {M : Type 0} (write : M → ℕ) (end : PieceEnd M) (before after : Stage) → end ≡ piece.GoesOn → EndsPiece write end before after → after ≡ before
ends-on write end before after is ends = subst (λ z. EndsPiece write z before after) is ends

pub ends-declined : {M : Type 0} (write : M → ℕ) (end : PieceEnd M) (reason : NoCacheReason) (before after : Stage) → end ≡ piece.NotCached reason → EndsPiece write end before after → (after ≡ HasDeclined reason) × (write_in before ≡ None)
ends-declined write end reason before after is ends = subst (λ z. EndsPiece write z before after) is ends

pub ends-refused : {M : Type 0} (write : M → ℕ) (end : PieceEnd M) (e : ErrorType) (writer : Option M) (before after : Stage) → end ≡ piece.Refused e writer → EndsPiece write end before after → (after ≡ IsOver e) × (option_map write writer ≡ write_in before)
ends-refused write end e writer before after is ends = subst (λ z. EndsPiece write z before after) is ends

-- a piece that failed did not come after the whole body
pub refused-never : {M : Type 0} (p : Taking) (end : PieceEnd M) (e : ErrorType) (writer : Option M) → end ≡ piece.Refused e writer → (HasWholeBody p.stage p.parser → end ≡ piece.GoesOn) → HasWholeBody p.stage p.parser → ⊥
refused-never {M = M} p end e writer is ignored whole = let no : ◌≡◌ {A = PieceEnd M} (piece.Refused e writer) piece.GoesOn = sym is ∙ ignored whole in absurd (cc)

pub noted-drop : (w v : Option ℕ) (mid events : List Event) → w ≡ v → events ≡ mid ++ drop_of v → events ≡ mid ++ drop_of w
noted-drop w v mid events same is = is ∙ ap (λ o. mid ++ drop_of o) (sym same)

pub left-drop : (w v : Option ℕ) (s u : Store) → w ≡ v → u ≡ dropped_by v s → u ≡ dropped_by w s
left-drop w v s u same is = is ∙ ap (λ o. dropped_by o s) (sym same)

-- a piece that failed wrote nothing
pub refused-unwritten : {M : Type 0} (end : PieceEnd M) (e : ErrorType) (writer : Option M) (b : Option Written) → end ≡ piece.Refused e writer → IfRefused end (λ _. b ≡ None) → b ≡ None
refused-unwritten end e writer b on none = subst (λ z. IfRefused z (λ _. b ≡ None)) on none

pub refused-noted : (j : ℕ) (w v : Option ℕ) (began : Option Meta) (b : Option Written) (old mid events : List Event) → old ≡ [] → mid ≡ old ++ piece_noted j w began b → b ≡ None → w ≡ v → events ≡ mid ++ drop_of v → events ≡ piece_noted j w began None ++ drop_of w
refused-noted j w v began b old mid events none one unwritten same is = noted-drop w v mid events same is ∙ ap (λ es. es ++ drop_of w) (one ∙ (λ i. none i ++ piece_noted j w began (unwritten i)))

pub refused-answers-of : {M : Type 0} (s : Store) (t : Locks) (says : Says) (p : Taking) (pieces : List Piece) (f : Option Filled) (end : PieceEnd M) (began : Option Meta) (e kind : ErrorType) (writer : Option M) (w : Option ℕ) (j : ℕ) (events : List Event)
    → TakenBy says p.size p.parser p.stage pieces f → ReturnsAgain p.stage end → end ≡ piece.Refused e writer → kind ≡ e → BeginsAtHead p.stage began → IfRefused end (λ z. MayFailPiece p.stage s z ⊎ (p.parser ≡ HasFailed z)) → IfRefused end (λ z. IsBegunBefore p.stage z began ⊎ (p.parser ≡ HasFailed z))
    → w ≡ write_in (stage_begun p.stage began s.next (Some s.next)) → j ≡ slot p.key → events ≡ piece_noted j w began None ++ drop_of w → EndsWhole s (write_in p.stage) pieces → (HasWholeBody p.stage p.parser → ⊥) → Feeds (facts_in s t (ongoing_put p).request) (Some p) (R.Refused kind) events
refused-answers-of s t says p pieces f end began e kind writer w j events taken again on same begins why whether has at is ended never =
    refused-answers s t says p.size p.parser pieces f p.key p.stage end began e kind writer w events taken again on same begins
    (subst (λ z. IfRefused z (λ y. MayFailPiece p.stage s y ⊎ (p.parser ≡ HasFailed y))) on why)
    (subst (λ z. IfRefused z (λ y. IsBegunBefore p.stage y began ⊎ (p.parser ≡ HasFailed y))) on whether) has (is ∙ ap (λ k. piece_noted k w began None ++ drop_of w) at) ended never
