-- Loads come first in a legal history, and make no event: so it is legal from whatever the manager tracked before them.
use Rattle.pcache_history.specs.declared.call.FilesAct.{FilesAct}
use Rattle.pcache_history.specs.Files.{files_in, is_load, only_loads}
use Rattle.pcache_history.specs.Headline.{LoadsComeFirst}
use Rattle.pcache_history.specs.Rules.{IsFilesReply}
use Rattle.pcache_history.proofs.Words.{◌≡◌, ℕ, ◌↔◌, Bool, true, false, ◌&&◌, Option, None, Some, List, [], ◌∷◌, ◌++◌, reverse, refl, sym, subst, ◌∙◌, inl, inr, both_ways, Tracked, Limits, Act, Reply, Entry, Event, AreDue, makes_of, Facts, IsEarly, Ongoing, request_of, row, events_of, IsLegal, FindsKind, IsCopy, IsOther, Replies}
use Rattle.pcache_history.specs.declared.call.Act.TheVariants as C
use Rattle.pcache_history.specs.declared.call.FilesAct.TheVariants as F
use Rattle.pcache_history.specs.declared.call.Reply.TheVariants as R
use Rattle.pcache_history.proofs.Copied.{other-copied, wrong-copied}

-- any number may stand with a call on files
finds_files : (a : FilesAct) (q : Option Ongoing) → FindsKind (C.Files a) q
finds_files a None = tt
finds_files a (Some x) = tt

other_files : (a : FilesAct) (reply : Reply) → IsFilesReply a reply → IsOther reply
other_files F.Save R.WrongCall is = absurd is
other_files F.Load R.WrongCall is = absurd is
other_files a reply is = tt

not-true : (b : Bool) → (b ≡ true → ⊥) → b ≡ false
not-true true never = absurd (never refl)
not-true false never = refl

-- a call on files that is done, and one that is a wrong one
done-files : (f : Facts) (a : FilesAct) (reply told : Reply) (h : List Entry) → IsOther reply → IsCopy reply told → f.early ≡ only_loads h → (a ≡ F.Load → f.early ≡ true) → (told ≡ R.WrongCall) ↔ ((a ≡ F.Load) × (only_loads h ≡ false))
done-files f a reply told h other copy early may = (λ wrong. absurd (subst IsOther wrong (other-copied reply told copy other)), λ p. absurd (both_ways f.early (early ∙ p.1) (may p.0)))

law-of : (f : Facts) (a : FilesAct) (q : Option Ongoing) (reply told : Reply) (events : List Event) (h : List Entry) → Replies f (C.Files a) q reply events → IsCopy reply told → IsEarly (C.Files a) f h
    → ((told ≡ R.WrongCall) ↔ ((a ≡ F.Load) × (only_loads h ≡ false))) × (events ≡ [])
law-of f F.Save q reply told events h (inl (finds, inl (may, other, does))) copy early =
    ((λ wrong. absurd (subst IsOther wrong (other-copied reply told copy other)), λ p. let no : ◌≡◌ {A = FilesAct} F.Save F.Load = p.0 in absurd (cc)), does.1)
law-of f F.Load q reply told events h (inl (finds, inl (may, other, does))) copy early = (done-files f F.Load reply told h other copy early (λ _. may), does.1)
law-of f F.Save q reply told events h (inl (finds, inr (fails, idle))) copy early = absurd (fails tt)
law-of f F.Load q reply told events h (inl (finds, inr (fails, idle))) copy early = ((λ _. (refl, sym early ∙ not-true f.early fails), λ _. wrong-copied reply told copy idle.0), idle.1)
law-of f a q reply told events h (inr (other, idle)) copy early = absurd (other (finds_files a q))

pub loads_come_first : LoadsComeFirst
loads_come_first age limits start before entry a l is =
    let g = l.0 in
    law-of g.facts a (request_of entry.call.request before) g.reply_made entry.reply entry.events before
    (subst (λ (act : Act). Replies g.facts act (request_of entry.call.request before) g.reply_made entry.events) is g.answers) g.copy
    (subst (λ (act : Act). IsEarly act g.facts before) is l.3)

-- A history of loads alone.

load-idle : (f : Facts) (act : Act) (q : Option Ongoing) (reply : Reply) (events : List Event) → Replies f act q reply events → is_load act ≡ true → events ≡ []
load-idle f (C.Files F.Load) q reply events (inl (finds, inl (may, other, does))) is = does.1
load-idle f (C.Files F.Load) q reply events (inl (finds, inr (fails, idle))) is = idle.1
load-idle f (C.Files F.Load) q reply events (inr (other, idle)) is = idle.1
load-idle f act q reply events answers is = absurd (both_ways false refl is)

both-true : (a b : Bool) → (a && b) ≡ true → (a ≡ true) × (b ≡ true)
both-true true b is = (refl, is)
both-true false b is = absurd (both_ways false refl is)

-- it has no event
pub loads-silent : (age : ℕ) (limits : Limits) (start : Tracked) (h : List Entry) → IsLegal age limits start h → only_loads h ≡ true → events_of h ≡ []
loads-silent age limits start [] l is = refl
loads-silent age limits start (e ∷ h) l is =
    let both = both-true (is_load e.call.act) (only_loads h) is in
    let idle : e.events ≡ [] = load-idle l.0.facts e.call.act (request_of e.call.request h) l.0.reply_made e.events l.0.answers both.0 in
    let rest : events_of h ≡ [] = loads-silent age limits start h l.1 both.1 in
    λ i. reverse (idle i) ++ rest i

none-due : (limits : Limits) (start start' : Tracked) (es : List Event) (q : Option Ongoing) (o o' : Option ℕ) (events : List Event) → events ≡ [] → AreDue limits start es q o None events o' → AreDue limits start' es q o None events o'
none-due limits start start' es q o o' events is due =
    let none : AreDue limits start es q o None [] o' = subst (λ (xs : List Event). AreDue limits start es q o None xs o') is due in
    subst (λ (xs : List Event). AreDue limits start' es q o None xs o') (sym is) (none.0, none.1)

-- so it is legal from any start
pub loads-start : (age : ℕ) (limits : Limits) (start start' : Tracked) (h : List Entry) → IsLegal age limits start h → only_loads h ≡ true → IsLegal age limits start' h
loads-start age limits start start' [] l is = tt
loads-start age limits start start' (e ∷ h) l is =
    let g = l.0 in
    let q = request_of e.call.request h in
    let both = both-true (is_load e.call.act) (only_loads h) is in
    let idle : e.events ≡ [] = load-idle g.facts e.call.act q g.reply_made e.events g.answers both.0 in (
      record {
        facts = g.facts;
        says = g.says;
        reply_made = g.reply_made;
        answers = g.answers;
        copy = g.copy;
        due = none-due limits start start' (events_of h) q (makes_of q) (makes_of (row e.call.act e.reply e.events q)) e.events idle g.due;
        keeps = g.keeps;
        given = g.given;
      },
      loads-start age limits start start' h l.1 both.1,
      l.2,
      l.3,
    )

-- The reply to a call on files, and whether a call that is none is a load.

-- the reply, if only loads came before it or not
pub answers-files : (f : Facts) (a : FilesAct) (q : Option Ongoing) (reply : Reply) → IsFilesReply a reply → (a ≡ F.Load → f.early ≡ true) → Replies f (C.Files a) q reply []
answers-files f F.Save q reply is may = inl (finds_files F.Save q, inl (tt, other_files F.Save reply is, (is, refl)))
answers-files f F.Load q reply is may = inl (finds_files F.Load q, inl (may refl, other_files F.Load reply is, (is, refl)))

pub late-load : (f : Facts) (q : Option Ongoing) (reply : Reply) → reply ≡ R.WrongCall → f.early ≡ false → Replies f (C.Files F.Load) q reply []
late-load f q reply is late = inl (finds_files F.Load q, inr ((λ may. both_ways f.early late may), (is, refl)))

pub no-load : (act : Act) → files_in act ≡ None → is_load act ≡ false
no-load (C.Files F.Load) is = absurd (cc)
no-load act is = refl
