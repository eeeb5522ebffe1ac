-- No call of a cache unlocks a permit that is held.
use Rattle.std.proofs.Common.{◌||◌}
use Rattle.std.specs.List.{list_any}
use Rattle.pcache_request.specs.WriteEnds.{EndsAs}
use Rattle.pcache_cache.proofs.Words.{◌≡◌, inl, inr, ℕ, true, false, Option, None, Some, Result, Ok, Err, IfErr, OnOk, OnErr, sym, subst, ErrorType, Locks, UnlocksNone, is_unlocking, Locked, Done, FailsToBegin, Deeds, end_deeds, settled_deeds, Request, Past, FinishReport, Store}
use Rattle.pcache_cache.proofs.Adding.{KeptByDeeds, end_keeps, settled_keeps}
use Rattle.pcache_request.specs.declared.cache.finish.WriteEnd.TheVariants as end

-- in a past, if one is kept, no permit was unlocked
abbrev pub NoneIn : Deeds → Type 0
NoneIn None = Unit {0}
NoneIn (Some past) = UnlocksNone past

-- no deed but an unlocking changes that
pub none_kept : KeptByDeeds NoneIn
none_kept d None other is = is
none_kept d (Some past) other is = subst (λ b. (b || list_any is_unlocking past) ≡ false) (sym other) is

-- so none was after a call that did this and no more, or failed and did nothing
pub once_done : (f : Deeds → Deeds) (p q : Deeds) → ((x : Deeds) → NoneIn x → NoneIn (f x)) → q ≡ f p → NoneIn p → NoneIn q
once_done f p q keeps is none = subst NoneIn (sym is) (keeps p none)

pub if_done : {A E : Type 0} (result : Result A E) (f : Deeds → Deeds) (p q : Deeds) → ((x : Deeds) → NoneIn x → NoneIn (f x)) → OnOk result (q ≡ f p) → OnErr result (q ≡ p) → NoneIn p → NoneIn q
if_done (Ok a) f p q keeps ok err none = once_done f p q keeps ok none
if_done (Err e) f p q keeps ok err none = subst NoneIn (sym err) none

-- the same of the begin of a write, which may have released the permit though it failed
pub if_begun : {A : Type 0} (result : Result A ErrorType) (s t : Store) (p q : Past) (x y : Locks) (d e : Deeds) (r r' : Request) → OnOk result (e ≡ settled_deeds Done r.held d) → IfErr result (λ why. FailsToBegin true s p x d r why t q y e r') → NoneIn d → NoneIn e
if_begun (Ok a) s t p q x y d e r r' ok err none = once_done (settled_deeds Done r.held) d e (settled_keeps none_kept Done r.held) ok none
if_begun (Err why) s t p q x y d e r r' ok (inl same) none = subst NoneIn (sym same.4) none
if_begun (Err why) s t p q x y d e r r' ok (inr begun) none = once_done (settled_deeds Done r.held) d e (settled_keeps none_kept Done r.held) begun.4 none

-- the same of the end of a write
pub if_ended : (result : Result (Option FinishReport) ErrorType) (w : Option ℕ) (h : Option Locked) (p q : Deeds) → EndsAs result (λ how. q ≡ end_deeds w h how p) → NoneIn p → NoneIn q
if_ended (Ok None) w h p q is none = once_done (end_deeds w h end.Nothing) p q (end_keeps none_kept w h end.Nothing) is none
if_ended (Ok (Some f)) w h p q is none = once_done (end_deeds w h (end.Stored f)) p q (end_keeps none_kept w h (end.Stored f)) is none
if_ended (Err e) w h p q (inl is) none = once_done (end_deeds w h (end.Dropped e)) p q (end_keeps none_kept w h (end.Dropped e)) is none
if_ended (Err e) w h p q (inr is) none = once_done (end_deeds w h (end.Withdrawn e)) p q (end_keeps none_kept w h (end.Withdrawn e)) is none
