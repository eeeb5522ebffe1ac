-- A meta that is set only for the body of the write that it names: what holds after a meta was set, or nothing changed.
use Rattle.pcache_cache.specs.Renewing.{RenewsIf, RenewsOwn, is_its_body, stock}
use Rattle.pcache_cache.proofs.Words.{◌≡◌, ℕ, Bool, true, false, Option, Some, Result, Ok, Err, refl, sym, subst, OnOk, get, Key, slot, ErrorType, Limits, Meta, Past, Stored, complete_body, Parts, Renews, Stock, meta_given, Account, IsItsKey, TracksOnly, IfRoom, KeepsBodies, weight_with, Weighing}
use Rattle.pcache_cache.proofs.Adding.{KeptByNotes, renews_keeps}
use Rattle.pcache_cache.proofs.Only.{only_renewed}
use Rattle.pcache_cache.proofs.Room.{renewed_room}

-- what follows of a renewal, and where nothing changed, follows
either_way : {P : Type 0} (how : Weighing) (limits : Limits) (x : Meta) (key : Option Key) (result : Result Bool ErrorType) (a b : Stock) → RenewsOwn how limits x key result a b → (Renews how limits x key result a b → P) → (b ≡ a → P) → P
either_way {P} how limits x key result a b renews done same = by (is_its_body x key a.store) renews
  where
    by : (own : Bool) → RenewsIf own how limits x key result a b → P
    by true r = done r
    by false r = same r.1

pub only_own : (of : Account) (how : Weighing) (limits : Limits) (x : Meta) (k : Key) (result : Result Bool ErrorType) (a b : Stock) → RenewsOwn how limits x (Some k) result a b → ((c : Stored) → complete_body (get a.store.slots (slot k)) ≡ Some c → (w : ℕ) × (c.meta.entry_id ≡ Some w)) → IsItsKey of (Some k)
    → TracksOnly of how a.store a.tracked → TracksOnly of how b.store b.tracked
only_own of how limits x k result a b renews number its only =
    either_way how limits x (Some k) result a b renews (λ r. only_renewed of how limits x k result a b r number its only) (λ same. subst (λ (y : Stock). TracksOnly of how y.store y.tracked) (sym same) only)

pub own_room : (p : Parts) (x : Meta) (key : Option Key) (result : Result Bool ErrorType) (b : Stock) → RenewsOwn p.weighing p.limits x key result (stock p) b → OnOk result (IfRoom key (weight_with p.weighing x key p.store) p (KeepsBodies p.store b.store))
own_room p x key result b renews =
    either_way p.weighing p.limits x key result (stock p) b renews (renewed_room p x key result b) (λ same. unchanged result same)
  where
    unchanged : (result : Result Bool ErrorType) → b ≡ stock p → OnOk result (IfRoom key (weight_with p.weighing x key p.store) p (KeepsBodies p.store b.store))
    unchanged (Ok there) same = λ of none its only room. subst (λ (y : Stock). KeepsBodies p.store y.store) (sym same) (λ k. refl)
    unchanged (Err e) same = tt

pub own_keeps : {Q : Past → Type 0} → KeptByNotes Q → (how : Weighing) (limits : Limits) (x : Meta) (key : Option Key) (result : Result Bool ErrorType) (a b : Stock) → (is_its_body x key a.store ≡ true → Q (Some (meta_given x key a).past)) → RenewsOwn how limits x key result a b → Q (Some a.past) → Q (Some b.past)
own_keeps {Q} keeps how limits x key result a b given renews is = by (is_its_body x key a.store) refl renews
  where
    by : (own : Bool) → is_its_body x key a.store ≡ own → RenewsIf own how limits x key result a b → Q (Some b.past)
    by true own r = renews_keeps keeps how limits x key result a b (given own) r is
    by false own r = subst (λ (y : Stock). Q (Some y.past)) (sym r.1) is
