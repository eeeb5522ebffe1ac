-- Each meta that a cache sets names the write whose body it is for.
use Rattle.std.proofs.Common.{IsSome, if◌then◌else◌}
use Rattle.pcache_cache.specs.Renewing.{is_its_body, is_same_number}
use Rattle.pcache_request.specs.Failures.{FailsToLook}
use Rattle.pcache_request.specs.StorePasts.{begun_past, looked_past, searched_past, writing_past}
use Rattle.pcache_request.specs.WriteEnds.{EndsAs}
use Rattle.pcache_store.specs.OneResponse.{SetsNameTheirs}
use Rattle.pcache_store.specs.Past.{Began, Dropped, Expired, Finished, Joined, Left, MetaSet, Purged, WritePurged, Wrote}
use Rattle.pcache_store.specs.PastLaws.{BodiesAreLast, NothingIsLost}
use Rattle.pcache_store.specs.PastSays.{body_stored, is_removed, last_finished}
use Rattle.pcache_cache.proofs.Words.{◌≡◌, ℕ, inl, inr, Bool, true, false, Option, None, Some, List, Result, Ok, Err, refl, ap, sym, subst, ◌∙◌, option_and_then, IfErr, OnErr, OnOk, eqb-true, get, Key, slot, ErrorType, Deeds, Decision, FailsToBegin, FinishReport, Locks, Meta, Note, Past, PutOutcome, Request, Stage, Store, Stored, Stock, body_number, complete_body, meta_given, number_of_body, in_memory}
use Rattle.pcache_cache.proofs.Adding.{KeptByNotes, begun_keeps, ends_put_keeps, ends_request_keeps, looked_past_keeps, searched_keeps, writing_keeps}
use Rattle.pcache_put.specs.Pasts.{EndsPutPast}
use Rattle.pcache_put.specs.Steps as put
use Rattle.pcache_put.specs.declared.report.PutEnd.TheVariants as put_end
use Rattle.pcache_put.specs.declared.report.PutOutcome.TheVariants as answer
use Rattle.pcache_request.specs.StorePasts.{EndsRequestPast}
use Rattle.pcache_request.specs.declared.cache.finish.WriteEnd.TheVariants as end

-- in a past, if one is kept, each meta that was set names its write
abbrev pub NamesIn : Past → Type 0
NamesIn None = Unit {0}
NamesIn (Some past) = SetsNameTheirs past

-- no note but that of a meta changes that
pub names_kept : KeptByNotes NamesIn
names_kept n None other is = is
names_kept None (Some past) other is = is
names_kept (Some (Began k w m)) (Some past) other is = is
names_kept (Some (Wrote w bytes eof)) (Some past) other is = is
names_kept (Some (Finished w)) (Some past) other is = is
names_kept (Some (Dropped w)) (Some past) other is = is
names_kept (Some (Purged k)) (Some past) other is = is
names_kept (Some (WritePurged k w)) (Some past) other is = is
names_kept (Some (MetaSet k m)) (Some past) other is = absurd (cc)
names_kept (Some (Expired k now)) (Some past) other is = is
names_kept (Some (Joined w)) (Some past) other is = is
names_kept (Some (Left w)) (Some past) other is = is

-- ---- a call that added this and no more, or failed and added nothing, or something else

pub names_done : (f : Past → Past) (p q : Past) → ((x : Past) → NamesIn x → NamesIn (f x)) → q ≡ f p → NamesIn p → NamesIn q
names_done f p q keeps is named = subst NamesIn (sym is) (keeps p named)

pub names_either : {A E : Type 0} (result : Result A E) (f h : Past → Past) (p q : Past) → ((x : Past) → NamesIn x → NamesIn (f x)) → ((x : Past) → NamesIn x → NamesIn (h x)) → OnOk result (q ≡ f p) → OnErr result (q ≡ h p) → NamesIn p → NamesIn q
names_either (Ok a) f h p q keeps keeps' ok err named = names_done f p q keeps ok named
names_either (Err e) f h p q keeps keeps' ok err named = names_done h p q keeps' err named

pub names_if : {A E : Type 0} (result : Result A E) (f : Past → Past) (p q : Past) → ((x : Past) → NamesIn x → NamesIn (f x)) → OnOk result (q ≡ f p) → OnErr result (q ≡ p) → NamesIn p → NamesIn q
names_if result f p q keeps ok err named = names_either result f (λ x. x) p q keeps (λ x is. is) ok err named

-- a look-up, which may let a hidden reader go though it fails
pub names_looked : {A : Type 0} (result : Result A ErrorType) (d : Option Decision) (s t : Store) (p q : Past) (r : Request) → OnOk result (q ≡ looked_past d s r p) → OnErr result (FailsToLook s r p t q) → NamesIn p → NamesIn q
names_looked (Ok a) d s t p q r ok err named = names_done (looked_past d s r) p q (looked_past_keeps names_kept d s r) ok named
names_looked (Err e) d s t p q r ok (inl same) named = subst NamesIn (sym same.1) named
names_looked (Err e) d s t p q r ok (inr looked) named = names_done (searched_past s r) p q (searched_keeps names_kept s r) looked.1 named

-- the begin of a write, which may have begun though it failed
pub names_begun : {A : Type 0} (result : Result A ErrorType) (s t : Store) (p q : Past) (x y : Locks) (d e : Deeds) (r r' : Request) → OnOk result (q ≡ writing_past true s r p) → IfErr result (λ why. FailsToBegin true s p x d r why t q y e r') → NamesIn p → NamesIn q
names_begun (Ok a) s t p q x y d e r r' ok err named = names_done (writing_past true s r) p q (writing_keeps names_kept true s r) ok named
names_begun (Err why) s t p q x y d e r r' ok (inl same) named = subst NamesIn (sym same.2) named
names_begun (Err why) s t p q x y d e r r' ok (inr begun) named = names_done (begun_past s r) p q (begun_keeps names_kept s r) begun.2 named

-- the end of a write, and of a put
pub names_ended : (result : Result (Option FinishReport) ErrorType) (k : Option Key) (w : Option ℕ) (p q : Past) → EndsAs result (λ how. EndsRequestPast in_memory k w how p q) → NamesIn p → NamesIn q
names_ended (Ok None) k w p q is named = ends_request_keeps names_kept in_memory k w end.Nothing p q is named
names_ended (Ok (Some f)) k w p q is named = ends_request_keeps names_kept in_memory k w (end.Stored f) p q is named
names_ended (Err e) k w p q (inl is) named = ends_request_keeps names_kept in_memory k w (end.Dropped e) p q is named
names_ended (Err e) k w p q (inr is) named = ends_request_keeps names_kept in_memory k w (end.Withdrawn e) p q is named

pub names_put_ended : (result : Result PutOutcome ErrorType) (k : Key) (stage : Stage) (p q : Past) → put.EndsAs result (λ how. EndsPutPast in_memory k stage how p q) → NamesIn p → NamesIn q
names_put_ended (Ok (answer.NotCached reason)) k stage p q is named = ends_put_keeps names_kept in_memory k stage (put_end.NotCached reason) p q is named
names_put_ended (Ok (answer.Stored report)) k stage p q is named = ends_put_keeps names_kept in_memory k stage (put_end.Stored report) p q is named
names_put_ended (Err e) k stage p q (inl is) named = ends_put_keeps names_kept in_memory k stage (put_end.Refused e) p q is named
names_put_ended (Err e) k stage p q (inr (inl is)) named = ends_put_keeps names_kept in_memory k stage (put_end.Dropped e) p q is named
names_put_ended (Err e) k stage p q (inr (inr is)) named = ends_put_keeps names_kept in_memory k stage (put_end.Withdrawn e) p q is named

-- ---- a meta is set for the body of the write that it names

body-last : (s : Store) (past : List Note) → BodiesAreLast s past → NothingIsLost s past → (k : ℕ) (b : Stored) → complete_body (get s.slots k) ≡ Some b → b.meta.entry_id ≡ last_finished k past
body-last s past last lost k b there = by (last_finished k past) refl
  where
    by : (o : Option ℕ) → last_finished k past ≡ o → b.meta.entry_id ≡ o
    by None is = let none : complete_body (get s.slots k) ≡ None = last k ∙ ap (option_and_then (λ w. if is_removed k w past then None else body_stored k w past)) is in absurd (cc)
    by (Some w) is = go (is_removed k w past) refl
      where
        go : (r : Bool) → is_removed k w past ≡ r → b.meta.entry_id ≡ Some w
        go true so = let none : complete_body (get s.slots k) ≡ None = last k ∙ ap (option_and_then (λ w. if is_removed k w past then None else body_stored k w past)) is ∙ ap (λ r. if r then None else body_stored k w past) so in absurd (cc)
        go false so = let p = lost k w is so in let same : p.0 ≡ b = cc in ap (λ (x : Stored). x.meta.entry_id) (sym same) ∙ p.2

same-number : (n m : Option ℕ) → is_same_number n m ≡ true → IsSome n × (n ≡ m)
same-number None m h = absurd (cc)
same-number (Some w) None h = absurd (cc)
same-number (Some w) (Some v) h = (refl, ap Some (sym (eqb-true v w h)))

pub set_named : (x : Meta) (key : Option Key) (a : Stock) → BodiesAreLast a.store a.past → NothingIsLost a.store a.past → is_its_body x key a.store ≡ true → SetsNameTheirs a.past → SetsNameTheirs (meta_given x key a).past
set_named x None a last lost own named = absurd (cc)
set_named x (Some k) a last lost own named =
    let both = same-number x.entry_id (body_number a.store (slot k)) own in
    (both.0, both.1 ∙ numbered (complete_body (get a.store.slots (slot k))) refl (subst IsSome both.1 both.0), named)
  where
    numbered : (o : Option Stored) → complete_body (get a.store.slots (slot k)) ≡ o → IsSome (number_of_body o) → number_of_body o ≡ last_finished (slot k) a.past
    numbered None is some = absurd (cc)
    numbered (Some b) is some = body-last a.store a.past last lost (slot k) b is
