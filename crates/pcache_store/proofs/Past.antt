-- A store that knows its past: what each call did leads from the store before it to the one after it.
use Rattle.pcache_base.specs.CompactKey.{compact_slot}
use Rattle.pcache_evict.specs.Entry.{key_of, id_of}
use Rattle.pcache_store.specs.declared.storage.PurgeTarget.{PurgeTarget}
use Rattle.pcache_store.specs.declared.storage.PurgeTarget.TheVariants.{Active, Exact}
use Rattle.pcache_store.specs.Store.{Part, followed, followed_by}
use Rattle.pcache_store.specs.Purge.{entry_purged_in, expired_at, target_purged}
use Rattle.pcache_store.specs.Notes.{added, joined_by, look_noted, removal_noted}
use Rattle.pcache_store.proofs.Words.{◌≡◌, ℕ, Bool, true, sym, subst, List, [], ◌∷◌, Option, None, Some, refl, Meta, Store, Reader, Whole, ap, ◌∙◌, get, finished_on, dropped_on, Note, Began, Wrote, Finished, Dropped, Purged, WritePurged, MetaSet, Expired, Joined, Left, Leads, PastLeads, IsWhatPastSays, empty_from, expiry_noted, purge_noted}

-- what a call that adds this note, or none, makes of a store
abbrev pub LeadsIf : Option Note → Store → Store → Type 0
LeadsIf None s t = t ≡ s
LeadsIf (Some note) s t = Leads note s t

pub begins : (start : ℕ) (newest : Bool) → IsWhatPastSays (empty_from start newest) []
begins start newest =
    let is : PastLeads [] (empty_from start newest) (empty_from start newest) = refl in
    (start, is)

-- no call changes whether a store prefers the newest response
pub mode-kept : (note : Note) (s t : Store) → Leads note s t → t.newest ≡ s.newest
mode-kept (Began k n m) s t h = ap (λ (u : Store). u.newest) h.1
mode-kept (Wrote n bytes eof) s t h = ap (λ (u : Store). u.newest) h
mode-kept (Finished n) s t h = ap (λ (u : Store). u.newest) h.2 ∙ elim (get s.writes n) as (λ o. (finished_on s n o).newest ≡ s.newest) [ None ↦ refl | Some w ↦ refl ]
mode-kept (Dropped n) s t h = ap (λ (u : Store). u.newest) h ∙ elim (get s.writes n) as (λ o. (dropped_on s n o).newest ≡ s.newest) [ None ↦ refl | Some w ↦ refl ]
mode-kept (Purged k) s t h = ap (λ (u : Store). u.newest) h
mode-kept (WritePurged k n) s t h = ap (λ (u : Store). u.newest) h
mode-kept (MetaSet k m) s t h = ap (λ (u : Store). u.newest) h
mode-kept (Expired k now) s t h = ap (λ (u : Store). u.newest) h
mode-kept (Joined n) s t h = ap (λ (u : Store). u.newest) h
mode-kept (Left n) s t h = ap (λ (u : Store). u.newest) h

-- nor do several
pub mode-led : (past : List Note) (start : ℕ) (newest : Bool) (t : Store) → PastLeads past (empty_from start newest) t → t.newest ≡ newest
mode-led [] start newest t h = ap (λ (u : Store). u.newest) h
mode-led (note ∷ past) start newest t h = mode-kept note h.0 t h.1.1 ∙ mode-led past start newest h.0 h.1.0

pub grows : (s t : Store) (past : List Note) (note : Option Note) → IsWhatPastSays s past → LeadsIf note s t → IsWhatPastSays t (added note past)
grows s t past None is same = rw same is
grows s t past (Some note) is leads =
    let step : PastLeads (note ∷ past) (empty_from is.0 s.newest) t = (s, (is.1, leads)) in
    (is.0, subst (λ b. PastLeads (note ∷ past) (empty_from is.0 b) t) (sym (mode-kept note s t leads)) step)

-- a look-up
looks-by : (s : Store) (r : Reader) → LeadsIf (joined_by r) s (followed_by s r)
looks-by s (Whole id body start stop done) = refl
looks-by s (Part n place) = refl

pub looks : (s : Store) (found : Option (Meta × Reader)) → LeadsIf (look_noted found) s (followed s found)
looks s None = refl
looks s (Some p) = looks-by s p.1

-- a removal
removes-in : (s : Store) (k : ℕ) (id : Option ℕ) → LeadsIf (removal_noted true k id) s (entry_purged_in true s k id)
removes-in s k None = refl
removes-in s k (Some n) = refl

pub removes : (s : Store) (target : PurgeTarget) → LeadsIf (purge_noted true target) s (target_purged true s target)
removes s (Active k) = refl
removes s (Exact e) = removes-in s (compact_slot (key_of e.now)) (id_of e.now)

-- an expiry
pub expires : (now : ℕ) (s : Store) (slot : Option ℕ) → LeadsIf (expiry_noted now slot) s (expired_at now s slot)
expires now s None = refl
expires now s (Some k) = refl
