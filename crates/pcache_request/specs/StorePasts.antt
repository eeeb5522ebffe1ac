-- What each call of a request adds to the past of its storage (own): a note for each thing that it does there, in order. A
-- storage that keeps no past has none afterwards either.
use Rattle.std.specs.Prelude.{◌≡◌, ◌⊎◌, ℕ, List, Bool, false, Option, Some, None, cond, option_map}
use Rattle.pcache_base.specs.Key.{Key, slot}
use Rattle.pcache_evict.specs.Entry.{id_of}
use Rattle.pcache_evict.specs.declared.eviction.entry_key.CacheEntryKey.{CacheEntryKey}
use Rattle.pcache_meta.specs.Meta.{Meta}
use Rattle.pcache_store.specs.Notes.{expiry_noted, leave_noted, look_noted, noted, removal_noted}
use Rattle.pcache_store.specs.Past.{Began, Dropped, Finished, MetaSet, Note, Purged}
use Rattle.pcache_store.specs.Store.{Guarantees, Reader, Store}
use Rattle.pcache_request.specs.Admissions.{is_deferral}
use Rattle.pcache_request.specs.Finishing.{TakesAll, entry_slot}
use Rattle.pcache_request.specs.Renewals.{renewed_by}
use Rattle.pcache_request.specs.Requests.{Request, begin_followed, found_for, reader_in}
use Rattle.pcache_request.specs.Variants.{is_hidden}
use Rattle.pcache_request.specs.declared.cache.finish.WriteEnd.{WriteEnd}
use Rattle.pcache_request.specs.declared.cache.finish.WriteEnd.TheVariants as end
use Rattle.pcache_request.specs.declared.phase.HitStatus.{HitStatus}
use Rattle.pcache_predict.specs.declared.admission.Decision.{Decision}
use Rattle.pcache_request.specs.Phases.{is_treated_as_miss}

-- what was done to a storage, the newest first, or none if it keeps no past
abbrev pub Past : Type 0
Past = Option (List Note)

-- a reader is let go, or a write dropped, if there is one
abbrev pub left_past : Option Reader → Past → Past
left_past None p = p
left_past (Some r) p = noted (leave_noted r) p

abbrev pub dropped_past : Option ℕ → Past → Past
dropped_past None p = p
dropped_past (Some w) p = noted (Some (Dropped w)) p

-- the request's key is looked up
abbrev pub found_past : Store → Option Key → Past → Past
found_past s k p = noted (look_noted (found_for s k)) p

-- the same, and the pair that was found is let go again
abbrev pub passed_past : Store → Option Key → Past → Past
passed_past s k p = left_past (reader_in (found_for s k)) (found_past s k p)

-- the reader of a hidden pair is let go
abbrev pub hidden_past : Option ℕ → Option (Meta × Reader) → Past → Past
hidden_past from None p = p
hidden_past from (Some q) p = cond (is_hidden from q.0.created) (noted (leave_noted q.1) p) p

-- a look-up without a policy, and one with a decision
abbrev pub searched_past : Store → Request → Past → Past
searched_past s r p = hidden_past r.valid_after (found_for s r.key) (found_past s r.key p)

abbrev pub looked_past : Option Decision → Store → Request → Past → Past
looked_past d s r p = cond (is_deferral d) (left_past r.reader (dropped_past r.write (found_past s r.key p))) (searched_past s r p)

-- a found pair is taken: a hit that is treated as a miss and a reader that is replaced are let go
abbrev pub taken_past : HitStatus → Reader → Request → Past → Past
taken_past s h r p = left_past r.reader (cond (is_treated_as_miss s) (noted (leave_noted h) p) p)

-- the request's write begins
abbrev pub begun_past_for : Option Key → Option Meta → Store → Past → Past
begun_past_for (Some k) (Some m) s p = noted (Some (Began (slot k) s.next m)) p
begun_past_for (Some k) None s p = p
begun_past_for None m s p = p

abbrev pub begun_past : Store → Request → Past → Past
begun_past s r p = begun_past_for r.key r.meta s p

-- the same, and its reader follows it if the storage allows that
abbrev pub writing_past : Bool → Store → Request → Past → Past
writing_past streams s r p = cond streams (left_past r.reader (noted (look_noted (begin_followed s r)) (begun_past s r p))) (begun_past s r p)

-- the key of a request is purged, or its body expired at a moment
abbrev pub purged_past : Option Key → Past → Past
purged_past k p = noted (option_map (λ k. Purged (slot k)) k) p

abbrev pub expired_past : ℕ → Option Key → Past → Past
expired_past now k p = noted (expiry_noted now (option_map slot k)) p

-- the body of the request's key gets the meta that a response renews
abbrev pub renewed_past : Meta → Request → Past → Past
renewed_past m r p = noted (option_map (λ k. MetaSet (slot k) (renewed_by m r.meta)) r.key) p

-- an entry is purged
abbrev pub entry_past : Bool → Past → CacheEntryKey → Past
entry_past numbers p e = noted (removal_noted numbers (entry_slot e) (id_of e)) p

-- The write w of the key k ended so: its body was stored, and what was evicted for it purged, but for those whose purge failed;
-- or it was dropped; or its body was stored and purged again, unless that failed.
abbrev pub EndsPast : Guarantees → Key → ℕ → WriteEnd → Past → Past → Type 0
EndsPast g k w end.Nothing p p' = p' ≡ p
EndsPast g k w (end.Stored f) p p' = TakesAll (entry_past g.numbers) (noted (Some (Finished w)) p) f.evicted.items f.failed_purges p'
EndsPast g k w (end.Dropped e) p p' = p' ≡ noted (Some (Dropped w)) p
EndsPast g k w (end.Withdrawn e) p p' = (p' ≡ noted (Some (Purged (slot k))) (noted (Some (Finished w)) p)) ⊎ ((g.purges ≡ false) × (p' ≡ noted (Some (Finished w)) p))

-- the same for the write of a request, if it has one
abbrev pub EndsRequestPast : Guarantees → Option Key → Option ℕ → WriteEnd → Past → Past → Type 0
EndsRequestPast g k None how p p' = p' ≡ p
EndsRequestPast g None (Some w) how p p' = p' ≡ p
EndsRequestPast g (Some k) (Some w) how p p' = EndsPast g k w how p p'
