-- Variants of a key: which of them a look-up hands on, and which one a request fills (the phase table; what a response
-- varies on is RFC 9110 section 12.5.5, and how stored ones are told apart by it RFC 9111 section 4.1).
use Rattle.std.specs.Prelude.{ℕ, ◌&&◌, nat_lt, bytes_eq, Bool, true, false, not, List, Option, Some, None, cond, is_none, is_some, option_map}
use Rattle.pcache_base.specs.Key.{Key}
use Rattle.pcache_meta.specs.Meta.{Meta, internal_changed, provenance_of}
use Rattle.pcache_lock.specs.Locks.{Locks}
use Rattle.pcache_lock.specs.declared.lock.status.LockStatus.TheVariants.{Done}
use Rattle.pcache_store.specs.Store.{Store, Reader, followed, left}
use Rattle.pcache_request.specs.declared.cache.report.AskedLock.{AskedLock}
use Rattle.pcache_request.specs.declared.cache.report.LockName.{LockName}
use Rattle.pcache_request.specs.Phases.{is_expired_phase}
use Rattle.pcache_request.specs.Reports.{asked_with, name_of}
use Rattle.pcache_request.specs.Requests.{Request, found_for, settled, table_asked, with_lock}

-- what was created before the moment from which variants count is hidden
abbrev pub is_hidden : Option ℕ → ℕ → Bool
is_hidden None created = false
is_hidden (Some from) created = nat_lt created from

-- for a found pair: the pair that a look-up hands on, whether it hands nothing on, and whether it hides one
abbrev pub visible : Option ℕ → Option (Meta × Reader) → Option (Meta × Reader)
visible from None = None
visible from (Some p) = cond (is_hidden from p.0.created) None (Some p)

abbrev pub is_unseen : Option ℕ → Option (Meta × Reader) → Bool
is_unseen from None = true
is_unseen from (Some p) = is_hidden from p.0.created

abbrev pub hides_pair : Option ℕ → Option (Meta × Reader) → Bool
hides_pair from None = false
hides_pair from (Some p) = is_hidden from p.0.created

-- the reader of a hidden pair is let go
abbrev pub without_hidden : Option ℕ → Option (Meta × Reader) → Store → Store
without_hidden from None s = s
without_hidden from (Some p) s = cond (is_hidden from p.0.created) (left s p.1) s

-- the same, for a request
abbrev pub seen_for : Store → Request → Option (Meta × Reader)
seen_for s r = visible r.valid_after (found_for s r.key)

-- the same, for a request: nothing is handed on; a pair is hidden
abbrev pub is_unseen_for : Store → Request → Bool
is_unseen_for s r = is_unseen r.valid_after (found_for s r.key)

abbrev pub hides_for : Store → Request → Bool
hides_for s r = hides_pair r.valid_after (found_for s r.key)

-- the store after a look-up, and after a hidden pair was let go
abbrev pub searched : Store → Request → Store
searched s r = without_hidden r.valid_after (found_for s r.key) (followed s (found_for s r.key))

-- the key's lock is asked for, if one is in use
abbrev pub with_key_lock : Locks → Request → Request
with_key_lock t r = cond r.uses.lock (with_lock false t r.key r) r

-- the lock table after the key's lock was asked for, if one is in use
abbrev pub table_key_locked : ℕ → Request → Locks → Locks
table_key_locked now r t = cond r.uses.lock (table_asked false now r.key r.held t) t

-- the report of that
abbrev pub asked_for_key : Locks → Request → Option AskedLock
asked_for_key t r = cond r.uses.lock (option_map (λ k. asked_with false t k r.held) r.key) None

-- a look-up asks for the key's lock if it hands nothing on
abbrev pub asks_unseen : Store → Request → Bool
asks_unseen s r = is_unseen_for s r && r.uses.lock

-- the request after a look-up without a policy
abbrev pub looked_for : Store → Locks → Request → Request
looked_for s t r = cond (is_unseen_for s r) (with_key_lock t r) r

-- the lock table after it
abbrev pub table_looked_for : Store → ℕ → Request → Locks → Locks
table_looked_for s now r t = cond (is_unseen_for s r) (table_key_locked now r t) t

-- two variances are equal
abbrev pub same_variance : Option (List ℕ) → Option (List ℕ) → Bool
same_variance None None = true
same_variance None (Some w) = false
same_variance (Some v) None = false
same_variance (Some v) (Some w) = bytes_eq v w

-- A look-up for a variance, given the meta that was found for the key: variants count from the moment from which that
-- meta's body came. The key takes the variance, unless the meta has it and the key has none: then the body is the key's
-- own.
abbrev pub key_for_variance : List ℕ → Bool → Key → Key
key_for_variance v is_same k = record k { variance = cond (is_same && is_none k.variance) None (Some v) }

-- the request after it was told the variance to look for
abbrev pub looks_for_variance : List ℕ → Meta → Request → Request
looks_for_variance v m r = record r {
  valid_after = Some (provenance_of m);
  key = option_map (key_for_variance v (same_variance m.variance (Some v))) r.key;
}

-- the variance of a key, if it has one
abbrev pub key_variance : Option Key → Option (List ℕ)
key_variance None = None
key_variance (Some k) = k.variance

-- the variance that the response had before: that of the key, or else that of the stale meta
abbrev pub first_variance : Option (List ℕ) → Option (List ℕ) → Option (List ℕ)
first_variance None stale = stale
first_variance (Some v) stale = Some v

abbrev pub former_variance : Request → Option (List ℕ)
former_variance r = first_variance (key_variance r.key) r.stale_variance

-- a response that is fetched again with another variance is the first of its variants
abbrev pub begins_variants : Option (List ℕ) → Request → Bool
begins_variants v r = is_expired_phase r.phase && not (same_variance (former_variance r) v)

-- a meta with this variance; the body of the first of new variants came when its meta was created
abbrev pub meta_varied : Option (List ℕ) → Bool → Meta → Meta
meta_varied v begins = internal_changed (λ x. record x { variance = v; provenance = cond begins (Some x.created) x.provenance })

-- a key with another variance loses it: the response will be stored for the key itself
abbrev pub leaves_variant : Option (List ℕ) → Option Key → Bool
leaves_variant v k = is_some (key_variance k) && not (same_variance (key_variance k) v)

-- a key that loses its variance
abbrev pub key_left : Bool → Key → Key
key_left leaves k = cond leaves (record k { variance = None }) k

-- the row of setting the variance of a response
abbrev pub varied : Option (List ℕ) → Request → Request
varied v r = record r {
  meta = option_map (meta_varied v (begins_variants v r)) r.meta;
  key = option_map (key_left (leaves_variant v r.key)) r.key;
  held = cond (leaves_variant v r.key) None r.held;
}

-- the lock table after it: a permit for the variant is released as done
abbrev pub table_varied : Option (List ℕ) → Request → Locks → Locks
table_varied v r t = cond (leaves_variant v r.key) (settled Done r.held t) t

-- the lock that is released then
abbrev pub released_by_variance : Option (List ℕ) → Request → Option LockName
released_by_variance v r = cond (leaves_variant v r.key) (option_map name_of r.held) None
