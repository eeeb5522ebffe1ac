-- What one more note makes of what a past says of writes.
use Rattle.std.proofs.Common.{nat_eq}
use Rattle.std.specs.Option.{option_map, option_eq}
use Rattle.pcache_meta.specs.Meta.{expired_at}
use Rattle.pcache_store.proofs.Words.{◌≡◌, ℕ, ◌==◌, Bool, true, false, not, cond, ◌&&◌, ◌||◌, if◌then◌else◌, Option, None, Some, List, [], ◌∷◌, refl, ap, sym, ◌∙◌, arith, list_any, option_and_then, eqb-true, nat_tests, Meta, in_place_of, numbered, Stored, Written, body_without, new_write, Note, Began, Wrote, Finished, Dropped, Purged, WritePurged, MetaSet, Expired, Joined, Left, option_any, after, before, begins, finishes, removes, longer, ended, closed_write, write_of, is_of, in_flight, is_removed, is_open, last_finished, altered_by, write_finished, body_stored, complete}

-- a write without the count of its readers
abbrev pub uncounted : Written → Written
uncounted r = record r { readers = 0 }

-- a write of the key that has ended
abbrev pub IsEnded : ℕ → Option Written → Type 0
IsEnded k None = ⊥
IsEnded k (Some r) = (r.slot ≡ k) × (r.flying ≡ false)

-- whether what is known of a write makes it open under a key, if it met no removal
abbrev pub opens : ℕ → Bool → Option Written → Bool
opens k removed o = option_any (λ r. r.slot == k) o && (option_any (λ r. r.flying) o && not removed)

pub opens-none : (k : ℕ) (removed : Bool) (o : Option Written) → o ≡ None → opens k removed o ≡ false
opens-none k removed o e = ap (opens k removed) e

-- an open write, by what is known of it
pub opens-some : (k : ℕ) (removed : Bool) (o : Option Written) → opens k removed o ≡ true → (r : Written) × (o ≡ Some r) × ((r.slot == k) ≡ true) × (r.flying ≡ true) × (removed ≡ false)
opens-some k removed None h = cc
opens-some k removed (Some r) h = let p = inner (r.slot == k) r.flying removed h in (r, refl, p.0, p.1, p.2)
  where
    inner : (a b c : Bool) → (a && (b && not c)) ≡ true → (a ≡ true) × (b ≡ true) × (c ≡ false)
    inner true true false h = (refl, refl, refl)
    inner true true true h = cc
    inner true false c h = cc
    inner false b c h = cc

-- more bytes leave it open or not
opens-longer : (k : ℕ) (removed : Bool) (bytes : List ℕ) (eof : Bool) (o : Option Written) (b : Bool) → opens k removed (if b then option_map (longer bytes eof) o else o) ≡ opens k removed o
opens-longer k removed bytes eof None true = refl
opens-longer k removed bytes eof (Some r) true = refl
opens-longer k removed bytes eof o false = refl

pub open-wrote : (k w n : ℕ) (bytes : List ℕ) (eof : Bool) (past : List Note) → is_open k w (Wrote n bytes eof ∷ past) ≡ is_open k w past
open-wrote k w n bytes eof past = opens-longer k (is_removed k w past) bytes eof (write_of w past) (n == w)

-- an end closes it
opens-ended : (k : ℕ) (removed : Bool) (o : Option Written) (b : Bool) → opens k removed (if b then option_map ended o else o) ≡ cond b false (opens k removed o)
opens-ended k removed None true = refl
opens-ended k removed (Some r) true = and-false (r.slot == k)
  where
    and-false : (a : Bool) → (a && false) ≡ false
    and-false true = refl
    and-false false = refl
opens-ended k removed o false = refl

pub open-dropped : (k w n : ℕ) (past : List Note) → is_open k w (Dropped n ∷ past) ≡ cond (n == w) false (is_open k w past)
open-dropped k w n past = opens-ended k (is_removed k w past) (write_of w past) (n == w)

opens-closed : (k : ℕ) (removed : Bool) (o : Option Written) (b : Bool) → opens k removed (if b then option_map closed_write o else o) ≡ cond b false (opens k removed o)
opens-closed k removed None true = refl
opens-closed k removed (Some r) true = and-false (r.slot == k)
  where
    and-false : (a : Bool) → (a && false) ≡ false
    and-false true = refl
    and-false false = refl
opens-closed k removed o false = refl

-- a finish ends a write as a drop does
pub open-finished : (k w n : ℕ) (past : List Note) → is_open k w (Finished n ∷ past) ≡ is_open k w (Dropped n ∷ past)
open-finished k w n past = opens-closed k (is_removed k w past) (write_of w past) (n == w) ∙ sym (open-dropped k w n past)

-- a removal closes it
opens-removed : (a b x y : Bool) → (a && (b && not (x || y))) ≡ cond x false (a && (b && not y))
opens-removed true true true y = refl
opens-removed true false true y = refl
opens-removed false b true y = refl
opens-removed a b false y = refl

pub open-purged : (k w q : ℕ) (past : List Note) → is_open k w (Purged q ∷ past) ≡ cond (q == k) false (is_open k w past)
open-purged k w q past = opens-removed (is_of k w past) (in_flight w past) (q == k) (is_removed k w past)

pub open-write_purged : (k w q n : ℕ) (past : List Note) → is_open k w (WritePurged q n ∷ past) ≡ cond ((q == k) && (n == w)) false (is_open k w past)
open-write_purged k w q n past = opens-removed (is_of k w past) (in_flight w past) ((q == k) && (n == w)) (is_removed k w past)

-- a write that begins is open under its key
pub open-began : (k w q n : ℕ) (m : Meta) (past : List Note) → is_open k w (Began q n m ∷ past) ≡ (if n == w then q == k else is_open k w past)
open-began k w q n m past = inner (n == w)
  where
    and-true : (a : Bool) → (a && true) ≡ a
    and-true true = refl
    and-true false = refl

    inner : (b : Bool) → opens k (list_any (removes k w) (if b then [] else Began q n m ∷ after (begins w) past)) (if b then Some (new_write q (numbered n m)) else write_of w past) ≡ (if b then q == k else is_open k w past)
    inner true = and-true (q == k)
    inner false = refl

-- The bodies.

-- a body that is stored and was not removed
abbrev pub unless_removed : Bool → Option Stored → Option Stored
unless_removed removed b = if removed then None else b

abbrev pub body_at : ℕ → List Note → ℕ → Option Stored
body_at k past w = unless_removed (is_removed k w past) (body_stored k w past)

-- a begin of another write says nothing of it
began-at : (k w q n : ℕ) (m : Meta) (past : List Note) → (n == w) ≡ false → body_at k (Began q n m ∷ past) w ≡ body_at k past w
began-at k w q n m past off = ap (λ b. unless_removed (list_any (removes k w) (if b then [] else Began q n m ∷ after (begins w) past)) (body_stored k w past)) off

pub under : (o : Option ℕ) (f g : ℕ → Option Stored) → ((w : ℕ) → o ≡ Some w → f w ≡ g w) → option_and_then f o ≡ option_and_then g o
under None f g h = refl
under (Some w) f g h = h w refl

pub complete-began : (k q n : ℕ) (m : Meta) (past : List Note) → ((w : ℕ) → last_finished k past ≡ Some w → (n == w) ≡ false) → complete k (Began q n m ∷ past) ≡ complete k past
complete-began k q n m past off = under (last_finished k past) (body_at k (Began q n m ∷ past)) (body_at k past) (λ w is. began-at k w q n m past (off w is))

pub complete-purged : (k q : ℕ) (past : List Note) → complete k (Purged q ∷ past) ≡ cond (q == k) None (complete k past)
complete-purged k q past = inner (q == k) (last_finished k past)
  where
    inner : (b : Bool) (o : Option ℕ) → option_and_then (λ w. unless_removed (b || is_removed k w past) (body_stored k w past)) o ≡ cond b None (option_and_then (body_at k past) o)
    inner true None = refl
    inner true (Some w) = refl
    inner false o = refl

-- the body of the write that was finished last, and its number
pub complete-some : (k : ℕ) (past : List Note) (b : Stored) → complete k past ≡ Some b → (w : ℕ) × (last_finished k past ≡ Some w) × (is_removed k w past ≡ false) × (body_stored k w past ≡ Some b)
complete-some k past b is = inner (last_finished k past) refl is
  where
    kept : (w : ℕ) (r : Bool) → is_removed k w past ≡ r → unless_removed r (body_stored k w past) ≡ Some b → (is_removed k w past ≡ false) × (body_stored k w past ≡ Some b)
    kept w true e h = cc
    kept w false e h = (e, h)

    inner : (o : Option ℕ) → last_finished k past ≡ o → option_and_then (body_at k past) o ≡ Some b → (w : ℕ) × (last_finished k past ≡ Some w) × (is_removed k w past ≡ false) × (body_stored k w past ≡ Some b)
    inner None e h = cc
    inner (Some w) e h = let both = kept w (is_removed k w past) refl h in (w, e, both.0, both.1)

-- a write has the number that its meta names
kept-number : (w : ℕ) (b : Bool) (f : Written → Written) (o : Option Written) → ((x : Written) → (f x).meta.entry_id ≡ x.meta.entry_id) → ((x : Written) → o ≡ Some x → x.meta.entry_id ≡ Some w)
    → (r : Written) → (if b then option_map f o else o) ≡ Some r → r.meta.entry_id ≡ Some w
kept-number w true f None same was r e = cc
kept-number w true f (Some x) same was r e = let made : f x ≡ r = cc in ap (λ (y : Written). y.meta.entry_id) (sym made) ∙ same x ∙ was x refl
kept-number w false f o same was r e = was r e

new-number : (w q n : ℕ) (m : Meta) (b : Bool) (o : Option Written) → (n == w) ≡ b → ((x : Written) → o ≡ Some x → x.meta.entry_id ≡ Some w) → (r : Written) → (if b then Some (new_write q (numbered n m)) else o) ≡ Some r → r.meta.entry_id ≡ Some w
new-number w q n m true o t was r e = let same : new_write q (numbered n m) ≡ r = cc in ap (λ (x : Written). x.meta.entry_id) (sym same) ∙ ap Some (eqb-true n w t)
new-number w q n m false o t was r e = was r e

pub write-numbered : (w : ℕ) (past : List Note) (r : Written) → write_of w past ≡ Some r → r.meta.entry_id ≡ Some w
write-numbered w [] r is = cc
write-numbered w (Began q n m ∷ past) r is = new-number w q n m (n == w) (write_of w past) refl (write-numbered w past) r is
write-numbered w (Wrote n bytes eof ∷ past) r is = kept-number w (n == w) (longer bytes eof) (write_of w past) (λ x. refl) (write-numbered w past) r is
write-numbered w (Finished n ∷ past) r is = kept-number w (n == w) closed_write (write_of w past) (λ x. refl) (write-numbered w past) r is
write-numbered w (Dropped n ∷ past) r is = kept-number w (n == w) ended (write_of w past) (λ x. refl) (write-numbered w past) r is
write-numbered w (Purged q ∷ past) r is = write-numbered w past r is
write-numbered w (WritePurged q n ∷ past) r is = write-numbered w past r is
write-numbered w (MetaSet q m ∷ past) r is = write-numbered w past r is
write-numbered w (Expired q now ∷ past) r is = write-numbered w past r is
write-numbered w (Joined n ∷ past) r is = write-numbered w past r is
write-numbered w (Left n ∷ past) r is = write-numbered w past r is

-- what comes after a body was stored leaves the number of its meta
number-kept : (k : ℕ) (past : List Note) (m : Meta) → (altered_by k past m).entry_id ≡ m.entry_id
number-kept k [] m = refl
number-kept k (Expired q now ∷ past) m = elim (q == k) as (λ t. (if t then expired_at now (altered_by k past m) else altered_by k past m).entry_id ≡ m.entry_id) [ true ↦ number-kept k past m | false ↦ number-kept k past m ]
number-kept k (MetaSet q new ∷ past) m = elim (q == k) as (λ t. (if t then in_place_of (altered_by k past m) new else altered_by k past m).entry_id ≡ m.entry_id) [ true ↦ number-kept k past m | false ↦ number-kept k past m ]
number-kept k (e ∷ past) m = number-kept k past m

pub stored-numbered : (k w : ℕ) (past : List Note) (b : Stored) → body_stored k w past ≡ Some b → b.meta.entry_id ≡ Some w
stored-numbered k w past b is = inner (write_finished w past) refl is
  where
    inner : (o : Option Written) → write_finished w past ≡ o → option_map (λ r. record { meta = altered_by k (after (finishes w) past) r.meta; bytes = r.bytes }) o ≡ Some b → b.meta.entry_id ≡ Some w
    inner None e h = cc
    inner (Some r) e h =
        let made : Stored = record { meta = altered_by k (after (finishes w) past) r.meta; bytes = r.bytes } in
        let same : made ≡ b = cc in
        ap (λ (x : Stored). x.meta.entry_id) (sym same) ∙ number-kept k (after (finishes w) past) r.meta ∙ write-numbered w (before (finishes w) past) r e

-- a removal of one write takes the body if it is that write's
pub complete-write_purged : (k q n : ℕ) (past : List Note) → complete k (WritePurged q n ∷ past) ≡ cond (q == k) (body_without n (complete k past)) (complete k past)
complete-write_purged k q n past = inner (q == k) (last_finished k past)
  where
    turned : (w m : ℕ) → nat_eq w m ≡ (m == w)
    turned w m = grind (arith, nat_tests)

    one : (w : ℕ) (o : Option Stored) → body_stored k w past ≡ o → (r : Bool) → unless_removed ((n == w) || r) o ≡ body_without n (unless_removed r o)
    one w None e true = either (n == w)
      where
        either : (b : Bool) → ◌≡◌ {A = Option Stored} (if b || true then None else None) None
        either true = refl
        either false = refl
    one w None e false = either (n == w)
      where
        either : (b : Bool) → ◌≡◌ {A = Option Stored} (if b || false then None else None) None
        either true = refl
        either false = refl
    one w (Some b) e true = either (n == w)
      where
        either : (t : Bool) → ◌≡◌ {A = Option Stored} (if t || true then None else Some b) None
        either true = refl
        either false = refl
    one w (Some b) e false = either (n == w) ∙ ap (λ t. cond t None (Some b)) (sym (turned w n)) ∙ ap (λ i. cond (option_eq nat_eq i (Some n)) None (Some b)) (sym (stored-numbered k w past b e))
      where
        either : (t : Bool) → (if t || false then None else Some b) ≡ cond t None (Some b)
        either true = refl
        either false = refl

    inner : (t : Bool) (o : Option ℕ) → option_and_then (λ w. unless_removed ((t && (n == w)) || is_removed k w past) (body_stored k w past)) o ≡ cond t (body_without n (option_and_then (body_at k past) o)) (option_and_then (body_at k past) o)
    inner true None = refl
    inner true (Some w) = one w (body_stored k w past) refl (is_removed k w past)
    inner false o = refl

-- a meta that is changed
abbrev pub remade : (Meta → Meta) → Stored → Stored
remade f b = record b { meta = f b.meta }

pub complete-altered : (k q : ℕ) (f : Meta → Meta) (note : Note) (past : List Note)
    → ((w : ℕ) → body_at k (note ∷ past) w ≡ unless_removed (is_removed k w past) (option_map (λ r. record { meta = (if q == k then f (altered_by k (after (finishes w) past) r.meta) else altered_by k (after (finishes w) past) r.meta); bytes = r.bytes }) (write_finished w past)))
    → option_and_then (body_at k (note ∷ past)) (last_finished k past) ≡ cond (q == k) (option_map (remade f) (complete k past)) (complete k past)
complete-altered k q f note past says = under (last_finished k past) (body_at k (note ∷ past)) (λ w. unless_removed (is_removed k w past) (option_map (λ r. record { meta = (if q == k then f (altered_by k (after (finishes w) past) r.meta) else altered_by k (after (finishes w) past) r.meta); bytes = r.bytes }) (write_finished w past))) (λ w _. says w) ∙ inner (q == k) (last_finished k past)
  where
    made : (w : ℕ) → Written → Stored
    made w r = record { meta = altered_by k (after (finishes w) past) r.meta; bytes = r.bytes }

    one : (w : ℕ) (r : Bool) (o : Option Written) → unless_removed r (option_map (λ r. record { meta = f (altered_by k (after (finishes w) past) r.meta); bytes = r.bytes }) o) ≡ option_map (remade f) (unless_removed r (option_map (λ r. record { meta = altered_by k (after (finishes w) past) r.meta; bytes = r.bytes }) o))
    one w true o = refl
    one w false None = refl
    one w false (Some x) = refl

    inner : (t : Bool) (o : Option ℕ) → option_and_then (λ w. unless_removed (is_removed k w past) (option_map (λ r. record { meta = (if t then f (altered_by k (after (finishes w) past) r.meta) else altered_by k (after (finishes w) past) r.meta); bytes = r.bytes }) (write_finished w past))) o ≡ cond t (option_map (remade f) (option_and_then (body_at k past) o)) (option_and_then (body_at k past) o)
    inner true None = refl
    inner true (Some w) = one w (is_removed k w past) (write_finished w past)
    inner false o = refl
