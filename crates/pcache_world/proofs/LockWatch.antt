-- The result of a poll is what the deeds say, and a reader continues to agree with them.
use Rattle.std.specs.Option.{option_or}
use Rattle.std.proofs.lemmas.List.{drop-append-le, drop_more}
use Rattle.std.proofs.lemmas.Option.{unwrap_or-slice_get}
use Rattle.std.proofs.lemmas.Bool.{ne_eqb}
use Rattle.pcache_base.specs.Fills.{first_match}
use Rattle.pcache_base.specs.declared.poll.Poll.TheVariants.{Ready}
use Rattle.pcache_lock.specs.declared.lock.permit.Locked.TheVariants.{Read}
use Rattle.pcache_lock.specs.Statuses.{is_aged, is_pending, is_waiting}
use Rattle.pcache_lock.specs.PastWaits.{is_late, stage_by, stage_said}
use Rattle.pcache_lock.specs.Permits.{Reader}
use Rattle.pcache_lock.specs.Waiting.{first_told, is_expired}
use Rattle.pcache_lock.proofs.PastWaits.{stage-is}
use Rattle.pcache_request.specs.LockWaits.{is_late as late_at}
use Rattle.pcache_request.specs.Requests.{Request}
use Rattle.pcache_history.specs.Deeds.{Did}
use Rattle.pcache_history.specs.Waits.{poll_at, poll_of, told_of}
use Rattle.pcache_world.specs.LockTable.{IsWatching}
use Rattle.pcache_world.proofs.Words.{◌≡◌, ◌≢◌, ℕ, ◌+◌, ◌-◌, ◌<◌, ◌==◌, Bool, true, false, ◌&&◌, ◌||◌, cond, if◌then◌else◌, Option, None, Some, is_some, List, [], ◌∷◌, ◌++◌, length, drop, refl, ap, sym, subst, ◌∙◌, arith, length-append, slice_get, unwrap_or, get, and_parts, UnusableFill, PermitState, LockStatus, Published, Locks, given_at, is_held, status_said, Core, Watch, publications_at, answer_at, permit_state, polled, publications_with, says_nothing, status_seen, told_or_pending, watch_at, watched, Knows, result_by, wait_result, too_old_for, is_old_result, unusable_in, Deed, Polled, done, publication, shown, shown_first, shown_more, finds_too_old, wait_of, last_of, IsTable, IsWatch, Holds, untold_read_lock, untold_request, same-number}
use Rattle.pcache_lock.specs.declared.lock.outcome.PermitState.TheVariants as stage
use Rattle.pcache_lock.specs.declared.lock.outcome.WaitOutcome.TheVariants as W
use Rattle.pcache_lock.specs.declared.lock.status.LockStatus.TheVariants as status
use Rattle.pcache_world.proofs.LockTable.{empty, knows-at, read-there}

-- ---- lists of publications

or_none : {A : Type 0} (o : Option A) → option_or o None ≡ o
or_none None = refl
or_none (Some x) = refl

or_or : {A : Type 0} (a b c : Option A) → option_or (option_or a b) c ≡ option_or a (option_or b c)
or_or None b c = refl
or_or (Some x) b c = refl

told-more : (fills : List UnusableFill) (ps qs : List (List ℕ)) → first_told fills (ps ++ qs) ≡ option_or (first_told fills ps) (first_told fills qs)
told-more fills [] qs = refl
told-more fills (p ∷ ps) qs = ap (option_or (first_match p fills)) (told-more fills ps qs) ∙ sym (or_or (first_match p fills) (first_told fills ps) (first_told fills qs))

-- no fill is found if nothing is published
none-match : (fills : List UnusableFill) → first_match [] fills ≡ None
none-match [] = refl
none-match (f ∷ fs) = none-match fs

drop-all : {A : Type 0} (xs : List A) → drop (length xs) xs ≡ []
drop-all [] = refl
drop-all (x ∷ xs) = drop-all xs

-- what is found from the last publication on is what the last one has
from-last : (ps : List (List ℕ)) (fills : List UnusableFill) → first_told fills (drop (length ps - 1) ps) ≡ first_match (last_of ps) fills
from-last [] fills = sym (none-match fills)
from-last (p ∷ ps) fills =
    let i : ℕ = length (p ∷ ps) - 1 in
    let lt : i < length (p ∷ ps) = omega arith in
    let next : i + 1 ≡ length (p ∷ ps) = omega arith in
    ap (first_told fills) (drop_more (p ∷ ps) i [] lt ∙ (λ j. sym (unwrap_or-slice_get (p ∷ ps) i []) j ∷ (ap (λ k. drop k (p ∷ ps)) next ∙ drop-all (p ∷ ps)) j))
    ∙ or_none (first_match (last_of (p ∷ ps)) fills)

-- ---- a reader that looks

shown-polled : (r l : ℕ) (ds : List Deed) → shown r l (Polled r ∷ ds) ≡ shown_first (publication l ds) (shown r l ds)
shown-polled r l ds = ap (λ b. if b then shown_first (publication l ds) (shown r l ds) else shown r l ds) (same-number r)

first-not : (p : List ℕ) (qs : List (List ℕ)) → shown_first p qs ≢ []
first-not p [] e = cc
first-not p (q ∷ qs) e = cc

first-same : (p : List ℕ) (qs : List (List ℕ)) → qs ≢ [] → shown_first p qs ≡ qs
first-same p [] ne = absurd (ne refl)
first-same p (q ∷ qs) ne = refl

-- what it was told once it looked: as it will be shown, and as a poll returns
told-looked : (ds : List Deed) (c : Core) (r l : ℕ) (fills : Option (List UnusableFill)) (w : Option Watch) → last_of c.publications ≡ publication l ds → IsWatch r l ds w c.publications
    → (watched c (watch_at c fills w)).told ≡ first_told (watched c (watch_at c fills w)).fills (shown_first (publication l ds) (shown r l ds))
told-looked ds c r l fills None said k =
    let fs : List UnusableFill = unwrap_or fills [] in
    from-last c.publications fs ∙ ap (λ x. first_match x fs) said ∙ sym (ap (λ ps. first_told fs (shown_first (publication l ds) ps)) k ∙ or_none (first_match (publication l ds) fs))
told-looked ds c r l fills (Some w) said k = k.told ∙ sym (ap (first_told w.fills) (first-same (publication l ds) (shown r l ds) k.some))

told-same : (ds : List Deed) (c : Core) (r : ℕ) (rd : Reader) (fills : Option (List UnusableFill)) (w : Option Watch) → last_of c.publications ≡ publication rd.number ds → IsWatch r rd.number ds w c.publications
    → (watched c (watch_at c fills w)).told ≡ told_of r (record { number = rd.number; watch = w }) fills ds
told-same ds c r rd fills None said k =
    let fs : List UnusableFill = unwrap_or fills [] in
    from-last c.publications fs ∙ ap (λ x. first_match x fs) said ∙ sym (or_none (first_match (publication rd.number ds) fs))
told-same ds c r rd fills (Some w) said k = k.told

-- a poll after which it waits on
pub watch-polled : (ds : List Deed) (c : Core) (r l : ℕ) (fills : Option (List UnusableFill)) (w : Option Watch) → last_of c.publications ≡ publication l ds → IsWatch r l ds w c.publications
    → IsWatch r l (Polled r ∷ ds) (Some (watched c (watch_at c fills w))) c.publications
watch-polled ds c r l fills w said k =
    let x : Watch = watched c (watch_at c fills w) in
    record {
      seen = omega arith;
      some = λ e. first-not (publication l ds) (shown r l ds) (sym (shown-polled r l ds) ∙ e);
      told = ap (λ ps. option_or x.told (first_told x.fills ps)) (drop-all c.publications) ∙ or_none x.told ∙ told-looked ds c r l fills w said k ∙ ap (first_told x.fills) (sym (shown-polled r l ds));
    }

-- a poll of another request, and what else shows a reader nothing: it watches as before
pub watch-same : (r l : ℕ) (ds es : List Deed) (w : Option Watch) (ps qs : List (List ℕ)) → shown r l es ≡ shown r l ds → ps ≡ qs → IsWatch r l ds w qs → IsWatch r l es w ps
watch-same r l ds es None ps qs same says k = same ∙ k
watch-same r l ds es (Some w) ps qs same says k = subst (IsWatching r l es w) (sym says) (record { seen = k.seen; some = λ e. k.some (sym same ∙ e); told = k.told ∙ ap (first_told w.fills) (sym same) })

-- ---- a publication is shown to each reader

shown-published : (q r l : ℕ) (tokens : List ℕ) (ds : List Deed) → shown r l (Did q (Published l tokens) ∷ ds) ≡ shown_more tokens (shown r l ds)
shown-published q r l tokens ds = ap (λ b. if b then shown_more tokens (shown r l ds) else shown r l ds) (same-number l)

more-same : (p : List ℕ) (qs : List (List ℕ)) → qs ≢ [] → shown_more p qs ≡ qs ++ p ∷ []
more-same p [] ne = absurd (ne refl)
more-same p (q ∷ qs) ne = refl

more-not : (p : List ℕ) (qs : List (List ℕ)) → qs ≢ [] → shown_more p qs ≢ []
more-not p [] ne e = ne refl
more-not p (q ∷ qs) ne e = cc

watching-more : (readers : ℕ) (q r l : ℕ) (ds : List Deed) (w : Watch) (tokens : List ℕ) (ps : List (List ℕ)) → 0 < readers → IsWatching r l ds w ps → IsWatching r l (Did q (Published l tokens) ∷ ds) w (publications_with readers tokens ps)
watching-more readers q r l ds w tokens ps read k =
    let some : shown r l (Did q (Published l tokens) ∷ ds) ≢ [] = λ e. more-not tokens (shown r l ds) k.some (sym (shown-published q r l tokens ds) ∙ e) in
    let shown-is : first_told w.fills (shown r l (Did q (Published l tokens) ∷ ds)) ≡ option_or (first_told w.fills (shown r l ds)) (first_match tokens w.fills)
    = ap (first_told w.fills) (shown-published q r l tokens ds ∙ more-same tokens (shown r l ds) k.some) ∙ told-more w.fills (shown r l ds) (tokens ∷ []) ∙ ap (option_or (first_told w.fills (shown r l ds))) (or_none (first_match tokens w.fills)) in
    elim (length tokens == 0 && says_nothing (slice_get ps (length ps - 1))) as (λ b. (length tokens == 0 && says_nothing (slice_get ps (length ps - 1))) ≡ b → IsWatching r l (Did q (Published l tokens) ∷ ds) w (cond b ps (cond (readers == 0) (tokens ∷ []) (ps ++ tokens ∷ [])))) [
      | true ↦ λ both. record {
        seen = k.seen;
        some = some;
        told = k.told ∙ sym (shown-is ∙ ap (option_or (first_told w.fills (shown r l ds))) (ap (λ x. first_match x w.fills) (empty tokens (and_parts _ _ both).0) ∙ none-match w.fills) ∙ or_none (first_told w.fills (shown r l ds)));
      }
      | false ↦ λ _. subst (λ b. IsWatching r l (Did q (Published l tokens) ∷ ds) w (cond b (tokens ∷ []) (ps ++ tokens ∷ []))) (sym (ne_eqb readers 0 (λ e. absurd (omega (arith, e))))) (record {
        seen = omega (arith, length-append ps (tokens ∷ []), k.seen);
        some = some;
        told =
            ap (λ xs. option_or w.told (first_told w.fills xs)) (drop-append-le w.seen ps (tokens ∷ []) k.seen)
            ∙ ap (option_or w.told) (told-more w.fills (drop w.seen ps) (tokens ∷ []))
            ∙ sym (or_or w.told (first_told w.fills (drop w.seen ps)) (first_told w.fills (tokens ∷ [])))
            ∙ ap (λ o. option_or o (first_told w.fills (tokens ∷ []))) k.told
            ∙ ap (option_or (first_told w.fills (shown r l ds))) (or_none (first_match tokens w.fills))
            ∙ sym shown-is;
      })
    ] refl

pub watch-published : (q r l : ℕ) (ds : List Deed) (w : Option Watch) (tokens : List ℕ) (readers : ℕ) (ps : List (List ℕ)) → 0 < readers → IsWatch r l ds w ps → IsWatch r l (Did q (Published l tokens) ∷ ds) w (publications_with readers tokens ps)
watch-published q r l ds None tokens readers ps read k = shown-published q r l tokens ds ∙ ap (shown_more tokens) k
watch-published q r l ds (Some w) tokens readers ps read k = watching-more readers q r l ds w tokens ps read k

-- ---- what a poll returns

by-stage : (s : PermitState) (w : Watch) (o : Option UnusableFill) → w.told ≡ o → answer_at s w ≡ poll_at s o
by-stage stage.Over w o told = refl
by-stage stage.Old w o told = refl
by-stage stage.Held w o told = ap told_or_pending told

-- if the permit is over, its status is the one that a reader sees
waits-not : (s : LockStatus) → is_pending s ≡ false → is_waiting s ≡ false
waits-not status.Waiting e = absurd (cc)
waits-not s e = refl

seen-by : (held old : Bool) (s : LockStatus) (expired late : Bool) (told : Option UnusableFill) → (held ≡ false → is_waiting s ≡ false)
    → result_by (cond (is_waiting s && expired) status.AgeTimeout s) late (poll_at (stage_by held s old) told) ≡ result_by s late (poll_at (stage_by held s old) told)
seen-by false old s expired late told over = ap (λ b. result_by (cond (b && expired) status.AgeTimeout s) late (Ready W.Released)) (over refl)
seen-by true old s expired late told over =
    elim (is_pending s) as (λ b. is_pending s ≡ b → result_by (cond (is_waiting s && expired) status.AgeTimeout s) late (poll_at (cond b (cond (is_aged s || old) stage.Old stage.Held) stage.Over) told) ≡ result_by s late (poll_at (cond b (cond (is_aged s || old) stage.Old stage.Held) stage.Over) told)) [
      | true ↦ λ _. held-on (is_aged s || old) told
      | false ↦ λ e. ap (λ b. result_by (cond (b && expired) status.AgeTimeout s) late (Ready W.Released)) (waits-not s e)
    ] refl
  where
    held-on : (b : Bool) (told : Option UnusableFill) → result_by (cond (is_waiting s && expired) status.AgeTimeout s) late (poll_at (cond b stage.Old stage.Held) told) ≡ result_by s late (poll_at (cond b stage.Old stage.Held) told)
    held-on true told = refl
    held-on false None = refl
    held-on false (Some f) = refl

module _ (ds : List Deed) (n : ℕ → ℕ) (t : Locks) (now r : ℕ) (rd : Reader) (k : IsTable ds n t) (holds : Holds r ds t (Some (Read rd))) (read : 0 < n rd.number) where
  -- by what the table knows of the lock
  abbrev Told : Option Core → Type 0
  Told o = (c : Core) → o ≡ Some c → (last_of c.publications ≡ publication rd.number ds) × IsWatch r rd.number ds rd.watch c.publications

  told-there : Told (get t.cores rd.number)
  told-there c e =
      let there = ap is_some e in
      (ap (λ o. last_of (publications_at o)) (sym e) ∙ k.said rd.number there, subst (λ o. IsWatch r rd.number ds rd.watch (publications_at o)) e (holds.watch rd refl there))

  poll-by : (fills : Option (List UnusableFill)) (o : Option Core) → is_some o ≡ true → Told o → Knows (is_held rd.number k.past) (status_said rd.number k.past) (given_at t.age_timeout rd.number k.past) o → polled now fills rd.watch o ≡ poll_of t.age_timeout now r rd fills ds
  poll-by fills None there told knows = absurd (cc)
  poll-by fills (Some c) there told knows =
      let l = rd.number in
      by-stage (permit_state now c) (watched c (watch_at c fills rd.watch)) (told_of r rd fills ds) (told-same ds c r rd fills rd.watch (told c refl).0 (told c refl).1)
      ∙ ap (λ s. poll_at s (told_of r rd fills ds)) (stage-is now (is_held l k.past) (status_said l k.past) (given_at t.age_timeout l k.past) c knows
      ∙ (λ i. stage_by (k.says.held l i) (k.says.status l i) (is_late now (k.says.given t.age_timeout l i))))

  pub poll-is : (fills : Option (List UnusableFill)) → polled now fills rd.watch (get t.cores rd.number) ≡ poll_of t.age_timeout now r rd fills ds
  poll-is fills = poll-by fills (get t.cores rd.number) (read-there ds n t k rd.number read) told-there (knows-at ds n t k rd.number)

  seen-as : (late : Bool) (o : Option Core) (told : Option UnusableFill) → is_some o ≡ true → Knows (is_held rd.number k.past) (status_said rd.number k.past) (given_at t.age_timeout rd.number k.past) o
      → result_by (status_seen now o) late (poll_at (stage_said t.age_timeout now rd.number (done ds)) told) ≡ result_by (status_said rd.number (done ds)) late (poll_at (stage_said t.age_timeout now rd.number (done ds)) told)
  seen-as late None told there knows = absurd (cc)
  seen-as late (Some c) told there knows =
      let l = rd.number in
      ap (λ s. result_by (cond (is_waiting s && is_expired now c) status.AgeTimeout s) late (poll_at (stage_said t.age_timeout now l (done ds)) told)) (knows.1 ∙ k.says.status l)
      ∙ seen-by (is_held l (done ds)) (is_late now (given_at t.age_timeout l (done ds))) (status_said l (done ds)) (is_expired now c) late told (λ e. ap is_waiting (sym (k.says.status l)) ∙ knows.3 (k.says.held l ∙ e))

  pub wait-is : (x : Request) → wait_result t now (Some (Read rd)) x ≡ wait_of t.age_timeout now r rd x ds
  wait-is x =
      let late : Bool = late_at now rd x.wait_timeout x.digest.waits x.waits_since in
      ap (λ p. result_by (status_seen now (get t.cores rd.number)) late p) (poll-is (unusable_in x.key))
      ∙ seen-as late (get t.cores rd.number) (told_of r rd (unusable_in x.key) ds) (read-there ds n t k rd.number read) (knows-at ds n t k rd.number)

  pub too-old-is : (x : Request) → too_old_for t now (Some (Read rd)) (unusable_in x.key) ≡ finds_too_old t.age_timeout now r rd x ds
  too-old-is x = ap is_old_result (poll-is (unusable_in x.key))

-- ---- what a reader was told does not count

pub wait-untold : (age now r : ℕ) (rd : Reader) (x : Request) (ds : List Deed) → wait_of age now r (untold_read_lock rd) (untold_request x) ds ≡ wait_of age now r rd x ds
wait-untold age now r rd x ds = by rd.watch
  where
    by : (w : Option Watch) → wait_of age now r (untold_read_lock (record { number = rd.number; watch = w })) (untold_request x) ds ≡ wait_of age now r (record { number = rd.number; watch = w }) x ds
    by None = refl
    by (Some w) = refl

pub too-old-untold : (age now r : ℕ) (rd : Reader) (x : Request) (ds : List Deed) → finds_too_old age now r (untold_read_lock rd) (untold_request x) ds ≡ finds_too_old age now r rd x ds
too-old-untold age now r rd x ds = by rd.watch
  where
    by : (w : Option Watch) → finds_too_old age now r (untold_read_lock (record { number = rd.number; watch = w })) (untold_request x) ds ≡ finds_too_old age now r (record { number = rd.number; watch = w }) x ds
    by None = refl
    by (Some w) = refl
