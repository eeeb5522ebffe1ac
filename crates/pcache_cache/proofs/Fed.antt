-- What always holds of a cache still holds after each call of a put, and a put's write stays its own.
use Rattle.pcache_put.specs.Steps.{EndsAs, store_after, store_begun, store_left, store_wrote}
use Rattle.pcache_put.specs.declared.report.Written.{Written}
use Rattle.pcache_cache.proofs.Words.{◌≡◌, ℕ, inl, inr, true, Option, None, Some, Result, Ok, Err, refl, ap, sym, subst, ◌∙◌, Key, slot, ErrorType, NoCacheReason, Tracked, Limits, Meta, Parsed, Stage, InHead, InBody, HasDeclined, IsOver, entry_in, write_in, EndsPut, EndsEarly, stage_begun, tracked_before_put, write_end, PutEnd, PutOutcome, dropped_by, EndsBody, HoldsNoLock, in_memory, Created, Store, begun, dropped, IsKept, is_own_write, ending_weight, entered, Weighing}
use Rattle.pcache_put.specs.declared.report.PutEnd.TheVariants as end
use Rattle.pcache_put.specs.declared.report.PutOutcome.TheVariants as answer
use Rattle.pcache_cache.proofs.Ended.{kept_body}
use Rattle.pcache_cache.proofs.Kept.{kept_dropped, kept_fewer}
use Rattle.pcache_cache.proofs.Modes.{mode-dropped}
use Rattle.pcache_cache.proofs.Own.{flies-begun, flies-under, wrote-own}
use Rattle.pcache_cache.proofs.Standing.{fewer-begun, fewer-dropped}

-- ---- a piece

kept-begun : (wg : Weighing) (limits : Limits) (m : Tracked) (s : Store) (k : ℕ) (began : Option Meta) → IsKept wg limits m s → IsKept wg limits m (store_begun k began s)
kept-begun wg limits m s k None kept = kept
kept-begun wg limits m s k (Some x) kept = kept_fewer wg limits m s (begun s k x) (fewer-begun wg s k x) refl kept

kept-wrote : (wg : Weighing) (limits : Limits) (m : Tracked) (s : Store) (w : Option ℕ) (b : Option Written) → IsKept wg limits m s → IsKept wg limits m (store_wrote w b s)
kept-wrote wg limits m s None b kept = kept
kept-wrote wg limits m s (Some w) None kept = kept
kept-wrote wg limits m s (Some w) (Some b) kept = record { exact = kept.exact; bounded = record { bytes = kept.bounded.bytes; weights = kept.bounded.weights; count = kept.bounded.count }; newest = kept.newest }

kept-left : (wg : Weighing) (limits : Limits) (m : Tracked) (s : Store) (stage : Stage) (answered : Result (Option NoCacheReason) ErrorType) → IsKept wg limits m s → IsKept wg limits m (store_left answered stage s)
kept-left wg limits m s stage (Ok a) kept = kept
kept-left wg limits m s stage (Err e) kept = kept_dropped wg limits m s (dropped_by (write_in stage) s) (write_in stage) refl kept

pub kept_fed : (wg : Weighing) (limits : Limits) (m : Tracked) (s t : Store) (k : Key) (stage : Stage) (began : Option Meta) (b : Option Written) (answered : Result (Option NoCacheReason) ErrorType)
    → t ≡ store_left answered (stage_begun stage began s.next (Some s.next)) (store_after k stage began b (Some s.next) s) → IsKept wg limits m s → IsKept wg limits m t
kept_fed wg limits m s t k stage began b answered is kept =
    subst (IsKept wg limits m) (sym is)
    (kept-left wg limits m (store_after k stage began b (Some s.next) s) (stage_begun stage began s.next (Some s.next)) answered
    (kept-wrote wg limits m (store_begun (slot k) began s) (write_in (stage_begun stage began s.next (Some s.next))) b (kept-begun wg limits m s (slot k) began kept)))

-- ---- the write stays the put's own

own-wrote : (s : Store) (k : Key) (w : Option ℕ) (b : Option Written) → is_own_write s (Some k) w ≡ true → is_own_write (store_wrote w b s) (Some k) w ≡ true
own-wrote s k None b own = own
own-wrote s k (Some w) None own = own
own-wrote s k (Some w) (Some b) own = wrote-own s (Some k) w b.bytes b.eof own

own-begun : (s : Store) (k : Key) (stage : Stage) (began : Option Meta) → is_own_write s (Some k) (write_in stage) ≡ true → is_own_write (store_begun (slot k) began s) (Some k) (write_in (stage_begun stage began s.next (Some s.next))) ≡ true
own-begun s k stage None own = own
own-begun s k stage (Some m) own = flies-under (begun s (slot k) m) s.next (slot k) (flies-begun s (slot k) m)

-- the put goes on
pub own_goes_on : (s t : Store) (k : Key) (stage now : Stage) (began : Option Meta) (b : Option Written) → now ≡ stage_begun stage began s.next (Some s.next) → t ≡ store_after k stage began b (Some s.next) s
    → is_own_write s (Some k) (write_in stage) ≡ true → is_own_write t (Some k) (write_in now) ≡ true
own_goes_on s t k stage now began b at is own =
    subst (λ x. is_own_write t (Some k) (write_in x) ≡ true) (sym at)
    (subst (λ x. is_own_write x (Some k) (write_in (stage_begun stage began s.next (Some s.next))) ≡ true) (sym is)
    (own-wrote (store_begun (slot k) began s) k (write_in (stage_begun stage began s.next (Some s.next))) b (own-begun s k stage began own)))

-- a put in this stage has no write
pub own_nothing : (t : Store) (k : Key) (now stage : Stage) → now ≡ stage → write_in stage ≡ None → is_own_write t (Some k) (write_in now) ≡ true
own_nothing t k now stage at none = subst (λ x. is_own_write t (Some k) x ≡ true) (sym (ap write_in at ∙ none)) refl

-- ---- the end

kept-early : (wg : Weighing) (limits : Limits) (k : Key) (parser : Parsed) (w : ℕ) (replaced : Option ℕ) (how : PutEnd) (s s' : Store) (m m' : Tracked) → EndsEarly parser w how s s' (tracked_before_put k replaced how m) m' → IsKept wg limits m s → IsKept wg limits m' s'
kept-early wg limits k parser w replaced how s s' m m' ends kept =
    subst (λ n. IsKept wg limits n s') (sym (ends.4 ∙ ap (λ h. tracked_before_put k replaced h m) ends.2)) (subst (IsKept wg limits m) (sym ends.3) (kept_fewer wg limits m s (dropped s w) (fewer-dropped wg s w) (mode-dropped s w) kept))

kept-still : (wg : Weighing) (limits : Limits) (s s' : Store) (m m' : Tracked) → s' ≡ s → m' ≡ m → IsKept wg limits m s → IsKept wg limits m' s'
kept-still wg limits s s' m m' store tracked kept = subst (λ n. IsKept wg limits n s') (sym tracked) (subst (IsKept wg limits m) (sym store) kept)

kept-put : (wg : Weighing) (limits : Limits) (k : Key) (parser : Parsed) (stage : Stage) (replaced : Option ℕ) (how : PutEnd) (s s' : Store) (m m' : Tracked) → entry_in stage ≡ write_in stage → is_own_write s (Some k) (write_in stage) ≡ true
    → EndsPut in_memory k parser (λ _. entered wg s (write_in stage)) limits stage how s s' (tracked_before_put k replaced how m) m' → IsKept wg limits m s → IsKept wg limits m' s'
kept-put wg limits k parser InHead replaced how s s' m m' named own ends kept = kept-still wg limits s s' m m' ends.1.0 (ends.1.1 ∙ ap (λ h. tracked_before_put k replaced h m) ends.0) kept
kept-put wg limits k parser (HasDeclined reason) replaced how s s' m m' named own ends kept = kept-still wg limits s s' m m' ends.1.0 (ends.1.1 ∙ ap (λ h. tracked_before_put k replaced h m) ends.0) kept
kept-put wg limits k parser (IsOver kind) replaced how s s' m m' named own ends kept = kept-still wg limits s s' m m' ends.1.0 (ends.1.1 ∙ ap (λ h. tracked_before_put k replaced h m) ends.0) kept
kept-put wg limits k parser (InBody w id fresh_until) replaced how s s' m m' named own (inl early) kept = kept-early wg limits k parser w replaced how s s' m m' early kept
kept-put wg limits k parser (InBody w id fresh_until) replaced how s s' m m' named own (inr ends) kept =
    kept_body wg limits HoldsNoLock k w replaced (write_end how) s s' m m' own (subst (λ i. EndsBody in_memory true i HoldsNoLock k w (entered wg s (Some w)) limits (write_end how) s s' (tracked_before_put k replaced how m) m') named ends) kept

-- what holds however a put ended
pub any-end : {A : Type 0} {P : PutEnd → Type 0} (result : Result PutOutcome ErrorType) → ((how : PutEnd) → P how → A) → EndsAs result P → A
any-end (Ok (answer.NotCached reason)) f ends = f (end.NotCached reason) ends
any-end (Ok (answer.Stored report)) f ends = f (end.Stored report) ends
any-end (Err e) f (inl ends) = f (end.Refused e) ends
any-end (Err e) f (inr (inl ends)) = f (end.Dropped e) ends
any-end (Err e) f (inr (inr ends)) = f (end.Withdrawn e) ends

pub kept_put_ended : (wg : Weighing) (limits : Limits) (k : Key) (parser : Parsed) (stage : Stage) (replaced : Option ℕ) (n : ℕ) (s s' : Store) (m m' : Tracked) (result : Result PutOutcome ErrorType) → entry_in stage ≡ write_in stage → is_own_write s (Some k) (write_in stage) ≡ true → n ≡ ending_weight wg s (write_in stage)
    → EndsAs result (λ how. EndsPut in_memory k parser (λ _. Created n) limits stage how s s' (tracked_before_put k replaced how m) m') → IsKept wg limits m s → IsKept wg limits m' s'
kept_put_ended wg limits k parser stage replaced n s s' m m' result named own weighs ends kept =
    any-end result (λ how e. kept-put wg limits k parser stage replaced how s s' m m' named own e kept)
    (subst (λ y. EndsAs result (λ how. EndsPut in_memory k parser (λ _. Created y) limits stage how s s' (tracked_before_put k replaced how m) m')) weighs ends)
