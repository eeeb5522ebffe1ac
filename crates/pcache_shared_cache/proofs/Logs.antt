-- Logs that go on, and what was seen of them.
use Rattle.std.proofs.lemmas.List.{append-nil}
use Rattle.pcache_shared_cache.specs.Seen.{IsLog, Looks, Moves, Sees, goes_on}
use Rattle.pcache_shared_cache.proofs.Words.{◌≡◌, ◌<◌, inl, inr, ℕ, suc, zero, Option, Some, None, List, [], ◌∷◌, ◌++◌, append_assoc, length, slice_get, refl, sym, ap, subst, ◌∙◌, arith, All, slice_index_or, Parts, Begins, Begun, EndsWith, Goes, Held, IsSound, Leads, first_of, limits_in}

goes : (x : Parts) (l : List Parts) (p q : Parts) → goes_on x (l ++ p ∷ []) → Leads p q → IsSound q → goes_on x ((l ++ p ∷ []) ++ q ∷ [])
goes x [] p q is leads sound = (is.0, ((leads, sound), tt))
goes x (y ∷ l) p q is leads sound = (is.0, goes y l p q is.1 leads sound)

added : (earlier : List Parts) (p q : Parts) → IsLog (earlier ++ p ∷ []) → Leads p q → IsSound q → IsLog ((earlier ++ p ∷ []) ++ q ∷ [])
added [] p q is leads sound = (is.0, ((leads, sound), tt))
added (x ∷ l) p q is leads sound = (is.0, goes x l p q is.1 leads sound)

-- a log is a log with one more state
pub log_added : (log : List Parts) (p q : Parts) → EndsWith log p → IsLog log → Leads p q → IsSound q → IsLog (log ++ q ∷ [])
log_added log p q ends is leads sound = subst (λ (l : List Parts). IsLog (l ++ q ∷ [])) (sym ends.1) (added ends.0 p q (subst IsLog ends.1 is) leads sound)

-- each state of a log is sound, and so is the last
sound_on : (x : Parts) (l : List Parts) (p : Parts) → goes_on x (l ++ p ∷ []) → IsSound p
sound_on x [] p is = is.0.1
sound_on x (y ∷ l) p is = sound_on y l p is.1

sound_in : (earlier : List Parts) (p : Parts) → IsLog (earlier ++ p ∷ []) → IsSound p
sound_in [] p is = is.0
sound_in (x ∷ l) p is = sound_on x l p is.1

pub sound_last : (log : List Parts) (p : Parts) → EndsWith log p → IsLog log → IsSound p
sound_last log p ends is = sound_in ends.0 p (subst IsLog ends.1 is)

-- what no call changes is of each state of a log as it is of the first
kept_on : {X : Type 0} (f : Parts → X) → ((p q : Parts) → Leads p q → f q ≡ f p) → (p : Parts) (l : List Parts) → goes_on p l → (k : ℕ) (d : Parts) → k < length l → f (slice_index_or l k d) ≡ f p
kept_on f same p [] is k d lt = absurd (omega arith)
kept_on f same p (q ∷ l) is zero d lt = same p q is.0.0
kept_on f same p (q ∷ l) is (suc k) d lt = kept_on f same q l is.1 k d (omega arith) ∙ same p q is.0.0

kept_from : {X : Type 0} (f : Parts → X) → ((p q : Parts) → Leads p q → f q ≡ f p) → (p : Parts) (l : List Parts) → goes_on p l → (k : ℕ) (d : Parts) → k < length (p ∷ l) → f (slice_index_or (p ∷ l) k d) ≡ f p
kept_from f same p l is zero d lt = refl
kept_from f same p l is (suc k) d lt = kept_on f same p l is k d (omega arith)

pub kept_in : {X : Type 0} (f : Parts → X) → ((p q : Parts) → Leads p q → f q ≡ f p) → (log : List Parts) → IsLog log → All (λ p. f p ≡ f (first_of log)) log
kept_in f same [] is = absurd is
kept_in f same (p ∷ l) is = kept_from f same p l is.1

pub log_as : (a b : List Parts) → a ≡ b → IsLog b → IsLog a
log_as a b e is = subst IsLog (sym e) is

last_from : (x : Parts) (l : List Parts) → (p : Parts) × EndsWith (x ∷ l) p
last_from x [] = (x, ([], refl))
last_from x (y ∷ l) = let r = last_from y l in (r.0, (x ∷ r.1.0, ap (λ (m : List Parts). x ∷ m) r.1.1))

-- it ends with a state
pub last : (log : List Parts) → IsLog log → (p : Parts) × EndsWith log p
last [] is = absurd is
last (x ∷ l) is = last_from x l

pub begins_self : (named : Option ℕ) (log : List Parts) → Begins named log log
begins_self None log = tt
begins_self (Some n) log = ([], append-nil log)

-- what was seen of a log is a beginning of the log with one more state
pub begins_more : (named : Option ℕ) (old log : List Parts) (p : Parts) → Begins named old log → Begins named old (log ++ p ∷ [])
begins_more None old log p is = tt
begins_more (Some n) old log p is = (is.0 ++ p ∷ [], sym (append_assoc old is.0 (p ∷ [])) ∙ ap (λ (l : List Parts). l ++ p ∷ []) is.1)

-- what was seen first is a beginning of what was seen last
pub begins_then : (named : Option ℕ) (a b c : List Parts) → Begins named a b → Begins named b c → Begins named a c
begins_then None a b c ab bc = tt
begins_then (Some n) a b c ab bc = (ab.0 ++ bc.0, sym (append_assoc a ab.0 bc.0) ∙ ap (λ (l : List Parts). l ++ bc.0) ab.1 ∙ bc.1)

-- a call sees all that its caller had seen
pub goes_begins : {P : Parts → Parts → Type 0} (firsts : List Parts) (names : ℕ → Option ℕ) (place : ℕ) (old new : List Parts) → Goes firsts names place old new P → Begins (names place) old new
goes_begins firsts names place old new (p, q, at, (before, begins, ends, is), so) = subst (λ (l : List Parts). Begins (names place) old l) (sym is) (begins_more (names place) old before q begins)

-- the part that a lock lends is at the place that was asked for, and has its limits
pub lent : (firsts : List Parts) (lock : Begun) {asked place : ℕ} {guard part : Held} → slice_get (limits_in firsts) asked ≡ Some lock.first.limits → lock.place ≡ asked → asked ≡ place → guard.place ≡ lock.place → guard.now.limits ≡ lock.first.limits → part ≡ guard → (slice_get (limits_in firsts) place ≡ Some part.now.limits) × (part.place ≡ place)
lent firsts lock {asked} {place} {guard} {part} has at is there same lends = (
  subst (λ (n : ℕ). slice_get (limits_in firsts) n ≡ Some part.now.limits) is (has ∙ ap Some (sym (ap (λ (h : Held). h.now.limits) lends ∙ same))),
  ap (λ (h : Held). h.place) lends ∙ there ∙ at ∙ is,
)

-- a call that had the part at a place led from p to q, and its caller sees that
pub goes_by : {P : Parts → Parts → Type 0} (firsts : List Parts) (names : ℕ → Option ℕ) (at place : ℕ) (old seen new : List Parts) (p q : Parts) → (slice_get (limits_in firsts) place ≡ Some p.limits) × (at ≡ place) → old ≡ seen → Moves (names at) old new p q → P p q → Goes firsts names place seen new P
goes_by firsts names at place old seen new p q here same moves so = (p, q, here.0, subst (λ (n : ℕ). Moves (names n) seen new p q) here.1 (subst (λ (l : List Parts). Moves (names at) l new p q) same moves), so)

pub sees_by : {P : Parts → Type 0} (firsts : List Parts) (names : ℕ → Option ℕ) (at place : ℕ) (old seen new : List Parts) (p : Parts) → (slice_get (limits_in firsts) place ≡ Some p.limits) × (at ≡ place) → old ≡ seen → Looks (names at) old new p → P p → Sees firsts names place seen new P
sees_by firsts names at place old seen new p here same looks so = (p, inl here.0, subst (λ (n : ℕ). Looks (names n) seen new p) here.1 (subst (λ (l : List Parts). Looks (names at) l new p) same looks), so)

-- nothing was asked of the part: what holds of each state holds of the last one that was seen
pub sees_last : {P : Parts → Type 0} (firsts : List Parts) (names : ℕ → Option ℕ) (place : ℕ) (seen : List Parts) → IsLog seen → ((p : Parts) → P p) → Sees firsts names place seen seen P
sees_last firsts names place seen is so = let p = last seen is in (p.0, inr refl, (begins_self (names place) seen, p.1), so p.0)
