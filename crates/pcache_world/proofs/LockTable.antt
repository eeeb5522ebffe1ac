-- The lock table stays what the deeds say: one lemma for all deeds of the table, by its past.
use Rattle.std.proofs.Common.{min}
use Rattle.std.specs.Option.{option_map}
use Rattle.std.proofs.lemmas.Bool.{ne_eqb}
use Rattle.pcache_lock.specs.Deeds.{LetGo, Aged, Left, Made}
use Rattle.pcache_lock.specs.declared.lock.permit.Locked.TheVariants.{Read}
use Rattle.pcache_lock.specs.Permits.{Reader}
use Rattle.pcache_lock.specs.Past.{Does}
use Rattle.pcache_lock.specs.PastWaits.{given_by, held_since, number_of, status_by}
use Rattle.pcache_lock.proofs.Calls.{any_tidy}
use Rattle.pcache_lock.proofs.Kept.{gives, publications-then, publications_by, readers-then, readers_by, there-before}
use Rattle.pcache_lock.proofs.PastWaits.{age-then, known-by, own_by, turned, turns}
use Rattle.pcache_history.specs.Deeds.{Did, publication_at}
use Rattle.pcache_world.specs.LockTable.{SaysAs}
use Rattle.pcache_world.proofs.Words.{◌≡◌, ℕ, ◌+◌, ◌-◌, ◌^◌, ◌<◌, ◌≤◌, ◌==◌, Bool, true, false, ◌&&◌, cond, if◌then◌else◌, Option, None, Some, is_some, List, [], ◌∷◌, ◌++◌, length, length-append, refl, ap, sym, subst, ◌∙◌, arith, nat_lt, slice_get, unwrap_or, nat_cmp, get, get-empty, and_parts, eqb-true, nat_tests, Granted, Joined, Released, Published, Write, LockStatus, IsReason, Core, Permit, publications_at, readers_at, Locks, after_request, holder, let_go, no_locks, released, after_poll, publications_with, published, says_nothing, is_old_at, given_at, is_held, status_said, kept-if, next-then, next_by, begins, grows, Knows, Deed, Handed, Polled, done, publication, who_holds, IsTable, last_of}
use Rattle.pcache_lock.specs.Deeds as table
use Rattle.pcache_lock.specs.declared.lock.status.LockStatus.TheVariants as status

-- ---- what deeds say

pub flip : (a b : ℕ) → (a == b) ≡ (b == a)
flip a b = grind (arith, nat_tests)

pub some-same : {X : Type 0} (x y : X) → Some x ≡ Some y → x ≡ y
some-same x y e = cc e

-- a permit that is handed on is held as before
pub held-handed : (b : Bool) (r : ℕ) (w : Option ℕ) → is_some (if b then option_map (λ _. r) w else w) ≡ is_some w
held-handed true r None = refl
held-handed true r (Some q) = refl
held-handed false r w = refl

held-if : (n l : ℕ) (o w : Option ℕ) (h : Bool) → is_some w ≡ h → is_some (if n == l then o else w) ≡ cond (l == n) (is_some o) h
held-if n l o w h e = elim (n == l) as (λ b. is_some (if b then o else w) ≡ cond b (is_some o) h) [ true ↦ refl | false ↦ e ] ∙ ap (λ b. cond b (is_some o) h) (flip n l)

-- a permit is held if a request holds it
pub who-held : (l : ℕ) (ds : List Deed) → is_some (who_holds l ds) ≡ is_held l (done ds)
who-held l [] = refl
who-held l (Did r (Granted k n stale t) ∷ ds) = held-if n l (Some r) (who_holds l ds) (is_held l (done ds)) (who-held l ds)
who-held l (Did r (Made n age stale t) ∷ ds) = held-if n l (Some r) (who_holds l ds) (is_held l (done ds)) (who-held l ds)
who-held l (Did r (Released n s) ∷ ds) = held-if n l None (who_holds l ds) (is_held l (done ds)) (who-held l ds)
who-held l (Did r (LetGo n) ∷ ds) = held-if n l None (who_holds l ds) (is_held l (done ds)) (who-held l ds)
who-held l (Did r deed ∷ ds) = who-held l ds ∙ sym (kept-if (l == number_of deed) refl)
who-held l (Handed n r ∷ ds) = held-handed (n == l) r (who_holds l ds) ∙ who-held l ds
who-held l (Polled r ∷ ds) = who-held l ds

-- ---- the last publication

pub empty : {A : Type 0} (xs : List A) → (length xs == 0) ≡ true → xs ≡ []
empty [] h = refl
empty (x ∷ xs) h = let no : false ≡ true = sym (ne_eqb (length (x ∷ xs)) 0 (λ e. absurd (omega (arith, e)))) ∙ h in absurd (cc)

last-more : (ps : List (List ℕ)) (x : List ℕ) → slice_get (ps ++ x ∷ []) (length ps) ≡ Some x
last-more [] x = refl
last-more (p ∷ ps) x = last-more ps x

says-none : (o : Option (List ℕ)) → says_nothing o ≡ true → unwrap_or o [] ≡ []
says-none None h = refl
says-none (Some x) h = empty x h

last-of-more : (ps : List (List ℕ)) (x : List ℕ) → last_of (ps ++ x ∷ []) ≡ x
last-of-more ps x =
    let i : length (ps ++ x ∷ []) - 1 ≡ length ps = omega (arith, length-append ps (x ∷ [])) in
    ap (λ j. unwrap_or (slice_get (ps ++ x ∷ []) j) []) i ∙ ap (λ o. unwrap_or o []) (last-more ps x)

-- a publication is the last
pub last-with : (readers : ℕ) (tokens : List ℕ) (ps : List (List ℕ)) → last_of (publications_with readers tokens ps) ≡ tokens
last-with readers tokens ps =
    elim (length tokens == 0 && says_nothing (slice_get ps (length ps - 1))) as (λ b. (length tokens == 0 && says_nothing (slice_get ps (length ps - 1))) ≡ b → last_of (cond b ps (cond (readers == 0) (tokens ∷ []) (ps ++ tokens ∷ []))) ≡ tokens) [
      | true ↦ λ both. let p = and_parts _ _ both in says-none (slice_get ps (length ps - 1)) p.1 ∙ sym (empty tokens p.0)
      | false ↦ λ _. elim (readers == 0) as (λ b. last_of (cond b (tokens ∷ []) (ps ++ tokens ∷ [])) ≡ tokens) [ true ↦ refl | false ↦ last-of-more ps tokens ]
    ] refl

-- ---- one deed and the current publication

abbrev said_by : table.Deed → List ℕ → List ℕ
said_by (Granted k n stale t) before = []
said_by (Made n age stale t) before = []
said_by (Published n tokens) before = tokens
said_by _ before = before

pub said-at : (l r : ℕ) (deed : table.Deed) (before : List ℕ) → publication_at l (Did r deed) before ≡ cond (l == number_of deed) (said_by deed before) before
said-at l r (Granted k n stale t) before = ap (λ b. cond b [] before) (flip n l)
said-at l r (Made n age stale t) before = ap (λ b. cond b [] before) (flip n l)
said-at l r (Published n tokens) before = ap (λ b. cond b tokens before) (flip n l)
said-at l r deed before = sym (kept-if (l == number_of deed) refl)

said-by : (deed : table.Deed) (n : ℕ) (ps : List (List ℕ)) (before : List ℕ) → last_of ps ≡ before → last_of (publications_by deed n ps) ≡ said_by deed before
said-by (Granted k m stale t) n ps before e = refl
said-by (Made m age stale t) n ps before e = refl
said-by (Published m tokens) n ps before e = last-with n tokens ps
said-by deed n ps before e = e

said-then : (age : ℕ) (deed : table.Deed) (o : Option Core) (before : List ℕ) → (is_some o ≡ true → last_of (publications_at o) ≡ before) → is_some (turned age deed o) ≡ true → last_of (publications_at (turned age deed o)) ≡ said_by deed before
said-then age deed (Some c) before old there = ap last_of (publications-then age deed (Some c) refl there) ∙ said-by deed c.readers c.publications before (old refl)
said-then age (Granted k m stale t) None before old there = refl
said-then age (Made m own stale t) None before old there = refl
said-then age deed None before old there = absurd (cc)

-- ---- one more deed in both, and a read lock let go in the table's past alone

module _ (past qs : List table.Deed) (k : SaysAs past qs) where
  pub says-same : (deed : table.Deed) → SaysAs (deed ∷ past) (deed ∷ qs)
  says-same deed = record {
    held = λ l. ap (λ h. cond (l == number_of deed) (held_since deed h) h) (k.held l);
    status = λ l. ap (λ s. cond (l == number_of deed) (status_by deed s) s) (k.status l);
    given = λ age l. ap (λ g. cond (l == number_of deed) (given_by age deed g) g) (k.given age l);
  }

  says-granted : (slot n : ℕ) (stale : Bool) (now : ℕ) → SaysAs (Granted slot n stale now ∷ past) (Granted slot n false now ∷ qs)
  says-granted slot n stale now = record {
    held = λ l. ap (λ h. cond (l == n) true h) (k.held l);
    status = λ l. ap (λ s. cond (l == n) status.Waiting s) (k.status l);
    given = λ age l. ap (λ g. cond (l == n) (now, age) g) (k.given age l);
  }

  says-left : (n : ℕ) → SaysAs (Left n ∷ past) qs
  says-left n = record { held = λ l. kept-if (l == n) refl ∙ k.held l; status = λ l. kept-if (l == n) refl ∙ k.status l; given = λ age l. kept-if (l == n) refl ∙ k.given age l }

-- ---- the start

pub table-none : (age : ℕ) → IsTable [] (λ l. 0) (no_locks age)
table-none age = record {
  past = [];
  led = begins 0 age;
  says = record { held = λ l. refl; status = λ l. refl; given = λ age l. refl };
  readers = λ l. ap readers_at (get-empty nat_cmp l);
  said = λ l there. let no : false ≡ true = sym (ap is_some (get-empty nat_cmp l)) ∙ there in absurd (cc);
}

-- ---- what one deed makes of a table

-- a lock was in a table, with these publications
abbrev pub WasThere : Option Core → List (List ℕ) → Type 0
WasThere o ps = (is_some o ≡ true) × (ps ≡ publications_at o)

-- the table agrees with the new deeds, and keeps the publications of the locks that it had
pub record Follows (es : List Deed) (m : ℕ → ℕ) (t u : Locks) : Type 0 where
  pub table : IsTable es m u
  pub age : u.age_timeout ≡ t.age_timeout
  pub next : t.next ≤ u.next
  pub kept : (l : ℕ) → l < t.next → is_some (get u.cores l) ≡ true → WasThere (get t.cores l) (publications_at (get u.cores l))

read-if : (b : Bool) (x y : Option Core) (i j : ℕ) → readers_at x ≡ i → readers_at y ≡ j → readers_at (cond b x y) ≡ cond b i j
read-if true x y i j e f = e
read-if false x y i j e f = f

said-if : (b : Bool) (x y : Option Core) (v w : List ℕ) → (is_some x ≡ true → last_of (publications_at x) ≡ v) → (is_some y ≡ true → last_of (publications_at y) ≡ w) → is_some (cond b x y) ≡ true → last_of (publications_at (cond b x y)) ≡ cond b v w
said-if true x y v w e f = e
said-if false x y v w e f = f

more : (deed : table.Deed) (n : ℕ) → n ≤ next_by deed n
more (Granted slot m stale now) n = omega arith
more (Made m age stale now) n = omega arith
more deed n = omega arith

module _ (ds : List Deed) (n : ℕ → ℕ) (t : Locks) (k : IsTable ds n t) where
  pub knows-at : (l : ℕ) → Knows (is_held l k.past) (status_said l k.past) (given_at t.age_timeout l k.past) (get t.cores l)
  knows-at l = known-by t k.past k.led l

  pub held-there : (l : ℕ) → is_held l (done ds) ≡ true → is_some (get t.cores l) ≡ true
  held-there l held = elim (get t.cores l) as (λ o. Knows (is_held l k.past) (status_said l k.past) (given_at t.age_timeout l k.past) o → is_some o ≡ true) [
    | None ↦ λ w. let no : true ≡ false = sym (k.says.held l ∙ held) ∙ w in absurd (cc)
    | Some c ↦ λ _. refl
  ] (knows-at l)

  pub read-there : (l : ℕ) → 0 < n l → is_some (get t.cores l) ≡ true
  read-there l read = elim (get t.cores l) as (λ o. readers_at o ≡ n l → is_some o ≡ true) [ None ↦ λ e. absurd (omega (arith, e, read)) | Some c ↦ λ _. refl ] (k.readers l)

  unused : (l : ℕ) → t.next ≤ l → get t.cores l ≡ None
  unused l le = (any_tidy k.past k.led.0 k.led.1.0 t k.led.1.1).unused l le

  -- a lock that is known has a number that was given
  pub given-there : (l : ℕ) → is_some (get t.cores l) ≡ true → l < t.next
  given-there l there =
      elim (nat_lt l t.next) as (λ b. nat_lt l t.next ≡ b → l < t.next) [
        | true ↦ λ lt. grind (arith, nat_tests)
        | false ↦ λ f. let le : t.next ≤ l = grind (arith, nat_tests) in let no : false ≡ true = sym (ap is_some (unused l le)) ∙ there in absurd (cc)
      ] refl

  pub held-given : (l : ℕ) → is_held l (done ds) ≡ true → l < t.next
  held-given l held = given-there l (held-there l held)

  -- a deed that is done to the table, with these deeds and counts after it
  module _ (deed : table.Deed) (es : List Deed) (m : ℕ → ℕ) (u : Locks) (does : Does deed t u) (says : SaysAs (deed ∷ k.past) (done es)) (there : gives deed ≡ false → is_some (get t.cores (number_of deed)) ≡ true)
      (count : (q : ℕ) → m q ≡ cond (q == number_of deed) (readers_by deed (n q)) (n q)) (says-of : (q : ℕ) → publication q es ≡ cond (q == number_of deed) (said_by deed (publication q ds)) (publication q ds)) where
    at : (q : ℕ) → get u.cores q ≡ cond (q == number_of deed) (turned t.age_timeout deed (get t.cores q)) (get t.cores q)
    at q = turns deed t u q does ∙ own_by (turned t.age_timeout deed) (get t.cores) (number_of deed) q (get t.cores q) (q == number_of deed) refl

    pub table-then : IsTable es m u
    table-then =
        let l = number_of deed in
        record {
          past = deed ∷ k.past;
          led = grows t u k.past deed k.led does;
          says = says;
          readers = λ q.
              ap readers_at (turns deed t u q does)
              ∙ read-if (q == l) (turned t.age_timeout deed (get t.cores l)) (get t.cores q) (readers_by deed (n l)) (n q) (readers-then t.age_timeout deed (get t.cores l) there ∙ ap (readers_by deed) (k.readers l)) (k.readers q)
              ∙ own_by (readers_by deed) n l q (n q) (q == l) refl
              ∙ sym (count q);
          said = λ q some.
              ap (λ o. last_of (publications_at o)) (at q)
              ∙ said-if (q == l) (turned t.age_timeout deed (get t.cores q)) (get t.cores q) (said_by deed (publication q ds)) (publication q ds) (said-then t.age_timeout deed (get t.cores q) (publication q ds) (k.said q)) (k.said q) (sym (ap is_some (at q)) ∙ some)
              ∙ sym (says-of q);
        }

    -- one that publishes nothing
    pub step : ((q : ℕ) → q < t.next → (q == number_of deed) ≡ true → (gives deed ≡ false) × ((r : ℕ) (ps : List (List ℕ)) → publications_by deed r ps ≡ ps)) → Follows es m t u
    step still = record { table = table-then; age = age-then deed t u does; next = subst (λ x. t.next ≤ x) (sym (next-then deed t u does)) (more deed t.next); kept = kept }
      where
        kept-by : (q : ℕ) → q < t.next → (b : Bool) → (q == number_of deed) ≡ b → is_some (cond b (turned t.age_timeout deed (get t.cores q)) (get t.cores q)) ≡ true
            → WasThere (get t.cores q) (publications_at (cond b (turned t.age_timeout deed (get t.cores q)) (get t.cores q)))
        kept-by q lt false e some = (some, refl)
        kept-by q lt true e some =
            let quiet = still q lt e in
            let was = there-before t.age_timeout deed (get t.cores q) quiet.0 some in
            (was, publications-then t.age_timeout deed (get t.cores q) was some ∙ quiet.1 (readers_at (get t.cores q)) (publications_at (get t.cores q)))

        kept : (q : ℕ) → q < t.next → is_some (get u.cores q) ≡ true → WasThere (get t.cores q) (publications_at (get u.cores q))
        kept q lt some = subst (λ o. WasThere (get t.cores q) (publications_at o)) (sym (at q)) (kept-by q lt (q == number_of deed) refl (sym (ap is_some (at q)) ∙ some))

  as-said : (r : ℕ) (deed : table.Deed) (q : ℕ) → publication q (Did r deed ∷ ds) ≡ cond (q == number_of deed) (said_by deed (publication q ds)) (publication q ds)
  as-said r deed q = said-at q r deed (publication q ds)

  -- the permit is given
  pub gives-permit : (r slot : ℕ) (stale : Bool) (now : ℕ) → holder t slot ≡ None → Follows (Did r (Granted slot t.next false now) ∷ ds) n t (after_request t slot stale now None)
  gives-permit r slot stale now free =
      step (Granted slot t.next stale now) (Did r (Granted slot t.next false now) ∷ ds) n (after_request t slot stale now None) (free, refl, refl) (says-granted k.past (done ds) k.says slot t.next stale now) (λ e. absurd (cc))
      (λ q. none q (q == t.next) refl) (as-said r (Granted slot t.next stale now)) (λ q lt e. let is = eqb-true q t.next e in absurd (omega (arith, lt, is)))
    where
      none : (q : ℕ) (b : Bool) → (q == t.next) ≡ b → n q ≡ cond b 0 (n q)
      none q true e = sym (k.readers q) ∙ ap readers_at (unused q (let is = eqb-true q t.next e in omega (arith, is)))
      none q false e = refl

  -- a read lock of a lock that is known
  pub joins : (m : ℕ → ℕ) (r slot : ℕ) (stale : Bool) (now l : ℕ) → holder t slot ≡ Some l → is_some (get t.cores l) ≡ true → ((q : ℕ) → m q ≡ n q + (if l == q then 1 else 0)) → ((q : ℕ) → n q + 1 < 2 ^ 128) → Follows (Did r (Joined slot l now) ∷ ds) m t (after_request t slot stale now (Some l))
  joins m r slot stale now l is known count few =
      step (Joined slot l now) (Did r (Joined slot l now) ∷ ds) m (after_request t slot stale now (Some l)) (is, refl) (says-same k.past (done ds) k.says (Joined slot l now)) (λ _. known)
      (λ q. count q ∙ ap (λ b. n q + (if b then 1 else 0)) (flip l q) ∙ one (n q) (few q) (q == l)) (as-said r (Joined slot l now)) (λ q lt e. (refl, λ r ps. refl))
    where
      one : (i : ℕ) → i + 1 < 2 ^ 128 → (b : Bool) → i + (if b then 1 else 0) ≡ cond b (min (i + 1) (2 ^ 128 - 1)) i
      one i lt true = omega (arith, lt)
      one i lt false = omega arith

  -- a permit that is held is released, or let go
  pub releases : (r l : ℕ) (s : LockStatus) → is_held l (done ds) ≡ true → IsReason s → Follows (Did r (Released l s) ∷ ds) n t (released t l s)
  releases r l s held reason =
      step (Released l s) (Did r (Released l s) ∷ ds) n (released t l s) (reason, refl) (says-same k.past (done ds) k.says (Released l s)) (λ _. held-there l held)
      (λ q. sym (kept-if (q == l) refl)) (as-said r (Released l s)) (λ q lt e. (refl, λ r ps. refl))

  pub lets-go : (r : ℕ) (p : Permit) → is_held p.number (done ds) ≡ true → Follows (Did r (LetGo p.number) ∷ ds) n t (let_go t (Write p))
  lets-go r p held =
      step (LetGo p.number) (Did r (LetGo p.number) ∷ ds) n (let_go t (Write p)) refl (says-same k.past (done ds) k.says (LetGo p.number)) (λ _. held-there p.number held)
      (λ q. sym (kept-if (q == p.number) refl)) (as-said r (LetGo p.number)) (λ q lt e. (refl, λ r ps. refl))

  -- a read lock is let go, which is no deed of the history
  pub leaves : (m : ℕ → ℕ) (rd : Reader) → ((q : ℕ) → n q ≡ m q + (if rd.number == q then 1 else 0)) → Follows ds m t (let_go t (Read rd))
  leaves m rd count =
      let l = rd.number in
      step (Left l) ds m (let_go t (Read rd)) refl (says-left k.past (done ds) k.says l) (λ _. read-there l (omega (arith, fewer (m l) (n l) (l == l) (count l) (ne-self l))))
      (λ q. less (m q) (n q) (q == l) (count q ∙ ap (λ b. m q + (if b then 1 else 0)) (flip l q))) (λ q. sym (kept-if (q == l) refl)) (λ q lt e. (refl, λ r ps. refl))
    where
      ne-self : (l : ℕ) → (l == l) ≡ true
      ne-self l = grind (arith, nat_tests)

      fewer : (a b : ℕ) (c : Bool) → b ≡ a + (if c then 1 else 0) → c ≡ true → 0 < b
      fewer a b true e _ = omega (arith, e)
      fewer a b false e f = absurd (cc)

      less : (a b : ℕ) (c : Bool) → b ≡ a + (if c then 1 else 0) → a ≡ cond c (b - 1) b
      less a b true e = omega (arith, e)
      less a b false e = omega (arith, e)

  -- a permit is found too old by one of its read locks
  pub ages : (r l now : ℕ) → is_some (get t.cores l) ≡ true → is_old_at now (get t.cores l) ≡ true → Follows (Did r (Aged l now) ∷ ds) n t (after_poll t now l (get t.cores l))
  ages r l now known old =
      step (Aged l now) (Did r (Aged l now) ∷ ds) n (after_poll t now l (get t.cores l)) (old, refl) (says-same k.past (done ds) k.says (Aged l now)) (λ _. known)
      (λ q. sym (kept-if (q == l) refl)) (as-said r (Aged l now)) (λ q lt e. (refl, λ r ps. refl))

  -- tokens are published for a permit that is held
  pub publishes : (r l : ℕ) (tokens : List ℕ) → is_held l (done ds) ≡ true → IsTable (Did r (Published l tokens) ∷ ds) n (published t l tokens)
  publishes r l tokens held =
      table-then (Published l tokens) (Did r (Published l tokens) ∷ ds) n (published t l tokens) refl (says-same k.past (done ds) k.says (Published l tokens)) (λ _. held-there l held)
      (λ q. sym (kept-if (q == l) refl)) (as-said r (Published l tokens))

  -- nothing is done to the table; a poll, and a permit that is handed on, are no deeds of it
  pub rests : Follows ds n t t
  rests = record { table = k; age = refl; next = omega arith; kept = λ l _ there. (there, refl) }

  pub polls : (r : ℕ) → Follows (Polled r ∷ ds) n t t
  polls r = record { table = record { past = k.past; led = k.led; says = k.says; readers = k.readers; said = k.said }; age = refl; next = omega arith; kept = λ l _ there. (there, refl) }

  pub hands : (l r : ℕ) → Follows (Handed l r ∷ ds) n t t
  hands l r = record { table = record { past = k.past; led = k.led; says = k.says; readers = k.readers; said = k.said }; age = refl; next = omega arith; kept = λ l _ there. (there, refl) }
