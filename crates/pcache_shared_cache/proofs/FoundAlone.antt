-- A complete body that a look-up finds, read after the lock: the look-up was made when it was found.
use Rattle.pcache_base.specs.declared.error.ErrorType.TheVariants.{OutOfMemory}
use Rattle.pcache_request.specs.LockPasts.{key_locked_deeds}
use Rattle.pcache_request.specs.StorePasts.{hidden_past}
use Rattle.pcache_request.specs.Variants.{is_unseen, searched, visible, with_key_lock, without_hidden}
use Rattle.pcache_cache.specs.Fetching.{is_old_variant}
use Rattle.pcache_cache.specs.Looking.{LooksIn, emptied}
use Rattle.pcache_store.specs.Notes.{joined_by, look_noted}
use Rattle.pcache_store.specs.Past.{Note}
use Rattle.pcache_store.specs.Store.{Part, Whole, followed, followed_by, left}
use Rattle.pcache_shared_cache.proofs.Words.{◌≡◌, inl, ℕ, Bool, true, false, List, Option, Some, None, IsSome, Result, Ok, Err, cond, refl, sym, ap, subst, ◌∙◌, IfSome, ErrorType, LooksUp, Parts, grew_same, Meta, Request, found_for, searched_past, is_hidden, is_unseen_for, table_key_locked, if_complete, needs_no_store, reader_of, leave_noted, noted, Reader, Store, MemHitHandler, Goes, Leads, Seated}
use Rattle.pcache_shared_cache.proofs.Logs.{goes_begins, begins_then}

-- what was found is a complete body, and the look-up finds it
pub found_is : (x : Option (Meta × Reader)) (f : Meta × Reader) → if_complete x ≡ Some f → (x ≡ Some f) × (needs_no_store f.1 ≡ true)
found_is None f is = absurd (cc)
found_is (Some (m, Whole id body start stop done)) f is = (is, sym (ap whole is))
  where
    whole : Option (Meta × Reader) → Bool
    whole None = true
    whole (Some p) = needs_no_store p.1
found_is (Some (m, Part n place)) f is = absurd (cc)

-- what a look-up of the cache finds so is what its store finds, and no old variant
pub body_is : (b : Bool) (x : Option (Meta × Reader)) (f : Meta × Reader) → cond b None x ≡ Some f → (b ≡ false) × (x ≡ Some f)
body_is true x f is = absurd (cc)
body_is false x f is = (refl, is)

followed_alone : (s : Store) (h : Reader) → needs_no_store h ≡ true → followed_by s h ≡ s
followed_alone s (Whole id body start stop done) is = refl
followed_alone s (Part n place) is = absurd (cc)

noted_alone : (past : List Note) (h : Reader) → needs_no_store h ≡ true → noted (joined_by h) (Some past) ≡ Some past
noted_alone past (Whole id body start stop done) is = refl
noted_alone past (Part n place) is = absurd (cc)

module _ (now : ℕ) (r : Request) (p : Parts) (m : Meta) (h : MemHitHandler) (found : found_for p.store r.key ≡ Some (m, reader_of h)) (alone : needs_no_store (reader_of h) ≡ true) (shown : is_hidden r.valid_after m.created ≡ false) (young : is_old_variant r.key p.store p.purges ≡ false) where
  seen : is_unseen_for p.store r ≡ false
  seen = ap (λ (x : Option (Meta × Reader)). is_unseen r.valid_after x) found ∙ shown

  store : searched p.store r ≡ p.store
  store =
      ap (λ (x : Option (Meta × Reader)). without_hidden r.valid_after x (followed p.store x)) found
      ∙ ap (λ (b : Bool). cond b (left (followed_by p.store (reader_of h)) (reader_of h)) (followed_by p.store (reader_of h))) shown
      ∙ followed_alone p.store (reader_of h) alone

  past : searched_past p.store r (Some p.past) ≡ Some p.past
  past =
      ap (λ (x : Option (Meta × Reader)). hidden_past r.valid_after x (noted (look_noted x) (Some p.past))) found
      ∙ ap (λ (b : Bool). cond b (noted (leave_noted (reader_of h)) (noted (joined_by (reader_of h)) (Some p.past))) (noted (joined_by (reader_of h)) (Some p.past))) shown
      ∙ noted_alone p.past (reader_of h) alone

  -- a complete body that no variant hides is handed on, and nothing else is done
  pub found_alone : (q : Parts) → q ≡ p → LooksUp (Ok (Some (m, h))) now r r p q
  found_alone q same = subst (λ (x : Parts). LooksUp (Ok (Some (m, h))) now r r p x) (sym same) (inl (subst (λ (b : Bool). LooksIn (Ok (Some (m, h))) now r r (cond b (emptied r p) p) p) (sym young) (record {
    takes = record {
      found = sym (ap (λ (x : Option (Meta × Reader)). visible r.valid_after x) found ∙ ap (λ (b : Bool). cond b None (Some (m, reader_of h))) shown);
      request = sym (ap (λ (b : Bool). cond b (with_key_lock p.locks r) r) seen);
      store = sym store;
      past = sym past;
      table = sym (ap (λ (b : Bool). cond b (table_key_locked now r p.locks) p.locks) seen);
      deeds = sym (ap (λ (b : Bool). cond b (key_locked_deeds now p.locks r (Some p.deeds)) (Some p.deeds)) seen);
      decided = tt;
      left = tt;
      same_store = tt;
      same_table = tt;
      same_deeds = tt;
      kind = tt;
      numbers = tt;
      something = tt;
    };
    phase = refl;
    uses = refl;
    rest = refl;
  })))

-- its meta was not read for want of memory, and nothing was done
pub read_not : (now : ℕ) (r : Request) (p q : Parts) (result : Result (Option (Meta × MemHitHandler)) ErrorType) (e : ErrorType) → result ≡ Err e → e ≡ OutOfMemory → IsSome (found_for p.store r.key) → is_old_variant r.key p.store p.purges ≡ false → q ≡ p → LooksUp result now r r p q
read_not now r p q result e is why there young same =
    subst (λ (x : Result (Option (Meta × MemHitHandler)) ErrorType). LooksUp x now r r p q) (sym (is ∙ ap Err why))
    (subst (λ (x : Parts). LooksUp (Err OutOfMemory) now r r p x) (sym same) (inl (subst (λ (b : Bool). LooksIn (Err OutOfMemory) now r r (cond b (emptied r p) p) p) (sym young) (record {
      takes = record {
        found = tt;
        request = tt;
        store = tt;
        past = tt;
        table = tt;
        deeds = tt;
        decided = refl;
        left = inl (refl, refl);
        same_store = λ _. refl;
        same_table = refl;
        same_deeds = refl;
        kind = tt;
        numbers = λ other. absurd (cc);
        something = inl there;
      };
      phase = tt;
      uses = tt;
      rest = refl;
    }))))

-- the part is as it was, and so nothing is forgotten
pub leads_nowhere : (p q : Parts) → q ≡ p → Leads p q
leads_nowhere p q same = subst (λ (x : Parts). Leads p x) (sym same) (record { limits = refl; weighing = refl; age = refl; past = grew_same p.past p.past refl; deeds = grew_same p.deeds p.deeds refl })

-- a call that looked at the part, and then was made, was made after all that had been seen
pub goes_then : {P Q : Parts → Parts → Type 0} (firsts : List Parts) (names : ℕ → Option ℕ) (place : ℕ) (old mid new : List Parts) → Goes firsts names place old mid P → Goes firsts names place mid new Q → Goes firsts names place old new Q
goes_then {P} {Q} firsts names place old mid new (p, q, at, (before, begins, ends, is), so) (p2, q2, at2, (before2, begins2, ends2, is2), so2) =
    let first = goes_begins {P = P} firsts names place old mid (p, q, at, (before, begins, ends, is), so) in
    (p2, q2, at2, (before2, begins_then (names place) old mid before2 first begins2, ends2, is2), so2)

pub goes_as : {P Q : Parts → Parts → Type 0} (firsts : List Parts) (names : ℕ → Option ℕ) (place : ℕ) (old new : List Parts) → ((p q : Parts) → P p q → Q p q) → Goes firsts names place old new P → Goes firsts names place old new Q
goes_as firsts names place old new so (p, q, at, moves, is) = (p, q, at, moves, so p q is)

-- the same for a request that stays as it is but for what it has seen, and for when its fetch began
pub looks_then : {P : Parts → Parts → Type 0} (Q : Request → Parts → Parts → Type 0) (firsts : List Parts) (names : ℕ → Option ℕ) (r s : Seated) (new : List Parts) → s ≡ record r { seen = s.seen; fetch = s.fetch } → Goes firsts names r.place r.seen s.seen P → Goes firsts names s.place s.seen new (Q s.cache) → Goes firsts names r.place r.seen new (Q r.cache)
looks_then {P} Q firsts names r s new is first second = goes_then firsts names r.place r.seen s.seen new first (subst (λ (x : Seated). Goes firsts names x.place s.seen new (Q x.cache)) is second)

-- what is told of a result that is what was found
pub some_found : (f x : Option (Meta × Reader)) → f ≡ x → IfSome f (λ y. x ≡ Some y)
some_found None x is = tt
some_found (Some y) x is = sym is
