-- A history stays tidy.
use Rattle.pcache_history.specs.declared.entry.Event.TheVariants.{Read}
use Rattle.pcache_history.proofs.Words.{◌≡◌, ℕ, ◌<◌, ◌≤◌, Bool, true, false, ◌||◌, ◌==◌, if◌then◌else◌, Some, List, [], ◌∷◌, ◌++◌, refl, ap, subst, ◌∙◌, arith, eq-eqb, ne_eqb, or_left, or_right, Meta, numbered, CacheEntryKey, Answer, Event, Look, Ask, Access, Begin, Wrote, Finish, Dropped, Release, LetGo, Aged, Admit, Purge, Expire, Renew, Untrack, begun, begin_of, option_any, is_removed, has_ended, in_flight, body_of, is_told, is_of, was_stored, last_finished, IsTidy}
use Rattle.pcache_history.proofs.Steps.{flies, below, begun_of}

pub tidy-none : IsTidy []
tidy-none = record { unbegun = λ w h. refl; not_ended = λ w h. refl; no_body = λ w h. refl; not_told = λ w h. refl; not_stored = λ w h. refl; finished = λ k w h. absurd (cc) }

-- events that say nothing of writes
pub tidy-look : (es : List Event) (k : ℕ) (a : Answer) → IsTidy es → IsTidy (Look k a ∷ es)
tidy-look es k a t = record { unbegun = t.unbegun; not_ended = t.not_ended; no_body = t.no_body; not_told = t.not_told; not_stored = t.not_stored; finished = t.finished }

pub tidy-ask : (es : List Event) (k n : ℕ) (b : Bool) → IsTidy es → IsTidy (Ask k n b ∷ es)
tidy-ask es k n b t = record { unbegun = t.unbegun; not_ended = t.not_ended; no_body = t.no_body; not_told = t.not_told; not_stored = t.not_stored; finished = t.finished }

pub tidy-access : (es : List Event) (e : CacheEntryKey) (n : ℕ) → IsTidy es → IsTidy (Access e n ∷ es)
tidy-access es e n t = record { unbegun = t.unbegun; not_ended = t.not_ended; no_body = t.no_body; not_told = t.not_told; not_stored = t.not_stored; finished = t.finished }

pub tidy-release : (es : List Event) (n : ℕ) → IsTidy es → IsTidy (Release n ∷ es)
tidy-release es n t = record { unbegun = t.unbegun; not_ended = t.not_ended; no_body = t.no_body; not_told = t.not_told; not_stored = t.not_stored; finished = t.finished }

pub tidy-let_go : (es : List Event) (n : ℕ) → IsTidy es → IsTidy (LetGo n ∷ es)
tidy-let_go es n t = record { unbegun = t.unbegun; not_ended = t.not_ended; no_body = t.no_body; not_told = t.not_told; not_stored = t.not_stored; finished = t.finished }

pub tidy-aged : (es : List Event) (n : ℕ) → IsTidy es → IsTidy (Aged n ∷ es)
tidy-aged es n t = record { unbegun = t.unbegun; not_ended = t.not_ended; no_body = t.no_body; not_told = t.not_told; not_stored = t.not_stored; finished = t.finished }

pub tidy-untrack : (es : List Event) (e : CacheEntryKey) → IsTidy es → IsTidy (Untrack e ∷ es)
tidy-untrack es e t = record { unbegun = t.unbegun; not_ended = t.not_ended; no_body = t.no_body; not_told = t.not_told; not_stored = t.not_stored; finished = t.finished }

pub tidy-read : (es : List Event) (a : _) → IsTidy es → IsTidy (Read a ∷ es)
tidy-read es a t = record { unbegun = t.unbegun; not_ended = t.not_ended; no_body = t.no_body; not_told = t.not_told; not_stored = t.not_stored; finished = t.finished }

-- removals
pub tidy-purge : (es : List Event) (k : ℕ) → IsTidy es → IsTidy (Purge k ∷ es)
tidy-purge es k t = record {
  unbegun = t.unbegun;
  not_ended = t.not_ended;
  no_body = t.no_body;
  not_told = t.not_told;
  not_stored = t.not_stored;
  finished = t.finished;
}

pub tidy-admit : (es : List Event) (e : CacheEntryKey) (n : ℕ) (out : List CacheEntryKey) → IsTidy es → IsTidy (Admit e n out ∷ es)
tidy-admit es e n out t = record {
  unbegun = t.unbegun;
  not_ended = t.not_ended;
  no_body = t.no_body;
  not_told = t.not_told;
  not_stored = t.not_stored;
  finished = t.finished;
}

pub tidy-expire : (es : List Event) (k now : ℕ) → IsTidy es → IsTidy (Expire k now ∷ es)
tidy-expire es k now t = record {
  unbegun = t.unbegun;
  not_ended = t.not_ended;
  no_body = t.no_body;
  not_told = t.not_told;
  not_stored = t.not_stored;
  finished = t.finished;
}

pub tidy-renew : (es : List Event) (k : ℕ) (m : Meta) → IsTidy es → IsTidy (Renew k m ∷ es)
tidy-renew es k m t = record {
  unbegun = t.unbegun;
  not_ended = t.not_ended;
  no_body = t.no_body;
  not_told = t.not_told;
  not_stored = t.not_stored;
  finished = t.finished;
}

-- writes
pub tidy-begin : (es : List Event) (k : ℕ) (m : Meta) → IsTidy es → IsTidy (Begin (begun es) k m ∷ es)
tidy-begin es k m t =
    record {
      unbegun = λ q h. let le : begun es ≤ q = omega arith in ap (λ b. if b then Some (k, numbered (begun es) m) else begin_of q es) (ne_eqb (begun es) q (omega arith)) ∙ t.unbegun q le;
      not_ended = λ q h. let le : begun es ≤ q = omega arith in t.not_ended q le;
      no_body = λ q h. let le : begun es ≤ q = omega arith in t.no_body q le;
      not_told = λ q h. let le : begun es ≤ q = omega arith in t.not_told q le;
      not_stored = λ q h. let le : begun es ≤ q = omega arith in t.not_stored q le;
      finished = λ x q is.
          let old = t.finished x q is in
          let lt : q < begun es = below q es t (begun_of x q es old.1) in
          (old.0, ap (λ b. option_any (λ (a : ℕ × Meta). a.0 == x) (if b then Some (k, numbered (begun es) m) else begin_of q es)) (ne_eqb (begun es) q (omega arith)) ∙ old.1, old.2);
    }

pub tidy-wrote : (es : List Event) (w : ℕ) (bs : List ℕ) (eof : Bool) → in_flight w es ≡ true → IsTidy es → IsTidy (Wrote w bs eof ∷ es)
tidy-wrote es w bs eof fly t =
    let lt : w < begun es = below w es t (flies w es fly).0 in
    record {
      unbegun = t.unbegun;
      not_ended = t.not_ended;
      no_body = λ q h. ap (λ b. if b then body_of q es ++ bs else body_of q es) (ne_eqb w q (omega arith)) ∙ t.no_body q h;
      not_told = λ q h. ap (λ b. if b then eof else is_told q es) (ne_eqb w q (omega arith)) ∙ t.not_told q h;
      not_stored = t.not_stored;
      finished = t.finished;
    }

pub tidy-refused : (es : List Event) (w : ℕ) → in_flight w es ≡ true → IsTidy es → IsTidy (Finish w false ∷ es)
tidy-refused es w fly t =
    let lt : w < begun es = below w es t (flies w es fly).0 in
    record {
      unbegun = t.unbegun;
      not_ended = λ q h. ap (λ b. b || has_ended q es) (ne_eqb w q (omega arith)) ∙ t.not_ended q h;
      no_body = t.no_body;
      not_told = t.not_told;
      not_stored = t.not_stored;
      finished = λ k q is. let old = t.finished k q is in (or_right _ _ old.0, old.1, old.2);
    }

pub tidy-dropped : (es : List Event) (w : ℕ) → in_flight w es ≡ true → IsTidy es → IsTidy (Dropped w ∷ es)
tidy-dropped es w fly t =
    let lt : w < begun es = below w es t (flies w es fly).0 in
    record {
      unbegun = t.unbegun;
      not_ended = λ q h. ap (λ b. b || has_ended q es) (ne_eqb w q (omega arith)) ∙ t.not_ended q h;
      no_body = t.no_body;
      not_told = t.not_told;
      not_stored = t.not_stored;
      finished = λ k q is. let old = t.finished k q is in (or_right _ _ old.0, old.1, old.2);
    }

pub tidy-finish : (es : List Event) (w k : ℕ) (m : Meta) → begin_of w es ≡ Some (k, m) → is_removed w es ≡ false → in_flight w es ≡ true → IsTidy es → IsTidy (Finish w true ∷ es)
tidy-finish es w k m is whole fly t =
    let lt : w < begun es = below w es t (flies w es fly).0 in
    record {
      unbegun = t.unbegun;
      not_ended = λ q h. ap (λ b. b || has_ended q es) (ne_eqb w q (omega arith)) ∙ t.not_ended q h;
      no_body = t.no_body;
      not_told = λ q h. ap (λ b. if b then true else is_told q es) (ne_eqb w q (omega arith)) ∙ t.not_told q h;
      not_stored = λ q h. ap (λ b. b || was_stored q es) (ne_eqb w q (omega arith)) ∙ t.not_stored q h;
      finished = λ x q last.
          elim (is_of x w es) as (λ b. is_of x w es ≡ b → (if b then Some w else last_finished x es) ≡ Some q → (((w == q) || has_ended q es) ≡ true) × (is_of x q es ≡ true) × (((w == q) || was_stored q es) ≡ true)) [
            | true ↦ λ of here. let same : w ≡ q = cc in (or_left _ _ (eq-eqb w q same), subst (λ y. is_of x y es ≡ true) same of, or_left _ _ (eq-eqb w q same))
            | false ↦ λ _ here. let old = t.finished x q here in (or_right _ _ old.0, old.1, or_right _ _ old.2)
          ] refl last;
    }
