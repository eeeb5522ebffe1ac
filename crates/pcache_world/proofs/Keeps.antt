-- What each change of a request keeps: it stays one of a world, and has its key while it makes a write.
use Rattle.pcache_request.specs.Requests.{Request}
use Rattle.pcache_store.specs.Store.{Reader}
use Rattle.pcache_history.specs.Ongoing.{asked}
use Rattle.pcache_world.proofs.Words.{◌≡◌, ℕ, Bool, true, false, cond, Option, None, Some, IsSome, List, [], ◌∷◌, refl, ap, sym, subst, ◌∙◌, Key, Meta, Locks, Decision, decided, with_decision, MayLookUp, IsFilling, IsOn, IsDisabled, asks_as_stale, asks_for_hit, with_lock, found_row, CachePhase, HitStatus, IsOfWorld, KeepsIn, Event, with_given, with_sought}
use Rattle.pcache_request.specs.declared.phase.CachePhase.TheVariants as phase
use Rattle.pcache_history.specs.declared.entry.Event.TheVariants as E

-- phases in which no write is made
no-look : (p : CachePhase) → MayLookUp p → IsFilling p → ⊥
no-look phase.CacheKey may f = f
no-look phase.Stale may f = f
no-look p may f = absurd may

-- and in which caching is on
look-on : (p : CachePhase) → MayLookUp p → IsOn p
look-on phase.CacheKey may = tt
look-on phase.Stale may = tt
look-on p may = absurd may

none-some : (o : Option ℕ) → o ≡ None → IsSome o → ⊥
none-some None is some = cc
none-some (Some n) is some = cc

-- caching that is off is not on
not-on : (p : CachePhase) → IsDisabled p → IsOn p → ⊥
not-on (phase.Disabled r) off on = on
not-on p off on = absurd off

-- nothing changed
pub keeps-same : (x y : Request) → y ≡ x → KeepsIn x y
keeps-same x y is world = subst (λ (z : Request). IsOfWorld z × (IsSome z.write → z.key ≡ x.key)) (sym is) (world, λ _. refl)

-- what a write, the parts in use, the phase and the key do not know of
keeps-like : (x y : Request) → y.uses ≡ x.uses → y.entry ≡ x.entry → y.write ≡ x.write → y.phase ≡ x.phase → y.key ≡ x.key → KeepsIn x y
keeps-like x y uses entry write at key world = (
  record {
    eviction = λ on. ap (λ u. u.eviction) uses ∙ world.eviction (subst IsOn at on);
    fills = λ some. subst IsFilling (sym at) (world.fills (subst (λ (o : Option ℕ). IsSome o) write some));
  },
  λ _. key,
)

-- locks that were asked for
keeps-then : (x y z : Request) → KeepsIn x y → (KeepsIn y z) → (IsSome z.write → IsSome y.write) → KeepsIn x z
keeps-then x y z a b writes world = let p = a world in let q = b p.0 in (q.0, λ some. q.1 some ∙ p.1 (writes some))

keeps-given : (stale : Bool) (e : Event) (x : Request) → KeepsIn x (with_given stale e x)
keeps-given stale (E.Ask k n b) x = keeps-like x (with_given stale (E.Ask k n b) x) refl refl refl refl refl
keeps-given stale e x = keeps-like x x refl refl refl refl refl

given-write : (stale : Bool) (e : Event) (x : Request) → (with_given stale e x).write ≡ x.write
given-write stale (E.Ask k n b) x = refl
given-write stale e x = refl

pub asked-write : (stale : Bool) (events : List Event) (x : Request) → (asked stale events x).write ≡ x.write
asked-write stale [] x = refl
asked-write stale (e ∷ events) x = asked-write stale events (with_given stale e x) ∙ given-write stale e x

pub keeps-asked : (stale : Bool) (events : List Event) (x : Request) → KeepsIn x (asked stale events x)
keeps-asked stale [] x = keeps-like x x refl refl refl refl refl
keeps-asked stale (e ∷ events) x =
    let y = with_given stale e x in
    keeps-then x y (asked stale events y) (keeps-given stale e x) (keeps-asked stale events y) (λ some. subst (λ (o : Option ℕ). IsSome o) (asked-write stale events y) some)

-- a decision that was taken, with them
pub keeps-decided : (d : Option Decision) (events : List Event) (x : Request) → KeepsIn x (asked false events (with_decision d x))
keeps-decided None events x = keeps-asked false events x
keeps-decided (Some d) events x =
    let y = decided d x in
    keeps-then x y (asked false events y) (keeps-like x y refl refl refl refl refl) (keeps-asked false events y) (λ some. subst (λ (o : Option ℕ). IsSome o) (asked-write false events y) some)

-- caching that is turned off
pub keeps-off : (x y : Request) → IsDisabled y.phase → (y.write ≡ None) → KeepsIn x y
keeps-off x y off none world = (
  record { eviction = λ on. absurd (not-on y.phase off on); fills = λ some. absurd (none-some y.write none some) },
  λ some. absurd (none-some y.write none some),
)

pub keeps-found : (x y : Request) (s : HitStatus) (m : Meta) (h : Reader) (t : Locks) → MayLookUp x.phase → y ≡ found_row s m h t x → KeepsIn x y
keeps-found x y s m h t may is world =
    subst (λ (z : Request). IsOfWorld z × (IsSome z.write → z.key ≡ x.key)) (sym is) (
      record {
        eviction = λ _. ap (λ u. u.eviction) (used (asks_for_hit s x) (asks_as_stale s x.phase) x.key) ∙ world.eviction (look-on x.phase may);
        fills = λ some. absurd (none some);
      },
      λ some. absurd (none some),
    )
  where
    locked : (b stale : Bool) (k : Option Key) → (cond b (with_lock stale t k x) x).write ≡ x.write
    locked true stale None = refl
    locked true stale (Some k) = refl
    locked false stale k = refl

    used : (b stale : Bool) (k : Option Key) → (cond b (with_lock stale t k x) x).uses ≡ x.uses
    used true stale None = refl
    used true stale (Some k) = refl
    used false stale k = refl

    none : IsSome (found_row s m h t x).write → ⊥
    none some = no-look x.phase may (world.fills (subst (λ (o : Option ℕ). IsSome o) (locked (asks_for_hit s x) (asks_as_stale s x.phase) x.key) some))

-- a reader that is sent to another range
pub keeps-sought : (x y : Request) (b : Bool) (start : ℕ) (end : Option ℕ) → y ≡ cond b (with_sought start end x) x → KeepsIn x y
keeps-sought x y true start end is = subst (KeepsIn x) (sym is) (keeps-like x (with_sought start end x) refl refl refl refl refl)
keeps-sought x y false start end is = keeps-same x y is
