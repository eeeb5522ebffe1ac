-- The begin of a write whose response was fetched before a purge.
use Rattle.pcache_base.specs.declared.key.CompactCacheKey.{CompactCacheKey}
use Rattle.pcache_cache.specs.Fetching.{FetchNote, PurgesSeen, is_outdated}
use Rattle.pcache_cache.specs.Filling.{Begins, BeginsSo, key_if, write_removed}
use Rattle.pcache_cache.specs.Parts.{MayEnd, Parts, is_own_write}
use Rattle.pcache_cache.proofs.Words.{◌≡◌, ℕ, Bool, true, false, cond, Option, None, Some, Result, Ok, Err, OnOk, refl, sym, subst, ErrorType, Key, Request}

-- a key was made for the removal exactly if there is one
pub is_removed : (b : Bool) (k : Option Key) (x : CompactCacheKey) → key_if b k ≡ Some x → b ≡ true
is_removed true k x is = refl
is_removed false k x is = absurd (cc)

pub is_kept : (f : Option FetchNote) (k : Option Key) (p : PurgesSeen) → key_if (is_outdated f k p) k ≡ None → is_outdated f k p ≡ false
is_kept f None p is = refl
is_kept f (Some k) p is = by (is_outdated f (Some k) p) is
  where
    by : (b : Bool) → key_if b (Some k) ≡ None → b ≡ false
    by true is = absurd (cc)
    by false is = refl

-- the write that was removed may still be ended
own_removed : (k : Option Key) (w : Option ℕ) (r : Request) (p : Parts) → MayEnd p.store r → MayEnd (write_removed k w p).store r
own_removed None w r p may = may
own_removed (Some k) None r p may = may
own_removed (Some k) (Some w) r p may = record { uses = may.uses; own = own r.key r.write may.own }
  where
    own : (key : Option Key) (write : Option ℕ) → is_own_write p.store key write ≡ true → is_own_write (write_removed (Some k) (Some w) p).store key write ≡ true
    own key None is = is
    own None (Some v) is = is
    own (Some q) (Some v) is = is

on_ok : {A E P Q : Type 0} (result : Result A E) → (P → Q) → OnOk result P → OnOk result Q
on_ok (Ok a) f p = f p
on_ok (Err e) f p = tt

-- the write began, and was removed, or stays
pub begins_removed : (f : Option FetchNote) (result : Result (Unit {0}) ErrorType) (r s : Request) (p m q : Parts) → is_outdated f r.key p.purges ≡ true → Begins result r s p m → q ≡ write_removed s.key s.write m → BeginsSo f result r s p q
begins_removed f result r s p m q outdated begins is = record {
  between = m;
  begins = begins;
  removed = subst (λ (b : Bool). q ≡ cond b (write_removed s.key s.write m) m) (sym outdated) is;
  own = λ uses. on_ok result (λ may. subst (λ (x : Parts). MayEnd x.store s) (sym is) (own_removed s.key s.write s m may)) (begins.own uses);
}

pub begins_kept : (f : Option FetchNote) (result : Result (Unit {0}) ErrorType) (r s : Request) (p m : Parts) → is_outdated f r.key p.purges ≡ false → Begins result r s p m → BeginsSo f result r s p m
begins_kept f result r s p m young begins = record {
  between = m;
  begins = begins;
  removed = subst (λ (b : Bool). m ≡ cond b (write_removed s.key s.write m) m) (sym young) refl;
  own = begins.own;
}
