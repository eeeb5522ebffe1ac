-- How many read locks the open requests of a world hold.
use Rattle.pcache_lock.specs.Permits.{Reader}
use Rattle.pcache_lock.specs.declared.lock.permit.Locked.TheVariants.{Read}
use Rattle.pcache_world.specs.LockTable.{locks_read_in}
use Rattle.pcache_world.proofs.Words.{◌≡◌, ℕ, ◌+◌, ◌<◌, ◌≤◌, ◌==◌, true, false, if◌then◌else◌, Option, None, Some, List, [], ◌∷◌, refl, ap, sym, ◌∙◌, arith, length, nat_cmp, nat_cmp_total, FinMap, empty, from_entries, get, insert, remove, nat_cmp-IsAntisymmetric, share, total-empty, total-insert, total-remove, Locked, Write, held_in, Ongoing, locks_read, read_locks, same-number}
use Rattle.pcache_world.proofs.MovedState.{set_to}

pub locks-none : (l : ℕ) → read_locks empty l ≡ 0
locks-none l = total-empty nat_cmp_total (locks_read_in l)

locks-share : (q : Option Ongoing) (l : ℕ) → share (locks_read_in l) q ≡ locks_read l (held_in q)
locks-share None l = refl
locks-share (Some x) l = refl

locks-remove : (all : FinMap nat_cmp Ongoing) (r l : ℕ) → read_locks (remove all r) l + share (locks_read_in l) (get all r) ≡ read_locks all l
locks-remove all r l = total-remove nat_cmp_total (locks_read_in l) nat_cmp-IsAntisymmetric all r

locks-insert : (all : FinMap nat_cmp Ongoing) (r : ℕ) (x : Ongoing) (l : ℕ) → read_locks (insert all r x) l + share (locks_read_in l) (get all r) ≡ read_locks all l + locks_read_in l x
locks-insert all r x l = total-insert nat_cmp_total (locks_read_in l) all r x

locks-split : (all : FinMap nat_cmp Ongoing) (r l : ℕ) → read_locks all l ≡ read_locks (remove all r) l + locks_read l (held_in (get all r))
locks-split all r l = sym (locks-remove all r l) ∙ ap (λ c. read_locks (remove all r) l + c) (locks-share (get all r) l)

locks-set : (all : FinMap nat_cmp Ongoing) (r : ℕ) (q : Option Ongoing) (l : ℕ) → read_locks (set_to all r q) l ≡ read_locks (remove all r) l + locks_read l (held_in q)
locks-set all r None l = omega arith
locks-set all r (Some x) l =
    let a = locks-insert all r x l in
    let b = locks-remove all r l in
    omega arith

-- one request is set: what it held goes, and what it holds comes
pub locks-moved : (all : FinMap nat_cmp Ongoing) (r : ℕ) (q : Option Ongoing) (l : ℕ) → read_locks (set_to all r q) l + locks_read l (held_in (get all r)) ≡ read_locks all l + locks_read l (held_in q)
locks-moved all r q l =
    let a = locks-split all r l in
    let b = locks-set all r q l in
    omega arith

-- a read lock that a request holds is counted
pub lock-counted : (all : FinMap nat_cmp Ongoing) (r : ℕ) (x : Ongoing) (rd : Reader) → get all r ≡ Some x → x.request.held ≡ Some (Read rd) → 0 < read_locks all rd.number
lock-counted all r x rd is held =
    let one : locks_read rd.number (held_in (get all r)) ≡ 1 = ap (λ q. locks_read rd.number (held_in q)) is ∙ ap (locks_read rd.number) held ∙ ap (λ b. if b then 1 else 0) (same-number rd.number) in
    let a = locks-split all r rd.number in
    omega arith

-- each request holds at most one
at-most-one : (l : ℕ) (h : Option Locked) → locks_read l h ≤ 1
at-most-one l None = omega arith
at-most-one l (Some (Write p)) = omega arith
at-most-one l (Some (Read rd)) = elim (rd.number == l) as (λ b. (if b then 1 else 0) ≤ 1) [ true ↦ omega arith | false ↦ omega arith ]

pub locks-few : (es : List (ℕ × Ongoing)) (l : ℕ) → read_locks (from_entries {R = nat_cmp} es) l ≤ length es
locks-few [] l = let none = locks-none l in omega arith
locks-few (e ∷ es) l =
    let rest = locks-few es l in
    let one = at-most-one l e.1.request.held in
    let more = locks-insert (from_entries {R = nat_cmp} es) e.0 e.1 l in
    omega arith
