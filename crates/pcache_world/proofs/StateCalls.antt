-- The store right after a write began.
use Rattle.pcache_store.specs.Store.{begun}
use Rattle.pcache_world.proofs.Words.{◌≡◌, ℕ, cond, None, Some, ap, ◌∙◌, get, Meta, numbered, Store, Part, found_flying, find_write, new_write, same-number}
use Rattle.pcache_world.proofs.StateWrites.{get-set}

-- the write that begins can be joined at once
pub begun-joins : (s : Store) (k : ℕ) (m : Meta) → find_write (begun s k m) k (Some s.next) ≡ Some (numbered s.next m, Part s.next 0)
begun-joins s k m =
    let w = new_write k (numbered s.next m) in
    ap (found_flying k s.next) (get-set s.writes s.next w s.next ∙ ap (λ b. cond b (Some w) (get s.writes s.next)) (same-number s.next))
    ∙ ap (λ b. cond b (Some (numbered s.next m, Part s.next 0)) None) (same-number k)
