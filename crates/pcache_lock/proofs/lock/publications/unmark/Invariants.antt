use Rattle.pcache_lock.proofs.Words.{◌≡◌, ◌&&◌, not, ℕ, take, contains, nat_cmp, is_entry_for}
use Rattle.pcache_lock.proofs.lock.publications.unmark.Given as goal

abbrev pub invariant-loop-token : goal.invariant-loop-token
invariant-loop-token l = (q : ℕ) → contains nat_cmp l.index q ≡ (contains nat_cmp l.fn.index q && not (is_entry_for l.place (take l.token-index l.tokens) q))
