-- A history with one more entry, read from its newest.
use Rattle.pcache_history.specs.Log.{Adds}
use Rattle.pcache_world.proofs.Words.{List, [], ◌∷◌, ◌++◌, refl, subst, Call, Reply, Log, AddsAll}

-- one more call
pub adds-more : (old mid new : Log) (calls : List Call) (call : Call) (replies : List Reply) (reply : Reply) → AddsAll old calls replies mid → Adds mid call reply new → AddsAll old (calls ++ call ∷ []) (replies ++ reply ∷ []) new
adds-more old mid new [] call [] reply h a = (new, subst (λ x. Adds x call reply new) h a, refl)
adds-more old mid new (c ∷ calls) call (r ∷ replies) reply h a = (h.0, h.1, adds-more h.0 mid new calls call replies reply h.2 a)
adds-more old mid new [] call (r ∷ replies) reply h a = absurd h
adds-more old mid new (c ∷ calls) call [] reply h a = absurd h
