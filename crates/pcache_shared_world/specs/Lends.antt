-- A share, after the borrow of its call's reply ended (own).
use Rattle.std.specs.Prelude.{◌≡◌, ℕ, List, Result, [], ◌∷◌, ◌++◌, MatchResult, ⊤}
use Rattle.std.specs.Borrow.{Fml, RattleType, Bor, MutBor, follows_so}
use mathlib.Core.Option.{none}
use Rattle.pcache_history.specs.declared.call.Call.{Call}
use Rattle.pcache_history.specs.declared.call.Reply.{Reply}
use Rattle.pcache_shared_world.specs.declared.mark.Mark as mark
use Rattle.pcache_shared_world.specs.declared.receipt.Receipt.{Receipt}
use Rattle.pcache_shared_world.specs.contracts.share.Share.{the_row}

-- with a reply, one more receipt, of the call and that reply; with an error, none
abbrev pub ends_added : {E : Type 0} (M : RattleType) (g : mark.Ghosts M.Denot) → MutBor (List Receipt) → Call → Result (Bor Reply) E → Fml
ends_added M g s call r =
    follows_so (the_row M g) (the_row M g) s.ghost_name none (λ _ _. ⊤)
    (λ n. MatchResult r (λ reply. (index : ℕ) × (n ≡ s.now ++ (record { index = index; call = call; reply = reply.now }) ∷ [])) (λ _. n ≡ s.now))
