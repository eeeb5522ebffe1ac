use Rattle.std.proofs.Common.{rules}
use Rattle.pcache_table.proofs.Words.{◌≡◌, ◌∙◌, arith, sym, ap, ◌++◌, [], ◌∷◌, max, seats}
use Rattle.pcache_table.proofs.Seats.{seats-more}
use Rattle.pcache_table.proofs.hashtable.concurrent.ConcurrentLruCache.new.Goals as goal

pub loop-place-preserved : goal.loop-place-preserved
loop-place-preserved g c =
    let n = c.loop-place.place in
    let most = max c.args.shard_capacity 1 in
    c.in_ok-push.ensures.items
    ∙ ap (λ l. l ++ c.in_ok-at.field-0 ∷ []) c.loop-place.invariant
    ∙ ap (λ x. seats n most ++ x ∷ []) c.in_ok-at.ensures.made
    ∙ sym (seats-more n most)

pub invariant_of-result : goal.invariant_of-result
invariant_of-result g c =
    let most : max c.args.shard_capacity 1 ≡ c.max-capacity.result = search rules in (
      c.requires,
      c.loop-place.invariant ∙ ap (λ n. seats n (max c.args.shard_capacity 1)) (omega arith) ∙ ap (seats g.row.N) most,
    )
