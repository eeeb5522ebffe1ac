use Rattle.pcache_table.proofs.Words.{◌∙◌, arith, sym, ap, ◌++◌, [], ◌∷◌, max, new_lists}
use Rattle.pcache_table.proofs.ShardLists.{new-more, made-in-place}
use Rattle.pcache_table.proofs.hashtable.lru_shards.LruShards.new.Goals as goal

pub loop-place-preserved : goal.loop-place-preserved
loop-place-preserved g c =
    let n = c.loop-place.place in
    let most = max c.args.shard_capacity 1 in
    c.in_ok-push.ensures.items
    ∙ ap (λ l. l ++ c.in_ok-at.field-0 ∷ []) c.loop-place.invariant
    ∙ ap (λ x. new_lists n most ++ x ∷ []) c.in_ok-at.ensures.made
    ∙ sym (new-more n most)

pub invariant_of-result : goal.invariant_of-result
invariant_of-result g c =
    let made = made-in-place g.row.N c.loop-place.place (max c.args.shard_capacity 1) c.loop-place.shards.items (omega arith) c.loop-place.invariant in
    (c.requires, made.0, made.1)
