use Rattle.std.proofs.Common.{is_some}
use Rattle.pcache_meta.specs.Meta.{expired_at}
use Rattle.pcache_table.specs.Sharding.{one_map}
use Rattle.pcache_store.proofs.Words.{◌∙◌, ◌%◌, ap, sym, subst, arith, slice_index_or, slice_set, set-get_or, IfOk-weaker, on_ok_weaker, on_err_weaker, complete_body, meta_changed_on, AreShards, parts}
use Rattle.std.specs.FinMap as map
use Rattle.pcache_store.proofs.Writes.{on_both}
use Rattle.pcache_store.proofs.SlotShards.{here, changed-meta, held-meta, kept-changed}
use Rattle.pcache_store.proofs.memory.slot_table.SlotTable.expire.Goals as goal

pub invariant_of-self : goal.invariant_of-self
invariant_of-self c =
    let changed = changed-meta c.self.inside.shards c.args.key c.index-self-place.result c.self.invariant.long c.self.invariant.placed (expired_at c.args.now) in
    let same = held-meta (slice_index_or c.self.inside.shards (c.args.key % 16) c.index-self-place.result) c.args.key (expired_at c.args.now) in
    let few = c.self.invariant.few in
    on_both c.expire_in.result
    (λ e. subst (λ x. AreShards (slice_set c.self.inside.shards (c.args.key % 16) x) c.self.inside.count) (sym e) (kept-changed c.self.inside.shards c.args.key c.self.inside.count c.self.inside.count c.index-self-place.result _ _ c.self.invariant changed (omega arith) few))
    (λ e. subst (λ x. AreShards x c.self.inside.count) (sym (ap (λ x. slice_set c.self.inside.shards (c.args.key % 16) x) e ∙ set-get_or c.self.inside.shards (c.args.key % 16) c.index-self-place.result)) c.self.invariant) c.expire_in.ensures.slots c.expire_in.ensures.err

pub returns-clause-there : goal.returns-clause-there
returns-clause-there c = IfOk-weaker c.expire_in.result _ _ (λ b h. h ∙ ap (λ o. is_some (complete_body o)) (here c.self.inside.shards c.args.key c.index-self-place.result c.self.invariant.long c.self.invariant.placed ∙ ap (λ m. map.get m c.args.key) c.self.view_is)) c.expire_in.ensures.there

pub returns-clause-slots : goal.returns-clause-slots
returns-clause-slots c = on_ok_weaker c.expire_in.result (λ e.
    ap (λ x. one_map (parts 0 (slice_set c.self.inside.shards (c.args.key % 16) x))) e
    ∙ (changed-meta c.self.inside.shards c.args.key c.index-self-place.result c.self.invariant.long c.self.invariant.placed (expired_at c.args.now)).whole
    ∙ ap (λ m. meta_changed_on (expired_at c.args.now) m c.args.key (map.get m c.args.key)) c.self.view_is) c.expire_in.ensures.slots

pub returns-clause-something : goal.returns-clause-something
returns-clause-something c = on_err_weaker c.expire_in.result (λ h. ap (λ o. is_some (complete_body o)) (sym (here c.self.inside.shards c.args.key c.index-self-place.result c.self.invariant.long c.self.invariant.placed ∙ ap (λ m. map.get m c.args.key) c.self.view_is)) ∙ h) c.expire_in.ensures.something
