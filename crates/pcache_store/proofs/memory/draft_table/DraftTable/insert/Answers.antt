use Rattle.pcache_table.specs.Sharding.{one_map}
use Rattle.pcache_store.proofs.Words.{◌≡◌, ◌∙◌, ◌+◌, ◌%◌, ap, sym, subst, arith, None, slice_set, AreRecords, parts}
use Rattle.std.specs.FinMap as map
use Rattle.pcache_store.proofs.Maps.{not_full}
use Rattle.pcache_store.proofs.Records.{changed-new, kept-new}
use Rattle.pcache_store.proofs.memory.draft_table.DraftTable.insert.Goals as goal

pub invariant_of-self-2 : goal.invariant_of-self-2
invariant_of-self-2 c =
    let none = subst (λ m. map.get m c.args.number ≡ None) (sym c.self.view_is) c.requires in
    let few = not_full c.is_full.result c.self.inside.count c.is_full.ensures c.if-is_full.false in
    subst (λ x. AreRecords (slice_set c.self.inside.shards (c.slot.result % 16) x) (c.self.inside.count + 1)) (sym c.in_ok-insert.ensures.ok)
    (kept-new c.self.invariant (c.slot.result % 16) c.args.number (omega arith) none c.index-self-place.result c.args.draft (ap (λ k. k % 16) (sym c.slot.ensures)) (omega arith))

pub returns-clause-ok : goal.returns-clause-ok
returns-clause-ok c =
    let none = subst (λ m. map.get m c.args.number ≡ None) (sym c.self.view_is) c.requires in
    ap (λ x. one_map (parts 0 (slice_set c.self.inside.shards (c.slot.result % 16) x))) c.in_ok-insert.ensures.ok
    ∙ (changed-new c.self.invariant (c.slot.result % 16) c.args.number (omega arith) none c.index-self-place.result c.args.draft (ap (λ k. k % 16) (sym c.slot.ensures))).whole
    ∙ ap (λ m. map.insert m c.args.number c.args.draft) c.self.view_is
