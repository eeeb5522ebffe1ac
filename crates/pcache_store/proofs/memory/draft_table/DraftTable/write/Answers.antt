use Rattle.pcache_table.specs.Sharding.{one_map}
use Rattle.pcache_store.proofs.Words.{◌∙◌, ap, sym, subst, slice_index_or, slice_set, set-get_or, on_ok_weaker, AreRecords, parts, wrote_on}
use Rattle.std.specs.FinMap as map
use Rattle.pcache_store.proofs.Writes.{on_both}
use Rattle.pcache_store.proofs.Records.{kept-still, changed-wrote, held-wrote}
use Rattle.pcache_store.proofs.memory.draft_table.DraftTable.write.Goals as goal

pub invariant_of-self : goal.invariant_of-self
invariant_of-self c = on_both c.write_in.result
    (λ e. subst (λ x. AreRecords (slice_set c.self.inside.shards c.place_of-place.result x) c.self.inside.count) (sym e) (kept-still c.self.invariant c.place_of-place.result c.args.number c.place_of-place.ensures.within c.place_of-place.ensures.place c.index-self-place.result _ _ (changed-wrote c.self.invariant c.place_of-place.result c.args.number c.place_of-place.ensures.within c.place_of-place.ensures.place c.index-self-place.result c.args.bytes c.args.eof) (held-wrote (slice_index_or c.self.inside.shards c.place_of-place.result c.index-self-place.result) c.args.number c.args.bytes c.args.eof)))
    (λ e. subst (λ x. AreRecords x c.self.inside.count) (sym (ap (λ x. slice_set c.self.inside.shards c.place_of-place.result x) e ∙ set-get_or c.self.inside.shards c.place_of-place.result c.index-self-place.result)) c.self.invariant)
    c.write_in.ensures.ok c.write_in.ensures.err

pub returns-clause-ok : goal.returns-clause-ok
returns-clause-ok c = on_ok_weaker c.write_in.result (λ e. ap (λ x. one_map (parts 0 (slice_set c.self.inside.shards c.place_of-place.result x))) e ∙ (changed-wrote c.self.invariant c.place_of-place.result c.args.number c.place_of-place.ensures.within c.place_of-place.ensures.place c.index-self-place.result c.args.bytes c.args.eof).whole ∙ ap (λ m. wrote_on m c.args.number c.args.bytes c.args.eof (map.get m c.args.number)) c.self.view_is) c.write_in.ensures.ok
