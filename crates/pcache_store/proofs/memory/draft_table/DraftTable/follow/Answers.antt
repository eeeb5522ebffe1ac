use Rattle.std.specs.Prelude.{option_map}
use Rattle.pcache_table.specs.Sharding.{one_map}
use Rattle.pcache_store.proofs.Words.{◌∙◌, ap, sym, subst, slice_index_or, slice_set, IsSome, set-get_or, IfOk-weaker, on_ok_weaker, on_err_weaker, AreRecords, parts, followed_on}
use Rattle.std.specs.FinMap as map
use Rattle.pcache_store.proofs.Writes.{on_both}
use Rattle.pcache_store.proofs.Records.{here, kept-still, changed-joined, held-joined}
use Rattle.pcache_store.proofs.memory.draft_table.DraftTable.follow.Goals as goal

pub invariant_of-self : goal.invariant_of-self
invariant_of-self c = on_both c.follow_in.result
    (λ e. subst (λ x. AreRecords (slice_set c.self.inside.shards c.place_of-place.result x) c.self.inside.count) (sym e) (kept-still c.self.invariant c.place_of-place.result c.args.number c.place_of-place.ensures.within c.place_of-place.ensures.place c.index-self-place.result _ _ (changed-joined c.self.invariant c.place_of-place.result c.args.number c.place_of-place.ensures.within c.place_of-place.ensures.place c.index-self-place.result) (held-joined (slice_index_or c.self.inside.shards c.place_of-place.result c.index-self-place.result) c.args.number)))
    (λ e. subst (λ x. AreRecords x c.self.inside.count) (sym (ap (λ x. slice_set c.self.inside.shards c.place_of-place.result x) e ∙ set-get_or c.self.inside.shards c.place_of-place.result c.index-self-place.result)) c.self.invariant)
    c.follow_in.ensures.ok c.follow_in.ensures.err

pub returns-clause-ok : goal.returns-clause-ok
returns-clause-ok c = on_ok_weaker c.follow_in.result (λ e. ap (λ x. one_map (parts 0 (slice_set c.self.inside.shards c.place_of-place.result x))) e ∙ (changed-joined c.self.invariant c.place_of-place.result c.args.number c.place_of-place.ensures.within c.place_of-place.ensures.place c.index-self-place.result).whole ∙ ap (λ m. followed_on m c.args.number (map.get m c.args.number)) c.self.view_is) c.follow_in.ensures.ok

pub returns-clause-meta : goal.returns-clause-meta
returns-clause-meta c = IfOk-weaker c.follow_in.result _ _ (λ m h. h ∙ ap (λ o. option_map (λ w. (w.meta, w.slot)) o) (here c.self.invariant c.place_of-place.result c.args.number c.place_of-place.ensures.within c.place_of-place.ensures.place c.index-self-place.result ∙ ap (λ m. map.get m c.args.number) c.self.view_is)) c.follow_in.ensures.meta

pub returns-clause-something : goal.returns-clause-something
returns-clause-something c = on_err_weaker c.follow_in.result (λ h. subst IsSome (here c.self.invariant c.place_of-place.result c.args.number c.place_of-place.ensures.within c.place_of-place.ensures.place c.index-self-place.result ∙ ap (λ m. map.get m c.args.number) c.self.view_is) h) c.follow_in.ensures.something
