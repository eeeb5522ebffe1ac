use Rattle.pcache_table.specs.Sharding.{one_map}
use Rattle.pcache_store.proofs.Words.{◌∙◌, ap, sym, subst, arith, slice_set, is_ok, IsSome, IfOk-weaker, IsBodyOf, ended_on, parts}
use Rattle.std.specs.FinMap as map
use Rattle.pcache_store.proofs.Records.{here, fits, kept-gone, changed-ended}
use Rattle.pcache_store.proofs.memory.draft_table.DraftTable.end.Goals as goal

pub overflow_sub-self : goal.overflow_sub-self
overflow_sub-self c = let enough = fits c.self.invariant c.place_of-place.result c.args.number c.place_of-place.ensures.within c.place_of-place.ensures.place c.index-self-place.result in let gone = c.end_in-body.ensures.gone in omega arith

pub invariant_of-self : goal.invariant_of-self
invariant_of-self c = kept-gone c.self.invariant c.place_of-place.result c.args.number c.place_of-place.ensures.within c.place_of-place.ensures.place c.index-self-place.result c.end_in-body.result.1 c.end_in-body.new.writes (changed-ended c.self.invariant c.place_of-place.result c.args.number c.place_of-place.ensures.within c.place_of-place.ensures.place c.index-self-place.result (is_ok c.end_in-body.result.0)) c.end_in-body.ensures.after c.end_in-body.ensures.gone

pub returns-clause-gone : goal.returns-clause-gone
returns-clause-gone c = ap (λ x. one_map (parts 0 (slice_set c.self.inside.shards c.place_of-place.result x))) c.end_in-body.ensures.after ∙ (changed-ended c.self.invariant c.place_of-place.result c.args.number c.place_of-place.ensures.within c.place_of-place.ensures.place c.index-self-place.result (is_ok c.end_in-body.result.0)).whole ∙ ap (λ m. ended_on (is_ok c.end_in-body.result.0) m c.args.number (map.get m c.args.number)) c.self.view_is

pub end_in-body-requires : goal.end_in-body-requires
end_in-body-requires c = subst IsSome (sym (here c.self.invariant c.place_of-place.result c.args.number c.place_of-place.ensures.within c.place_of-place.ensures.place c.index-self-place.result ∙ ap (λ m. map.get m c.args.number) c.self.view_is)) c.requires

pub returns-clause-body : goal.returns-clause-body
returns-clause-body c = IfOk-weaker c.end_in-body.result.0 _ _ (λ b h. subst (λ o. IsBodyOf o b) (here c.self.invariant c.place_of-place.result c.args.number c.place_of-place.ensures.within c.place_of-place.ensures.place c.index-self-place.result ∙ ap (λ m. map.get m c.args.number) c.self.view_is) h) c.end_in-body.ensures.body
