use Rattle.pcache_table.specs.Sharding.{one_map}
use Rattle.pcache_store.proofs.Words.{◌∙◌, ap, arith, slice_set, parts, left_on}
use Rattle.std.specs.FinMap as map
use Rattle.pcache_store.proofs.Records.{fits, kept-gone, changed-left}
use Rattle.pcache_store.proofs.memory.draft_table.DraftTable.leave.Goals as goal

pub overflow_sub-self : goal.overflow_sub-self
overflow_sub-self c = let enough = fits c.self.invariant c.place_of-place.result c.args.number c.place_of-place.ensures.within c.place_of-place.ensures.place c.index-self-place.result in let gone = c.leave_in.ensures.gone in omega arith

pub invariant_of-self : goal.invariant_of-self
invariant_of-self c = kept-gone c.self.invariant c.place_of-place.result c.args.number c.place_of-place.ensures.within c.place_of-place.ensures.place c.index-self-place.result c.leave_in.result c.leave_in.new.writes (changed-left c.self.invariant c.place_of-place.result c.args.number c.place_of-place.ensures.within c.place_of-place.ensures.place c.index-self-place.result) c.leave_in.ensures.after c.leave_in.ensures.gone

pub returns : goal.returns
returns c = ap (λ x. one_map (parts 0 (slice_set c.self.inside.shards c.place_of-place.result x))) c.leave_in.ensures.after ∙ (changed-left c.self.invariant c.place_of-place.result c.args.number c.place_of-place.ensures.within c.place_of-place.ensures.place c.index-self-place.result).whole ∙ ap (λ m. left_on m c.args.number (map.get m c.args.number)) c.self.view_is
