use Rattle.std.proofs.Common.{is_some}
use Rattle.pcache_table.specs.Sharding.{one_map}
use Rattle.pcache_store.proofs.Words.{◌≡◌, ◌∙◌, ap, arith, cond, slice_set, slice_index_or, one_if_some, parts}
use Rattle.std.specs.FinMap as map
use Rattle.pcache_store.proofs.Records.{fits, held-gone, kept-gone, changed-removed}
use Rattle.pcache_store.proofs.memory.draft_table.DraftTable.remove.Goals as goal

pub overflow_sub-self : goal.overflow_sub-self
overflow_sub-self c = let enough = fits c.self.invariant c.place_of-place.result c.args.number c.place_of-place.ensures.within c.place_of-place.ensures.place c.index-self-place.result in let gone = c.one_if.ensures ∙ ap (λ b. cond b 1 0) (c.is_some.ensures ∙ ap is_some c.remove.ensures.before) in omega arith

pub invariant_of-self : goal.invariant_of-self
invariant_of-self c =
    let table = slice_index_or c.self.inside.shards c.place_of-place.result c.index-self-place.result in
    let none = ap (λ m. one_if_some (map.get m c.args.number)) c.remove.ensures.removed ∙ held-gone table c.args.number in
    let gone : c.one_if.result ≡ one_if_some (map.get table c.args.number) = c.one_if.ensures ∙ ap (λ b. cond b 1 0) (c.is_some.ensures ∙ ap is_some c.remove.ensures.before) in
    kept-gone c.self.invariant c.place_of-place.result c.args.number c.place_of-place.ensures.within c.place_of-place.ensures.place c.index-self-place.result c.one_if.result c.remove.new.self (changed-removed c.self.invariant c.place_of-place.result c.args.number c.place_of-place.ensures.within c.place_of-place.ensures.place c.index-self-place.result) c.remove.ensures.removed (omega arith)

pub returns : goal.returns
returns c = ap (λ x. one_map (parts 0 (slice_set c.self.inside.shards c.place_of-place.result x))) c.remove.ensures.removed ∙ (changed-removed c.self.invariant c.place_of-place.result c.args.number c.place_of-place.ensures.within c.place_of-place.ensures.place c.index-self-place.result).whole ∙ ap (λ m. map.remove m c.args.number) c.self.view_is
