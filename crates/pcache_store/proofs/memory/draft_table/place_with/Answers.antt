use Rattle.pcache_store.proofs.Words.{◌≡◌, ◌∙◌, ap, sym, arith, inl, inr, None, subst, length, ◌<◌, cases_lt, table_at}
use Rattle.std.specs.FinMap as map
use Rattle.pcache_store.proofs.Records.{absent, by_default}
use Rattle.pcache_store.proofs.memory.draft_table.place_with.Goals as goal

pub loop-place-init : goal.loop-place-init
loop-place-init c = λ i lt. absurd (omega (arith, lt))

pub loop-place-preserved : goal.loop-place-preserved
loop-place-preserved c = λ i lt. elim (cases_lt i c.loop-place.place) [
  | inl below ↦ c.loop-place.invariant i below
  | inr from ↦
      let inside : c.loop-place.place < length c.args.shards.now = omega (arith, c.loop-place-test.true, c.type_inv.shards) in
      let here : map.get (table_at c.args.shards.now c.loop-place.place) c.args.number ≡ None =
      ap (λ m. map.get m c.args.number) (sym (by_default c.args.shards.now c.loop-place.place c.index-shards-place.result inside))
      ∙ absent c.get.result _ c.get.ensures (sym c.is_some.ensures ∙ c.if-is_some.false) in
      subst (λ k. map.get (table_at c.args.shards.now k) c.args.number ≡ None) (omega (arith, lt, from)) here
]

pub returns-clause-none : goal.returns-clause-none
returns-clause-none c = λ i lt. c.loop-place.invariant i (omega (arith, lt, c.loop-place-test.false))
