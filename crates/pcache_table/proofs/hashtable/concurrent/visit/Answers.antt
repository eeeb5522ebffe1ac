use Rattle.std.proofs.Common.{of_calls}
use Rattle.pcache_table.proofs.Words.{◌∙◌, refl, sym, subst, FoldsTo, CalledAtEntry}
use Rattle.pcache_table.proofs.hashtable.concurrent.visit.Goals as goal

pub loop-key-init : goal.loop-key-init
loop-key-init g c = (c.requires, λ last h. h)

pub loop-key-preserved : goal.loop-key-preserved
loop-key-preserved g c = (
  search of_calls,
  λ last h.
      c.loop-key.invariant.1 last (subst (λ es. FoldsTo (CalledAtEntry g.F.FnMut) c.loop-key.f es last) (sym c.in-Some.ensures.steps) (
        c.f.new.self,
        record { key = c.in-Some.key; value = c.in-Some.value; shows = (refl, refl); called = c.f.ensures },
        h,
      )),
)

pub returns-clause-called : goal.returns-clause-called
returns-clause-called g c = (
  c.iter-key-items.ensures.own,
  subst (λ es. FoldsTo (CalledAtEntry g.F.FnMut) c.args.f es c.loop-key.f) (c.into_iter-key-iterator.ensures.into_iter_gives ∙ c.iter-key-items.ensures.entries)
      (c.loop-key.invariant.1 c.loop-key.f (subst (λ es. FoldsTo (CalledAtEntry g.F.FnMut) c.loop-key.f es c.loop-key.f) (sym c.in-None.ensures.steps.0) refl)),
)
