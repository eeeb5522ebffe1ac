use Rattle.pcache_world.proofs.Words.{◌≡◌, Some, refl, subst, ◌∙◌, Meta, reader_of, pair_of, IsAnswered}
use Rattle.pcache_world.proofs.Noted.{found-answered}
use Rattle.pcache_world.proofs.world.look.LookNoteWitnessMemCache.found.Goals as goal

-- a store answers only such pairs, and the meta that it keeps is that of the pair
pub returns-clause-hears : goal.returns-clause-hears
returns-clause-hears c = (
  refl,
  refl,
  λ h.
      let m : Meta = c.in-Some.meta in
      let n : Meta = c.args._meta.now in
      let rd = reader_of c.args.hit.now in
      let both : Some m ≡ Some n = c.in-Some.ensures.value ∙ h in
      let same : m ≡ n = cc in
      subst (λ (z : Meta). IsAnswered z rd → pair_of c.in_ok-self.field-0 ≡ Some (z, rd)) same c.in_ok-self.ensures.answer (found-answered c.requires.0 c.requires.1 (n, rd) c.requires.2),
)
