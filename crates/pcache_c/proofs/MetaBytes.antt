-- The byte strings of a meta, written.
use Rattle.pcache_meta.specs.HeaderText.{header_written}
use Rattle.pcache_meta.specs.MetaBytes.{SpellsMeta}
use Rattle.pcache_meta.specs.MetaWriting.{internal_written}
use Rattle.pcache_c.specs.Values.{AreWritten}
use Rattle.pcache_c.proofs.Words.{◌≡◌, inr, ap, sym, ◌∙◌, subst, ℕ, List, length, Meta, SavesMeta}

pub meta_saved : (m : Meta) (f s f' s' i i' h h' : List ℕ) (ni nh code : ℕ) → f ≡ internal_written m.internal → s ≡ header_written m.header → SpellsMeta f s m → f' ≡ f → s' ≡ s
    → ni ≡ length f → nh ≡ length s → AreWritten f' s' i i' h h' code → SavesMeta m i i' h h' ni nh code
meta_saved m f s f' s' i i' h h' ni nh code p q spelled a b x y w = inr (record {
  spelled = subst (λ u. SpellsMeta u (header_written m.header) m) p (subst (λ v. SpellsMeta f v m) q spelled);
  internal_len = x ∙ ap length p;
  header_len = y ∙ ap length q;
  how = subst (λ u. AreWritten u (header_written m.header) i i' h h' code) (a ∙ p) (subst (λ v. AreWritten f' v i i' h h' code) (b ∙ q) w);
})
