-- How a copy of a meta comes into a handle.
use Rattle.std.specs.Prelude.{IsSome}
use Rattle.pcache_c.specs.Codes.{nothing}
use Rattle.pcache_c.proofs.Words.{◌≡◌, ◌⊎◌, inl, inr, refl, sym, ap, subst, ◌∙◌, ℕ, Option, Some, None, Ok, Err, option_map, false≢true, none-some, Meta, CopiesMeta, no_memory, Fills, IsSame, CopyOf, PcacheHandle}
use Rattle.pcache_c.specs.declared.object.Object.TheVariants as object

pub copy_filled : (m : Option Meta) (copy : Meta) (old new : PcacheHandle) (code : ℕ) → CopyOf m (Ok copy) → Fills (object.Meta copy) old new code → CopiesMeta m old new code
copy_filled m copy old new code is f = subst (λ q. CopiesMeta q old new code) (sym is) (inr f)

pub copy_refused : (m : Option Meta) (old : PcacheHandle) (code : ℕ) → CopyOf m (Err code) → CopiesMeta m old old code
copy_refused None old code (inl p) = (p.0, refl)
copy_refused None old code (inr p) = absurd (false≢true p.1)
copy_refused (Some m) old code (inl p) = absurd (none-some m (sym p.1))
copy_refused (Some m) old code (inr p) = inl (p.0, refl)
