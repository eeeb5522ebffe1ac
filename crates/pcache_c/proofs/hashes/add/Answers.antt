use Rattle.pcache_c.specs.Objects.{as_variance}
use Rattle.pcache_c.proofs.Words.{refl}
use Rattle.pcache_c.specs.declared.object.Object.TheVariants as object
use Rattle.pcache_c.proofs.Changed.{turned}
use Rattle.pcache_c.proofs.hashes.add.Goals as goal

pub returns-in-Variance : goal.returns-in-Variance
returns-in-Variance c =
    turned as_variance _ _ _ _ (object.Variance c.in-Variance.builder) c.in-Variance.builder c.add_to.new.builder c.in-Variance.is refl refl c.add_to.ensures
