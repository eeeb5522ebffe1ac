-- What a call of a request does to the state of its part, from p to q, with this result, where that is not what `Cache`'s call of the
-- same name does. The request is r before it and s after it (own).
use Rattle.std.specs.Prelude.{◌≡◌, ◌⊎◌, ℕ, Option, Some, IfErr, IfSome, OnOk, Result}
use Rattle.pcache_base.specs.declared.error.ErrorType.{ErrorType}
use Rattle.pcache_base.specs.declared.error.ErrorType.TheVariants.{InternalError}
use Rattle.pcache_cache.specs.Fetching.{FetchNote, fetch_begun}
use Rattle.pcache_cache.specs.Filling.{EndsWrite}
use Rattle.pcache_cache.specs.Looking.{LooksUp, body_found}
use Rattle.pcache_cache.specs.Parts.{MayEnd, Parts}
use Rattle.pcache_meta.specs.Meta.{Meta}
use Rattle.pcache_request.specs.Requests.{Request}
use Rattle.pcache_request.specs.declared.cache.finish.FinishReport.{FinishReport}
use Rattle.pcache_store.specs.Store.{Reader}
use Rattle.pcache_store.specs.declared.memory.hit.MemHitHandler.{MemHitHandler}

-- the key is looked up, and its fetch begins
pub record LooksUpNoted (result : Result (Option (Meta × MemHitHandler)) ErrorType) (now : ℕ) (r s : Request) (fetch : Option FetchNote) (p q : Parts) : Type 0 where
  pub looks : LooksUp result now r s p q
  pub noted : fetch ≡ fetch_begun r.key p.purges

-- the look-up of the key finds this complete body, its fetch begins, and the part stays as it is
pub record FindsBody (f : Option (Meta × Reader)) (r : Request) (fetch : Option FetchNote) (p q : Parts) : Type 0 where
  pub found : IfSome f (λ x. body_found r.key p.store p.purges ≡ Some x)
  pub noted : fetch ≡ fetch_begun r.key p.purges
  pub same : q ≡ p

-- the call fails, and nothing changes
pub record EndsNoWrite (result : Result (Option FinishReport) ErrorType) (r s : Request) (p q : Parts) : Type 0 where
  pub failed : OnOk result ⊥
  pub kind : IfErr result (λ e. e ≡ InternalError)
  pub request : s ≡ r
  pub same : q ≡ p

-- the write ends, if it is one of this part; if not, the call fails, and nothing changes
abbrev pub EndsWriteOf : Result (Option FinishReport) ErrorType → Request → Request → Parts → Parts → Type 0
EndsWriteOf result r s p q = (MayEnd p.store r × EndsWrite result r s p q) ⊎ ((MayEnd p.store r → ⊥) × EndsNoWrite result r s p q)
