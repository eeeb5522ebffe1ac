-- What the decisions never do.
use Rattle.std.proofs.Common.{not, ◌&&◌, ◌||◌}
use Rattle.pcache_http.specs.declared.rules.Rules.{Rules}
use Rattle.pcache_http.specs.declared.lifetime.Lifetime.{Lifetime}
use Rattle.pcache_http.specs.declared.serving.Serving.{Serving}
use Rattle.pcache_http.specs.declared.serving.Serving.TheVariants.{Fresh, StaleWhileRevalidating, StaleAccepted, Validate, GatewayTimeout}
use Rattle.pcache_http.specs.declared.storing.NotStoredFor.{NotStoredFor}
use Rattle.pcache_http.specs.Storing.{MayBeStored, Fails, is_whole}
use Rattle.pcache_http.specs.Serving.{Serves, IsNotServed, is_fresh, wants_validation, prohibits_stale, may_be_reused, may_be_stale, is_while_revalidating, is_accepted_stale}
use Rattle.pcache_http.proofs.Words.{◌≡◌, ℕ, Bool, true, false, refl, sym, ap, ◌∙◌, RequestHeader, ResponseHeader, CacheKind, ResponseControl, RequestControl, MethodNotUnderstood, StatusNotFinal, StatusNotUnderstood, NoStoreAsked, NoStoreSaid, PrivateSaid, Authorized, NothingAllowsIt}

clash : (b : Bool) → b ≡ true → b ≡ false → ⊥
clash b one other = absurd cc

pub refused : (kind : CacheKind) (request : RequestHeader) (asked : RequestControl) (response : ResponseHeader) (said : ResponseControl) (reason : NotStoredFor)
    → Fails kind request asked response said reason → MayBeStored kind request asked response said → ⊥
refused kind request asked response said MethodNotUnderstood fails may = clash _ may.method fails
refused kind request asked response said StatusNotFinal fails may = clash _ may.final fails
refused kind request asked response said StatusNotUnderstood fails may = clash _ may.understood fails
refused kind request asked response said NoStoreAsked fails may = clash _ fails may.no_store_asked
refused kind request asked response said NoStoreSaid fails may = clash _ fails may.no_store_said
refused kind request asked response said PrivateSaid fails may = clash _ fails may.private
refused kind request asked response said Authorized fails may = clash _ fails may.authorized
refused kind request asked response said NothingAllowsIt fails may = clash _ may.allowed fails

first_holds : (a b : Bool) → (a && b) ≡ true → a ≡ true
first_holds true b e = refl
first_holds false b e = absurd cc

second_holds : (a b : Bool) → (a && b) ≡ true → b ≡ true
second_holds true b e = e
second_holds false b e = absurd cc

of_not : (a : Bool) → not a ≡ true → a ≡ false
of_not true e = absurd cc
of_not false e = refl

reused_is_fresh : (said : ResponseControl) (asked : RequestControl) (lifetime : Lifetime) (age : ℕ) → may_be_reused said asked lifetime age ≡ true → is_fresh lifetime age ≡ true
unfolding may_be_reused
reused_is_fresh said asked lifetime age e = first_holds _ _ (first_holds _ _ e)

reused_is_not_validated : (said : ResponseControl) (asked : RequestControl) (lifetime : Lifetime) (age : ℕ) → may_be_reused said asked lifetime age ≡ true → wants_validation said ≡ false
unfolding may_be_reused
reused_is_not_validated said asked lifetime age e = of_not _ (second_holds _ _ (first_holds _ _ e))

stale_is_allowed : (kind : CacheKind) (said : ResponseControl) (asked : RequestControl) (lifetime : Lifetime) (age : ℕ) → may_be_stale kind said asked lifetime age ≡ true → prohibits_stale kind said ≡ false
unfolding may_be_stale
stale_is_allowed kind said asked lifetime age e = of_not _ (second_holds _ _ (first_holds _ _ e))

revalidating_is_stale : (rules : Rules) (said : ResponseControl) (asked : RequestControl) (lifetime : Lifetime) (age : ℕ) → is_while_revalidating rules said asked lifetime age ≡ true → may_be_stale rules.kind said asked lifetime age ≡ true
unfolding is_while_revalidating
revalidating_is_stale rules said asked lifetime age e = first_holds _ _ (first_holds _ _ e)

accepted_is_stale : (rules : Rules) (said : ResponseControl) (asked : RequestControl) (lifetime : Lifetime) (age : ℕ) → is_accepted_stale rules said asked lifetime age ≡ true → may_be_stale rules.kind said asked lifetime age ≡ true
unfolding is_accepted_stale
accepted_is_stale rules said asked lifetime age e = first_holds _ _ e

no_cache_prohibits : (kind : CacheKind) (said : ResponseControl) → wants_validation said ≡ true → prohibits_stale kind said ≡ true
unfolding wants_validation prohibits_stale
no_cache_prohibits kind said e = rw e refl

pub not_stale : (rules : Rules) (said : ResponseControl) (asked : RequestControl) (lifetime : Lifetime) (age : ℕ) (decided : Serving)
    → prohibits_stale rules.kind said ≡ true → is_fresh lifetime age ≡ false → Serves rules said asked lifetime age decided → IsNotServed decided
not_stale rules said asked lifetime age Fresh prohibited stale serves = clash _ (reused_is_fresh said asked lifetime age serves) stale
not_stale rules said asked lifetime age StaleWhileRevalidating prohibited stale serves =
    clash _ prohibited (stale_is_allowed rules.kind said asked lifetime age (revalidating_is_stale rules said asked lifetime age serves))
not_stale rules said asked lifetime age StaleAccepted prohibited stale serves =
    clash _ prohibited (stale_is_allowed rules.kind said asked lifetime age (accepted_is_stale rules said asked lifetime age serves.0))
not_stale rules said asked lifetime age Validate prohibited stale serves = tt
not_stale rules said asked lifetime age GatewayTimeout prohibited stale serves = tt

pub validated : (rules : Rules) (said : ResponseControl) (asked : RequestControl) (lifetime : Lifetime) (age : ℕ) (decided : Serving)
    → wants_validation said ≡ true → Serves rules said asked lifetime age decided → IsNotServed decided
validated rules said asked lifetime age Fresh wants serves = clash _ wants (reused_is_not_validated said asked lifetime age serves)
validated rules said asked lifetime age StaleWhileRevalidating wants serves =
    clash _ (no_cache_prohibits rules.kind said wants) (stale_is_allowed rules.kind said asked lifetime age (revalidating_is_stale rules said asked lifetime age serves))
validated rules said asked lifetime age StaleAccepted wants serves =
    clash _ (no_cache_prohibits rules.kind said wants) (stale_is_allowed rules.kind said asked lifetime age (accepted_is_stale rules said asked lifetime age serves.0))
validated rules said asked lifetime age Validate wants serves = tt
validated rules said asked lifetime age GatewayTimeout wants serves = tt
