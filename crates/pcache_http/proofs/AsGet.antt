-- A response to a GET may be stored if it may be as one to a GET.
use Rattle.pcache_http.specs.declared.storing.Storing.{Storing}
use Rattle.pcache_http.specs.declared.storing.Storing.TheVariants.{Stored, NotStored}
use Rattle.pcache_http.specs.Storing.{IsStoring, as_get, is_method_understood}
use Rattle.pcache_http.proofs.Words.{◌≡◌, Bool, true, false, refl, codes, RequestHeader, ResponseHeader, CacheKind, ResponseControl, RequestControl, MethodNotUnderstood, StatusNotFinal, StatusNotUnderstood, NoStoreAsked, NoStoreSaid, PrivateSaid, Authorized, NothingAllowsIt}

pub get_is_understood : is_method_understood (codes "GET") ≡ true
unfolding is_method_understood
get_is_understood = refl

clash : (b : Bool) → b ≡ true → b ≡ false → ⊥
clash b one other = absurd cc

pub as_asked : (kind : CacheKind) (request : RequestHeader) (asked : RequestControl) (response : ResponseHeader) (said : ResponseControl) (storing : Storing)
    → is_method_understood request.method ≡ true → IsStoring kind (as_get request) asked response said storing
    → IsStoring kind request asked response said storing
as_asked kind request asked response said Stored is may = record {
  method = is;
  final = may.final;
  understood = may.understood;
  no_store_asked = may.no_store_asked;
  no_store_said = may.no_store_said;
  private = may.private;
  authorized = may.authorized;
  allowed = may.allowed;
}
as_asked kind request asked response said (NotStored MethodNotUnderstood) is fails = absurd (clash _ get_is_understood fails)
as_asked kind request asked response said (NotStored StatusNotFinal) is fails = fails
as_asked kind request asked response said (NotStored StatusNotUnderstood) is fails = fails
as_asked kind request asked response said (NotStored NoStoreAsked) is fails = fails
as_asked kind request asked response said (NotStored NoStoreSaid) is fails = fails
as_asked kind request asked response said (NotStored PrivateSaid) is fails = fails
as_asked kind request asked response said (NotStored Authorized) is fails = fails
as_asked kind request asked response said (NotStored NothingAllowsIt) is fails = fails
