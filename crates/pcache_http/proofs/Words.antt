-- The names that several proofs of this crate cite, passed on from one place. Declares nothing.
pub use Rattle.http_header.specs.FieldValue.{FieldValue}
pub use Rattle.http_header.specs.Token.{lowercase}
pub use Rattle.pcache_control.proofs.Only.{directives_only}
pub use Rattle.pcache_control.specs.Maps.{lines_of}
pub use Rattle.pcache_control.specs.Values.{skip_ows}
pub use Rattle.pcache_control.specs.declared.scan.Span.{Span}
pub use Rattle.pcache_http.specs.Said.{Directive, directive_in, directives_in, is_called, values_of}
pub use Rattle.pcache_http.specs.Seconds.{count_next}
pub use Rattle.pcache_http.specs.StoredFields.{names_in_connection, names_kept_out, names_listed, names_under, without_names}
pub use Rattle.pcache_http.specs.Vary.{IsAnswered, Selects}
pub use Rattle.pcache_http.specs.declared.control.Reach.TheVariants.{Whole}
pub use Rattle.pcache_http.specs.declared.control.RequestControl.{RequestControl}
pub use Rattle.pcache_http.specs.declared.control.ResponseControl.{ResponseControl}
pub use Rattle.pcache_http.specs.declared.rules.CacheKind.{CacheKind}
pub use Rattle.pcache_http.specs.declared.storing.NotStoredFor.TheVariants.{Authorized, MethodNotUnderstood, NoStoreAsked, NoStoreSaid, NothingAllowsIt, PrivateSaid, StatusNotFinal, StatusNotUnderstood}
pub use Rattle.pcache_meta.specs.declared.header.RequestHeader.{RequestHeader}
pub use Rattle.pcache_meta.specs.declared.header.ResponseHeader.{ResponseHeader}
pub use Rattle.std.proofs.Common.{Bool, List, Option, [], ap, append-nil, append_assoc, bytes_eq, codes, false, length, refl, subst, sym, true, ℕ, ◌++◌, ◌↔◌, ◌∙◌, ◌∷◌, ◌≡◌}
pub use Rattle.std.specs.Char.{is_ascii_digit}
pub use Rattle.std.specs.Option.{option_copied}
pub use Rattle.std.specs.Prelude.{All}
