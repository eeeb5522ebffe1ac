-- The names that several proofs of this crate cite, passed on from one place. Declares nothing.
pub use Rattle.http_header.specs.FieldValue.{FieldValue}
pub use Rattle.http_header.specs.HeaderMap.{Entries, get, get_all, remove}
pub use Rattle.pcache_validation.specs.Conditions.{lists_tag}
pub use Rattle.pcache_validation.specs.Fields.{bytes_of}
pub use Rattle.pcache_validation.specs.Lists.{skip_ows}
pub use Rattle.pcache_validation.specs.Updating.{with_lines, without_lines, without_names}
pub use Rattle.std.proofs.Common.{Bool, List, None, Some, [], ap, arith, bytes_eq, cond, drop, false, length, map, refl, subst, sym, take, true, ℕ, ◌&&◌, ◌++◌, ◌+◌, ◌<◌, ◌||◌, ◌∙◌, ◌∷◌, ◌≡◌}
pub use Rattle.std.specs.List.{list_any}
pub use Rattle.std.specs.Option.{option_copied}
pub use Rattle.std.specs.Prelude.{codes, slice_get}
