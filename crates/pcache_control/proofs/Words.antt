-- The names that several proofs of this crate cite, passed on from one place. Declares nothing.
pub use Rattle.http_header.specs.FieldValue.{FieldValue}
pub use Rattle.http_header.specs.HeaderMap.{Entries, get_all}
pub use Rattle.indexmap.specs.IndexMap.{insert_all, insert_entry}
pub use Rattle.pcache_base.specs.declared.error.ErrorType.{ErrorType}
pub use Rattle.pcache_control.specs.Bytes.{is_token_byte, is_white_space}
pub use Rattle.pcache_control.specs.Directives.{AreDirectives, AreDirectivesFrom, HasValue, IsDirective, IsLongestRun, IsNextStart, IsText, IsTokenAt, Leads}
pub use Rattle.pcache_control.specs.Maps.{directives_at, entries_of, same_key, value_of}
pub use Rattle.pcache_control.specs.Names.{is_known, is_known_name, name_of}
pub use Rattle.pcache_control.specs.Requests.{AsksSince, AsksUnlike, LacksRoom, bytes_of, with_field}
pub use Rattle.pcache_control.specs.Values.{skip_ows}
pub use Rattle.pcache_control.specs.contracts.key.DirectiveKeyPartialEq.TheImpl.{eq-value}
pub use Rattle.pcache_control.specs.declared.key.DirectiveKey.{DirectiveKey}
pub use Rattle.pcache_control.specs.declared.scan.Span.{Span}
pub use Rattle.pcache_control.specs.declared.value.DirectiveValue.{DirectiveValue}
pub use Rattle.pcache_meta.specs.Header.{Fields}
pub use Rattle.std.proofs.Common.{All, Bool, Err, List, None, Ok, Option, Result, Some, [], ap, append-nil, append_assoc, arith, bytes_eq, cond, drop, false, get_or, inl, inr, length, map, min, not, refl, slice_index, subst, sym, take, true, ℕ, ◌++◌, ◌+◌, ◌-◌, ◌<◌, ◌∙◌, ◌∷◌, ◌≡◌, ◌≢◌, ◌≤◌}
pub use Rattle.std.proofs.lemmas.Bool.{cases_lt}
pub use Rattle.std.proofs.lemmas.List.Elements.{All-cons, All-head, All-nil, All-tail}
pub use Rattle.std.proofs.lemmas.List.Sums.{fold-append}
pub use Rattle.std.proofs.lemmas.Slice.Eq.{bytes_eq-Decides}
pub use Rattle.std.specs.Char.{is_ascii_digit}
pub use Rattle.std.specs.List.{list_all}
pub use Rattle.std.specs.Map.{lookup}
pub use Rattle.std.specs.Option.{option_map}
pub use Rattle.std.specs.Prelude.{OnOk, codes, if◌then◌else◌, ◌&&◌}
pub use Rattle.std.specs.Str.Parse.{digits_value}
