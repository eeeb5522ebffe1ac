-- The names that several proofs of this crate cite, passed on from one place. Declares nothing.
pub use Rattle.http.specs.StatusCode.{IsStatusCode, code_digits}
pub use Rattle.http_header.proofs.TokenLemmas.{AllPass-from_test, IsHeaderName-from_test}
pub use Rattle.http_header.specs.FieldName.{IsHeaderName, is_header_name}
pub use Rattle.http_header.specs.FieldValue.{FieldValue, IsFieldValue}
pub use Rattle.http_header.specs.HeaderMap.{Entries, Entry, IsHeaderMap, IsUnique, append, append_all, entry_at, entry_pairs, pairs}
pub use Rattle.http_header.specs.Token.{AllPass, is_value_byte, token_test}
pub use Rattle.pcache_base.specs.declared.error.ErrorType.{ErrorType}
pub use Rattle.pcache_base.specs.declared.error.ErrorType.TheVariants.{InternalError, OutOfMemory}
pub use Rattle.pcache_meta.specs.Header.{Fields, Header, shown, shown_entry, shown_fields}
pub use Rattle.pcache_meta.specs.HeaderForm.{IsHeaderText, are_grouped, has_any, has_name, is_among, starts_with_name}
pub use Rattle.pcache_meta.specs.HeaderReading.{line_from, name_from}
pub use Rattle.pcache_meta.specs.HeaderText.{Field, FitsMap, IsField, SpellsHeader, fields_of, line_end, shown_lines}
pub use Rattle.pcache_meta.specs.Internal.{Internal, OldInternal, upgraded}
pub use Rattle.pcache_meta.specs.Meta.{Meta}
pub use Rattle.pcache_meta.specs.MetaSpelling.{InternalThen, ItemThen, MomentThen, NewInternalThen, OldInternalThen, SpellsInternal}
pub use Rattle.pcache_meta.specs.Reading.{Fails, FailsOrWants, when, ◌>>=◌}
pub use Rattle.pcache_meta.specs.Spelling.{ArrayForm, ArrayThen, BytesThen, HashThen, NumberForm, NumberThen, OptionThen, TextForm, TextThen, array_limit, array_text, number_limit, number_text, text_head, text_limit}
pub use Rattle.pcache_meta.specs.Writing.{IsHash, shortest_array, shortest_number, shortest_text}
pub use Rattle.pcache_meta.specs.declared.header.HttpVersion.{HttpVersion}
pub use Rattle.std.proofs.Common.{Bool, List, None, Option, Some, [], ap, append_assoc, arith, cond, drop, eqb, false, get_or, inl, inr, length, length-drop, ltb, map, refl, subst, suc, sym, take, true, zero, ℕ, ◌%◌, ◌++◌, ◌+◌, ◌-◌, ◌/◌, ◌<◌, ◌^◌, ◌∙◌, ◌∷◌, ◌≡◌, ◌≤◌}
pub use Rattle.std.proofs.Math.Seq.{drop-append_seam, take-append_seam}
pub use Rattle.std.proofs.lemmas.Bool.{eqb-true, le-ltb, lt-ltb, ltb-false, ltb-true}
pub use Rattle.std.proofs.lemmas.List.{append-nil, append_cancel_left, drop_at, nil_from_length, take-append-drop, take_at}
pub use Rattle.std.proofs.lemmas.List.Concat.{flat_map-cons}
pub use Rattle.std.proofs.lemmas.List.Elements.{All-cons, All-head, All-nil, All-tail}
pub use Rattle.std.proofs.lemmas.Option.{same_Some, some_pair_parts}
pub use Rattle.std.proofs.lemmas.Result.{err_from_is_err_and}
pub use Rattle.std.proofs.lemmas.Slice.Eq.{bytes_eq-Decides}
pub use Rattle.std.specs.Global.{Vec}
pub use Rattle.std.specs.Int.{to_be_bytes, w16, w32, w8}
pub use Rattle.std.specs.List.{flat_map, list_all}
pub use Rattle.std.specs.Prelude.{All, Err, IfErr, IfOk, IfSome, IsTrue, Ok, OnOk, Result, bytes_eq, nat_le, nat_lt, slice_set, ◌&&◌, ◌||◌}
pub use Rattle.std.specs.Str.{IsUtf8}
