-- The names that several proofs of this crate cite, passed on from one place. Declares nothing.
pub use Rattle.pcache_base.proofs.Maps.{get-made, made-insert, made-remove}
pub use Rattle.pcache_table.specs.Numbers.{first_key, least}
pub use Rattle.pcache_table.specs.Sharding.{CalledAtEntry, InPlace, Part, Visits, new_lists, part_of, seats}
pub use Rattle.std.proofs.Common.{Bool, List, None, Option, Some, T, [], ap, arith, cond, false, get_or, length, nat_eq, refl, subst, suc, sym, true, zero, ℕ, ◌%◌, ◌&&◌, ◌++◌, ◌+◌, ◌<◌, ◌∙◌, ◌∷◌, ◌≡◌}
pub use Rattle.std.proofs.Math.ListN.{set}
pub use Rattle.std.proofs.lemmas.List.{get_or-set_same, length-set}
pub use Rattle.std.proofs.lemmas.List.FromFn.{get_or-map-range_with_len, length-map-range_with_len, map-range_with_len_more}
pub use Rattle.std.proofs.lemmas.Map.Lookups.{exact_unsigned}
pub use Rattle.std.proofs.lemmas.Option.{get_or_from_slice_get, slice_get-get_or, slice_get_read, slice_get_within}
pub use Rattle.std.proofs.lemmas.Result.{IfOk-weaker, on_err_weaker, on_ok_weaker}
pub use Rattle.std.specs.BTreeMap.{is_at}
pub use Rattle.std.specs.Cmp.{nat_cmp_total}
pub use Rattle.std.specs.FinMap.{FinMap, entries, find, from_entries, get, get-entries, get-from_entries, insert, remove, same_map}
pub use Rattle.std.specs.FinMap.Entries.{below_all}
pub use Rattle.std.specs.List.{FoldsTo, range_with_len}
pub use Rattle.std.specs.Map.{keys_of, lookup}
pub use Rattle.std.specs.Option.{IsSome, is_some}
pub use Rattle.std.specs.Ordering.{eq_by_cmp, is_lt, nat_cmp}
pub use Rattle.std.specs.Prelude.{Err, Ok, OnErr, OnOk, Result, map, max, slice_get}
pub use Rattle.std.specs.declared.cmp.Ordering.TheVariants.{Equal, Less}
