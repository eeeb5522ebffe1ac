-- The names that several proofs of this crate cite, passed on from one place. Declares nothing.
pub use Rattle.pcache_base.specs.declared.error.ErrorType.{ErrorType}
pub use Rattle.pcache_base.specs.declared.error.ErrorType.TheVariants.{InternalError, Io, OutOfMemory}
pub use Rattle.pcache_base.specs.declared.key.CompactCacheKey.{CompactCacheKey}
pub use Rattle.pcache_evict.proofs.Recency.{laws, same_key}
pub use Rattle.pcache_evict.specs.Entry.{entry_eq, entry_with, key_of}
pub use Rattle.pcache_evict.specs.Listed.{IsOnce, map_of}
pub use Rattle.pcache_evict.specs.Recency.{Recency, loaded, loaded_all, moved, weight_of}
pub use Rattle.pcache_evict.specs.Shards.{all}
pub use Rattle.pcache_evict.specs.declared.eviction.entry_key.CacheEntryKey.{CacheEntryKey}
pub use Rattle.pcache_files.specs.Device.{Interrupted}
pub use Rattle.pcache_files.specs.FileSpelling.{EntryThen, KeyItemsThen, KeyThen, NodeThen, NodesThen, SpellsFile}
pub use Rattle.pcache_files.specs.Folder.{AreSaved, Loads, shard_files, shard_names}
pub use Rattle.pcache_meta.proofs.Exact.{IsBytes, after, after_rest, array_again, array_takes, chosen, hash_exact, items_again, items_takes, optional_again, optional_behind, optional_takes}
pub use Rattle.pcache_meta.specs.Reading.{array_at, hash_at, items_at, optional_at, ◌>>=◌}
pub use Rattle.pcache_meta.specs.Spelling.{ArrayThen, BytesThen, HashThen, NumberThen, OptionThen, TextThen, array_text, number_text, text_head}
pub use Rattle.pcache_meta.specs.Writing.{array_written, hash_written, number_written, text_written}
pub use Rattle.std.proofs.Common.{List, None, Option, Some, [], ap, append_assoc, arith, cond, drop, eqb, false, inl, inr, is_some, length, refl, subst, suc, sym, true, zero, ℕ, ◌%◌, ◌++◌, ◌+◌, ◌-◌, ◌<◌, ◌^◌, ◌∙◌, ◌∷◌, ◌≡◌, ◌≤◌, ◌⊎◌}
pub use Rattle.std.proofs.lemmas.List.{append-nil, nil_from_length}
pub use Rattle.std.proofs.lemmas.List.Concat.{flat_map-cons}
pub use Rattle.std.proofs.lemmas.Option.{same_Some, some_pair_parts}
pub use Rattle.std.proofs.lemmas.Result.{err_from_is_err_and}
pub use Rattle.std.specs.Io.KnownBytes.{Consumes, IsAtEnd, Keeps}
pub use Rattle.std.specs.List.{AllByRecursion, flat_map}
pub use Rattle.std.specs.Prelude.{Err, IsErrOf, Ok, Result}
pub use Rattle.std_io.specs.declared.io.error.Error.{Error}
