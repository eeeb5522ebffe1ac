-- The names that several proofs of this crate cite, passed on from one place. Declares nothing.
pub use Rattle.atomic_table.specs.Seated.{TableId}
pub use Rattle.atomic_table.specs.Table.{Me, Step, step}
pub use Rattle.pcache_history.specs.declared.call.Call.{Call}
pub use Rattle.pcache_history.specs.declared.entry.Entry.{Entry}
pub use Rattle.pcache_shared_world.specs.Receipts.{AreReceipts, evicted_after, indices_of, joined, receipt_of}
pub use Rattle.pcache_shared_world.specs.Views.{IsAt, IsKeeper, IsSlip, Rises, added, both, keeper, numbers, one_if, places, relieved, slip, slip_of, times, whole}
pub use Rattle.pcache_shared_world.specs.Workers.{Runs, calls_of, script_at}
pub use Rattle.pcache_shared_world.specs.declared.receipt.Receipt.{Receipt}
pub use Rattle.pcache_shared_world.specs.declared.view.View.{View}
pub use Rattle.std.proofs.Common.{List, Some, [], ap, arith, length, length-append, map, refl, rules, set, subst, suc, sym, take, vec_capacity, zero, ℕ, ◌++◌, ◌+◌, ◌-◌, ◌<◌, ◌∙◌, ◌∷◌, ◌≡◌, ◌≤◌}
pub use Rattle.std.proofs.lemmas.List.{append-nil, map-append}
pub use Rattle.std.proofs.lemmas.List.Elements.{All-nil, All-push, All-weaker}
pub use Rattle.std.specs.List.{All}
pub use Rattle.std.specs.Prelude.{slice_get, slice_index_or, vec_len}
pub use lib.ListN.{get_elem?}
pub use mathlib.Core.Option.{some, some-injective, some-ne-none}
