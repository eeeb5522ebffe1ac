use Rattle.std.specs.Vec.{vec_capacity}
use Rattle.pcache_world.proofs.Words.{◌≡◌, ◌≤◌, ◌++◌, vec_len, length, into_iter_items, AddsAll, HasLegal}
use Rattle.pcache_world.proofs.world.world_type.World.run.Given as goal

abbrev pub invariant-loop-call : goal.invariant-loop-call
invariant-loop-call g l =
    record {
      legal : HasLegal l.self;
      adds : AddsAll l.fn.self l.yielded l.replies.items l.self;
      count : vec_len l.replies ≡ length l.yielded;
      all : l.fn.calls.items ≡ l.yielded ++ into_iter_items l.call-iterator;
      room : length l.fn.calls.items ≤ vec_capacity l.replies;
    }
