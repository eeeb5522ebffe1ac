use Rattle.std.proofs.Common.{◌-◌, length}
use Rattle.belady.proofs.Backwards.{Seen}
use Rattle.belady.proofs.requests.next_requests.Given as goal

abbrev pub invariant-loop-done : goal.invariant-loop-done
invariant-loop-done l = Seen l.bodies (length l.bodies - l.done) l.found.items l.last.entries
