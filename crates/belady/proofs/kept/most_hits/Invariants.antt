use Rattle.std.proofs.Common.{◌≡◌, [], ◌+◌, ◌≤◌, drop}
use Rattle.belady.specs.Belady.{hits_of}
use Rattle.belady.proofs.kept.most_hits.Given as goal

abbrev pub invariant-loop-number : goal.invariant-loop-number
invariant-loop-number l =
    record {
      counted : l.hits + hits_of l.fn.limit l.fn.from l.number (drop l.number l.nexts) l.kept.awaited.keys ≡ hits_of l.fn.limit l.fn.from 0 l.nexts [];
      few : l.hits ≤ l.number;
      limit : l.kept.limit ≡ l.fn.limit;
    }
