use Rattle.pcache_response.proofs.Words.{◌+◌, ◌++◌, length, refl}
use Rattle.pcache_response.proofs.Joins.{joined_open, joined_ended}
use Rattle.pcache_response.proofs.Ends.{cuts_end, unfinished_from}
use Rattle.pcache_response.proofs.head_end.HeadBytes.join.Goals as goal

pub invariant_of-result : goal.invariant_of-result
invariant_of-result c =
    joined_open c.self.inside.state c.cut.new.state c.self.inside.bytes.items c.args.piece.now _ c.self.invariant.0 c.self.invariant.1 c.in-None.ensures.moved c.in-None.ensures.none c.in_ok-extend_from_slice-in-None.ensures.items

pub returns-in_ok-extend_from_slice-in-None : goal.returns-in_ok-extend_from_slice-in-None
returns-in_ok-extend_from_slice-in-None c =
    record { ok = rw (← c.self.view_is) (c.in_ok-extend_from_slice-in-None.ensures.items, unfinished_from (c.self.inside.bytes.items ++ c.args.piece.now) (joined_open c.self.inside.state c.cut.new.state c.self.inside.bytes.items c.args.piece.now _ c.self.invariant.0 c.self.invariant.1 c.in-None.ensures.moved c.in-None.ensures.none refl).1) }

pub returns-in_ok-extend_from_slice-in-Some : goal.returns-in_ok-extend_from_slice-in-Some
returns-in_ok-extend_from_slice-in-Some c =
    record { ok = rw (← c.self.view_is) (c.in-Some.ensures.found.within, c.in_ok-extend_from_slice-in-Some.ensures.items, cuts_end (c.self.inside.bytes.items ++ c.args.piece.now) (length c.self.inside.bytes.items + c.in-Some.used) (joined_ended c.self.inside.state c.self.inside.bytes.items c.args.piece.now c.in-Some.used c.self.invariant.0 c.self.invariant.1 c.in-Some.ensures.found)) }
