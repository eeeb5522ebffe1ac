use Rattle.pcache_http.proofs.SameMembers.{AreSameSoFar}
use Rattle.pcache_http.proofs.lists.same_members.Given as goal

abbrev pub invariant-members : goal.invariant-members
invariant-members l = AreSameSoFar l.fn.first l.fn.second l.member-iterator l.second
