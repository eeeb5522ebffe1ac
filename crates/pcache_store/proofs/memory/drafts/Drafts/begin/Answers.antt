use Rattle.pcache_store.proofs.Words.{sym, subst, ◌<◌, ◌+◌, ◌^◌, next_number, AreBefore}
use Rattle.pcache_store.proofs.Writes.{before_begun, next_after}
use Rattle.pcache_store.proofs.memory.drafts.Drafts.begin.Goals as goal

pub invariant_of-self-2 : goal.invariant_of-self-2
invariant_of-self-2 c =
    let few : c.in-Some.number < 2 ^ 64 = subst (λ o. next_number o < 2 ^ 64) c.in-Some.is (subst (λ a. a.next < 2 ^ 64) (sym c.self.view_is) c.requires) in
    let before : AreBefore c.self.inside.writes c.in-Some.number = subst (λ o. AreBefore c.self.inside.writes (next_number o)) c.in-Some.is c.self.invariant in
    subst (AreBefore c.insert.new.self) (sym (next_after c.checked_add-self-inside.result c.in-Some.number few c.checked_add-self-inside.ensures))
    (subst (λ m. AreBefore m (c.in-Some.number + 1)) (sym c.in_ok-insert.ensures.ok) (before_begun c.self.inside.writes c.in-Some.number c.args.draft before))
