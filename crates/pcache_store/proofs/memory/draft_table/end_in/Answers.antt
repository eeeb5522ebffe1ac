use Rattle.pcache_store.proofs.Words.{sym, ap, ◌∙◌, is_ok, true, IfOk-weaker, Written, is_named}
use Rattle.pcache_store.proofs.Writes.{closed_there, ended_gone, landed_there, landed_body, not_lost, one_stays, one_goes}
use Rattle.pcache_store.proofs.memory.draft_table.end_in.Goals as goal

pub returns-in-Ok-clause-after : goal.returns-in-Ok-clause-after
returns-in-Ok-clause-after c =
    let is = rw c.in-Some.is at c.get_mut.ensures.value in
    let set = rw c.in-Some.is at (c.get_mut.follows.holds c.tell.new.self) in
    let told : Written → Written = λ x. record x { told = true } in
    closed_there c.args.writes.now c.args.number c.in-Some.draft.now c.tell.new.self _ is set (c.tell.ensures ∙ ap told (c.to_body.ensures.same ∙ c.land.ensures)) (ap is_named (c.tell.ensures ∙ ap told c.to_body.ensures.same) ∙ sym c.is_named.ensures ∙ c.if-is_named.true)

pub returns-in-Err-clause-after : goal.returns-in-Err-clause-after
returns-in-Err-clause-after c =
    let is = rw c.in-Some.is at c.get_mut.ensures.value in
    let set = rw c.in-Some.is at (c.get_mut.follows.holds c.to_body.new.self) in
    landed_there c.args.writes.now c.args.number c.in-Some.draft.now c.to_body.new.self _ is set (c.to_body.ensures.same ∙ c.land.ensures) (ap is_named c.to_body.ensures.same ∙ sym c.is_named.ensures ∙ c.if-is_named.true)

pub unreachable-requires-in_default-remove : goal.unreachable-requires-in_default-remove
unreachable-requires-in_default-remove c =
    let is = rw c.in-Some.is at c.get_mut.ensures.value in
    let set = rw c.in-Some.is at (c.get_mut.follows.holds c.land.new.self) in
    not_lost c.args.writes.now c.args.number c.in-Some.draft.now c.land.new.self _ is set (rw c.in_default-remove.is at c.remove.ensures.before)

pub returns-clause-body : goal.returns-clause-body
returns-clause-body c =
    let is = rw c.in-Some.is at c.get_mut.ensures.value in
    let set = rw c.in-Some.is at (c.get_mut.follows.holds c.land.new.self) in
    IfOk-weaker c.into_body.result _ _ (λ b. landed_body c.args.writes.now c.args.number c.in-Some.draft.now c.land.new.self _ is set c.in-Some-remove.draft b c.land.ensures (rw c.in-Some-remove.is at c.remove.ensures.before)) c.into_body.ensures.ok

pub returns-clause-after : goal.returns-clause-after
returns-clause-after c =
    let is = rw c.in-Some.is at c.get_mut.ensures.value in
    let set = rw c.in-Some.is at (c.get_mut.follows.holds c.land.new.self) in
    ended_gone c.args.writes.now c.args.number c.in-Some.draft.now c.land.new.self _ is set (is_ok c.into_body.result) _ c.land.ensures (sym c.is_named.ensures ∙ c.if-is_named.false) c.remove.ensures.removed

pub returns-in-Ok-clause-gone : goal.returns-in-Ok-clause-gone
returns-in-Ok-clause-gone c =
    let is = rw c.in-Some.is at c.get_mut.ensures.value in
    let set = rw c.in-Some.is at (c.get_mut.follows.holds c.tell.new.self) in
    one_stays c.args.writes.now c.args.number c.in-Some.draft.now c.tell.new.self _ is set

pub returns-in-Err-clause-gone : goal.returns-in-Err-clause-gone
returns-in-Err-clause-gone c =
    let is = rw c.in-Some.is at c.get_mut.ensures.value in
    let set = rw c.in-Some.is at (c.get_mut.follows.holds c.to_body.new.self) in
    one_stays c.args.writes.now c.args.number c.in-Some.draft.now c.to_body.new.self _ is set

pub returns-clause-gone : goal.returns-clause-gone
returns-clause-gone c =
    let is = rw c.in-Some.is at c.get_mut.ensures.value in
    let set = rw c.in-Some.is at (c.get_mut.follows.holds c.land.new.self) in
    one_goes c.args.writes.now c.args.number c.in-Some.draft.now c.land.new.self _ is set _ c.remove.ensures.removed
