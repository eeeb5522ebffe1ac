use Rattle.pcache_history.specs.declared.entry.Event.TheVariants.{LetGo}
use Rattle.pcache_lock.specs.declared.lock.status.LockStatus.TheVariants.{Done}
use Rattle.pcache_world.proofs.Words.{◌≡◌, ◌++◌, ap, refl, ◌∙◌, Ongoing, drop_of, Dropped}
use Rattle.pcache_world.proofs.MovesOf.{ends, push-some, push-none}
use Rattle.pcache_world.proofs.world.turn.close.Goals as goal
use Rattle.pcache_world.proofs.LockSteps.{ended-locks}
use Rattle.pcache_world.proofs.world.turn.close.Goals.{in-Some, in_default}

pub returns-in-Some-let_go-clause-moves : goal.returns-in-Some-let_go-clause-moves
returns-in-Some-let_go-clause-moves c =
    let old = c.args.events.now.items in
    let mid = c.match-dropped.events.items in
    let all = c.push_reserved-in-Some-let_go.new.self.items in
    let one : mid ≡ old ++ drop_of c.write_number-dropped.result = elim c.match-dropped.branch [
      | in-Some w ↦ push-some Dropped c.write_number-dropped.result w.in-Some.write old mid w.in-Some.is (ap (λ v. v.items) w.events-is ∙ w.push_reserved.ensures.items)
      | in_default w ↦ push-none Dropped c.write_number-dropped.result old mid w.in_default.is (ap (λ v. v.items) w.events-is)
    ] in
    ends c.args.request c.args.store.now.state c.end-let_go.new.store.state c.write_number-dropped.result c.end-let_go.result old mid all
    (c.write_number-dropped.ensures.write ∙ ap (λ (x : Ongoing). x.request.write) c.request.view_is) c.end-let_go.ensures.let_go c.requires.none one
    (push-some LetGo c.end-let_go.result c.in-Some-let_go.lock mid all c.in-Some-let_go.is c.push_reserved-in-Some-let_go.ensures.items) c.end-let_go.ensures.store

pub returns-in_default-let_go-clause-moves : goal.returns-in_default-let_go-clause-moves
returns-in_default-let_go-clause-moves c =
    let old = c.args.events.now.items in
    let mid = c.match-dropped.events.items in
    let one : mid ≡ old ++ drop_of c.write_number-dropped.result = elim c.match-dropped.branch [
      | in-Some w ↦ push-some Dropped c.write_number-dropped.result w.in-Some.write old mid w.in-Some.is (ap (λ v. v.items) w.events-is ∙ w.push_reserved.ensures.items)
      | in_default w ↦ push-none Dropped c.write_number-dropped.result old mid w.in_default.is (ap (λ v. v.items) w.events-is)
    ] in
    ends c.args.request c.args.store.now.state c.end-let_go.new.store.state c.write_number-dropped.result c.end-let_go.result old mid mid
    (c.write_number-dropped.ensures.write ∙ ap (λ (x : Ongoing). x.request.write) c.request.view_is) c.end-let_go.ensures.let_go c.requires.none one
    (push-none LetGo c.end-let_go.result mid mid c.in_default-let_go.is refl) c.end-let_go.ensures.store

pub returns-in-Some-let_go-clause-locks : goal.returns-in-Some-let_go-clause-locks
returns-in-Some-let_go-clause-locks c n =
    let old = c.args.events.now.items in
    let mid = c.match-dropped.events.items in
    let one : mid ≡ old ++ drop_of c.write_number-dropped.result = elim c.match-dropped.branch [
      | in-Some w ↦ push-some Dropped c.write_number-dropped.result w.in-Some.write old mid w.in-Some.is (ap (λ v. v.items) w.events-is ∙ w.push_reserved.ensures.items)
      | in_default w ↦ push-none Dropped c.write_number-dropped.result old mid w.in_default.is (ap (λ v. v.items) w.events-is)
    ] in
    ended-locks n 0 Done c.args.lock.now.table c.end-let_go.new.lock.table c.args.request.request.held c.write_number-dropped.result c.end-let_go.result old mid c.push_reserved-in-Some-let_go.new.self.items c.end-let_go.ensures.let_go c.requires.none one
    (push-some LetGo c.end-let_go.result c.in-Some-let_go.lock mid c.push_reserved-in-Some-let_go.new.self.items c.in-Some-let_go.is c.push_reserved-in-Some-let_go.ensures.items) c.end-let_go.ensures.table

pub returns-in_default-let_go-clause-locks : goal.returns-in_default-let_go-clause-locks
returns-in_default-let_go-clause-locks c n =
    let old = c.args.events.now.items in
    let mid = c.match-dropped.events.items in
    let one : mid ≡ old ++ drop_of c.write_number-dropped.result = elim c.match-dropped.branch [
      | in-Some w ↦ push-some Dropped c.write_number-dropped.result w.in-Some.write old mid w.in-Some.is (ap (λ v. v.items) w.events-is ∙ w.push_reserved.ensures.items)
      | in_default w ↦ push-none Dropped c.write_number-dropped.result old mid w.in_default.is (ap (λ v. v.items) w.events-is)
    ] in
    ended-locks n 0 Done c.args.lock.now.table c.end-let_go.new.lock.table c.args.request.request.held c.write_number-dropped.result c.end-let_go.result old mid mid c.end-let_go.ensures.let_go c.requires.none one
    (push-none LetGo c.end-let_go.result mid mid c.in_default-let_go.is refl) c.end-let_go.ensures.table
