use Rattle.std.proofs.lemmas.List.{length-drop}
use Rattle.pcache_response.proofs.Words.{◌≡◌, ◌≢◌, ℕ, ◌+◌, ◌≤◌, ◌<◌, length, take, ap, sym, ◌∙◌, subst, arith, take_all, state_after, Ended}
use Rattle.pcache_response.proofs.PartLemmas.{rest_is}
use Rattle.pcache_response.proofs.Joins.{place_stays, run_goes_on, cuts_behind, goes_on_behind}
use Rattle.pcache_response.proofs.head_end.cut.Goals as goal

pub returns-then-at-piece-clause-none : goal.returns-then-at-piece-clause-none
returns-then-at-piece-clause-none c =
    let stays = subst (λ xs. (k : ℕ) → k ≤ c.passed-at.result → state_after c.bytes.state (take k xs) ≡ c.bytes.state) (rest_is c.bytes.at c.args.piece.now) c.passed-at.ensures.stays in
    let going : c.bytes.state ≢ Ended = λ e. c.bytes.invariant.none c.bytes.at (omega arith) (sym c.bytes.invariant.moved ∙ e) in
    λ k le. run_goes_on c.args.state.now c.bytes.state c.args.piece.now c.bytes.at c.passed-at.result c.bytes.invariant.moved going c.bytes.invariant.none stays k (let all = c.if-at-piece.true in omega (arith, le, all))

pub returns-then-at-piece-clause-moved : goal.returns-then-at-piece-clause-moved
returns-then-at-piece-clause-moved c =
    let piece = c.args.piece.now in
    let stays = subst (λ xs. (k : ℕ) → k ≤ c.passed-at.result → state_after c.bytes.state (take k xs) ≡ c.bytes.state) (rest_is c.bytes.at piece) c.passed-at.ensures.stays in
    sym (ap (λ n. state_after c.args.state.now (take n piece)) (sym c.if-at-piece.true) ∙ place_stays c.args.state.now c.bytes.state piece c.bytes.at c.passed-at.result c.bytes.invariant.moved stays c.passed-at.result (omega arith))
    ∙ ap (state_after c.args.state.now) (take_all (length piece) piece (omega arith))

pub returns-in-Ended-clause-found : goal.returns-in-Ended-clause-found
returns-in-Ended-clause-found c =
    let piece = c.args.piece.now in
    let stays = subst (λ xs. (k : ℕ) → k ≤ c.passed-at.result → state_after c.bytes.state (take k xs) ≡ c.bytes.state) (rest_is c.bytes.at piece) c.passed-at.ensures.stays in
    let going : c.bytes.state ≢ Ended = λ e. c.bytes.invariant.none c.bytes.at (omega arith) (sym c.bytes.invariant.moved ∙ e) in
    let behind = subst (λ xs. c.passed-at.result ≤ length xs) (rest_is c.bytes.at piece) c.passed-at.ensures.within in
    let before = c.bytes-test.true in
    let more = c.if-at-piece.false in
    let within : c.bytes.at + c.passed-at.result < length piece = omega (arith, behind, before, more, length-drop c.bytes.at piece) in
    cuts_behind c.args.state.now c.bytes.state piece c.bytes.at c.passed-at.result within c.bytes.invariant.moved going c.bytes.invariant.none stays (sym c.next.ensures ∙ c.in-Ended.is)

pub bytes-preserved : goal.bytes-preserved
bytes-preserved c =
    let piece = c.args.piece.now in
    let stays = subst (λ xs. (k : ℕ) → k ≤ c.passed-at.result → state_after c.bytes.state (take k xs) ≡ c.bytes.state) (rest_is c.bytes.at piece) c.passed-at.ensures.stays in
    let going : c.bytes.state ≢ Ended = λ e. c.bytes.invariant.none c.bytes.at (omega arith) (sym c.bytes.invariant.moved ∙ e) in
    let behind = subst (λ xs. c.passed-at.result ≤ length xs) (rest_is c.bytes.at piece) c.passed-at.ensures.within in
    let before = c.bytes-test.true in
    let more = c.if-at-piece.false in
    let within : c.bytes.at + c.passed-at.result < length piece = omega (arith, behind, before, more, length-drop c.bytes.at piece) in
    let on = goes_on_behind c.args.state.now c.bytes.state c.next.result piece c.bytes.at c.passed-at.result within c.bytes.invariant.moved going c.bytes.invariant.none stays c.next.ensures c.in_default.not-Ended in
    record { within = omega (arith, within); moved = on.0; none = on.1 }
