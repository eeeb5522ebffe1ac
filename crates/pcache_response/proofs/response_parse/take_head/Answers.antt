use Rattle.pcache_response.specs.Parts.{parts_of}
use Rattle.pcache_response.specs.declared.response_parse.PieceParts.{PieceParts}
use Rattle.pcache_response.proofs.Words.{inl, inr, drop, ap, ◌∙◌, err_from_is_err_and, Response, nothing, add_all}
use Rattle.pcache_response.proofs.PartLemmas.{response_starts, unreadable_there, parts_there, whole_given}
use Rattle.pcache_response.proofs.response_parse.take_head.Goals as goal

pub returns-in-Open-clause-joined : goal.returns-in-Open-clause-joined
returns-in-Open-clause-joined c =
    let joined = rw (c.in-Open.is, c.as_slice.ensures) at c.in_ok-head.ensures.ok in
    (joined.0, joined.1, ap (λ (p : PieceParts). add_all nothing (parts_of p)) c.no_parts.ensures)

pub returns-in-Open-clause-gives : goal.returns-in-Open-clause-gives
returns-in-Open-clause-gives c =
    let joined = rw (c.in-Open.is, c.as_slice.ensures) at c.in_ok-head.ensures.ok in
    inl (joined.1, ap parts_of c.no_parts.ensures)

pub returns-in_err-head-in-Ended-clause-invalid : goal.returns-in_err-head-in-Ended-clause-invalid
returns-in_err-head-in-Ended-clause-invalid c =
    let p = err_from_is_err_and c.from_residual-in_err-head-in-Ended.result c.from_residual-in_err-head-in-Ended.ensures.1 in
    let joined = rw (c.in-Ended.is, c.as_slice.ensures) at c.in_ok-head.ensures.ok in
    rw (p.1, p.2) (λ e. unreadable_there c.args.head c.args.piece.now c.in-Ended.head.items c.in-Ended.used joined.2 joined.1
    (λ header reads. c.in_err-head-in-Ended.ensures.invalid e header reads))

pub returns-in_ok-body-in-Ended-clause-joined : goal.returns-in_ok-body-in-Ended-clause-joined
returns-in_ok-body-in-Ended-clause-joined c =
    let joined = rw (c.in-Ended.is, c.as_slice.ensures) at c.in_ok-head.ensures.ok in
    let read = c.in_ok-head-in-Ended in
    let r : Response = record { head = read.head.0; size = read.size; behind = drop c.in-Ended.used c.args.piece.now } in (
      r,
      response_starts c.args.head c.args.piece.now c.in-Ended.head.items c.in-Ended.used read.head.0 read.size joined.2 joined.1 read.ensures.reads read.ensures.size,
      c.in_ok-body-in-Ended.ensures.left,
      ap (add_all nothing) (parts_there read.head read.size c.in_ok-body-in-Ended.body r.behind read.ensures.whole c.in_ok-body-in-Ended.ensures.part) ∙ whole_given r,
    )

pub returns-in_ok-body-in-Ended-clause-gives : goal.returns-in_ok-body-in-Ended-clause-gives
returns-in_ok-body-in-Ended-clause-gives c =
    let joined = rw (c.in-Ended.is, c.as_slice.ensures) at c.in_ok-head.ensures.ok in
    let read = c.in_ok-head-in-Ended in
    let r : Response = record { head = read.head.0; size = read.size; behind = drop c.in-Ended.used c.args.piece.now } in
    inr (
      r,
      response_starts c.args.head c.args.piece.now c.in-Ended.head.items c.in-Ended.used read.head.0 read.size joined.2 joined.1 read.ensures.reads read.ensures.size,
      parts_there read.head read.size c.in_ok-body-in-Ended.body r.behind read.ensures.whole c.in_ok-body-in-Ended.ensures.part,
    )
