use Rattle.pcache_decisions.proofs.Errors.{as_any_response}
use Rattle.pcache_decisions.proofs.responses.by_error.Goals as goal

pub returns : goal.returns
returns c = record {
  ok =
      as_any_response c.args.rules.now c.args.request.now c.args.stored.now c.args.response.now c.args.received c.decide_storing.result
      c.follows_error.result c.if-follows_error.false c.follows_error.ensures c.decide_storing.ensures.ok;
}
