use Rattle.pcache_c.proofs.decisions.missing.Goals as goal

pub returns : goal.returns
returns c = record {
  decided = c.decide_request.result;
  is_unsafe = c.decide_request.ensures.written_through;
  missing = λ safe. c.decide_request.ensures.missing safe tt;
  said = c.told.ensures;
}
