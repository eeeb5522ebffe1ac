use Rattle.pcache_response.proofs.Words.{subst, body_of, TakenIn, parsed_of, Progress}
use Rattle.pcache_response.proofs.PartLemmas.{body_joined}
use Rattle.pcache_response.proofs.response_parse.take_in.Goals as goal

pub returns-in_ok-body-in-Body-clause-joined : goal.returns-in_ok-body-in-Body-clause-joined
returns-in_ok-body-in-Body-clause-joined c = λ bytes g taken.
    body_joined c.in-Body.left c.in_ok-body-in-Body.left bytes c.args.piece.now g (body_of c.in_ok-body-in-Body.body)
    (subst (λ (p : Progress). TakenIn (parsed_of p) bytes g) c.in-Body.is taken)
    c.in_ok-body-in-Body.ensures.left
    c.in_ok-body-in-Body.ensures.part
