use Rattle.pcache_response.proofs.Words.{sym, subst, ◌∙◌, TakenIn, parsed_of, Progress}
use Rattle.pcache_response.proofs.Unique.{missing_early, unfinished_early}
use Rattle.pcache_response.proofs.response_parse.missing.Goals as goal

pub returns-then-is_missing-clause-early : goal.returns-then-is_missing-clause-early
returns-then-is_missing-clause-early c = λ e bytes g taken complete.
    missing_early c.in-Body.left bytes g (sym c.is_missing.ensures ∙ c.if-is_missing.true) (subst (λ (p : Progress). TakenIn (parsed_of p) bytes g) c.in-Body.is taken) complete

pub returns-in-Head-clause-early : goal.returns-in-Head-clause-early
returns-in-Head-clause-early c = λ e bytes g taken complete.
    let there = subst (λ (p : Progress). TakenIn (parsed_of p) bytes g) c.in-Head.is taken in
    unfinished_early bytes there.1 complete
