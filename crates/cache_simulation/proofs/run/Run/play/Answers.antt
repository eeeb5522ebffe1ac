use Rattle.cache_simulation.proofs.Words.{◌≡◌, ◌∙◌, ◌∷◌, [], ◌++◌, ◌+◌, ap, sym, subst, take, List, arith, take_more, take_all, Request, Rules, State, Plays, state, rules_of, Replays, count_after, place}
use Rattle.cache_simulation.proofs.Standing.{plays-more, counted-more, same-rules, rules-same}
use Rattle.cache_simulation.proofs.Replaying.{replays-more, same-answers, counts-more, same-served, served-more}
use Rattle.cache_simulation.proofs.run.Run.play.Goals as goal

pub loop-asked-preserved : goal.loop-asked-preserved
loop-asked-preserved g c =
    let (e, counted, becomes, answers, gone) = c.in_ok-request.ensures.ok in
    let so_far = c.loop-asked.invariant in
    let (es, all, plays, replays, count) = so_far.plays in
    let policy = g.M.OrderedManager.policy in
    let rules : Rules = rules_of (g.M.EvictionManager.limits c.args.self.now.manager) c.args.self.now.most c.args.self.now.replaces in
    let rules_now : Rules = rules_of (g.M.EvictionManager.limits c.loop-asked.self.manager) c.loop-asked.self.most c.loop-asked.self.replaces in
    let same : rules_now ≡ rules = rules-same _ _ _ _ _ _ so_far.limits so_far.most so_far.replaces in
    let before : State = state (g.M.EvictionManager.tracked c.args.self.now.manager) c.args.self.now.freshness in
    let now : State = state (g.M.EvictionManager.tracked c.loop-asked.self.manager) c.loop-asked.self.freshness in
    let after : State = state (g.M.EvictionManager.tracked c.request.new.self.manager) c.request.new.self.freshness in
    let more : take (c.loop-asked.asked-index + 1) c.args.requests.now ≡ take c.loop-asked.asked-index c.args.requests.now ++ c.asked-item.result ∷ [] = take_more c.args.requests.now c.loop-asked.asked-index c.asked-item.result c.loop-asked-test.true ∙ ap (λ x. take c.loop-asked.asked-index c.args.requests.now ++ x ∷ []) (sym c.asked-item.is) in
    record {
      limits = c.request.ensures.limits ∙ so_far.limits;
      most = c.request.ensures.most ∙ so_far.most;
      replaces = c.request.ensures.replaces ∙ so_far.replaces;
      plays = (
        es ++ e ∷ [],
        counted-more c.args.self.now.counts c.loop-asked.self.counts c.request.new.self.counts es e all counted,
        subst (λ (requests : List Request). Plays rules before requests (es ++ e ∷ []) after) (sym more)
            (plays-more rules before now after (take c.loop-asked.asked-index c.args.requests.now) es c.asked-item.result e plays
            (same-rules rules_now rules now after c.asked-item.result e same becomes)),
        subst (λ (requests : List Request). Replays policy rules (place (g.M.OrderedManager.order c.args.self.now.manager) c.args.self.now.freshness) requests (es ++ e ∷ []) (place (g.M.OrderedManager.order c.request.new.self.manager) c.request.new.self.freshness)) (sym more)
            (replays-more policy rules (place (g.M.OrderedManager.order c.args.self.now.manager) c.args.self.now.freshness) (place (g.M.OrderedManager.order c.loop-asked.self.manager) c.loop-asked.self.freshness) (place (g.M.OrderedManager.order c.request.new.self.manager) c.request.new.self.freshness) (take c.loop-asked.asked-index c.args.requests.now) es c.asked-item.result e replays
            (same-answers policy rules_now rules (place (g.M.OrderedManager.order c.loop-asked.self.manager) c.loop-asked.self.freshness) (place (g.M.OrderedManager.order c.request.new.self.manager) c.request.new.self.freshness) c.asked-item.result e same answers)),
        gone ∙ ap (λ n. count_after n e) count ∙ sym (counts-more (g.M.EvictionManager.evicted c.args.self.now.manager).count es e),
      );
    }

pub returns-clause-served : goal.returns-clause-served
returns-clause-served g c = λ s before gone served.
    let so_far = c.loop-asked.invariant in
    let (es, counted, plays, replays, count) = so_far.plays in
    let policy = g.M.OrderedManager.policy in
    let old = place (g.M.OrderedManager.order c.args.self.now.manager) c.args.self.now.freshness in
    let now = place (g.M.OrderedManager.order c.loop-asked.self.manager) c.loop-asked.self.freshness in
    let whole : take c.loop-asked.asked-index c.args.requests.now ≡ c.args.requests.now = take_all c.loop-asked.asked-index c.args.requests.now (let end = c.loop-asked-test.false in omega arith) in
    let rules : Rules = rules_of (g.M.EvictionManager.limits c.args.self.now.manager) c.args.self.now.most c.args.self.now.replaces in
    let rules_now : Rules = rules_of (g.M.EvictionManager.limits c.loop-asked.self.manager) c.loop-asked.self.most c.loop-asked.self.replaces in
    same-served policy rules rules_now s now (before ++ take c.loop-asked.asked-index c.args.requests.now) (before ++ c.args.requests.now) c.loop-asked.self.counts gone (g.M.EvictionManager.evicted c.loop-asked.self.manager).count
    (rules-same _ _ _ _ _ _ (sym so_far.limits) (sym so_far.most) (sym so_far.replaces)) (ap (λ r. before ++ r) whole)
    (served-more policy rules s old now before (take c.loop-asked.asked-index c.args.requests.now) c.args.self.now.counts c.loop-asked.self.counts gone (g.M.EvictionManager.evicted c.args.self.now.manager).count (g.M.EvictionManager.evicted c.loop-asked.self.manager).count es served counted replays count)
