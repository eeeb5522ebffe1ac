use Rattle.cache_simulation.proofs.Words.{on_ok_weaker}
use Rattle.cache_simulation.proofs.Visits.{of-none, of-answer, of-shield}
use Rattle.cache_simulation.proofs.tiers.Tiers.ask.Goals as goal

pub returns-in_default-clause-visited : goal.returns-in_default-clause-visited
returns-in_default-clause-visited c = on_ok_weaker c.ask_shield.result (λ serves.
    of-none c.args.hash c.args.asked.now c.args.self.now c.ask_shield.new.self c.as_slice.result.now c.as_slice.ensures.value (c.node_of.ensures.none c.in_default.is) serves) c.ask_shield.ensures.served

pub returns-then-branch-clause-visited : goal.returns-then-branch-clause-visited
returns-then-branch-clause-visited c =
    of-answer c.args.hash c.args.asked.now c.args.self.now c.ask_node.new.self c.as_slice.result.now c.in-Some.number c.in_ok-ask_node.field-0 c.as_slice.ensures.value c.in-Some.ensures.some
    c.in_ok-ask_node.ensures.hit c.if-branch.true c.in_ok-ask_node.ensures.served

pub returns-clause-visited : goal.returns-clause-visited
returns-clause-visited c = on_ok_weaker c.ask_shield-2.result (λ serves.
    of-shield c.args.hash c.args.asked.now c.args.self.now c.ask_node.new.self c.ask_shield-2.new.self c.as_slice.result.now c.in-Some.number c.in_ok-ask_node.field-0 c.as_slice.ensures.value c.in-Some.ensures.some
    c.in_ok-ask_node.ensures.hit c.if-branch.false c.ask_shield-2.ensures.nodes c.in_ok-ask_node.ensures.served serves) c.ask_shield-2.ensures.served
