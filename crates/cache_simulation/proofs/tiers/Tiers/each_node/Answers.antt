use Rattle.cache_simulation.proofs.Words.{◌≡◌, ◌∙◌, ◌+◌, ◌<◌, ap, sym, subst, length, get_or, arith, length_push, Cache, Got, at_node}
use Rattle.cache_simulation.proofs.Visits.{tells, tell-more}
use Rattle.cache_simulation.proofs.tiers.Tiers.each_node.Goals as goal

pub loop-node-preserved : goal.loop-node-preserved
loop-node-preserved c =
    let so_far = c.loop-node.invariant in
    let long = so_far.long in
    let test = c.loop-node-test.true in
    let same = ap length c.as_slice-node-items.ensures.value in
    let self = c.args.self.now in
    let index = c.loop-node.node-index in
    let item = c.node-item.result in
    let is : item ≡ get_or self.nodes.items index item = c.node-item.is ∙ ap (λ xs. get_or xs index item) c.as_slice-node-items.ensures.value in
    let within : index < length self.nodes.items = omega arith in
    record {
      long = ap length c.in_ok-push.ensures.items ∙ length_push c.loop-node.each.items c.told.result ∙ ap (λ n. n + 1) long;
      upto = omega arith;
      each = λ visits had.
          let got : Got self.setting self.policy self.size (at_node index visits) item = subst (λ (x : Cache). Got self.setting self.policy self.size (at_node index visits) x) (sym is) (had.nodes index item within) in
          tell-more self.setting self.policy self.size (λ k. at_node k visits) c.loop-node.each.items c.push.new.self.items c.told.result index long c.in_ok-push.ensures.items
          (tells self.setting self.policy self.size (at_node index visits) item c.told.result c.told.ensures.policy c.told.ensures.ran got) (so_far.each visits had);
    }

pub returns : goal.returns
returns c =
    let so_far = c.loop-node.invariant in
    let long = so_far.long in
    let upto = so_far.upto in
    let end = c.loop-node-test.false in
    let same = ap length c.as_slice-node-items.ensures.value in
    record { told = λ visits had. record { long = omega arith; each = so_far.each visits had } }
