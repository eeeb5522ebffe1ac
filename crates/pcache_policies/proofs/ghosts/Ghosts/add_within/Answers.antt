use Rattle.pcache_policies.proofs.Words.{◌∷◌, ◌∙◌, take, ap, seen_of, forgotten}
use Rattle.pcache_policies.proofs.GhostKeys.{none-rest, added}
use Rattle.pcache_policies.proofs.ghosts.Ghosts.add_within.Goals as goal

pub push-requires : goal.push-requires
push-requires g c = ap (seen_of c.args.key) c.remove.ensures.value ∙ none-rest c.args.key c.self.inside.queue

pub returns : goal.returns
returns g c = record {
  ok = added c.args.key _ _ c.self.inside.queue c.remove.new.self c.push.new.self c.keep.new.self c.remove.ensures.value c.in_ok-push.ensures.ok c.keep.ensures
      ∙ ap (λ g. take c.args.most (c.args.key ∷ forgotten c.args.key g)) c.self.view_is;
}
