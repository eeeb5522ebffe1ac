use Rattle.pcache_shared_cache.proofs.Words.{◌≡◌, ℕ, ◌++◌, List, [], ◌∷◌, ap, sym, subst, ◌∙◌, Parts, EndsWith, IsNamed, IsSound, Placed}
use Rattle.pcache_shared_cache.proofs.Logs.{log_added, log_as, sound_last}
use Rattle.pcache_shared_cache.proofs.log.PartLog.adds.Goals as goal

pub invariant_of-self : goal.invariant_of-self
invariant_of-self g c =
    let log = c.self.inside.keeper.log in
    let ends = subst (λ (v : Placed). EndsWith v.log c.requires.leads.0) (sym c.self.view_is) c.requires.leads.1 in
    let sound : IsSound c.args.cache.now = record { finds = c.headline.ensures.finds; finishes = c.headline.ensures.finishes; purged = c.headline.ensures.purged; kept = c.headline.ensures.kept; bodies = c.headline.ensures.bodies; found = c.headline.ensures.found; metas = c.headline.ensures.metas; reads = c.headline.ensures.reads; grows = c.headline.ensures.grows; newest = c.headline.ensures.newest; newer = c.headline.ensures.newer; tracked = c.headline.ensures.tracked; bounded = c.headline.ensures.bounded; sums = c.headline.ensures.sums; one = c.headline.ensures.one; gives = c.headline.ensures.gives; fetches = c.headline.ensures.fetches; weighing = c.requires.leads.2.weighing ∙ (sound_last log c.requires.leads.0 ends c.self.invariant.1).weighing } in
    let is = c.see.ensures.same.1 ∙ c.add.ensures.1 ∙ ap (λ (l : List Parts). l ++ c.args.cache.now ∷ []) c.meets.ensures.1 in (
      subst (IsNamed (g.K.Mark.names c.self.inside.place)) (sym (c.see.ensures.same.0 ∙ c.add.ensures.0 ∙ c.meets.ensures.0)) c.self.invariant.0,
      log_as c.see.new.self.log (log ++ c.args.cache.now ∷ []) is (log_added log c.requires.leads.0 c.args.cache.now ends c.self.invariant.1 c.requires.leads.2 sound),
    )

pub invariant_of-sight : goal.invariant_of-sight
invariant_of-sight g c =
    let log = c.self.inside.keeper.log in
    let ends = subst (λ (v : Placed). EndsWith v.log c.requires.leads.0) (sym c.self.view_is) c.requires.leads.1 in
    let sound : IsSound c.args.cache.now = record { finds = c.headline.ensures.finds; finishes = c.headline.ensures.finishes; purged = c.headline.ensures.purged; kept = c.headline.ensures.kept; bodies = c.headline.ensures.bodies; found = c.headline.ensures.found; metas = c.headline.ensures.metas; reads = c.headline.ensures.reads; grows = c.headline.ensures.grows; newest = c.headline.ensures.newest; newer = c.headline.ensures.newer; tracked = c.headline.ensures.tracked; bounded = c.headline.ensures.bounded; sums = c.headline.ensures.sums; one = c.headline.ensures.one; gives = c.headline.ensures.gives; fetches = c.headline.ensures.fetches; weighing = c.requires.leads.2.weighing ∙ (sound_last log c.requires.leads.0 ends c.self.invariant.1).weighing } in
    let is = c.see.ensures.seen.1 ∙ c.add.ensures.1 ∙ ap (λ (l : List Parts). l ++ c.args.cache.now ∷ []) c.meets.ensures.1 in
    let here : c.self.inside.place ≡ c.sight.inside.place = ap (λ (v : Placed). v.place) c.self.view_is ∙ sym c.requires.place ∙ ap (λ (v : Placed). v.place) (sym c.sight.view_is) in (
      subst (λ (n : ℕ). IsNamed (g.K.Mark.names n) c.see.result.name) here (subst (IsNamed (g.K.Mark.names c.self.inside.place)) (sym (c.see.ensures.seen.0 ∙ c.add.ensures.0 ∙ c.meets.ensures.0)) c.self.invariant.0),
      log_as c.see.result.log (log ++ c.args.cache.now ∷ []) is (log_added log c.requires.leads.0 c.args.cache.now ends c.self.invariant.1 c.requires.leads.2 sound),
    )
