use Rattle.pcache_history.proofs.LoadsLaw.{no-load}
use Rattle.pcache_world.proofs.Words.{◌≡◌, subst, rules, ◌++◌, ◌∷◌, [], ◌∙◌, ap, sym, reverse, is_none, only_loads, evicted_by, tracked, Log, events_in}
use Rattle.pcache_world.proofs.FilesCalls.{other-late}
use Rattle.pcache_world.proofs.PutSound.{puts-same}
use Rattle.pcache_world.proofs.Worlds.{evicted-step, puts-step, same-age, sound-same, sound-step, started-once}
use Rattle.pcache_world.proofs.world.world_type.World.step_over_parts.Goals as goal

pub invariant_of-self : goal.invariant_of-self
invariant_of-self g c = (
  sound-same _ _ _ _ _ _ _ c.self.inside.history.items _ c.self.invariant.0 c.make_ready.ensures.same_start c.make_ready.ensures.same_history,
  ap is_none c.in_err-make_ready.ensures.err ∙ c.self.invariant.1 ∙ ap (λ xs. only_loads (reverse xs)) (sym c.make_ready.ensures.same_history),
  puts-same _ _ c.self.inside.history.items _ c.self.invariant.2 c.make_ready.ensures.same_history,
)

pub invariant_of-self-2 : goal.invariant_of-self-2
invariant_of-self-2 g c = (
  sound-step _ _ _ _ _ _ _ _ _ _ _ _ _ c.self.inside.history.items _ c.args.call _ _ _ c.self.invariant.0 c.self.invariant.2 (search rules) c.act-reply.ensures.acts c.doubled-noted.ensures.copy c.act-reply.ensures.limits
      (started-once (λ v. v.items) _ _ _ c.in_ok-make_ready.ensures.known ∙ c.make_ready.ensures.same_start)
      (c.note.ensures ∙ ap (λ xs. xs ++ record { call = c.args.call; reply = c.doubled-noted.result.0; events = c.act-reply.new.events.items } ∷ []) c.make_ready.ensures.same_history),
  other-late _ c.self.inside.history.items _ c.args.call _ _ (no-load c.args.call.act c.requires.parts) c.in_ok-make_ready.ensures.known
      (c.note.ensures ∙ ap (λ xs. xs ++ record { call = c.args.call; reply = c.doubled-noted.result.0; events = c.act-reply.new.events.items } ∷ []) c.make_ready.ensures.same_history),
  puts-step _ _ _ _ _ _ _ _ _ _ _ c.self.inside.history.items _ c.args.call _ _ _ c.self.invariant.0 c.self.invariant.2 (search rules) c.act-reply.ensures.acts c.doubled-noted.ensures.copy
      (c.note.ensures ∙ ap (λ xs. xs ++ record { call = c.args.call; reply = c.doubled-noted.result.0; events = c.act-reply.new.events.items } ∷ []) c.make_ready.ensures.same_history),
)

pub returns-clause-legal : goal.returns-clause-legal
returns-clause-legal g c = (invariant_of-self-2 g c).0.legal

pub returns-clause-puts : goal.returns-clause-puts
returns-clause-puts g c = (invariant_of-self-2 g c).2.follow

pub returns-clause-ok : goal.returns-clause-ok
returns-clause-ok g c = record {
  events = c.act-reply.new.events.items;
  history = search rules;
  start = search rules;
  limits = search rules;
  age = same-age _ _ _ _ _ _ _ _ _ _ _ c.self.inside.history.items c.args.call _ _ c.self.invariant.0 c.self.invariant.2 (search rules) c.act-reply.ensures.acts ∙ ap (λ (l : Log). l.age) c.self.view_is;
  evicted = subst (λ (l : Log). c.act-reply.new.parts.evicted ≡ evicted_by (tracked l.start (events_in l)) l.evicted c.act-reply.new.events.items) c.self.view_is
      (evicted-step _ _ _ _ _ _ _ _ _ _ _ c.self.inside.history.items c.args.call _ _ _ _ c.self.invariant.0 c.self.invariant.2 (search rules) c.act-reply.ensures.acts c.act-reply.ensures.evicted);
}
