use Rattle.pcache_world.proofs.Words.{rules, ◌++◌, ◌∷◌, [], ◌∙◌, ap, sym, refl, reverse, is_none, inl, Io, only_loads, Log}
use Rattle.pcache_history.specs.declared.call.FilesAct.TheVariants as F
use Rattle.pcache_history.specs.declared.call.Reply.TheVariants as R
use Rattle.pcache_world.proofs.FilesCalls.{files-puts-step, files-step, is-save-of, other-late}
use Rattle.pcache_world.proofs.PutSound.{puts-same}
use Rattle.pcache_world.proofs.Worlds.{sound-same, started-once}
use Rattle.pcache_world.proofs.world.world_type.World.save_nowhere.Goals as goal

pub invariant_of-self : goal.invariant_of-self
invariant_of-self g c = (
  sound-same _ _ _ _ _ _ _ c.self.inside.history.items _ c.self.invariant.0 c.make_ready.ensures.same_start c.make_ready.ensures.same_history,
  ap is_none c.in_err-make_ready.ensures.err ∙ c.self.invariant.1 ∙ ap (λ xs. only_loads (reverse xs)) (sym c.make_ready.ensures.same_history),
  puts-same _ _ c.self.inside.history.items _ c.self.invariant.2 c.make_ready.ensures.same_history,
)

pub invariant_of-self-2 : goal.invariant_of-self-2
invariant_of-self-2 g c = (
  files-step _ _ _ _ _ _ _ c.self.inside.history.items _ c.args.call F.Save (R.Refused Io) (R.Refused Io) c.new.result.items c.self.invariant.0 (inl refl) c.requires.save tt c.new.ensures.items
      (started-once (λ v. v.items) _ _ _ c.in_ok-make_ready.ensures.known ∙ c.make_ready.ensures.same_start)
      (c.note.ensures ∙ ap (λ xs. xs ++ record { call = c.args.call; reply = (R.Refused Io); events = c.new.result.items } ∷ []) c.make_ready.ensures.same_history),
  other-late _ c.self.inside.history.items _ c.args.call (R.Refused Io) c.new.result.items (is-save-of c.args.call.act c.requires.save) c.in_ok-make_ready.ensures.known
      (c.note.ensures ∙ ap (λ xs. xs ++ record { call = c.args.call; reply = (R.Refused Io); events = c.new.result.items } ∷ []) c.make_ready.ensures.same_history),
  files-puts-step _ _ c.self.inside.history.items _ c.args.call F.Save (R.Refused Io) c.new.result.items c.self.invariant.2 c.self.invariant.0.requests c.requires.save c.new.ensures.items
      (c.note.ensures ∙ ap (λ xs. xs ++ record { call = c.args.call; reply = (R.Refused Io); events = c.new.result.items } ∷ []) c.make_ready.ensures.same_history),
)

pub returns-clause-legal : goal.returns-clause-legal
returns-clause-legal g c = (invariant_of-self-2 g c).0.legal

pub returns-clause-puts : goal.returns-clause-puts
returns-clause-puts g c = (invariant_of-self-2 g c).2.follow

pub returns-clause-ok : goal.returns-clause-ok
returns-clause-ok g c = record {
  events = [];
  history = search rules;
  start = search rules;
  limits = search rules;
  age = ap (λ (l : Log). l.age) c.self.view_is;
  evicted = ap (λ (l : Log). l.evicted) c.self.view_is;
}
