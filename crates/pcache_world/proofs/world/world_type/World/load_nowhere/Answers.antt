use Rattle.pcache_world.proofs.Words.{rules, ◌++◌, ◌∷◌, [], ◌∙◌, ap, sym, subst, refl, reverse, is_none, is_some, not, true, false, Option, Bool, ◌≡◌, inl, only_loads, Log, AnswersFiles}
use Rattle.pcache_history.specs.declared.call.FilesAct.TheVariants as F
use Rattle.pcache_world.proofs.FilesCalls.{files-puts-step, is-load-of, load-late, load-sound, unloaded-answers, unloaded-nowhere}
use Rattle.pcache_world.proofs.PutSound.{puts-same}
use Rattle.pcache_world.proofs.Worlds.{sound-same}
use Rattle.pcache_world.proofs.world.world_type.World.load_nowhere.Goals as goal

-- what the test of the option answered
early-told : {V : Type 0} (o : Option V) (r : Bool) → is_some o ≡ not r → r ≡ is_none o
early-told o true is = sym (ap not is)
early-told o false is = sym (ap not is)

pub invariant_of-self : goal.invariant_of-self
invariant_of-self g c = (
  sound-same _ _ _ _ _ _ _ c.self.inside.history.items _ c.self.invariant.0 refl c.reserve.ensures.items,
  c.self.invariant.1 ∙ ap (λ xs. only_loads (reverse xs)) (sym c.reserve.ensures.items),
  puts-same _ _ c.self.inside.history.items _ c.self.invariant.2 c.reserve.ensures.items,
)

pub invariant_of-self-2 : goal.invariant_of-self-2
invariant_of-self-2 g c = (
  load-sound (λ v. v.items) c.self.inside.start _ _ _ _ _ _ _ c.self.inside.history.items _ c.args.call c.unloaded-noted.result c.unloaded-noted.result c.new.result.items c.self.invariant.0 c.self.invariant.1 (subst (λ b. AnswersFiles b F.Load c.unloaded-noted.result) (early-told c.self.inside.start c.is_none-is_early.result c.is_none-is_early.ensures) (unloaded-answers _ c.unloaded-noted.result c.unloaded-noted.ensures)) (λ _. refl) refl (inl refl) c.requires.load c.new.ensures.items
      (c.note.ensures ∙ ap (λ xs. xs ++ record { call = c.args.call; reply = c.unloaded-noted.result; events = c.new.result.items } ∷ []) c.reserve.ensures.items),
  load-late c.self.inside.start c.self.inside.history.items _ c.args.call c.unloaded-noted.result c.new.result.items (is-load-of c.args.call.act c.requires.load) c.self.invariant.1
      (c.note.ensures ∙ ap (λ xs. xs ++ record { call = c.args.call; reply = c.unloaded-noted.result; events = c.new.result.items } ∷ []) c.reserve.ensures.items),
  files-puts-step _ _ c.self.inside.history.items _ c.args.call F.Load c.unloaded-noted.result c.new.result.items c.self.invariant.2 c.self.invariant.0.requests c.requires.load c.new.ensures.items
      (c.note.ensures ∙ ap (λ xs. xs ++ record { call = c.args.call; reply = c.unloaded-noted.result; events = c.new.result.items } ∷ []) c.reserve.ensures.items),
)

pub returns-clause-legal : goal.returns-clause-legal
returns-clause-legal g c = (invariant_of-self-2 g c).0.legal

pub returns-clause-puts : goal.returns-clause-puts
returns-clause-puts g c = (invariant_of-self-2 g c).2.follow

pub returns-clause-ok : goal.returns-clause-ok
returns-clause-ok g c = record {
  events = [];
  history = search rules;
  start = search rules;
  limits = search rules;
  age = ap (λ (l : Log). l.age) c.self.view_is;
  evicted = ap (λ (l : Log). l.evicted) c.self.view_is;
}

pub returns-clause-files : goal.returns-clause-files
returns-clause-files g c = unloaded-nowhere _ _ c.unloaded.ensures
