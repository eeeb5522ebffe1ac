use Rattle.pcache_world.proofs.Words.{◌++◌, ◌∷◌, [], ◌∙◌, ap, sym, subst, refl, reverse, is_none, is_some, not, true, false, Option, Bool, ◌≡◌, Call, files_in, is_load, only_loads, Log, AnswersFiles, HasCause}
use Rattle.pcache_history.specs.declared.call.FilesAct.TheVariants as F
use Rattle.pcache_world.proofs.FilesCalls.{files-puts-step, load-late, load-leaves, load-sound, told-files}
use Rattle.pcache_world.proofs.PutSound.{puts-same}
use Rattle.pcache_world.proofs.Worlds.{sound-at, sound-same}
use Rattle.pcache_world.proofs.world.world_type.World.load.Goals as goal

-- what the test of the option answered
early-told : {V : Type 0} (o : Option V) (r : Bool) → is_some o ≡ not r → r ≡ is_none o
early-told o true is = sym (ap not is)
early-told o false is = sym (ap not is)

pub invariant_of-self : goal.invariant_of-self
invariant_of-self g c = (
  sound-same _ _ _ _ _ _ _ c.self.inside.history.items _ c.self.invariant.0 refl c.reserve.ensures.items,
  c.self.invariant.1 ∙ ap (λ xs. only_loads (reverse xs)) (sym c.reserve.ensures.items),
  puts-same _ _ c.self.inside.history.items _ c.self.invariant.2 c.reserve.ensures.items,
)

pub invariant_of-self-2 : goal.invariant_of-self-2
invariant_of-self-2 g c = (
  sound-at (load-sound (λ v. v.items) c.self.inside.start _ _ _ _ _ _ _ c.self.inside.history.items _ c.call.result c.load_if-reply.result c.doubled-noted.result.0 c.new.result.items c.self.invariant.0 c.self.invariant.1
      (subst (λ b. AnswersFiles b F.Load c.load_if-reply.result) (early-told c.self.inside.start c.is_none-is_early.result c.is_none-is_early.ensures) c.load_if-reply.ensures.reply) (λ late. c.load_if-reply.ensures.late ((early-told c.self.inside.start c.is_none-is_early.result c.is_none-is_early.ensures) ∙ late)) c.load_if-reply.ensures.limits c.doubled-noted.ensures.copy (ap (λ (x : Call). files_in x.act) c.call.ensures) c.new.ensures.items
      (c.note.ensures ∙ ap (λ xs. xs ++ record { call = c.call.result; reply = c.doubled-noted.result.0; events = c.new.result.items } ∷ []) c.reserve.ensures.items)) c.load_if-reply.ensures.store c.load_if-reply.ensures.locks,
  load-late c.self.inside.start c.self.inside.history.items _ c.call.result c.doubled-noted.result.0 c.new.result.items (ap (λ (x : Call). is_load x.act) c.call.ensures) c.self.invariant.1
      (c.note.ensures ∙ ap (λ xs. xs ++ record { call = c.call.result; reply = c.doubled-noted.result.0; events = c.new.result.items } ∷ []) c.reserve.ensures.items),
  files-puts-step _ _ c.self.inside.history.items _ c.call.result F.Load c.doubled-noted.result.0 c.new.result.items c.self.invariant.2 c.self.invariant.0.requests (ap (λ (x : Call). files_in x.act) c.call.ensures) c.new.ensures.items
      (c.note.ensures ∙ ap (λ xs. xs ++ record { call = c.call.result; reply = c.doubled-noted.result.0; events = c.new.result.items } ∷ []) c.reserve.ensures.items),
)

pub returns-clause-legal : goal.returns-clause-legal
returns-clause-legal g c = (invariant_of-self-2 g c).0.legal

pub returns-clause-puts : goal.returns-clause-puts
returns-clause-puts g c = (invariant_of-self-2 g c).2.follow

pub returns-clause-loaded : goal.returns-clause-loaded
returns-clause-loaded g c = load-leaves (λ v. v.items) c.self.inside.start _ g.M.SavedManager.put_in _ _ _ _ _ _ (subst (λ b. AnswersFiles b F.Load c.load_if-reply.result) (early-told c.self.inside.start c.is_none-is_early.result c.is_none-is_early.ensures) c.load_if-reply.ensures.reply) c.load_if-reply.ensures.loaded c.doubled-noted.ensures.copy c.doubled-noted.ensures.same (ap (λ (l : Log). l.start) c.self.view_is)

pub returns-clause-cause : goal.returns-clause-cause
returns-clause-cause g c =
    let answers = subst (λ b. AnswersFiles b F.Load c.load_if-reply.result) (early-told c.self.inside.start c.is_none-is_early.result c.is_none-is_early.ensures) c.load_if-reply.ensures.reply in
    subst (HasCause _ _) (sym (told-files _ F.Load c.load_if-reply.result c.doubled-noted.result.0 answers c.doubled-noted.ensures.copy) ∙ c.doubled-noted.ensures.same) c.load_if-reply.ensures.cause
