use Rattle.pcache_files.specs.Folder.{AreSaved}
use Rattle.pcache_world.specs.FilesCalls.{IsSavedOf}
use Rattle.pcache_world.proofs.Words.{rules, ◌++◌, ◌∷◌, [], ◌∙◌, ap, sym, subst, reverse, is_none, Tracked, Call, files_in, is_load, only_loads, tracked, Log, events_in, IsFilesReply, HasCause, HasSaved}
use Rattle.pcache_history.specs.declared.call.FilesAct.TheVariants as F
use Rattle.pcache_world.proofs.FilesCalls.{files-puts-step, files-step, other-late, told-files}
use Rattle.pcache_world.proofs.PutSound.{puts-same}
use Rattle.pcache_world.proofs.Worlds.{sound-same, started-once}
use Rattle.pcache_world.proofs.world.world_type.World.save.Goals as goal

pub invariant_of-self : goal.invariant_of-self
invariant_of-self g c = (
  sound-same _ _ _ _ _ _ _ c.self.inside.history.items _ c.self.invariant.0 c.make_ready.ensures.same_start c.make_ready.ensures.same_history,
  ap is_none c.in_err-make_ready.ensures.err ∙ c.self.invariant.1 ∙ ap (λ xs. only_loads (reverse xs)) (sym c.make_ready.ensures.same_history),
  puts-same _ _ c.self.inside.history.items _ c.self.invariant.2 c.make_ready.ensures.same_history,
)

pub invariant_of-self-2 : goal.invariant_of-self-2
invariant_of-self-2 g c = (
  files-step _ _ _ _ _ _ _ c.self.inside.history.items _ c.call.result F.Save c.saved_in-saved.result c.doubled-noted.result.0 c.new.result.items c.self.invariant.0 c.doubled-noted.ensures.copy (ap (λ (x : Call). files_in x.act) c.call.ensures) c.saved_in-saved.ensures.reply c.new.ensures.items
      (started-once (λ v. v.items) _ _ _ c.in_ok-make_ready.ensures.known ∙ c.make_ready.ensures.same_start)
      (c.note.ensures ∙ ap (λ xs. xs ++ record { call = c.call.result; reply = c.doubled-noted.result.0; events = c.new.result.items } ∷ []) c.make_ready.ensures.same_history),
  other-late _ c.self.inside.history.items _ c.call.result c.doubled-noted.result.0 c.new.result.items (ap (λ (x : Call). is_load x.act) c.call.ensures) c.in_ok-make_ready.ensures.known
      (c.note.ensures ∙ ap (λ xs. xs ++ record { call = c.call.result; reply = c.doubled-noted.result.0; events = c.new.result.items } ∷ []) c.make_ready.ensures.same_history),
  files-puts-step _ _ c.self.inside.history.items _ c.call.result F.Save c.doubled-noted.result.0 c.new.result.items c.self.invariant.2 c.self.invariant.0.requests (ap (λ (x : Call). files_in x.act) c.call.ensures) c.new.ensures.items
      (c.note.ensures ∙ ap (λ xs. xs ++ record { call = c.call.result; reply = c.doubled-noted.result.0; events = c.new.result.items } ∷ []) c.make_ready.ensures.same_history),
)

pub returns-clause-legal : goal.returns-clause-legal
returns-clause-legal g c = (invariant_of-self-2 g c).0.legal

pub returns-clause-puts : goal.returns-clause-puts
returns-clause-puts g c = (invariant_of-self-2 g c).2.follow

pub returns-clause-ok : goal.returns-clause-ok
returns-clause-ok g c = record {
  events = [];
  history = search rules;
  start = search rules;
  limits = search rules;
  age = ap (λ (l : Log). l.age) c.self.view_is;
  evicted = ap (λ (l : Log). l.evicted) c.self.view_is;
}

pub returns-clause-replies : goal.returns-clause-replies
returns-clause-replies g c = subst (IsFilesReply F.Save) (sym (told-files (only_loads []) F.Save _ _ c.saved_in-saved.ensures.reply c.doubled-noted.ensures.copy) ∙ c.doubled-noted.ensures.same) c.saved_in-saved.ensures.reply

pub returns-clause-saved : goal.returns-clause-saved
returns-clause-saved g c =
    let answered = sym (told-files (only_loads []) F.Save _ _ c.saved_in-saved.ensures.reply c.doubled-noted.ensures.copy) ∙ c.doubled-noted.ensures.same in
    let tracks = c.self.invariant.0.tracks ∙ ap (λ (l : Log). tracked l.start (events_in l)) c.self.view_is in
    subst (λ (m : Tracked). HasSaved (IsSavedOf g.M.EvictionManager.tracked g.M.SavedManager.written (AreSaved (g.R.NamedFiles.makes c.args.files.now) (g.R.NamedFiles.renames c.args.files.now) g.R.File.TriedWrite.contents g.R.File.TriedWrite.is_flushed c.args.dir.now) m) c.doubled-noted.result.1) tracks
    (subst (HasSaved _) answered c.saved_in-saved.ensures.saved)

pub returns-clause-cause : goal.returns-clause-cause
returns-clause-cause g c =
    subst (HasCause _ (Unit {0})) (sym (told-files (only_loads []) F.Save _ _ c.saved_in-saved.ensures.reply c.doubled-noted.ensures.copy) ∙ c.doubled-noted.ensures.same) c.saved_in-saved.ensures.cause
