-- A call on files in a sound world: no request and no put changes, and it makes no event.
use Rattle.std.proofs.Common.{option_map}
use Rattle.std.specs.Prelude.{IsErrOf}
use Rattle.pcache_base.specs.declared.error.ErrorType.TheVariants.{InternalError, InvalidHttpHeader, ResponseTooLarge}
use Rattle.pcache_evict.specs.Recency.{Recency}
use Rattle.pcache_put.specs.Puts.{Says as PutSays}
use Rattle.pcache_request.specs.Requests.{Request}
use Rattle.pcache_history.specs.declared.call.Act.{Act}
use Rattle.pcache_history.specs.declared.call.FilesAct.{FilesAct}
use Rattle.pcache_history.specs.Facts.{Says}
use Rattle.pcache_history.specs.Rules.{IsFilesRefusal}
use Rattle.pcache_world.specs.FilesCalls.{HasNoFiles, IsLoaded, save_reply}
use Rattle.pcache_history.proofs.LoadsLaw.{answers-files, late-load, loads-silent, loads-start}
use Rattle.pcache_world.proofs.Words.{◌≡◌, ℕ, ◌==◌, Bool, true, false, ◌&&◌, cond, if◌then◌else◌, Option, None, Some, IsSome, is_none, List, [], ◌∷◌, ◌++◌, reverse, Result, Ok, Err, IfErr, OnOk, ◌⊎◌, refl, ap, sym, subst, ◌∙◌, inl, inr, both_ways, reverse-append, nat_cmp, FinMap, get, ErrorType, IncompleteHttpBody, Io, NumbersExhausted, Superseded, OutOfMemory, WriteRemoved, Tracked, Limits, CacheEntryKey, Locks, Store, Call, Reply, Entry, Event, Deed, deeds_of, tracked, Facts, request_in, IsEarly, files_in, is_load, only_loads, Ongoing, request_of, events_of, IsLegal, started, WasAtStage, filled_of, pieces_of, IsCopy, IsFilesReply, Replies, AnswersFiles, HasCause, HasSaved, facts_in, PutsSound, TakenIn, AreOpen, IsSound, untold}
use Rattle.pcache_history.specs.declared.call.Act.TheVariants as C
use Rattle.pcache_history.specs.declared.call.FilesAct.TheVariants as F
use Rattle.pcache_history.specs.declared.call.Reply.TheVariants as R
use Rattle.pcache_world.proofs.PutSound.{stood-in}
use Rattle.pcache_world.proofs.SoundOf.{sound-of}
use Rattle.pcache_world.proofs.TurnOf.{kept-key}
use Rattle.pcache_world.proofs.Uniform.{facts-agree}

-- facts to which is added whether a load comes early
says-early : (age : ℕ) (es : List Event) (ds : List Deed) (r : ℕ) (x : Request) (f : Facts) (b : Bool) → Says age es ds r x f → Says age es ds r x (record f { early = b })
says-early age es ds r x f b d = record {
  next = d.next;
  found = d.found;
  there = d.there;
  complete = d.complete;
  number = d.number;
  given = d.given;
  told = d.told;
  untouched = d.untouched;
  size = d.size;
  asked = d.asked;
  wait = d.wait;
  too_old = d.too_old;
}

early-now : (a : FilesAct) (f : Facts) (h : List Entry) → f.early ≡ only_loads h → IsEarly (C.Files a) f h
early-now F.Save f h is = tt
early-now F.Load f h is = is

answered : (f : Facts) (a : FilesAct) (b : Bool) (q : Option Ongoing) (reply : Reply) → f.early ≡ b → AnswersFiles b a reply → Replies f (C.Files a) q reply []
answered f F.Save b q reply early is = answers-files f F.Save q reply is (λ same. let no : ◌≡◌ {A = FilesAct} F.Save F.Load = same in absurd (cc))
answered f F.Load true q reply early is = answers-files f F.Load q reply is (λ _. early)
answered f F.Load false q reply early is = late-load f q reply is early

module _ (limits : Limits) (start m : Tracked) (s : Store) (t : Locks) (all : FinMap nat_cmp Ongoing) (h : List Entry) (k : IsSound limits start m s t all h) (n : ℕ) (a : FilesAct) (reply told : Reply) (copy : IsCopy reply told) (answers : AnswersFiles (only_loads h) a reply) where
  abbrev entry : Entry
  entry = record { call = record { request = n; act = C.Files a }; reply = told; events = [] }

  abbrev facts : Facts
  facts = record (facts_in s t (request_in (get all n))) { early = only_loads h }

  files-legal : (start' : Tracked) → IsLegal t.age_timeout limits start' h → IsLegal t.age_timeout limits start' (entry ∷ h)
  files-legal start' l = (
    record {
      facts = facts;
      says = subst (λ q. Says t.age_timeout (events_of h) (deeds_of h) n (request_in q) facts) (k.requests n)
          (says-early t.age_timeout (events_of h) (deeds_of h) n (request_in (option_map untold (get all n))) (facts_in s t (request_in (get all n))) (only_loads h) (facts-agree limits start m s t all h k n None (get all n) refl));
      reply_made = reply;
      answers = answered facts a (only_loads h) (request_of n h) reply refl answers;
      copy = copy;
      due = (refl, refl);
      keeps = kept-key (request_of n h);
      given = tt;
    },
    l,
    refl,
    early-now a facts h refl,
  )

  stays : (r : ℕ) → request_of r h ≡ request_of r (entry ∷ h)
  stays r = elim (n == r) as (λ b. request_of r h ≡ (if b then request_of r h else request_of r h)) [ true ↦ refl | false ↦ refl ]

  files-sound : (start' m' : Tracked) → IsLegal t.age_timeout limits start' h → m' ≡ tracked start' (events_of h) → IsSound limits start' m' s t all (entry ∷ h)
  files-sound start' m' l is = sound-of limits start' m' s t all (entry ∷ h) (files-legal start' l) is k.state (λ r. k.requests r ∙ stays r) k.locks k.table k.holds

  -- a call that leaves what the manager holds
  pub kept-sound : IsSound limits start m s t all (entry ∷ h)
  kept-sound = files-sound start m k.legal k.tracks

  -- a load, before any other call: the history starts again from what the manager tracks
  pub loaded-sound : (m' : Tracked) → only_loads h ≡ true → IsSound limits m' m' s t all (entry ∷ h)
  loaded-sound m' early = files-sound m' m' (loads-start t.age_timeout limits start m' h k.legal early) (sym (ap (tracked m') (loads-silent t.age_timeout limits start h k.legal early)))

-- and the puts go on as they were
pub files-puts : (says : PutSays) (all : FinMap nat_cmp Ongoing) (h : List Entry) (n : ℕ) (a : FilesAct) (told : Reply) → PutsSound says all h → AreOpen h all → PutsSound says all (record { call = record { request = n; act = C.Files a }; reply = told; events = [] } ∷ h)
files-puts says all h n a told k are = record {
  follow = (
    record {
      stands = subst (λ p. WasAtStage says p (pieces_of n h) (filled_of n h)) (are n) (stood-in says (get all n) (pieces_of n h) (filled_of n h) (k.taken n));
      closes = tt;
      ignores = tt;
      begins = tt;
      ends = tt;
    },
    k.follow,
  );
  taken = λ r. elim (n == r) as (λ b. TakenIn says (get all r) (if b then pieces_of r h else pieces_of r h) (if b then filled_of r h else filled_of r h)) [ true ↦ k.taken r | false ↦ k.taken r ];
}

-- ---- for a history listed oldest first

files-act : (act : Act) (a : FilesAct) → files_in act ≡ Some a → act ≡ C.Files a
files-act (C.Files b) a is = let same : b ≡ a = cc in ap C.Files same
files-act act a is = absurd (cc)

abbrev noted : Call → Reply → List Event → Entry
noted call told events = record { call = call; reply = told; events = events }

-- the entry that is noted is of the call on files
entry-of : (call : Call) (a : FilesAct) (told : Reply) (events : List Event) → files_in call.act ≡ Some a → events ≡ [] → noted (record { request = call.request; act = C.Files a }) told [] ≡ noted call told events
entry-of call a told events is none = λ i. noted (record { request = call.request; act = sym (files-act call.act a is) i }) told (sym none i)

turned : (h h' : List Entry) (e : Entry) → h' ≡ h ++ e ∷ [] → reverse h' ≡ e ∷ reverse h
turned h h' e is = ap reverse is ∙ reverse-append h (e ∷ [])

-- a call that leaves what the manager holds
pub files-step : (limits : Limits) (start start' m : Tracked) (s : Store) (t : Locks) (all : FinMap nat_cmp Ongoing) (h h' : List Entry) (call : Call) (a : FilesAct) (reply told : Reply) (events : List Event) → IsSound limits start m s t all (reverse h) → IsCopy reply told → files_in call.act ≡ Some a
    → AnswersFiles (only_loads (reverse h)) a reply → events ≡ [] → start' ≡ start → h' ≡ h ++ record { call = call; reply = told; events = events } ∷ [] → IsSound limits start' m s t all (reverse h')
files-step limits start start' m s t all h h' call a reply told events k copy is answers none same grown =
    subst (IsSound limits start' m s t all) (sym (turned h h' (noted call told events) grown))
    (subst (λ (e : Entry). IsSound limits start' m s t all (e ∷ reverse h)) (entry-of call a told events is none)
    (subst (λ (first : Tracked). IsSound limits first m s t all (noted (record { request = call.request; act = C.Files a }) told [] ∷ reverse h)) (sym same)
    (kept-sound limits start m s t all (reverse h) k call.request a reply told copy answers)))

-- a load before any other call
pub loaded-step : (limits limits' : Limits) (start start' m m' : Tracked) (s : Store) (t : Locks) (all : FinMap nat_cmp Ongoing) (h h' : List Entry) (call : Call) (reply told : Reply) (events : List Event) → IsSound limits start m s t all (reverse h) → IsCopy reply told → files_in call.act ≡ Some F.Load
    → only_loads (reverse h) ≡ true → IsFilesReply F.Load reply → events ≡ [] → limits' ≡ limits → start' ≡ m' → h' ≡ h ++ record { call = call; reply = told; events = events } ∷ [] → IsSound limits' start' m' s t all (reverse h')
loaded-step limits limits' start start' m m' s t all h h' call reply told events k copy is early answers none same first grown =
    subst (IsSound limits' start' m' s t all) (sym (turned h h' (noted call told events) grown))
    (subst (λ (e : Entry). IsSound limits' start' m' s t all (e ∷ reverse h)) (entry-of call F.Load told events is none)
    (subst (λ (x : Tracked). IsSound limits' x m' s t all (noted (record { request = call.request; act = C.Files F.Load }) told [] ∷ reverse h)) (sym first)
    (subst (λ (l : Limits). IsSound l m' m' s t all (noted (record { request = call.request; act = C.Files F.Load }) told [] ∷ reverse h)) (sym same)
    (loaded-sound limits start m s t all (reverse h) k call.request F.Load reply told copy (subst (λ b. AnswersFiles b F.Load reply) (sym early) answers) m' early))))

pub files-puts-step : (says : PutSays) (all : FinMap nat_cmp Ongoing) (h h' : List Entry) (call : Call) (a : FilesAct) (told : Reply) (events : List Event) → PutsSound says all (reverse h) → AreOpen (reverse h) all → files_in call.act ≡ Some a → events ≡ []
    → h' ≡ h ++ record { call = call; reply = told; events = events } ∷ [] → PutsSound says all (reverse h')
files-puts-step says all h h' call a told events k are is none grown =
    subst (PutsSound says all) (sym (turned h h' (noted call told events) grown))
    (subst (λ (e : Entry). PutsSound says all (e ∷ reverse h)) (entry-of call a told events is none) (files-puts says all (reverse h) call.request a told k are))

-- Whether all calls were loads: what the manager tracked is recorded by the first other call.

some-late : {V : Type 0} (o : Option V) → IsSome o → is_none o ≡ false
some-late None some = absurd (both_ways false refl some)
some-late (Some v) some = refl

pub other-late : {V : Type 0} (o : Option V) (h h' : List Entry) (call : Call) (told : Reply) (events : List Event) → is_load call.act ≡ false → IsSome o → h' ≡ h ++ record { call = call; reply = told; events = events } ∷ [] → is_none o ≡ only_loads (reverse h')
other-late o h h' call told events other some grown = some-late o some ∙ sym (ap only_loads (turned h h' (noted call told events) grown) ∙ ap (λ b. b && only_loads (reverse h)) other)

pub load-late : {V : Type 0} (o : Option V) (h h' : List Entry) (call : Call) (told : Reply) (events : List Event) → is_load call.act ≡ true → is_none o ≡ only_loads (reverse h) → h' ≡ h ++ record { call = call; reply = told; events = events } ∷ [] → is_none o ≡ only_loads (reverse h')
load-late o h h' call told events load was grown = was ∙ sym (ap only_loads (turned h h' (noted call told events) grown) ∙ ap (λ b. b && only_loads (reverse h)) load)

pub is-load-of : (act : Act) → files_in act ≡ Some F.Load → is_load act ≡ true
is-load-of act is = ap is_load (files-act act F.Load is)

pub is-save-of : (act : Act) → files_in act ≡ Some F.Save → is_load act ≡ false
is-save-of act is = ap is_load (files-act act F.Save is)

-- What a load leaves: what was taken down is told of no manager.

pub load-sound : {V : Type 0} (f : V → List (CacheEntryKey × ℕ)) (o : Option V) (limits limits' : Limits) (m m' : Tracked) (s : Store) (t : Locks) (all : FinMap nat_cmp Ongoing) (h h' : List Entry) (call : Call) (reply told : Reply) (events : List Event)
    → IsSound limits (started (option_map f o) m) m s t all (reverse h) → is_none o ≡ only_loads (reverse h) → AnswersFiles (is_none o) F.Load reply → (is_none o ≡ false → m' ≡ m) → limits' ≡ limits → IsCopy reply told → files_in call.act ≡ Some F.Load → events ≡ []
    → h' ≡ h ++ record { call = call; reply = told; events = events } ∷ [] → IsSound limits' (started (option_map f o) m') m' s t all (reverse h')
load-sound f None limits limits' m m' s t all h h' call reply told events k was answers late same copy is none grown =
    loaded-step limits limits' m m' m m' s t all h h' call reply told events k copy is (sym was) answers none same refl grown
load-sound f (Some v) limits limits' m m' s t all h h' call reply told events k was answers late same copy is none grown =
    subst (λ (l : Limits). IsSound l (started (Some (f v)) m') m' s t all (reverse h')) (sym same)
    (subst (λ (x : Tracked). IsSound limits (started (Some (f v)) m) x s t all (reverse h')) (sym (late refl))
    (files-step limits (started (Some (f v)) m) (started (Some (f v)) m) m s t all h h' call F.Load reply told events k copy is (subst (λ b. AnswersFiles b F.Load reply) was answers) none refl grown))

pub load-start : {V : Type 0} (f : V → List (CacheEntryKey × ℕ)) (o : Option V) (loads : ℕ → Recency → Type 0) (put_in : Recency → Tracked → Tracked) (m m' : Tracked) (reply : Reply) → AnswersFiles (is_none o) F.Load reply → IsLoaded loads put_in m m' reply
    → IsLoaded loads put_in (started (option_map f o) m) (started (option_map f o) m') reply
load-start f None loads put_in m m' reply answers loaded = loaded
load-start f (Some v) loads put_in m m' reply answers loaded = subst (IsLoaded loads put_in (started (Some (f v)) m) (started (Some (f v)) m')) (sym answers) refl

-- a reply to such a call has no bytes, so its copy is equal
pub told-files : (b : Bool) (a : FilesAct) (reply told : Reply) → AnswersFiles b a reply → IsCopy reply told → told ≡ reply
told-files b a reply told answers (inl same) = same
told-files b F.Save reply told answers (inr (refused, given)) = absurd (subst (AnswersFiles b F.Save) given.1 answers)
told-files true F.Load reply told answers (inr (refused, given)) = absurd (subst (AnswersFiles true F.Load) given.1 answers)
told-files false F.Load reply told answers (inr (refused, given)) = let never : R.Data given.0 ≡ R.WrongCall = sym given.1 ∙ answers in absurd (cc)

-- so is what it leaves
pub load-leaves : {V : Type 0} (f : V → List (CacheEntryKey × ℕ)) (o : Option V) (loads : ℕ → Recency → Type 0) (put_in : Recency → Tracked → Tracked) (m m' first : Tracked) (reply told answered : Reply) → AnswersFiles (is_none o) F.Load reply → IsLoaded loads put_in m m' reply
    → IsCopy reply told → told ≡ answered → started (option_map f o) m ≡ first → IsLoaded loads put_in first (started (option_map f o) m') answered
load-leaves f o loads put_in m m' first reply told answered answers loaded copy same is =
    subst (λ (x : Tracked). IsLoaded loads put_in x (started (option_map f o) m') answered) is
    (subst (IsLoaded loads put_in (started (option_map f o) m) (started (option_map f o) m')) (sym (told-files (is_none o) F.Load reply told answers copy) ∙ same) (load-start f o loads put_in m m' reply answers loaded))

-- the reply to a load that has no files
pub unloaded-answers : (b : Bool) (reply : Reply) → reply ≡ cond b (R.Refused Io) R.WrongCall → AnswersFiles b F.Load reply
unloaded-answers true reply is = subst (AnswersFiles true F.Load) (sym is) tt
unloaded-answers false reply is = is

pub unloaded-nowhere : (b : Bool) (reply : Reply) → reply ≡ cond b (R.Refused Io) R.WrongCall → HasNoFiles (Some F.Load) reply
unloaded-nowhere true reply is = inl is
unloaded-nowhere false reply is = inr is

-- the reply to a call on files that failed for this reason
pub has-cause : (U F : Type 0) (e : ErrorType) → (e ≡ Io → U) → (e ≡ InternalError → F) → HasCause U F (R.Refused e)
has-cause U F OutOfMemory u f = tt
has-cause U F InternalError u f = f refl
has-cause U F InvalidHttpHeader u f = tt
has-cause U F ResponseTooLarge u f = tt
has-cause U F IncompleteHttpBody u f = tt
has-cause U F WriteRemoved u f = tt
has-cause U F NumbersExhausted u f = tt
has-cause U F Io u f = u refl
has-cause U F Superseded u f = tt

pub save-answers : (saved : Result (Unit {0}) ErrorType) (reply : Reply) → reply ≡ save_reply saved → IfErr saved (λ e. (e ≡ OutOfMemory) ⊎ (e ≡ InternalError) ⊎ (e ≡ Io)) → IsFilesReply F.Save reply
save-answers saved reply is kinds = subst (IsFilesReply F.Save) (sym is) (of saved kinds)
  where
    of : (saved : Result (Unit {0}) ErrorType) → IfErr saved (λ e. (e ≡ OutOfMemory) ⊎ (e ≡ InternalError) ⊎ (e ≡ Io)) → IsFilesReply F.Save (save_reply saved)
    of (Ok done) kinds = tt
    of (Err e) (inl memory) = subst IsFilesRefusal (sym memory) tt
    of (Err e) (inr (inl own)) = subst IsFilesRefusal (sym own) tt
    of (Err e) (inr (inr device)) = subst IsFilesRefusal (sym device) tt

pub save-saves : (A S : Type 0) → (A → S) → (saved : Result (Unit {0}) ErrorType) (reply : Reply) → reply ≡ save_reply saved → OnOk saved A → HasSaved S reply
save-saves A S so saved reply is done = subst (HasSaved S) (sym is) (of saved done)
  where
    of : (saved : Result (Unit {0}) ErrorType) → OnOk saved A → HasSaved S (save_reply saved)
    of (Ok it) done = so done
    of (Err e) done = tt

pub save-cause : (U : Type 0) (saved : Result (Unit {0}) ErrorType) (reply : Reply) → reply ≡ save_reply saved → (IsErrOf saved Io → U) → HasCause U (Unit {0}) reply
save-cause U saved reply is failed = subst (HasCause U (Unit {0})) (sym is) (of saved failed)
  where
    of : (saved : Result (Unit {0}) ErrorType) → (IsErrOf saved Io → U) → HasCause U (Unit {0}) (save_reply saved)
    of (Ok it) failed = tt
    of (Err e) failed = has-cause U (Unit {0}) e (λ is. failed (ap Err is)) (λ _. tt)
