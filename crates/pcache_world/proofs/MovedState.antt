-- Parts that change by events agree with the longer history.
use Rattle.std.proofs.lemmas.Bool.{not-true, not-false}
use Rattle.pcache_store.specs.Store.{Reader}
use Rattle.pcache_history.specs.Events.{track}
use Rattle.pcache_world.specs.Moved.{Act, Did, did, owing, RunsActs}
use Rattle.pcache_history.proofs.Runs.{turned}
use Rattle.pcache_history.proofs.Tidy.{tidy-look, tidy-ask, tidy-access, tidy-release, tidy-let_go, tidy-aged, tidy-untrack, tidy-read, tidy-purge, tidy-expire, tidy-renew, tidy-admit, tidy-begin, tidy-wrote, tidy-refused, tidy-dropped, tidy-finish}
use Rattle.pcache_world.proofs.Words.{◌≡◌, ℕ, ◌+◌, true, false, not, ◌&&◌, if◌then◌else◌, Option, None, Some, is_some, List, [], ◌∷◌, ◌++◌, refl, ap, sym, subst, ◌∙◌, arith, inl, reverse, FinMap, get, insert, remove, nat_cmp, share, Meta, numbered, CacheEntryKey, Tracked, Limits, PurgesAll, entry_purged, Store, Whole, Part, is_untouched, Event, Owed, makes, owes, MaySettle, IsNext, AreDue, begin_of, is_removed, has_ended, in_flight, tracked, Ongoing, pair_reader, Joins, Leaves, At, after_event, after_join, after_leave, IsNextAt, IsThereFor, evicted_from, MovesBy, reads_of, follows, readers, readers_in, IsState, IsTidy, same-number}
use Rattle.pcache_history.specs.declared.entry.Event.TheVariants as E
use Rattle.pcache_world.proofs.Counts.{readers-remove, readers-insert}
use Rattle.pcache_world.proofs.States.{state-same, state-look, state-ask, state-access, state-release, state-let_go, state-aged, state-untrack, state-read}
use Rattle.pcache_world.proofs.StateAnswers.{stands-is, finds-is, reads-is, size-is}
use Rattle.pcache_world.proofs.StateExpires.{state-expire, state-renew}
use Rattle.pcache_world.proofs.StatePurges.{state-purge, state-admit}
use Rattle.pcache_world.proofs.StateSlots.{state-begin, state-dropped, state-refused, state-finished}
use Rattle.pcache_world.proofs.StateWrites.{begun-flying, state-left_by, state-followed, part_of, read_in}
use Rattle.pcache_world.proofs.StateWrote.{state-wrote}

-- the write that a request makes is in flight
abbrev pub Flies : List Event → Option ℕ → Type 0
Flies es None = Unit {0}
Flies es (Some w) = in_flight w es ≡ true

flies-as : (es : List Event) (o : Option ℕ) (w : ℕ) → o ≡ Some w → Flies es o → in_flight w es ≡ true
flies-as es o w is f = subst (Flies es) is f

purges-all : (s : Store) (out : List CacheEntryKey) → PurgesAll true s out 0 (evicted_from s out)
purges-all s [] = (refl, refl)
purges-all s (e ∷ out) = inl (purges-all (entry_purged true s e) out)

-- what one event keeps, if others read too
pub record IsKept (start : Tracked) (es : List Event) (others : ℕ → ℕ) (a : At) : Type 0 where
  pub tidy : IsTidy es
  pub flies : Flies es a.write
  pub state : IsState es (λ w. others w + a.count w) a.store
  pub tracks : a.tracked ≡ tracked start es

-- what an event wants of the store and the write
abbrev Wants : At → Event → Type 0
Wants a (E.Begin w k m) = w ≡ a.store.next
Wants a (E.Wrote w bytes eof) = a.write ≡ Some w
Wants a (E.Finish w true) = (a.write ≡ Some w) × (is_untouched a.store w ≡ true)
Wants a (E.Finish w false) = a.write ≡ Some w
Wants a (E.Dropped w) = a.write ≡ Some w
Wants a _ = Unit {0}

module _ (limits : Limits) (start : Tracked) (es : List Event) (others : ℕ → ℕ) (a : At) (q : Option Ongoing) (k : IsKept start es others a) where
  wanted : (owed : Option Owed) (e : Event) → IsNextAt limits owed a q e → Wants a e
  wanted None (E.Begin w j m) due = due.0
  wanted None (E.Wrote w bytes eof) due = due
  wanted None (E.Finish w true) due = due
  wanted None (E.Finish w false) due = due.0
  wanted None (E.Dropped w) due = due
  wanted (Some n) (E.Begin w j m) due = absurd due
  wanted (Some n) (E.Wrote w bytes eof) due = absurd due
  wanted (Some n) (E.Finish w true) due = absurd due
  wanted (Some n) (E.Finish w false) due = absurd due
  wanted (Some n) (E.Dropped w) due = absurd due
  wanted owed (E.Look j x) due = tt
  wanted owed (E.Ask j l x) due = tt
  wanted owed (E.Access x c) due = tt
  wanted owed (E.Release l) due = tt
  wanted owed (E.LetGo l) due = tt
  wanted owed (E.Aged l) due = tt
  wanted owed (E.Admit x c out) due = tt
  wanted owed (E.Purge j) due = tt
  wanted owed (E.Expire j t) due = tt
  wanted owed (E.Renew j m) due = tt
  wanted owed (E.Untrack x) due = tt
  wanted owed (E.Read x) due = tt

  flight : (w : ℕ) → a.write ≡ Some w → in_flight w es ≡ true
  flight w is = flies-as es a.write w is k.flies

  -- it stands exactly if it is untouched
  stands-as : (w : ℕ) → a.write ≡ Some w → is_untouched a.store w ≡ not (is_removed w es)
  stands-as w is = stands-is es (λ w. others w + a.count w) a.store k.state w (flight w is)

  untouched : (w : ℕ) → a.write ≡ Some w → is_untouched a.store w ≡ true → is_removed w es ≡ false
  untouched w is up = not-true _ (sym (stands-as w is) ∙ up)

  -- an event that neither begins nor ends a write
  stay : (e : Event) (p : Option ℕ) → ((w : ℕ) → begin_of w (e ∷ es) ≡ begin_of w es) → ((w : ℕ) → has_ended w (e ∷ es) ≡ has_ended w es) → Flies es p → Flies (e ∷ es) p
  stay e None b d f = tt
  stay e (Some w) b d f = (λ i. is_some (b w i) && not (d w i)) ∙ f

  begun-flies : (j : ℕ) (m : Meta) → in_flight a.store.next (E.Begin a.store.next j m ∷ es) ≡ true
  begun-flies j m =
      let t = same-number a.store.next in
      let live : has_ended a.store.next es ≡ false = k.tidy.not_ended a.store.next (let e = k.state.next in omega arith) in
      (λ i. is_some (if t i then Some (j, numbered a.store.next m) else begin_of a.store.next es) && not (live i))

  abbrev n : ℕ → ℕ
  n w = others w + a.count w

  abbrev s : Store
  s = a.store

  abbrev o : Option ℕ
  o = a.write

  event-kept : (e : Event) → Wants a e → IsKept start (e ∷ es) others (after_event e a)
  event-kept (E.Look j x) due = record { tidy = tidy-look es j x k.tidy; flies = stay (E.Look j x) o (λ w. refl) (λ w. refl) k.flies; state = state-look es n s k.state j x; tracks = k.tracks }
  event-kept (E.Ask j l x) due = record { tidy = tidy-ask es j l x k.tidy; flies = stay (E.Ask j l x) o (λ w. refl) (λ w. refl) k.flies; state = state-ask es n s k.state j l x; tracks = k.tracks }
  event-kept (E.Access x c) due = record { tidy = tidy-access es x c k.tidy; flies = stay (E.Access x c) o (λ w. refl) (λ w. refl) k.flies; state = state-access es n s k.state x c; tracks = ap (track (E.Access x c)) k.tracks }
  event-kept (E.Begin w j m) due =
      subst (λ x. IsKept start (E.Begin x j m ∷ es) others (after_event (E.Begin x j m) a)) (sym due)
      (record { tidy = subst (λ x. IsTidy (E.Begin x j m ∷ es)) (sym k.state.next) (tidy-begin es j m k.tidy); flies = begun-flies j m; state = state-begin es n s j m k.tidy k.state; tracks = k.tracks })
  event-kept (E.Wrote w bytes eof) due =
      let fly = flight w due in
      record { tidy = tidy-wrote es w bytes eof fly k.tidy; flies = stay (E.Wrote w bytes eof) o (λ w. refl) (λ w. refl) k.flies; state = state-wrote es n s w bytes eof k.tidy fly k.state; tracks = k.tracks }
  event-kept (E.Finish w true) due =
      let fly = flight w due.0 in
      let kept = untouched w due.0 due.1 in
      let b = begun-flying w es fly in
      record { tidy = tidy-finish es w b.0.0 b.0.1 b.1 kept fly k.tidy; flies = tt; state = state-finished es n s w k.tidy fly kept k.state; tracks = k.tracks }
  event-kept (E.Finish w false) due =
      let fly = flight w due in
      record { tidy = tidy-refused es w fly k.tidy; flies = tt; state = state-refused es n s w fly k.state; tracks = k.tracks }
  event-kept (E.Dropped w) due =
      let fly = flight w due in
      record { tidy = tidy-dropped es w fly k.tidy; flies = tt; state = state-dropped es n s w fly k.state; tracks = k.tracks }
  event-kept (E.Release l) due = record { tidy = tidy-release es l k.tidy; flies = stay (E.Release l) o (λ w. refl) (λ w. refl) k.flies; state = state-release es n s k.state l; tracks = k.tracks }
  event-kept (E.LetGo l) due = record { tidy = tidy-let_go es l k.tidy; flies = stay (E.LetGo l) o (λ w. refl) (λ w. refl) k.flies; state = state-let_go es n s k.state l; tracks = k.tracks }
  event-kept (E.Aged l) due = record { tidy = tidy-aged es l k.tidy; flies = stay (E.Aged l) o (λ w. refl) (λ w. refl) k.flies; state = state-aged es n s k.state l; tracks = k.tracks }
  event-kept (E.Admit x c out) due =
      record { tidy = tidy-admit es x c out k.tidy; flies = stay (E.Admit x c out) o (λ w. refl) (λ w. refl) k.flies; state = state-admit es n s (evicted_from s out) x c out k.tidy (purges-all s out) k.state; tracks = ap (track (E.Admit x c out)) k.tracks }
  event-kept (E.Purge j) due = record { tidy = tidy-purge es j k.tidy; flies = stay (E.Purge j) o (λ w. refl) (λ w. refl) k.flies; state = state-purge es n s j k.tidy k.state; tracks = k.tracks }
  event-kept (E.Expire j t) due = record { tidy = tidy-expire es j t k.tidy; flies = stay (E.Expire j t) o (λ w. refl) (λ w. refl) k.flies; state = state-expire es n s j t k.tidy k.state; tracks = k.tracks }
  event-kept (E.Renew j m) due = record { tidy = tidy-renew es j m k.tidy; flies = stay (E.Renew j m) o (λ w. refl) (λ w. refl) k.flies; state = state-renew es n s j m k.tidy k.state; tracks = k.tracks }
  event-kept (E.Untrack x) due = record { tidy = tidy-untrack es x k.tidy; flies = stay (E.Untrack x) o (λ w. refl) (λ w. refl) k.flies; state = state-untrack es n s k.state x; tracks = ap (track (E.Untrack x)) k.tracks }
  event-kept (E.Read x) due = record { tidy = tidy-read es x k.tidy; flies = stay (E.Read x) o (λ w. refl) (λ w. refl) k.flies; state = state-read es n s k.state x; tracks = k.tracks }

  -- and it may come by what the history says
  may-come : (owed : Option Owed) (e : Event) → IsNextAt limits owed a q e → IsNext limits (tracked start es) es q a.write owed e
  may-come (Some c) e due = subst (λ m. MaySettle limits m q c e) k.tracks due
  may-come None (E.Look j x) due = finds-is es n s k.state j x due
  may-come None (E.Begin w j m) due = (due.0 ∙ k.state.next, due.1, due.2)
  may-come None (E.Wrote w bytes eof) due = due
  may-come None (E.Finish w true) due = (due.0, untouched w due.0 due.1)
  may-come None (E.Finish w false) due = (due.0, not-false _ (sym (stands-as w due.0) ∙ due.1))
  may-come None (E.Dropped w) due = due
  may-come None (E.Admit x c out) due = due
  may-come None (E.Untrack x) due = λ j names. sym (k.state.bodies j) ∙ due j names
  may-come None (E.Read x) due =
      let h = due.3 in
      (due.0, due.1, due.2 ∙ reads-is es n s k.state due.0 (λ w. let less = h w in omega arith))
  may-come None (E.Ask j l x) due = tt
  may-come None (E.Access x c) due = tt
  may-come None (E.Release l) due = tt
  may-come None (E.LetGo l) due = tt
  may-come None (E.Aged l) due = tt
  may-come None (E.Purge j) due = tt
  may-come None (E.Expire j t) due = tt
  may-come None (E.Renew j m) due = tt

  -- and the same is owed after it
  owes-same : (owed : Option Owed) (e : Event) → Wants a e → owing a.store e owed ≡ owes es e owed
  owes-same owed (E.Finish w true) due = ap (λ size. Some (record { write = w; weight = size })) (size-is es n s k.state w (flight w due.0))
  owes-same owed (E.Finish w false) due = refl
  owes-same owed e due = refl

-- readers that come
there-kept : (s : Store) (p : Option (Meta × Reader)) → IsThereFor s (pair_reader p) → (w : ℕ) → part_of p ≡ Some w → is_some (get s.writes w) ≡ true
there-kept s None there w is = cc
there-kept s (Some p) there w is = inner p.1 there is
  where
    inner : (r : Reader) → IsThereFor s (Some r) → read_in r ≡ Some w → is_some (get s.writes w) ≡ true
    inner (Whole id body start stop done) there is = cc
    inner (Part x place) there is = let same : x ≡ w = cc in subst (λ y. is_some (get s.writes y) ≡ true) same there

-- what a run of acts leaves, beside others who read too
pub record Done (limits : Limits) (start : Tracked) (es : List Event) (q : Option Ongoing) (events : List Event) (others : ℕ → ℕ) (a b : At) : Type 0 where
  pub kept : IsKept start (reverse events ++ es) others b
  pub due : AreDue limits start es q a.write a.owed events b.write

module _ (limits : Limits) (start : Tracked) (q : Option Ongoing) (others : ℕ → ℕ) (b : At) (none : b.owed ≡ None) where
  acts-kept : (acts : List Act) (es : List Event) (a : At) → IsKept start es others a → RunsActs limits q acts a b → Done limits start es q (did acts) others a b
  acts-kept [] es a k same = record {
    kept = record {
      tidy = k.tidy;
      flies = subst (Flies es) (sym same.write) k.flies;
      state = subst (λ (t : Store). IsState es (λ w. others w + b.count w) t) (sym same.store)
          (state-same es (λ w. others w + a.count w) (λ w. others w + b.count w) a.store (λ w. let e = same.count w in omega arith) k.state);
      tracks = same.tracked ∙ k.tracks;
    };
    due = (same.write, sym same.owed ∙ none);
  }
  acts-kept (Did e ∷ acts) es a k x =
      let want = wanted limits start es others a q k a.owed e x.0 in
      let rest = acts-kept acts (e ∷ es) (after_event e a) (event-kept limits start es others a q k e want) x.1 in
      record {
        kept = subst (λ xs. IsKept start xs others b) (sym (turned e (did acts) es)) rest.kept;
        due = (may-come limits start es others a q k a.owed e x.0, subst (λ owed. AreDue limits start (e ∷ es) q (makes e a.write) owed (did acts) b.write) (owes-same limits start es others a q k a.owed e want) rest.due);
      }
  acts-kept (Joins p ∷ acts) es a k x =
      let rest = acts-kept acts es (after_join p a) (record {
        tidy = k.tidy;
        flies = k.flies;
        state = state-followed es (λ w. others w + a.count w) (λ w. others w + (a.count w + follows w (pair_reader p))) a.store p (there-kept a.store p x.0) (λ w. let goal : others w + (a.count w + follows w (pair_reader p)) ≡ others w + a.count w + follows w (pair_reader p) = omega arith in goal) k.state;
        tracks = k.tracks;
      }) x.1 in
      record { kept = rest.kept; due = rest.due }
  acts-kept (Leaves r ∷ acts) es a k (m, count, x) =
      let rest = acts-kept acts es (after_leave m r a) (record {
        tidy = k.tidy;
        flies = k.flies;
        state = state-left_by es (λ w. others w + a.count w) (λ w. others w + m w) a.store r (λ w. let e = count w in let goal : others w + a.count w ≡ others w + m w + follows w r = omega arith in goal) k.state;
        tracks = k.tracks;
      }) x in
      record { kept = rest.kept; due = rest.due }

  pub moved-kept : (events es : List Event) (a : At) → IsKept start es others a → MovesBy limits q events a b → Done limits start es q events others a b
  moved-kept events es a k (acts, is, x) = subst (λ xs. Done limits start es q xs others a b) is (acts-kept acts es a k x)

-- Requests: the one that is named, and the others.

-- a request is set, or removed
abbrev pub set_to : FinMap nat_cmp Ongoing → ℕ → Option Ongoing → FinMap nat_cmp Ongoing
set_to all r None = remove all r
set_to all r (Some x) = insert all r x

reads-share : (q : Option Ongoing) (w : ℕ) → share (readers_in w) q ≡ reads_of q w
reads-share None w = refl
reads-share (Some x) w = refl

pub readers-split : (all : FinMap nat_cmp Ongoing) (r w : ℕ) → readers all w ≡ readers (remove all r) w + reads_of (get all r) w
readers-split all r w = sym (readers-remove all r w) ∙ ap (λ c. readers (remove all r) w + c) (reads-share (get all r) w)

pub readers-set : (all : FinMap nat_cmp Ongoing) (r : ℕ) (q : Option Ongoing) (w : ℕ) → readers (set_to all r q) w ≡ readers (remove all r) w + reads_of q w
readers-set all r None w = omega arith
readers-set all r (Some x) w =
    let a = readers-insert all r x w in
    let b = readers-remove all r w in
    omega arith
