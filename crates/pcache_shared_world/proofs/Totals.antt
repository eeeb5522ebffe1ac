-- The totals of evicted entries, as a history grows by one entry.
use Rattle.std.proofs.Common.{reverse, append_assoc}
use Rattle.std.proofs.lemmas.List.{reverse-append}
use Rattle.pcache_evict.specs.Tracked.{Evicted, Tracked}
use Rattle.pcache_history.specs.Events.{evicted_by, evicts, track, tracked}
use Rattle.pcache_history.specs.History.{events_of}
use Rattle.pcache_history.specs.Log.{Adds, Log, events_in}
use Rattle.pcache_history.specs.declared.call.Reply.{Reply}
use Rattle.pcache_history.specs.declared.entry.Event.{Event}
use Rattle.pcache_shared_world.specs.Receipts.{evicted_of}
use Rattle.pcache_shared_world.proofs.Words.{◌≡◌, ◌∙◌, List, [], ◌∷◌, ◌++◌, refl, sym, ap, Call, Entry, evicted_after}

-- what was tracked after the older events, and then after the newer ones
tracked-on : (m : Tracked) (xs ys : List Event) → tracked m (xs ++ ys) ≡ tracked (tracked m ys) xs
tracked-on m [] ys = refl
tracked-on m (x ∷ xs) ys = ap (track x) (tracked-on m xs ys)

-- the events of two lists of entries, newest first
events-on : (a b : List Entry) → events_of (a ++ b) ≡ events_of a ++ events_of b
events-on [] b = refl
events-on (e ∷ a) b = ap (λ es. reverse e.events ++ es) (events-on a b) ∙ sym (append_assoc (reverse e.events) (events_of a) (events_of b))

-- events that are listed oldest first, on top of others
totals-on : (m : Tracked) (v : Evicted) (xs es : List Event) → evicted_of m v (reverse xs ++ es) ≡ evicted_by (tracked m es) (evicted_of m v es) xs
totals-on m v [] es = refl
totals-on m v (x ∷ xs) es =
    ap (evicted_of m v) (ap (λ l. l ++ es) (reverse-append (x ∷ []) xs) ∙ append_assoc (reverse xs) (x ∷ []) es) ∙ totals-on m v xs (x ∷ es)

-- what is tracked when these entries were added
tracked-now : (opened old : Log) (all : List Entry) → old.history ≡ opened.history ++ all → old.start ≡ opened.start → tracked old.start (events_in old) ≡ tracked (tracked opened.start (events_in opened)) (events_of (reverse all))
tracked-now opened old all history start =
    (λ i. tracked (start i) (events_of (reverse (history i))))
    ∙ ap (λ l. tracked opened.start (events_of l)) (reverse-append opened.history all)
    ∙ ap (tracked opened.start) (events-on (reverse all) (reverse opened.history))
    ∙ tracked-on opened.start (events_of (reverse all)) (events_in opened)

pub totals-grow : (opened old new : Log) (all : List Entry) (call : Call) (reply : Reply) (ok : Adds old call reply new) (e : Entry) → e.events ≡ ok.events → old.history ≡ opened.history ++ all → old.start ≡ opened.start → old.evicted ≡ evicted_after opened all → new.evicted ≡ evicted_after opened (all ++ e ∷ [])
totals-grow opened old new all call reply ok e events history start before =
    let m = tracked opened.start (events_in opened) in
    ok.evicted
    ∙ (λ i. evicted_by (tracked-now opened old all history start i) (before i) (sym events i))
    ∙ sym (totals-on m opened.evicted e.events (events_of (reverse all)))
    ∙ sym (ap (λ l. evicted_of m opened.evicted (events_of l)) (reverse-append all (e ∷ [])))
