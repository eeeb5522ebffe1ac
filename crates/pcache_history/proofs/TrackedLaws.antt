-- In a legal history evictions are fair, and what stands is tracked exactly.
use Rattle.pcache_evict.specs.Tracked.{IsFair}
use Rattle.pcache_evict.proofs.Fair.{none-within}
use Rattle.pcache_history.specs.Headline.{EvictsFairly, TracksExactly}
use Rattle.pcache_history.proofs.Words.{ℕ, ◌+◌, Option, None, Some, List, [], ◌∷◌, ◌++◌, sym, subst, ◌∙◌, reverse, eqb-true, CacheEntryKey, Tracked, Limits, Event, Owed, makes_of, makes, owes, IsNext, AreDue, tracked, Ongoing, row, request_of, events_of}
use Rattle.std.specs.FinMap as map
use Rattle.pcache_history.specs.declared.entry.Event.TheVariants as E
use Rattle.pcache_history.proofs.Exact.{names_only, standing-names}
use Rattle.pcache_history.proofs.WriteLaws.{legal_kept}
use Rattle.pcache_history.proofs.Runs.{turned}

module _ (limits : Limits) (start : Tracked) (q : Option Ongoing) (o' : Option ℕ) (e : CacheEntryKey) (n : ℕ) (out : List CacheEntryKey) (rest : List Event) where
  -- only what is owed is admitted
  fair-next : (m : Tracked) (es : List Event) (o : Option ℕ) (owed : Option Owed) → IsNext limits m es q o owed (E.Admit e n out) → IsFair limits (map.insert m e n) out
  fair-next m es o None next = absurd next
  fair-next m es o (Some c) next = next.3

  fair-in : (earlier es : List Event) (o : Option ℕ) (owed : Option Owed) → AreDue limits start es q o owed (earlier ++ E.Admit e n out ∷ rest) o' → IsFair limits (map.insert (tracked start (reverse earlier ++ es)) e n) out
  fair-in [] es o owed due = fair-next (tracked start es) es o owed due.0
  fair-in (x ∷ earlier) es o owed due =
      subst (λ xs. IsFair limits (map.insert (tracked start xs) e n) out) (sym (turned x earlier es)) (fair-in earlier (x ∷ es) (makes x o) (owes es x owed) due.1)

pub evicts-fairly : EvictsFairly
evicts-fairly age limits start before entry earlier rest e n out l is =
    let q = request_of entry.call.request before in
    let now = makes_of (row entry.call.act entry.reply entry.events q) in
    let fair = fair-in limits start q now e n out rest earlier (events_of before) (makes_of q) None (subst (λ xs. AreDue limits start (events_of before) q (makes_of q) None xs now) is l.0.due) in
    (fair, none-within limits (map.insert (tracked start (reverse earlier ++ events_of before)) e n) out fair)

pub tracks-exactly : TracksExactly
tracks-exactly age limits start before k b l is =
    let x = (legal_kept age limits start before l).exact k b is in
    let own = standing-names (events_of before) k x.0 x.1 in
    (x.0, x.1, own, x.3, x.2, λ q other. eqb-true k q (sym (names_only k x.0 own q) ∙ other))
