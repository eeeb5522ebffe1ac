use Rattle.pcache_store.proofs.OneResponse.{metas-are-theirs}
use Rattle.pcache_store.proofs.PastLaws.{bodies-are-last, bodies-get-newer, bodies-grow, finds-exactly, finishes-exactly, found-is-of-its-write, newest-stands, nothing-is-lost, purged-is-gone, reads-in-order}
use Rattle.pcache_store.proofs.PastStates.{state-of}
use Rattle.pcache_store.proofs.memory.MemCache.headline.Goals as goal

pub returns-clause-finds : goal.returns-clause-finds
returns-clause-finds c =
    let s = c.self.inside.bare in
    let past = c.self.inside.past.notes in
    rw (← c.self.view_is) (finds-exactly s past (state-of s past c.self.invariant))

pub returns-clause-finishes : goal.returns-clause-finishes
returns-clause-finishes c =
    let s = c.self.inside.bare in
    let past = c.self.inside.past.notes in
    rw (← c.self.view_is) (finishes-exactly s past (state-of s past c.self.invariant))

pub returns-clause-purged : goal.returns-clause-purged
returns-clause-purged c = rw (← c.self.view_is) (purged-is-gone c.self.inside.bare c.self.inside.past.notes c.self.invariant)

pub returns-clause-kept : goal.returns-clause-kept
returns-clause-kept c =
    let s = c.self.inside.bare in
    let past = c.self.inside.past.notes in
    rw (← c.self.view_is) (nothing-is-lost s past (state-of s past c.self.invariant))

pub returns-clause-bodies : goal.returns-clause-bodies
returns-clause-bodies c =
    let s = c.self.inside.bare in
    let past = c.self.inside.past.notes in
    rw (← c.self.view_is) (bodies-are-last s past (state-of s past c.self.invariant))

pub returns-clause-found : goal.returns-clause-found
returns-clause-found c =
    let s = c.self.inside.bare in
    let past = c.self.inside.past.notes in
    rw (← c.self.view_is) (found-is-of-its-write s past (state-of s past c.self.invariant))

pub returns-clause-reads : goal.returns-clause-reads
returns-clause-reads c =
    let s = c.self.inside.bare in
    let past = c.self.inside.past.notes in
    rw (← c.self.view_is) (reads-in-order s past (state-of s past c.self.invariant))

pub returns-clause-grows : goal.returns-clause-grows
returns-clause-grows c = rw (← c.self.view_is) (bodies-grow c.self.inside.bare c.self.inside.past.notes c.self.invariant)

pub returns-clause-metas : goal.returns-clause-metas
returns-clause-metas c = rw (← c.self.view_is) (metas-are-theirs c.self.inside.bare c.self.inside.past.notes c.self.invariant)

pub returns-clause-newest : goal.returns-clause-newest
returns-clause-newest c =
    let s = c.self.inside.bare in
    let past = c.self.inside.past.notes in
    rw (← c.self.view_is) (newest-stands s past (state-of s past c.self.invariant))

pub returns-clause-newer : goal.returns-clause-newer
returns-clause-newer c = rw (← c.self.view_is) (bodies-get-newer c.self.inside.bare c.self.inside.past.notes c.self.invariant)
