-- The result of a look-up and of a read in a legal history is what the events before it say.
use Rattle.pcache_store.specs.Store.{Reader}
use Rattle.pcache_history.specs.Due.{reader_for}
use Rattle.pcache_history.specs.Headline.{LooksAreTrue, ReadsAreTrue}
use Rattle.pcache_history.proofs.Words.{◌≡◌, ℕ, Option, None, Some, List, [], ◌∷◌, ◌++◌, refl, subst, Tracked, Limits, Entry, makes_of, AreDue, Ongoing, row, request_of, events_of, IsLegal}

pub looks_are_true : LooksAreTrue
looks_are_true age limits start before entry k answer rest l is =
    let q = request_of entry.call.request before in
    (subst (λ xs. AreDue limits start (events_of before) q (makes_of q) None xs (makes_of (row entry.call.act entry.reply entry.events q))) is l.0.due).0

-- a reader that is told is that of an open request
reader-is : (q : Option Ongoing) (rd : Reader) → reader_for q ≡ Some rd → (x : Ongoing) × (q ≡ Some x) × (x.request.reader ≡ Some rd)
reader-is None rd is = absurd (cc)
reader-is (Some x) rd is = (x, refl, is)

pub reads_are_true : ReadsAreTrue
reads_are_true age limits start before entry answer rest l is =
    let q = request_of entry.call.request before in
    let told = (subst (λ xs. AreDue limits start (events_of before) q (makes_of q) None xs (makes_of (row entry.call.act entry.reply entry.events q))) is l.0.due).0 in
    let x = reader-is q told.0 told.1 in
    (x.0, told.0, x.1, x.2, told.2)

-- what a legal history begins with is legal
pub legal-part : (age : ℕ) (limits : Limits) (start : Tracked) (later : List Entry) (entry : Entry) (before : List Entry) → IsLegal age limits start (later ++ entry ∷ before) → IsLegal age limits start (entry ∷ before)
legal-part age limits start [] entry before l = l
legal-part age limits start (e ∷ later) entry before l = legal-part age limits start later entry before l.1
