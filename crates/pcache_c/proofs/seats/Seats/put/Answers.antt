use Rattle.pcache_c.proofs.Words.{◌≡◌, None, Some, refl, sym, ap, ◌∙◌, none-some, slice_get-get_or}
use Rattle.pcache_c.proofs.Places.{free_is, put_others, put_this, rounds_stay}
use Rattle.pcache_c.proofs.seats.Seats.put.Goals as goal

-- src/seats.rt:117:30
pub unreachable-requires-in-Some-replace : goal.unreachable-requires-in-Some-replace
unreachable-requires-in-Some-replace g c =
    let item = rw c.in-Some.is at c.get_mut.ensures.item in
    let seats = c.args.self.now.seats.items in
    let at = slice_get-get_or seats _ c.in-Some.seat.now item.3.0 ∙ ap Some (sym item.1) in
    let free = free_is seats c.args.place c.in-Some.seat.now at c.requires in
    none-some c.in-Some-replace._before (sym free ∙ (sym c.replace.ensures.value ∙ c.in-Some-replace.is))

-- src/seats.rt:106:5
pub returns-clause-set : goal.returns-clause-set
returns-clause-set g c =
    let item = rw c.in-Some.is at c.get_mut.ensures.item in
    let seats = c.args.self.now.seats.items in
    let seat = c.in-Some.seat.now in
    let at = slice_get-get_or seats _ seat item.3.0 ∙ ap Some (sym item.1) in
    let number = c.number_of-number in
    record {
      this = rw c.replace.ensures.after (put_this seats c.args.place seat at number.result c.args.request number.ensures.place (sym number.ensures.round));
      others = λ m ne. rw c.replace.ensures.after (put_others seats c.args.place seat at number.result c.args.request number.ensures.place (sym number.ensures.round) m ne);
      rounds = rw c.replace.ensures.after (rounds_stay seats c.args.place (record seat { request = Some c.args.request }) seat at refl);
    }
