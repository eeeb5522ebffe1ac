use Rattle.pcache_c.proofs.Words.{◌≡◌, None, Some, refl, sym, ap, ◌∙◌, ◌%◌, ◌^◌, slice_get-get_or}
use Rattle.pcache_c.proofs.Places.{found, not_found, on_some, others_stay, rounds_stay, same, this_set}
use Rattle.pcache_c.proofs.seats.Seats.find.Goals as goal

-- src/served.rt:55:13
pub returns-then-from-number : goal.returns-then-from-number
returns-then-from-number g c =
    let item = rw c.in-Some.is at c.get_mut.ensures.item in
    let seats = c.args.self.now.seats.items in
    let at = slice_get-get_or seats _ c.in-Some.seat.now item.3.0 ∙ ap Some (sym item.1) in (
      (refl, (λ w. tt), record { requests = same seats c.args.number c.in-Some.seat.now at; rounds = rounds_stay seats (c.args.number % 2 ^ 32) c.in-Some.seat.now c.in-Some.seat.now at refl }),
      record { writes_back = tt; value = not_found seats c.args.number c.in-Some.seat.now at (λ e. c.if-from-number.true (c.from.ensures ∙ e)) },
    )

-- src/served.rt:46:5
pub returns : goal.returns
returns g c =
    let item = rw c.in-Some.is at c.get_mut.ensures.item in
    let seats = c.args.self.now.seats.items in
    let seat = c.in-Some.seat.now in
    let at = slice_get-get_or seats _ seat item.3.0 ∙ ap Some (sym item.1) in
    let round = sym c.from.ensures ∙ c.if-from-number.false in (
      (refl, (λ w. on_some c.request_mut.result _ (record { this = this_set seats c.args.number seat w at round; others = others_stay seats c.args.number seat w at round; rounds = rounds_stay seats (c.args.number % 2 ^ 32) (record seat { request = Some w }) seat at refl })), record { requests = same seats c.args.number seat at; rounds = rounds_stay seats (c.args.number % 2 ^ 32) seat seat at refl }),
      record { writes_back = tt; value = c.request_mut.ensures.value ∙ found seats c.args.number seat at round },
    )
