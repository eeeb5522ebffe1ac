use Rattle.pcache_c.proofs.Words.{refl, IsSet, request_at, Open}
use Rattle.pcache_c.proofs.Lent.{was_found, when_found}
use Rattle.pcache_c.proofs.handed.take_permit.Goals as goal

pub returns : goal.returns
returns c =
    let q : Open = c.in-Some.taker.now in
    let r : Open = record q { request = c.set_write_lock-gone.new.request } in
    let seats = c.args.served.now.seats in
    record {
      before = q;
      after = r;
      was = was_found c.find.result c.in-Some.taker c.in-Some.is (request_at seats c.args.to) c.find.ensures.value;
      set = when_found c.find.result c.in-Some.taker c.in-Some.is (IsSet c.args.to r seats (c.find.follows.lender r)) (c.find.follows.holds r);
      counts = refl;
      gets = record { let_go = c.set_write_lock-gone.result; takes = c.set_write_lock-gone.ensures.takes; fetch_is = c.set_write_lock-gone.ensures.fetch; rest = (refl, refl, refl) };
    }
