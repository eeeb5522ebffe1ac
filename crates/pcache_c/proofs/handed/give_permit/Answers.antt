use Rattle.pcache_c.proofs.Words.{refl, rules, sym, IsSet, request_at, Open}
use Rattle.pcache_c.proofs.Lent.{was_found, when_found}
use Rattle.pcache_c.proofs.handed.give_permit.Goals as goal

pub returns : goal.returns
returns c =
    let o : Open = c.in-Some.giver.now in
    let p : Open = record o { request = record o.request { cache = c.take_write_lock-permit.new.self; fetch = c.take.new.self } } in
    record {
      before = o;
      after = p;
      was = was_found c.find.result c.in-Some.giver c.in-Some.is (request_at c.args.seats.now c.args.from) c.find.ensures.value;
      set = when_found c.find.result c.in-Some.giver c.in-Some.is (IsSet c.args.from p c.args.seats.now (c.find.follows.lender p)) (c.find.follows.holds p);
      gives = record { had = sym c.take_write_lock-permit.ensures.permit; fetch_is = search rules; request = c.take_write_lock-permit.ensures.request; gone = search rules; rest = (refl, refl, refl) };
    }
