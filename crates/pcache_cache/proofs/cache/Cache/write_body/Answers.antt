use Rattle.pcache_cache.proofs.Words.{refl, rules}
use Rattle.pcache_cache.proofs.Own.{body_own}
use Rattle.pcache_cache.proofs.cache.Cache.write_body.Goals as goal

pub returns : goal.returns
returns g c =
    let r = c.args.request.now.cache in
    rw (← c.self.view_is) (record {
      takes = record {
        request = search rules;
        written = search rules;
        store = search rules;
        past = search rules;
        own = λ own. record {
          uses = own.uses;
          own = body_own c.self.inside.store.state c.write_body.new.store.state r.key r.write c.in-Some.writer.now.number c.write_body.new.self.number c.args.bytes c.args.eof c.write_body.result c.in-Some.ensures.value c.write_body.ensures.same c.write_body.ensures.ok c.write_body.ensures.err own.own;
        };
        same = search rules;
        kind = search rules;
        rest = refl;
      };
      fetch = search rules;
    })
