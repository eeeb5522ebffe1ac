use Rattle.pcache_cache.proofs.Outdated.{begins_kept, begins_removed, is_kept, is_removed}
use Rattle.pcache_cache.proofs.Words.{inl, sym, ◌∙◌}
use Rattle.pcache_cache.specs.Fetching.{is_outdated}
use Rattle.pcache_cache.proofs.cache.Cache.set_miss_handler.Goals as goal

pub returns-in-Some-clause-takes : goal.returns-in-Some-clause-takes
returns-in-Some-clause-takes g c =
    let r = c.args.request.now in
    let p = c.args.self.now in
    let begun = c.begin_write-begun in
    let outdated = is_removed (is_outdated r.fetch r.cache.key p.purges) r.cache.key c.in-Some.key (sym c.in_ok-outdated.ensures.key ∙ c.in-Some.is) in
    inl (begins_removed r.fetch begun.result r.cache begun.new.request.cache p begun.new.self c.remove_write.new.self outdated begun.ensures.takes c.remove_write.ensures)

pub returns-in_default-clause-takes : goal.returns-in_default-clause-takes
returns-in_default-clause-takes g c =
    let r = c.args.request.now in
    let p = c.args.self.now in
    let begun = c.begin_write-begun in
    inl (begins_kept r.fetch begun.result r.cache begun.new.request.cache p begun.new.self (is_kept r.fetch r.cache.key p.purges (sym c.in_ok-outdated.ensures.key ∙ c.in_default.is)) begun.ensures.takes)
