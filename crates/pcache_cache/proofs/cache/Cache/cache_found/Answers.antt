use Rattle.pcache_store.specs.Notes.{leave_noted, noted}
use Rattle.pcache_request.specs.StorePasts.{taken_past}
use Rattle.pcache_cache.proofs.Adding.{left_one_keeps, taken_keeps}
use Rattle.pcache_cache.proofs.Naming.{names_either, names_kept}
use Rattle.pcache_store.specs.Readers.{reader_of}
use Rattle.pcache_cache.proofs.Words.{subst, sym, Some, rules, IsKept, found_deeds}
use Rattle.pcache_cache.proofs.Kept.{kept_found, slots_taken}
use Rattle.pcache_cache.proofs.Modes.{mode_taken}
use Rattle.pcache_cache.proofs.Adding.{found_keeps}
use Rattle.pcache_cache.proofs.Unlocking.{if_done, none_kept}
use Rattle.pcache_cache.proofs.Only.{only_slots}
use Rattle.pcache_cache.proofs.cache.Cache.cache_found.Goals as goal

pub invariant_of-self : goal.invariant_of-self
invariant_of-self g c =
    let limits = g.M.EvictionManager.limits c.self.inside.manager in
    let tracked = g.M.EvictionManager.tracked c.self.inside.manager in (
      subst (λ l. IsKept c.self.inside.weighing l (g.M.EvictionManager.tracked c.cache_found_tracked.new.eviction) c.cache_found_tracked.new.storage.state) (sym c.cache_found_tracked.ensures.limits)
          (kept_found c.self.inside.weighing limits tracked (g.M.EvictionManager.tracked c.cache_found_tracked.new.eviction) c.self.inside.store.state c.cache_found_tracked.new.storage.state (slots_taken c.self.inside.store.state c.cache_found_tracked.new.storage.state c.args.status (reader_of c.args.hit) c.args.request.now.cache c.cache_found_tracked.result c.cache_found_tracked.ensures.takes.store c.cache_found_tracked.ensures.takes.left_store) (mode_taken c.self.inside.store.state c.cache_found_tracked.new.storage.state c.args.status (reader_of c.args.hit) c.args.request.now.cache c.cache_found_tracked.result c.cache_found_tracked.ensures.takes.store c.cache_found_tracked.ensures.takes.left_store) c.cache_found_tracked.ensures.tracked c.self.invariant.0),
      if_done c.cache_found_tracked.result (found_deeds c.args.status c.args.now c.self.inside.lock.table c.args.request.now.cache) (Some c.self.inside.lock.past) (Some c.cache_found_tracked.new.lock.past) (found_keeps none_kept c.args.status c.args.now c.self.inside.lock.table c.args.request.now.cache) c.cache_found_tracked.ensures.takes.deeds c.cache_found_tracked.ensures.takes.same_deeds c.self.invariant.1,
      names_either c.cache_found_tracked.result (taken_past c.args.status (reader_of c.args.hit) c.args.request.now.cache) (noted (leave_noted (reader_of c.args.hit))) (Some c.self.inside.store.past) (Some c.cache_found_tracked.new.storage.past) (taken_keeps names_kept c.args.status (reader_of c.args.hit) c.args.request.now.cache) (λ x is. left_one_keeps names_kept (reader_of c.args.hit) x is) c.cache_found_tracked.ensures.takes.past c.cache_found_tracked.ensures.takes.left_past c.self.invariant.2,
    )

pub returns : goal.returns
returns g c =
    let tracked = g.M.EvictionManager.tracked in
    let inside = c.self.inside in
    let call = c.cache_found_tracked in
    let e = call.ensures in
    rw (← c.self.view_is) (record {
      takes = record {
        takes = e.takes;
        something = e.something;
        only = λ of its only. only_slots of inside.weighing (tracked inside.manager) (tracked call.new.eviction) inside.store.state call.new.storage.state (slots_taken inside.store.state call.new.storage.state c.args.status (reader_of c.args.hit) c.args.request.now.cache call.result e.takes.store e.takes.left_store) e.tracked only;
        rest = search rules;
      };
      fetch = search rules;
    })
