use Rattle.std.proofs.lemmas.Result.{err_from_is_err_and}
use Rattle.pcache_cache.specs.Fetching.{is_old_variant}
use Rattle.pcache_shared_cache.specs.Calls.{LooksUpNoted}
use Rattle.pcache_shared_cache.proofs.Words.{◌≡◌, false, IsSome, Ok, Some, ap, refl, subst, sym, ◌∙◌, Request, found_for, if_complete, is_hidden, needs_no_store, Goes, Seated}
use Rattle.pcache_shared_cache.proofs.FoundAlone.{body_is, found_alone, found_is, goes_as, looks_then, read_not}
use Rattle.pcache_shared_cache.proofs.shared.SharedCache.cache_lookup.Goals as goal

pub returns-in_default-clause-goes : goal.returns-in_default-clause-goes
returns-in_default-clause-goes g c =
    looks_then (λ (x : Request). LooksUpNoted c.look_up.result c.args.now x c.look_up.new.request.cache c.look_up.new.request.fetch) c.args.self.now g.K.Mark.names c.args.request.now c.complete_body.new.request c.look_up.new.request.seen
    c.complete_body.ensures.rest c.complete_body.ensures.goes c.look_up.ensures.goes

pub returns-in_err-meta-clause-goes : goal.returns-in_err-meta-clause-goes
returns-in_err-meta-clause-goes g c =
    let r = c.args.request.now.cache in
    let mid = c.complete_body.new.request in
    let why = err_from_is_err_and c.from_residual.result c.from_residual.ensures.1 in
    subst (λ (x : Seated). Goes c.args.self.now g.K.Mark.names c.args.request.now.place c.args.request.now.seen mid.seen (LooksUpNoted c.from_residual.result c.args.now r x.cache x.fetch)) (sym c.complete_body.ensures.rest)
    (goes_as c.args.self.now g.K.Mark.names c.args.request.now.place c.args.request.now.seen mid.seen
    (λ p q found.
    let body = body_is (is_old_variant r.key p.store p.purges) (if_complete (found_for p.store r.key)) c.in-Some.found found.found in
    let is = found_is (found_for p.store r.key) c.in-Some.found body.1 in
    record { looks = read_not c.args.now r p q c.from_residual.result why.0 why.1 why.2 (subst IsSome (sym is.0) refl) body.0 found.same; noted = found.noted })
    c.in-Some.ensures.goes)

pub returns-then-hides-clause-goes : goal.returns-then-hides-clause-goes
returns-then-hides-clause-goes g c =
    looks_then (λ (x : Request). LooksUpNoted c.look_up-then-hides.result c.args.now x c.look_up-then-hides.new.request.cache c.look_up-then-hides.new.request.fetch) c.args.self.now g.K.Mark.names c.args.request.now c.complete_body.new.request c.look_up-then-hides.new.request.seen
    c.complete_body.ensures.rest c.complete_body.ensures.goes c.look_up-then-hides.ensures.goes

pub returns-clause-goes : goal.returns-clause-goes
returns-clause-goes g c =
    let r = c.args.request.now.cache in
    let mid = c.complete_body.new.request in
    let m = c.in_ok-meta.meta in
    let h = c.in_ok-meta.hit in
    let same = c.request.view_is ∙ c.complete_body.ensures.rest in
    let shown : is_hidden r.valid_after m.created ≡ false =
    sym (ap (λ (x : Seated). is_hidden x.cache.valid_after m.created) same) ∙ sym c.hides.ensures ∙ c.if-hides.false in
    subst (λ (x : Seated). Goes c.args.self.now g.K.Mark.names c.args.request.now.place c.args.request.now.seen mid.seen (LooksUpNoted (Ok (Some (m, h))) c.args.now r x.cache x.fetch)) (sym c.complete_body.ensures.rest)
    (goes_as c.args.self.now g.K.Mark.names c.args.request.now.place c.args.request.now.seen mid.seen
    (λ p q found.
    let body = body_is (is_old_variant r.key p.store p.purges) (if_complete (found_for p.store r.key)) c.in-Some.found found.found in
    let is = found_is (found_for p.store r.key) c.in-Some.found body.1 in
    record { looks = found_alone c.args.now r p m h (is.0 ∙ ap Some (sym c.in_ok-meta.ensures.read)) (ap (λ x. needs_no_store x.1) c.in_ok-meta.ensures.read ∙ is.1) shown body.0 q found.same; noted = found.noted })
    c.in-Some.ensures.goes)
