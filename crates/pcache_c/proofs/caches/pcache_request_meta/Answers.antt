use Rattle.pcache_c.specs.Requests.{IsUnchanged, meta_shown}
use Rattle.pcache_c.proofs.Words.{sym, Err, Ok, suc-ne-zero, CopiesMeta, Does, OnNumber, CopyOf}
use Rattle.pcache_c.proofs.Changed.{changed}
use Rattle.pcache_c.proofs.Copies.{copy_filled, copy_refused}
use Rattle.pcache_c.proofs.Left.{fill_left}
use Rattle.pcache_c.proofs.Numbered.{numbered_then}
use Rattle.pcache_c.proofs.caches.pcache_request_meta.Goals as goal

pub returns-in-Ok-clause-copies : goal.returns-in-Ok-clause-copies
returns-in-Ok-clause-copies c =
    let copies : Does = λ x d o p. IsUnchanged x d o p × CopyOf (meta_shown o) (Ok c.in-Ok.copy) in
    let does : Does = λ x d o p. IsUnchanged x d o p × CopiesMeta (meta_shown o) c.args.meta.now c.fill.new.self c.fill.result in
    changed (λ o. o.value) c.take.result c.in-Some.object _ _ c.fill.result (λ a b. OnNumber c.args.request a b c.fill.result does) _ _ c.take.ensures.taken c.in-Some.is c.deref_mut.ensures.value c.put.ensures
    (numbered_then c.args.request c.deref_mut.result.now c.meta_of-copied.new.object 0 c.fill.result copies does (λ a b o p h. (h.0, copy_filled (meta_shown o) c.in-Ok.copy _ _ _ h.1 c.fill.ensures)) (λ e. absurd (suc-ne-zero 1 (sym e))) (λ e. absurd (suc-ne-zero 2 (sym e))) c.in-Ok.ensures)

pub returns-in-Err-clause-copies : goal.returns-in-Err-clause-copies
returns-in-Err-clause-copies c =
    let copies : Does = λ x d o p. IsUnchanged x d o p × CopyOf (meta_shown o) (Err c.in-Err.code) in
    let does : Does = λ x d o p. IsUnchanged x d o p × CopiesMeta (meta_shown o) c.args.meta.now c.args.meta.now c.in-Err.code in
    changed (λ o. o.value) c.take.result c.in-Some.object _ _ c.in-Err.code (λ a b. OnNumber c.args.request a b c.in-Err.code does) _ _ c.take.ensures.taken c.in-Some.is c.deref_mut.ensures.value c.put.ensures
    (numbered_then c.args.request c.deref_mut.result.now c.meta_of-copied.new.object c.in-Err.code c.in-Err.code copies does (λ a b o p h. (h.0, copy_refused (meta_shown o) c.args.meta.now c.in-Err.code h.1)) (λ e. e) (λ e. e) c.in-Err.ensures)

pub returns-in-Ok-clause-left : goal.returns-in-Ok-clause-left
returns-in-Ok-clause-left c = fill_left _ c.args.meta.now c.fill.new.self _ c.fill.ensures
