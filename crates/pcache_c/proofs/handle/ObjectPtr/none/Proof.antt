-- `none` writes a null pointer, which owns nothing.
use Rattle.std.proofs.Common.{lit<}
use types.Run.{lit}
use denote.Steps.{nothing}
use Rattle.pcache_c.specs.contracts.handle.ObjectPtr.none.{ended, clauses}
use Rattle.pcache_c.specs.contracts.handle.ObjectPtr.none.Key.{name as #self}
use Rattle.pcache_c.proofs.Words.{◌≡◌, [], ◌∷◌, refl, None, Val, SProp, ‵, raw, ◌⊛◌, ◌$◌, ◌∵◌, !, qed, by, move, drop, split, use0, no_more, and_then, returns, enter, alloc_all, pass_all, free_all, look_at, sets, agg, emp, fact, fact_i, tables, owns, null_ptr, types_at, alive, walk_of, proved_at, leaves}
use Rattle.pcache_c.proofs.ObjectSteps.{word, held_in}
use Rattle.pcache_c.proofs.handle.ObjectPtr.none.Statement.{statement}
use Rattle.pcache_c.proofs.handle.ObjectPtr.none.Code as code

pub none_spec : {M : Type 1} → statement M
none_spec 𝓤 𝓛 𝓜 𝓡 wired =
    let H = 𝓛.H in let 𝓣 = tables 𝓤 H 𝓜 𝓡 𝓡.env in let c = clauses 𝓛 𝓜.mem 𝓡.returns in
    proved_at 𝓛 ended tt c 𝓜 𝓡 tt #self code.function (code.unfolded 𝓤 H 𝓜 𝓡 wired) (λ z are.
    let Post : Val → SProp 𝓤 = (walk_of 𝓛 ended tt c).post z in
    qed 𝓛 ((raw (alive 𝓛 ended.signature z.0.0 z.0.1) ⊛ ‵ (owns (types_at ended.signature.params z.0.0) z.0.3 z.0.4)) ∷ raw ((c z.0.0 z.0.3).requires z.1) ∷ []) ∵
    split ! $ move ! (2 ∷ []) $ drop ! $
    enter ! 𝓣.C 𝓣.Λ code.function [] Post $ alloc_all ! (λ l. pass_all ! refl tt $
    sets ! (agg ! (and_then ! (lit ! tt) (no_more !))) refl (tt, (record { fits = lit< tt }, tt)) $
    use0 𝓛 (raw (fact 𝓤 (None ≡ None))) (fact_i 𝓤 (None ≡ None) (emp 𝓤) refl) $ nothing ! $ held_in ! null_ptr None $
    returns ! (look_at ! 0 refl) $ free_all ! refl $ move ! (2 ∷ 3 ∷ 0 ∷ 1 ∷ []) $ by ! (leaves 𝓛 ended tt c z (word null_ptr) (record { at = null_ptr; value = None }) tt tt)))
