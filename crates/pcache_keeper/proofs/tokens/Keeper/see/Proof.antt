-- `see`: what was seen. Assumes `Logic`.
use types.Kit.{join}
use contract.Monad.{fact}
use Rattle.atomic_table.proofs.Walks.{leaves}
use types.Growing.{latest_shows}
use Rattle.pcache_keeper.specs.contracts.tokens.Keeper.see.{ended, clauses}
use Rattle.pcache_keeper.specs.contracts.tokens.Keeper.see.Key.{name as #self}
use Rattle.pcache_keeper.proofs.Words.{◌≡◌, ℕ, List, [], ◌∷◌, refl, a_type, dnil, named, Val, vptr, inst_fn, SProp, emp, ftrue, fsep, flft, ‵, raw, ◌⊛◌, ◌$◌, ◌∵◌, !, qed, by, move, keep, split, fsplit, fsplit3, fjoin, fjoin3, use0, use1, feq_i, no_more, and_then, returns, enter, alloc_all, pass_all, free_all, look_at, get, sets, agg, fact_i, tables, RattleType, owns, types_at, plain, mut_vals, mut_Tells, nothing, opens, closes, param, bounded, Stays, stay_ref, walk_of, Goes-ref, proved, token, Token, token_made, full_share, map, logs, top, had}
use Rattle.pcache_keeper.specs.contracts.tokens.Keeper as Keeper
use Rattle.pcache_keeper.specs.contracts.tokens.Seen as Seen
use Rattle.pcache_keeper.proofs.tokens.Keeper.see.Statement.{statement}
use Rattle.pcache_keeper.proofs.tokens.Keeper.see.Code as code

pub see_spec : {M : Type 1} → statement M
see_spec 𝓤 𝓛 𝓜 𝓡 wired E _ =
    let H = 𝓛.H in let 𝓣 = tables 𝓤 H 𝓜 𝓡 𝓡.env in let E' : RattleType = param 0 E in let En = ended E in
    let inst = bounded (a_type ∷ []) (E, tt) dnil in let fn = inst_fn inst code.function in let c = clauses E 𝓛 𝓜.mem 𝓡.returns in let cv = E'.coded in let Ps : RattleType = (Keeper.the_row E') in
    let hs : Stays En.signature.params En.kept = (stay_ref (0 ∷ []) tt (plain (λ _. Ps)), tt) in
    proved 𝓛 En hs c 𝓜 𝓡 (Goes-ref 𝓛 2 0 tt (plain (λ _. Ps)), tt) (#self inst) fn (code.unfolded 𝓤 H 𝓜 𝓡 wired (E, tt))
    (λ κs. (mut_vals, tt)) (λ κs. (mut_Tells (named 0) κs.0 Ps, tt)) (λ κs qs bounds a gh are.
    let b : ℕ = a.0.ref_ptr.0 in let o : ℕ = a.0.ref_ptr.1 in let h : Ps.Denot = a.0.now in
    let r : (Seen.the_row E').Denot = record { marker = record {}; name = h.name; log = h.log } in let A₁ : Type 0 = (r.name ≡ r.name) × (r.log ≡ r.log) in let A₂ : Type 0 = (h.name ≡ h.name) × (h.log ≡ h.log) in
    let gs = map cv.code h.log in
    let y : (walk_of 𝓛 En hs c).Ghost = ((κs, qs, bounds, a, (vptr b o ∷ [], tt)), gh) in let Post : Val → SProp 𝓤 = (walk_of 𝓛 En hs c).post y in
    qed 𝓛 ((‵ (fsep (flft κs.0 qs.0) (fsep (flft κs.1.0 qs.1.0) ftrue)) ⊛ ‵ (owns (types_at En.signature.params κs) a y.0.4)) ∷ raw ((c κs a).requires gh) ∷ []) ∵ keep ! (0 ∷ []) $ split ! $ fsplit ! $ move ! (2 ∷ []) $ fsplit ! $ fsplit3 ! $ keep ! (1 ∷ 2 ∷ 4 ∷ 5 ∷ []) $
    enter ! 𝓣.C 𝓣.Λ fn (vptr b o ∷ []) Post $ alloc_all ! (λ l. pass_all ! refl ((tt, tt), tt) $ opens ! tt Ps b o (λ ts. move ! (1 ∷ []) $ fsplit ! $ move ! (1 ∷ []) $
    use1 𝓛 (‵ (top cv.code h.name h.log) ⊛ ‵ (had cv.code h.name h.log)) (latest_shows logs 𝓛 full_share h.name gs gs (logs.same gs)) $ split ! $ move ! (2 ∷ 0 ∷ []) $ fjoin ! $ move ! (2 ∷ 0 ∷ 3 ∷ 4 ∷ 5 ∷ []) $
    closes ! tt Ps h ts b o $ feq_i ! (List Val) (vptr b o ∷ []) (vptr b o ∷ []) refl $ fjoin3 ! $ nothing ! $ move ! (1 ∷ 0 ∷ []) $ fjoin ! $ move ! (1 ∷ 3 ∷ []) $ fjoin ! $ move ! (2 ∷ []) $
    use0 𝓛 (‵ ((Token E').own_val (record {}, tt) (token ∷ []))) (token_made E' 𝓛) $ fjoin ! $ sets ! (agg ! (no_more !)) refl (tt, tt) $ sets ! (agg ! (and_then ! (get ! refl) (no_more !))) refl (tt, (tt, tt)) $
    use0 𝓛 (raw (fact 𝓤 A₂)) (fact_i 𝓤 A₂ (emp 𝓤) (refl, refl)) $ use0 𝓛 (raw (fact 𝓤 A₁)) (fact_i 𝓤 A₁ (emp 𝓤) (refl, refl)) $ join ! $
    returns ! (look_at ! 0 refl) $ free_all ! refl $ keep ! (2 ∷ 3 ∷ 1 ∷ 0 ∷ []) $ by ! (leaves 𝓛 En hs c y token r (h, tt) (tt, tt)))))
