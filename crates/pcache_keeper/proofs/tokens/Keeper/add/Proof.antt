-- `add`: one more note. Assumes `Logic`.
use mir.Syntax.{dcons}
use types.Growing.{latest_grows}
use Rattle.logbook.proofs.Roster.{prefix_in}
use Rattle.pcache_keeper.specs.contracts.tokens.Keeper.add.{ended, clauses}
use Rattle.pcache_keeper.specs.contracts.tokens.Keeper.add.Key.{name as #self}
use Rattle.pcache_keeper.proofs.Words.{ℕ, List, [], ◌∷◌, ◌++◌, refl, a_type, dnil, named, Val, vunit, vptr, inst_fn, SProp, emp, via, Fml, ftrue, fsep, flft, ‵, raw, ◌⊛◌, later, ◌$◌, ◌∵◌, !, qed, by, move, keep, split, fsplit, fsplit3, fjoin, fjoin3, use1, await, feq_i, unit_lit, of_opd, returns, enter, alloc_all, pass_all, free_all, look_at, sets, fact_i, tables, yes, RattleType, owns, types_at, plain, RefOf, mut_vals, mut_Tells, shr_vals, shr_Tells, nothing, opens, closes, param, bounded, Stays, stay_dropped, stay_ref, walk_of, Goes-dropped, Goes-ref, proved, ends, basic, map, logs, top}
use Rattle.pcache_keeper.specs.contracts.tokens.Keeper as Keeper
use Rattle.pcache_keeper.proofs.tokens.Keeper.add.Statement.{statement}
use Rattle.pcache_keeper.proofs.tokens.Keeper.add.Code as code

pub add_spec : {M : Type 1} → statement M
add_spec 𝓤 𝓛 𝓜 𝓡 wired E X _ _ g d _ =
    let H = 𝓛.H in let 𝓣 = tables 𝓤 H 𝓜 𝓡 𝓡.env in let E' : RattleType = param 0 E in let X' : RattleType = param 1 X in let En = ended E X g d in
    let inst = bounded (a_type ∷ a_type ∷ []) (E, (X, tt)) (dcons d dnil) in let fn = inst_fn inst code.function in let c = clauses E X g d 𝓛 𝓜.mem 𝓡.returns in let cv = E'.coded in let Ps : RattleType = (Keeper.the_row E') in
    let hs : Stays En.signature.params En.kept = (stay_ref (0 ∷ []) tt (plain (λ _. Ps)), (stay_dropped (RefOf (1 ∷ []) tt (plain (λ _. X')) (λ _. tt)) yes, tt)) in
    proved 𝓛 En hs c 𝓜 𝓡 (Goes-ref 𝓛 4 0 tt (plain (λ _. Ps)), (Goes-dropped 𝓛 4 (RefOf (1 ∷ []) tt (plain (λ _. X')) (λ _. tt)) yes (λ κs x f. refl), tt)) (#self inst) fn (code.unfolded 𝓤 H 𝓜 𝓡 wired (E, (X, tt)) d)
    (λ κs. (mut_vals, (shr_vals, tt))) (λ κs. (mut_Tells (named 0) κs.0 Ps, (shr_Tells (named 1) κs.1.0 X', tt))) (λ κs qs bounds a gh are.
    let b : ℕ = a.0.ref_ptr.0 in let o : ℕ = a.0.ref_ptr.1 in let h : Ps.Denot = a.0.now in let n : E'.Denot = g.note a.1.0.now in
    let h' : Ps.Denot = record { marker = h.marker; name = h.name; log = h.log ++ n ∷ [] } in
    let q : Val = vptr a.1.0.ref_ptr.0 a.1.0.ref_ptr.1 in
    let y : (walk_of 𝓛 En hs c).Ghost = ((κs, qs, bounds, a, (vptr b o ∷ [], (q ∷ [], tt))), gh) in let Post : Val → SProp 𝓤 = (walk_of 𝓛 En hs c).post y in
    let toks : Fml = fsep (flft κs.0 qs.0) (fsep (flft κs.1.0 qs.1.0) (fsep (flft κs.1.1.0 qs.1.1.0) (fsep (flft κs.1.1.1.0 qs.1.1.1.0) ftrue))) in
    qed 𝓛 ((‵ toks ⊛ ‵ (owns (types_at En.signature.params κs) a y.0.4)) ∷ raw ((c κs a).requires gh) ∷ []) ∵ keep ! (0 ∷ []) $ split ! $ fsplit ! $ move ! (2 ∷ []) $ fsplit ! $ fsplit3 ! $ keep ! (1 ∷ 2 ∷ 4 ∷ 5 ∷ []) $
    enter ! 𝓣.C 𝓣.Λ fn (vptr b o ∷ q ∷ []) Post $ alloc_all ! (λ l. pass_all ! refl ((tt, tt), ((tt, tt), tt)) $ opens ! tt Ps b o (λ ts. move ! (1 ∷ []) $ fsplit ! $ move ! (1 ∷ []) $
    use1 𝓛 (later (‵ (top cv.code h.name (h.log ++ n ∷ [])))) (via 𝓤 _ (latest_grows logs 𝓛 h.name (map cv.code h.log) (map cv.code (h.log ++ n ∷ [])) (prefix_in cv h.log (n ∷ []))) (basic 𝓛 _)) $ await ! tt $ move ! (1 ∷ 0 ∷ []) $ fjoin ! $ move ! (1 ∷ 0 ∷ 2 ∷ 3 ∷ 4 ∷ []) $
    closes ! tt Ps h' ts b o $ sets ! (of_opd ! (unit_lit !)) refl (tt, tt) $ feq_i ! (List Val) (vunit ∷ []) (vunit ∷ []) refl $
    move ! (3 ∷ 4 ∷ []) $ fjoin ! $ nothing ! $ nothing ! $ fjoin ! $ feq_i ! (List Val) (vptr b o ∷ []) (vptr b o ∷ []) refl $ move ! (0 ∷ 4 ∷ 5 ∷ []) $ fjoin3 ! $ fjoin ! $
    returns ! (look_at ! 0 refl) $ free_all ! refl $ keep ! (1 ∷ 0 ∷ 2 ∷ []) $ by ! (ends 𝓛 En hs c y (vunit) (tt) (h', (tt, tt)) (tt, (tt, tt)) (fact_i 𝓤 _ (emp 𝓤) (refl, refl))))))
