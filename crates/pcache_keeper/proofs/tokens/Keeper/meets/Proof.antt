-- `meets`: what was seen is a beginning of what happened. Assumes `Logic`.
use Rattle.pcache_keeper.specs.contracts.tokens.Keeper.meets.{ended, clauses}
use Rattle.pcache_keeper.specs.contracts.tokens.Keeper.meets.Key.{name as #self}
use Rattle.pcache_keeper.proofs.Words.{◌≡◌, ℕ, List, [], ◌∷◌, refl, a_type, dnil, named, Val, vunit, vptr, inst_fn, SProp, emp, Fml, ftrue, fsep, flft, fhide, ‵, raw, ◌⊛◌, given, ◌$◌, ◌∵◌, !, qed, by, move, keep, drop, split, fsplit, fsplit3, fjoin, fjoin3, learn, use1, use2, feq_i, unit_lit, of_opd, returns, enter, alloc_all, pass_all, free_all, look_at, sets, fact_i, tables, yes, RattleType, owns, types_at, plain, RefOf, mut_vals, mut_Tells, shr_vals, shr_Tells, hidden_shr, unhide, nothing, opens, closes, param, bounded, lent_out, Stays, stay_dropped, stay_ref, walk_of, Goes-dropped, Goes-ref, proved, Token, ends, top, had, IsPrefix}
use Rattle.pcache_keeper.proofs.Meets.{known}
use Rattle.pcache_keeper.proofs.tokens.Keeper.meets.Statement.{statement}
use Rattle.pcache_keeper.specs.contracts.tokens.Keeper as Keeper
use Rattle.pcache_keeper.specs.contracts.tokens.Seen as Seen
use Rattle.pcache_keeper.proofs.tokens.Keeper.meets.Code as code
use Rattle.std.specs.contracts.marker.PhantomData as marker

pub meets_spec : {M : Type 1} → statement M
meets_spec 𝓤 𝓛 𝓜 𝓡 wired E _ =
    let H = 𝓛.H in let 𝓣 = tables 𝓤 H 𝓜 𝓡 𝓡.env in let E' : RattleType = param 0 E in let En = ended E in
    let inst = bounded (a_type ∷ []) (E, tt) dnil in let fn = inst_fn inst code.function in let c = clauses E 𝓛 𝓜.mem 𝓡.returns in let cv = E'.coded in let Ps : RattleType = (Keeper.the_row E') in
    let hs : Stays En.signature.params En.kept = (stay_ref (0 ∷ []) tt (plain (λ _. Ps)), (stay_dropped (RefOf (1 ∷ []) tt (plain (λ _. (Seen.the_row E'))) (λ _. tt)) yes, tt)) in
    proved 𝓛 En hs c 𝓜 𝓡 (Goes-ref 𝓛 3 0 tt (plain (λ _. Ps)), (Goes-dropped 𝓛 3 (RefOf (1 ∷ []) tt (plain (λ _. (Seen.the_row E'))) (λ _. tt)) yes (λ κs x f. refl), tt)) (#self inst) fn (code.unfolded 𝓤 H 𝓜 𝓡 wired (E, tt))
    (λ κs. (mut_vals, (shr_vals, tt))) (λ κs. (mut_Tells (named 0) κs.0 Ps, (shr_Tells (named 1) κs.1.0 (Seen.the_row E'), tt))) (λ κs qs bounds a gh are.
    let b : ℕ = a.0.ref_ptr.0 in let o : ℕ = a.0.ref_ptr.1 in let h : Ps.Denot = a.0.now in let s : (Seen.the_row E').Denot = a.1.0.now in
    let q : Val = vptr a.1.0.ref_ptr.0 a.1.0.ref_ptr.1 in
    let y : (walk_of 𝓛 En hs c).Ghost = ((κs, qs, bounds, a, (vptr b o ∷ [], (q ∷ [], tt))), gh) in let Post : Val → SProp 𝓤 = (walk_of 𝓛 En hs c).post y in
    let toks : Fml = fsep (flft κs.0 qs.0) (fsep (flft κs.1.0 qs.1.0) (fsep (flft κs.1.1.0 qs.1.1.0) ftrue)) in
    qed 𝓛 ((‵ toks ⊛ ‵ (owns (types_at En.signature.params κs) a y.0.4)) ∷ raw ((c κs a).requires gh) ∷ []) ∵ keep ! (0 ∷ []) $ split ! $
    fsplit ! $ move ! (1 ∷ []) $ fsplit ! $ move ! (3 ∷ []) $ fsplit ! $ fsplit3 ! $ move ! (3 ∷ []) $ fsplit ! $ fsplit ! $ keep ! (1 ∷ 4 ∷ 5 ∷ 6 ∷ 7 ∷ 8 ∷ []) $
    enter ! 𝓣.C 𝓣.Λ fn (vptr b o ∷ q ∷ []) Post $ alloc_all ! (λ l. pass_all ! refl ((tt, tt), ((tt, tt), tt)) $
    use1 𝓛 (‵ (hidden_shr (Token E') κs.1.0 (record {}, tt) a.1.0.ref_ptr.0 a.1.0.ref_ptr.1) ⊛ ‵ (fhide (had cv.code s.name s.log))) (lent_out 𝓛 (Seen.struct E') (Seen.the_codes E'.Denot E'.coded (marker.the_row E').coded) (Seen.the_heap E') (Seen.the_lent E') κs.1.0 s a.1.0.ref_ptr.0 a.1.0.ref_ptr.1) $ split ! $ drop ! $ unhide ! $ move ! (1 ∷ 2 ∷ 5 ∷ []) $ opens ! tt Ps b o (λ ts. move ! (1 ∷ []) $ fsplit ! $
    move ! (1 ∷ 6 ∷ []) $ use2 𝓛 (given (s.name ≡ h.name → IsPrefix s.log h.log) (‵ (top cv.code h.name h.log) ⊛ ‵ (had cv.code s.name s.log))) (known 𝓛 cv h.name s.name h.log s.log) $ learn ! (λ p. split ! $ move ! (2 ∷ 0 ∷ []) $ fjoin ! $ move ! (2 ∷ 0 ∷ 3 ∷ 4 ∷ 5 ∷ []) $
    closes ! tt Ps h ts b o $ sets ! (of_opd ! (unit_lit !)) refl (tt, tt) $ feq_i ! (List Val) (vunit ∷ []) (vunit ∷ []) refl $ move ! (4 ∷ []) $ drop ! $ move ! (4 ∷ 5 ∷ []) $ fjoin ! $ move ! (4 ∷ 0 ∷ []) $ fjoin ! $ nothing ! $ nothing ! $ fjoin ! $ feq_i ! (List Val) (vptr b o ∷ []) (vptr b o ∷ []) refl $ move ! (0 ∷ 4 ∷ 5 ∷ []) $ fjoin3 ! $ fjoin ! $
    returns ! (look_at ! 0 refl) $ free_all ! refl $ keep ! (1 ∷ 0 ∷ 2 ∷ []) $ by ! (ends 𝓛 En hs c y (vunit) (tt) (h, (tt, tt)) (tt, (tt, tt)) (fact_i 𝓤 _ (emp 𝓤) (refl, refl, p)))))))
