-- `into_loose` keeps the pointer, under its own type again, beside the allocator.
use mir.Raw.{raw as bare}
use denote.Steps.{nothing}
use Rattle.pcache_c.specs.contracts.handle.ObjectPtr.into_loose.{ended, clauses}
use Rattle.pcache_c.specs.contracts.handle.ObjectPtr.into_loose.Key.{name as #self}
use Rattle.pcache_c.proofs.Words.{◌≡◌, List, [], ◌∷◌, ◌++◌, refl, sym, ap, ◌∙◌, subst, Option, Some, IsTrue, is_some, impl, tnil, dnil, Val, vptr, SProp, ent, emp, never, id⊢, fst∗, WpFn, sem, ‵, raw, ◌⊛◌, ◌$◌, ◌∵◌, !, qed, by, move, drop, split, fsplit, fjoin, use0, rewrite, suffices, stop, fld, of_opd, no_more, and_then, returns, enter, alloc_all, pass_all, free_all, look_at, get, get_in, sets, agg, sub, whole, fact, fact_i, tables, yes, RattleType, owns, lone, Ptr, block_ptr, null_ptr, in_a_block, types_at, plain, heard, alive, Stays, stay_dropped, walk_of, Goes-dropped, Al, handle_tells, proved_at, leaves, box_owns, ghosts, Object, object_at}
use Rattle.std.specs.contracts.alloc.Global as heap
use Rattle.std.proofs.alloc.Global.TheLaws as heap_laws
use Rattle.pcache_c.specs.contracts.object.Object as object
use Rattle.pcache_c.proofs.ObjectSteps.{ObjectPtr, word, found, held_out}
use Rattle.pcache_c.proofs.LooseValues.{both, loose_good, loose_in}
use Rattle.pcache_c.proofs.handle.ObjectPtr.into_loose.Statement.{statement}
use Rattle.pcache_c.proofs.handle.ObjectPtr.into_loose.Code as code

pub into_loose_spec : {M : Type 1} → statement M
into_loose_spec 𝓤 𝓛 𝓜 𝓡 wired =
    let H = 𝓛.H in let 𝓣 = tables 𝓤 H 𝓜 𝓡 𝓡.env in let c = clauses 𝓛 𝓜.mem 𝓡.returns in
    let R : RattleType = object.the_row in let Z : RattleType = heap.the_row in let LZ = heap_laws.the_row_laws in
    let al : Al = record { row = Z; laws = LZ; g = ghosts; d = impl [] tnil dnil; drops = impl [] tnil dnil } in
    let hs : Stays ended.signature.params ended.kept = (stay_dropped (plain (λ _. ObjectPtr)) yes, (stay_dropped (plain (λ _. Z)) yes, tt)) in
    proved_at 𝓛 ended hs c 𝓜 𝓡 (Goes-dropped 𝓛 0 (plain (λ _. ObjectPtr)) yes (λ κs x f. refl), (Goes-dropped 𝓛 0 (plain (λ _. Z)) yes (λ κs x f. refl), tt)) #self code.function (code.unfolded 𝓤 H 𝓜 𝓡 wired) (λ z are.
    let Post : Val → SProp 𝓤 = (walk_of 𝓛 ended hs c).post z in let Run : List Val → SProp 𝓤 = λ ws. WpFn 𝓤 H 𝓣.C 𝓣.Λ code.function ws Post in
    let v = z.0.3.0 in let a = z.0.3.1.0 in
    qed 𝓛 ((raw (alive 𝓛 ended.signature z.0.0 z.0.1) ⊛ ‵ (owns (types_at ended.signature.params z.0.0) z.0.3 z.0.4)) ∷ raw (fact 𝓤 (IsTrue (is_some v.value))) ∷ []) ∵
    move ! (1 ∷ []) $ heard ! (IsTrue (is_some v.value)) (λ held. let it = found v.value held in
    split ! $ move ! (1 ∷ []) $ fsplit ! $ held_out ! v z.0.4.0 (λ ws.
    rewrite ! 0 (λ (w : Option Object). ‵ (object_at v.at w)) it.1 refl $
    in_a_block ! v.at (λ p. box_owns (ghosts.dealloc_token a) R p it.0) (fst∗ 𝓤 (never 𝓤) (sem 𝓛 (ghosts.dealloc_token a (bare (lone R.mir)) null_ptr))) (λ b o e.
    move ! (1 ∷ []) $ fsplit ! $ handle_tells al ! a z.0.4.1.0 (λ h eh fits.
    move ! (1 ∷ []) $ drop ! $
    let typed = loose_good R Z LZ ghosts b o h fits in
    let w : Val = word (block_ptr b o) in
    move ! (2 ∷ []) $ drop ! $ move ! (1 ∷ 0 ∷ []) $ loose_in R Z LZ ghosts ! b o h a it.0 $
    use0 𝓛 (raw (fact 𝓤 (Some it.0 ≡ v.value))) (fact_i 𝓤 (Some it.0 ≡ v.value) (emp 𝓤) (sym it.1)) $ nothing ! $ nothing ! $ fjoin ! $ nothing ! $ fjoin ! $
    suffices ! (Run (w ∷ h ∷ [])) (subst (λ (us : List Val). ent 𝓤 (Run (w ∷ h ∷ [])) (Run us)) (sym (λ i. (ws ∙ ap (λ (p : Ptr). word p ∷ []) e) i ++ (eh i ++ []))) (id⊢ 𝓤 (Run (w ∷ h ∷ [])))) $
    enter ! 𝓣.C 𝓣.Λ code.function (w ∷ h ∷ []) Post $ alloc_all ! (λ l. pass_all ! refl ((tt, (tt, tt)), (fits, tt)) $
    sets ! (of_opd ! (get_in ! (fld ! refl (stop !)) (sub ! 0 refl (whole !)))) refl (tt, tt) $
    sets ! (of_opd ! (get ! refl)) refl (tt, tt) $
    sets ! (agg ! (and_then ! (get ! refl) (and_then ! (get ! refl) (no_more !)))) refl typed $
    returns ! (look_at ! 0 refl) $ free_all ! refl $ nothing ! $ move ! (0 ∷ 1 ∷ 3 ∷ 2 ∷ []) $ by ! (leaves 𝓛 ended hs c z (both (vptr b o) h) (record { at = block_ptr b o; alloc = a; value = it.0 }) (tt, (tt, tt)) (tt, (tt, tt)))))))))
