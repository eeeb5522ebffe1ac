-- `of` keeps the pointer, under another type, and lets the allocator go.
use denote.Steps.{nothing}
use Rattle.pcache_c.specs.contracts.handle.ObjectPtr.of.{ended, clauses}
use Rattle.pcache_c.specs.contracts.handle.ObjectPtr.of.Key.{name as #self}
use Rattle.pcache_c.proofs.Words.{◌≡◌, List, [], ◌∷◌, ◌++◌, refl, sym, subst, Some, Val, vptr, SProp, ent, emp, id⊢, WpFn, ‵, raw, ◌⊛◌, ◌$◌, ◌∵◌, !, qed, by, move, keep, drop, split, fsplit, fjoin, use0, use1, suffices, stop, fld, of_opd, no_more, and_then, returns, enter, alloc_all, pass_all, free_all, look_at, get, get_in, sets, agg, sub, whole, fact, fact_i, tables, no, RattleType, owns, block_ptr, types_at, plain, alive, Stays, stay_dropped, walk_of, Goes-blank, proved_at, leaves, ghosts, object_at}
use Rattle.std.specs.contracts.alloc.Global as heap
use Rattle.std.proofs.alloc.Global.TheLaws as heap_laws
use Rattle.pcache_c.specs.contracts.object.Object as object
use Rattle.pcache_c.proofs.ObjectSteps.{word, held_in}
use Rattle.pcache_c.proofs.LooseValues.{both, Loose, loose_good, loose_out}
use Rattle.pcache_c.proofs.handle.ObjectPtr.of.Statement.{statement}
use Rattle.pcache_c.proofs.handle.ObjectPtr.of.Code as code

pub of_spec : {M : Type 1} → statement M
of_spec 𝓤 𝓛 𝓜 𝓡 wired =
    let H = 𝓛.H in let 𝓣 = tables 𝓤 H 𝓜 𝓡 𝓡.env in let c = clauses 𝓛 𝓜.mem 𝓡.returns in
    let R : RattleType = object.the_row in let Z : RattleType = heap.the_row in let LZ = heap_laws.the_row_laws in
    let hs : Stays ended.signature.params ended.kept = (stay_dropped (plain (λ _. Loose R Z LZ ghosts)) no, tt) in
    proved_at 𝓛 ended hs c 𝓜 𝓡 (Goes-blank 𝓛 0 (plain (λ _. Loose R Z LZ ghosts)) no (λ κs x f. tt), tt) #self code.function (code.unfolded 𝓤 H 𝓜 𝓡 wired) (λ z are.
    let Post : Val → SProp 𝓤 = (walk_of 𝓛 ended hs c).post z in let Run : List Val → SProp 𝓤 = λ ws. WpFn 𝓤 H 𝓣.C 𝓣.Λ code.function ws Post in let v = z.0.3.0 in
    qed 𝓛 ((raw (alive 𝓛 ended.signature z.0.0 z.0.1) ⊛ ‵ (owns (types_at ended.signature.params z.0.0) z.0.3 z.0.4)) ∷ raw ((c z.0.0 z.0.3).requires z.1) ∷ []) ∵
    split ! $ move ! (1 ∷ []) $ fsplit ! $ loose_out R Z LZ ghosts ! v z.0.4.0 (λ b o h e ws fits.
    move ! (1 ∷ []) $ drop ! $ move ! (3 ∷ []) $ drop ! $
    let typed = loose_good R Z LZ ghosts b o h fits in
    suffices ! (Run (both (vptr b o) h ∷ [])) (subst (λ (us : List Val). ent 𝓤 (Run (both (vptr b o) h ∷ [])) (Run us)) (sym (λ i. ws i ++ [])) (id⊢ 𝓤 (Run (both (vptr b o) h ∷ [])))) $
    enter ! 𝓣.C 𝓣.Λ code.function (both (vptr b o) h ∷ []) Post $ alloc_all ! (λ l. pass_all ! refl (typed, tt) $
    sets ! (of_opd ! (get_in ! (fld ! refl (stop !)) (sub ! 0 refl (whole !)))) refl (tt, tt) $
    sets ! (of_opd ! (get ! refl)) refl (tt, tt) $
    sets ! (agg ! (and_then ! (get ! refl) (no_more !))) refl (tt, (tt, tt)) $
    use0 𝓛 (raw (fact 𝓤 (Some v.value ≡ Some v.value))) (fact_i 𝓤 (Some v.value ≡ Some v.value) (emp 𝓤) refl) $
    move ! (1 ∷ []) $ use1 𝓛 (‵ (object_at (block_ptr b o) (Some v.value))) (id⊢ 𝓤 _) $ held_in ! (block_ptr b o) (Some v.value) $ nothing ! $ nothing ! $ fjoin ! $
    returns ! (look_at ! 0 refl) $ free_all ! refl $ keep ! (4 ∷ 1 ∷ 2 ∷ 0 ∷ []) $ keep ! (0 ∷ 3 ∷ 1 ∷ 2 ∷ []) $ by ! (leaves 𝓛 ended hs c z (word (block_ptr b o)) (record { at = block_ptr b o; value = Some v.value }) (tt, tt) (tt, tt)))))
