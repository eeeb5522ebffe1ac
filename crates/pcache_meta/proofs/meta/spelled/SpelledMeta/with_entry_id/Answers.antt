use Rattle.pcache_meta.specs.Meta.{with_entry_id}
use Rattle.pcache_meta.proofs.Words.{◌≡◌, ◌++◌, length, refl, ap, sym, ◌∙◌, arith, shown, Meta}
use Rattle.pcache_meta.proofs.MetaKeeps.{kept_again, is_kept}
use Rattle.pcache_meta.proofs.meta.spelled.SpelledMeta.with_entry_id.Goals as goal

pub invariant_of-result : goal.invariant_of-result
invariant_of-result c =
    let m : Meta = record { internal = c.meta.inside.internal; header = shown c.meta.inside.header } in
    let whole : c.in-Ok.text ≡ c.in_ok-text.text.items ++ c.in_ok-header.header.items =
    c.in-Ok.ensures.ok ∙ c.in_ok-extend_from_slice.ensures.items ∙ rw (c.in_ok-reserve_exact.ensures.items, c.as_slice.ensures.value) refl in
    let at : c.len-split.result ≡ length c.in_ok-text.text.items = omega (arith, c.len-split.ensures, c.in_ok-text.text.ok.0) in
    let kept =
    is_kept c.in-Ok.text c.in_ok-text.text.items c.in_ok-header.header.items c.len-split.result (with_entry_id c.args.entry_id m) whole at (record {
      said = c.in_ok-text.ensures.written;
      head = c.in_ok-header.ensures.written;
      spelled = (c.in_ok-text.ensures.spelled, c.in_ok-header.ensures.spelled);
    }) in
    let again =
    kept_again c.in-Ok.text c.in_ok-text.text.items c.in_ok-header.header.items c.len-split.result (with_entry_id c.args.entry_id m) whole at
    (c.in_ok-text.ensures.spelled, c.in_ok-header.ensures.spelled) in
    (kept, sym (ap (λ (x : Meta). x.entry_id) again))

pub returns-in-Ok : goal.returns-in-Ok
returns-in-Ok c =
    let m : Meta = record { internal = c.meta.inside.internal; header = shown c.meta.inside.header } in
    let whole : c.in-Ok.text ≡ c.in_ok-text.text.items ++ c.in_ok-header.header.items =
    c.in-Ok.ensures.ok ∙ c.in_ok-extend_from_slice.ensures.items ∙ rw (c.in_ok-reserve_exact.ensures.items, c.as_slice.ensures.value) refl in
    let at : c.len-split.result ≡ length c.in_ok-text.text.items = omega (arith, c.len-split.ensures, c.in_ok-text.text.ok.0) in
    let ok =
    kept_again c.in-Ok.text c.in_ok-text.text.items c.in_ok-header.header.items c.len-split.result (with_entry_id c.args.entry_id m) whole at
    (c.in_ok-text.ensures.spelled, c.in_ok-header.ensures.spelled)
    ∙ ap (λ (x : Meta). with_entry_id c.args.entry_id x) c.meta.view_is in
    record { ok = ok }
