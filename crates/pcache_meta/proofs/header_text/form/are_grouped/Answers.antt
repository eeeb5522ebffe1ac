use Rattle.std.proofs.Common.{Bor}
use Rattle.pcache_meta.specs.HeaderForm.{lines_at}
use Rattle.pcache_meta.proofs.Words.{◌∙◌, ◌-◌, ℕ, List, ap, sym, refl, arith, map, take}
use Rattle.pcache_meta.proofs.HeaderForm.{first_line, no_lines, grouped_with, with_none, group_on, group_full, group_again, group_met, group_new, group_end, names_missed, taken_more}
use Rattle.pcache_meta.proofs.Refusals.{Fails-none}
use Rattle.pcache_meta.proofs.header_text.form.are_grouped.Goals as goal
use Rattle.pcache_meta.proofs.header_text.form.are_grouped.Goals.{then-room-eq0-via-then-room-eq0, then-room-eq0-via-else-room-eq0+then-is_among, then-count-eq-AT_ONCE+else-has_any, else-count-eq-AT_ONCE}

pub lines-init : goal.lines-init
lines-init c = record { few = omega arith; grouped = with_none 24576 (lines_at c.args.bytes.now) }

pub lines-smaller-then-starts_with_name : goal.lines-smaller-then-starts_with_name
lines-smaller-then-starts_with_name c = (first_line c.lines.rest.now c.in-Ok.name.now c.in-Ok.behind.now c.in-Ok.ensures).shorter

pub lines-preserved-then-starts_with_name : goal.lines-preserved-then-starts_with_name
lines-preserved-then-starts_with_name c =
    let first = first_line c.lines.rest.now c.in-Ok.name.now c.in-Ok.behind.now c.in-Ok.ensures in
    record {
      few = c.lines.invariant.few;
      grouped = c.lines.invariant.grouped ∙ group_on (map (λ n. n.now) (take c.lines.count c.lines.passed)) c.lines.room c.lines.rest.now c.in-Ok.name.now c.in-Ok.behind.now first (sym c.if-starts_with_name.ensures);
    }

pub returns-then-room-eq0 : goal.returns-then-room-eq0
returns-then-room-eq0 c =
    let first = first_line c.lines.rest.now c.in-Ok.name.now c.in-Ok.behind.now c.in-Ok.ensures in
    elim c.then-room-eq0.branch [
      | then-room-eq0-via-then-room-eq0 w ↦
          sym (c.lines.invariant.grouped ∙ group_full (map (λ n. n.now) (take c.lines.count c.lines.passed)) c.lines.room c.lines.rest.now c.in-Ok.name.now c.in-Ok.behind.now first
          (sym c.if-starts_with_name.ensures) (rw w.if-room-eq0.true refl))
      | then-room-eq0-via-else-room-eq0+then-is_among w ↦
          sym (c.lines.invariant.grouped ∙ group_again (map (λ n. n.now) (take c.lines.count c.lines.passed)) c.lines.room c.lines.rest.now c.in-Ok.name.now c.in-Ok.behind.now first
          (sym w.if-is_among.ensures))
    ]

pub returns-then-has_any : goal.returns-then-has_any
returns-then-has_any c =
    let first = first_line c.lines.rest.now c.in-Ok.name.now c.in-Ok.behind.now c.in-Ok.ensures in
    sym (c.lines.invariant.grouped ∙ group_met (map (λ n. n.now) (take c.lines.count c.lines.passed)) c.lines.room c.lines.rest.now c.in-Ok.name.now c.in-Ok.behind.now first
    (sym c.if-is_among.ensures) (sym c.if-has_any.ensures))

pub lines-smaller : goal.lines-smaller
lines-smaller c = (first_line c.lines.rest.now c.in-Ok.name.now c.in-Ok.behind.now c.in-Ok.ensures).shorter

pub lines-preserved : goal.lines-preserved
lines-preserved c =
    let first = first_line c.lines.rest.now c.in-Ok.name.now c.in-Ok.behind.now c.in-Ok.ensures in
    let step = c.lines.invariant.grouped ∙ group_new (map (λ n. n.now) (take c.lines.count c.lines.passed)) c.lines.room c.lines.rest.now c.in-Ok.name.now c.in-Ok.behind.now first
    (sym c.if-starts_with_name.ensures) (Prim.grind (arith, c.if-room-eq0.false)) (sym c.if-is_among.ensures) in
    let long = c.if-room-eq0.array_long in
    elim c.if-count-eq-AT_ONCE.branch [
      | then-count-eq-AT_ONCE+else-has_any w ↦ rw w.count-is (record {
        few = omega arith;
        grouped = step ∙ names_missed (map (λ n. n.now) (take c.lines.count c.lines.passed)) c.in-Ok.name.now (c.lines.room - 1) (lines_at c.in-Ok.behind.now) (sym w.if-has_any.ensures)
            ∙ ap (λ ns. grouped_with ns (c.lines.room - 1) (lines_at c.in-Ok.behind.now)) (sym (taken_more (λ (n : Bor (List ℕ)). n.now) c.lines.passed 0 c.in-Ok.name (omega (arith, long))));
      })
      | else-count-eq-AT_ONCE w ↦ rw w.count-is (record {
        few = omega (arith, c.lines.invariant.few, w.if-count-eq-AT_ONCE.false);
        grouped = step ∙ ap (λ ns. grouped_with ns (c.lines.room - 1) (lines_at c.in-Ok.behind.now))
            (sym (taken_more (λ (n : Bor (List ℕ)). n.now) c.lines.passed c.lines.count c.in-Ok.name (omega (arith, long, c.lines.invariant.few, w.if-count-eq-AT_ONCE.false))));
      })
    ]

pub returns : goal.returns
returns c =
    sym (c.lines.invariant.grouped ∙ group_end (map (λ n. n.now) (take c.lines.count c.lines.passed)) c.lines.room c.lines.rest.now (no_lines c.lines.rest.now (Fails-none c.in_default.field-0 _ c.in_default.ensures)))
