use Rattle.httparse.specs.Spans.{IsHeaderWithin}
use Rattle.httparse.specs.declared.spans.HeaderSpan.{HeaderSpan}
use Rattle.pcache_response.proofs.Words.{◌<◌, ◌≤◌, length, map, take, All, get_or, ap, sym, ◌∙◌, subst, arith, length-take, length-map, All-push, All-get_or, err_from_is_err_and, header_bytes, IsPair, IsShort, append_pair, fields_after}
use Rattle.pcache_response.proofs.FieldLemmas.{mapped_more, All-map_at, fields_more, bounds}
use Rattle.pcache_response.proofs.head.fields_of.Goals as goal

empty : HeaderSpan
empty = record { name = record { start = 0; end = 0 }; value = record { start = 0; end = 0 } }

pub add_span-requires : goal.add_span-requires
unfolding empty
add_span-requires c =
    let i = c.spans.i in
    let spans = c.args.spans.now in
    let f = header_bytes c.args.bytes.now in
    let lt : i < length spans = c.spans-test.true in
    let size : length (map f (take i spans)) ≤ 256 = omega (arith, length-map (take i spans) f, length-take i spans, c.requires.few) in
    let room = bounds (map f (take i spans)) c.spans.fields c.spans.invariant.so_far size in
    record {
      within = All-get_or (IsHeaderWithin (length c.args.bytes.now)) spans i empty lt c.requires.within;
      pair = All-map_at IsPair f spans i empty lt c.requires.pairs;
      names = room.0;
      values = room.1;
    }

pub returns-in_err-add_span-clause-long : goal.returns-in_err-add_span-clause-long
unfolding empty
returns-in_err-add_span-clause-long c =
    let p = err_from_is_err_and c.from_residual-in_err-add_span.result c.from_residual-in_err-add_span.ensures.1 in
    rw (p.1, p.2) (λ e all. c.in_err-add_span.ensures.long e (All-map_at IsShort (header_bytes c.args.bytes.now) c.args.spans.now c.spans.i empty c.spans-test.true all))

pub spans-preserved : goal.spans-preserved
unfolding empty
spans-preserved c =
    let i = c.spans.i in
    let spans = c.args.spans.now in
    let f = header_bytes c.args.bytes.now in
    let more = mapped_more f spans i empty c.spans-test.true in
    record {
      so_far = c.in_ok-add_span.ensures.ok ∙ ap (λ m. append_pair m (f (get_or spans i empty))) c.spans.invariant.so_far ∙ sym (fields_more (map f (take i spans)) (f (get_or spans i empty))) ∙ ap fields_after (sym more);
      short = subst (All IsShort) (sym more) (All-push IsShort (map f (take i spans)) (f (get_or spans i empty)) c.spans.invariant.short c.in_ok-add_span.ensures.short);
    }
