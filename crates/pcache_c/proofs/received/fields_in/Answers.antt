use Rattle.std.proofs.Common.{get_or}
use Rattle.std.proofs.lemmas.List.Elements.{All-push, All-get_or}
use Rattle.httparse.specs.Spans.{IsHeaderWithin}
use Rattle.httparse.specs.declared.spans.HeaderSpan.{HeaderSpan}
use Rattle.pcache_response.specs.Fields.{append_pair}
use Rattle.pcache_response.proofs.FieldLemmas.{mapped_more, All-map_at, fields_more}
use Rattle.pcache_c.proofs.Words.{rules, ◌≡◌, length, map, take, All, ap, sym, ◌∙◌, subst, header_bytes, IsPair, IsShort, fields_after}
use Rattle.pcache_c.proofs.received.fields_in.Goals as goal

empty : HeaderSpan
empty = record { name = record { start = 0; end = 0 }; value = record { start = 0; end = 0 } }

pub add_span-code-requires : goal.add_span-code-requires
unfolding empty
add_span-code-requires c = All-get_or (IsHeaderWithin (length c.args.bytes.now)) c.args.spans.now c.spans.i empty c.spans-test.true c.requires.within

pub returns-then-code-ne-OK-clause-long : goal.returns-then-code-ne-OK-clause-long
unfolding empty
returns-then-code-ne-OK-clause-long c = λ bad all.
    let f = header_bytes c.args.bytes.now in
    c.add_span-code.ensures.long (All-map_at IsPair f c.args.spans.now c.spans.i empty c.spans-test.true c.requires.pairs) bad
    (All-map_at IsShort f c.args.spans.now c.spans.i empty c.spans-test.true all)

pub spans-preserved : goal.spans-preserved
unfolding empty
spans-preserved c =
    let i = c.spans.i in
    let spans = c.args.spans.now in
    let f = header_bytes c.args.bytes.now in
    let more = mapped_more f spans i empty c.spans-test.true in
    let good : c.add_span-code.result ≡ 0 = search rules in
    record {
      so_far = c.add_span-code.ensures.done good ∙ ap (λ m. append_pair m (f (get_or spans i empty))) c.spans.invariant.so_far ∙ sym (fields_more (map f (take i spans)) (f (get_or spans i empty))) ∙ ap fields_after (sym more);
      short = subst (All IsShort) (sym more) (All-push IsShort (map f (take i spans)) (f (get_or spans i empty)) c.spans.invariant.short (c.add_span-code.ensures.short good));
    }
