use Rattle.std.proofs.Common.{append_assoc}
use Rattle.pcache_world.proofs.Words.{◌≡◌, ◌∙◌, ◌++◌, ◌∷◌, [], ap, sym, subst, refl, length, arith, length-append, vec_len, into_iter_items, AddsAll, HasLegal}
use Rattle.pcache_world.proofs.History.{adds-more}
use Rattle.pcache_world.proofs.world.world_type.World.run.Goals as goal

pub loop-call-init : goal.loop-call-init
loop-call-init g c =
    record {
      legal = subst HasLegal c.self.view_is c.self.invariant.0.legal;
      adds = subst (λ rs. AddsAll c.args.self.now [] rs c.args.self.now) (sym c.in_ok-replies.ensures.items) refl;
      count = c.in_ok-replies.ensures.len;
      all = sym c.into_iter-call-iterator.ensures.into_iter_gives.0;
      room = let whole : vec_len c.args.calls ≡ length c.args.calls.items = c.args.calls.ok.0 in omega (arith, c.in_ok-replies.ensures.exact, c.len.ensures, whole);
    }

pub loop-call-preserved : goal.loop-call-preserved
loop-call-preserved g c =
    let i = c.loop-call.invariant in
    record {
      legal = c.step.ensures.legal;
      adds = subst (λ rs. AddsAll c.args.self.now (c.loop-call.yielded ++ c.in-Some.call ∷ []) rs c.step.new.self) (sym c.push_reserved.ensures.items) (adds-more c.args.self.now c.loop-call.self c.step.new.self c.loop-call.yielded c.in-Some.call c.loop-call.replies.items c.in_ok-reply.reply i.adds c.in_ok-reply.ensures.ok);
      count = omega (arith, c.push_reserved.ensures.len, i.count, length-append c.loop-call.yielded (c.in-Some.call ∷ []));
      all = i.all ∙ ap (λ r. c.loop-call.yielded ++ r) c.in-Some.ensures.steps.0 ∙ sym (append_assoc c.loop-call.yielded (c.in-Some.call ∷ []) (into_iter_items c.next.new.self));
      room = omega (arith, c.push_reserved.ensures.capacity, i.room);
    }
