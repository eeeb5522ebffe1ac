use Rattle.pcache_control.proofs.Words.{◌∙◌}
use Rattle.pcache_control.proofs.Found.{same_unknown, passes, has_hit, has_none}
use Rattle.pcache_control.proofs.cache_control.CacheControl.has_unknown.Goals as goal

pub names-preserved : goal.names-preserved
names-preserved c named unknown is =
    passes named c.args.self.now.directives.entries c.names.key-iterator c.next.new.self _ c.in-Some.ensures.steps
    (same_unknown named c.in-Some.key.now c.args.name.now _ unknown is c.is_unknown.ensures ∙ c.if-is_unknown.false)
    (c.names.invariant named unknown is)

pub returns-then-is_unknown : goal.returns-then-is_unknown
returns-then-is_unknown c named unknown is =
    has_hit c.args.self.now named c.names.key-iterator c.next.new.self _ c.in-Some.ensures.steps
    (same_unknown named c.in-Some.key.now c.args.name.now _ unknown is c.is_unknown.ensures ∙ c.if-is_unknown.true)
    (c.names.invariant named unknown is)

pub returns : goal.returns
returns c named unknown is = has_none c.args.self.now named c.names.key-iterator c.in-None.ensures.steps.0 (c.names.invariant named unknown is)
