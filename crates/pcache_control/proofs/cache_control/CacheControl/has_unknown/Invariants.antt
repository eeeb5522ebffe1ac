use Rattle.pcache_control.proofs.Words.{◌≡◌, false, lookup, DirectiveKey, same_key, is_known, name_of}
use Rattle.pcache_control.proofs.cache_control.CacheControl.has_unknown.Given as goal

abbrev pub invariant-names : goal.invariant-names
invariant-names l = (named : DirectiveKey) → is_known named ≡ false → name_of named ≡ l.name → lookup (same_key named) l.self.directives.entries ≡ lookup (same_key named) l.key-iterator
