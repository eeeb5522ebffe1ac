use Rattle.pcache_meta.specs.HeaderForm.{lines_at}
use Rattle.pcache_meta.proofs.Words.{◌≡◌, length, map, has_any}
use Rattle.pcache_meta.proofs.header_text.form.has_any.Given as goal

abbrev pub invariant-lines : goal.invariant-lines
invariant-lines l = has_any (map (λ n. n.now) l.names) (lines_at l.bytes) ≡ has_any (map (λ n. n.now) l.names) (lines_at l.rest)

abbrev pub decreases-lines : goal.decreases-lines
decreases-lines l = length l.rest
