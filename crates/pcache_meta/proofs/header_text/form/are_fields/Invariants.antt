use Rattle.pcache_meta.specs.HeaderForm.{are_fields}
use Rattle.pcache_meta.proofs.Words.{◌≡◌, length}
use Rattle.pcache_meta.proofs.header_text.form.are_fields.Given as goal

abbrev pub invariant-lines : goal.invariant-lines
invariant-lines l = are_fields l.bytes ≡ are_fields l.rest

abbrev pub decreases-lines : goal.decreases-lines
decreases-lines l = length l.rest
