use Rattle.pcache_meta.specs.HeaderReading.{fields_at}
use Rattle.pcache_meta.proofs.Words.{◌≡◌, [], length, shown_fields}
use Rattle.pcache_meta.proofs.header_text.reader.read_fields.Given as goal

abbrev pub invariant-lines : goal.invariant-lines
invariant-lines l = fields_at (shown_fields l.headers) l.rest ≡ fields_at [] l.fn.text

abbrev pub decreases-lines : goal.decreases-lines
decreases-lines l = length l.rest
