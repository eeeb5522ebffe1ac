use Rattle.std.proofs.Common.{◌≡◌}
use Rattle.http_header.specs.Token.{lowercase}
use Rattle.pcache_meta.specs.Header.{shown_fields}
use Rattle.pcache_request.specs.Renewals.{LacksRoomAfter, added_all, shown_values}
use Rattle.pcache_request.proofs.cache.revalidate.add_fields.Given as goal

abbrev pub invariant-values : goal.invariant-values
invariant-values l =
    (added_all (shown_fields l.headers) (lowercase l.name) (shown_values l.value-iterator) ≡ added_all (shown_fields l.fn.headers) (lowercase l.name) (shown_values l.fn.values))
    × (LacksRoomAfter (shown_fields l.headers) (lowercase l.name) (shown_values l.value-iterator) → LacksRoomAfter (shown_fields l.fn.headers) (lowercase l.name) (shown_values l.fn.values))
