use Rattle.pcache_http.proofs.Words.{◌≡◌, without_names, names_in_connection}
use Rattle.pcache_http.proofs.stored_fields.remove_connection.Given as goal

abbrev pub invariant-names : goal.invariant-names
invariant-names l = without_names l.name-iterator l.kept ≡ without_names (names_in_connection l.fn.headers) l.fn.kept
