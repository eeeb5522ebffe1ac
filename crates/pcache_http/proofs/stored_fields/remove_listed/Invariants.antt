use Rattle.pcache_http.proofs.Words.{◌≡◌, option_copied, without_names, names_listed}
use Rattle.pcache_http.proofs.stored_fields.remove_listed.Given as goal

abbrev pub invariant-names : goal.invariant-names
invariant-names l = without_names l.name-iterator l.headers ≡ without_names (names_listed (option_copied l.fn.value)) l.fn.headers
