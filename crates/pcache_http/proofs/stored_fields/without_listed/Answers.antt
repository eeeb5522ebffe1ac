use Rattle.pcache_http.proofs.Words.{refl}
use Rattle.pcache_http.proofs.stored_fields.without_listed.Goals as goal

pub returns : goal.returns
returns c said are =
    (c.hear_lines.ensures.heard (record { headers = c.args.kept; listing = c.args.listing }) said (rw c.get_all.ensures.value are) (record { headers = refl; listing = refl })).headers
