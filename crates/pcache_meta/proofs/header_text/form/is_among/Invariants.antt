use Rattle.pcache_meta.proofs.Words.{◌≡◌, drop, map, is_among}
use Rattle.pcache_meta.proofs.header_text.form.is_among.Given as goal

abbrev pub invariant-names : goal.invariant-names
invariant-names l = is_among l.name (map (λ n. n.now) (drop l.i l.names)) ≡ is_among l.name (map (λ n. n.now) l.names)
