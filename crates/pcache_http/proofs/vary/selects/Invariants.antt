use Rattle.pcache_http.proofs.Words.{◌↔◌, All, IsAnswered, Selects}
use Rattle.pcache_http.proofs.vary.selects.Given as goal

abbrev pub invariant-names : goal.invariant-names
invariant-names l = All (IsAnswered l.original l.presented) l.name-iterator ↔ Selects l.stored l.original l.presented
