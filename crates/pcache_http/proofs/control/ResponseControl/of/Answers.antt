use Rattle.pcache_http.proofs.control.ResponseControl.of.Goals as goal

pub returns : goal.returns
returns c = record {
  said = rw c.get_all.ensures.value at c.hear_lines.ensures.there;
  means = λ said are. c.hear_lines.ensures.heard c.silent-control.result said (rw c.get_all.ensures.value are) c.silent-control.ensures;
}
