use Rattle.pcache_http.specs.Control.{request_control, pragma_control}
use Rattle.pcache_http.proofs.Words.{refl, ap, ◌∙◌, false, Bool, RequestControl, []}
use Rattle.pcache_http.proofs.control.RequestControl.of_pragma.Goals as goal

pub returns : goal.returns
returns c = record {
  said = rw c.get_all.ensures.value at c.hear_lines.ensures.there;
  means = λ said are.
      c.silent.ensures
      ∙ ap (λ (b : Bool). record (request_control []) { no_cache = b })
      (c.hear_lines.ensures.heard (record { no_cache = false }) said (rw c.get_all.ensures.value are) refl);
}
