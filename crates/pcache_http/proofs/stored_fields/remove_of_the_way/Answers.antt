use Rattle.pcache_http.proofs.Words.{refl}
use Rattle.pcache_http.proofs.stored_fields.remove_of_the_way.Goals as goal

pub returns : goal.returns
returns c =
    rw (c.take_out-9.ensures, c.take_out-8.ensures, c.take_out-7.ensures, c.take_out-6.ensures, c.take_out-5.ensures, c.take_out-4.ensures, c.take_out-3.ensures, c.take_out-2.ensures, c.take_out.ensures) refl
