use Rattle.pcache_validation.proofs.Words.{ap, ◌∙◌, codes, FieldValue, Entries, remove}
use Rattle.pcache_validation.proofs.updating.take_out_of_connection.Goals as goal

pub returns : goal.returns
returns c =
    c.take_out-6.ensures ∙ ap (λ (m : Entries FieldValue). remove m (codes "upgrade"))
    (c.take_out-5.ensures ∙ ap (λ (m : Entries FieldValue). remove m (codes "transfer-encoding"))
    (c.take_out-4.ensures ∙ ap (λ (m : Entries FieldValue). remove m (codes "te"))
    (c.take_out-3.ensures ∙ ap (λ (m : Entries FieldValue). remove m (codes "keep-alive"))
    (c.take_out-2.ensures ∙ ap (λ (m : Entries FieldValue). remove m (codes "proxy-connection")) c.take_out.ensures))))
