-- A reply and its copy change a request alike, and say alike whether the call was a wrong one.
use Rattle.pcache_history.proofs.Words.{◌≡◌, Option, List, refl, ap, sym, subst, ◌∙◌, inl, inr, OutOfMemory, Act, Reply, Event, Ongoing, kind_of_reply, row_by, row, IsOther, IsCopy}
use Rattle.pcache_history.specs.declared.call.Reply.TheVariants as R

pub kind-copied : (reply told : Reply) → IsCopy reply told → kind_of_reply told ≡ kind_of_reply reply
kind-copied reply told (inl same) = ap kind_of_reply same
kind-copied reply told (inr (refused, given)) = let same : kind_of_reply (R.Refused OutOfMemory) ≡ kind_of_reply (R.Data given.0) = refl in ap kind_of_reply refused ∙ same ∙ ap kind_of_reply (sym given.1)

pub row-copied : (act : Act) (reply told : Reply) (events : List Event) (q : Option Ongoing) → IsCopy reply told → row act told events q ≡ row act reply events q
row-copied act reply told events q copy = ap (λ o. row_by act o events q) (kind-copied reply told copy)

pub other-copied : (reply told : Reply) → IsCopy reply told → IsOther reply → IsOther told
other-copied reply told (inl same) is = subst IsOther (sym same) is
other-copied reply told (inr (refused, given)) is = subst IsOther (sym refused) tt

pub wrong-copied : (reply told : Reply) → IsCopy reply told → reply ≡ R.WrongCall → told ≡ R.WrongCall
wrong-copied reply told (inl same) is = same ∙ is
wrong-copied reply told (inr (refused, given)) is = absurd (subst IsOther (sym given.1 ∙ is) tt)
