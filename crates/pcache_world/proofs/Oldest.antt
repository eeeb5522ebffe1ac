-- In a world a look-up finds the write that began first, so no write is superseded.
use Rattle.pcache_base.specs.declared.error.ErrorType.TheVariants as error
use Rattle.pcache_history.specs.Facts.{Facts}
use Rattle.pcache_history.specs.Rules.{EndsFilling, release_of}
use Rattle.pcache_history.specs.declared.call.Reply.TheVariants as R
use Rattle.pcache_request.specs.Requests.{Request}
use Rattle.pcache_store.specs.Store.{has_later_body, is_superseded, is_superseded_on}
use Rattle.pcache_world.proofs.Words.{◌≡◌, ℕ, ◌⊎◌, ◌&&◌, false, None, Some, List, ◌∷◌, refl, ap, sym, ◌∙◌, inl, inr, get, Key, ErrorType, OutOfMemory, Event, MayFailFinish, Store, is_untouched, refused_end}

pub never_superseded : (s : Store) (w : ℕ) → s.newest ≡ false → is_superseded s w ≡ false
never_superseded s w oldest = elim (get s.writes w) as (λ o. is_superseded_on s w o ≡ false) [ None ↦ refl | Some x ↦ ap (λ b. b && has_later_body w (get s.slots x.slot)) oldest ]

-- the end of a write that failed
pub dropped_ends : (f : Facts) (x : Request) (k : Key) (s : Store) (w : ℕ) (e : ErrorType) (events : List Event) → f.untouched ≡ is_untouched s w → s.newest ≡ false → (e ≡ OutOfMemory) ⊎ MayFailFinish s w e → events ≡ refused_end w e ∷ release_of x.held → EndsFilling f x k w (R.Refused e) events
dropped_ends f x k s w error.WriteRemoved events at oldest (inl same) is = absurd (cc)
dropped_ends f x k s w error.WriteRemoved events at oldest (inr gone) is = inr (inr (inl (at ∙ gone, is, refl)))
dropped_ends f x k s w error.OutOfMemory events at oldest why is = inr (inr (inr (is, refl)))
dropped_ends f x k s w error.Superseded events at oldest (inl same) is = absurd (cc)
dropped_ends f x k s w error.Superseded events at oldest (inr late) is = absurd (let no = never_superseded s w oldest in let yes = late.1 in cc)
dropped_ends f x k s w e events at oldest (inl same) is = inr (inr (inr (is, ap R.Refused same)))
dropped_ends f x k s w e events at oldest (inr no-way) is = absurd no-way
