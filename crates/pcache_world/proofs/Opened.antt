-- The open requests after one more entry.
use Rattle.std.proofs.Common.{option_map}
use Rattle.pcache_world.proofs.Words.{◌≡◌, ℕ, ◌==◌, true, false, cond, if◌then◌else◌, Option, None, Some, List, [], ◌∷◌, refl, ap, sym, ◌∙◌, nat_cmp, FinMap, empty, get, get-empty, eqb-true, Entry, Ongoing, kind_of_reply, row, request_of, taken_over, untold, AreOpen}
use Rattle.pcache_world.proofs.MovedState.{set_to}
use Rattle.pcache_world.proofs.StateWrites.{get-set, get-unset}

pub open-none : AreOpen [] empty
open-none = λ r. ap (option_map untold) (get-empty nat_cmp r)

-- one request is set to what it is now, or is removed
pub get-set_to : (all : FinMap nat_cmp Ongoing) (r : ℕ) (o : Option Ongoing) (q : ℕ) → get (set_to all r o) q ≡ cond (r == q) o (get all q)
get-set_to all r None q = get-unset all r q
get-set_to all r (Some x) q = get-set all r x q

-- only the request that the call names changes, by its row, if nothing is handed over
pub open-after : (h : List Entry) (all : FinMap nat_cmp Ongoing) (e : Entry) (now : Option Ongoing) → ((r : ℕ) (giver q : Option Ongoing) → taken_over e.call.act (kind_of_reply e.reply) r giver q ≡ q) → AreOpen h all → option_map untold now ≡ row e.call.act e.reply e.events (request_of e.call.request h) → AreOpen (e ∷ h) (set_to all e.call.request now)
open-after h all e now none are is = λ q.
    let n = e.call.request in
    ap (option_map untold) (get-set_to all n now q)
    ∙ elim (n == q) as (λ b. (n == q) ≡ b → option_map untold (cond b now (get all q)) ≡ (if b then row e.call.act e.reply e.events (request_of q h) else request_of q h)) [
      | true ↦ λ same. is ∙ ap (λ r. row e.call.act e.reply e.events (request_of r h)) (eqb-true n q same)
      | false ↦ λ _. are q
    ] refl
    ∙ sym (none q (request_of n h) (if n == q then row e.call.act e.reply e.events (request_of q h) else request_of q h))
