use Rattle.pcache_files.proofs.Words.{arith, ◌-◌, ◌∙◌, ap, sym, length, drop, ℕ, array_at, array_takes}
use Rattle.pcache_files.proofs.Whole.{array_behind, dropped, not_longer}
use Rattle.pcache_files.proofs.codec.first_count.Goals as goal

pub returns-clause-found : goal.returns-clause-found
returns-clause-found c =
    let read = ap array_at (sym c.new-reader.ensures) ∙ c.in_ok-count.ensures.value in
    let there = array_takes c.args.bytes.now c.in_ok-count.count c.array.new.self (λ i. omega (arith, c.type_inv.bytes i)) read in
    let rest = ap (λ (n : ℕ). drop (length c.args.bytes.now - n) c.args.bytes.now) c.remaining.ensures ∙ dropped c.args.bytes.now c.array.new.self (array_behind c.args.bytes.now c.in_ok-count.count c.array.new.self there) in
    rw rest there

pub returns-clause-within : goal.returns-clause-within
returns-clause-within c =
    let read = ap array_at (sym c.new-reader.ensures) ∙ c.in_ok-count.ensures.value in
    let there = array_takes c.args.bytes.now c.in_ok-count.count c.array.new.self (λ i. omega (arith, c.type_inv.bytes i)) read in
    rw c.remaining.ensures (not_longer c.args.bytes.now c.array.new.self (array_behind c.args.bytes.now c.in_ok-count.count c.array.new.self there))
