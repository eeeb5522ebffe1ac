-- Writes that were changed in place, and numbers that no write has.
use Rattle.std.proofs.Common.{OnOk, unwrap_or}
use Rattle.std.specs.Option.{SomeIff}
use Rattle.std.specs.FinMap.{gets}
use Rattle.pcache_store.specs.Drafts.{Numbered}
use Rattle.pcache_store.proofs.Words.{◌≡◌, ℕ, ◌++◌, ◌+◌, ◌-◌, ◌<◌, ◌^◌, List, Bool, true, false, Option, None, Some, Result, Ok, Err, OnErr, ◌∙◌, sym, ap, cond, refl, subst, arith, nat_cmp, is_eq, nat_cmp_total, tied_itself, nat_tests, FinMap, empty, get-empty, get, insert, remove, get-insert, Written, Stored, kept, is_named, wrote_on, followed_on, left_on, grounded_on, get-remove-at, one_if_some, next_number, AreBefore, IsBodyOf, closed_on, ended_on}
use Rattle.pcache_store.proofs.Maps.{insert_same, undone, remove-insert}

module _ (ws : FinMap nat_cmp Written) (n : ℕ) (w v : Written) (m : FinMap nat_cmp Written) (is : Some w ≡ get ws n) (set : m ≡ insert ws n v) where
  pub wrote_there : (bytes : List ℕ) (eof : Bool) → v ≡ record w { bytes = w.bytes ++ bytes; told = eof } → m ≡ wrote_on ws n bytes eof (get ws n)
  wrote_there bytes eof e = rw (← is, set, e) refl

  pub joined_there : v ≡ record w { readers = w.readers + 1 } → m ≡ followed_on ws n (get ws n)
  joined_there e = rw (← is, set, e) refl

  pub same_there : v ≡ w → m ≡ ws
  same_there e = set ∙ ap (insert ws n) e ∙ insert_same ws n w is

  kept_there : is_named v ≡ true → m ≡ kept ws n v
  kept_there named = set ∙ ap (λ b. cond b (insert ws n v) (remove ws n)) (sym named)

  gone_there : (r : FinMap nat_cmp Written) → is_named v ≡ false → r ≡ remove m n → r ≡ kept ws n v
  gone_there r lost out = out ∙ ap (λ x. remove x n) set ∙ remove-insert ws n v ∙ ap (λ b. cond b (insert ws n v) (remove ws n)) (sym lost)

  pub left_there : v ≡ record w { readers = w.readers - 1 } → is_named v ≡ true → m ≡ left_on ws n (get ws n)
  left_there e named = kept_there named ∙ ap (kept ws n) e ∙ ap (left_on ws n) is

  pub left_gone : (r : FinMap nat_cmp Written) → v ≡ record w { readers = w.readers - 1 } → is_named v ≡ false → r ≡ remove m n → r ≡ left_on ws n (get ws n)
  left_gone r e lost out = gone_there r lost out ∙ ap (kept ws n) e ∙ ap (left_on ws n) is

  pub landed_there : v ≡ record w { flying = false } → is_named v ≡ true → m ≡ grounded_on ws n (get ws n)
  landed_there e named = kept_there named ∙ ap (kept ws n) e ∙ ap (grounded_on ws n) is

  pub landed_gone : (r : FinMap nat_cmp Written) → v ≡ record w { flying = false } → is_named v ≡ false → r ≡ remove m n → r ≡ grounded_on ws n (get ws n)
  landed_gone r e lost out = gone_there r lost out ∙ ap (kept ws n) e ∙ ap (grounded_on ws n) is

  pub closed_there : v ≡ record w { flying = false; told = true } → is_named v ≡ true → m ≡ ended_on true ws n (get ws n)
  closed_there e named = kept_there named ∙ ap (kept ws n) e ∙ ap (closed_on ws n) is

  pub closed_gone : (r : FinMap nat_cmp Written) → v ≡ record w { flying = false; told = true } → is_named v ≡ false → r ≡ remove m n → r ≡ closed_on ws n (get ws n)
  closed_gone r e lost out = gone_there r lost out ∙ ap (kept ws n) e ∙ ap (closed_on ws n) is

  pub ended_gone : (stored : Bool) (r : FinMap nat_cmp Written) → v ≡ record w { flying = false } → is_named v ≡ false → r ≡ remove m n → r ≡ ended_on stored ws n (get ws n)
  ended_gone false r e lost out = landed_gone r e lost out
  ended_gone true r e lost out =
      let none : is_named (record w { flying = false; told = true }) ≡ false = sym (ap is_named e) ∙ lost in
      out ∙ ap (λ x. remove x n) set ∙ remove-insert ws n v
      ∙ ap (λ b. cond b (insert ws n (record w { flying = false; told = true })) (remove ws n)) (sym none)
      ∙ ap (closed_on ws n) is

  -- the write that was changed, found again
  found : Some v ≡ get m n
  found = sym (ap (λ x. get x n) set ∙ get-insert nat_cmp_total ws n v n ∙ ap (λ r. cond (is_eq r) (Some v) (get ws n)) (tied_itself nat_cmp_total n))

  -- how many records of the number there are, if it was changed in place, and if it was removed then
  pub one_stays : one_if_some (get m n) + 0 ≡ one_if_some (get ws n)
  one_stays = rw (← is, ← found) refl

  pub one_goes : (r : FinMap nat_cmp Written) → r ≡ remove m n → one_if_some (get r n) + 1 ≡ one_if_some (get ws n)
  one_goes r out = rw (← is, out, get-remove-at m n) refl

  pub not_lost : None ≡ get m n → ⊥
  not_lost e = let h : None ≡ Some v = e ∙ sym found in cc

  pub landed_body : (d : Written) (b : Stored) → v ≡ record w { flying = false } → Some d ≡ get m n → b ≡ record { meta = d.meta; bytes = d.bytes } → IsBodyOf (get ws n) b
  landed_body d b e out made =
      let same : d ≡ record w { flying = false } = ap (λ o. unwrap_or o d) (out ∙ sym found) ∙ e in
      subst (λ o. IsBodyOf o b) is (made ∙ ap (λ (x : Written). let y : Stored = record { meta = x.meta; bytes = x.bytes } in y) same)

-- the next number after one that was given
pub next_after : (o : Option ℕ) (n : ℕ) → n < 2 ^ 64 → SomeIff o (n + 1 < 2 ^ 64) (n + 1) → next_number o ≡ n + 1
next_after None n few none = omega (arith, few, none)
next_after (Some x) n few some = some.1

-- no write has the number of the next one or a later one
pub before_empty : (n : ℕ) → AreBefore empty n
before_empty n q h = get-empty nat_cmp q

pub before_begun : (ws : FinMap nat_cmp Written) (n : ℕ) (v : Written) → AreBefore ws n → AreBefore (insert ws n v) (n + 1)
before_begun ws n v f q h = grind (gets, arith, nat_tests, f q)

pub before_taken_back : (ws : FinMap nat_cmp Written) (n : ℕ) → AreBefore ws (n + 1) → AreBefore (remove ws n) n
before_taken_back ws n f q h = grind (gets, arith, nat_tests, f q)

before_set : (ws : FinMap nat_cmp Written) (n k : ℕ) (w v : Written) → AreBefore ws n → get ws k ≡ Some w → AreBefore (insert ws k v) n
before_set ws n k w v f e q h = grind (gets, arith, nat_tests, f q)

before_gone : (ws : FinMap nat_cmp Written) (n k : ℕ) → AreBefore ws n → AreBefore (remove ws k) n
before_gone ws n k f q h = grind (gets, arith, nat_tests, f q)

before_kept : (ws : FinMap nat_cmp Written) (n k : ℕ) (w v : Written) → AreBefore ws n → get ws k ≡ Some w → AreBefore (kept ws k v) n
before_kept ws n k w v f e =
    elim (is_named v) as (λ b. AreBefore (cond b (insert ws k v) (remove ws k)) n) [ true ↦ before_set ws n k w v f e | false ↦ before_gone ws n k f ]

module _ (ws : FinMap nat_cmp Written) (n k : ℕ) (f : AreBefore ws n) where
  pub before_wrote : (bytes : List ℕ) (eof : Bool) → AreBefore (wrote_on ws k bytes eof (get ws k)) n
  before_wrote bytes eof = elim (get ws k) as (λ o. get ws k ≡ o → AreBefore (wrote_on ws k bytes eof o) n) [ None ↦ λ e. f | Some w ↦ λ e. before_set ws n k w _ f e ] refl

  pub before_joined : AreBefore (followed_on ws k (get ws k)) n
  before_joined = elim (get ws k) as (λ o. get ws k ≡ o → AreBefore (followed_on ws k o) n) [ None ↦ λ e. f | Some w ↦ λ e. before_set ws n k w _ f e ] refl

  pub before_left : AreBefore (left_on ws k (get ws k)) n
  before_left = elim (get ws k) as (λ o. get ws k ≡ o → AreBefore (left_on ws k o) n) [ None ↦ λ e. f | Some w ↦ λ e. before_kept ws n k w (record w { readers = w.readers - 1 }) f e ] refl

  pub before_landed : AreBefore (grounded_on ws k (get ws k)) n
  before_landed = elim (get ws k) as (λ o. get ws k ≡ o → AreBefore (grounded_on ws k o) n) [ None ↦ λ e. f | Some w ↦ λ e. before_kept ws n k w (record w { flying = false }) f e ] refl

  pub before_closed : AreBefore (closed_on ws k (get ws k)) n
  before_closed = elim (get ws k) as (λ o. get ws k ≡ o → AreBefore (closed_on ws k o) n) [ None ↦ λ e. f | Some w ↦ λ e. before_kept ws n k w (record w { flying = false; told = true }) f e ] refl

  pub before_ended : (stored : Bool) → AreBefore (ended_on stored ws k (get ws k)) n
  before_ended true = before_closed
  before_ended false = before_landed

-- what follows in either case of a call that returns
pub on_both : {A E P Q C : Type 0} (r : Result A E) → (P → C) → (Q → C) → OnOk r P → OnErr r Q → C
on_both (Ok a) f g p q = f p
on_both (Err e) f g p q = g q

-- a write that began and was taken back leaves all as before
pub taken_back : (a : Numbered) (v : Written) (b t : Numbered) → get a.writes a.next ≡ None → b ≡ record { writes = insert a.writes a.next v; next = a.next + 1 } → t ≡ record { writes = remove b.writes (b.next - 1); next = b.next - 1 } → t ≡ a
taken_back a v b t none begun back =
    let made : FinMap nat_cmp Written → ℕ → Numbered = λ ws n. record { writes = ws; next = n } in
    let last : a.next + 1 - 1 ≡ a.next = omega arith in
    back ∙ ap (λ (x : Numbered). made (remove x.writes (x.next - 1)) (x.next - 1)) begun
    ∙ ap (λ q. made (remove (insert a.writes a.next v) q) q) last
    ∙ ap (λ ws. made ws a.next) (undone a.writes a.next v none)
