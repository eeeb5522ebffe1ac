-- How a call gets to a request by its number.
use Rattle.std.proofs.Common.{Box, Global}
use Rattle.std.specs.Box.{with_value}
use Rattle.pcache_c.specs.Codes.{bad_handle, wrong_kind}
use Rattle.pcache_c.specs.Counts.{Counting, counts_nothing}
use Rattle.pcache_c.specs.Reached.{CountsOnNumber, OnOpen}
use Rattle.pcache_c.specs.Seats.{AreSame}
use Rattle.pcache_c.specs.declared.served.Served.{Served}
use Rattle.pcache_c.proofs.Words.{◌≡◌, refl, sym, ap, ◌∙◌, subst, ℕ, Option, Some, None, OnSome, option_map, MutBor, Parts, OnKind, as_cache, Does, OnNumber, IsSet, request_at, Object, Open}
use Rattle.pcache_c.specs.declared.object.Object.TheVariants as object

-- the object is a cache in a box, and s is what the box has; t is what is left in the box
module _ (n : ℕ) (old : Object) (b : Box Served Global) (s : Served) (code : ℕ) (counting : Counting) (does : Does) (is : old ≡ object.Cache b) (value : s ≡ b.value) (t : Served) where
  in_box : OnOpen (request_at s.seats n) n s t code counting does → CountsOnNumber n old (object.Cache (with_value b t)) code counting does
  in_box how = subst (λ a. CountsOnNumber n a (object.Cache (with_value b t)) code counting does) (sym is) (t, refl, subst (λ (u : Served). OnOpen (request_at u.seats n) n u t code counting does) value how)

  module _ (r : Option (MutBor Open)) where
    -- the number has a request, and the call was made on it
    pub counted : (o : MutBor Open) (p : Open) → r ≡ Some o → option_map (λ (b : MutBor Open). b.now) r ≡ request_at s.seats n → OnSome r (IsSet n p s.seats t.seats)
        → t.counts ≡ counting s.counts → does s.cache t.cache o.now p → CountsOnNumber n old (object.Cache (with_value b t)) code counting does
    counted o p some at set counts done =
        let found : Some o.now ≡ request_at s.seats n = sym (ap (option_map (λ (b : MutBor Open). b.now)) some) ∙ at in
        in_box (subst (λ q. OnOpen q n s t code counting does) found (p, subst (λ q. OnSome q (IsSet n p s.seats t.seats)) some set, counts, done))

    -- it has none
    pub not_counted : r ≡ None → option_map (λ (b : MutBor Open). b.now) r ≡ request_at s.seats n → t.cache ≡ s.cache → t.counts ≡ s.counts → AreSame s.seats t.seats → code ≡ bad_handle
        → CountsOnNumber n old (object.Cache (with_value b t)) code counting does
    not_counted none at cache counts same refused =
        let found : None ≡ request_at s.seats n = sym (ap (option_map (λ (b : MutBor Open). b.now)) none) ∙ at in
        in_box (subst (λ q. OnOpen q n s t code counting does) found (refused, cache, counts, same))

-- the same of a call that counts nothing
module _ (n : ℕ) (old : Object) (b : Box Served Global) (s : Served) (code : ℕ) (does : Does) (is : old ≡ object.Cache b) (value : s ≡ b.value) (t : Served) (r : Option (MutBor Open)) where
  pub reached : (o : MutBor Open) (p : Open) → r ≡ Some o → option_map (λ (b : MutBor Open). b.now) r ≡ request_at s.seats n → OnSome r (IsSet n p s.seats t.seats)
      → t.counts ≡ s.counts → does s.cache t.cache o.now p → OnNumber n old (object.Cache (with_value b t)) code does
  reached = counted n old b s code counts_nothing does is value t r

  pub unreached : r ≡ None → option_map (λ (b : MutBor Open). b.now) r ≡ request_at s.seats n → t.cache ≡ s.cache → t.counts ≡ s.counts → AreSame s.seats t.seats → code ≡ bad_handle
      → OnNumber n old (object.Cache (with_value b t)) code does
  unreached = not_counted n old b s code counts_nothing does is value t r

-- what a call answers is told under another code, if that is as bad
module _ (n : ℕ) (k l : ℕ) (D E : Does) (f : (c d : Parts) (o p : Open) → D c d o p → E c d o p) (bad : k ≡ bad_handle → l ≡ bad_handle) (kind : k ≡ wrong_kind → l ≡ wrong_kind) where
  opened_then : (q : Option Open) (s t : Served) → OnOpen q n s t k counts_nothing D → OnOpen q n s t l counts_nothing E
  opened_then None s t h = (bad h.0, h.1, h.2, h.3)
  opened_then (Some o) s t h = (h.0, h.1, h.2, f s.cache t.cache o h.0 h.3)

  kind_then : (o : Option Served) (a b : Object) → OnKind o k (b ≡ a) (λ s. (t : Served) × (as_cache b ≡ Some t) × OnOpen (request_at s.seats n) n s t k counts_nothing D)
      → OnKind o l (b ≡ a) (λ s. (t : Served) × (as_cache b ≡ Some t) × OnOpen (request_at s.seats n) n s t l counts_nothing E)
  kind_then None a b h = (kind h.0, h.1)
  kind_then (Some s) a b h = (h.0, h.1, opened_then (request_at s.seats n) s h.0 h.2)

pub numbered_then : (n : ℕ) (a b : Object) (k l : ℕ) (D E : Does) → ((c d : Parts) (o p : Open) → D c d o p → E c d o p) → (k ≡ bad_handle → l ≡ bad_handle) → (k ≡ wrong_kind → l ≡ wrong_kind) → OnNumber n a b k D → OnNumber n a b l E
numbered_then n a b k l D E f bad kind h = kind_then n k l D E f bad kind (as_cache a) a b h
