-- The derived equality of keys, and a map of keys seen by their names.
use Rattle.pcache_control.specs.Maps.{entry_of, AreNamed}
use Rattle.pcache_control.specs.declared.key.DirectiveKey.TheVariants.{MaxAge, SMaxAge, NoCache, NoStore, Private, Public, MustRevalidate, ProxyRevalidate, MustUnderstand, NoTransform, Immutable, StaleWhileRevalidate, StaleIfError, OnlyIfCached, Unknown}
use Rattle.pcache_control.proofs.Words.{◌≡◌, ℕ, Bool, true, false, not, cond, List, [], ◌∷◌, map, All, Option, refl, sym, ap, ◌∙◌, ◌&&◌, bytes_eq, if◌then◌else◌, bytes_eq-Decides, All-nil, All-cons, All-head, All-tail, insert_entry, name_of, is_known, is_known_name, same_key, value_of, entries_of, DirectiveKey, DirectiveValue, eq-value}

-- the derived equality is the one that the definition gives
pub eq_is : (k j : DirectiveKey) → eq-value.it k j ≡ same_key k j
eq_is MaxAge (Unknown b) = refl
eq_is MaxAge j = refl
eq_is SMaxAge (Unknown b) = refl
eq_is SMaxAge j = refl
eq_is NoCache (Unknown b) = refl
eq_is NoCache j = refl
eq_is NoStore (Unknown b) = refl
eq_is NoStore j = refl
eq_is Private (Unknown b) = refl
eq_is Private j = refl
eq_is Public (Unknown b) = refl
eq_is Public j = refl
eq_is MustRevalidate (Unknown b) = refl
eq_is MustRevalidate j = refl
eq_is ProxyRevalidate (Unknown b) = refl
eq_is ProxyRevalidate j = refl
eq_is MustUnderstand (Unknown b) = refl
eq_is MustUnderstand j = refl
eq_is NoTransform (Unknown b) = refl
eq_is NoTransform j = refl
eq_is Immutable (Unknown b) = refl
eq_is Immutable j = refl
eq_is StaleWhileRevalidate (Unknown b) = refl
eq_is StaleWhileRevalidate j = refl
eq_is StaleIfError (Unknown b) = refl
eq_is StaleIfError j = refl
eq_is OnlyIfCached (Unknown b) = refl
eq_is OnlyIfCached j = refl
eq_is (Unknown a) (Unknown b) = refl
eq_is (Unknown a) j = refl

both_or_neither : (a b e : Bool) → (e ≡ true → a ≡ b) → ((if a then b else not b) && e) ≡ e
both_or_neither true true e same = refl
both_or_neither false false e same = refl
both_or_neither true false true same = sym (same refl)
both_or_neither true false false same = refl
both_or_neither false true true same = same refl
both_or_neither false true false same = refl

-- of keys that are known if their names are, the names decide
pub same_named : (k j : DirectiveKey) → is_known k ≡ is_known_name (name_of k) → is_known j ≡ is_known_name (name_of j)
    → same_key k j ≡ bytes_eq (name_of k) (name_of j)
same_named k j p q = both_or_neither (is_known k) (is_known j) (bytes_eq (name_of k) (name_of j))
    (λ e. p ∙ ap is_known_name ((bytes_eq-Decides (name_of k) (name_of j)).0 e) ∙ sym q)

abbrev IsProper : DirectiveKey × Option DirectiveValue → Type 0
IsProper e = is_known e.0 ≡ is_known_name (name_of e.0)

chosen : (b : Bool) (e : DirectiveKey × Option DirectiveValue) (v : Option DirectiveValue) (es rest : List (DirectiveKey × Option DirectiveValue)) (later : List (List ℕ × Option (List ℕ)))
    → map entry_of rest ≡ later → map entry_of (cond b ((e.0, v) ∷ es) (e ∷ rest)) ≡ cond b ((name_of e.0, value_of v) ∷ map entry_of es) (entry_of e ∷ later)
chosen true e v es rest later same = refl
chosen false e v es rest later same = ap (λ xs. entry_of e ∷ xs) same

inserted : (es : List (DirectiveKey × Option DirectiveValue)) (k : DirectiveKey) (v : Option DirectiveValue) → is_known k ≡ is_known_name (name_of k) → All IsProper es
    → map entry_of (insert_entry eq-value.it es k v) ≡ insert_entry bytes_eq (map entry_of es) (name_of k) (value_of v)
inserted [] k v p all = refl
inserted (e ∷ es) k v p all =
    let test : eq-value.it k e.0 ≡ bytes_eq (name_of k) (name_of e.0) = eq_is k e.0 ∙ same_named k e.0 p (All-head IsProper e es all) in
    chosen (eq-value.it k e.0) e v es (insert_entry eq-value.it es k v) (insert_entry bytes_eq (map entry_of es) (name_of k) (value_of v)) (inserted es k v p (All-tail IsProper e es all))
    ∙ ap (λ b. cond b ((name_of e.0, value_of v) ∷ map entry_of es) (entry_of e ∷ insert_entry bytes_eq (map entry_of es) (name_of k) (value_of v))) test

pub entries_of-insert : (es : List (DirectiveKey × Option DirectiveValue)) (k : DirectiveKey) (v : Option DirectiveValue) → is_known k ≡ is_known_name (name_of k) → AreNamed es
    → entries_of (insert_entry eq-value.it es k v) ≡ insert_entry bytes_eq (entries_of es) (name_of k) (value_of v)
unfolding AreNamed
entries_of-insert es k v p all = inserted es k v p all

kept : (b : Bool) (e : DirectiveKey × Option DirectiveValue) (v : Option DirectiveValue) (es rest : List (DirectiveKey × Option DirectiveValue))
    → IsProper e → All IsProper es → All IsProper rest → All IsProper (cond b ((e.0, v) ∷ es) (e ∷ rest))
kept true e v es rest here all more = All-cons IsProper (e.0, v) es here all
kept false e v es rest here all more = All-cons IsProper e rest here more

all_kept : (es : List (DirectiveKey × Option DirectiveValue)) (k : DirectiveKey) (v : Option DirectiveValue) → is_known k ≡ is_known_name (name_of k) → All IsProper es
    → All IsProper (insert_entry eq-value.it es k v)
all_kept [] k v p all = All-cons IsProper (k, v) [] p (All-nil IsProper)
all_kept (e ∷ es) k v p all =
    kept (eq-value.it k e.0) e v es (insert_entry eq-value.it es k v) (All-head IsProper e es all) (All-tail IsProper e es all) (all_kept es k v p (All-tail IsProper e es all))

pub AreNamed-insert : (es : List (DirectiveKey × Option DirectiveValue)) (k : DirectiveKey) (v : Option DirectiveValue) → is_known k ≡ is_known_name (name_of k) → AreNamed es
    → AreNamed (insert_entry eq-value.it es k v)
unfolding AreNamed
AreNamed-insert es k v p all = all_kept es k v p all

pub AreNamed-nil : AreNamed []
unfolding AreNamed
AreNamed-nil = All-nil IsProper
