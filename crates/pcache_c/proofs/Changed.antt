-- A call on a handle whose object is taken out and put back.
use Rattle.std.proofs.Common.{Bool, true}
use Rattle.pcache_base.specs.declared.error.ErrorType.TheVariants.{InternalError, OutOfMemory}
use Rattle.pcache_c.specs.Codes.{unreadable}
use Rattle.pcache_c.specs.Handles.{Asks, Changes}
use Rattle.pcache_c.proofs.Words.{◌≡◌, ◌⊎◌, inl, inr, sym, ap, ◌∙◌, subst, ℕ, Option, Some, None, Result, Ok, Err, is_some, false≢true, ErrorType, option_map, OnGood, code_of, no_memory, OnKind, Turns, Object}

pub changed : {X : Type 0} (value : X → Object) (r : Option X) (x : X) (old new : Option Object) (code : ℕ) (does : Object → Object → Type 0) (y b : Object)
    → option_map value r ≡ old → r ≡ Some x → y ≡ value x → new ≡ Some b → does y b → Changes old new code does
changed value r x old new code does y b taken is same put done =
    subst (λ o. Changes o new code does) (sym (ap (option_map value) is) ∙ taken) (b, put, subst (λ z. does z b) same done)

-- a value that a test found good
pub good : {A : Type 0} (r : Option A) (x : A) (o : Option A) (code : ℕ) (same : Type 0) (does : A → Type 0) → r ≡ Some x → r ≡ o → does x → OnGood o code same does
good r x o code same does some is done = subst (λ q. OnGood q code same does) (sym some ∙ is) done

-- a value that is known to be good
pub good_some : {A : Type 0} (o : Option A) (code : ℕ) (same : Type 0) (does : A → Type 0) → is_some o ≡ true → ((a : A) → does a) → OnGood o code same does
good_some None code same does is done = absurd (false≢true is)
good_some (Some a) code same does is done = done a

-- an object of a kind that stays of it
pub turned : {A : Type 0} (kind : Object → Option A) (a b : Object) (code : ℕ) (does : A → A → Type 0) (o : Object) (x y : A) → a ≡ o → kind o ≡ Some x → kind b ≡ Some y → does x y → Turns kind a b code does
turned {A = A} kind a b code does o x y is at left done =
    subst (λ z. Turns kind z b code does) (sym is) (subst (λ q. OnKind q code (b ≡ o) (λ u. (v : A) × (kind b ≡ Some v) × does u v)) (sym at) (y, left, done))

-- a refusal of bytes that are unreadable, or for want of memory
pub refused_bytes : {T : Type 0} (e : ErrorType) (code : ℕ) (same none done : Type 0) → code ≡ code_of e → (e ≡ OutOfMemory) ⊎ (e ≡ InternalError) → (◌≡◌ {A = Result T ErrorType} (Err e) (Err InternalError) → none) → same
    → ((code ≡ no_memory) × same) ⊎ ((code ≡ unreadable) × none × same) ⊎ done
refused_bytes e code same none done is (inl memory) h s = inl (is ∙ ap code_of memory, s)
refused_bytes e code same none done is (inr bytes) h s = inr (inl (is ∙ ap code_of bytes, h (ap (λ k. Err k) bytes), s))

-- a call that reads the object of a handle
pub asked : {X : Type 0} (value : X → Object) (r : Option X) (x : X) (old : Option Object) (code : ℕ) (same : Type 0) (does : Object → Type 0) (y : Object)
    → option_map value r ≡ old → r ≡ Some x → y ≡ value x → does y → Asks old code same does
asked value r x old code same does y taken is alike done = subst (λ o. Asks o code same does) (sym (ap (option_map value) is) ∙ taken) (subst does alike done)
