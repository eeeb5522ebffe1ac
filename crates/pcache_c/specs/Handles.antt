-- What a handle leads to, and the calls on it (own).
use Rattle.std.specs.Prelude.{◌≡◌, ◌⊎◌, ◌==◌, ℕ, List, Option, None, Some, cond, is_some, IsSome}
use Rattle.pcache_c.specs.Codes.{bad_handle, no_memory, ok, wrong_kind}
use Rattle.pcache_c.specs.declared.handle.PcacheHandle.{PcacheHandle}
use Rattle.pcache_c.specs.declared.object.Object.{Object}

-- nothing, unless it begins with the letters PCACHE01
abbrev pub object_of : PcacheHandle → Option Object
object_of h = cond (h.tag == 5783538103704956977) h.held.value None

-- the same object, or none, as before
abbrev pub IsSame : PcacheHandle → PcacheHandle → Type 0
IsSame old new = object_of new ≡ object_of old

-- what a call does to the object of a handle: a handle that has none is refused
abbrev pub Changes : Option Object → Option Object → ℕ → (Object → Object → Type 0) → Type 0
Changes None new code does = (code ≡ bad_handle) × (new ≡ None)
Changes (Some a) new code does = (b : Object) × (new ≡ Some b) × does a b

abbrev pub OnHandle : PcacheHandle → PcacheHandle → ℕ → (Object → Object → Type 0) → Type 0
OnHandle old new code does = Changes (object_of old) (object_of new) code does

-- a call that reads the object of a handle
abbrev pub Asks : Option Object → ℕ → Type 0 → (Object → Type 0) → Type 0
Asks None code same does = (code ≡ bad_handle) × same
Asks (Some a) code same does = does a

-- what follows of an object of a kind; one of another kind is refused
abbrev pub OnKind : {A : Type 0} → Option A → ℕ → Type 0 → (A → Type 0) → Type 0
OnKind None code same does = (code ≡ wrong_kind) × same
OnKind (Some a) code same does = does a

-- a call that reads an object of a kind
abbrev pub AsksOf : {A : Type 0} → (Object → Option A) → PcacheHandle → ℕ → Type 0 → (A → Type 0) → Type 0
AsksOf kind h code same does = Asks (object_of h) code same (λ a. OnKind (kind a) code same does)

-- a call that changes an object of a kind, which stays of that kind
abbrev pub Turns : {A : Type 0} → (Object → Option A) → Object → Object → ℕ → (A → A → Type 0) → Type 0
Turns {A} kind a b code does = OnKind (kind a) code (b ≡ a) (λ x. (y : A) × (kind b ≡ Some y) × does x y)

abbrev pub ChangesOf : {A : Type 0} → (Object → Option A) → PcacheHandle → PcacheHandle → ℕ → (A → A → Type 0) → Type 0
ChangesOf kind old new code does = OnHandle old new code (λ a b. Turns kind a b code does)

-- a call that is to fill a handle: one that has an object is refused
abbrev pub OnEmpty : Option Object → ℕ → Type 0 → Type 0 → Type 0
OnEmpty None code same does = does
OnEmpty (Some x) code same does = (code ≡ bad_handle) × same

-- how an object came into a handle: it has it, the handle had one already, or there was no memory for a box
abbrev pub Fills : Object → PcacheHandle → PcacheHandle → ℕ → Type 0
Fills x old new code = ((code ≡ ok) × (object_of old ≡ None) × (object_of new ≡ Some x)) ⊎ ((code ≡ bad_handle) × IsSome (object_of old) × IsSame old new)
    ⊎ ((code ≡ no_memory) × (object_of old ≡ None) × IsSame old new)
