-- What readers gave and writers took, call after call.
use Rattle.std.proofs.Common.{take}
use Rattle.std.specs.Prelude.{◌≢◌}
use Rattle.std_io.specs.IoError.{error_kind}
use Rattle.pcache_files.specs.Device.{Counts, GaveUp, LackedMemory}
use Rattle.std.specs.Io.KnownBytes.{Appends, ReadConsumes}
use Rattle.std.proofs.lemmas.List.{length-drop, take-append-drop, take_all}
use Rattle.pcache_files.proofs.Words.{◌≡◌, ℕ, suc, ◌+◌, ◌-◌, ◌^◌, List, ◌++◌, Option, Some, None, length, drop, sym, ap, subst, ◌∙◌, append_assoc, arith, inl, inr, Result, Ok, Err, IsErrOf, ◌⊎◌, ◌%◌, ErrorType, Io, OutOfMemory, Error, Interrupted, Consumes, Keeps}
use Rattle.std_io.specs.declared.io.kind.ErrorKind.TheVariants as kinds

-- ---- known bytes that stay

pub keeps-keeps : (a b c : Option (List ℕ)) → Keeps a b → Keeps b c → Keeps a c
keeps-keeps None b c h k = tt
keeps-keeps (Some xs) None c h k = absurd h
keeps-keeps (Some xs) (Some ys) None h k = absurd k
keeps-keeps (Some xs) (Some ys) (Some zs) h k = k ∙ h

keeps-consumes : (a b c : Option (List ℕ)) (bs : List ℕ) → Keeps a b → Consumes b c bs → Consumes a c bs
keeps-consumes None b c bs h k = tt
keeps-consumes (Some xs) None c bs h k = absurd h
keeps-consumes (Some xs) (Some ys) None bs h k = absurd k
keeps-consumes (Some xs) (Some ys) (Some zs) bs h k = sym h ∙ k

pub keeps-read : {E : Type 0} (a b c : Option (List ℕ)) (r : Result ℕ E) (buf : List ℕ) → Keeps a b → ReadConsumes b c r buf → ReadConsumes a c r buf
keeps-read a b c (Ok n) buf h k = (keeps-consumes a b c (take n buf) h k.0, k.1)
keeps-read a b c (Err e) buf h k = keeps-keeps a b c h k

-- ---- bytes read in pieces

pub consumes-more : (a b c : Option (List ℕ)) (bs more : List ℕ) → Consumes a b bs → Consumes b c more → Consumes a c (bs ++ more)
consumes-more None b c bs more h k = tt
consumes-more (Some xs) None c bs more h k = absurd h
consumes-more (Some xs) (Some ys) None bs more h k = absurd k
consumes-more (Some xs) (Some ys) (Some zs) bs more h k = h ∙ ap (λ l. bs ++ l) k ∙ sym (append_assoc bs more zs)

-- ---- bytes written in pieces

appends-more : (a b c : Option (List ℕ)) (bs more : List ℕ) → Appends a b bs → Appends b c more → Appends a c (bs ++ more)
appends-more None b c bs more h k = tt
appends-more (Some xs) None c bs more h k = absurd h
appends-more (Some xs) (Some ys) None bs more h k = absurd k
appends-more (Some xs) (Some ys) (Some zs) bs more h k = k ∙ ap (λ l. l ++ more) h ∙ append_assoc xs bs more

-- of these bytes a writer took all but the rest
pub record HasTaken (old now : Option (List ℕ)) (bytes rest : List ℕ) : Type 0 where
  pub front : List ℕ
  pub split : bytes ≡ front ++ rest
  pub appends : Appends old now front

pub taken-more : (old now new : Option (List ℕ)) (bytes rest : List ℕ) (n : ℕ) → HasTaken old now bytes rest → Appends now new (take n rest) → HasTaken old new bytes (take (length rest - n) (drop n rest))
taken-more old now new bytes rest n h more = rw (take_all (length rest - n) (drop n rest) (omega (arith, length-drop n rest))) (record {
  front = h.front ++ take n rest;
  split = h.split ∙ ap (λ l. h.front ++ l) (sym (take-append-drop n rest)) ∙ sym (append_assoc h.front (take n rest) (drop n rest));
  appends = appends-more old now new h.front (take n rest) h.appends more;
})

-- one more call failed if the error says so
pub counts : (T : Type 0) (told : ErrorType) (old new : ℕ) → (told ≡ OutOfMemory) ⊎ (told ≡ Io) → (told ≡ Io → new ≡ (old + 1) % 2 ^ 64) → (told ≡ OutOfMemory → new ≡ old) → Counts {T = T} old new (Err told)
counts T told old new kinds counted uncounted = elim kinds [
  | inl memory ↦ subst (λ k. Counts {T = T} old new (Err k)) (sym memory) (uncounted memory)
  | inr io ↦ subst (λ k. Counts {T = T} old new (Err k)) (sym io) (counted io)
]

-- ---- calls that are made again

module _ {D : Type 0} (fails : D → Error → D → Type 0) where
  -- a try that was interrupted is made again
  pub interrupted-again : (n : ℕ) (old now new : D) (e : Error) → Interrupted fails n old now → fails now e new → error_kind e ≡ kinds.Interrupted → Interrupted fails (n + 1) old new
  interrupted-again n old now new e so_far failed by = subst (λ m. Interrupted fails m old new) (more n) (now, e, so_far, failed, by)
    where
      more : (n : ℕ) → suc n ≡ n + 1
      more n = omega arith

  -- a try failed
  gave-up-by : (n : ℕ) (old now new left : D) (e : Error) → Interrupted fails n old now → fails now e new → error_kind e ≢ kinds.Interrupted → error_kind e ≢ kinds.OutOfMemory → left ≡ new → (d : D) × GaveUp fails d left
  gave-up-by n old now new left e so_far failed not_by not_memory is = (
    old,
    record {
      times = n;
      last = now;
      interrupted = so_far;
      ended = inl (e, subst (λ d. fails now e d) (sym is) failed, not_by, not_memory);
    },
  )

  lacked-by : (n : ℕ) (old now new left : D) (e : Error) → Interrupted fails n old now → fails now e new → error_kind e ≡ kinds.OutOfMemory → left ≡ new → (d : D) × LackedMemory fails d left
  lacked-by n old now new left e so_far failed memory is = (old, record { times = n; last = now; interrupted = so_far; ended = (e, subst (λ d. fails now e d) (sym is) failed, memory) })

  -- the same of the error that is told
  pub gave-up : (told : ErrorType) (n : ℕ) (old now new left : D) (e : Error) → Interrupted fails n old now → fails now e new → error_kind e ≢ kinds.Interrupted → (told ≡ Io → error_kind e ≢ kinds.OutOfMemory) → left ≡ new
      → {T : Type 0} → IsErrOf {T = T} (Err told) Io → (d : D) × GaveUp fails d left
  gave-up told n old now new left e so_far failed not_by not_memory is told_io = gave-up-by n old now new left e so_far failed not_by (not_memory (cc told_io)) is

  -- a try failed for want of memory
  pub lacked : (told : ErrorType) (n : ℕ) (old now new left : D) (e : Error) → Interrupted fails n old now → fails now e new → (told ≡ OutOfMemory → error_kind e ≡ kinds.OutOfMemory) → left ≡ new
      → {T : Type 0} → IsErrOf {T = T} (Err told) OutOfMemory → (d : D) × LackedMemory fails d left
  lacked told n old now new left e so_far failed memory is told_so = lacked-by n old now new left e so_far failed (memory (cc told_so)) is

  -- all tries were interrupted
  pub gave-up-trying : (n : ℕ) (old now left : D) → Interrupted fails n old now → n ≡ 2 ^ 64 - 1 → left ≡ now → (d : D) × GaveUp fails d left
  gave-up-trying n old now left so_far all is = (old, record { times = n; last = now; interrupted = so_far; ended = inr (all, is) })
