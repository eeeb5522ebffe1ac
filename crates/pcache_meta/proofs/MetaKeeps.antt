-- Two byte strings that spell a meta are seen as that meta.
use Rattle.std.proofs.Common.{length-append}
use Rattle.pcache_meta.specs.MetaBytes.{SpellsMeta}
use Rattle.pcache_meta.specs.MetaKept.{meta_at, meta_of, AreOf, kept_at, IsKept}
use Rattle.pcache_meta.proofs.Words.{◌≡◌, ℕ, List, ◌++◌, length, take, drop, refl, ap, ◌∙◌, arith, take-append_seam, drop-append_seam, Meta}
use Rattle.pcache_meta.proofs.HeaderExact.{header_again}
use Rattle.pcache_meta.proofs.MetaExact.{internal_again}

-- what spells a meta is read as that meta
pub meta_again : (internal header : List ℕ) (m : Meta) → SpellsMeta internal header m → meta_of internal header ≡ m
unfolding meta_at meta_of
meta_again internal header m spelled = rw (internal_again internal m.internal spelled.0, header_again header m.header spelled.1) refl

-- the strings that are written of a meta, one behind the other, are seen as that meta
pub kept_again : (text internal header : List ℕ) (split : ℕ) (m : Meta) → text ≡ internal ++ header → split ≡ length internal → SpellsMeta internal header m → kept_at split text ≡ m
unfolding kept_at
kept_again text internal header split m whole at spelled =
    rw (whole, at, take-append_seam internal header, drop-append_seam internal header) (meta_again internal header m spelled)

pub is_kept : (text internal header : List ℕ) (split : ℕ) (m : Meta) → text ≡ internal ++ header → split ≡ length internal → AreOf m internal header → IsKept split text
is_kept text internal header split m whole at are = record {
  within = let size = ap (λ (x : List ℕ). length x) whole ∙ length-append internal header in omega (arith, size, at);
  parts =
      let front : take split text ≡ internal = rw (whole, at) (take-append_seam internal header) in
      let rest : drop split text ≡ header = rw (whole, at) (drop-append_seam internal header) in
      rw (kept_again text internal header split m whole at are.spelled, front, rest) are;
}

-- what is kept, as it is read
pub kept_spelled : (m : Meta) (split : ℕ) (text : List ℕ) → kept_at split text ≡ m → IsKept split text → SpellsMeta (take split text) (drop split text) m
kept_spelled m split text is kept = rw (← is) kept.parts.spelled
