-- Tags of writes and the numbers that they name.
use Rattle.std.proofs.Common.{◌≢◌}
use Rattle.std.specs.Int.{to_be_bytes}
use Rattle.std.proofs.lemmas.Nat.{from_be_bytes-to_be_bytes_8}
use Rattle.pcache_store.specs.Tag.{number_of_tag}
use Rattle.pcache_store.proofs.Words.{◌≡◌, ◌<◌, ◌^◌, ◌==◌, ℕ, List, length, Some, None, cond, true, false, refl, ap, arith, nat_tests, w64, from_be_bytes}

pub tag_names : (n : ℕ) → n < 2 ^ 64 → number_of_tag (to_be_bytes w64 n) ≡ Some n
unfolding number_of_tag
tag_names n lt = ap Some (from_be_bytes-to_be_bytes_8 n lt)

pub eight_name : (tag : List ℕ) → length tag ≡ 8 → number_of_tag tag ≡ Some (from_be_bytes w64 tag)
unfolding number_of_tag
eight_name tag e = ap (λ n. cond (n == 8) (Some (from_be_bytes w64 tag)) None) e

pub other_names : (tag : List ℕ) → length tag ≢ 8 → number_of_tag tag ≡ None
unfolding number_of_tag
other_names tag h =
    elim (length tag == 8) as (λ b. (length tag == 8) ≡ b → cond b (Some (from_be_bytes w64 tag)) None ≡ None) [ true ↦ λ e. absurd (h (grind (arith, nat_tests))) | false ↦ λ e. refl ] refl
