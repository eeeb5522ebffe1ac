-- The first value under a name, as a meta shows it.
use Rattle.std.proofs.Common.{map}
use Rattle.std.specs.Prelude.{option_map, slice_get}
use Rattle.http_header.specs.FieldValue.{FieldValue}
use Rattle.http_header.specs.HeaderMap.{Entries, get, get_all}
use Rattle.pcache_meta.specs.Header.{Fields, shown_fields}
use Rattle.pcache_response.specs.Response.{SpellsLength}
use Rattle.pcache_put.proofs.Words.{◌≡◌, ℕ, true, false, cond, Option, None, Some, List, [], ◌∷◌, refl, ap, sym, subst, ◌∙◌, bytes_eq, DeclaresBy}

all_shown : (m : Entries FieldValue) (name : List ℕ) → get_all (shown_fields m) name ≡ map (λ (v : FieldValue). v.bytes) (get_all m name)
all_shown [] name = refl
all_shown (e ∷ m) name = elim (bytes_eq e.0 name) as (λ t. cond t (map (λ (v : FieldValue). v.bytes) e.1) (get_all (shown_fields m) name) ≡ map (λ (v : FieldValue). v.bytes) (cond t e.1 (get_all m name))) [ true ↦ refl | false ↦ all_shown m name ]

first_shown : (vs : List FieldValue) → slice_get (map (λ (v : FieldValue). v.bytes) vs) 0 ≡ option_map (λ (v : FieldValue). v.bytes) (slice_get vs 0)
first_shown [] = refl
first_shown (v ∷ vs) = refl

pub get_shown : (m : Entries FieldValue) (name : List ℕ) → get (shown_fields m) name ≡ option_map (λ (v : FieldValue). v.bytes) (get m name)
get_shown m name = ap (λ (vs : List (List ℕ)). slice_get vs 0) (all_shown m name) ∙ first_shown (get_all m name)

-- what a map's first value spells is declared by the fields that are shown of it
pub declares_shown : (m : Entries FieldValue) (fields : Fields) (name bytes : List ℕ) (v : FieldValue) (length : Option ℕ) → shown_fields m ≡ fields → Some v ≡ get m name → bytes ≡ v.bytes → SpellsLength bytes length → DeclaresBy (get fields name) length
declares_shown m fields name bytes v length shown is same spells =
    subst (λ (o : Option (List ℕ)). DeclaresBy o length) (sym (ap (λ (f : Fields). get f name) (sym shown) ∙ get_shown m name ∙ ap (option_map (λ (v : FieldValue). v.bytes)) (sym is))) (subst (λ (b : List ℕ). SpellsLength b length) same spells)

pub declares_none : (m : Entries FieldValue) (fields : Fields) (name : List ℕ) → shown_fields m ≡ fields → None ≡ get m name → DeclaresBy (get fields name) None
declares_none m fields name shown is =
    subst (λ (o : Option (List ℕ)). DeclaresBy o None) (sym (ap (λ (f : Fields). get f name) (sym shown) ∙ get_shown m name ∙ ap (option_map (λ (v : FieldValue). v.bytes)) (sym is))) refl
