-- What is written is spelled so, hence read again.
use Rattle.pcache_meta.specs.Writing.{number_written, array_written, text_head_written, text_written, hash_written, optional_written}
use Rattle.pcache_meta.proofs.Words.{◌≡◌, ℕ, suc, ◌^◌, ◌<◌, ltb, List, [], ◌∷◌, ◌++◌, length, get_or, Option, Some, None, refl, sym, ap, ◌∙◌, append_assoc, arith, inl, inr, IfSome, flat_map, IsUtf8, ltb-true, flat_map-cons, NumberForm, number_limit, number_text, NumberThen, ArrayForm, array_limit, array_text, ArrayThen, TextForm, text_limit, text_head, TextThen, BytesThen, HashThen, OptionThen, shortest_number, shortest_array, shortest_text, IsHash}
use Rattle.pcache_meta.specs.Spelling as spell
use Rattle.pcache_meta.proofs.Exact.{chosen}

form_then : (form : NumberForm) (n : ℕ) (rest : List ℕ) → form ≡ shortest_number n → n < number_limit form → NumberThen (number_written n ++ rest) n rest
unfolding number_written
form_then form n rest e fits = record { form = form; fits = fits; text = ap (λ (f : NumberForm). number_text f n ++ rest) (sym e) }

pub number_then : (n : ℕ) (rest : List ℕ) → n < 2 ^ 64 → NumberThen (number_written n ++ rest) n rest
number_then n rest lt = elim (chosen (ltb n (2 ^ 7)) _ _ (shortest_number n) refl) [
  | inl p ↦ form_then spell.short n rest p.1 (ltb-true _ _ p.0)
  | inr p ↦ elim (chosen (ltb n (2 ^ 8)) _ _ (shortest_number n) p.1) [
    | inl q ↦ form_then spell.wide8 n rest q.1 (ltb-true _ _ q.0)
    | inr q ↦ elim (chosen (ltb n (2 ^ 16)) _ _ (shortest_number n) q.1) [
      | inl r ↦ form_then spell.wide16 n rest r.1 (ltb-true _ _ r.0)
      | inr r ↦ elim (chosen (ltb n (2 ^ 32)) _ _ (shortest_number n) r.1) [
        | inl s ↦ form_then spell.wide32 n rest s.1 (ltb-true _ _ s.0)
        | inr s ↦ form_then spell.wide64 n rest s.1 lt
      ]
    ]
  ]
]

array_form_then : (form : ArrayForm) (n : ℕ) (rest : List ℕ) → form ≡ shortest_array n → n < array_limit form → ArrayThen (array_written n ++ rest) n rest
unfolding array_written
array_form_then form n rest e fits = record { form = form; fits = fits; text = ap (λ (f : ArrayForm). array_text f n ++ rest) (sym e) }

pub array_then : (n : ℕ) (rest : List ℕ) → n < 2 ^ 32 → ArrayThen (array_written n ++ rest) n rest
array_then n rest lt = elim (chosen (ltb n 16) _ _ (shortest_array n) refl) [
  | inl p ↦ array_form_then spell.short n rest p.1 (ltb-true _ _ p.0)
  | inr p ↦ elim (chosen (ltb n (2 ^ 16)) _ _ (shortest_array n) p.1) [
    | inl q ↦ array_form_then spell.wide16 n rest q.1 (ltb-true _ _ q.0)
    | inr q ↦ array_form_then spell.wide32 n rest q.1 lt
  ]
]

text_form_then : (form : TextForm) (t rest : List ℕ) → form ≡ shortest_text (length t) → length t < text_limit form → IsUtf8 t
    → TextThen (text_written t ++ rest) t rest
unfolding text_written text_head_written
text_form_then form t rest e fits utf8 = record {
  form = form;
  fits = fits;
  utf8 = utf8;
  text = append_assoc (text_head (shortest_text (length t)) (length t)) t rest ∙ ap (λ (f : TextForm). text_head f (length t) ++ (t ++ rest)) (sym e);
}

pub text_then : (t rest : List ℕ) → length t < 2 ^ 32 → IsUtf8 t → TextThen (text_written t ++ rest) t rest
text_then t rest lt utf8 = elim (chosen (ltb (length t) 32) _ _ (shortest_text (length t)) refl) [
  | inl p ↦ text_form_then spell.short t rest p.1 (ltb-true _ _ p.0) utf8
  | inr p ↦ elim (chosen (ltb (length t) (2 ^ 8)) _ _ (shortest_text (length t)) p.1) [
    | inl q ↦ text_form_then spell.wide8 t rest q.1 (ltb-true _ _ q.0) utf8
    | inr q ↦ elim (chosen (ltb (length t) (2 ^ 16)) _ _ (shortest_text (length t)) q.1) [
      | inl r ↦ text_form_then spell.wide16 t rest r.1 (ltb-true _ _ r.0) utf8
      | inr r ↦ text_form_then spell.wide32 t rest r.1 lt utf8
    ]
  ]
]

bytes_then : (bs rest : List ℕ) → ((i : ℕ) → get_or bs i 0 < 256) → BytesThen (flat_map number_written bs ++ rest) bs rest
bytes_then [] rest fits = refl
bytes_then (b ∷ bs) rest fits =
    let later : List ℕ = flat_map number_written bs ++ rest in
    let first : b < 256 = fits 0 in
    let regrouped : flat_map number_written (b ∷ bs) ++ rest ≡ number_written b ++ later =
    rw flat_map-cons (append_assoc (number_written b) (flat_map number_written bs) rest) in
    rw regrouped (first, later, number_then b later (omega arith), bytes_then bs rest (λ i. fits (suc i)))

pub hash_then : (bs rest : List ℕ) → IsHash bs → HashThen (hash_written bs ++ rest) bs rest
unfolding hash_written
hash_then bs rest is =
    let items : List ℕ = flat_map number_written bs ++ rest in
    rw (append_assoc (array_written 16) (flat_map number_written bs) rest) (record {
      size = is.0;
      items = items;
      head = array_then 16 items (omega arith);
      each = bytes_then bs rest is.1;
    })

pub optional_then : {A : Type 0} (written : A → List ℕ) (Then : List ℕ → A → List ℕ → Type 0) (P : A → Type 0)
    → ((x : A) (rest : List ℕ) → P x → Then (written x ++ rest) x rest)
    → (o : Option A) (rest : List ℕ) → IfSome o P → OptionThen Then (optional_written written o ++ rest) o rest
unfolding optional_written
optional_then written Then P each None rest is = refl
optional_then written Then P each (Some x) rest is = each x rest is
