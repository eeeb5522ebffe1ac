-- The text of a head that is written is a spelling of that head.
use Rattle.pcache_meta.specs.HeaderText.{field_line, header_text, header_written}
use Rattle.pcache_meta.specs.declared.header.ResponseHeader.{ResponseHeader}
use Rattle.pcache_meta.proofs.Words.{◌≡◌, ℕ, List, [], ◌∷◌, ◌++◌, map, refl, sym, ap, ◌∙◌, append_assoc, All, flat_map, flat_map-cons, All-cons, IsStatusCode, FieldValue, Entries, append, append_all, pairs, entry_pairs, IsHeaderMap, Fields, shown, shown_entry, shown_fields, Field, IsField, fields_of, shown_lines, SpellsHeader}
use Rattle.pcache_meta.proofs.HeaderMaps.{shown-append, FitsMap-shown}
use Rattle.pcache_meta.proofs.RoundTrip.{append_all-pairs}

-- ---- as a loop writes the lines; items are those that are still to be written

pub line_more : (before after whole : List ℕ) (items rest : List (List ℕ × FieldValue)) (name : List ℕ) (v : FieldValue) → items ≡ (name, v) ∷ rest
    → after ≡ before ++ field_line (name, v.bytes) → before ++ flat_map field_line (shown_lines items) ≡ whole
    → after ++ flat_map field_line (shown_lines rest) ≡ whole
line_more before after whole items rest name v is more so_far =
    let line : List ℕ = field_line (name, v.bytes) in
    let later : List ℕ = flat_map field_line (shown_lines rest) in
    let first : flat_map field_line (shown_lines items) ≡ line ++ later =
    ap (λ (xs : List (List ℕ × FieldValue)). flat_map field_line (shown_lines xs)) is ∙ flat_map-cons field_line (name, v.bytes) (shown_lines rest) in
    let here : before ++ flat_map field_line (shown_lines items) ≡ before ++ (line ++ later) = ap (λ (xs : List ℕ). before ++ xs) first in
    ap (λ (xs : List ℕ). xs ++ later) more ∙ append_assoc before line later ∙ sym here ∙ so_far

pub valid_more : (items rest : List (List ℕ × FieldValue)) (name : List ℕ) (v : FieldValue) → items ≡ (name, v) ∷ rest
    → IsField (name, v.bytes) → All IsField (shown_lines rest) → All IsField (shown_lines items)
valid_more items rest name v is field all =
    rw (ap (λ (xs : List (List ℕ × FieldValue)). shown_lines xs) is) (All-cons IsField (name, v.bytes) (shown_lines rest) field all)

-- ---- a map's lines make the map

lines-append : (xs ys : List (List ℕ × FieldValue)) → shown_lines (xs ++ ys) ≡ shown_lines xs ++ shown_lines ys
lines-append [] ys = refl
lines-append (x ∷ xs) ys = ap (λ (fs : List Field). (x.0, x.1.bytes) ∷ fs) (lines-append xs ys)

lines-entry : (name : List ℕ) (vs : List FieldValue) → shown_lines (map (λ (v : FieldValue). (name, v)) vs) ≡ map (λ (b : List ℕ). (name, b)) (map (λ (v : FieldValue). v.bytes) vs)
lines-entry name [] = refl
lines-entry name (v ∷ vs) = ap (λ (fs : List Field). (name, v.bytes) ∷ fs) (lines-entry name vs)

pub pairs-shown : (m : Entries FieldValue) → pairs (shown_fields m) ≡ shown_lines (pairs m)
pairs-shown [] = refl
pairs-shown (e ∷ m) =
    let left : pairs (shown_fields (e ∷ m)) ≡ entry_pairs (shown_entry e) ++ pairs (shown_fields m) = flat_map-cons entry_pairs (shown_entry e) (shown_fields m) in
    let right : shown_lines (pairs (e ∷ m)) ≡ shown_lines (entry_pairs e ++ pairs m) = ap (λ (xs : List (List ℕ × FieldValue)). shown_lines xs) (flat_map-cons entry_pairs e m) in
    left ∙ ap (λ (fs : List Field). entry_pairs (shown_entry e) ++ fs) (pairs-shown m)
    ∙ ap (λ (fs : List Field). fs ++ shown_lines (pairs m)) (sym (lines-entry e.0 e.1)) ∙ sym (right ∙ lines-append (entry_pairs e) (pairs m))

append_all-shown : (m : Entries FieldValue) (items : List (List ℕ × FieldValue)) → shown_fields (append_all m items) ≡ append_all (shown_fields m) (shown_lines items)
append_all-shown m [] = refl
append_all-shown m (i ∷ items) =
    append_all-shown (append m i.0 i.1) items ∙ ap (λ (n : Fields). append_all n (shown_lines items)) (shown-append m i.0 i.1)

pub fields_of-pairs : (m : Entries FieldValue) → IsHeaderMap m → shown_fields m ≡ fields_of (pairs (shown_fields m))
fields_of-pairs m is =
    ap (λ (n : Entries FieldValue). shown_fields n) (sym (append_all-pairs m is.unique is.filled)) ∙ append_all-shown [] (pairs m)
    ∙ ap (λ (fs : List Field). append_all [] fs) (sym (pairs-shown m))

-- ---- what a writer of the code returned

pub written_header : (text : List ℕ) (h : ResponseHeader)
    → text ≡ header_text h.version h.status (shown_lines (pairs h.headers)) → text ≡ header_written (shown h)
written_header text h written = written ∙ ap (λ (fs : List Field). header_text h.version h.status fs) (sym (pairs-shown h.headers))

pub spelled_header : (text : List ℕ) (h : ResponseHeader)
    → text ≡ header_text h.version h.status (shown_lines (pairs h.headers)) → IsStatusCode h.status
    → All IsField (shown_lines (pairs h.headers)) → IsHeaderMap h.headers → SpellsHeader text (shown h)
spelled_header text h written status valid is = record {
  lines = shown_lines (pairs h.headers);
  text = written;
  status = status;
  valid = valid;
  fields = fields_of-pairs h.headers is ∙ ap (λ (fs : List Field). fields_of fs) (pairs-shown h.headers);
  held = FitsMap-shown h.headers is;
  order = written ∙ ap (λ (fs : List Field). header_text h.version h.status fs) (sym (pairs-shown h.headers));
}
