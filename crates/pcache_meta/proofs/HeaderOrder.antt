-- Lines that are in the order of the map that they make.
use Rattle.std.specs.Prelude.{IfNone, MatchOption}
use Rattle.pcache_meta.specs.HeaderText.{field_text, field_line, fields_text, IsOneToOne}
use Rattle.pcache_meta.proofs.Words.{◌≡◌, ℕ, Bool, true, false, List, [], ◌∷◌, ◌++◌, length, drop, take, Some, None, refl, sym, ap, ◌∙◌, append_assoc, Option, bytes_eq, IfSome, ◌+◌, flat_map, take-append_seam, append_cancel_left, take-append-drop, flat_map-cons, same_Some, bytes_eq-Decides, FieldValue, Field, line_end, shown_lines}
use Rattle.pcache_meta.proofs.HeaderExact.{header_again}

-- ---- a prefix, as `strip_prefix` finds it

pub prefix_there : (bytes text rest : List ℕ) → bytes_eq (take (length text) bytes) text ≡ true → rest ≡ drop (length text) bytes → bytes ≡ text ++ rest
prefix_there bytes text rest test is =
    let front : take (length text) bytes ≡ text = (bytes_eq-Decides (take (length text) bytes) text).0 test in
    sym (take-append-drop (length text) bytes) ∙ ap (λ (x : List ℕ). x ++ drop (length text) bytes) front ∙ ap (λ (x : List ℕ). text ++ x) (sym is)

pub prefix_missing : (bytes text rest : List ℕ) → bytes_eq (take (length text) bytes) text ≡ false → bytes ≡ text ++ rest → ⊥
prefix_missing bytes text rest test is =
    let front : take (length text) bytes ≡ text = ap (take (length text)) is ∙ take-append_seam text rest in
    let yes : bytes_eq (take (length text) bytes) text ≡ true = (bytes_eq-Decides (take (length text) bytes) text).1 front in
    let both : true ≡ false = sym yes ∙ test in
    cc both

pub prefix_some : {R : Type 0} (view : R → List ℕ) (bytes text : List ℕ) (r : Option R)
    → MatchOption r (bytes_eq (take (length text) bytes) text ≡ false) (λ x. (bytes_eq (take (length text) bytes) text ≡ true) × (view x ≡ drop (length text) bytes) × (length (view x) + length text ≡ length bytes))
    → IfSome r (λ x. bytes ≡ text ++ view x)
prefix_some view bytes text None m = tt
prefix_some view bytes text (Some x) m = prefix_there bytes text (view x) m.0 m.1

pub prefix_none : {R : Type 0} (view : R → List ℕ) (bytes text : List ℕ) (r : Option R)
    → MatchOption r (bytes_eq (take (length text) bytes) text ≡ false) (λ x. (bytes_eq (take (length text) bytes) text ≡ true) × (view x ≡ drop (length text) bytes) × (length (view x) + length text ≡ length bytes))
    → IfNone r ((rest : List ℕ) → bytes ≡ text ++ rest → ⊥)
prefix_none view bytes text None m = λ rest is. prefix_missing bytes text rest m is
prefix_none view bytes text (Some x) m = tt

-- ---- a line in its four parts

line_split : (n v r : List ℕ) → field_line (n, v) ++ r ≡ n ++ (0x3A ∷ 0x20 ∷ (v ++ (0x0D ∷ 0x0A ∷ r)))
unfolding field_line field_text
line_split n v r =
    append_assoc (n ++ (0x3A ∷ 0x20 ∷ v)) line_end r ∙ append_assoc n (0x3A ∷ 0x20 ∷ v) (0x0D ∷ 0x0A ∷ r)

pub line_there : (bytes n v r1 r2 r3 r : List ℕ) → bytes ≡ n ++ r1 → r1 ≡ 0x3A ∷ 0x20 ∷ r2 → r2 ≡ v ++ r3 → r3 ≡ 0x0D ∷ 0x0A ∷ r → bytes ≡ field_line (n, v) ++ r
line_there bytes n v r1 r2 r3 r a b c d = rw (a, b, c, d) (sym (line_split n v r))

pub no_name : (bytes n v r : List ℕ) → ((x : List ℕ) → bytes ≡ n ++ x → ⊥) → bytes ≡ field_line (n, v) ++ r → ⊥
no_name bytes n v r never is = never (0x3A ∷ 0x20 ∷ (v ++ (0x0D ∷ 0x0A ∷ r))) (is ∙ line_split n v r)

behind_name : (bytes n v r1 r : List ℕ) → bytes ≡ n ++ r1 → bytes ≡ field_line (n, v) ++ r → r1 ≡ 0x3A ∷ 0x20 ∷ (v ++ (0x0D ∷ 0x0A ∷ r))
behind_name bytes n v r1 r a is = append_cancel_left n r1 (0x3A ∷ 0x20 ∷ (v ++ (0x0D ∷ 0x0A ∷ r))) (sym a ∙ is ∙ line_split n v r)

pub no_colon : (bytes n v r1 r : List ℕ) → bytes ≡ n ++ r1 → ((x : List ℕ) → r1 ≡ 0x3A ∷ 0x20 ∷ x → ⊥) → bytes ≡ field_line (n, v) ++ r → ⊥
no_colon bytes n v r1 r a never is = never (v ++ (0x0D ∷ 0x0A ∷ r)) (behind_name bytes n v r1 r a is)

behind_colon : (bytes n v r1 r2 r : List ℕ) → bytes ≡ n ++ r1 → r1 ≡ 0x3A ∷ 0x20 ∷ r2 → bytes ≡ field_line (n, v) ++ r → r2 ≡ v ++ (0x0D ∷ 0x0A ∷ r)
behind_colon bytes n v r1 r2 r a b is = append_cancel_left (0x3A ∷ 0x20 ∷ []) r2 (v ++ (0x0D ∷ 0x0A ∷ r)) (sym b ∙ behind_name bytes n v r1 r a is)

pub no_value : (bytes n v r1 r2 r : List ℕ) → bytes ≡ n ++ r1 → r1 ≡ 0x3A ∷ 0x20 ∷ r2 → ((x : List ℕ) → r2 ≡ v ++ x → ⊥) → bytes ≡ field_line (n, v) ++ r → ⊥
no_value bytes n v r1 r2 r a b never is = never (0x0D ∷ 0x0A ∷ r) (behind_colon bytes n v r1 r2 r a b is)

pub no_end : (bytes n v r1 r2 r3 r : List ℕ) → bytes ≡ n ++ r1 → r1 ≡ 0x3A ∷ 0x20 ∷ r2 → r2 ≡ v ++ r3 → ((x : List ℕ) → r3 ≡ 0x0D ∷ 0x0A ∷ x → ⊥) → bytes ≡ field_line (n, v) ++ r → ⊥
no_end bytes n v r1 r2 r3 r a b c never is = never r (append_cancel_left v r3 (0x0D ∷ 0x0A ∷ r) (sym c ∙ behind_colon bytes n v r1 r2 r a b is))

-- ---- as a loop goes through the fields; items are those that are still to be seen

pub lines_cons : (f : Field) (fs : List Field) → fields_text (f ∷ fs) ≡ field_line f ++ fields_text fs
unfolding fields_text
lines_cons f fs = ap (λ (x : List ℕ). x ++ line_end) (flat_map-cons field_line f fs) ∙ append_assoc (field_line f) (flat_map field_line fs) line_end

pub same_answer : {P : Type 0} (r s : Bool) → (r ≡ true → P) × (P → r ≡ true) → (s ≡ true → P) × (P → s ≡ true) → r ≡ s
same_answer true true a b = refl
same_answer false false a b = refl
same_answer true false a b = sym (b.1 (a.0 refl))
same_answer false true a b = a.1 (b.0 refl)

pub line_seen : (rest later : List ℕ) (items after : List (List ℕ × FieldValue)) (name : List ℕ) (v : FieldValue) (whole : Bool) → items ≡ (name, v) ∷ after
    → rest ≡ field_line (name, v.bytes) ++ later → whole ≡ bytes_eq rest (fields_text (shown_lines items)) → whole ≡ bytes_eq later (fields_text (shown_lines after))
line_seen rest later items after name v whole is line so_far =
    let f : Field = (name, v.bytes) in
    let fs : List Field = shown_lines after in
    let text : fields_text (shown_lines items) ≡ field_line f ++ fields_text fs = ap (λ (x : List (List ℕ × FieldValue)). fields_text (shown_lines x)) is ∙ lines_cons f fs in
    let a = bytes_eq-Decides rest (fields_text (shown_lines items)) in
    let b = bytes_eq-Decides later (fields_text fs) in
    so_far ∙ same_answer {P = later ≡ fields_text fs} _ _ (
      λ t. append_cancel_left (field_line f) later (fields_text fs) (sym line ∙ a.0 t ∙ text),
      λ p. a.1 (line ∙ ap (λ (x : List ℕ). field_line f ++ x) p ∙ sym text),
    ) b

not_equal : (b : Bool) → (b ≡ true → ⊥) → b ≡ false
not_equal true never = absurd (never refl)
not_equal false never = refl

pub line_unlike : (rest : List ℕ) (items after : List (List ℕ × FieldValue)) (name : List ℕ) (v : FieldValue) (whole : Bool) → items ≡ (name, v) ∷ after
    → ((x : List ℕ) → rest ≡ field_line (name, v.bytes) ++ x → ⊥) → whole ≡ bytes_eq rest (fields_text (shown_lines items)) → whole ≡ false
line_unlike rest items after name v whole is never so_far =
    let text : fields_text (shown_lines items) ≡ field_line (name, v.bytes) ++ fields_text (shown_lines after) =
    ap (λ (x : List (List ℕ × FieldValue)). fields_text (shown_lines x)) is ∙ lines_cons (name, v.bytes) (shown_lines after) in
    so_far ∙ not_equal _ (λ t. never (fields_text (shown_lines after)) ((bytes_eq-Decides rest (fields_text (shown_lines items))).0 t ∙ text))

pub lines_ended : (rest : List ℕ) (whole : Bool) → whole ≡ bytes_eq rest (fields_text (shown_lines [])) → whole ≡ bytes_eq rest (0x0D ∷ 0x0A ∷ [])
unfolding fields_text
lines_ended rest whole so_far = so_far

-- ---- one text for one head

pub one_to_one : IsOneToOne
one_to_one = record {
  text = λ a b h first second. first.order ∙ sym second.order;
  head = λ bytes h k first second. same_Some h k (sym (header_again bytes h first) ∙ header_again bytes k second);
}
