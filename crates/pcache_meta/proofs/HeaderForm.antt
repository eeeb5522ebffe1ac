-- The lines of a text are those of a head exactly when the text spells a head.
use Rattle.std.proofs.Common.{length-append}
use Rattle.std.specs.Prelude.{not}
use Rattle.http_header.proofs.CountLemmas.{length-pairs}
use Rattle.pcache_meta.specs.HeaderText.{field_text, field_line, fields_text, status_text, header_text}
use Rattle.pcache_meta.specs.HeaderForm.{name_then_at, then_lines, lines_from, lines_at, are_fields, are_lines}
use Rattle.pcache_meta.specs.HeaderReading.{field_at, status_line_at}
use Rattle.pcache_meta.proofs.Words.{◌≡◌, ℕ, zero, suc, ◌+◌, ◌-◌, ◌^◌, ◌<◌, ◌≤◌, Bool, true, false, cond, eqb, List, [], ◌∷◌, ◌++◌, length, map, take, Option, Some, None, refl, sym, ap, ◌∙◌, append_assoc, arith, inl, inr, All, ◌&&◌, ◌||◌, bytes_eq, slice_set, append_cancel_left, All-nil, All-cons, All-head, All-tail, some_pair_parts, bytes_eq-Decides, pairs, Fields, Header, Field, IsField, fields_of, line_end, SpellsHeader, IsHeaderText, has_any, has_name, is_among, starts_with_name, are_grouped, line_from, ◌>>=◌, HttpVersion}
use Rattle.pcache_meta.proofs.Exact.{after, chosen}
use Rattle.pcache_meta.proofs.HeaderExact.{after_one, field_takes, field_again, field_no_return, line_takes, line_again, fields_cons, status_line_takes, status_line_again, status_no_return, text_parts, joined}
use Rattle.pcache_meta.proofs.HeaderGroups.{IsSet-fields_of, made_again, grouped-pairs, map_of, valid-fields_of}
use Rattle.pcache_meta.proofs.HeaderLines.{line_shorter}
use Rattle.pcache_meta.proofs.HeaderNames.{and_true, and_parts}
use Rattle.pcache_meta.proofs.HeaderOrder.{lines_cons, same_answer}

-- ---- the fields that lines are

line_step : (front bytes text behind : List ℕ) → line_from front bytes ≡ Some (text, behind) → lines_from front bytes ≡ then_lines (field_at text) (lines_from [] behind)
line_step front [] text behind e = absurd cc
line_step front (a ∷ []) text behind e = absurd cc
line_step front (a ∷ b ∷ bytes) text behind e = elim (chosen (eqb a 0x0D && eqb b 0x0A) _ _ _ e) [
  | inl p ↦ let same = some_pair_parts front text bytes behind p.1 in rw (p.0, ← same.0, ← same.1) refl
  | inr p ↦ rw p.0 (line_step (front ++ a ∷ []) (b ∷ bytes) text behind p.1)
]

line_none : (front bytes : List ℕ) → line_from front bytes ≡ None → lines_from front bytes ≡ []
line_none front [] e = refl
line_none front (a ∷ []) e = refl
line_none front (a ∷ b ∷ bytes) e = elim (chosen (eqb a 0x0D && eqb b 0x0A) _ _ _ e) [
  | inl p ↦ absurd (cc p.1)
  | inr p ↦ rw p.0 (line_none (front ++ a ∷ []) (b ∷ bytes) p.1)
]

lines_step : (bytes text behind : List ℕ) → line_from [] bytes ≡ Some (text, behind) → lines_at bytes ≡ then_lines (field_at text) (lines_at behind)
unfolding lines_at
lines_step bytes text behind e = line_step [] bytes text behind e

-- what the first line is
pub record FirstLine (bytes name behind : List ℕ) : Type 0 where
  pub field : Field
  pub named : field.0 ≡ name
  pub lines : lines_at bytes ≡ field ∷ lines_at behind
  pub text : bytes ≡ field_line field ++ behind
  pub shorter : length behind < length bytes

pub first_line : (bytes name behind : List ℕ) → name_then_at bytes ≡ Some (name, behind) → FirstLine bytes name behind
unfolding name_then_at field_line
first_line bytes name behind e = after (line_from [] bytes) _ (name, behind) e (λ text rest line go.
    let (k, is, whole) = line_takes [] bytes text rest line in
    after_one (field_at text) _ (name, behind) go (λ f read end.
    let same = some_pair_parts f.0 name rest behind end in
    let text_is : k ≡ field_text f = sym is ∙ (field_takes text f read).1 in
    record {
      field = f;
      named = same.0;
      lines = lines_step bytes text rest line ∙ rw (read, same.1) refl;
      text = whole ∙ rw (text_is, same.1) (sym (append_assoc (field_text f) line_end behind));
      shorter = rw (← same.1) (line_shorter [] bytes text rest line);
    }))

abbrev then_name : List ℕ → Option Field → Option (List ℕ × List ℕ)
then_name rest o = o >>= λ field. Some (field.0, rest)

no_field : (o : Option Field) (rest : List ℕ) (lines : List Field) → then_name rest o ≡ None → then_lines o lines ≡ []
no_field None rest lines none = refl
no_field (Some f) rest lines none = absurd (cc none)

pub no_lines : (bytes : List ℕ) → name_then_at bytes ≡ None → lines_at bytes ≡ []
unfolding name_then_at lines_at
no_lines bytes e = go (line_from [] bytes) refl e where
  go : (o : Option (List ℕ × List ℕ)) → line_from [] bytes ≡ o → (o >>= λ parts. then_name parts.1 (field_at parts.0)) ≡ None → lines_from [] bytes ≡ []
  go None line none = line_none [] bytes line
  go (Some p) line none = line_step [] bytes p.0 p.1 line ∙ no_field (field_at p.0) p.1 (lines_from [] p.1) none

-- ---- as loops go through the lines

pub fields_on : (bytes name behind : List ℕ) → FirstLine bytes name behind → are_fields bytes ≡ are_fields behind
unfolding are_fields
fields_on bytes name behind first =
    let line : List ℕ = field_line first.field in
    let later : List ℕ = fields_text (lines_at behind) in
    let text : fields_text (lines_at bytes) ≡ line ++ later = ap fields_text first.lines ∙ lines_cons first.field (lines_at behind) in
    let a = bytes_eq-Decides bytes (fields_text (lines_at bytes)) in
    let b = bytes_eq-Decides behind later in
    same_answer {P = behind ≡ later} _ _ (
      λ t. append_cancel_left line behind later (sym first.text ∙ a.0 t ∙ text),
      λ p. a.1 (first.text ∙ ap (λ (x : List ℕ). line ++ x) p ∙ sym text),
    ) b

pub fields_end : (bytes : List ℕ) → lines_at bytes ≡ [] → are_fields bytes ≡ bytes_eq bytes (0x0D ∷ 0x0A ∷ [])
unfolding are_fields fields_text
fields_end bytes none = rw none refl

pub first_has : (bytes other behind name : List ℕ) → FirstLine bytes other behind → starts_with_name name (lines_at bytes) ≡ bytes_eq other name
first_has bytes other behind name first = ap (starts_with_name name) first.lines ∙ ap (λ (n : List ℕ). bytes_eq n name) first.named

is_first : (bytes name behind : List ℕ) (names : List (List ℕ)) → FirstLine bytes name behind
    → has_any names (lines_at bytes) ≡ (is_among name names || has_any names (lines_at behind))
is_first bytes name behind names first =
    ap (has_any names) first.lines ∙ ap (λ (n : List ℕ). is_among n names || has_any names (lines_at behind)) first.named

pub any_found : (bytes name behind : List ℕ) (names : List (List ℕ)) → FirstLine bytes name behind → is_among name names ≡ true
    → has_any names (lines_at bytes) ≡ true
any_found bytes name behind names first is = is_first bytes name behind names first ∙ rw is refl

pub any_on : (bytes name behind : List ℕ) (names : List (List ℕ)) → FirstLine bytes name behind → is_among name names ≡ false
    → has_any names (lines_at bytes) ≡ has_any names (lines_at behind)
any_on bytes name behind names first is = is_first bytes name behind names first ∙ rw is refl

pub any_none : (bytes : List ℕ) (names : List (List ℕ)) → lines_at bytes ≡ [] → has_any names (lines_at bytes) ≡ false
any_none bytes names none = ap (has_any names) none

-- ---- lines after names that they may not have

-- the lines are grouped, and have none of the names
abbrev pub grouped_with : List (List ℕ) → ℕ → List Field → Bool
grouped_with names room lines = not (has_any names lines) && are_grouped room lines

no_names : (lines : List Field) → has_any [] lines ≡ false
no_names [] = refl
no_names (f ∷ lines) = no_names lines

pub with_none : (room : ℕ) (lines : List Field) → are_grouped room lines ≡ grouped_with [] room lines
with_none room lines = rw (no_names lines) refl

or_twice : (a b c : Bool) → a ≡ b → (a || (b || c)) ≡ (b || c)
or_twice true b c is = rw (← is) refl
or_twice false b c is = refl

or_swap : (a b c d : Bool) → ((a || b) || (c || d)) ≡ ((a || c) || (b || d))
or_swap true b c d = refl
or_swap false true true d = refl
or_swap false true false d = refl
or_swap false false c d = refl

among_more : (name n : List ℕ) (names : List (List ℕ)) → is_among name (names ++ n ∷ []) ≡ (is_among name names || bytes_eq n name)
among_more name n [] = or_none (bytes_eq n name) where
  or_none : (b : Bool) → (b || false) ≡ b
  or_none true = refl
  or_none false = refl
among_more name n (m ∷ names) = ap (λ (b : Bool). bytes_eq m name || b) (among_more name n names) ∙ or_apart (bytes_eq m name) (is_among name names) (bytes_eq n name) where
  or_apart : (a b c : Bool) → (a || (b || c)) ≡ ((a || b) || c)
  or_apart true b c = refl
  or_apart false b c = refl

either_way : (xs ys : List ℕ) → bytes_eq xs ys ≡ bytes_eq ys xs
either_way xs ys = same_answer {P = xs ≡ ys} _ _ (bytes_eq-Decides xs ys) (λ t. sym ((bytes_eq-Decides ys xs).0 t), λ p. (bytes_eq-Decides ys xs).1 (sym p))

-- one more name that the lines may not have
any_more : (names : List (List ℕ)) (n : List ℕ) (lines : List Field) → has_any (names ++ n ∷ []) lines ≡ (has_any names lines || has_name n lines)
any_more names n [] = refl
any_more names n (f ∷ lines) =
    ap (λ (b : Bool). b || has_any (names ++ n ∷ []) lines) (among_more f.0 n names ∙ ap (λ (b : Bool). is_among f.0 names || b) (either_way n f.0))
    ∙ ap (λ (b : Bool). (is_among f.0 names || bytes_eq f.0 n) || b) (any_more names n lines)
    ∙ or_swap (is_among f.0 names) (bytes_eq f.0 n) (has_any names lines) (has_name n lines)

among_same : (names : List (List ℕ)) (name : List ℕ) (lines : List Field) → starts_with_name name lines ≡ true → (is_among name names || has_any names lines) ≡ has_any names lines
among_same names name [] first = absurd (cc first)
among_same names name (f ∷ lines) first =
    let same : f.0 ≡ name = (bytes_eq-Decides f.0 name).0 first in
    or_twice (is_among name names) (is_among f.0 names) (has_any names lines) (ap (λ (n : List ℕ). is_among n names) (sym same))

and_never : (a : Bool) → (not a && false) ≡ false
and_never true = refl
and_never false = refl

pub group_on : (names : List (List ℕ)) (room : ℕ) (bytes name behind : List ℕ) → FirstLine bytes name behind → starts_with_name name (lines_at behind) ≡ true
    → grouped_with names room (lines_at bytes) ≡ grouped_with names room (lines_at behind)
group_on names room bytes name behind first same =
    ap (grouped_with names room) first.lines ∙ rw (first.named, same) (ap (λ (b : Bool). not b && are_grouped room (lines_at behind)) (among_same names name (lines_at behind) same))

pub group_full : (names : List (List ℕ)) (room : ℕ) (bytes name behind : List ℕ) → FirstLine bytes name behind → starts_with_name name (lines_at behind) ≡ false
    → eqb room 0 ≡ true → grouped_with names room (lines_at bytes) ≡ false
group_full names room bytes name behind first new full =
    ap (grouped_with names room) first.lines ∙ rw (first.named, new, full) (and_never (is_among name names || has_any names (lines_at behind)))

pub group_again : (names : List (List ℕ)) (room : ℕ) (bytes name behind : List ℕ) → FirstLine bytes name behind → is_among name names ≡ true
    → grouped_with names room (lines_at bytes) ≡ false
group_again names room bytes name behind first again = ap (λ (b : Bool). not b && are_grouped room (lines_at bytes)) (any_found bytes name behind names first again)

pub group_new : (names : List (List ℕ)) (room : ℕ) (bytes name behind : List ℕ) → FirstLine bytes name behind → starts_with_name name (lines_at behind) ≡ false
    → eqb room 0 ≡ false → is_among name names ≡ false → grouped_with names room (lines_at bytes) ≡ grouped_with (names ++ name ∷ []) (room - 1) (lines_at behind)
group_new names room bytes name behind first new left fresh =
    ap (grouped_with names room) first.lines
    ∙ rw (first.named, new, left, fresh, any_more names name (lines_at behind)) (moved (has_any names (lines_at behind)) (has_name name (lines_at behind)) (are_grouped (room - 1) (lines_at behind))) where
      moved : (a b c : Bool) → (not a && cond b false c) ≡ (not (a || b) && c)
      moved true b c = refl
      moved false true c = refl
      moved false false c = refl

pub group_met : (names : List (List ℕ)) (room : ℕ) (bytes name behind : List ℕ) → FirstLine bytes name behind → is_among name names ≡ false
    → has_any names (lines_at behind) ≡ true → grouped_with names room (lines_at bytes) ≡ false
group_met names room bytes name behind first fresh met = ap (λ (b : Bool). not b && are_grouped room (lines_at bytes)) (any_on bytes name behind names first fresh ∙ met)

-- names that the lines do not have may be let go
pub names_missed : (names : List (List ℕ)) (n : List ℕ) (room : ℕ) (lines : List Field) → has_any names lines ≡ false
    → grouped_with (names ++ n ∷ []) room lines ≡ grouped_with (n ∷ []) room lines
names_missed names n room lines missed =
    ap (λ (b : Bool). not b && are_grouped room lines)
    (any_more names n lines ∙ ap (λ (b : Bool). b || has_name n lines) (missed ∙ sym (no_names lines)) ∙ sym (any_more [] n lines))

-- a name put after those before it
pub taken_more : {A : Type 0} (view : A → List ℕ) (xs : List A) (i : ℕ) (x : A) → i < length xs → map view (take (i + 1) (slice_set xs i x)) ≡ map view (take i xs) ++ view x ∷ []
taken_more view [] i x within = absurd (omega (arith, within))
taken_more view (y ∷ xs) zero x within = refl
taken_more view (y ∷ xs) (suc i) x within =
    let next : suc i + 1 ≡ suc (i + 1) = omega arith in
    rw next (ap (λ (ns : List (List ℕ)). view y ∷ ns) (taken_more view xs i x (omega (arith, within))))

pub group_end : (names : List (List ℕ)) (room : ℕ) (bytes : List ℕ) → lines_at bytes ≡ [] → grouped_with names room (lines_at bytes) ≡ true
group_end names room bytes none = ap (grouped_with names room) none

-- ---- the whole text

-- what is read as a field is one
then_valid : (text : List ℕ) (lines : List Field) → All IsField lines → All IsField (then_lines (field_at text) lines)
then_valid text lines valid = go (field_at text) refl where
  go : (o : Option Field) → field_at text ≡ o → All IsField (then_lines o lines)
  go None read = All-nil IsField
  go (Some f) read = All-cons IsField f lines (field_takes text f read).0 valid

lines_valid : (front bytes : List ℕ) → All IsField (lines_from front bytes)
lines_valid front [] = All-nil IsField
lines_valid front (a ∷ []) = All-nil IsField
lines_valid front (a ∷ b ∷ bytes) = elim (eqb a 0x0D && eqb b 0x0A)
    as (λ t. All IsField (cond t (then_lines (field_at front) (lines_from [] bytes)) (lines_from (front ++ a ∷ []) (b ∷ bytes)))) [
      | true ↦ then_valid front (lines_from [] bytes) (lines_valid [] bytes)
      | false ↦ lines_valid (front ++ a ∷ []) (b ∷ bytes)
    ]

-- lines of fields are read as those fields
lines_again : (lines : List Field) → All IsField lines → lines_at (fields_text lines) ≡ lines
unfolding lines_at fields_text field_at
lines_again [] valid = refl
lines_again (f ∷ lines) valid =
    let field = All-head IsField f lines valid in
    let line = line_again [] (field_text f) (fields_text lines) (field_no_return f field) in
    ap lines_at (fields_cons f lines) ∙ lines_step (field_text f ++ (0x0D ∷ 0x0A ∷ fields_text lines)) (field_text f) (fields_text lines) line
    ∙ rw (field_again f field) (ap (λ (ls : List Field). f ∷ ls) (lines_again lines (All-tail IsField f lines valid)))

-- there are no more lines than bytes
lines_few : (lines : List Field) → length lines ≤ length (fields_text lines)
unfolding fields_text field_line
lines_few [] = omega arith
lines_few (f ∷ lines) =
    let size = ap (λ (x : List ℕ). length x) (fields_cons f lines) in
    omega (arith, lines_few lines, size, length-append (field_text f) (0x0D ∷ 0x0A ∷ fields_text lines))

-- of lines that are grouped by name, the map that they make has those lines
grouped_lines : (lines : List Field) → are_grouped 24576 lines ≡ true → (pairs (fields_of lines) ≡ lines) × (length (fields_of lines) ≤ 24576)
grouped_lines lines grouped =
    let made = map_of 24576 lines grouped in
    let same : fields_of lines ≡ made.fields = ap fields_of (sym made.made) ∙ made_again made.fields made.is in
    (ap (λ (m : Fields). pairs m) same ∙ made.made, rw same made.few)

-- lines of fields, grouped by name
lines_are : (rest : List ℕ) → are_lines rest ≡ true → (rest ≡ fields_text (lines_at rest)) × (are_grouped 24576 (lines_at rest) ≡ true)
unfolding are_fields
lines_are rest e =
    let parts = and_parts (are_fields rest) (are_grouped 24576 (lines_at rest)) e in
    ((bytes_eq-Decides rest (fields_text (lines_at rest))).0 parts.0, parts.1)

is_text : (bytes line rest : List ℕ) (x : HttpVersion × ℕ) → length bytes < 2 ^ 64 → line_from [] bytes ≡ Some (line, rest) → status_line_at line ≡ Some x
    → are_lines rest ≡ true → IsHeaderText bytes
unfolding lines_at
is_text bytes line rest x long first status told =
    let lines : List Field = lines_at rest in
    let (k, is, whole) = line_takes [] bytes line rest first in
    let said = status_line_takes line x status in
    let parts = lines_are rest told in
    let stands = grouped_lines lines parts.1 in
    let written : bytes ≡ header_text x.0 x.1 lines = joined bytes k line rest (status_text x.0 x.1) (fields_text lines) whole is said.0 parts.0 ∙ sym (text_parts x.0 x.1 lines) in
    let size = ap (λ (b : List ℕ). length b) whole in
    let rest_size = ap (λ (b : List ℕ). length b) parts.0 in
    let count = ap (λ (ls : List Field). length ls) stands.0 in (
      record { version = x.0; status = x.1; fields = fields_of lines },
      record {
        lines = lines;
        text = written;
        status = said.1;
        valid = lines_valid [] rest;
        fields = refl;
        held = (stands.1, omega (arith, long, size, rest_size, count, length-append k (0x0D ∷ 0x0A ∷ rest), lines_few lines, length-pairs (fields_of lines)));
        order = written ∙ ap (λ (ls : List Field). header_text x.0 x.1 ls) (sym stands.0);
      },
    )

-- the first line of a head's text, and the lines of its fields
spelled_line : (bytes : List ℕ) (h : Header) (s : SpellsHeader bytes h) → line_from [] bytes ≡ Some (status_text h.version h.status, fields_text s.lines)
spelled_line bytes h s =
    let whole : bytes ≡ status_text h.version h.status ++ (0x0D ∷ 0x0A ∷ fields_text s.lines) = s.text ∙ text_parts h.version h.status s.lines in
    ap (λ (b : List ℕ). line_from [] b) whole ∙ line_again [] (status_text h.version h.status) (fields_text s.lines) (status_no_return h.version h.status)

-- its lines are those of its map
spelled_lines : (bytes : List ℕ) (h : Header) (s : SpellsHeader bytes h) → s.lines ≡ pairs (fields_of s.lines)
unfolding header_text
spelled_lines bytes h s =
    let same : fields_text s.lines ≡ fields_text (pairs (fields_of s.lines)) =
    append_cancel_left (status_text h.version h.status ++ line_end) _ _ (sym s.text ∙ s.order ∙ ap (λ (m : Fields). header_text h.version h.status (pairs m)) s.fields) in
    sym (lines_again s.lines s.valid) ∙ ap lines_at same ∙ lines_again (pairs (fields_of s.lines)) (valid-fields_of s.lines s.valid)

spelled_grouped : (bytes : List ℕ) (h : Header) (s : SpellsHeader bytes h) → are_grouped 24576 s.lines ≡ true
spelled_grouped bytes h s =
    let few : length (fields_of s.lines) ≤ 24576 = rw (← s.fields) s.held.0 in
    ap (are_grouped 24576) (spelled_lines bytes h s) ∙ grouped-pairs 24576 (fields_of s.lines) (IsSet-fields_of s.lines) few

lines_told : (lines : List Field) → All IsField lines → are_fields (fields_text lines) ≡ true
unfolding are_fields
lines_told lines valid = (bytes_eq-Decides (fields_text lines) (fields_text (lines_at (fields_text lines)))).1 (ap fields_text (sym (lines_again lines valid)))

pub record IsTold (line rest : List ℕ) (h : Header) : Type 0 where
  pub status : status_line_at line ≡ Some (h.version, h.status)
  pub lines : are_lines rest ≡ true

was_text : (bytes line rest : List ℕ) (h : Header) → SpellsHeader bytes h → line_from [] bytes ≡ Some (line, rest) → IsTold line rest h
was_text bytes line rest h s first =
    let same = some_pair_parts (status_text h.version h.status) line (fields_text s.lines) rest (sym (spelled_line bytes h s) ∙ first) in
    record {
      status = rw (← same.0) (status_line_again h.version h.status s.status);
      lines = rw (← same.1) (and_true (are_fields (fields_text s.lines)) (are_grouped 24576 (lines_at (fields_text s.lines)))
          (lines_told s.lines s.valid) (ap (are_grouped 24576) (lines_again s.lines s.valid) ∙ spelled_grouped bytes h s));
    }

pub no_text : (bytes : List ℕ) → line_from [] bytes ≡ None → IsHeaderText bytes → ⊥
no_text bytes none told = let some = spelled_line bytes told.0 told.1 in absurd (cc (none, some))

pub no_status : (bytes line rest : List ℕ) → line_from [] bytes ≡ Some (line, rest) → status_line_at line ≡ None → IsHeaderText bytes → ⊥
no_status bytes line rest first none told = let some = (was_text bytes line rest told.0 told.1 first).status in absurd (cc (none, some))

pub told_by_lines : (bytes line rest : List ℕ) (x : HttpVersion × ℕ) (answer : Bool) → length bytes < 2 ^ 64 → line_from [] bytes ≡ Some (line, rest)
    → status_line_at line ≡ Some x → answer ≡ are_lines rest → (answer ≡ true → IsHeaderText bytes) × (IsHeaderText bytes → answer ≡ true)
told_by_lines bytes line rest x answer long first status is =
    (λ true_is. is_text bytes line rest x long first status (sym is ∙ true_is), λ told. is ∙ (was_text bytes line rest told.0 told.1 first).lines)
