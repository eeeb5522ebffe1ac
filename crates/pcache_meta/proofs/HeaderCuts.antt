-- Parts of a text that is read line by line.
use Rattle.std.proofs.Common.{length-append}
use Rattle.std.specs.List.{slice_range}
use Rattle.std.proofs.Math.Seq.{drop-append-add}
use Rattle.pcache_meta.specs.HeaderReading.{BeginsWith, EndsWith}
use Rattle.pcache_meta.specs.Reading.{mark_at}
use Rattle.pcache_meta.proofs.Words.{◌≡◌, ℕ, ◌+◌, ◌-◌, ◌≤◌, List, [], ◌∷◌, ◌++◌, length, take, drop, Some, sym, ap, ◌∙◌, append_assoc, arith, take-append_seam, drop-append_seam, line_from, name_from}
use Rattle.pcache_meta.proofs.Exact.{mark_takes}
use Rattle.pcache_meta.proofs.HeaderExact.{line_takes, name_takes}

-- the first line, and what is behind it
pub first_line : (bytes line behind : List ℕ) → line_from [] bytes ≡ Some (line, behind) → bytes ≡ line ++ (0x0D ∷ 0x0A ∷ behind)
first_line bytes line behind e = let (k, is, whole) = line_takes [] bytes line behind e in rw is whole

pub begins : (bytes line behind : List ℕ) → line_from [] bytes ≡ Some (line, behind) → BeginsWith bytes line
begins bytes line behind e = (0x0D ∷ 0x0A ∷ behind, first_line bytes line behind e)

pub line_end_within : (bytes line behind : List ℕ) → line_from [] bytes ≡ Some (line, behind) → length line + 2 ≤ length bytes
line_end_within bytes line behind e =
    let size = ap (λ (x : List ℕ). length x) (first_line bytes line behind e) ∙ length-append line (0x0D ∷ 0x0A ∷ behind) in
    omega (arith, size)

pub behind_line : (bytes line behind : List ℕ) → line_from [] bytes ≡ Some (line, behind) → drop (length line + 2) bytes ≡ behind
behind_line bytes line behind e =
    ap (λ (x : List ℕ). drop (length line + 2) x) (first_line bytes line behind e) ∙ drop-append-add line (0x0D ∷ 0x0A ∷ behind) 2

-- the bytes before the colon are those with which the text begins
pub begins_name : (text line name rest : List ℕ) → BeginsWith text line → name_from [] line ≡ Some (name, rest) → BeginsWith text name
begins_name text line name rest whole e =
    let (k, is, cut) = name_takes [] line name rest e in
    ((0x3A ∷ rest) ++ whole.0, whole.1 ∙ ap (λ (x : List ℕ). x ++ whole.0) (cut ∙ ap (λ (x : List ℕ). x ++ 0x3A ∷ rest) (sym is)) ∙ append_assoc name (0x3A ∷ rest) whole.0)

-- the bytes behind the colon and the space are those with which the line ends
pub ends_value : (line name rest value : List ℕ) → name_from [] line ≡ Some (name, rest) → mark_at 0x20 rest ≡ Some value → EndsWith line value
ends_value line name rest value e space =
    let (k, is, cut) = name_takes [] line name rest e in
    let gap = mark_takes 0x20 rest value space in
    (k ++ (0x3A ∷ 0x20 ∷ []), cut ∙ ap (λ (x : List ℕ). k ++ 0x3A ∷ x) gap ∙ sym (append_assoc k (0x3A ∷ 0x20 ∷ []) value))

-- the front of a text
pub cut_front : (text front : List ℕ) → BeginsWith text front → slice_range text 0 (length front) ≡ front
cut_front text front whole =
    let count : length front - 0 ≡ length front = omega arith in
    rw count (ap (λ (x : List ℕ). take (length front) x) whole.1 ∙ take-append_seam front whole.0)

pub front_within : (text front : List ℕ) → BeginsWith text front → length front ≤ length text
front_within text front whole =
    let size = ap (λ (x : List ℕ). length x) whole.1 ∙ length-append front whole.0 in
    omega (arith, size)

-- the end of a line with which a text begins
pub cut_end : (text line value : List ℕ) → BeginsWith text line → EndsWith line value → slice_range text (length line - length value) (length line) ≡ value
cut_end text line value whole is =
    let front : List ℕ = is.0 in
    let size : length line ≡ length front + length value = ap (λ (x : List ℕ). length x) is.1 ∙ length-append front value in
    let at : length line - length value ≡ length front = omega (arith, size) in
    let count : length line - length front ≡ length value = omega (arith, size) in
    let parts : text ≡ front ++ (value ++ whole.0) = whole.1 ∙ ap (λ (x : List ℕ). x ++ whole.0) is.1 ∙ append_assoc front value whole.0 in
    rw at (rw count (
    ap (λ (x : List ℕ). take (length value) (drop (length front) x)) parts
    ∙ ap (λ (x : List ℕ). take (length value) x) (drop-append_seam front (value ++ whole.0))
    ∙ take-append_seam value whole.0
    ))

pub end_within : (line value : List ℕ) → EndsWith line value → length value ≤ length line
end_within line value is =
    let size = ap (λ (x : List ℕ). length x) is.1 ∙ length-append is.0 value in
    omega (arith, size)
