-- What is read as an entity tag is what the grammar spells.
use Rattle.std.proofs.Common.{◌-◌, ◌≤◌, get_or, length-append, add-one}
use Rattle.std.specs.Prelude.{nat_le, ◌==◌, slice_index, slice_range}
use Rattle.std.specs.List.{list_all}
use Rattle.std.proofs.Math.Seq.{take-append_seam, get_or-append_seam}
use Rattle.std.proofs.lemmas.List.{drop_more, drop_all}
use Rattle.std.proofs.lemmas.List.Folds.{drop_split}
use borrow.Author.Tests.{leb-true, le-leb, eqb-true}
use Rattle.pcache_validation.specs.EntityTags.{Tag, Spells, after_mark, characters_in, is_etagc, is_marked, is_quoted, mark, opaque_in, quoted, read_by, tag_in, tagged}
use Rattle.pcache_validation.proofs.Words.{◌≡◌, ℕ, ◌+◌, ◌<◌, Bool, true, false, ◌&&◌, cond, List, [], ◌∷◌, ◌++◌, length, take, drop, Some, None, refl, ap, ◌∙◌, subst, arith}

both : (a b : Bool) → (a && b) ≡ true → (a ≡ true) × (b ≡ true)
both true true is = (refl, refl)
both true false is = absurd cc
both false b is = absurd cc

and_of : (a b : Bool) → a ≡ true → b ≡ true → (a && b) ≡ true
and_of true true x y = refl
and_of true false x y = absurd cc
and_of false b x y = absurd cc

and_false : (a b : Bool) → ((a && false) && b) ≡ false
and_false true b = refl
and_false false b = refl

-- ---- bytes between quotes

first_of : (xs : List ℕ) → 0 < length xs → xs ≡ get_or xs 0 0 ∷ drop 1 xs
first_of xs some = drop_more xs 0 0 some

last_of : (xs : List ℕ) (n : ℕ) → n + 1 ≡ length xs → drop n xs ≡ get_or xs n 0 ∷ []
last_of xs n is = drop_more xs n 0 (omega arith) ∙ ap (λ (rest : List ℕ). get_or xs n 0 ∷ rest) (drop_all (n + 1) xs (omega arith))

between : (xs : List ℕ) (n : ℕ) → n + 1 ≡ length xs → 1 ≤ n → get_or xs 0 0 ≡ 0x22 → get_or xs n 0 ≡ 0x22 → xs ≡ quoted (slice_range xs 1 n)
between xs n is some front back =
    first_of xs (omega arith)
    ∙ ap (λ (b : ℕ). b ∷ drop 1 xs) front
    ∙ ap (λ (rest : List ℕ). 0x22 ∷ rest) (drop_split xs 1 n some ∙ ap (λ (rest : List ℕ). slice_range xs 1 n ++ rest) (last_of xs n is ∙ ap (λ (b : ℕ). b ∷ []) back))

quoted_is : (xs : List ℕ) → is_quoted xs ≡ true → xs ≡ quoted (slice_range xs 1 (length xs - 1))
quoted_is xs is =
    let ab = both _ _ is in
    let a = both _ _ ab.0 in
    let two : 2 ≤ length xs = leb-true 2 (length xs) a.0 in
    between xs (length xs - 1) (omega arith) (omega arith) (eqb-true _ _ a.1) (eqb-true _ _ ab.1)

marked_is : (xs : List ℕ) → is_marked xs ≡ true → xs ≡ 0x57 ∷ 0x2F ∷ drop 2 xs
marked_is xs is =
    let ab = both _ _ is in
    let a = both _ _ ab.0 in
    let two : 2 ≤ length xs = leb-true 2 (length xs) a.0 in
    first_of xs (omega arith)
    ∙ ap (λ (b : ℕ). b ∷ drop 1 xs) (eqb-true _ _ a.1)
    ∙ ap (λ (rest : List ℕ). 0x57 ∷ rest) (drop_more xs 1 0 (omega arith) ∙ ap (λ (b : ℕ). b ∷ drop 2 xs) (eqb-true _ _ ab.1))

-- ---- what is read is spelled

pub record Inside (weak : Bool) (bytes : List ℕ) (tag : Tag) : Type 0 where
  pub same : weak ≡ tag.weak
  pub spelled : bytes ≡ quoted tag.opaque
  pub characters : list_all is_etagc tag.opaque ≡ true

inside_all : (weak : Bool) (bytes inner : List ℕ) (tag : Tag) (all : Bool) → list_all is_etagc inner ≡ all → bytes ≡ quoted inner
    → tagged weak (cond all (Some inner) None) ≡ Some tag → Inside weak bytes tag
inside_all weak bytes inner tag true good is read = record {
  same = let e : weak ≡ tag.weak = cc in e;
  spelled = let e : inner ≡ tag.opaque = cc in is ∙ ap quoted e;
  characters = let e : inner ≡ tag.opaque = cc in subst (λ (o : List ℕ). list_all is_etagc o ≡ true) e good;
}
inside_all weak bytes inner tag false good is read = absurd cc

inside_quotes : (weak : Bool) (bytes : List ℕ) (tag : Tag) (in_quotes : Bool) → is_quoted bytes ≡ in_quotes
    → tagged weak (cond in_quotes (characters_in (slice_range bytes 1 (length bytes - 1))) None) ≡ Some tag → Inside weak bytes tag
inside_quotes weak bytes tag true is read =
    inside_all weak bytes (slice_range bytes 1 (length bytes - 1)) tag (list_all is_etagc (slice_range bytes 1 (length bytes - 1))) refl (quoted_is bytes is) read
inside_quotes weak bytes tag false is read = absurd cc

inside : (weak : Bool) (bytes : List ℕ) (tag : Tag) → tagged weak (opaque_in bytes) ≡ Some tag → Inside weak bytes tag
inside weak bytes tag read = inside_quotes weak bytes tag (is_quoted bytes) refl read

spelled_by : (bytes : List ℕ) (tag : Tag) (marked : Bool) → is_marked bytes ≡ marked → read_by (cond marked (Some (drop 2 bytes)) None) bytes ≡ Some tag → Spells bytes tag
spelled_by bytes tag true is read =
    let inner = inside true (drop 2 bytes) tag read in
    record {
      spelled = marked_is bytes is ∙ ap (λ (rest : List ℕ). 0x57 ∷ 0x2F ∷ rest) inner.spelled ∙ ap (λ (w : Bool). mark w ++ quoted tag.opaque) inner.same;
      characters = inner.characters;
    }
spelled_by bytes tag false is read =
    let inner = inside false bytes tag read in
    record {
      spelled = inner.spelled ∙ ap (λ (w : Bool). mark w ++ quoted tag.opaque) inner.same;
      characters = inner.characters;
    }

pub read_is_spelled : (bytes : List ℕ) (tag : Tag) → tag_in bytes ≡ Some tag → Spells bytes tag
unfolding tag_in
read_is_spelled bytes tag read = spelled_by bytes tag (is_marked bytes) refl read

-- ---- what is spelled is read

length_quoted : (o : List ℕ) → length (quoted o) ≡ length o + 2
length_quoted o = simp length-append (omega arith)

quoted_at_end : (o : List ℕ) → get_or (quoted o) (length o + 1) 0 ≡ 0x22
quoted_at_end o = rw add-one (get_or-append_seam o 0x22 [] 0)

quoted_front : (o : List ℕ) (k : ℕ) → k ≡ length o → take k (o ++ 0x22 ∷ []) ≡ o
quoted_front o k is = ap (λ (n : ℕ). take n (o ++ 0x22 ∷ [])) is ∙ take-append_seam o (0x22 ∷ [])

is_quoted_quoted : (o : List ℕ) → is_quoted (quoted o) ≡ true
is_quoted_quoted o =
    let long : length (quoted o) ≡ length o + 2 = length_quoted o in
    let last : length o + 1 ≡ length (quoted o) - 1 = omega arith in
    and_of (nat_le 2 (length (quoted o)) && (0x22 == 0x22)) _
    (and_of (nat_le 2 (length (quoted o))) _ (le-leb 2 (length (quoted o)) (omega arith)) refl)
    (subst (λ (n : ℕ). (get_or (quoted o) n 0 == 0x22) ≡ true) last (ap (λ (b : ℕ). b == 0x22) (quoted_at_end o)))

inner_quoted : (o : List ℕ) → slice_range (quoted o) 1 (length (quoted o) - 1) ≡ o
inner_quoted o = let long : length (quoted o) ≡ length o + 2 = length_quoted o in quoted_front o (length (quoted o) - 1 - 1) (omega arith)

opaque_quoted : (o : List ℕ) → list_all is_etagc o ≡ true → opaque_in (quoted o) ≡ Some o
opaque_quoted o good =
    ap (λ (b : Bool). cond b (characters_in (slice_range (quoted o) 1 (length (quoted o) - 1))) None) (is_quoted_quoted o)
    ∙ ap characters_in (inner_quoted o)
    ∙ ap (λ (b : Bool). cond b (Some o) None) good

is_marked_mark : (rest : List ℕ) → is_marked (0x57 ∷ 0x2F ∷ rest) ≡ true
is_marked_mark rest = and_of _ _ (and_of _ _ (le-leb 2 (length (0x57 ∷ 0x2F ∷ rest)) (omega arith)) refl) refl

is_marked_quoted : (o : List ℕ) → is_marked (quoted o) ≡ false
is_marked_quoted o = and_false (nat_le 2 (length (quoted o))) (slice_index (quoted o) 1 == 0x2F)

read_of : (weak : Bool) (o : List ℕ) → list_all is_etagc o ≡ true → read_by (after_mark (mark weak ++ quoted o)) (mark weak ++ quoted o) ≡ Some (record { weak = weak; opaque = o })
read_of true o good =
    ap (λ (b : Bool). read_by (cond b (Some (quoted o)) None) (0x57 ∷ 0x2F ∷ quoted o)) (is_marked_mark (quoted o))
    ∙ ap (tagged true) (opaque_quoted o good)
read_of false o good =
    ap (λ (b : Bool). read_by (cond b (Some (drop 2 (quoted o))) None) (quoted o)) (is_marked_quoted o)
    ∙ ap (tagged false) (opaque_quoted o good)

pub spelled_is_read : (bytes : List ℕ) (tag : Tag) → Spells bytes tag → tag_in bytes ≡ Some tag
unfolding tag_in
spelled_is_read bytes tag is = ap (λ (bs : List ℕ). read_by (after_mark bs) bs) is.spelled ∙ read_of tag.weak tag.opaque is.characters
