-- Where a head ends: as it is found byte by byte, and as it is defined by its lines.
use Rattle.std.proofs.Common.{append_assoc}
use Rattle.std.proofs.Math.Seq.{take-append_seam}
use Rattle.std.proofs.lemmas.Bool.{eqb-false, ne_eqb}
use Rattle.std.proofs.lemmas.List.{append_cancel_right, take-append-drop}
use Rattle.std.proofs.lemmas.List.Concat.{flat_map-cons}
use Rattle.std.proofs.lemmas.List.Elements.{All-nil, All-cons, All-head, All-tail}
use Rattle.pcache_response.specs.HeadEnd.{IsEmpty, IsFull, IsWhole, joined}
use Rattle.pcache_response.specs.declared.head_end.HeadState.TheVariants.{BlankReturn, LineStart, LineReturn}
use Rattle.pcache_response.proofs.Words.{◌≡◌, ◌≢◌, ℕ, suc, ◌+◌, ◌<◌, ◌≤◌, inl, inr, true, false, List, [], ◌∷◌, ◌++◌, length, take, drop, refl, sym, ap, subst, ◌∙◌, arith, length-append, length-take, All, ◌==◌, eqb-true, nil_from_length, take-append-le, All-push, EndsAt, IsUnfinished, next, state_after, CutsAt, NeverCuts, HeadState, Blank, Inside, Ended}
use Rattle.pcache_response.proofs.Joins.{state-append, CutsAt-unique}

joined-cons : (l : List ℕ) (ls : List (List ℕ)) → joined (l ∷ ls) ≡ l ++ joined ls
joined-cons l ls = flat_map-cons (λ (x : List ℕ). x) l ls

-- ---- what is defined is found

text_inside : (text : List ℕ) → All (λ b. b ≢ 0x0A) text → state_after Inside text ≡ Inside
text_inside [] all = refl
text_inside (b ∷ text) all =
    let feed : (b == 0x0A) ≡ false = ne_eqb b 0x0A (All-head (λ x. x ≢ 0x0A) b text all) in
    rw feed (text_inside text (All-tail (λ x. x ≢ 0x0A) b text all))

line_inside : (text : List ℕ) → All (λ b. b ≢ 0x0A) text → state_after Inside (text ++ 0x0A ∷ []) ≡ LineStart
line_inside text all = state-append Inside text (0x0A ∷ []) ∙ ap (λ p. state_after p (0x0A ∷ [])) (text_inside text all)

-- a line that is not empty, from a state at the start of a line
full_from : (p q : HeadState) → ((b : ℕ) → b ≢ 0x0A → b ≢ 0x0D → next p b ≡ Inside) → next p 0x0D ≡ q → ((b : ℕ) → b ≢ 0x0A → next q b ≡ Inside) → (l : List ℕ) → IsFull l → state_after p l ≡ LineStart
full_from p q other return behind l full = by_text full.0.0 full.0.1 full.0.2 where
  by_text : (text : List ℕ) → All (λ b. b ≢ 0x0A) text → l ≡ text ++ 0x0A ∷ [] → state_after p l ≡ LineStart
  by_text [] all is = absurd (full.1 (inl is))
  by_text (b ∷ []) all is = elim (b == 0x0D) as (λ t. (b == 0x0D) ≡ t → state_after p l ≡ LineStart) [
    | true ↦ λ t. absurd (full.1 (inr (is ∙ ap (λ x. x ∷ 0x0A ∷ []) (eqb-true b 0x0D t))))
    | false ↦ λ t. ap (state_after p) is ∙ ap (λ r. state_after r (0x0A ∷ [])) (other b (All-head (λ x. x ≢ 0x0A) b [] all) (eqb-false b 0x0D t))
  ] refl
  by_text (b ∷ c ∷ text) all is =
      let rest = All-tail (λ x. x ≢ 0x0A) b (c ∷ text) all in
      elim (b == 0x0D) as (λ t. (b == 0x0D) ≡ t → state_after p l ≡ LineStart) [
        | true ↦ λ t.
            let back : next p b ≡ q = ap (next p) (eqb-true b 0x0D t) ∙ return in
            ap (state_after p) is ∙ ap (λ r. state_after r (c ∷ text ++ 0x0A ∷ [])) back
            ∙ ap (λ r. state_after r (text ++ 0x0A ∷ [])) (behind c (All-head (λ x. x ≢ 0x0A) c text rest)) ∙ line_inside text (All-tail (λ x. x ≢ 0x0A) c text rest)
        | false ↦ λ t.
            ap (state_after p) is ∙ ap (λ r. state_after r (c ∷ text ++ 0x0A ∷ [])) (other b (All-head (λ x. x ≢ 0x0A) b (c ∷ text) all) (eqb-false b 0x0D t)) ∙ line_inside (c ∷ text) rest
      ] refl

blank_other : (b : ℕ) → b ≢ 0x0A → b ≢ 0x0D → next Blank b ≡ Inside
blank_other b feed return = rw (ne_eqb b 0x0A feed, ne_eqb b 0x0D return) refl

blank_return : (b : ℕ) → b ≢ 0x0A → next BlankReturn b ≡ Inside
blank_return b feed = rw (ne_eqb b 0x0A feed) refl

line_start_other : (b : ℕ) → b ≢ 0x0A → b ≢ 0x0D → next LineStart b ≡ Inside
line_start_other b feed return = rw (ne_eqb b 0x0A feed, ne_eqb b 0x0D return) refl

fresh_return : (b : ℕ) → b ≢ 0x0A → next LineReturn b ≡ Inside
fresh_return b feed = rw (ne_eqb b 0x0A feed) refl

empty_skipped : (l : List ℕ) → IsEmpty l → state_after Blank l ≡ Blank
empty_skipped l (inl is) = ap (state_after Blank) is
empty_skipped l (inr is) = ap (state_after Blank) is

all_skipped : (ls : List (List ℕ)) → All IsEmpty ls → state_after Blank (joined ls) ≡ Blank
all_skipped [] all = refl
all_skipped (l ∷ ls) all =
    ap (state_after Blank) (joined-cons l ls) ∙ state-append Blank l (joined ls) ∙ ap (λ p. state_after p (joined ls)) (empty_skipped l (All-head IsEmpty l ls all)) ∙ all_skipped ls (All-tail IsEmpty l ls all)

all_fresh : (ls : List (List ℕ)) → All IsFull ls → state_after LineStart (joined ls) ≡ LineStart
all_fresh [] all = refl
all_fresh (l ∷ ls) all =
    ap (state_after LineStart) (joined-cons l ls) ∙ state-append LineStart l (joined ls)
    ∙ ap (λ p. state_after p (joined ls)) (full_from LineStart LineReturn line_start_other refl fresh_return l (All-head IsFull l ls all)) ∙ all_fresh ls (All-tail IsFull l ls all)

-- the state before the last line
before_last : (h : List ℕ) (w : IsWhole h) → state_after Blank (joined w.skipped ++ (w.first ++ joined w.lines)) ≡ LineStart
before_last h w =
    state-append Blank (joined w.skipped) (w.first ++ joined w.lines) ∙ ap (λ p. state_after p (w.first ++ joined w.lines)) (all_skipped w.skipped w.empty)
    ∙ state-append Blank w.first (joined w.lines) ∙ ap (λ p. state_after p (joined w.lines)) (full_from Blank BlankReturn blank_other refl blank_return w.first w.begins) ∙ all_fresh w.lines w.full

ended_stays : (xs : List ℕ) → state_after Ended xs ≡ Ended
ended_stays [] = refl
ended_stays (x ∷ xs) = ended_stays xs

-- a last byte after which the head ends, and before which it has not
record Last (h : List ℕ) : Type 0 where
  front : List ℕ
  byte : ℕ
  parts : h ≡ front ++ byte ∷ []
  open_there : state_after Blank front ≢ Ended
  ended_there : state_after Blank h ≡ Ended

abbrev front_of : (h : List ℕ) → IsWhole h → List ℕ
front_of h w = joined w.skipped ++ (w.first ++ joined w.lines)

whole_of : (h : List ℕ) (w : IsWhole h) → h ≡ front_of h w ++ w.last
whole_of h w = w.whole ∙ ap (λ x. joined w.skipped ++ x) (sym (append_assoc w.first (joined w.lines) w.last)) ∙ sym (append_assoc (joined w.skipped) (w.first ++ joined w.lines) w.last)

last_of : (h : List ℕ) → IsWhole h → Last h
last_of h w = by_last w.ends where
  by_last : IsEmpty w.last → Last h
  by_last (inl is) =
      let front = front_of h w in
      let state = before_last h w in
      let parts : h ≡ front ++ 0x0A ∷ [] = whole_of h w ∙ ap (λ x. front ++ x) is in
      record {
        front = front;
        byte = 0x0A;
        parts = parts;
        open_there = λ e. (let both : LineStart ≡ Ended = sym state ∙ e in cc both);
        ended_there = ap (state_after Blank) parts ∙ state-append Blank front (0x0A ∷ []) ∙ ap (λ p. state_after p (0x0A ∷ [])) state;
      }
  by_last (inr is) =
      let front = front_of h w in
      let state = before_last h w in
      let parts : h ≡ (front ++ 0x0D ∷ []) ++ 0x0A ∷ [] = whole_of h w ∙ ap (λ x. front ++ x) is ∙ sym (append_assoc front (0x0D ∷ []) (0x0A ∷ [])) in
      let there : state_after Blank (front ++ 0x0D ∷ []) ≡ LineReturn = state-append Blank front (0x0D ∷ []) ∙ ap (λ p. state_after p (0x0D ∷ [])) state in
      record {
        front = front ++ 0x0D ∷ [];
        byte = 0x0A;
        parts = parts;
        open_there = λ e. (let both : LineReturn ≡ Ended = sym there ∙ e in cc both);
        ended_there = ap (state_after Blank) parts ∙ state-append Blank (front ++ 0x0D ∷ []) (0x0A ∷ []) ∙ ap (λ p. state_after p (0x0A ∷ [])) there;
      }

pub ends_cut : (bytes : List ℕ) (n : ℕ) → EndsAt bytes n → CutsAt Blank bytes n
ends_cut bytes n h =
    let last = last_of h.head h.lines in
    let size : length h.head ≡ length last.front + 1 = ap (λ (x : List ℕ). length x) last.parts ∙ length-append last.front (last.byte ∷ []) in
    let all : length bytes ≡ length h.head + length h.behind = ap (λ (x : List ℕ). length x) h.whole ∙ length-append h.head h.behind in
    let bytes_are : bytes ≡ last.front ++ ((last.byte ∷ []) ++ h.behind) = h.whole ∙ ap (λ x. x ++ h.behind) last.parts ∙ append_assoc last.front (last.byte ∷ []) h.behind in
    record {
      within = omega (arith, h.size, all);
      ended = ap (λ k. state_after Blank (take k bytes)) h.size ∙ ap (λ x. state_after Blank (take (length h.head) x)) h.whole ∙ ap (state_after Blank) (take-append_seam h.head h.behind) ∙ last.ended_there;
      no_sooner = λ k lt e.
          let le : k ≤ length last.front = omega (arith, h.size, size) in
          let early : state_after Blank (take k last.front) ≡ Ended = ap (state_after Blank) (sym (take-append-le k last.front ((last.byte ∷ []) ++ h.behind) le)) ∙ ap (λ x. state_after Blank (take k x)) (sym bytes_are) ∙ e in
          last.open_there (ap (state_after Blank) (sym (take-append-drop k last.front)) ∙ state-append Blank (take k last.front) (drop k last.front) ∙ ap (λ p. state_after p (drop k last.front)) early ∙ ended_stays (drop k last.front));
    }

pub ends_within : (bytes : List ℕ) (n : ℕ) → EndsAt bytes n → n ≤ length bytes
ends_within bytes n h = (ends_cut bytes n h).within

pub ends_unique : (bytes : List ℕ) (n k : ℕ) → EndsAt bytes n → EndsAt bytes k → n ≡ k
ends_unique bytes n k a b = CutsAt-unique Blank bytes n k (ends_cut bytes n a) (ends_cut bytes k b)

pub ends_more : (a b : List ℕ) (n : ℕ) → EndsAt a n → EndsAt (a ++ b) n
ends_more a b n h = record {
  head = h.head;
  behind = h.behind ++ b;
  lines = h.lines;
  whole = ap (λ x. x ++ b) h.whole ∙ append_assoc h.head h.behind b;
  size = h.size;
}

-- ---- what is found is so defined

-- the head ends at the end of these bytes, and no sooner
record Stops (p : HeadState) (w : List ℕ) : Type 0 where
  ended : state_after p w ≡ Ended
  sooner : (k : ℕ) → k < length w → state_after p (take k w) ≢ Ended

stops_step : (p q : HeadState) (b : ℕ) (w : List ℕ) → next p b ≡ q → Stops p (b ∷ w) → Stops q w
stops_step p q b w e s = record {
  ended = ap (λ r. state_after r w) (sym e) ∙ s.ended;
  sooner = λ k lt x. s.sooner (suc k) (omega (arith, lt)) (ap (λ r. state_after r (take k w)) e ∙ x);
}

stops_over : (w : List ℕ) → Stops Ended w → w ≡ []
stops_over [] s = refl
stops_over (c ∷ w) s = absurd (s.sooner 0 (omega arith) refl)

-- the lines that are left, and the empty one
record Left (w : List ℕ) : Type 0 where
  lines : List (List ℕ)
  last : List ℕ
  full : All IsFull lines
  ends : IsEmpty last
  whole : w ≡ joined lines ++ last

-- a line that begins so, and what is left
record Begun (front w : List ℕ) : Type 0 where
  line : List ℕ
  full : IsFull line
  left : List ℕ
  rest : Left left
  whole : front ++ w ≡ line ++ left

-- the front of a line that will not be empty
record IsFront (f : List ℕ) : Type 0 where
  plain : All (λ b. b ≢ 0x0A) f
  some : f ≢ []
  more : f ≢ 0x0D ∷ []

front_full : (f : List ℕ) → IsFront f → IsFull (f ++ 0x0A ∷ [])
front_full f k = ((f, k.plain, refl), not_empty) where
  not_empty : IsEmpty (f ++ 0x0A ∷ []) → ⊥
  not_empty (inl e) = k.some (append_cancel_right f [] (0x0A ∷ []) e)
  not_empty (inr e) = k.more (append_cancel_right f (0x0D ∷ []) (0x0A ∷ []) e)

front_push : (f : List ℕ) (b : ℕ) → b ≢ 0x0A → IsFront f → IsFront (f ++ b ∷ [])
front_push f b feed k = record {
  plain = All-push (λ x. x ≢ 0x0A) f b k.plain feed;
  some = λ e. (let size = ap (λ (x : List ℕ). length x) e in omega (arith, size, length-append f (b ∷ [])));
  more = λ e. k.some (nil_from_length f (let size = ap (λ (x : List ℕ). length x) e in omega (arith, size, length-append f (b ∷ []))));
}

front_one : (b : ℕ) → b ≢ 0x0A → b ≢ 0x0D → IsFront (b ∷ [])
front_one b feed return = record {
  plain = All-cons (λ x. x ≢ 0x0A) b [] feed (All-nil (λ x. x ≢ 0x0A));
  some = λ e. (let size = ap (λ (x : List ℕ). length x) e in omega (arith, size));
  more = λ e. return (let same : b ≡ 0x0D = cc e in same);
}

front_two : (b : ℕ) → b ≢ 0x0A → IsFront (0x0D ∷ b ∷ [])
front_two b feed = record {
  plain = All-cons (λ x. x ≢ 0x0A) 0x0D (b ∷ []) (λ e. omega (arith, e)) (All-cons (λ x. x ≢ 0x0A) b [] feed (All-nil (λ x. x ≢ 0x0A)));
  some = λ e. (let size = ap (λ (x : List ℕ). length x) e in omega (arith, size));
  more = λ e. (let size = ap (λ (x : List ℕ). length x) e in omega (arith, size));
}

more_left : (front w : List ℕ) → Begun front w → Left (front ++ w)
more_left front w b = record {
  lines = b.line ∷ b.rest.lines;
  last = b.rest.last;
  full = All-cons IsFull b.line b.rest.lines b.full b.rest.full;
  ends = b.rest.ends;
  whole = b.whole ∙ ap (λ x. b.line ++ x) b.rest.whole ∙ sym (append_assoc b.line (joined b.rest.lines) b.rest.last) ∙ ap (λ x. x ++ b.rest.last) (sym (joined-cons b.line b.rest.lines));
}

whole_from : (front w : List ℕ) → Begun front w → IsWhole (front ++ w)
whole_from front w b = record {
  skipped = [];
  first = b.line;
  lines = b.rest.lines;
  last = b.rest.last;
  empty = All-nil IsEmpty;
  begins = b.full;
  full = b.rest.full;
  ends = b.rest.ends;
  whole = b.whole ∙ ap (λ x. b.line ++ x) b.rest.whole;
}

whole_more : (l w : List ℕ) → IsEmpty l → IsWhole w → IsWhole (l ++ w)
whole_more l w empty h = record {
  skipped = l ∷ h.skipped;
  first = h.first;
  lines = h.lines;
  last = h.last;
  empty = All-cons IsEmpty l h.skipped empty h.empty;
  begins = h.begins;
  full = h.full;
  ends = h.ends;
  whole = ap (λ x. l ++ x) h.whole ∙ sym (append_assoc l (joined h.skipped) (h.first ++ (joined h.lines ++ h.last))) ∙ ap (λ x. x ++ (h.first ++ (joined h.lines ++ h.last))) (sym (joined-cons l h.skipped));
}

-- what each state leads to
record Leads (w : List ℕ) : Type 0 where
  inside : (f : List ℕ) → IsFront f → Stops Inside w → Begun f w
  starting : Stops LineStart w → Left w
  fresh_return : Stops LineReturn w → Left (0x0D ∷ w)
  blank : Stops Blank w → IsWhole w
  blank_return : Stops BlankReturn w → IsWhole (0x0D ∷ w)

by_byte : {P : Type 0} (b c : ℕ) → ((b == c) ≡ true → P) → ((b == c) ≡ false → P) → P
by_byte {P = P} b c same other = elim (b == c) as (λ t. (b == c) ≡ t → P) [ true ↦ same | false ↦ other ] refl

open_end : (p : HeadState) → (p ≡ Ended → ⊥) → {P : Type 0} → Stops p [] → P
open_end p no_end s = absurd (no_end s.ended)

leads_more : (b : ℕ) (w : List ℕ) → Leads w → Leads (b ∷ w)
leads_more b w s = record {
  inside = λ f k stops. by_byte b 0x0A
      (λ t. record {
        line = f ++ 0x0A ∷ [];
        full = front_full f k;
        left = w;
        rest = s.starting (stops_step Inside LineStart b w (rw t refl) stops);
        whole = ap (λ x. f ++ x ∷ w) (eqb-true b 0x0A t) ∙ sym (append_assoc f (0x0A ∷ []) w);
      })
      (λ t.
      let on = s.inside (f ++ b ∷ []) (front_push f b (eqb-false b 0x0A t) k) (stops_step Inside Inside b w (rw t refl) stops) in
      record { line = on.line; full = on.full; left = on.left; rest = on.rest; whole = sym (append_assoc f (b ∷ []) w) ∙ on.whole });
  starting = λ stops. by_byte b 0x0A
      (λ t. record {
        lines = [];
        last = 0x0A ∷ [];
        full = All-nil IsFull;
        ends = inl refl;
        whole = ap (λ x. x ∷ w) (eqb-true b 0x0A t) ∙ ap (λ x. 0x0A ∷ x) (stops_over w (stops_step LineStart Ended b w (rw t refl) stops));
      })
      (λ t. by_byte b 0x0D
      (λ u. subst (λ x. Left (x ∷ w)) (sym (eqb-true b 0x0D u)) (s.fresh_return (stops_step LineStart LineReturn b w (rw (t, u) refl) stops)))
      (λ u. more_left (b ∷ []) w (s.inside (b ∷ []) (front_one b (eqb-false b 0x0A t) (eqb-false b 0x0D u)) (stops_step LineStart Inside b w (rw (t, u) refl) stops))));
  fresh_return = λ stops. by_byte b 0x0A
      (λ t. record {
        lines = [];
        last = 0x0D ∷ 0x0A ∷ [];
        full = All-nil IsFull;
        ends = inr refl;
        whole = ap (λ x. 0x0D ∷ x ∷ w) (eqb-true b 0x0A t) ∙ ap (λ x. 0x0D ∷ 0x0A ∷ x) (stops_over w (stops_step LineReturn Ended b w (rw t refl) stops));
      })
      (λ t. more_left (0x0D ∷ b ∷ []) w (s.inside (0x0D ∷ b ∷ []) (front_two b (eqb-false b 0x0A t)) (stops_step LineReturn Inside b w (rw t refl) stops)));
  blank = λ stops. by_byte b 0x0A
      (λ t. subst (λ x. IsWhole (x ∷ w)) (sym (eqb-true b 0x0A t)) (whole_more (0x0A ∷ []) w (inl refl) (s.blank (stops_step Blank Blank b w (rw t refl) stops))))
      (λ t. by_byte b 0x0D
      (λ u. subst (λ x. IsWhole (x ∷ w)) (sym (eqb-true b 0x0D u)) (s.blank_return (stops_step Blank BlankReturn b w (rw (t, u) refl) stops)))
      (λ u. whole_from (b ∷ []) w (s.inside (b ∷ []) (front_one b (eqb-false b 0x0A t) (eqb-false b 0x0D u)) (stops_step Blank Inside b w (rw (t, u) refl) stops))));
  blank_return = λ stops. by_byte b 0x0A
      (λ t. subst (λ x. IsWhole (0x0D ∷ x ∷ w)) (sym (eqb-true b 0x0A t)) (whole_more (0x0D ∷ 0x0A ∷ []) w (inr refl) (s.blank (stops_step BlankReturn Blank b w (rw t refl) stops))))
      (λ t. whole_from (0x0D ∷ b ∷ []) w (s.inside (0x0D ∷ b ∷ []) (front_two b (eqb-false b 0x0A t)) (stops_step BlankReturn Inside b w (rw t refl) stops)));
}

leads_all : (w : List ℕ) → Leads w
leads_all [] = record {
  inside = λ f k s. open_end Inside (λ e. cc e) s;
  starting = λ s. open_end LineStart (λ e. cc e) s;
  fresh_return = λ s. open_end LineReturn (λ e. cc e) s;
  blank = λ s. open_end Blank (λ e. cc e) s;
  blank_return = λ s. open_end BlankReturn (λ e. cc e) s;
}
leads_all (b ∷ w) = leads_more b w (leads_all w)

pub cuts_end : (bytes : List ℕ) (n : ℕ) → CutsAt Blank bytes n → EndsAt bytes n
cuts_end bytes n h =
    let whole : bytes ≡ take n bytes ++ drop n bytes = sym (take-append-drop n bytes) in
    let size : n ≡ length (take n bytes) = omega (arith, length-take n bytes, h.within) in
    record {
      head = take n bytes;
      behind = drop n bytes;
      lines = (leads_all (take n bytes)).blank (record {
        ended = h.ended;
        sooner = λ k lt e.
            let same : take k bytes ≡ take k (take n bytes) = ap (take k) whole ∙ take-append-le k (take n bytes) (drop n bytes) (omega (arith, lt)) in
            h.no_sooner k (omega (arith, lt, size)) (ap (state_after Blank) same ∙ e);
      });
      whole = whole;
      size = size;
    }

-- ---- heads that have not ended

pub unfinished_from : (bytes : List ℕ) → NeverCuts bytes → IsUnfinished bytes
unfinished_from bytes never n ends = let cut = ends_cut bytes n ends in never n cut.within cut.ended

pub nothing_unfinished : IsUnfinished []
nothing_unfinished = unfinished_from [] (λ k le e. start (take k []) (nil_from_length (take k []) (omega (arith, length-take {A = ℕ} k []))) e)
  where
    start : (xs : List ℕ) → xs ≡ [] → state_after Blank xs ≡ Ended → ⊥
    start xs is e = let both : Blank ≡ Ended = sym (ap (state_after Blank) is) ∙ e in cc both
