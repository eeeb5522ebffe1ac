-- A piece of the body, and what is written of it.
use Rattle.std.proofs.Common.{◌+◌, fold}
use Rattle.std.specs.Prelude.{nat_le, option_map}
use Rattle.std.proofs.lemmas.Bool.{eqb-true}
use Rattle.std.proofs.lemmas.List.{nil_from_length}
use Rattle.pcache_response.proofs.PartLemmas.{body_joined, body_more, left_more}
use Rattle.pcache_response.specs.Parts.{body_parts}
use Rattle.pcache_response.specs.Progress.{AtEnd}
use Rattle.pcache_put.specs.Brought.{with_part}
use Rattle.pcache_put.specs.Openings.{IsDue}
use Rattle.pcache_put.specs.State.{Accepted}
use Rattle.pcache_put.specs.Steps.{counted_on, counted_part, IsAllowed, written}
use Rattle.pcache_put.specs.declared.reading.ReadPiece.TheVariants.{Begins}
use Rattle.pcache_put.proofs.Words.{◌≡◌, ℕ, ◌-◌, ◌^◌, ◌≤◌, Bool, true, false, cond, Option, None, Some, List, [], ◌∷◌, ◌++◌, length, min, refl, ap, sym, subst, ◌∙◌, arith, append-nil, length-append, IfSome, ◌==◌, nat_lt, nat_tests, Meta, ResponseHeader, response_more, one_outcome, unreadable_is_none, Given, given_in_all, add_all, left_behind, Parsed, AtHead, AtBody, HasFailed, TakenIn, GivesParts, IsUnreadable, declared_body, is_whole, Counted, ParsePart, brought, HasOpened, Piece, joined, Says, counted, is_over, BodyRead, BodyTaken, Counts, Overrun, limit_of, part_bytes, is_done, filled_wrote, BodyPart, Brought, ReadPiece}
use Rattle.pcache_response.specs.declared.response_parse.ParsePart.TheVariants as part
use Rattle.pcache_put.proofs.Pieces.{ends_before, judged_more}

-- what is brought after a head, or without one, by bytes or by none
abbrev pub brought_by : Option ResponseHeader → Bool → List ℕ → Bool → Brought
brought_by head none bytes whole = fold with_part (record { head = head; body = None }) (cond none [] (part.Body bytes whole ∷ []))

pub bytes_by : (head : Option ResponseHeader) (bytes : List ℕ) (whole none : Bool) → (length bytes == 0) ≡ none → part_bytes (brought_by head none bytes whole).body ≡ bytes
bytes_by head bytes whole true e = sym (nil_from_length bytes (eqb-true (length bytes) 0 e))
bytes_by head bytes whole false e = refl

pub last_by : (head : Option ResponseHeader) (bytes : List ℕ) (whole none : Bool) → IfSome (brought_by head none bytes whole).body (λ (b : BodyPart). b.is_last ≡ whole)
last_by head bytes whole true = tt
last_by head bytes whole false = refl

pub head_by : (head : Option ResponseHeader) (bytes : List ℕ) (whole none : Bool) → (brought_by head none bytes whole).head ≡ head
head_by head bytes whole true = refl
head_by head bytes whole false = refl

-- nothing is left exactly when the body is whole
none_left : (n k : ℕ) → ((n - k) == 0) ≡ nat_le n k
none_left n k = grind (arith, nat_tests)

pub done_whole : (size : Option ℕ) (behind : List ℕ) → is_done (AtBody (left_behind size (length behind))) ≡ is_whole size behind
done_whole None behind = refl
done_whole (Some n) behind = none_left n (length behind)

pub last_done : (o : Option BodyPart) (v w : Bool) → IfSome o (λ (b : BodyPart). b.is_last ≡ v) → v ≡ w → IfSome o (λ (b : BodyPart). b.is_last ≡ w)
last_done None v w h e = tt
last_done (Some b) v w h e = h ∙ e

-- more bytes of a body
added_by : (g : Given) (bytes : List ℕ) (whole none : Bool) → (add_all g (cond none [] (part.Body bytes whole ∷ []))).body ≡ g.body ++ part_bytes (brought_by None none bytes whole).body
added_by g bytes whole true = sym (append-nil g.body)
added_by g bytes whole false = refl

-- the next piece of a body
pub next_due : (says : Says) (limit : Option ℕ) (parser q : Parsed) (meta : Meta) (pieces : List Piece) (body : List ℕ) (p : Piece) (parts : List ParsePart)
    → ((bytes : List ℕ) (g : Given) → TakenIn parser bytes g → TakenIn q (bytes ++ p.bytes) (add_all g parts))
    → GivesParts parser p.bytes parts
    → BodyRead says limit parser meta pieces body
    → IsDue says limit q meta (pieces ++ p ∷ []) body (brought parts).body
next_due says limit parser q meta pieces body p parts goes gives h =
    let left = left_behind h.r.size (length h.r.behind) in
    let before : TakenIn (AtBody left) (joined pieces) (given_in_all h.r) = (h.r, h.judged.response, refl, refl) in
    let given-parts : GivesParts (AtBody left) p.bytes parts = subst (λ (x : Parsed). GivesParts x p.bytes parts) h.stands gives in
    let here : TakenIn q (joined pieces ++ p.bytes) (add_all (given_in_all h.r) parts) = goes (joined pieces) (given_in_all h.r) (subst (λ (x : Parsed). TakenIn x (joined pieces) (given_in_all h.r)) (sym h.stands) before) in
    let there : TakenIn (AtBody (left_behind left (length p.bytes))) (joined pieces ++ p.bytes) (add_all (given_in_all h.r) parts) = body_joined left _ (joined pieces) p.bytes (given_in_all h.r) parts before refl given-parts in
    let stands : q ≡ AtBody (left_behind left (length p.bytes)) = (one_outcome q _ _ _ _ here there).0 in
    let more : (add_all (given_in_all h.r) (body_parts left p.bytes)).body ≡ declared_body h.r.size (h.r.behind ++ p.bytes) = ap (λ (g : Given). g.body) (body_more h.r.head h.r.size h.r.behind p.bytes) in
    let bytes : body ++ part_bytes (brought parts).body ≡ declared_body h.r.size (h.r.behind ++ p.bytes) =
    ap (λ (x : List ParsePart). body ++ part_bytes (brought x).body) given-parts
    ∙ ap (λ (x : List ℕ). x ++ part_bytes (brought (body_parts left p.bytes)).body) h.came
    ∙ sym (added_by (given_in_all h.r) (declared_body left p.bytes) (is_whole left p.bytes) (length (declared_body left p.bytes) == 0)) ∙ more in (
      record {
        r = record h.r { behind = h.r.behind ++ p.bytes };
        now = h.now;
        moment = ends_before pieces p h.now h.moment;
        judged = judged_more says limit pieces p h.now h.r _ h.judged;
        stands = stands ∙ ap (λ (l : Option ℕ). AtBody l) (left_more h.r.size h.r.behind p.bytes);
        came = bytes;
      },
      last_done (brought parts).body (is_whole left p.bytes) (is_done q)
          (subst (λ (x : List ParsePart). IfSome (brought x).body (λ (b : BodyPart). b.is_last ≡ is_whole left p.bytes)) (sym given-parts) (last_by None (declared_body left p.bytes) (is_whole left p.bytes) (length (declared_body left p.bytes) == 0)))
          (sym (done_whole left p.bytes) ∙ ap is_done (sym stands)),
    )

-- a piece of a body is no head that can't be read
pub no_head : (says : Says) (limit : Option ℕ) (parser : Parsed) (meta : Meta) (pieces : List Piece) (body piece : List ℕ) → ((bytes : List ℕ) (g : Given) → TakenIn parser bytes g → IsUnreadable (bytes ++ piece)) → BodyRead says limit parser meta pieces body → ⊥
no_head says limit parser meta pieces body piece bad h =
    let r = record h.r { behind = h.r.behind ++ piece } in
    unreadable_is_none (AtBody (left_behind r.size (length r.behind))) (joined pieces ++ piece) (given_in_all r) (r, response_more (joined pieces) piece h.r h.judged.response, refl, refl)
    (bad (joined pieces) (given_in_all h.r) (subst (λ (x : Parsed). TakenIn x (joined pieces) (given_in_all h.r)) (sym h.stands) (h.r, h.judged.response, refl, refl)))

-- ---- what is written

pub limit_same : (size : Option Counted) (o : Option BodyPart) → limit_of (counted_part size o) ≡ limit_of size
limit_same None None = refl
limit_same None (Some b) = refl
limit_same (Some c) None = refl
limit_same (Some c) (Some b) = refl

count_more : (a b : ℕ) → min (min a (2 ^ 64 - 1) + b) (2 ^ 64 - 1) ≡ min (a + b) (2 ^ 64 - 1)
count_more a b = omega arith

not_over : (limit n : ℕ) → n ≤ limit → nat_lt limit n ≡ false
not_over limit n h = grind (arith, nat_tests)

is_past : (limit n : ℕ) → ¬ (n ≤ limit) → nat_lt limit n ≡ true
is_past limit n h = grind (arith, nat_tests)

within : (limit n : ℕ) → nat_lt limit n ≡ false → n ≤ limit
within limit n h = grind (arith, nat_tests)

counts_more : (c : Counted) (body bytes : List ℕ) → c.bytes ≡ counted body → min (c.bytes + length bytes) (2 ^ 64 - 1) ≡ counted (body ++ bytes)
counts_more c body bytes e = ap (λ (n : ℕ). min (n + length bytes) (2 ^ 64 - 1)) e ∙ count_more (length body) (length bytes) ∙ ap (λ (n : ℕ). min n (2 ^ 64 - 1)) (sym (length-append body bytes))

-- a body of which all that is due was written
pub all_written : (says : Says) (size size' : Option Counted) (parser : Parsed) (meta : Meta) (pieces : List Piece) (body : List ℕ) (o : Option BodyPart) (fresh_until : ℕ)
    → size' ≡ counted_part size o → IfSome o (λ (b : BodyPart). IsAllowed size') → fresh_until ≡ meta.fresh_until
    → IsDue says (limit_of size) parser meta pieces body o → Counts size body
    → BodyTaken says size' parser fresh_until pieces (filled_wrote (option_map written o) (Some (record { meta = meta; body = body })))
all_written says size size' parser meta pieces body None fresh_until is allowed fresh due counts =
    subst (λ (x : Option Counted). BodyTaken says x parser fresh_until pieces (Some (record { meta = meta; body = body }))) (sym is)
    (subst (BodyRead says (limit_of size) parser meta pieces) (append-nil body) due.0, counts, fresh)
all_written says size size' parser meta pieces body (Some b) fresh_until is allowed fresh due counts =
    subst (λ (x : Option Counted). BodyTaken says x parser fresh_until pieces (Some (record { meta = meta; body = body ++ b.bytes }))) (sym is)
    (subst (λ (l : Option ℕ). BodyRead says l parser meta pieces (body ++ b.bytes)) (sym (limit_same size (Some b))) due.0, counted-by size counts (subst IsAllowed is allowed), fresh)
  where
    counted-by : (size : Option Counted) → Counts size body → IsAllowed (counted_on size (length b.bytes)) → Counts (counted_on size (length b.bytes)) (body ++ b.bytes)
    counted-by None counts allowed = tt
    counted-by (Some c) counts allowed =
        let e = counts_more c body b.bytes counts.0 in
        (e, ap (λ (n : ℕ). nat_lt c.limit n) (sym e) ∙ not_over c.limit _ allowed)

-- what is to be stored has the meta that the policy gave it
accepted_due : (says : Says) (limit : Option ℕ) (parser : Parsed) (meta : Meta) (pieces : List Piece) (o : Option BodyPart) → IsDue says limit parser meta pieces [] o → Accepted says limit meta pieces
accepted_due says limit parser meta pieces o due = record { r = due.0.r; now = due.0.now; moment = due.0.moment; judged = due.0.judged }

pub begun_as : (says : Says) (size : Option Counted) (parser : Parsed) (meta : Meta) (pieces : List Piece) (o : Option BodyPart) (given : ReadPiece) (began : Option Meta) → given ≡ Begins meta o → IfSome began (λ m. m ≡ meta)
    → HasOpened says size parser pieces given → IfSome began (λ m. Accepted says (limit_of size) m pieces)
begun_as says size parser meta pieces o given None is same opened = tt
begun_as says size parser meta pieces o given (Some m) is same opened =
    let due : IsDue says (limit_of size) parser meta pieces [] o × Counts size [] = subst (HasOpened says size parser pieces) is opened in
    subst (λ x. Accepted says (limit_of size) x pieces) (sym same) (accepted_due says (limit_of size) parser meta pieces o due.0)

-- a body that is too long
pub overruns : (says : Says) (size size' : Option Counted) (parser : Parsed) (meta : Meta) (pieces : List Piece) (body : List ℕ) (o : Option BodyPart)
    → size' ≡ counted_part size o → ¬ (IsAllowed size') → IsDue says (limit_of size) parser meta pieces body o → Counts size body → Overrun says (limit_of size') pieces
overruns says size size' parser meta pieces body o is past due counts =
    let h = due.0 in
    let limit : limit_of size' ≡ limit_of size = ap limit_of is ∙ limit_same size o in
    subst (λ (l : Option ℕ). Overrun says l pieces) (sym limit) (record {
      r = h.r;
      now = h.now;
      meta = meta;
      moment = h.moment;
      judged = h.judged;
      over = ap (is_over (limit_of size)) (sym h.came) ∙ too-long size o (λ a. past (subst IsAllowed (sym is) a)) counts;
    })
  where
    too-long : (size : Option Counted) (o : Option BodyPart) → ¬ (IsAllowed (counted_part size o)) → Counts size body → is_over (limit_of size) (body ++ part_bytes o) ≡ true
    too-long None None past counts = absurd (past tt)
    too-long None (Some b) past counts = absurd (past tt)
    too-long (Some c) None past counts = absurd (past (subst (λ (n : ℕ). n ≤ c.limit) (sym counts.0) (within c.limit _ counts.1)))
    too-long (Some c) (Some b) past counts =
        let e = counts_more c body b.bytes counts.0 in
        ap (λ (n : ℕ). nat_lt c.limit n) (sym e) ∙ is_past c.limit _ past

-- ---- after the whole body

pub whole_at : (p : Parsed) → is_done p ≡ true → p ≡ AtBody (Some 0)
whole_at (AtHead kept) e = absurd cc
whole_at (AtBody None) e = absurd cc
whole_at (AtBody (Some n)) e = ap (λ (m : ℕ). AtBody (Some m)) (eqb-true n 0 e)
whole_at AtEnd e = absurd cc
whole_at (HasFailed kind) e = absurd cc

no_part : (bytes : List ℕ) → (brought (body_parts (Some 0) bytes)).body ≡ None
no_part [] = refl
no_part (b ∷ bytes) = refl

-- a piece brings nothing of it
pub nothing_after : (p : Parsed) (piece : List ℕ) (parts : List ParsePart) → is_done p ≡ true → GivesParts p piece parts → (brought parts).body ≡ None
nothing_after p piece parts e gives =
    let at : GivesParts (AtBody (Some 0)) piece parts = subst (λ (q : Parsed). GivesParts q piece parts) (whole_at p e) gives in
    ap (λ (all : List ParsePart). (brought all).body) at ∙ no_part piece
