-- Pieces one after another.
use Rattle.std.proofs.Common.{append_assoc}
use Rattle.std.proofs.lemmas.List.{take-append-le}
use Rattle.pcache_response.proofs.Ends.{ends_more, ends_within}
use Rattle.pcache_response.specs.Head.{ReadsHeader}
use Rattle.pcache_response.specs.HeadEnd.{EndsAt}
use Rattle.pcache_put.specs.Puts.{HeadEndsAt}
use Rattle.pcache_put.proofs.Words.{◌≡◌, ℕ, Option, List, [], ◌∷◌, ◌++◌, refl, ap, sym, subst, ◌∙◌, append-nil, RespCacheable, response_more, IsUnfinished, Response, IsResponse, IsUnreadable, Piece, joined, Says, IsJudged}

pub joined_push : (pieces : List Piece) (p : Piece) → joined (pieces ++ p ∷ []) ≡ joined pieces ++ p.bytes
joined_push [] p = append-nil p.bytes
joined_push (q ∷ pieces) p = ap (λ (x : List ℕ). q.bytes ++ x) (joined_push pieces p) ∙ sym (append_assoc q.bytes (joined pieces) p.bytes)

-- the head ended before
pub ends_before : (pieces : List Piece) (p : Piece) (now : ℕ) → HeadEndsAt pieces now → HeadEndsAt (pieces ++ p ∷ []) now
ends_before pieces p now h = record {
  before = h.before;
  piece = h.piece;
  behind = h.behind ++ p ∷ [];
  whole = ap (λ (x : List Piece). x ++ p ∷ []) h.whole ∙ append_assoc h.before (h.piece ∷ h.behind) (p ∷ []);
  unfinished = h.unfinished;
  cut = h.cut;
  ends = h.ends;
  moment = h.moment;
}

-- it ends in the last piece
pub ends_here : (pieces : List Piece) (p : Piece) (cut : ℕ) → IsUnfinished (joined pieces) → EndsAt (joined pieces ++ p.bytes) cut → HeadEndsAt (pieces ++ p ∷ []) p.now
ends_here pieces p cut unfinished ends = record {
  before = pieces;
  piece = p;
  behind = [];
  whole = refl;
  unfinished = unfinished;
  cut = cut;
  ends = ends;
  moment = refl;
}

-- a verdict stays
pub judged_more : (says : Says) (limit : Option ℕ) (pieces : List Piece) (p : Piece) (now : ℕ) (r : Response) (verdict : RespCacheable) → IsJudged says limit (joined pieces) now r verdict
    → IsJudged says limit (joined (pieces ++ p ∷ [])) now (record r { behind = r.behind ++ p.bytes }) verdict
judged_more says limit pieces p now r verdict h = record {
  response = subst (λ (x : List ℕ). IsResponse x (record r { behind = r.behind ++ p.bytes })) (sym (joined_push pieces p)) (response_more (joined pieces) p.bytes r h.response);
  answer = h.answer;
  said = h.said;
  judged = h.judged;
}

-- a head that can't be read stays so
pub unreadable_more : (pieces : List Piece) (p : Piece) → IsUnreadable (joined pieces) → IsUnreadable (joined (pieces ++ p ∷ []))
unreadable_more pieces p h = subst IsUnreadable (sym (joined_push pieces p)) (record {
  cut = h.cut;
  ends = ends_more (joined pieces) p.bytes h.cut h.ends;
  no_head = λ header reads. h.no_head header (subst (λ (x : List ℕ). ReadsHeader x header) (take-append-le h.cut (joined pieces) p.bytes (ends_within (joined pieces) h.cut h.ends)) reads);
})
