-- A piece in which the head ends, or goes on.
use Rattle.pcache_response.proofs.PartLemmas.{whole_given}
use Rattle.pcache_response.specs.Parts.{nothing, whole_parts}
use Rattle.pcache_put.specs.State.{HeadTaken}
use Rattle.pcache_put.proofs.Words.{◌≡◌, ℕ, inl, inr, Option, None, Some, Result, Ok, Err, List, [], ◌∷◌, ◌++◌, length, refl, ap, sym, subst, ◌∙◌, IfSome, IfOk, ◌==◌, ErrorType, RespCacheable, Cacheable, Uncacheable, ResponseHeader, one_outcome, IsUnfinished, Given, given_in_all, add_all, left_behind, Parsed, AtHead, AtBody, TakenIn, GivesParts, Response, IsResponse, IsUnreadable, declared_body, is_whole, Counted, ParsePart, brought, IsVerdict, IsBegun, HasOpened, Piece, joined, Says, IsJudged, limit_of, part_bytes, is_done, BodyPart, ReadPiece}
use Rattle.pcache_put.proofs.Bodies.{bytes_by, last_by, head_by, done_whole, last_done}
use Rattle.pcache_put.proofs.Pieces.{joined_push, ends_here}
use Rattle.pcache_put.specs.declared.reading.ReadPiece.TheVariants as read

judged_here : (says : Says) (limit : Option ℕ) (pieces : List Piece) (p : Piece) (r : Response) (header : ResponseHeader) (verdict : RespCacheable) → IsResponse (joined pieces ++ p.bytes) r → header ≡ r.head → IsVerdict says limit header p.now verdict
    → IsJudged says limit (joined (pieces ++ p ∷ [])) p.now r verdict
judged_here says limit pieces p r header verdict is same v = record {
  response = subst (λ (x : List ℕ). IsResponse x r) (sym (joined_push pieces p)) is;
  answer = v.0;
  said = subst (λ (h : ResponseHeader). says h p.now v.0) same v.1;
  judged = v.2;
}

taken_there : (parser q : Parsed) (bytes piece : List ℕ) (parts : List ParsePart) → parser ≡ AtHead bytes → IsUnfinished bytes
    → ((bytes : List ℕ) (g : Given) → TakenIn parser bytes g → TakenIn q (bytes ++ piece) (add_all g parts)) → TakenIn q (bytes ++ piece) (add_all nothing parts)
taken_there parser q bytes piece parts is unfinished goes = goes bytes nothing (subst (λ (x : Parsed). TakenIn x bytes nothing) (sym is) (refl, unfinished, refl))

-- a piece after which the head has not ended
pub goes_unfinished : (size : Option Counted) (parser q : Parsed) (pieces : List Piece) (p : Piece) (parts : List ParsePart)
    → ((bytes : List ℕ) (g : Given) → TakenIn parser bytes g → TakenIn q (bytes ++ p.bytes) (add_all g parts))
    → GivesParts parser p.bytes parts → (brought parts).head ≡ None → HeadTaken size parser pieces → HeadTaken size q (pieces ++ p ∷ [])
goes_unfinished size parser q pieces p parts goes gives none h =
    let here = taken_there parser q (joined pieces) p.bytes parts h.stands h.unfinished goes in
    let by : GivesParts (AtHead (joined pieces)) p.bytes parts = subst (λ (x : Parsed). GivesParts x p.bytes parts) h.stands gives in
    elim by [
      | inl u ↦
          let stands : q ≡ AtHead (joined pieces ++ p.bytes) = (one_outcome q (AtHead (joined pieces ++ p.bytes)) _ _ nothing here (refl, u.0, refl)).0 in
          record {
            unfinished = subst IsUnfinished (sym (joined_push pieces p)) u.0;
            stands = stands ∙ ap (λ (x : List ℕ). AtHead x) (sym (joined_push pieces p));
            counts = h.counts;
          }
      | inr u ↦
          let some : (brought parts).head ≡ Some u.0.head = ap (λ (x : List ParsePart). (brought x).head) u.2 ∙ head_by (Some u.0.head) (declared_body u.0.size u.0.behind) (is_whole u.0.size u.0.behind) (length (declared_body u.0.size u.0.behind) == 0) in
          absurd (cc (none, some))
    ]

-- a piece in which it ends
pub opens : (says : Says) (size : Option Counted) (parser q : Parsed) (pieces : List Piece) (p : Piece) (parts : List ParsePart) (header : ResponseHeader) (o : ReadPiece)
    → ((bytes : List ℕ) (g : Given) → TakenIn parser bytes g → TakenIn q (bytes ++ p.bytes) (add_all g parts))
    → GivesParts parser p.bytes parts → (brought parts).head ≡ Some header → IsBegun (IsVerdict says (limit_of size) header p.now) (brought parts).body o
    → HeadTaken size parser pieces → HasOpened says size q (pieces ++ p ∷ []) o
opens says size parser q pieces p parts header o goes gives some begun h =
    let here = taken_there parser q (joined pieces) p.bytes parts h.stands h.unfinished goes in
    let by : GivesParts (AtHead (joined pieces)) p.bytes parts = subst (λ (x : Parsed). GivesParts x p.bytes parts) h.stands gives in
    elim by [
      | inl u ↦ absurd (let none : (brought parts).head ≡ None = ap (λ (x : List ParsePart). (brought x).head) u.1 in cc (none, some))
      | inr u ↦ with-head u.0 u.1 u.2 here o begun
    ]
  where
    with-head : (r : Response) → IsResponse (joined pieces ++ p.bytes) r → parts ≡ whole_parts r → TakenIn q (joined pieces ++ p.bytes) (add_all nothing parts) → (o : ReadPiece) → IsBegun (IsVerdict says (limit_of size) header p.now) (brought parts).body o → HasOpened says size q (pieces ++ p ∷ []) o
    with-head r is whole here o begun =
        let bytes = declared_body r.size r.behind in
        let last = is_whole r.size r.behind in
        let first : (brought parts).head ≡ Some r.head = ap (λ (x : List ParsePart). (brought x).head) whole ∙ head_by (Some r.head) bytes last (length bytes == 0) in
        let same : header ≡ r.head = cc (some, first) in
        let gave : add_all nothing parts ≡ given_in_all r = ap (add_all nothing) whole ∙ whole_given r in
        let stands : q ≡ AtBody (left_behind r.size (length r.behind)) = (one_outcome q (AtBody (left_behind r.size (length r.behind))) _ _ (given_in_all r) here (r, is, refl, refl)).0 in
        by o begun r is same stands
        (ap (λ (x : List ParsePart). part_bytes (brought x).body) whole ∙ bytes_by (Some r.head) bytes last (length bytes == 0) refl)
        (last_done (brought parts).body last (is_done q) (subst (λ (x : List ParsePart). IfSome (brought x).body (λ (b : BodyPart). b.is_last ≡ last)) (sym whole) (last_by (Some r.head) bytes last (length bytes == 0))) (sym (done_whole r.size r.behind) ∙ ap is_done (sym stands)))
      where
        by : (o : ReadPiece) → IsBegun (IsVerdict says (limit_of size) header p.now) (brought parts).body o → (r : Response) → (is : IsResponse (joined pieces ++ p.bytes) r) → header ≡ r.head → q ≡ AtBody (left_behind r.size (length r.behind))
            → part_bytes (brought parts).body ≡ declared_body r.size r.behind → IfSome (brought parts).body (λ (b : BodyPart). b.is_last ≡ is_done q) → HasOpened says size q (pieces ++ p ∷ []) o
        by read.Unfinished begun r is same stands written last = absurd begun
        by (read.Brings part) begun r is same stands written last = absurd begun
        by (read.Refused e) begun r is same stands written last = absurd begun
        by read.Ignored begun r is same stands written last = absurd begun
        by (read.Declined reason) begun r is same stands written last = record {
          r = r;
          now = p.now;
          moment = ends_here pieces p is.cut h.unfinished is.ends;
          judged = judged_here says (limit_of size) pieces p r header (Uncacheable reason) is same begun;
        }
        by (read.Begins meta body) begun r is same stands written last = (
          (
            record {
              r = r;
              now = p.now;
              moment = ends_here pieces p is.cut h.unfinished is.ends;
              judged = judged_here says (limit_of size) pieces p r header (Cacheable meta) is same begun.0;
              stands = stands;
              came = ap part_bytes begun.1 ∙ written;
            },
            subst (λ (x : Option BodyPart). IfSome x (λ (b : BodyPart). b.is_last ≡ is_done q)) (sym begun.1) last,
          ),
          h.counts,
        )

-- the same for the result of the call
pub opens_if : (says : Says) (size : Option Counted) (parser q : Parsed) (p : Piece) (parts : List ParsePart) (header : ResponseHeader) (result : Result ReadPiece ErrorType)
    → ((bytes : List ℕ) (g : Given) → TakenIn parser bytes g → TakenIn q (bytes ++ p.bytes) (add_all g parts))
    → GivesParts parser p.bytes parts → (brought parts).head ≡ Some header → IfOk result (IsBegun (IsVerdict says (limit_of size) header p.now) (brought parts).body)
    → IfOk result (λ (o : ReadPiece). (pieces : List Piece) → HeadTaken size parser pieces → HasOpened says size q (pieces ++ p ∷ []) o)
opens_if says size parser q p parts header (Ok o) goes gives some begun = λ pieces h. opens says size parser q pieces p parts header o goes gives some begun h
opens_if says size parser q p parts header (Err e) goes gives some begun = tt

-- a head that can't be read
pub bad_head : (size : Option Counted) (parser : Parsed) (pieces : List Piece) (p : Piece) → ((bytes : List ℕ) (g : Given) → TakenIn parser bytes g → IsUnreadable (bytes ++ p.bytes)) → HeadTaken size parser pieces → IsUnreadable (joined (pieces ++ p ∷ []))
bad_head size parser pieces p bad h =
    subst IsUnreadable (sym (joined_push pieces p)) (bad (joined pieces) nothing (subst (λ (x : Parsed). TakenIn x (joined pieces) nothing) (sym h.stands) (refl, h.unfinished, refl)))
