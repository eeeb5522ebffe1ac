-- The directives of a line, and of all lines, one more at a time.
use Rattle.std.proofs.lemmas.List.Elements.{filter_map-append}
use Rattle.pcache_control.specs.Directives.{FindsNext, LiesWithin, IsAdmitted}
use Rattle.pcache_control.specs.Maps.{directive_of}
use Rattle.pcache_control.proofs.Words.{◌≡◌, ℕ, ◌≤◌, List, [], ◌∷◌, ◌++◌, Option, Some, None, length, sym, ap, ◌∙◌, append_assoc, append-nil, bytes_eq, fold-append, insert_all, insert_entry, Span, AreDirectives, AreDirectivesFrom, IsNextStart, IsDirective, directives_at}
use Rattle.pcache_control.proofs.Only.{directives_only}

pub next_line : (line : List ℕ) (it later : List ℕ × ℕ) (p : Span) → it.0 ≡ line → FindsNext it (Some p) later → later.0 ≡ line
next_line line it later p same step = ap (λ (x : List ℕ × ℕ). x.0) step.0 ∙ same

pub lies_within : (line : List ℕ) (it later : List ℕ × ℕ) (p : Span) → it.0 ≡ line → FindsNext it (Some p) later → LiesWithin (length line) p
lies_within line it later p same step = rw same at step.3

pub held_more : (line : List ℕ) (it later : List ℕ × ℕ) (ys : List Span) (p : Span) → it.0 ≡ line → FindsNext it (Some p) later
    → ((rest : List Span) → AreDirectivesFrom line it.1 rest → AreDirectivesFrom line 0 (ys ++ rest))
    → (rest : List Span) → AreDirectivesFrom line later.1 rest → AreDirectivesFrom line 0 ((ys ++ p ∷ []) ++ rest)
held_more line it later ys p same step held rest are =
    let end : later.1 ≡ p.end = ap (λ (x : List ℕ × ℕ). x.1) step.0 in
    let next : IsNextStart line it.1 p.start = rw same at step.1 in
    let here : IsDirective line p = rw same at step.2 in
    let more : AreDirectivesFrom line p.end rest = rw (← end) are in
    rw append_assoc (held (p ∷ rest) (next, here, more))

pub held_all : (line : List ℕ) (it later : List ℕ × ℕ) (ys : List Span) → it.0 ≡ line → FindsNext it None later
    → ((rest : List Span) → AreDirectivesFrom line it.1 rest → AreDirectivesFrom line 0 (ys ++ rest)) → AreDirectives line ys
held_all line it later ys same step held =
    let none : (s : ℕ) → it.1 ≤ s → IsAdmitted line it.1 s → ⊥ = rw same at step.1 in
    rw append-nil at (held [] none)

insert_all-append : (es xs ys : List (List ℕ × Option (List ℕ))) → insert_all bytes_eq es (xs ++ ys) ≡ insert_all bytes_eq (insert_all bytes_eq es xs) ys
insert_all-append es xs ys = fold-append (λ done p. insert_entry bytes_eq done p.0 p.1) es xs ys

pub added_more : (line : List ℕ) (ys : List Span) (p : Span) (first here later : List (List ℕ × Option (List ℕ)))
    → here ≡ insert_all bytes_eq first (directives_at line ys) → later ≡ insert_all bytes_eq here (directives_at line (p ∷ []))
    → later ≡ insert_all bytes_eq first (directives_at line (ys ++ p ∷ []))
added_more line ys p first here later before now =
    now
    ∙ ap (λ es. insert_all bytes_eq es (directives_at line (p ∷ []))) before
    ∙ sym (insert_all-append first (directives_at line ys) (directives_at line (p ∷ [])))
    ∙ ap (insert_all bytes_eq first) (sym (filter_map-append (directive_of line) ys (p ∷ [])))

pub added_all : (line : List ℕ) (ys spans : List Span) (first later : List (List ℕ × Option (List ℕ)))
    → AreDirectives line ys → AreDirectives line spans → later ≡ insert_all bytes_eq first (directives_at line ys)
    → later ≡ insert_all bytes_eq first (directives_at line spans)
added_all line ys spans first later are others now =
    now ∙ ap (λ xs. insert_all bytes_eq first (directives_at line xs)) (directives_only line 0 ys spans are others)
