-- Bytes that come in pieces: what was read of them, and what those that are left can no longer change.
use Rattle.std.proofs.Common.{min, length-append}
use Rattle.pcache_meta.specs.Reading.{Fails}
use Rattle.pcache_files.specs.Device.{Gave}
use Rattle.pcache_files.specs.FileReading.{node_at, tag_len_at}
use Rattle.pcache_files.proofs.Words.{◌≡◌, ℕ, ◌+◌, ◌-◌, ◌≤◌, ◌<◌, ◌^◌, ◌⊎◌, List, [], ◌∷◌, ◌++◌, length, Option, Some, None, refl, sym, ap, subst, ◌∙◌, append_assoc, arith, inl, inr, Consumes, IsAtEnd, append-nil, nil_from_length, some_pair_parts, same_Some, CacheEntryKey, Recency, ArrayThen, ErrorType, InternalError, array_at, array_again, NodeThen, NodesThen, SpellsFile}
use Rattle.pcache_files.proofs.Beginnings.{array_longer, nodes_longer}
use Rattle.pcache_files.proofs.Devices.{consumes-more}
use Rattle.pcache_files.proofs.FileExact.{node_again}
use Rattle.pcache_files.proofs.Whole.{array_within, node_within, tag_told, tag_told_whole, tag_of, tag_fits}

-- ---- what a reader has left, if that is known

pub left_of : (old new : Option (List ℕ)) (piece rest : List ℕ) → Consumes old new piece → old ≡ Some rest → (left : List ℕ) × (new ≡ Some left) × (rest ≡ piece ++ left)
left_of None new piece rest c e = absurd (cc e)
left_of (Some xs) None piece rest c e = absurd c
left_of (Some xs) (Some ys) piece rest c e = (ys, refl, sym (same_Some xs rest e) ∙ c)

none_left : (new : Option (List ℕ)) (left : List ℕ) → new ≡ Some left → IsAtEnd new → left ≡ []
none_left None left e end = absurd (cc e)
none_left (Some xs) left e end = sym (same_Some xs left e) ∙ end

-- a piece that was read is ahead, and no longer behind
joined : (a b piece rest left : List ℕ) → b ≡ a ++ piece → rest ≡ piece ++ left → a ++ rest ≡ b ++ left
joined a b piece rest left is split = ap (λ l. a ++ l) split ∙ sym (append_assoc a piece left) ∙ ap (λ l. l ++ left) (sym is)

alone : (b left : List ℕ) → left ≡ [] → b ++ left ≡ b
alone b left e = ap (λ l. b ++ l) e ∙ append-nil b

-- reading that takes no memory fails only if there is nothing to read
pub fails_none : {Y : Type 0} (e : ErrorType) (read : Option Y) → Fails e read → read ≡ None
fails_none InternalError read h = h
fails_none _ read h = absurd h

-- ---- the head

pub count_refused : (a b : List ℕ) (old new : Option (List ℕ)) → ((piece : List ℕ) × Consumes old new piece × (b ≡ a ++ piece)) → (5 ≤ length b) ⊎ IsAtEnd new → array_at b ≡ None
    → (rest : List ℕ) → old ≡ Some rest → (n : ℕ) (later : List ℕ) → ArrayThen (a ++ rest) n later → ⊥
count_refused a b old new (piece, consumed, is) enough none rest known n later t =
    let l = left_of old new piece rest consumed known in
    let s : ArrayThen (b ++ l.0) n later = subst (λ x. ArrayThen x n later) (joined a b piece rest l.0 is l.2) t in
    elim enough [
      | inl long ↦ let w = array_within b n later l.0 s long in cc (array_again b n w.rest w.there, none)
      | inr end ↦ let u = subst (λ x. ArrayThen x n later) (alone b l.0 (none_left new l.0 l.1 end)) s in cc (array_again b n later u, none)
    ]

-- ---- a node

tag_is : (b : List ℕ) (mid : Option (List ℕ)) (node : CacheEntryKey × ℕ) (later left : List ℕ) → (318 ≤ length b) ⊎ IsAtEnd mid → mid ≡ Some left → NodeThen (b ++ left) node later → tag_len_at b ≡ Some (length (tag_of node.0))
tag_is b mid node later left (inl long) known t = tag_told b node later left t long
tag_is b mid node later left (inr end) known t = tag_told_whole b node later (subst (λ x. NodeThen x node later) (alone b left (none_left mid left known end)) t)

pub tag_refused : (a b : List ℕ) (old new : Option (List ℕ)) → ((piece : List ℕ) × Consumes old new piece × (b ≡ a ++ piece)) → (318 ≤ length b) ⊎ IsAtEnd new → tag_len_at b ≡ None
    → (rest : List ℕ) → old ≡ Some rest → (node : CacheEntryKey × ℕ) (later : List ℕ) → NodeThen (a ++ rest) node later → ⊥
tag_refused a b old new (piece, consumed, is) enough none rest known node later t =
    let l = left_of old new piece rest consumed known in
    let s : NodeThen (b ++ l.0) node later = subst (λ x. NodeThen x node later) (joined a b piece rest l.0 is l.2) t in
    let told = tag_is b new node later l.0 enough l.1 s in
    cc (told, none)

pub node_refused : (a b c : List ℕ) (old mid new : Option (List ℕ)) (tag wanted : ℕ)
    → ((piece : List ℕ) × Consumes old mid piece × (b ≡ a ++ piece)) → (318 ≤ length b) ⊎ IsAtEnd mid → tag_len_at b ≡ Some tag
    → ((piece : List ℕ) × Consumes mid new piece × (c ≡ b ++ piece)) → (wanted ≤ length c) ⊎ IsAtEnd new → wanted ≡ min (336 + tag) (2 ^ 64 - 1) → node_at c ≡ None
    → (rest : List ℕ) → old ≡ Some rest → (node : CacheEntryKey × ℕ) (later : List ℕ) → NodeThen (a ++ rest) node later → ⊥
node_refused a b c old mid new tag wanted (p, first, b-is) enough tag-is (q, second, c-is) last wanted-is none rest known node later t =
    let l = left_of old mid p rest first known in
    let m = left_of mid new q l.0 second l.1 in
    let s : NodeThen (b ++ l.0) node later = subst (λ x. NodeThen x node later) (joined a b p rest l.0 b-is l.2) t in
    let u : NodeThen (c ++ m.0) node later = subst (λ x. NodeThen x node later) (joined b c q l.0 m.0 c-is m.2) s in
    let told = tag_is b mid node later l.0 enough l.1 s in
    let same : tag ≡ length (tag_of node.0) = same_Some tag (length (tag_of node.0)) (sym tag-is ∙ told) in
    let fits = tag_fits (c ++ m.0) node later u in
    elim last [
      | inl long ↦ let w = node_within c node later m.0 u (omega (arith, long, wanted-is, same, fits)) in cc (node_again c node w.rest w.there, none)
      | inr end ↦ let v = subst (λ x. NodeThen x node later) (alone c m.0 (none_left new m.0 m.1 end)) u in cc (node_again c node later v, none)
    ]

pub node_found : (a b c r : List ℕ) (old mid new : Option (List ℕ)) (node : CacheEntryKey × ℕ)
    → ((piece : List ℕ) × Consumes old mid piece × (b ≡ a ++ piece)) → ((piece : List ℕ) × Consumes mid new piece × (c ≡ b ++ piece)) → NodeThen c node r
    → (piece : List ℕ) × Consumes old new piece × NodeThen (a ++ piece) node r
node_found a b c r old mid new node (p, first, b-is) (q, second, c-is) t =
    let whole : c ≡ a ++ (p ++ q) = c-is ∙ ap (λ l. l ++ q) b-is ∙ append_assoc a p q in
    (p ++ q, consumes-more old mid new p q first second, subst (λ x. NodeThen x node r) whole t)

-- ---- nodes one after the other

nodes_more : (b : List ℕ) (l : Recency) (node : CacheEntryKey × ℕ) (mid rest : List ℕ) → NodesThen b l mid → NodeThen mid node rest → NodesThen b (l ++ node ∷ []) rest
nodes_more b [] node mid rest t n = (rest, subst (λ x. NodeThen x node rest) (sym t) n, refl)
nodes_more b (e ∷ l) node mid rest t n = (t.0, t.1, nodes_more t.0 l node mid rest t.2 n)

same_rest : (b x y : List ℕ) (e f : CacheEntryKey × ℕ) → NodeThen b e x → NodeThen b f y → x ≡ y
same_rest b x y e f s t = (some_pair_parts e f x y (sym (node_again b e x s) ∙ node_again b f y t)).1

next_of : (b : List ℕ) (l m : Recency) (mid later : List ℕ) → NodesThen b l mid → NodesThen b m later → length l < length m → (node : CacheEntryKey × ℕ) × (after : List ℕ) × NodeThen mid node after
next_of b [] [] mid later t s lt = absurd (omega (arith, lt))
next_of b [] (e ∷ m) mid later t s lt = (e, s.0, subst (λ x. NodeThen x e s.0) t s.1)
next_of b (e ∷ l) [] mid later t s lt = absurd (omega (arith, lt))
next_of b (e ∷ l) (f ∷ m) mid later t s lt =
    next_of t.0 l m mid later t.2 (subst (λ x. NodesThen x m later) (sym (same_rest b t.0 s.0 e f t.1 s.1)) s.2) (omega (arith, lt))

same_end : (b : List ℕ) (l m : Recency) (mid later : List ℕ) → NodesThen b l mid → NodesThen b m later → length l ≡ length m → mid ≡ later
same_end b [] [] mid later t s same = sym t ∙ s
same_end b [] (e ∷ m) mid later t s same = absurd (omega (arith, same))
same_end b (e ∷ l) [] mid later t s same = absurd (omega (arith, same))
same_end b (e ∷ l) (f ∷ m) mid later t s same =
    same_end t.0 l m mid later t.2 (subst (λ x. NodesThen x m later) (sym (same_rest b t.0 s.0 e f t.1 s.1)) s.2) (omega (arith, same))

-- these nodes were read of what was ahead and of a piece
pub record Reading (old now : Option (List ℕ)) (a ahead : List ℕ) (nodes : Recency) : Type 0 where
  pub piece : List ℕ
  pub consumed : Consumes old now piece
  pub spelled : NodesThen (a ++ piece) nodes ahead

pub reading_more : (old now new : Option (List ℕ)) (a ahead after : List ℕ) (nodes : Recency) (node : CacheEntryKey × ℕ) → Reading old now a ahead nodes
    → ((piece : List ℕ) × Consumes now new piece × NodeThen (ahead ++ piece) node after) → Reading old new a after (nodes ++ node ∷ [])
reading_more old now new a ahead after nodes node so_far (piece, consumed, t) =
    let whole : (a ++ so_far.piece) ++ piece ≡ a ++ (so_far.piece ++ piece) = append_assoc a so_far.piece piece in
    let longer = nodes_longer (a ++ so_far.piece) nodes ahead piece so_far.spelled in
    record {
      piece = so_far.piece ++ piece;
      consumed = consumes-more old now new so_far.piece piece so_far.consumed consumed;
      spelled = subst (λ x. NodesThen x (nodes ++ node ∷ []) after) whole (nodes_more ((a ++ so_far.piece) ++ piece) nodes node (ahead ++ piece) after longer t);
    }

-- what is left, and the nodes before it
spelled_so : (old now : Option (List ℕ)) (a ahead rest : List ℕ) (nodes : Recency) (so_far : Reading old now a ahead nodes) → old ≡ Some rest
    → (left : List ℕ) × (now ≡ Some left) × NodesThen (a ++ rest) nodes (ahead ++ left)
spelled_so old now a ahead rest nodes so_far known =
    let l = left_of old now so_far.piece rest so_far.consumed known in
    let is : a ++ rest ≡ (a ++ so_far.piece) ++ l.0 = joined a (a ++ so_far.piece) so_far.piece rest l.0 refl l.2 in
    (l.0, l.1, subst (λ x. NodesThen x nodes (ahead ++ l.0)) (sym is) (nodes_longer (a ++ so_far.piece) nodes ahead l.0 so_far.spelled))

pub nodes_refused : (old now : Option (List ℕ)) (a ahead : List ℕ) (nodes : Recency) (count : ℕ) → Reading old now a ahead nodes → length nodes < count
    → ((rest : List ℕ) → now ≡ Some rest → (node : CacheEntryKey × ℕ) (later : List ℕ) → NodeThen (ahead ++ rest) node later → ⊥)
    → (rest : List ℕ) → old ≡ Some rest → (l : Recency) (later : List ℕ) → length l ≡ count → NodesThen (a ++ rest) l later → ⊥
nodes_refused old now a ahead nodes count so_far fewer never rest known l later many t =
    let s = spelled_so old now a ahead rest nodes so_far known in
    let n = next_of (a ++ rest) nodes l (ahead ++ s.0) later s.2 t (omega (arith, fewer, many)) in
    never s.0 s.1 n.0 n.1 n.2

-- ---- the whole

count_of : (head ahead : List ℕ) (n : ℕ) (old now : Option (List ℕ)) (rest : List ℕ) (l : Recency)
    → ((piece : List ℕ) × Consumes old now piece × ArrayThen (head ++ piece) n ahead) → head ≡ [] → old ≡ Some rest → SpellsFile rest l
    → (left : List ℕ) × (now ≡ Some left) × (length l ≡ n) × NodesThen (ahead ++ left) l []
count_of head ahead n old now rest l (piece, consumed, t) empty known s =
    let k = left_of old now piece rest consumed known in
    let first : ArrayThen piece n ahead = subst (λ x. ArrayThen (x ++ piece) n ahead) empty t in
    let longer : ArrayThen rest n (ahead ++ k.0) = subst (λ x. ArrayThen x n (ahead ++ k.0)) (sym k.2) (array_longer piece n ahead k.0 first) in
    let same = some_pair_parts (length l) n s.items (ahead ++ k.0) (sym (array_again rest (length l) s.items s.head) ∙ array_again rest n (ahead ++ k.0) longer) in
    (k.0, k.1, same.0, subst (λ x. NodesThen x l []) same.1 s.nodes)

pub list_refused_behind : (head a b c : List ℕ) (n : ℕ) (nodes : Recency) (old now next new : Option (List ℕ)) → ((piece : List ℕ) × Consumes old now piece × ArrayThen (head ++ piece) n a) → head ≡ []
    → ((piece : List ℕ) × Consumes now next piece × NodesThen (a ++ piece) nodes b) → length nodes ≡ n
    → ((piece : List ℕ) × Consumes next new piece × (c ≡ b ++ piece)) → 0 < length c
    → (rest : List ℕ) → old ≡ Some rest → (l : Recency) → SpellsFile rest l → ⊥
list_refused_behind head a b c n nodes old now next new found empty (p, consumed, t) many (q, last, is) some rest known l s =
    let k = count_of head a n old now rest l found empty known s in
    let so_far : Reading now next a b nodes = record { piece = p; consumed = consumed; spelled = t } in
    let m = spelled_so now next a b k.0 nodes so_far k.1 in
    let end : b ++ m.0 ≡ [] = same_end (a ++ k.0) nodes l (b ++ m.0) [] m.2 k.3 (omega (arith, many, k.2)) in
    let x = left_of next new q m.0 last m.1 in
    let size : length (c ++ x.0) ≡ 0 = ap (λ (l : List ℕ). length l) (sym (joined b c q m.0 x.0 is x.2) ∙ end) in
    omega (arith, some, size, length-append c x.0)

pub list_found : (head a b c : List ℕ) (n : ℕ) (nodes : Recency) (old now next new : Option (List ℕ)) → ((piece : List ℕ) × Consumes old now piece × ArrayThen (head ++ piece) n a) → head ≡ []
    → ((piece : List ℕ) × Consumes now next piece × NodesThen (a ++ piece) nodes b) → length nodes ≡ n
    → ((piece : List ℕ) × Consumes next new piece × (c ≡ b ++ piece)) → (1 ≤ length c) ⊎ IsAtEnd new → length c ≡ 0
    → (bytes : List ℕ) × Gave old new bytes × SpellsFile bytes nodes
list_found head a b c n nodes old now next new (o, first, t) empty (p, second, u) many (q, third, is) enough none =
    let none-b : b ≡ [] = nil_from_length b (omega (arith, none, ap (λ (l : List ℕ). length l) is, length-append b q)) in
    let none-q : q ≡ [] = nil_from_length q (omega (arith, none, ap (λ (l : List ℕ). length l) is, length-append b q)) in
    let whole : (o ++ p) ++ q ≡ o ++ p = alone (o ++ p) q none-q in
    let consumed : Consumes old new (o ++ p) = subst (λ x. Consumes old new x) whole (consumes-more old next new (o ++ p) q (consumes-more old now next o p first second) third) in
    let start : ArrayThen o n a = subst (λ x. ArrayThen (x ++ o) n a) empty t in
    let longer : ArrayThen (o ++ p) (length nodes) (a ++ p) = subst (λ m. ArrayThen (o ++ p) m (a ++ p)) (sym many) (array_longer o n a p start) in
    let all : NodesThen (a ++ p) nodes [] = subst (λ x. NodesThen (a ++ p) nodes x) none-b u in
    let end : IsAtEnd new = elim enough [ inl long ↦ absurd (omega (arith, long, none)) | inr end ↦ end ] in
    (o ++ p, record { consumed = consumed; ended = end }, record { items = a ++ p; head = longer; nodes = all })
