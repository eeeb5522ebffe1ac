-- A beginning that is long enough has the whole of what comes next, and no bytes after it change that.
use Rattle.std.proofs.Common.{◌*◌, ltb, length-append}
use Rattle.std.specs.Int.{w8, w16, w32}
use Rattle.std.proofs.lemmas.Bool.{lt-ltb, le-ltb}
use Rattle.std.proofs.lemmas.List.{drop_at}
use Rattle.pcache_meta.specs.Spelling.{NumberForm, ArrayForm, TextForm, text_limit}
use Rattle.pcache_meta.specs.Reading.{text_head_at}
use Rattle.pcache_meta.proofs.Exact.{wide_again, wide8, wide16, wide32}
use Rattle.pcache_files.specs.FileReading.{tag_at, tag_len_at, text_len_at}
use Rattle.pcache_files.proofs.Words.{◌≡◌, ℕ, ◌+◌, ◌^◌, inl, inr, cond, ◌-◌, ◌≤◌, ◌<◌, List, [], ◌∷◌, ◌++◌, length, drop, Option, Some, None, refl, sym, ap, subst, ◌∙◌, append_assoc, arith, eqb, true, false, CompactCacheKey, CacheEntryKey, entry_with, key_of, number_text, NumberThen, array_text, ArrayThen, text_head, TextThen, HashThen, BytesThen, OptionThen, ◌>>=◌, array_at, items_at, hash_at, optional_at, same_Some, IsBytes, after, after_rest, chosen, items_takes, array_takes, optional_takes, optional_behind, array_again, items_again, optional_again, hash_exact, KeyItemsThen, KeyThen, EntryThen, NodeThen}
use Rattle.pcache_meta.specs.Spelling as form
use Rattle.pcache_meta.proofs.Exact as meta
use Rattle.pcache_files.specs.FileSpelling as spell

-- ---- what comes behind a spelling

-- the second bytes are the end of the first
abbrev pub Behind : List ℕ → List ℕ → Type 0
Behind bytes rest = (front : List ℕ) × (bytes ≡ front ++ rest)

further : (a b c : List ℕ) → Behind a b → Behind b c → Behind a c
further a b c x y = (x.0 ++ y.0, x.1 ∙ ap (λ l. x.0 ++ l) y.1 ∙ sym (append_assoc x.0 y.0 c))

number_behind : (b : List ℕ) (n : ℕ) (rest : List ℕ) → NumberThen b n rest → Behind b rest
number_behind b n rest t = (number_text t.form n, t.text)

pub array_behind : (b : List ℕ) (n : ℕ) (rest : List ℕ) → ArrayThen b n rest → Behind b rest
array_behind b n rest t = (array_text t.form n, t.text)

text_behind : (b t rest : List ℕ) → TextThen b t rest → Behind b rest
text_behind b t rest s = (text_head s.form (length t) ++ t, s.text ∙ sym (append_assoc (text_head s.form (length t)) t rest))

bytes_behind : (b bs rest : List ℕ) → BytesThen b bs rest → Behind b rest
bytes_behind b [] rest t = ([], t)
bytes_behind b (x ∷ bs) rest t = further b t.1 rest (number_behind b x t.1 t.2) (bytes_behind t.1 bs rest t.3)

hash_behind : (b h rest : List ℕ) → HashThen b h rest → Behind b rest
hash_behind b h rest t = further b t.items rest (array_behind b 16 t.items t.head) (bytes_behind t.items h rest t.each)

option_behind : {A : Type 0} (Then : List ℕ → A → List ℕ → Type 0) → ((b : List ℕ) (x : A) (rest : List ℕ) → Then b x rest → Behind b rest) → (b : List ℕ) (o : Option A) (rest : List ℕ) → OptionThen Then b o rest → Behind b rest
option_behind Then each b None rest t = (0xC0 ∷ [], t)
option_behind Then each b (Some x) rest t = each b x rest t

key_behind : (b : List ℕ) (k : CompactCacheKey) (rest : List ℕ) → KeyThen b k rest → Behind b rest
key_behind b k rest t =
    let i = t.each in
    further b t.items rest (array_behind b 3 t.items t.head)
    (further t.items i.later1 rest (hash_behind t.items k.primary i.later1 i.primary)
    (further i.later1 i.later2 rest (option_behind HashThen hash_behind i.later1 k.variance i.later2 i.variance) (text_behind i.later2 k.user_tag rest i.user_tag)))

entry_behind : (b : List ℕ) (e : CacheEntryKey) (rest : List ℕ) → EntryThen b e rest → Behind b rest
entry_behind b e rest (spell.only k is t) = key_behind b k rest t
entry_behind b e rest (spell.pair k id items later is head t number) =
    further b items rest (array_behind b 2 items head) (further items later rest (key_behind items k later t) (option_behind NumberThen number_behind later id rest number))

pub node_behind : (b : List ℕ) (node : CacheEntryKey × ℕ) (rest : List ℕ) → NodeThen b node rest → Behind b rest
node_behind b node rest t =
    further b t.items rest (array_behind b 2 t.items t.head) (further t.items t.later rest (entry_behind t.items node.0 t.later t.entry) (number_behind t.later node.1 rest t.weight))

-- what is read up to a tag
pub tag_behind : (b tag : List ℕ) → IsBytes b → tag_at b ≡ Some tag → Behind b tag
unfolding tag_at
tag_behind b tag fits read = after_rest (items_at 2 b) _ tag read (λ items first go.
    let t = items_takes 2 b items fits first in
    let f = meta.array_behind b 2 items fits t in
    after (array_at items) _ tag go (λ count key second go.
    let u = array_takes items count key f second in
    let g = meta.array_behind items count key f u in
    further b items tag (array_behind b 2 items t) (further items key tag (array_behind items count key u) (of count key g go))))
  where
    rest_of : (key : List ℕ) → IsBytes key → ((hash_at key) >>= λ primary. (optional_at hash_at primary.1) >>= λ variance. Some variance.1) ≡ Some tag → Behind key tag
    rest_of key fits go = after (hash_at key) _ tag go (λ primary later found go.
        let t = hash_exact.takes key primary later fits found in
        let f = hash_exact.behind key primary later fits t in
        after (optional_at hash_at later) _ tag go (λ variance last found end.
        let u = optional_takes hash_at HashThen hash_exact later variance last f found in
        let is : last ≡ tag = same_Some last tag end in
        further key later tag (hash_behind key primary later t) (subst (λ r. Behind later r) is (option_behind HashThen hash_behind later variance last u))))

    of : (count : ℕ) (key : List ℕ) → IsBytes key → ((cond (eqb count 3) (Some key) (cond (eqb count 2) (items_at 3 key) None)) >>= λ key. (hash_at key) >>= λ primary. (optional_at hash_at primary.1) >>= λ variance. Some variance.1) ≡ Some tag → Behind key tag
    of count key fits go = after_rest (cond (eqb count 3) (Some key) (cond (eqb count 2) (items_at 3 key) None)) _ tag go (λ inner found go.
        elim (chosen (eqb count 3) _ _ _ found) [
          | inl p ↦ let is : key ≡ inner = same_Some key inner p.1 in rest_of key fits (rw is go)
          | inr p ↦ elim (chosen (eqb count 2) _ _ _ p.1) [
            | inl q ↦
                let t = items_takes 3 key inner fits q.1 in
                further key inner tag (array_behind key 3 inner t) (rest_of inner (meta.array_behind key 3 inner fits t) go)
            | inr q ↦ absurd (cc q.1)
          ]
        ])

-- the last bytes, so many as the rest has, are the rest
pub dropped : (b rest : List ℕ) → Behind b rest → drop (length b - length rest) b ≡ rest
dropped b rest x =
    let size = length-append x.0 rest in
    let len : length b - length rest ≡ length x.0 = omega (arith, size, ap (λ (l : List ℕ). length l) x.1) in
    ap (λ n. drop n b) len ∙ ap (λ l. drop (length x.0) l) x.1 ∙ drop_at x.0 rest (length x.0) refl

pub not_longer : (b rest : List ℕ) → Behind b rest → length rest ≤ length b
not_longer b rest x = omega (arith, length-append x.0 rest, ap (λ (l : List ℕ). length l) x.1)

-- ---- what lies whole in a beginning

cut : (t b later more : List ℕ) → b ++ more ≡ t ++ later → length t ≤ length b → (rest : List ℕ) × (b ≡ t ++ rest) × (later ≡ rest ++ more)
cut [] b later more e le = (b, refl, sym e)
cut (x ∷ t) [] later more e le = absurd (omega (arith, le))
cut (x ∷ t) (y ∷ b) later more e le =
    let first : y ≡ x = cc e in
    let others : b ++ more ≡ t ++ later = cc e in
    let c = cut t b later more others (omega (arith, le)) in
    (c.0, cc (first, c.1), c.2)

-- of bytes with more behind them, what is spelled first stands in the bytes alone, and takes no more than so many
pub record Within {A : Type 0} (Then : List ℕ → A → List ℕ → Type 0) (most : ℕ) (b : List ℕ) (x : A) (later more : List ℕ) : Type 0 where
  pub rest : List ℕ
  pub split : later ≡ rest ++ more
  pub there : Then b x rest
  pub near : length b ≤ length rest + most

number_short : (f : NumberForm) (n : ℕ) → length (number_text f n) ≤ 9
number_short form.short n = omega arith
number_short form.wide8 n = omega arith
number_short form.wide16 n = omega arith
number_short form.wide32 n = omega arith
number_short form.wide64 n = omega arith

array_short : (f : ArrayForm) (n : ℕ) → length (array_text f n) ≤ 5
array_short form.short n = omega arith
array_short form.wide16 n = omega arith
array_short form.wide32 n = omega arith

text_short : (f : TextForm) (n : ℕ) → length (text_head f n) ≤ 5
text_short form.short n = omega arith
text_short form.wide8 n = omega arith
text_short form.wide16 n = omega arith
text_short form.wide32 n = omega arith

size_of : (b t rest : List ℕ) → b ≡ t ++ rest → length b ≡ length t + length rest
size_of b t rest e = ap (λ (l : List ℕ). length l) e ∙ length-append t rest

number_within : (b : List ℕ) (n : ℕ) (later more : List ℕ) → NumberThen (b ++ more) n later → 9 ≤ length b → Within NumberThen 9 b n later more
number_within b n later more t long =
    let short = number_short t.form n in
    let c = cut (number_text t.form n) b later more t.text (omega (arith, short, long)) in
    record { rest = c.0; split = c.2; there = record { form = t.form; fits = t.fits; text = c.1 }; near = omega (arith, short, size_of b (number_text t.form n) c.0 c.1) }

pub array_within : (b : List ℕ) (n : ℕ) (later more : List ℕ) → ArrayThen (b ++ more) n later → 5 ≤ length b → Within ArrayThen 5 b n later more
array_within b n later more t long =
    let short = array_short t.form n in
    let c = cut (array_text t.form n) b later more t.text (omega (arith, short, long)) in
    record { rest = c.0; split = c.2; there = record { form = t.form; fits = t.fits; text = c.1 }; near = omega (arith, short, size_of b (array_text t.form n) c.0 c.1) }

bytes_within : (b bs later more : List ℕ) → BytesThen (b ++ more) bs later → 9 * length bs ≤ length b → Within BytesThen (9 * length bs) b bs later more
bytes_within b [] later more t long = record { rest = b; split = sym t; there = refl; near = omega arith }
bytes_within b (x ∷ bs) later more t long =
    let first = number_within b x t.1 more t.2 (omega (arith, long)) in
    let others = bytes_within first.rest bs later more (subst (λ l. BytesThen l bs later) first.split t.3) (omega (arith, long, first.near)) in
    record { rest = others.rest; split = others.split; there = (t.0, first.rest, first.there, others.there); near = omega (arith, first.near, others.near) }

hash_within : (b h later more : List ℕ) → HashThen (b ++ more) h later → 149 ≤ length b → Within HashThen 149 b h later more
hash_within b h later more t long =
    let head = array_within b 16 t.items more t.head (omega (arith, long)) in
    let each = bytes_within head.rest h later more (subst (λ l. BytesThen l h later) head.split t.each) (omega (arith, long, head.near, t.size)) in
    record { rest = each.rest; split = each.split; there = record { size = t.size; items = head.rest; head = head.there; each = each.there }; near = omega (arith, head.near, each.near, t.size) }

option_within : {A : Type 0} (Then : List ℕ → A → List ℕ → Type 0) (most : ℕ) → ((b : List ℕ) (x : A) (later more : List ℕ) → Then (b ++ more) x later → most ≤ length b → Within Then most b x later more)
    → (b : List ℕ) (o : Option A) (later more : List ℕ) → OptionThen Then (b ++ more) o later → 1 ≤ most → most ≤ length b → Within (OptionThen Then) most b o later more
option_within Then most each b None later more t some long =
    let c = cut (0xC0 ∷ []) b later more t (omega (arith, some, long)) in
    record { rest = c.0; split = c.2; there = c.1; near = omega (arith, some, size_of b (0xC0 ∷ []) c.0 c.1) }
option_within Then most each b (Some x) later more t some long =
    let w = each b x later more t long in
    record { rest = w.rest; split = w.split; there = w.there; near = w.near }

text_within : (b t later more : List ℕ) → TextThen (b ++ more) t later → 5 + length t ≤ length b → Within TextThen (5 + length t) b t later more
text_within b t later more s long =
    let head = text_head s.form (length t) in
    let short = text_short s.form (length t) in
    let size = length-append head t in
    let c = cut (head ++ t) b later more (s.text ∙ sym (append_assoc head t later)) (omega (arith, short, size, long)) in
    record {
      rest = c.0;
      split = c.2;
      there = record { form = s.form; fits = s.fits; utf8 = s.utf8; text = c.1 ∙ append_assoc head t c.0 };
      near = omega (arith, short, size, size_of b (head ++ t) c.0 c.1);
    }

key_within : (b : List ℕ) (k : CompactCacheKey) (later more : List ℕ) → KeyThen (b ++ more) k later → 308 + length k.user_tag ≤ length b → Within KeyThen (308 + length k.user_tag) b k later more
key_within b k later more t long =
    let i = t.each in
    let head = array_within b 3 t.items more t.head (omega (arith, long)) in
    let primary = hash_within head.rest k.primary i.later1 more (subst (λ l. HashThen l k.primary i.later1) head.split i.primary) (omega (arith, long, head.near)) in
    let variance = option_within HashThen 149 hash_within primary.rest k.variance i.later2 more (subst (λ l. OptionThen HashThen l k.variance i.later2) primary.split i.variance) (omega arith) (omega (arith, long, head.near, primary.near)) in
    let tag = text_within variance.rest k.user_tag later more (subst (λ l. TextThen l k.user_tag later) variance.split i.user_tag) (omega (arith, long, head.near, primary.near, variance.near)) in
    record {
      rest = tag.rest;
      split = tag.split;
      there = record {
        items = head.rest;
        head = head.there;
        each = record { later1 = primary.rest; primary = primary.there; later2 = variance.rest; variance = variance.there; user_tag = tag.there };
      };
      near = omega (arith, head.near, primary.near, variance.near, tag.near);
    }

-- the tag of an entry
abbrev pub tag_of : CacheEntryKey → List ℕ
tag_of e = (key_of e).user_tag

tag_with : (k : CompactCacheKey) (id : Option ℕ) → tag_of (entry_with k id) ≡ k.user_tag
tag_with k None = refl
tag_with k (Some n) = refl

tag_size : (e : CacheEntryKey) (k : CompactCacheKey) (id : Option ℕ) → e ≡ entry_with k id → length (tag_of e) ≡ length k.user_tag
tag_size e k id is = ap (λ x. length (tag_of x)) is ∙ ap (λ (l : List ℕ). length l) (tag_with k id)

entry_within : (b : List ℕ) (e : CacheEntryKey) (later more : List ℕ) → EntryThen (b ++ more) e later → 322 + length (tag_of e) ≤ length b → Within EntryThen (322 + length (tag_of e)) b e later more
entry_within b e later more (spell.only k is t) long =
    let size = tag_size e k None is in
    let w = key_within b k later more t (omega (arith, long, size)) in
    record { rest = w.rest; split = w.split; there = spell.only k is w.there; near = omega (arith, w.near, size) }
entry_within b e later more (spell.pair k id items behind is head t number) long =
    let size = tag_size e k id is in
    let first = array_within b 2 items more head (omega (arith, long)) in
    let key = key_within first.rest k behind more (subst (λ l. KeyThen l k behind) first.split t) (omega (arith, long, size, first.near)) in
    let last = option_within NumberThen 9 number_within key.rest id later more (subst (λ l. OptionThen NumberThen l id later) key.split number) (omega arith) (omega (arith, long, size, first.near, key.near)) in
    record { rest = last.rest; split = last.split; there = spell.pair k id first.rest key.rest is first.there key.there last.there; near = omega (arith, size, first.near, key.near, last.near) }

pub node_within : (b : List ℕ) (node : CacheEntryKey × ℕ) (later more : List ℕ) → NodeThen (b ++ more) node later → 336 + length (tag_of node.0) ≤ length b → Within NodeThen (336 + length (tag_of node.0)) b node later more
node_within b node later more t long =
    let head = array_within b 2 t.items more t.head (omega (arith, long)) in
    let entry = entry_within head.rest node.0 t.later more (subst (λ l. EntryThen l node.0 t.later) head.split t.entry) (omega (arith, long, head.near)) in
    let last = number_within entry.rest node.1 later more (subst (λ l. NumberThen l node.1 later) entry.split t.weight) (omega (arith, long, head.near, entry.near)) in
    record { rest = last.rest; split = last.split; there = record { items = head.rest; head = head.there; later = entry.rest; entry = entry.there; weight = last.there }; near = omega (arith, head.near, entry.near, last.near) }

-- ---- the bytes before the tag of a node

-- the bytes from the tag of a key on
pub record KeyFront (b : List ℕ) (k : CompactCacheKey) (tag : List ℕ) : Type 0 where
  pub later1 : List ℕ
  pub primary : HashThen b k.primary later1
  pub variance : OptionThen HashThen later1 k.variance tag

-- the bytes from the tag of a node on
pub data FrontThen (b : List ℕ) (k : CompactCacheKey) (tag : List ℕ) : Type 0 where
  only : (items key : List ℕ) → ArrayThen b 2 items → ArrayThen items 3 key → KeyFront key k tag → FrontThen b k tag
  pair : (items entry key : List ℕ) → ArrayThen b 2 items → ArrayThen items 2 entry → ArrayThen entry 3 key → KeyFront key k tag → FrontThen b k tag

key_front_within : (b : List ℕ) (k : CompactCacheKey) (tag more : List ℕ) → KeyFront (b ++ more) k tag → 298 ≤ length b → Within KeyFront 298 b k tag more
key_front_within b k tag more t long =
    let primary = hash_within b k.primary t.later1 more t.primary (omega (arith, long)) in
    let variance = option_within HashThen 149 hash_within primary.rest k.variance tag more (subst (λ l. OptionThen HashThen l k.variance tag) primary.split t.variance) (omega arith) (omega (arith, long, primary.near)) in
    record { rest = variance.rest; split = variance.split; there = record { later1 = primary.rest; primary = primary.there; variance = variance.there }; near = omega (arith, primary.near, variance.near) }

front_within : (b : List ℕ) (k : CompactCacheKey) (tag more : List ℕ) → FrontThen (b ++ more) k tag → 313 ≤ length b → Within FrontThen 313 b k tag more
front_within b k tag more (only items key first second t) long =
    let x = array_within b 2 items more first (omega (arith, long)) in
    let y = array_within x.rest 3 key more (subst (λ l. ArrayThen l 3 key) x.split second) (omega (arith, long, x.near)) in
    let w = key_front_within y.rest k tag more (subst (λ l. KeyFront l k tag) y.split t) (omega (arith, long, x.near, y.near)) in
    record { rest = w.rest; split = w.split; there = only x.rest y.rest x.there y.there w.there; near = omega (arith, x.near, y.near, w.near) }
front_within b k tag more (pair items entry key first second third t) long =
    let x = array_within b 2 items more first (omega (arith, long)) in
    let y = array_within x.rest 2 entry more (subst (λ l. ArrayThen l 2 entry) x.split second) (omega (arith, long, x.near)) in
    let z = array_within y.rest 3 key more (subst (λ l. ArrayThen l 3 key) y.split third) (omega (arith, long, x.near, y.near)) in
    let w = key_front_within z.rest k tag more (subst (λ l. KeyFront l k tag) z.split t) (omega (arith, long, x.near, y.near, z.near)) in
    record { rest = w.rest; split = w.split; there = pair x.rest y.rest z.rest x.there y.there z.there w.there; near = omega (arith, x.near, y.near, z.near, w.near) }

front_again : (b : List ℕ) (k : CompactCacheKey) (tag : List ℕ) → FrontThen b k tag → tag_at b ≡ Some tag
unfolding tag_at
front_again b k tag (only items key first second t) =
    rw (items_again 2 b items first, array_again items 3 key second, hash_exact.again key k.primary t.later1 t.primary, optional_again hash_at HashThen hash_exact t.later1 k.variance tag t.variance) refl
front_again b k tag (pair items entry key first second third t) =
    rw (items_again 2 b items first, array_again items 2 entry second, items_again 3 entry key third, hash_exact.again key k.primary t.later1 t.primary, optional_again hash_at HashThen hash_exact t.later1 k.variance tag t.variance) refl

head_again : (f : TextForm) (n : ℕ) (rest : List ℕ) → n < text_limit f → text_head_at (text_head f n ++ rest) ≡ Some (n, rest)
unfolding text_head_at
head_again form.short n rest lt =
    let a : eqb (0xA0 + n) 0xD9 ≡ false = Prim.grind arith in
    let b : eqb (0xA0 + n) 0xDA ≡ false = Prim.grind arith in
    let c : eqb (0xA0 + n) 0xDB ≡ false = Prim.grind arith in
    let low : ltb (0xA0 + n) 0xA0 ≡ false = le-ltb _ _ (omega arith) in
    let high : ltb (0xA0 + n) 0xC0 ≡ true = lt-ltb _ _ (omega arith) in
    let same : 0xA0 + n - 0xA0 ≡ n = omega arith in
    rw (a, b, c, low, high, same) refl
head_again form.wide8 n rest lt = wide_again w8 (2 ^ 8) wide8 n rest lt
head_again form.wide16 n rest lt = wide_again w16 (2 ^ 16) wide16 n rest lt
head_again form.wide32 n rest lt = wide_again w32 (2 ^ 32) wide32 n rest lt

-- the length of a text is known as soon as its head is there
text_len : (b t later more : List ℕ) → TextThen (b ++ more) t later → 5 ≤ length b → (r : List ℕ) × (text_head_at b ≡ Some (length t, r))
text_len b t later more s long =
    let head = text_head s.form (length t) in
    let c = cut head b (t ++ later) more s.text (omega (arith, text_short s.form (length t), long)) in
    (c.0, ap text_head_at c.1 ∙ head_again s.form (length t) c.0 s.fits)

text_len_whole : (b t later : List ℕ) → TextThen b t later → text_head_at b ≡ Some (length t, t ++ later)
text_len_whole b t later s = ap text_head_at s.text ∙ head_again s.form (length t) (t ++ later) s.fits

-- the front of a node, and its tag
record Fronted (b : List ℕ) (node : CacheEntryKey × ℕ) : Type 0 where
  k : CompactCacheKey
  is : length (tag_of node.0) ≡ length k.user_tag
  tag : List ℕ
  front : FrontThen b k tag
  behind : List ℕ
  text : TextThen tag k.user_tag behind

fronted : (b : List ℕ) (node : CacheEntryKey × ℕ) (later : List ℕ) → NodeThen b node later → Fronted b node
fronted b node later t = of t.entry
  where
    of : EntryThen t.items node.0 t.later → Fronted b node
    of (spell.only k is s) =
        let i = s.each in
        record { k = k; is = tag_size node.0 k None is; tag = i.later2; front = only t.items s.items t.head s.head (record { later1 = i.later1; primary = i.primary; variance = i.variance }); behind = t.later; text = i.user_tag }
    of (spell.pair k id items behind is head s number) =
        let i = s.each in
        record { k = k; is = tag_size node.0 k id is; tag = i.later2; front = pair t.items items s.items t.head head s.head (record { later1 = i.later1; primary = i.primary; variance = i.variance }); behind = behind; text = i.user_tag }

told : (b tag r : List ℕ) (n m : ℕ) → tag_at b ≡ Some tag → text_head_at tag ≡ Some (n, r) → m ≡ n → tag_len_at b ≡ Some m
unfolding tag_len_at text_len_at
told b tag r n m at head is = rw (at, head, is) refl

-- the length of a node's tag is known as soon as all bytes that may come before it are there
pub tag_told : (b : List ℕ) (node : CacheEntryKey × ℕ) (later more : List ℕ) → NodeThen (b ++ more) node later → 318 ≤ length b → tag_len_at b ≡ Some (length (tag_of node.0))
tag_told b node later more t long =
    let f = fronted (b ++ more) node later t in
    let w = front_within b f.k f.tag more f.front (omega (arith, long)) in
    let n = text_len w.rest f.k.user_tag f.behind more (subst (λ l. TextThen l f.k.user_tag f.behind) w.split f.text) (omega (arith, long, w.near)) in
    told b w.rest n.0 (length f.k.user_tag) (length (tag_of node.0)) (front_again b f.k w.rest w.there) n.1 f.is

pub tag_told_whole : (b : List ℕ) (node : CacheEntryKey × ℕ) (later : List ℕ) → NodeThen b node later → tag_len_at b ≡ Some (length (tag_of node.0))
tag_told_whole b node later t =
    let f = fronted b node later t in
    told b f.tag (f.k.user_tag ++ f.behind) (length f.k.user_tag) (length (tag_of node.0)) (front_again b f.k f.tag f.front) (text_len_whole f.tag f.k.user_tag f.behind f.text) f.is

text_limits : (f : TextForm) → text_limit f ≤ 2 ^ 32
text_limits form.short = omega arith
text_limits form.wide8 = omega arith
text_limits form.wide16 = omega arith
text_limits form.wide32 = omega arith

pub tag_fits : (b : List ℕ) (node : CacheEntryKey × ℕ) (later : List ℕ) → NodeThen b node later → length (tag_of node.0) < 2 ^ 32
tag_fits b node later t =
    let f = fronted b node later t in
    omega (arith, f.is, f.text.fits, text_limits f.text.form)
