-- No proper beginning of a file is a file: what follows a spelling can be made longer at its end.
use Rattle.pcache_files.specs.FileLaws.{NoBeginningIsAFile}
use Rattle.pcache_files.specs.FileReading.{file_at}
use Rattle.pcache_files.proofs.Words.{◌≡◌, ℕ, suc, false, eqb, arith, List, [], ◌∷◌, ◌++◌, length, Option, Some, None, refl, ap, ◌∙◌, append_assoc, CompactCacheKey, CacheEntryKey, Recency, NumberThen, number_text, ArrayThen, array_text, TextThen, text_head, HashThen, BytesThen, OptionThen, KeyThen, EntryThen, NodeThen, NodesThen, SpellsFile, array_again}
use Rattle.pcache_files.specs.FileSpelling as spell
use Rattle.pcache_files.proofs.FileExact.{file_again, nodes_again}

-- ---- the forms: with more bytes after

number_longer : (bytes : List ℕ) (n : ℕ) (rest more : List ℕ) → NumberThen bytes n rest → NumberThen (bytes ++ more) n (rest ++ more)
number_longer bytes n rest more t = record { form = t.form; fits = t.fits; text = ap (λ b. b ++ more) t.text ∙ append_assoc (number_text t.form n) rest more }

pub array_longer : (bytes : List ℕ) (n : ℕ) (rest more : List ℕ) → ArrayThen bytes n rest → ArrayThen (bytes ++ more) n (rest ++ more)
array_longer bytes n rest more t = record { form = t.form; fits = t.fits; text = ap (λ b. b ++ more) t.text ∙ append_assoc (array_text t.form n) rest more }

text_longer : (bytes s rest more : List ℕ) → TextThen bytes s rest → TextThen (bytes ++ more) s (rest ++ more)
text_longer bytes s rest more t =
    record {
      form = t.form;
      fits = t.fits;
      utf8 = t.utf8;
      text = ap (λ b. b ++ more) t.text ∙ append_assoc (text_head t.form (length s)) (s ++ rest) more ∙ ap (λ b. text_head t.form (length s) ++ b) (append_assoc s rest more);
    }

option_longer : {A : Type 0} (Then : List ℕ → A → List ℕ → Type 0) → ((bytes : List ℕ) (x : A) (rest more : List ℕ) → Then bytes x rest → Then (bytes ++ more) x (rest ++ more)) → (bytes : List ℕ) (x : Option A) (rest more : List ℕ) → OptionThen Then bytes x rest → OptionThen Then (bytes ++ more) x (rest ++ more)
option_longer Then longer bytes None rest more t = ap (λ b. b ++ more) t
option_longer Then longer bytes (Some x) rest more t = longer bytes x rest more t

bytes_longer : (bytes hash rest more : List ℕ) → BytesThen bytes hash rest → BytesThen (bytes ++ more) hash (rest ++ more)
bytes_longer bytes [] rest more t = ap (λ b. b ++ more) t
bytes_longer bytes (b ∷ hash) rest more t = (t.0, t.1 ++ more, number_longer bytes b t.1 more t.2, bytes_longer t.1 hash rest more t.3)

hash_longer : (bytes hash rest more : List ℕ) → HashThen bytes hash rest → HashThen (bytes ++ more) hash (rest ++ more)
hash_longer bytes hash rest more t =
    record { size = t.size; items = t.items ++ more; head = array_longer bytes 16 t.items more t.head; each = bytes_longer t.items hash rest more t.each }

-- ---- keys, entries and nodes

key_longer : (bytes : List ℕ) (k : CompactCacheKey) (rest more : List ℕ) → KeyThen bytes k rest → KeyThen (bytes ++ more) k (rest ++ more)
key_longer bytes k rest more t =
    let i = t.each in
    record {
      items = t.items ++ more;
      head = array_longer bytes 3 t.items more t.head;
      each =
          record {
            later1 = i.later1 ++ more;
            primary = hash_longer t.items k.primary i.later1 more i.primary;
            later2 = i.later2 ++ more;
            variance = option_longer HashThen hash_longer i.later1 k.variance i.later2 more i.variance;
            user_tag = text_longer i.later2 k.user_tag rest more i.user_tag;
          };
    }

entry_longer : (bytes : List ℕ) (e : CacheEntryKey) (rest more : List ℕ) → EntryThen bytes e rest → EntryThen (bytes ++ more) e (rest ++ more)
entry_longer bytes e rest more (spell.only k is t) = spell.only k is (key_longer bytes k rest more t)
entry_longer bytes e rest more (spell.pair k id items later is head t number) =
    spell.pair k id (items ++ more) (later ++ more) is (array_longer bytes 2 items more head) (key_longer items k later more t) (option_longer NumberThen number_longer later id rest more number)

pub node_longer : (bytes : List ℕ) (node : CacheEntryKey × ℕ) (rest more : List ℕ) → NodeThen bytes node rest → NodeThen (bytes ++ more) node (rest ++ more)
node_longer bytes node rest more t =
    record {
      items = t.items ++ more;
      head = array_longer bytes 2 t.items more t.head;
      later = t.later ++ more;
      entry = entry_longer t.items node.0 t.later more t.entry;
      weight = number_longer t.later node.1 rest more t.weight;
    }

pub nodes_longer : (bytes : List ℕ) (l : Recency) (rest more : List ℕ) → NodesThen bytes l rest → NodesThen (bytes ++ more) l (rest ++ more)
nodes_longer bytes [] rest more t = ap (λ b. b ++ more) t
nodes_longer bytes (node ∷ l) rest more t = (t.0 ++ more, node_longer bytes node t.0 more t.1, nodes_longer t.0 l rest more t.2)

-- ---- files

not_none : (n : ℕ) → eqb (suc n) 0 ≡ false
not_none n = Prim.grind arith

-- a file with a byte after is none
behind_none : (bytes : List ℕ) (l : Recency) (x : ℕ) (more : List ℕ) → SpellsFile bytes l → file_at (bytes ++ x ∷ more) ≡ None
unfolding file_at
behind_none bytes l x more t =
    rw (array_again (bytes ++ x ∷ more) (length l) (t.items ++ x ∷ more) (array_longer bytes (length l) t.items (x ∷ more) t.head), nodes_again (t.items ++ x ∷ more) l (x ∷ more) (nodes_longer t.items l [] (x ∷ more) t.nodes), not_none (length more)) refl

pub no_beginning_is_a_file : NoBeginningIsAFile
no_beginning_is_a_file bytes [] l m beginning whole = refl
no_beginning_is_a_file bytes (x ∷ more) l m beginning whole = absurd (cc (behind_none bytes l x more beginning, file_again (bytes ++ x ∷ more) m whole))
