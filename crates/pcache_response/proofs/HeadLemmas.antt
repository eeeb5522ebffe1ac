-- Heads of the grammar.
use Rattle.std.proofs.lemmas.List.Elements.{All-map}
use Rattle.httparse.specs.Grammar.{Field, IsField, ReadsResponse, is_token_byte, is_value_byte}
use Rattle.httparse.proofs.TrimLemmas.{AllPass-trim_ows}
use Rattle.httparse.proofs.GrammarLemmas.{response_unique}
use Rattle.pcache_meta.specs.declared.header.HttpVersion.{HttpVersion}
use Rattle.pcache_response.proofs.Words.{◌≡◌, ℕ, List, [], map, All, refl, ResponseHead, status_code, name_and_value, FieldValue, Entries, ResponseHeader, IsPair, fields_after, version_of, header_of}
use Rattle.http_header.specs.Token as token

-- the bytes are one head at most
pub one_head : (bytes : List ℕ) (h k : ResponseHead) → ReadsResponse bytes h [] → ReadsResponse bytes k [] → h ≡ k
one_head bytes h k a b = (response_unique bytes h k [] [] a b).0

-- a field of the grammar is one of `http_header`
field_is_pair : (f : Field) → IsField f → IsPair (name_and_value f)
unfolding is_token_byte token.is_token_byte
field_is_pair f h = (h.name, AllPass-trim_ows is_value_byte f.raw h.raw)

pub fields_are_pairs : (fs : List Field) → All IsField fs → All IsPair (map name_and_value fs)
fields_are_pairs fs all = All-map IsPair name_and_value fs (λ k d lt. field_is_pair _ (all k d lt))

-- a head made of these parts
pub header_is : (v : HttpVersion) (n : ℕ) (m : Entries FieldValue) (h : ResponseHead) → v ≡ version_of h.minor → n ≡ status_code h → m ≡ fields_after (map name_and_value h.fields)
    → ◌≡◌ {A = ResponseHeader} (record { version = v; status = n; headers = m }) (header_of h)
header_is v n m h a b c = rw (a, b, c) refl
