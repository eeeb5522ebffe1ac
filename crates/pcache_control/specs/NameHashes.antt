-- How the names of directives are hashed (own): under a key that is made of all lines of the field.
use Rattle.std.specs.Prelude.{ℕ, List}
use Rattle.std.specs.List.{flat_map}
use Rattle.std.specs.Hash.DefaultHasher as sip
use Rattle.std.specs.declared.hash.DefaultHasher.{DefaultHasher}
use Rattle.http_header.specs.FieldValue.{FieldValue}
use Rattle.pcache_base.specs.Blake2b.{blake2b_128}

-- the bytes of the lines, one line after another
abbrev pub joined : List FieldValue → List ℕ
joined lines = flat_map (λ (line : FieldValue). line.bytes) lines

-- SipHash-1-3 (Aumasson and Bernstein) after the BLAKE2b hash of the lines: each name is hashed from this state on
unfoldable pub keyed_by : List FieldValue → DefaultHasher
keyed_by lines = sip.write sip.initial (blake2b_128 (joined lines))
