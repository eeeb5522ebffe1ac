-- What a piece brings of a response (own).
use Rattle.std.specs.Prelude.{List, fold, Some, None}
use Rattle.pcache_response.specs.declared.response_parse.ParsePart.{ParsePart}
use Rattle.pcache_response.specs.declared.response_parse.ParsePart.TheVariants as part
use Rattle.pcache_put.specs.declared.brought.Brought.{Brought}

abbrev pub nothing_brought : Brought
nothing_brought = record { head = None; body = None }

-- one more part: of two heads or two parts of the body the last counts, but a piece brings at most one of each
abbrev pub with_part : Brought → ParsePart → Brought
with_part b (part.Head head whole) = record { head = Some head; body = b.body }
with_part b (part.Body bytes whole) = record { head = b.head; body = Some (record { bytes = bytes; is_last = whole }) }

abbrev pub brought : List ParsePart → Brought
brought parts = fold with_part nothing_brought parts
