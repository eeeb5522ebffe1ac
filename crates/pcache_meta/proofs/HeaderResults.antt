-- What a reader of a head returned, as its callers see it.
use Rattle.pcache_meta.specs.HeaderReading.{header_at, unordered_at}
use Rattle.pcache_meta.proofs.Words.{◌≡◌, ℕ, List, Some, refl, sym, ◌∙◌, same_Some, Header, SpellsHeader, IsHeaderText, FailsOrWants, ErrorType, InternalError, OutOfMemory}
use Rattle.pcache_meta.proofs.HeaderExact.{header_takes, header_again, unordered_again}

-- a head that was read is spelled, and is the one that is
pub read_found : (bytes : List ℕ) (h : Header) → header_at bytes ≡ Some h → SpellsHeader bytes h
read_found bytes h read = header_takes bytes h read

pub read_same : (bytes : List ℕ) (found h : Header) → header_at bytes ≡ Some found → SpellsHeader bytes h → found ≡ h
read_same bytes found h read spelled = same_Some found h (sym read ∙ header_again bytes h spelled)

-- an error other than a lack of memory, or one for bytes that are no head's text
pub refused_for_form : (e : ErrorType) (bytes : List ℕ) (h : Header) → FailsOrWants e (header_at bytes) → (e ≡ OutOfMemory → IsHeaderText bytes → ⊥) → SpellsHeader bytes h → ⊥
refused_for_form InternalError bytes h none never spelled = let some = header_again bytes h spelled in absurd (cc (none, some))
refused_for_form OutOfMemory bytes h none never spelled = never refl (h, spelled)
refused_for_form _ bytes h none never spelled = none

-- a head that was read line by line is the one that is spelled
pub kept_same : (bytes : List ℕ) (found h : Header) → unordered_at bytes ≡ Some found → SpellsHeader bytes h → found ≡ h
kept_same bytes found h read spelled = same_Some found h (sym read ∙ unordered_again bytes h (header_again bytes h spelled))

-- reading such a text fails only when memory runs out
pub kept_kind : (e : ErrorType) (bytes : List ℕ) → FailsOrWants e (unordered_at bytes) → IsHeaderText bytes → e ≡ OutOfMemory
kept_kind InternalError bytes none text = let some = unordered_again bytes text.0 (header_again bytes text.0 text.1) in absurd (cc (none, some))
kept_kind OutOfMemory bytes none text = refl
kept_kind _ bytes none text = absurd none
