-- Which stored responses a 304 identifies for update (RFC 9111 section 4.3.4).
use Rattle.std.specs.Prelude.{ℕ, Bool, false, not, ◌&&◌, ◌==◌, Option, Some, None, is_some, if◌then◌else◌}
use Rattle.pcache_meta.specs.Header.{Fields}
use Rattle.pcache_validation.specs.Conditions.{matches_strongly, matches_weakly}
use Rattle.pcache_validation.specs.Validators.{entity_tag, last_modified, has_validator, validator_of}
use Rattle.pcache_validation.specs.declared.validators.Validator.{Validator}
use Rattle.pcache_validation.specs.declared.validators.Validator.TheVariants.{Strong, Weak, Absent}

-- RFC 9111, 4.3.4, MUST NOT: if the 304 has a strong validator, it updates those stored responses alone that have the
-- same strong validator
abbrev pub has_same_strong : Fields → Fields → Bool
has_same_strong new stored = matches_strongly (entity_tag new) (entity_tag stored)

abbrev pub same_second : Option ℕ → Option ℕ → Bool
same_second (Some a) (Some b) = a == b
same_second (Some a) None = false
same_second None b = false

-- RFC 9111, 4.3.4: if it has weak validators alone, the most recent of those stored responses to which they correspond
-- is updated; this says to which they correspond. An entity tag does by weak comparison and decides; without one the
-- modification date does
abbrev pub corresponds : Fields → Fields → Bool
corresponds new stored =
    if is_some (entity_tag new) then matches_weakly (entity_tag new) (entity_tag stored)
    else same_second (last_modified new) (last_modified stored)

-- RFC 9111, 4.3.4: if it has no validator, a stored response is updated if it is the only one that could have been
-- chosen, and lacks a validator too
abbrev pub are_both_without : Fields → Bool → Bool
are_both_without stored alone = alone && not (has_validator stored)

abbrev pub identified_by : Validator → Fields → Fields → Bool → Bool
identified_by Strong new stored alone = has_same_strong new stored
identified_by Weak new stored alone = corresponds new stored
identified_by Absent new stored alone = are_both_without stored alone

-- the first rule that applies decides
abbrev pub identifies : Fields → Fields → Bool → Bool
identifies new stored alone = identified_by (validator_of new) new stored alone
