-- The open requests of a cache, by their numbers (own).
use Rattle.std.specs.Prelude.{◌≡◌, ◌≢◌, ◌==◌, ◌/◌, ◌%◌, ◌^◌, ℕ, List, Option, None, Some, OnSome, cond, slice_get, option_and_then, option_map, unwrap_or, ◌+◌, ◌*◌}
use Rattle.pcache_c.specs.declared.seats.Seats.{Seats}
use Rattle.pcache_c.specs.declared.seats.Seat.{Seat}

-- the request of a place, if its round is this one
abbrev pub open_in : {X : Type 0} → ℕ → Seat X → Option X
open_in round seat = cond (seat.round == round) seat.request None

-- the low 32 bits of a number name a place, and the rest the round of the place
abbrev pub request_in : {X : Type 0} → List (Seat X) → ℕ → Option X
request_in seats number = option_and_then (open_in (number / 2 ^ 32)) (slice_get seats (number % 2 ^ 32))

-- the open request with a number
abbrev pub request_at : {X : Type 0} → Seats X → ℕ → Option X
request_at s number = request_in s.seats.items number

-- the round of a place: how often it was free again, modulo 2^32; 0 where there is no such place
abbrev pub round_in : {X : Type 0} → List (Seat X) → ℕ → ℕ
round_in seats place = unwrap_or (option_map (λ seat. seat.round) (slice_get seats place)) 0

abbrev pub round_at : {X : Type 0} → Seats X → ℕ → ℕ
round_at s place = round_in s.seats.items place

-- the number that a request at a place gets, by the place's round
abbrev pub number_at : {X : Type 0} → Seats X → ℕ → ℕ
number_at s place = round_at s place * 2 ^ 32 + place

-- a number is the one that its place gives in the round that it is in
abbrev pub IsInRound : {X : Type 0} → ℕ → Seats X → Type 0
IsInRound number s = number ≡ number_at s (number % 2 ^ 32)

-- each place is in its round
abbrev pub KeepsRounds : {X : Type 0} → Seats X → Seats X → Type 0
KeepsRounds old new = (place : ℕ) → round_at new place ≡ round_at old place

-- a place is one round further, and each other place is in its round
pub record IsRoundFurther {X : Type 0} (place : ℕ) (old new : Seats X) : Type 0 where
  pub this : round_at new place ≡ (round_at old place + 1) % 2 ^ 32
  pub others : (other : ℕ) → other ≢ place → round_at new other ≡ round_at old other

-- a place from which a request was taken out is one round further
abbrev pub RoundsAfter : {X : Type 0} → Option X → ℕ → Seats X → Seats X → Type 0
RoundsAfter None place old new = KeepsRounds old new
RoundsAfter (Some o) place old new = IsRoundFurther place old new

-- each request but this one is as it was
abbrev pub AreElseSame : {X : Type 0} → ℕ → Seats X → Seats X → Type 0
AreElseSame number old new = (other : ℕ) → other ≢ number → request_at new other ≡ request_at old other

-- each request is as it was, and each place in its round
pub record AreSame {X : Type 0} (old new : Seats X) : Type 0 where
  pub requests : (number : ℕ) → request_at new number ≡ request_at old number
  pub rounds : KeepsRounds old new

-- this request is that one now, each other is as it was, and each place in its round
pub record IsSet {X : Type 0} (number : ℕ) (o : X) (old new : Seats X) : Type 0 where
  pub this : request_at new number ≡ Some o
  pub others : AreElseSame number old new
  pub rounds : KeepsRounds old new

-- two requests are those now, each other is as it was, and each place in its round
pub record AreSet {X : Type 0} (first : ℕ) (o : X) (second : ℕ) (p : X) (old new : Seats X) : Type 0 where
  pub this : request_at new first ≡ Some o
  pub that : request_at new second ≡ Some p
  pub others : (other : ℕ) → other ≢ first → other ≢ second → request_at new other ≡ request_at old other
  pub rounds : KeepsRounds old new

-- if a request was found, the one that is left in its place is the one of this number now
abbrev pub IsSetIf : {A X : Type 0} → Option A → ℕ → Seats X → Seats X → X → Type 0
IsSetIf found number old new o = OnSome found (IsSet number o old new)

-- there is no request of this number any more, and each other is as it was. If there was one, its place is one round further
pub record IsGone {X : Type 0} (number : ℕ) (old new : Seats X) : Type 0 where
  pub this : request_at new number ≡ None
  pub others : AreElseSame number old new
  pub rounds : RoundsAfter (request_at old number) (number % 2 ^ 32) old new

-- a place has no request
abbrev pub IsFree : {X : Type 0} → ℕ → Seats X → Type 0
IsFree {X} place s = (x : Seat X) × (slice_get s.seats.items place ≡ Some x) × (x.request ≡ None)
