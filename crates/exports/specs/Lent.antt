-- What a C caller finds in the numbers that it lent: an accepted call's values, a refused call's place, and otherwise what stood there. The answer
-- by number and values (FORMAT 8.1) determines each lent number, for refused inputs too.
use Rattle.std.specs.Prelude.{ℕ, Bool, true, false, ◌≡◌, List, [], ◌∷◌, ◌++◌, ℤ, pos, Float, take, replicate, Result, Ok, Err}
use Rattle.std.specs.Float.{binary64}
use Rattle.std.specs.Float.Ieee.{of_bits}
use Rattle.note.specs.Faults.{fault_number}
use Rattle.note.specs.declared.Refusal.{Refusal}
use Rattle.note.specs.declared.ChannelAnswer.{ChannelAnswer}
use Rattle.note.specs.Answers.{Value, whole, float, Given, accepted, refused}

-- The number that a call returns.
abbrev pub number_of : Given → ℕ
number_of (accepted vs) = 0
number_of (refused number place) = number

-- A lent place after the call.
abbrev pub place_after : ℕ → Given → ℕ
place_after old (accepted vs) = old
place_after old (refused number place) = place

-- The whole numbers among values, and the floats.
abbrev pub wholes_in : List Value → List ℤ
wholes_in [] = []
wholes_in (whole z ∷ vs) = z ∷ wholes_in vs
wholes_in (float x ∷ vs) = wholes_in vs

abbrev pub floats_in : List Value → List Float
floats_in [] = []
floats_in (whole z ∷ vs) = floats_in vs
floats_in (float x ∷ vs) = x ∷ floats_in vs

-- The float with no bit set.
abbrev pub plus_zero : Float
plus_zero = of_bits binary64 0

-- n lent numbers after the call: the values in order, then zeros; on a refusal what stood there.
abbrev pub wholes_after : ℕ → List ℤ → Given → List ℤ
wholes_after n old (accepted vs) = take n (wholes_in vs ++ replicate n (pos 0))
wholes_after n old (refused number place) = old

abbrev pub floats_after : ℕ → List Float → Given → List Float
floats_after n old (accepted vs) = take n (floats_in vs ++ replicate n plus_zero)
floats_after n old (refused number place) = old

-- One lent number after the call: the value, 0 where an accepted call has none (Find's nothing); on a refusal what stood there.
abbrev pub NumberAfter : ℕ → Given → ℕ → Type 0
NumberAfter old given new = pos new ∷ [] ≡ wholes_after 1 (pos old ∷ []) given

-- The number of a result.
abbrev pub number_in : {A : Type 0} → Result A Refusal → ℕ
number_in (Ok answer) = 0
number_in (Err r) = fault_number r.fault

-- Channel's four numbers.
abbrev pub channel_numbers : ChannelAnswer → List ℕ
channel_numbers answer = answer.detector_type ∷ answer.detector ∷ answer.analysis.length ∷ answer.cold.length ∷ []

-- A buffer lent to Channel after the call: the value of the answer, or under a refusal what stood there.
abbrev pub channel_after : List ℕ → (ChannelAnswer → List ℕ) → Result ChannelAnswer Refusal → List ℕ
channel_after old value (Ok answer) = value answer
channel_after old value (Err r) = old

-- 1 for true.
abbrev pub bit : Bool → ℕ
bit true = 1
bit false = 0
