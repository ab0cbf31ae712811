-- A number's text, a second time: what decimal digits are read as, and when they are the one text of a number.
-- Listing makes the digits; here they are only read.
use Rattle.std.specs.Prelude.{ℕ, ◌+◌, ◌-◌, ◌*◌, ◌≤◌, ◌≡◌, List, [], ◌∷◌}

-- FORMAT 8.9, a second time: digits read as a number, behind others that were read as v.
abbrev pub digits_read : ℕ → List ℕ → ℕ
digits_read v [] = v
digits_read v (d ∷ ds) = digits_read (v * 10 + (d - 48)) ds

-- FORMAT 8.9, a second time: each is a digit's byte.
abbrev pub DigitBytes : List ℕ → Type 0
DigitBytes [] = Unit {0}
DigitBytes (d ∷ ds) = ((48 ≤ d) × (d ≤ 57)) × DigitBytes ds

-- FORMAT 8.9, a second time: there is a digit, and a zero in front stands alone.
abbrev pub NoZeroInFront : List ℕ → Type 0
NoZeroInFront [] = ⊥
NoZeroInFront (d ∷ ds) = d ≡ 48 → ds ≡ []
