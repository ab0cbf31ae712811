-- The digits of the GPS words: the tests that stand between the record's length and its numbers, as one fault of three words.
use Rattle.std.specs.Prelude.{ℕ, ◌/◌, ◌%◌, [], ◌∷◌, eqb}
use Rattle.theory.specs.Tests.{unless, first}
use Rattle.note.specs.Gps.{are_digits}

-- FORMAT 5.4: eight digits; below the status digit a zero digit and six digits; eight digits.
unfoldable pub gps_digits_fault : ℕ → ℕ → ℕ → ℕ
gps_digits_fault w0 w1 w2 = first (
    unless (are_digits 8 w0) 10 ∷
    unless (eqb (w1 / 16777216 % 16) 0) 10 ∷
    unless (are_digits 6 w1) 10 ∷
    unless (are_digits 8 w2) 10 ∷ [])
