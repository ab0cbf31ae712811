-- The GPS record: kind 0x60, a body of 12 bytes, three words in BCD: a digit is four bits. First the digits are tested, then the seven numbers
-- that they write. Record and the writer know these numbers alone, so a writer can't be handed a wrong digit.
use Rattle.std.specs.Prelude.{ℕ, zero, suc, ◌+◌, ◌*◌, ◌/◌, ◌%◌, Bool, true, not, cond, ◌&&◌, ◌||◌, List, [], ◌∷◌, leb, eqb, length}
use Rattle.theory.specs.declared.Order.{Order}
use Rattle.theory.specs.Tests.{unless, first}
use Rattle.note.specs.Faults.{wrong_length, wrong_field}
use Rattle.note.specs.Words.{word, words}
use Rattle.note.specs.Answers.{counts}
use Rattle.note.specs.Kinds.{Kind}
use Rattle.note.specs.declared.Gps.{Gps}

-- FORMAT 5.4: the fields of the code's struct, seven numbers.
abbrev pub gps_numbers : Gps → List ℕ
gps_numbers f = f.year ∷ f.day ∷ f.status ∷ f.hour ∷ f.minute ∷ f.second ∷ f.tenths ∷ []

-- FORMAT 5.4: BCD: the lowest n digits of w are each at most 9; the number that they write; and the digits of a number.
unfoldable pub are_digits : ℕ → ℕ → Bool
are_digits zero w = true
are_digits (suc n) w = leb (w % 16) 9 && are_digits n (w / 16)

unfoldable pub decimal : ℕ → ℕ → ℕ
decimal zero w = 0
decimal (suc n) w = decimal n (w / 16) * 10 + w % 16

unfoldable pub bcd : ℕ → ℕ → ℕ
bcd zero v = 0
bcd (suc n) v = bcd n (v / 10) * 16 + v % 10

-- FORMAT 5.4: year and day have four digits each; below the status, which is four bits, stand a digit that is 0 and two digits each of hour, minute
-- and second; tenths of a microsecond have eight. The fields of a body, and the body of fields.
unfoldable pub gps_of : Order → List ℕ → Gps
gps_of o b = record {
  year = decimal 4 (word o 0 b / 65536);
  day = decimal 4 (word o 0 b);
  status = word o 4 b / 268435456;
  hour = decimal 2 (word o 4 b / 65536);
  minute = decimal 2 (word o 4 b / 256);
  second = decimal 2 (word o 4 b);
  tenths = decimal 8 (word o 8 b);
}

abbrev pub gps_words : Gps → List ℕ
gps_words f =
    (bcd 4 f.year * 65536 + bcd 4 f.day) ∷
    (f.status * 268435456 + bcd 2 f.hour * 65536 + bcd 2 f.minute * 256 + bcd 2 f.second) ∷
    bcd 8 f.tenths ∷ []

unfoldable pub gps_bytes : Order → Gps → List ℕ
gps_bytes o f = words o (gps_words f)

-- FORMAT 5.4: the days of a year, by the Gregorian rule.
abbrev pub is_leap : ℕ → Bool
is_leap y = eqb (y % 4) 0 && (not (eqb (y % 100) 0) || eqb (y % 400) 0)

abbrev pub days_of_year : ℕ → ℕ
days_of_year y = cond (is_leap y) 366 365

-- FORMAT 5.4: the bounds of the numbers, in the order of their words, each 10.
unfoldable pub gps_fault : Gps → ℕ
gps_fault f = first (
    unless (leb f.year 9999) wrong_field ∷
    unless (leb 1 f.day && leb f.day (days_of_year f.year)) wrong_field ∷
    unless (leb f.status 15) wrong_field ∷
    unless (leb f.hour 23) wrong_field ∷
    unless (leb f.minute 59) wrong_field ∷
    unless (leb f.second 59) wrong_field ∷
    unless (leb f.tenths 9999999) wrong_field ∷ [])

-- FORMAT 5.4: the tests: 12 bytes, or 6; digits that are digits, the one that is 0 among them, or 10; the bounds.
abbrev pub gps_tests : Order → List ℕ → List ℕ
gps_tests o b =
    unless (eqb (length b) 12) wrong_length ∷
    unless (are_digits 8 (word o 0 b)) wrong_field ∷
    unless (eqb (word o 4 b / 16777216 % 16) 0) wrong_field ∷
    unless (are_digits 6 (word o 4 b)) wrong_field ∷
    unless (are_digits 8 (word o 8 b)) wrong_field ∷
    gps_fault (gps_of o b) ∷ []

unfoldable pub gps_rule : Order → List ℕ → ℕ
gps_rule o b = first (gps_tests o b)

-- FORMAT 5.4, 7.2: row kind 9; its values are the first two words.
abbrev pub gps_kind : Kind
gps_kind = record {
  word = 0x60;
  row = 9;
  rule = gps_rule;
  one = λ o. word o 0;
  two = λ o. word o 4;
  values = λ o place b. counts (gps_numbers (gps_of o b));
  again = λ o b. gps_bytes o (gps_of o b);
}
