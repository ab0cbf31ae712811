-- The administrative record: kind 0x02, a body of 24 bytes, six words. It comes first in an event and gives the event its number. Two words spell
-- the series by their decimal digits, so their rules are about digits of plain numbers; the other four words are free.
use Rattle.std.specs.Prelude.{ℕ, ◌/◌, ◌%◌, Bool, cond, ◌&&◌, List, [], ◌∷◌, leb, eqb, length, get_or}
use Rattle.theory.specs.declared.Order.{Order}
use Rattle.theory.specs.Tests.{unless, first, among}
use Rattle.note.specs.Faults.{wrong_length, wrong_field}
use Rattle.note.specs.Words.{word, words}
use Rattle.note.specs.Answers.{counts}
use Rattle.note.specs.Kinds.{Kind}
use Rattle.note.specs.declared.Administrative.{Administrative}

-- FORMAT 5.1: the fields of the code's struct, in the order of their words: LLYYMMDD and HHMM of the series, the event's number and its time, the
-- milliseconds since the event before it, the milliseconds of live time.
abbrev pub administrative_words : Administrative → List ℕ
administrative_words f = f.date ∷ f.clock ∷ f.number ∷ f.time ∷ f.since ∷ f.live ∷ []

-- FORMAT 5.1: the fields of a body, and the body of fields.
unfoldable pub administrative_of : Order → List ℕ → Administrative
administrative_of o b =
    record { date = word o 0 b; clock = word o 4 b; number = word o 8 b; time = word o 12 b; since = word o 16 b; live = word o 20 b }

unfoldable pub administrative_bytes : Order → Administrative → List ℕ
administrative_bytes o f = words o (administrative_words f)

-- FORMAT 5.1: what LL may be: six locations, and each of them with 50 added.
abbrev pub locations : List ℕ
locations = 0 ∷ 1 ∷ 2 ∷ 3 ∷ 6 ∷ 7 ∷ 50 ∷ 51 ∷ 52 ∷ 53 ∷ 56 ∷ 57 ∷ []

-- FORMAT 5.1: the days of month mm, 0 where there is no such month; February has 29 in a year yy that 4 divides, 00 included.
abbrev pub days_of_month : List ℕ
days_of_month = 0 ∷ 31 ∷ 28 ∷ 31 ∷ 30 ∷ 31 ∷ 30 ∷ 31 ∷ 31 ∷ 30 ∷ 31 ∷ 30 ∷ 31 ∷ []

abbrev pub days_in : ℕ → ℕ → ℕ
days_in yy mm = cond (eqb mm 2 && eqb (yy % 4) 0) 29 (get_or days_of_month mm 0)

-- FORMAT 5.1: the first word: eight decimal digits or fewer, a location, and a day that its month of that year has.
unfoldable pub is_series : ℕ → Bool
is_series w =
    leb w 99999999
    && among (w / 1000000) locations
    && leb 1 (w % 100)
    && leb (w % 100) (days_in (w / 10000 % 100) (w / 100 % 100))

-- FORMAT 5.1: the second word: at most 2359, its last two digits at most 59.
unfoldable pub is_clock : ℕ → Bool
is_clock w = leb w 2359 && leb (w % 100) 59

-- FORMAT 5.1: the tests: 24 bytes, or 6; the first word, then the second, or 10. No other word is tested.
unfoldable pub administrative_fault : ℕ → ℕ → ℕ
administrative_fault date clock = first (unless (is_series date) wrong_field ∷ unless (is_clock clock) wrong_field ∷ [])

abbrev pub administrative_tests : Order → List ℕ → List ℕ
administrative_tests o b = unless (eqb (length b) 24) wrong_length ∷ administrative_fault (word o 0 b) (word o 4 b) ∷ []

unfoldable pub administrative_rule : Order → List ℕ → ℕ
administrative_rule o b = first (administrative_tests o b)

-- FORMAT 5.1, 7.2: row kind 6; its values are the event's number and its time.
abbrev pub administrative_kind : Kind
administrative_kind = record {
  word = 0x02;
  row = 6;
  rule = administrative_rule;
  one = λ o b. (administrative_of o b).number;
  two = λ o b. (administrative_of o b).time;
  values = λ o place b. counts (administrative_words (administrative_of o b));
  again = λ o b. administrative_bytes o (administrative_of o b);
}
