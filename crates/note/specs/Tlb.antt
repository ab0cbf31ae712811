-- The TLB mask: kind 0x81, a body of 24 bytes, a word for each of six towers. A word that isn't 0 names its tower in its top byte; the bits
-- below are the tower's ZIPs, for which the call ZIP asks.
use Rattle.std.specs.Prelude.{ℕ, ◌-◌, ◌/◌, ◌%◌, ◌^◌, Bool, ◌&&◌, ◌||◌, List, [], ◌∷◌, leb, eqb, length}
use Rattle.theory.specs.declared.Order.{Order}
use Rattle.theory.specs.Tests.{unless, first}
use Rattle.note.specs.Faults.{wrong_length, wrong_field}
use Rattle.note.specs.Words.{word, words}
use Rattle.note.specs.Answers.{counts}
use Rattle.note.specs.Kinds.{Kind}
use Rattle.note.specs.declared.Tlb.{Tlb}

-- FORMAT 5.6: the fields of the code's struct, in the order of the towers.
abbrev pub tlb_words : Tlb → List ℕ
tlb_words f = f.tower1 ∷ f.tower2 ∷ f.tower3 ∷ f.tower4 ∷ f.tower5 ∷ f.tower6 ∷ []

-- FORMAT 5.6: the fields of a body, and the body of fields.
unfoldable pub tlb_of : Order → List ℕ → Tlb
tlb_of o b =
    record { tower1 = word o 0 b; tower2 = word o 4 b; tower3 = word o 8 b; tower4 = word o 12 b; tower5 = word o 16 b; tower6 = word o 20 b }

unfoldable pub tlb_bytes : Order → Tlb → List ℕ
tlb_bytes o f = words o (tlb_words f)

-- FORMAT 5.6: the word of tower i: 0, or with i in its top byte, or 10; the six in order.
unfoldable pub is_tower : ℕ → ℕ → Bool
is_tower i w = eqb w 0 || eqb (w / 16777216) i

abbrev pub tower_fault : ℕ → ℕ → ℕ
tower_fault i w = unless (is_tower i w) wrong_field

unfoldable pub tlb_fault : Tlb → ℕ
tlb_fault f = first (
    tower_fault 1 f.tower1 ∷ tower_fault 2 f.tower2 ∷ tower_fault 3 f.tower3 ∷
    tower_fault 4 f.tower4 ∷ tower_fault 5 f.tower5 ∷ tower_fault 6 f.tower6 ∷ [])

-- FORMAT 5.6: the tests: 24 bytes, or 6; the words.
abbrev pub tlb_tests : Order → List ℕ → List ℕ
tlb_tests o b = unless (eqb (length b) 24) wrong_length ∷ tlb_fault (tlb_of o b) ∷ []

unfoldable pub tlb_rule : Order → List ℕ → ℕ
tlb_rule o b = first (tlb_tests o b)

-- FORMAT 5.6: whether ZIP z is set in a word: z from 1 to 24, which is bit z - 1, counted from 0. No other z is set.
unfoldable pub zip_set : ℕ → ℕ → Bool
zip_set w z = leb 1 z && leb z 24 && eqb (w / 2 ^ (z - 1) % 2) 1

-- FORMAT 5.6, 7.2: row kind 11; its values are the words of towers 1 and 2.
abbrev pub tlb_kind : Kind
tlb_kind = record {
  word = 0x81;
  row = 11;
  rule = tlb_rule;
  one = λ o b. (tlb_of o b).tower1;
  two = λ o b. (tlb_of o b).tower2;
  values = λ o place b. counts (tlb_words (tlb_of o b));
  again = λ o b. tlb_bytes o (tlb_of o b);
}
