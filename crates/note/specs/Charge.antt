-- The charge entry: kind 0x00010002, a body of 32 bytes, eight signed words.
use Rattle.std.specs.Prelude.{ℕ, List, [], ◌∷◌, map, eqb, ℤ, length}
use Rattle.theory.specs.declared.Order.{Order}
use Rattle.theory.specs.Tests.{unless, first}
use Rattle.note.specs.Faults.{wrong_length, wrong_field}
use Rattle.note.specs.Words.{word, words, signed, unsigned}
use Rattle.note.specs.Answers.{wholes}
use Rattle.note.specs.Channels.{names_charge}
use Rattle.note.specs.Kinds.{Kind}
use Rattle.note.specs.declared.Charge.{Charge}

-- FORMAT 4.2: the fields of the code's struct, in the order of their words. Only the gain is stored times 100; the bias is whole.
abbrev pub charge_words : Charge → List ℤ
charge_words f = f.code ∷ f.tower ∷ f.gain ∷ f.bias ∷ f.rtf_offset ∷ f.delta_t ∷ f.t0 ∷ f.trace_length ∷ []

-- FORMAT 4.2: the fields of a body, and the body of fields.
unfoldable pub charge_of : Order → List ℕ → Charge
charge_of o b = record {
  code = signed (word o 0 b);
  tower = signed (word o 4 b);
  gain = signed (word o 8 b);
  bias = signed (word o 12 b);
  rtf_offset = signed (word o 16 b);
  delta_t = signed (word o 20 b);
  t0 = signed (word o 24 b);
  trace_length = signed (word o 28 b);
}

unfoldable pub charge_bytes : Order → Charge → List ℕ
charge_bytes o f = words o (map unsigned (charge_words f))

-- FORMAT 4.2: the tests: 32 bytes, or 6; a code that names a charge channel, or 10. No other word is tested.
unfoldable pub charge_fault : ℕ → ℕ
charge_fault code = unless (names_charge code) wrong_field

abbrev pub charge_tests : Order → List ℕ → List ℕ
charge_tests o b = unless (eqb (length b) 32) wrong_length ∷ charge_fault (word o 0 b) ∷ []

unfoldable pub charge_rule : Order → List ℕ → ℕ
charge_rule o b = first (charge_tests o b)

-- FORMAT 4.2, 7.2: row kind 4; its values are the code and the tower's bits.
abbrev pub charge_kind : Kind
charge_kind = record {
  word = 0x00010002;
  row = 4;
  rule = charge_rule;
  one = λ o b. unsigned (charge_of o b).code;
  two = λ o b. unsigned (charge_of o b).tower;
  values = λ o place b. wholes (charge_words (charge_of o b));
  again = λ o b. charge_bytes o (charge_of o b);
}
