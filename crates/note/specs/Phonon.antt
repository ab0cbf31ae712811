-- The phonon entry: kind 0x00010001, a body of 44 bytes, eleven signed words. Like the file of every kind it has the fields, a body as fields and
-- fields as a body, the rule, and last the kind that gathers them.
use Rattle.std.specs.Prelude.{ℕ, List, [], ◌∷◌, map, eqb, ℤ, length}
use Rattle.theory.specs.declared.Order.{Order}
use Rattle.theory.specs.Tests.{unless, first}
use Rattle.note.specs.Faults.{wrong_length, wrong_field}
use Rattle.note.specs.Words.{word, words, signed, unsigned}
use Rattle.note.specs.Answers.{wholes}
use Rattle.note.specs.Channels.{names_phonon}
use Rattle.note.specs.Kinds.{Kind}
use Rattle.note.specs.declared.Phonon.{Phonon}

-- FORMAT 4.1: the fields of the code's struct, in the order of their words. Gain, both biases and lockpoint are stored times 100.
abbrev pub phonon_words : Phonon → List ℤ
phonon_words f =
    f.code ∷ f.tower ∷
    f.gain ∷ f.qet_bias ∷ f.squid_bias ∷ f.lockpoint ∷
    f.rtf_offset ∷ f.variable_gain ∷ f.delta_t ∷ f.t0 ∷ f.trace_length ∷ []

-- FORMAT 4.1: the fields of a body, and the body of fields.
unfoldable pub phonon_of : Order → List ℕ → Phonon
phonon_of o b = record {
  code = signed (word o 0 b);
  tower = signed (word o 4 b);
  gain = signed (word o 8 b);
  qet_bias = signed (word o 12 b);
  squid_bias = signed (word o 16 b);
  lockpoint = signed (word o 20 b);
  rtf_offset = signed (word o 24 b);
  variable_gain = signed (word o 28 b);
  delta_t = signed (word o 32 b);
  t0 = signed (word o 36 b);
  trace_length = signed (word o 40 b);
}

unfoldable pub phonon_bytes : Order → Phonon → List ℕ
phonon_bytes o f = words o (map unsigned (phonon_words f))

-- FORMAT 4.1: the tests: 44 bytes, or 6; a code that names a phonon channel, or 10. No other word is tested.
unfoldable pub phonon_fault : ℕ → ℕ
phonon_fault code = unless (names_phonon code) wrong_field

abbrev pub phonon_tests : Order → List ℕ → List ℕ
phonon_tests o b = unless (eqb (length b) 44) wrong_length ∷ phonon_fault (word o 0 b) ∷ []

unfoldable pub phonon_rule : Order → List ℕ → ℕ
phonon_rule o b = first (phonon_tests o b)

-- FORMAT 4.1, 7.2: row kind 3; its values are the code and the tower's bits.
abbrev pub phonon_kind : Kind
phonon_kind = record {
  word = 0x00010001;
  row = 3;
  rule = phonon_rule;
  one = λ o b. unsigned (phonon_of o b).code;
  two = λ o b. unsigned (phonon_of o b).tower;
  values = λ o place b. wholes (phonon_words (phonon_of o b));
  again = λ o b. phonon_bytes o (phonon_of o b);
}
