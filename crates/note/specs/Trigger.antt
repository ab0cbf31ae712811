-- The trigger record: kind 0x80, a body of 28 bytes: a time that is always 0, and six masks that may be anything.
use Rattle.std.specs.Prelude.{ℕ, List, [], ◌∷◌, eqb, length}
use Rattle.theory.specs.declared.Order.{Order}
use Rattle.theory.specs.Tests.{unless, first}
use Rattle.note.specs.Faults.{wrong_length, wrong_field}
use Rattle.note.specs.Words.{word, words}
use Rattle.note.specs.Answers.{counts}
use Rattle.note.specs.Kinds.{Kind}
use Rattle.note.specs.declared.Trigger.{Trigger}

-- FORMAT 5.5: the fields of the code's struct: the masks alone, since the time is known.
abbrev pub trigger_masks : Trigger → List ℕ
trigger_masks f = f.mask1 ∷ f.mask2 ∷ f.mask3 ∷ f.mask4 ∷ f.mask5 ∷ f.mask6 ∷ []

-- FORMAT 5.5: the fields of a body, and the body of fields.
unfoldable pub trigger_of : Order → List ℕ → Trigger
trigger_of o b = record { mask1 = word o 4 b; mask2 = word o 8 b; mask3 = word o 12 b; mask4 = word o 16 b; mask5 = word o 20 b; mask6 = word o 24 b }

unfoldable pub trigger_bytes : Order → Trigger → List ℕ
trigger_bytes o f = words o (0 ∷ trigger_masks f)

-- FORMAT 5.5: the tests: 28 bytes, or 6; the time 0, or 10.
abbrev pub trigger_tests : Order → List ℕ → List ℕ
trigger_tests o b = unless (eqb (length b) 28) wrong_length ∷ unless (eqb (word o 0 b) 0) wrong_field ∷ []

unfoldable pub trigger_rule : Order → List ℕ → ℕ
trigger_rule o b = first (trigger_tests o b)

-- FORMAT 5.5, 7.2: row kind 10; its values are masks 1 and 2.
abbrev pub trigger_kind : Kind
trigger_kind = record {
  word = 0x80;
  row = 10;
  rule = trigger_rule;
  one = λ o b. (trigger_of o b).mask1;
  two = λ o b. (trigger_of o b).mask2;
  values = λ o place b. counts (trigger_masks (trigger_of o b));
  again = λ o b. trigger_bytes o (trigger_of o b);
}
