-- All that is said of one kind of record or entry, as one value: each kind's own file ends with it. What is alike for every kind, the order of
-- the tests, the rows, the calls, Rewrite, is then defined once, for any value of this type.
use Rattle.std.specs.Prelude.{ℕ, List}
use Rattle.theory.specs.declared.Order.{Order}
use Rattle.note.specs.Answers.{Value}

-- FORMAT 6.1, 7.2: a kind: its kind word; its row kind; the rule of its body, which is 0 or a refusal's number (it needs no place: whatever is
-- wrong in a body, the record is what is at fault); its row's two values; Record's values at a place; its body made again from its fields.
pub record Kind : Type 0 where
  pub word : ℕ
  pub row : ℕ
  pub rule : Order → List ℕ → ℕ
  pub one : Order → List ℕ → ℕ
  pub two : Order → List ℕ → ℕ
  pub values : Order → ℕ → List ℕ → List Value
  pub again : Order → List ℕ → List ℕ
