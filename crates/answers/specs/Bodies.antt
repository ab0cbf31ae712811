-- What stands between a body and the calls' answers: the body of a record in its file, a kind's answer for a body, and a history's
-- section as the code carries it.
use Rattle.std.specs.Prelude.{ℕ, ◌+◌, List, [], ◌∷◌, take, drop}
use Rattle.theory.specs.declared.Order.{Order}
use Rattle.note.specs.Answers.{Given, accepted, count}
use Rattle.note.specs.Kinds.{Kind}
use Rattle.answers.specs.declared.Section.{Section}

-- The body of n bytes of a record at a place of a file.
abbrev pub body_at : List ℕ → ℕ → ℕ → List ℕ
body_at bs place n = take n (drop (place + 8) bs)

-- FORMAT 8.5: Record's answer for a body of a kind: the kind's row, then its values.
abbrev pub kind_given : Order → Kind → ℕ → List ℕ → Given
kind_given o x place b = accepted (count x.row ∷ x.values o place b)

-- FORMAT 5.3: a section's numbers in the answer's order.
abbrev pub section_numbers : Section → List ℕ
section_numbers s = s.count ∷ s.times ∷ s.width ∷ s.masks ∷ []
