-- Values by their places: at which byte of a body stands each value of an answer and of a row, and where the parts of a history stand.
-- The places are given as numbers, so that two values exchanged, or one taken from another place, show.
use Rattle.std.specs.Prelude.{ℕ, ◌+◌, ◌*◌, List, [], ◌∷◌, ◌++◌, map, ℤ, length}
use Rattle.theory.specs.declared.Order.{Order}
use Rattle.theory.specs.Layout.{Child}
use Rattle.note.specs.Words.{word, words, signed}
use Rattle.note.specs.Answers.{Value, whole, float}
use Rattle.note.specs.History.{Section}
use Rattle.note.specs.Records.{Record}
use Rattle.note.specs.Calls.{hundredth}

-- ---- answers and rows

-- FORMAT 2.3, a second time: a record or entry of kind k with the body b.
abbrev pub structure_with : ℕ → List ℕ → Record
structure_with k b = record { word = k; body = b }

-- FORMAT 8.5, a second time: the words of the body b at these places.
abbrev pub words_from : Order → List ℕ → List ℕ → List ℕ
words_from o b ps = map (λ (p : ℕ). word o p b) ps

-- FORMAT 8.5, a second time: the words at these places, signed.
abbrev pub signed_from : Order → List ℕ → List ℕ → List ℤ
signed_from o b ps = map (λ (p : ℕ). signed (word o p b)) ps

-- FORMAT 8.6, a second time: the word at the place p in working units.
abbrev pub unit_value : Order → List ℕ → ℕ → Value
unit_value o b p = float (hundredth (signed (word o p b)))

-- FORMAT 8.6, a second time: the word at the place p as a whole number.
abbrev pub plain_value : Order → List ℕ → ℕ → Value
plain_value o b p = whole (signed (word o p b))

-- FORMAT 7.2, a second time: what a row says of a record or entry with the body b: its row kind, its whole length, and the words at two places
-- of the body.
abbrev pub child_from : Order → List ℕ → ℕ → ℕ → ℕ → Child
child_from o b kind p q = record { kind = kind; size = 8 + length b; one = word o p b; two = word o q b }

-- ---- a history's sections

-- FORMAT 5.3, a second time: a section whose count stands at the place p of the body has n times behind it, then its width w, then n x w masks.
-- Here n.
abbrev pub times_in : Order → ℕ → List ℕ → ℕ
times_in o p b = word o p b

-- FORMAT 5.3, a second time: and w.
abbrev pub width_in : Order → ℕ → List ℕ → ℕ
width_in o p b = word o (p + 4 + 4 * times_in o p b) b

-- FORMAT 5.3, a second time: where the section ends.
abbrev pub section_end : Order → ℕ → List ℕ → ℕ
section_end o p b = p + 4 + 4 * times_in o p b + 4 + 4 * (times_in o p b * width_in o p b)

-- FORMAT 5.3, a second time: a section as it is written: its count, its times, its width, its masks.
abbrev pub section_parts : Order → Section → List ℕ
section_parts o s = words o (s.count ∷ []) ++ (s.times ++ (words o (s.width ∷ []) ++ s.masks))
