-- A record's row kind and values, and where they stand in its body: the code finds two places for a kind and reads the words there, so that one
-- function serves seven kinds; a history's second value stands where its counts put it.
use Rattle.std.specs.Prelude.{ℕ, ◌+◌, Bool, cond, not, ◌&&◌, List, leb, eqb, length}
use Rattle.theory.specs.declared.Order.{Order}
use Rattle.note.specs.History.{history_rule}
use Rattle.note.specs.Records.{kind_of}
use Rattle.rows.specs.declared.Values.{Values}
use Rattle.rows.specs.declared.Standing.{Standing}

-- FORMAT 7.2: row kind and values, from the kind word and the body.
unfoldable pub values_of : Order → ℕ → List ℕ → Values
values_of o k b = record { kind = (kind_of k).row; one = (kind_of k).one o b; two = (kind_of k).two o b }

-- FORMAT 7.2: where the values stand in the body of a row kind, a history's second apart: that these are the note's words is proved
-- (proofs/ValueLaws.antt).
abbrev pub one_at : ℕ → ℕ
one_at row = cond (eqb row 6) 8 (cond (eqb row 7) 16 (cond (eqb row 10) 4 0))

abbrev pub two_at : ℕ → ℕ
two_at row = cond (eqb row 6) 12 (cond (eqb row 7) 44 (cond (eqb row 10) 8 4))

unfoldable pub standing_of : ℕ → Standing
standing_of k = record { kind = (kind_of k).row; one = one_at (kind_of k).row; two = two_at (kind_of k).row }

-- The kind has a row, and the body holds its values: a history's where its rule lets them, any other's end in the body.
abbrev pub holds : Order → ℕ → List ℕ → Bool
holds o row b = cond (eqb row 8) (eqb (history_rule o b) 0) (not (eqb row 0) && leb (two_at row + 4) (length b))

unfoldable pub has_values : Order → ℕ → List ℕ → Bool
has_values o k b = holds o (kind_of k).row b
