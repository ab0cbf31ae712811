-- The visitor, for callers who hold no walker: the table's rows from a given one on, laid into a lent buffer. A call of this library's own,
-- beside Table and the walker, whose rows it gives.
use Rattle.std.specs.Prelude.{ℕ, ◌*◌, ◌/◌, List, ◌++◌, length, take, drop}
use Rattle.theory.specs.Tests.{Res, ok, bad}
use Rattle.theory.specs.Layout.{Row}
use Rattle.note.specs.Limits.{row_width}
use Rattle.note.specs.Files.{File, read_file}
use Rattle.note.specs.Rows.{rows_of, flat}
use Rattle.note.specs.declared.TableAnswer.{TableAnswer}

-- FORMAT 8.4: the rows that are laid, from the k-th on, from 0, up to the last row or until the buffer is full.
abbrev pub rows_visited : ℕ → ℕ → List Row → List Row
rows_visited k capacity rs = take (capacity / row_width) (drop k rs)

-- FORMAT 8.4: the answer, by what was read. A refused file's refusal; else 0, how many rows were laid, and the file's length, as with Table.
abbrev pub visit_given : List ℕ → ℕ → ℕ → Res File → TableAnswer
visit_given bs k capacity (bad c p) = record { number = c; count = 0; place = p }
visit_given bs k capacity (ok f) = record { number = 0; count = length (rows_visited k capacity (rows_of f)); place = length bs }

-- FORMAT 8.4: the answer.
unfoldable pub visit_answer : List ℕ → ℕ → ℕ → TableAnswer
visit_answer bs k capacity = visit_given bs k capacity (read_file bs)

-- FORMAT 8.4: the buffer afterwards, by what was read: the rows, and behind them what stood there; on a refusal all of it as it was.
abbrev pub visit_filled : ℕ → List ℕ → Res File → List ℕ
visit_filled k old (bad c p) = old
visit_filled k old (ok f) =
    flat (rows_visited k (length old) (rows_of f)) ++ drop (row_width * length (rows_visited k (length old) (rows_of f))) old

-- FORMAT 8.4: the buffer afterwards.
unfoldable pub visit_buffer : List ℕ → ℕ → List ℕ → List ℕ
visit_buffer bs k old = visit_filled k old (read_file bs)
