-- Rows read back from a buffer that Table, or the visitor, has filled: the promises about tables speak of what a caller finds in its own buffer,
-- not of rows that only the definitions know.
use Rattle.std.specs.Prelude.{ℕ, zero, suc, ◌+◌, ◌*◌, List, [], ◌∷◌, length, get_or}
use Rattle.theory.specs.Layout.{Row}
use Rattle.note.specs.Limits.{row_width}
use Rattle.note.specs.Rows.{table_answer, table_buffer}
use Rattle.note.specs.Visitor.{visit_answer}

-- FORMAT 7.1: number c of row j of a buffer, both from 0.
abbrev pub number_at : List ℕ → ℕ → ℕ → ℕ
number_at buffer j c = get_or buffer (row_width * j + c) 0

-- FORMAT 7.1: row j of a buffer, its six numbers in their order.
abbrev pub row_at : List ℕ → ℕ → Row
row_at buffer j = record {
  kind = number_at buffer j 0;
  start = number_at buffer j 1;
  whole = number_at buffer j 2;
  parent = number_at buffer j 3;
  one = number_at buffer j 4;
  two = number_at buffer j 5;
}

-- n rows of a buffer from row j on.
unfoldable pub rows_from : List ℕ → ℕ → ℕ → List Row
rows_from buffer j zero = []
rows_from buffer j (suc n) = row_at buffer j ∷ rows_from buffer (suc j) n

-- FORMAT 8.2: the count that Table answers for the bytes bs and the buffer old, the rows that stand in the buffer afterwards, and row j of them.
abbrev pub table_count : List ℕ → List ℕ → ℕ
table_count bs old = (table_answer bs (length old)).count

abbrev pub table_rows : List ℕ → List ℕ → List Row
table_rows bs old = rows_from (table_buffer bs old) 0 (table_count bs old)

abbrev pub table_row : List ℕ → List ℕ → ℕ → Row
table_row bs old j = row_at (table_buffer bs old) j

-- FORMAT 8.4: the count that the visitor answers for the bytes bs, from row k on, from 0, and the buffer old.
abbrev pub visit_count : List ℕ → ℕ → List ℕ → ℕ
visit_count bs k old = (visit_answer bs k (length old)).count
