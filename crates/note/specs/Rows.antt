-- The rows of a file, and the calls that give all of them: Table and the walker. Rows are the file's structures laid out from row 1 and byte 0
-- (theory/specs/Layout). Each call is said of `rows_of`, so that both give the same rows.
use Rattle.std.specs.Prelude.{ℕ, ◌*◌, ◌%◌, Bool, cond, ◌||◌, List, [], ◌∷◌, ◌++◌, map, leb, eqb, ltb, length, drop}
use Rattle.theory.specs.declared.Order.{Order}
use Rattle.theory.specs.Tests.{Res, ok, bad}
use Rattle.theory.specs.Layout.{Row, Child, Node, single, box, rows, row}
use Rattle.note.specs.Faults.{few_rows}
use Rattle.note.specs.Limits.{row_width}
use Rattle.note.specs.Answers.{Given, accepted, refused, counts}
use Rattle.note.specs.Records.{Record, record_size, kind_of}
use Rattle.note.specs.Events.{Container}
use Rattle.note.specs.Files.{File, order_in, version_of, configuration_of, events_of, read_file}
use Rattle.note.specs.declared.TableAnswer.{TableAnswer}

-- FORMAT 7.2: what the row of a record or an entry says before it has a place: row kind and values are its kind's.
unfoldable pub child_of : Order → Record → Child
child_of o r =
    record { kind = (kind_of r.word).row; size = record_size r; one = (kind_of r.word).one o r.body; two = (kind_of r.word).two o r.body }

abbrev pub children_of : Order → List Record → List Child
children_of o rs = map (child_of o) rs

-- FORMAT 7.2: the other rows: an event's has kind 5, the low half of its first word and how many records it has; the header's kind 1, the version
-- word and 0; the configuration's kind 2, how many entries it has, and 0.
abbrev pub event_node : Order → Container → Node
event_node o e = box 5 (e.word % 65536) (length e.body) (children_of o e.body)

unfoldable pub nodes_of : File → List Node
nodes_of f =
    single (record { kind = 1; size = 8; one = version_of f; two = 0 })
    ∷ box 2 (length (configuration_of f).body) 0 (children_of (order_in f) (configuration_of f).body)
    ∷ map (event_node (order_in f)) (events_of f)

-- FORMAT 7.3: a file's rows, from row number 1 and byte 0 on: as the file has them, and a container before what it holds.
unfoldable pub rows_of : File → List Row
rows_of f = rows 1 0 (nodes_of f)

-- FORMAT 7.3: the rows of which eight bytes are their own: a configuration's and an event's.
abbrev pub is_box : ℕ → Bool
is_box k = eqb k 2 || eqb k 5

-- FORMAT 7.1: a row as numbers, and rows one after the other.
abbrev pub row_numbers : Row → List ℕ
row_numbers r = r.kind ∷ r.start ∷ r.whole ∷ r.parent ∷ r.one ∷ r.two ∷ []

unfoldable pub flat : List Row → List ℕ
flat [] = []
flat (r ∷ rs) = row_numbers r ++ flat rs

-- FORMAT 8.2: Table's answer: the file's refusal with count 0; of an accepted file, whose rows are counted and whose length is the place, 0 where
-- six numbers for each row are lent, else 12.
abbrev pub fits : ℕ → List Row → Bool
fits capacity rs = leb (row_width * length rs) capacity

abbrev pub table_given : List ℕ → ℕ → Res File → TableAnswer
table_given bs capacity (bad c p) = record { number = c; count = 0; place = p }
table_given bs capacity (ok f) = record { number = cond (fits capacity (rows_of f)) 0 few_rows; count = length (rows_of f); place = length bs }

unfoldable pub table_answer : List ℕ → ℕ → TableAnswer
table_answer bs capacity = table_given bs capacity (read_file bs)

-- FORMAT 8.2: the buffer afterwards: the rows in front, and what stood behind them; all of what stood there under any other number than 0.
abbrev pub table_filled : List ℕ → Res File → List ℕ
table_filled old (bad c p) = old
table_filled old (ok f) = cond (fits (length old) (rows_of f)) (flat (rows_of f) ++ drop (row_width * length (rows_of f)) old) old

unfoldable pub table_buffer : List ℕ → List ℕ → List ℕ
table_buffer bs old = table_filled old (read_file bs)

-- FORMAT 8.3: a walker's k-th yield, from 0: row k; behind the last row the end, as often as it is asked; of a refused file its refusal, always.
abbrev pub yield_given : ℕ → Res File → Given
yield_given k (bad c p) = refused c p
yield_given k (ok f) = cond (ltb k (length (rows_of f))) (accepted (counts (row_numbers (row (rows_of f) k)))) (accepted [])

unfoldable pub yield_at : List ℕ → ℕ → Given
yield_at bs k = yield_given k (read_file bs)
