-- Table's answer and buffer in each of its three cases: refused, too few rows lent, filled.
-- The idea: the count that check gives is the number of rows, so the code's test is the definition's.
use Prim.Native.Nat.{ℕ, ◌*◌, ◌/◌, ◌≤◌, ◌<◌}
use native.Mathlib.Omega.{arith}
use mathlib.Core.Path.{◌≡◌, sym, ap, ◌∙◌}
use mathlib.Core.List.{List}
use lib.ListN.{length, length-map}
use borrow.Author.Tests.{le-leb, lt-leb}
use Rattle.theory.specs.declared.Order.{Order}
use Rattle.theory.specs.Tests.{Res, ok, bad}
use Rattle.theory.proofs.LayoutLaws.{length-rows}
use Rattle.note.specs.Limits.{row_width}
use Rattle.note.specs.Files.{File, order_in, order_of, configuration_of, events_of, read_file}
use Rattle.note.specs.Rows.{child_of, nodes_of, rows_of, table_answer, table_buffer}
use Rattle.demands.proofs.Follows.{in_its_order}
use Rattle.containers.specs.Counts.{rows_of_file, file_rows}
use Rattle.containers.proofs.ContainerLaws.{count-good, count-bad}
use Rattle.rows.proofs.StoreLaws.{stored-first}
use Rattle.table.specs.Filling.{FillableFile, FilledFile}
use Rattle.table.proofs.EventFillLaws.{events-rows}

-- The count that check gives is the number of rows.
rows-counted : (f : File) → length (rows_of f) ≡ rows_of_file f
unfolding rows_of nodes_of
rows-counted f =
    length-rows 1 0 (nodes_of f) ∙ omega (arith, length-map (configuration_of f).body (child_of (order_in f)), events-rows (order_in f) (events_of f))

-- What check's answer says of the file and its rows.
rows-good : (r : Res File) (n : ℕ) → ok n ≡ file_rows r → (f : File) × (r ≡ ok f) × (length (rows_of f) ≡ n)
rows-good r n e = let (f, q, same) = count-good rows_of_file e in (f, q, rows-counted f ∙ same)

-- Refused: check's refusal, and the buffer as it was.
pub refused_answer : (bs : List ℕ) (room c p : ℕ) → bad c p ≡ file_rows (read_file bs)
    → table_answer bs room ≡ record { number = c; count = 0; place = p }
unfolding table_answer
refused_answer bs room c p e = rw (count-bad rows_of_file e)

pub refused_buffer : (bs old : List ℕ) (c p : ℕ) → bad c p ≡ file_rows (read_file bs) → table_buffer bs old ≡ old
unfolding table_buffer
refused_buffer bs old c p e = rw (count-bad rows_of_file e)

-- Too few rows lent.
pub few_answer : (bs : List ℕ) (room n : ℕ) → ok n ≡ file_rows (read_file bs) → room / 6 < n
    → table_answer bs room ≡ record { number = 12; count = n; place = length bs }
unfolding table_answer
few_answer bs room n e h =
    let (f, r, s) = rows-good (read_file bs) n e in rw (r, lt-leb (row_width * length (rows_of f)) room (omega (arith, s)), s)

pub few_buffer : (bs old : List ℕ) (n : ℕ) → ok n ≡ file_rows (read_file bs) → length old / 6 < n → table_buffer bs old ≡ old
unfolding table_buffer
few_buffer bs old n e h =
    let (f, r, s) = rows-good (read_file bs) n e in rw (r, lt-leb (row_width * length (rows_of f)) (length old) (omega (arith, s)))

-- Filled.
pub fillable : (o : Order) (bs : List ℕ) (room n : ℕ) → o ≡ order_of bs → ok n ≡ file_rows (read_file bs) → n ≤ room / 6 → FillableFile o bs room
fillable o bs room n same e h =
    let (f, r, s) = rows-good (read_file bs) n e in
    let is : f ≡ (o, f.1) = in_its_order bs f r ∙ ap (λ (q : Order). (q, f.1)) (sym same) in
    record { parts = f.1; reads = r ∙ ap ok is; fits = omega (arith, s, ap (λ (g : File). length (rows_of g)) is) }

pub filled_answer : (bs : List ℕ) (room n : ℕ) → ok n ≡ file_rows (read_file bs) → n ≤ room / 6
    → table_answer bs room ≡ record { number = 0; count = n; place = length bs }
unfolding table_answer
filled_answer bs room n e h =
    let (f, r, s) = rows-good (read_file bs) n e in rw (r, le-leb (row_width * length (rows_of f)) room (omega (arith, s)), s)

pub filled_buffer : (bs old new : List ℕ) (n : ℕ) → ok n ≡ file_rows (read_file bs) → n ≤ length old / 6 → FilledFile bs old new
    → table_buffer bs old ≡ new
unfolding table_buffer
filled_buffer bs old new n e h g =
    let (f, r, s) = rows-good (read_file bs) n e in
    let small : length (rows_of f) * row_width ≤ length old = omega (arith, s) in
    rw (r, le-leb (row_width * length (rows_of f)) (length old) (omega (arith, s))) (sym (g f r ∙ stored-first old (rows_of f) small))
