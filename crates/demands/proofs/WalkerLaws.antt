-- The walker's yields are the table's rows in order, then the end for ever; over a refused file that refusal for ever.
-- The idea: the table's buffer is the rows' numbers one after the other, six to a row.
use mathlib.Core.Path.{◌≡◌, sym, ap}
use mathlib.Core.List.{List, []}
use Prim.Native.Nat.{ℕ, ◌*◌, ◌≤◌, ◌<◌}
use lib.ListN.{length, take, drop}
use borrow.Author.Tests.{le-leb, lt-ltb, le-ltb}
use Rattle.theory.specs.Tests.{ok, bad}
use Rattle.note.specs.Limits.{row_width}
use Rattle.note.specs.Answers.{accepted, refused, counts}
use Rattle.note.specs.Files.{File, read_file}
use Rattle.note.specs.Rows.{rows_of, table_answer, table_buffer, yield_at}
use Rattle.note.proofs.FlatLaws.{flat-at}

-- A file that is accepted, with rows enough lent.
module _ (bs old : List ℕ) (f : File) (e : read_file bs ≡ ok f) (room : row_width * length (rows_of f) ≤ length old) where
  -- Below the table's count, the k-th yield is the table's k-th row.
  pub yields_are_rows : (k : ℕ) → k < (table_answer bs (length old)).count
      → yield_at bs k ≡ accepted (counts (take row_width (drop (row_width * k) (table_buffer bs old))))
  unfolding table_answer table_buffer yield_at
  yields_are_rows k l =
      let below : k < length (rows_of f) = rw e at l in
      rw (e, lt-ltb k (length (rows_of f)) below, le-leb (row_width * length (rows_of f)) (length old) room)
      (ap (λ (x : List ℕ). accepted (counts x)) (sym (flat-at (rows_of f) (drop (row_width * length (rows_of f)) old) k below)))

  -- From there on it is the end, however often it is asked.
  pub yields_end : (k : ℕ) → (table_answer bs (length old)).count ≤ k → yield_at bs k ≡ accepted []
  unfolding table_answer yield_at
  yields_end k l =
      let past : length (rows_of f) ≤ k = rw e at l in
      rw (e, le-ltb k (length (rows_of f)) past)

-- Over a refused file each yield is that refusal, the table's.
pub yields_refused : (bs : List ℕ) (c p k capacity : ℕ) → read_file bs ≡ bad c p
    → (yield_at bs k ≡ refused c p) × (table_answer bs capacity ≡ record { number = c; count = 0; place = p })
unfolding table_answer yield_at
yields_refused bs c p k capacity e = (rw e, rw e)
