-- What Table gives (FORMAT 8.2): the rows that stand in its buffer tile the file, lie each inside its one parent, say what stands at their
-- starts and are at most an eighth of the length; the rest of the buffer is unchanged, and on a refusal all of it.
-- The idea: the rows read back from the buffer are the rows of the file, of which the demands are proved.
use mathlib.Core.Path.{◌≡◌, refl, sym, ap, ap₂, ◌∙◌, subst}
use mathlib.Core.Logic.{◌≢◌}
use mathlib.Core.Bool.{Bool, true, false, cond}
use mathlib.Core.List.{List, ◌++◌}
use Prim.Native.Nat.{ℕ, zero, suc, ◌+◌, ◌*◌, ◌≤◌, ◌<◌}
use native.Mathlib.Nat.{le_of_suc-le-suc, not-suc-le-zero}
use native.Mathlib.Decide.{ℕ_discrete}
use native.Mathlib.Omega.{arith}
use lib.Dec.{ltb}
use lib.ListN.{length, take, drop, get_or, length-append, length-drop}
use lib.Seq.{get_or-take, get_or-drop, drop_at, ext_get_or}
use borrow.Author.Tests.{leb-true, le-leb, ltb-true}
use Rattle.theory.specs.declared.Order.{Order}
use Rattle.theory.specs.Words.{Bytes}
use Rattle.theory.specs.Tests.{Res, ok, bad}
use Rattle.theory.specs.Layout.{Row, no_row, row, Tiles, Owns, OneParent}
use Rattle.theory.proofs.LayoutLaws.{owner, owner_one}
use Rattle.note.specs.Limits.{row_width}
use Rattle.note.specs.Files.{File, order_of, read_file}
use Rattle.note.specs.Rows.{rows_of, is_box, row_numbers, flat, fits, table_given, table_filled, table_answer, table_buffer}
use Rattle.note.proofs.FlatLaws.{length-flat, flat-at}
use Rattle.demands.proofs.Follows.{accepted_means}
use Rattle.demands.specs.Parents.{ParentByKind}
use Rattle.demands.specs.RowContents.{RowRead}
use Rattle.demands.proofs.RowLaws.{rows_inside, rows_tile_file, few_rows_in_file, parent_before_child}
use Rattle.demands.proofs.ParentLaws.{parent-by-kind}
use Rattle.demands.proofs.ContentLaws.{rows-read}
use Rattle.promises.specs.Buffers.{number_at, row_at, rows_from, table_count, table_rows, table_row}
use Rattle.demands.proofs.RefusalLaws.{refusal-is-numbered}

-- ---- rows read back

-- Number c of row j is the c-th of the numbers from that row on.
number_of : (buffer : List ℕ) (j c : ℕ) → c < row_width → number_at buffer j c ≡ get_or (take row_width (drop (row_width * j) buffer)) c 0
number_of buffer j c h = rw (get_or-take row_width (drop (row_width * j) buffer) c 0 h, get_or-drop)

-- row j of the rows' numbers is row j
pub flat-row : (rs : List Row) (rest : List ℕ) (j : ℕ) → j < length rs → row_at (flat rs ++ rest) j ≡ row rs j
flat-row rs rest j h = λ i. record {
  kind = at 0 refl i;
  start = at 1 refl i;
  whole = at 2 refl i;
  parent = at 3 refl i;
  one = at 4 refl i;
  two = at 5 refl i;
}
  where
    at : (c : ℕ) → ltb c row_width ≡ true → number_at (flat rs ++ rest) j c ≡ get_or (row_numbers (row rs j)) c 0
    at c l = number_of (flat rs ++ rest) j c (ltb-true c row_width l) ∙ ap (λ (x : List ℕ). get_or x c 0) (flat-at rs rest j h)

pub length-rows_from : (buffer : List ℕ) (j n : ℕ) → length (rows_from buffer j n) ≡ n
unfolding rows_from
length-rows_from buffer j zero = refl
length-rows_from buffer j (suc n) = ap suc (length-rows_from buffer (suc j) n)

-- Row k of the rows read back from row j on is row j + k of the buffer.
pub row_from : (buffer : List ℕ) (j n k : ℕ) → k < n → row (rows_from buffer j n) k ≡ row_at buffer (j + k)
unfolding rows_from
row_from buffer j zero k h = absurd (not-suc-le-zero h)
row_from buffer j (suc n) zero h = let e : j ≡ j + 0 = omega arith in ap (row_at buffer) e
row_from buffer j (suc n) (suc k) h =
    let e : suc j + k ≡ j + suc k = omega arith in
    row_from buffer (suc j) n k (le_of_suc-le-suc h) ∙ ap (row_at buffer) e

read_back : (rs : List Row) (rest : List ℕ) → rows_from (flat rs ++ rest) 0 (length rs) ≡ rs
read_back rs rest =
    let buffer : List ℕ = flat rs ++ rest in
    let n : length (rows_from buffer 0 (length rs)) ≡ length rs = length-rows_from buffer 0 (length rs) in
    ext_get_or no_row (rows_from buffer 0 (length rs)) rs n
    (λ k l.
    let below : k < length rs = omega (arith, n) in
    let e : 0 + k ≡ k = omega arith in
    row_from buffer 0 (length rs) k below ∙ ap (row_at buffer) e ∙ flat-row rs rest k below)

-- ---- what the answer says

-- Of any reading of the bytes: Table's number 0 is an accepted file whose rows fit.
given-zero : (bs : List ℕ) (capacity : ℕ) (r : Res File) → ((c p : ℕ) → r ≡ bad c p → 0 < c) → (table_given bs capacity r).number ≡ 0
    → (f : File) × (r ≡ ok f) × (row_width * length (rows_of f) ≤ capacity)
given-zero bs capacity (bad c p) g e = absurd (let h : 0 < c = g c p refl in omega (arith, e, h))
given-zero bs capacity (ok f) g e = (f, refl, leb-true (row_width * length (rows_of f)) capacity (passed (fits capacity (rows_of f)) e))
  where
    passed : (t : Bool) → ◌≡◌ {A = ℕ} (cond t 0 12) 0 → t ≡ true
    passed true q = refl
    passed false q = absurd (omega arith)

-- 0 means an accepted file whose rows fit in the buffer, and nothing else; its place is the file's length.
pub zero_means_accepted : (bs old : List ℕ) → (table_answer bs (length old)).number ≡ 0
    → (f : File) × (read_file bs ≡ ok f) × (row_width * length (rows_of f) ≤ length old)
unfolding table_answer
zero_means_accepted bs old e = given-zero bs (length old) (read_file bs) (refusal-is-numbered bs) e

pub accepted_means_zero : (bs old : List ℕ) (f : File) → read_file bs ≡ ok f → row_width * length (rows_of f) ≤ length old
    → table_answer bs (length old) ≡ record { number = 0; count = length (rows_of f); place = length bs }
unfolding table_answer
accepted_means_zero bs old f e room = rw (e, le-leb (row_width * length (rows_of f)) (length old) room)

-- ---- the buffer of a refused file

filled-refused : (bs old : List ℕ) (r : Res File) → (table_given bs (length old) r).number ≢ 0 → table_filled old r ≡ old
filled-refused bs old (bad c p) d = refl
filled-refused bs old (ok f) d = kept (fits (length old) (rows_of f)) d
  where
    kept : (t : Bool) → ◌≢◌ {A = ℕ} (cond t 0 12) 0 → cond t (flat (rows_of f) ++ drop (row_width * length (rows_of f)) old) old ≡ old
    kept true q = absurd (q refl)
    kept false q = refl

-- A refusal, 12 among them, leaves the whole buffer as it was.
pub refusal_keeps_buffer : (bs old : List ℕ) → (table_answer bs (length old)).number ≢ 0 → table_buffer bs old ≡ old
unfolding table_answer table_buffer
refusal_keeps_buffer bs old d = filled-refused bs old (read_file bs) d

-- ---- the buffer of an accepted file

module _ (bs old : List ℕ) (f : File) (e : read_file bs ≡ ok f) (room : row_width * length (rows_of f) ≤ length old) where
  -- How many numbers the file's rows have, and what stands behind them.
  abbrev filled : ℕ
  filled = row_width * length (rows_of f)

  abbrev behind : List ℕ
  behind = drop filled old

  filled_with : table_buffer bs old ≡ flat (rows_of f) ++ behind
  unfolding table_buffer
  filled_with = rw (e, le-leb filled (length old) room)

  counted : table_count bs old ≡ length (rows_of f)
  counted = ap (λ a. a.count) (accepted_means_zero bs old f e room)

  filled-length : length (table_buffer bs old) ≡ length old
  filled-length =
      omega (arith, ap length filled_with, length-append (flat (rows_of f)) behind, length-flat (rows_of f), length-drop filled old)

  filled_rest : drop (row_width * table_count bs old) (table_buffer bs old) ≡ drop (row_width * table_count bs old) old
  filled_rest =
      ap₂ (λ (n : ℕ) (x : List ℕ). drop (row_width * n) x) counted filled_with
      ∙ drop_at (flat (rows_of f)) behind filled (length-flat (rows_of f))
      ∙ ap (λ (n : ℕ). drop (row_width * n) old) (sym counted)

  filled-rows : table_rows bs old ≡ rows_of f
  filled-rows = ap₂ (λ (x : List ℕ) (n : ℕ). rows_from x 0 n) filled_with counted ∙ read_back (rows_of f) behind

-- A buffer keeps its length, whatever the answer.
pub buffer_keeps_length : (bs old : List ℕ) → length (table_buffer bs old) ≡ length old
buffer_keeps_length bs old = elim (ℕ_discrete (table_answer bs (length old)).number 0) [
  | yes e ↦ let (f, r, room) = zero_means_accepted bs old e in filled-length bs old f r room
  | no d ↦ ap length (refusal_keeps_buffer bs old d)
]

-- Table has answered 0.
module _ (bs old : List ℕ) (zero-given : (table_answer bs (length old)).number ≡ 0) where
  -- What lies behind the rows is as it was.
  pub rest_of_buffer_stays : drop (row_width * table_count bs old) (table_buffer bs old) ≡ drop (row_width * table_count bs old) old
  rest_of_buffer_stays = let (f, e, room) = zero_means_accepted bs old zero-given in filled_rest bs old f e room

  -- The rows fit in the buffer.
  pub rows_fit_buffer : row_width * table_count bs old ≤ length old
  rows_fit_buffer =
      let (f, e, room) = zero_means_accepted bs old zero-given in
      subst (λ (n : ℕ). row_width * n ≤ length old) (sym (counted bs old f e room)) room

  -- The rows that stand in the buffer are the file's, as many as the count says.
  pub table_has_rows : (f : File) × (read_file bs ≡ ok f) × (table_count bs old ≡ length (rows_of f)) × (table_rows bs old ≡ rows_of f)
  table_has_rows =
      let (f, e, room) = zero_means_accepted bs old zero-given in
      (f, e, counted bs old f e room, filled-rows bs old f e room)

  -- Row j among them is row j of the buffer.
  pub row_in_table : (j : ℕ) → j < table_count bs old → row (table_rows bs old) j ≡ table_row bs old j
  row_in_table j l =
      let e : 0 + j ≡ j = omega arith in
      row_from (table_buffer bs old) 0 (table_count bs old) j l ∙ ap (row_at (table_buffer bs old)) e

  -- They are as many as the count says.
  table_length : length (table_rows bs old) ≡ table_count bs old
  table_length = length-rows_from (table_buffer bs old) 0 (table_count bs old)

  -- What holds of row j among the file's rows holds of row j of the buffer among the rows that stand there.
  of_table : (P : List Row → ℕ → Row → Type 0)
      → ((f : File) → read_file bs ≡ ok f → (j : ℕ) → j < length (rows_of f) → P (rows_of f) j (row (rows_of f) j))
      → (j : ℕ) → j < table_count bs old → P (table_rows bs old) j (table_row bs old j)
  of_table P known j l =
      let (f, e, n, same) = table_has_rows in
      let here : row (rows_of f) j ≡ table_row bs old j = ap (λ (rs : List Row). row rs j) (sym same) ∙ row_in_table j l in
      subst (λ (r : Row). P (table_rows bs old) j r) here
      (subst (λ (rs : List Row). P rs j (row (rows_of f) j)) (sym same) (known f e j (subst (λ (m : ℕ). j < m) n l)))

  -- A row of the buffer is a container that holds row j exactly where its number is row j's parent.
  pub table_child_inside_parent : (j : ℕ) → j < table_count bs old → OneParent is_box (table_rows bs old) (table_row bs old j)
  table_child_inside_parent = of_table (λ rs j r. OneParent is_box rs r) (λ f e. rows_inside f)

  module _ (h : Bytes bs) where
    -- The rows' own bytes, row by row, are all bytes of the file.
    pub table_tiles : Tiles is_box 0 (table_rows bs old) (length bs)
    table_tiles =
        let (f, e, n, same) = table_has_rows in
        subst (λ (rs : List Row). Tiles is_box 0 rs (length bs)) (sym same) (rows_tile_file bs f h e)

    -- Each row owns eight bytes at the least, so there are few.
    pub table_has_few_rows : 8 * table_count bs old ≤ length bs
    table_has_few_rows =
        let (f, e, n, same) = table_has_rows in
        subst (λ (n : ℕ). 8 * n ≤ length bs) (sym n) (few_rows_in_file bs f h e)

    -- A byte is the own of a row of the buffer, and of no other row.
    pub byte_has_table_row : (i : ℕ) → i < length bs → (j : ℕ) × (j < table_count bs old) × Owns is_box (table_row bs old j) i
    byte_has_table_row i l =
        let (j, below, owns) = owner is_box 0 (length bs) (table_rows bs old) i table_tiles (omega arith) l in
        let counts : j < table_count bs old = omega (arith, table_length) in
        (j, counts, subst (λ (r : Row). Owns is_box r i) (row_in_table j counts) owns)

    pub byte_has_one_table_row : (i j k : ℕ) → j < table_count bs old → k < table_count bs old
        → Owns is_box (table_row bs old j) i → Owns is_box (table_row bs old k) i → j ≡ k
    byte_has_one_table_row i j k lj lk oj ok' =
        owner_one is_box 0 (length bs) (table_rows bs old) i table_tiles j k (omega (arith, table_length)) (omega (arith, table_length))
        (subst (λ (r : Row). Owns is_box r i) (sym (row_in_table j lj)) oj)
        (subst (λ (r : Row). Owns is_box r i) (sym (row_in_table k lk)) ok')

    -- A parent stands first: its row number, from 1, is at most the number of rows before the child.
    pub table_parent_before : (j : ℕ) → j < table_count bs old → (table_row bs old j).parent ≤ j
    table_parent_before = of_table (λ rs j r. r.parent ≤ j) (λ f e. parent_before_child bs f h e)

    -- Header, configuration and events have no parent, entries have the configuration's row, records that of an event.
    pub table_parent_by_kind : (j : ℕ) → j < table_count bs old → ParentByKind (table_rows bs old) (table_row bs old j)
    table_parent_by_kind = of_table (λ rs j r. ParentByKind rs r) (λ f e. parent-by-kind bs f h e)

    -- Kind, start, whole length and both values of row j of the buffer are those of what stands there.
    pub table_rows_read : (j : ℕ) → j < table_count bs old → RowRead (order_of bs) bs (table_rows bs old) j (table_row bs old j)
    table_rows_read =
        of_table (RowRead (order_of bs) bs) (λ f e.
        subst (λ (o : Order). (j : ℕ) → j < length (rows_of f) → RowRead o bs (rows_of f) j (row (rows_of f) j))
        (accepted_means bs f e).order_is (rows-read bs f h e))
