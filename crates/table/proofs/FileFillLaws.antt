-- Filling the rows of a file that was checked: the rows that storing its parts' rows in the code's order leaves.
-- The idea: each part that code cuts out is read as the file's own, so its rows are the file's, and they stand one behind the other.
use mathlib.Core.Path.{◌≡◌, refl, sym, ap, ap₂, ◌∙◌}
use mathlib.Core.List.{List, [], ◌∷◌, ◌++◌, map}
use Prim.Native.Nat.{ℕ, ◌+◌, ◌-◌, ◌≤◌}
use native.Mathlib.Omega.{arith}
use lib.ListN.{length, take, drop, length-append, length-map}
use Rattle.theory.specs.declared.Order.{Order}
use Rattle.theory.specs.Words.{Bytes}
use Rattle.theory.specs.Tests.{ok}
use Rattle.theory.specs.Layout.{Row, Child, total, child_rows, rows}
use Rattle.theory.proofs.TestLaws.{ok_inj}
use Rattle.theory.proofs.LayoutLaws.{length-child_rows}
use Rattle.note.specs.Limits.{file_limit}
use Rattle.note.specs.Words.{word}
use Rattle.note.specs.Records.{Record, entry, records_bytes, read_records}
use Rattle.note.specs.Events.{read_events}
use Rattle.note.specs.Files.{File, order_in, version_of, configuration_of, events_of}
use Rattle.note.specs.Rows.{child_of, children_of, event_node, nodes_of, rows_of}
use Rattle.demands.proofs.RowLaws.{children_total}
use Rattle.containers.proofs.RecordLoop.{behind_of, length-behind}
use Rattle.containers.proofs.EventLoop.{few}
use Rattle.containers.proofs.FileParts.{version-is, length-is, room, entries-part, entries-read, events-read}
use Rattle.rows.specs.declared.Row as code
use Rattle.rows.specs.Buffers.{row_of, stored}
use Rattle.rows.proofs.StoreLaws.{stored-append, length-stored, stored-before}
use Rattle.table.specs.Filling.{Fillable, FillableEvents, FillableFile, Filled, FilledEvents, FilledFile}

-- A file's rows in their parts: its entries, the header's row, the configuration's, the events'.
abbrev entries : Order → File → List Record
entries o f = (configuration_of f).body

abbrev ch : File → List Child
ch f = children_of (order_in f) (entries (order_in f) f)

abbrev header_row : Order → File → Row
header_row o f = record { kind = 1; start = 0; whole = 8; parent = 0; one = version_of f; two = 0 }

abbrev own_row : Order → File → Row
own_row o f = record { kind = 2; start = 8; whole = 8 + total (ch f); parent = 0; one = length (entries o f); two = 0 }

-- the rows before the events'
abbrev front : Order → File → List Row
front o f = header_row o f ∷ (own_row o f ∷ child_rows 2 16 (ch f))

abbrev event_rows : File → List Row
event_rows f = rows (3 + length (ch f)) (8 + (8 + total (ch f))) (map (event_node (order_in f)) (events_of f))

rows_are : (f : File) → rows_of f ≡ front (order_in f) f ++ event_rows f
unfolding rows_of nodes_of rows
rows_are f = refl

front-size : (f : File) → length (front (order_in f) f) ≡ 2 + length (entries (order_in f) f)
front-size f = omega (arith, length-child_rows 2 16 (ch f), length-map (entries (order_in f) f) (child_of (order_in f)))

count : (f : File) → length (rows_of f) ≡ 2 + length (entries (order_in f) f) + length (event_rows f)
count f = omega (arith, ap length (rows_are f), length-append (front (order_in f) f) (event_rows f), front-size f)

-- The parts as code cuts them out, behind a length word m; the rows that code stores, of a version word v and of an index behind entries.
abbrev entries_part : List ℕ → ℕ → List ℕ
entries_part bs m = take (8 + (8 + m) - 16) (drop 16 bs)

abbrev events_part : List ℕ → ℕ → List ℕ
events_part bs m = behind_of (8 + (8 + m)) bs

abbrev put_header : ℕ → code.Row
put_header v = record { kind = 1; start = 0; whole = 8; parent = 0; one = v; two = 0 }

abbrev put_own : ℕ → ℕ → code.Row
put_own m next = record { kind = 2; start = 8; whole = 8 + m; parent = 0; one = next - 2; two = 0 }

module _ {o : Order} {bs : List ℕ} {lent : ℕ} (p : FillableFile o bs lent) where
  -- two rows at least
  pub some : 12 ≤ lent
  some = omega (arith, count (o, p.parts), p.fits)

  module _ (h : Bytes bs) (m : ℕ) (em : m ≡ word o 12 bs) where
    -- the length word is the entries'
    entries-size : length (records_bytes o (entries o (o, p.parts))) ≡ m
    entries-size = sym (em ∙ length-is bs (o, p.parts) h p.reads)

    -- the configuration fits the file, which is within the limit
    pub sized : (16 + m ≤ length bs) × (length bs ≤ file_limit)
    sized = let (fits, limit) = room bs (o, p.parts) h p.reads in (omega (arith, fits, entries-size), limit)

-- What is known once the header's row is stored: the buffer `one` that this leaves, and what the length word m is.
pub record Begun (o : Order) (bs buffer : List ℕ) (m : ℕ) (one : List ℕ) : Type 0 where
  pub bytes : Bytes bs
  pub asked : FillableFile o bs (length buffer)
  pub size : m ≡ word o 12 bs
  pub held : one ≡ stored buffer 0 (header_row o (o, asked.parts) ∷ [])

pub begin : {o : Order} {bs buffer : List ℕ} → Bytes bs → FillableFile o bs (length buffer) → (m : ℕ) → m ≡ word o 12 bs → (v : ℕ) → v ≡ word o 4 bs
    → (one : List ℕ) → one ≡ stored buffer 0 (row_of (put_header v) ∷ []) → Begun o bs buffer m one
unfolding row_of
begin {o} {bs} {buffer} h p m em v ev one eo = record {
  bytes = h;
  asked = p;
  size = em;
  held = eo ∙ ap (λ (x : ℕ). stored buffer 0 (row_of (put_header x) ∷ [])) (ev ∙ version-is bs (o, p.parts) h p.reads);
}

module _ {o : Order} {bs buffer : List ℕ} {m : ℕ} {one : List ℕ} (b : Begun o bs buffer m one) where
  abbrev f : File
  f = (o, b.asked.parts)

  -- the parts are read as the file's own
  part-size : 8 + (8 + m) - 16 ≡ word o 12 bs
  part-size = omega (arith, b.size)

  entries_are : read_records o entry 16 (entries_part bs m) ≡ ok (entries o f)
  entries_are = entries-read bs f b.bytes b.asked.reads _ part-size

  events_are : read_events o (8 + (8 + m)) (events_part bs m) ≡ ok (events_of f)
  events_are = events-read bs f b.bytes b.asked.reads (8 + (8 + m)) (omega (arith, b.size))

  -- how long they are, and the buffer
  contents : (length (records_bytes o (entries o f)) ≡ m) × ((16 + m ≤ length bs) × (length bs ≤ file_limit))
  contents = (entries-size b.asked b.bytes m b.size, sized b.asked b.bytes m b.size)

  one_size : length one ≡ length buffer
  one_size = ap length b.held ∙ length-stored buffer 0 (header_row o f ∷ [])

  -- the entries can be filled, from the third row on
  pub fillable : Fillable o 16 (entries_part bs m) (length one) 2
  fillable =
      let size : length (entries_part bs m) ≡ length (records_bytes o (entries o f)) =
      ap length (entries-part bs f b.bytes b.asked.reads _ part-size) in
      record {
        context = entry;
        records = entries o f;
        reads = entries_are;
        within = omega (arith, size, contents);
        fits = omega (arith, count f, b.asked.fits, one_size);
      }

  -- Where the entries were filled.
  module _ (two : List ℕ) (next : ℕ) (g : Filled o 16 (entries_part bs m) one 2 2 two next) where
    filled : (two ≡ stored one 2 (child_rows 2 16 (ch f))) × (next ≡ 2 + length (entries o f))
    filled = g entry (entries o f) entries_are

    -- the next row's index: two rows lie before the entries', of which there are no more than bytes; and the buffer is as long as it was
    pub next_row : (2 ≤ next) × (next ≤ 2 + m) × (length two ≡ length buffer)
    next_row = (
      omega (arith, filled.1),
      omega (arith, filled.1, few o (entries o f), contents.0),
      ap length filled.0 ∙ length-stored one 2 (child_rows 2 16 (ch f)) ∙ one_size,
    )

    -- the events' place, their first row's number, and so their rows
    place_is : 8 + (8 + m) ≡ 8 + (8 + total (ch f))
    place_is = omega (arith, contents.0, children_total o (entries o f))

    number_is : next + 1 ≡ 3 + length (ch f)
    number_is = omega (arith, filled.1, length-map (entries o f) (child_of o))

    event-rows : rows (next + 1) (8 + (8 + m)) (map (event_node o) (events_of f)) ≡ event_rows f
    event-rows = ap₂ (λ (x y : ℕ). rows x y (map (event_node o) (events_of f))) number_is place_is

    -- Where the configuration's row was stored: the rows before the events'.
    module _ (three : List ℕ) (et : three ≡ stored two 1 (row_of (put_own m next) ∷ [])) where
      own_is : row_of (put_own m next) ≡ own_row o f
      unfolding row_of
      own_is =
          let w : 8 + m ≡ 8 + total (ch f) = omega (arith, place_is) in
          let q : next - 2 ≡ length (entries o f) = omega (arith, filled.1) in
          λ j. record { kind = 2; start = 8; whole = w j; parent = 0; one = q j; two = 0 }

      three-is : three ≡ stored buffer 0 (front o f)
      three-is =
          et ∙ ap₂ (λ (r : Row) (x : List ℕ). stored x 1 (r ∷ [])) own_is filled.0
          ∙ stored-before one 1 (own_row o f) (child_rows 2 16 (ch f))
          ∙ ap (λ (x : List ℕ). stored x 1 (own_row o f ∷ child_rows 2 16 (ch f))) b.held
          ∙ sym (stored-append buffer 0 (header_row o f ∷ []) (own_row o f ∷ child_rows 2 16 (ch f)))

      -- the events can be filled behind them
      pub fillable_events : FillableEvents o (8 + (8 + m)) (events_part bs m) (length three) next
      fillable_events =
          record {
            events = events_of f;
            reads = events_are;
            within = omega (arith, length-behind (8 + (8 + m)) bs, contents);
            low = omega (arith, next_row);
            fits = omega (arith, ap length event-rows, count f, b.asked.fits, ap length three-is, length-stored buffer 0 (front o f), filled.1);
          }

      -- and then the rows are the file's
      pub done : (four : List ℕ) → FilledEvents o (8 + (8 + m)) (events_part bs m) three next four → FilledFile bs buffer four
      done four ge f' e =
          let size : next ≡ 0 + length (front o f) = omega (arith, filled.1, front-size f) in
          ge (events_of f) events_are
          ∙ ap (stored three next) event-rows
          ∙ ap₂ (λ (x : List ℕ) (y : ℕ). stored x y (event_rows f)) three-is size
          ∙ sym (stored-append buffer 0 (front o f) (event_rows f))
          ∙ ap (stored buffer 0) (sym (rows_are f))
          ∙ ap (λ (x : File). stored buffer 0 (rows_of x)) (ok_inj (sym b.asked.reads ∙ e))
