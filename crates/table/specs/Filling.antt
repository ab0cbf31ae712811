-- What a part must be for its rows to be filled in, and what filling leaves: for records, for events and for a file, so that each loop promises
-- only its own part.
use Rattle.std.specs.Prelude.{ℕ, ◌+◌, ◌*◌, ◌≤◌, ◌≡◌, List, map, length}
use Rattle.theory.specs.declared.Order.{Order}
use Rattle.theory.specs.Tests.{ok}
use Rattle.theory.specs.Layout.{child_rows, rows}
use Rattle.note.specs.Limits.{file_limit, row_width}
use Rattle.note.specs.Records.{Record, Context, read_records}
use Rattle.note.specs.Events.{Container, read_events}
use Rattle.note.specs.Files.{Parts, File, read_file}
use Rattle.note.specs.Rows.{children_of, event_node, rows_of}
use Rattle.rows.specs.Buffers.{stored}

-- Records fill the part, in some context, and their rows fit the buffer from the index `first` on.
pub record Fillable (o : Order) (from : ℕ) (bs : List ℕ) (room first : ℕ) : Type 0 where
  pub context : Context
  pub records : List Record
  pub reads : read_records o context from bs ≡ ok records
  pub within : from + length bs ≤ file_limit
  pub fits : (first + length records) * row_width ≤ room

-- Events fill the part, there are no more rows before it than bytes, and their rows fit.
pub record FillableEvents (o : Order) (from : ℕ) (bs : List ℕ) (room first : ℕ) : Type 0 where
  pub events : List Container
  pub reads : read_events o from bs ≡ ok events
  pub within : from + length bs ≤ file_limit
  pub low : first ≤ from
  pub fits : (first + length (rows (first + 1) from (map (event_node o) events))) * row_width ≤ room

-- FORMAT 8.2: the file is accepted and of that order, and its rows fit.
pub record FillableFile (o : Order) (bs : List ℕ) (room : ℕ) : Type 0 where
  pub parts : Parts
  pub reads : read_file bs ≡ ok (o, parts)
  pub fits : length (rows_of (o, parts)) * row_width ≤ room

-- The buffer `new` is `old` with the rows of the part's records from the index `first` on, and `next` is the index after them.
abbrev pub Filled : Order → ℕ → List ℕ → List ℕ → ℕ → ℕ → List ℕ → ℕ → Type 0
Filled o from bs old first parent new next =
    (c : Context) (rs : List Record) → read_records o c from bs ≡ ok rs
    → (new ≡ stored old first (child_rows parent from (children_of o rs))) × (next ≡ first + length rs)

abbrev pub FilledEvents : Order → ℕ → List ℕ → List ℕ → ℕ → List ℕ → Type 0
FilledEvents o from bs old first new =
    (es : List Container) → read_events o from bs ≡ ok es → new ≡ stored old first (rows (first + 1) from (map (event_node o) es))

abbrev pub FilledFile : List ℕ → List ℕ → List ℕ → Type 0
FilledFile bs old new = (f : File) → read_file bs ≡ ok f → new ≡ stored old 0 (rows_of f)
