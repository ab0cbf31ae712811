-- What the search is handed, and the traces that it looks through: those of the events that fill a part of a file. Find has checked the file
-- before it searches, so the search needs no refusal.
use Rattle.std.specs.Prelude.{ℕ, ◌+◌, ◌≤◌, ◌≡◌, List, [], ◌∷◌, length, Option, Some, None}
use Rattle.theory.specs.declared.Order.{Order}
use Rattle.theory.specs.Tests.{Res, ok, bad}
use Rattle.note.specs.Limits.{file_limit}
use Rattle.note.specs.Events.{Container, read_events}
use Rattle.note.specs.Calls.{TraceAt, traces_from}

-- The place that was found, if any.
abbrev pub places : Option ℕ → List ℕ
places (Some place) = place ∷ []
places None = []

-- Events fill the part, which lies in a file of the greatest length or less.
pub record Searchable (o : Order) (from : ℕ) (bs : List ℕ) : Type 0 where
  pub events : List Container
  pub reads : read_events o from bs ≡ ok events
  pub within : from + length bs ≤ file_limit

-- FORMAT 8.8: the traces of the events that were read from the place `at` on; none where they weren't.
unfoldable pub traces_read : Order → ℕ → Res (List Container) → List TraceAt
traces_read o at (ok es) = traces_from o at es
traces_read o at (bad c p) = []
