-- What the writers of records hand on: a structure whose body is words, and bytes behind them. Every kind but a history is one of these, so one
-- writer serves all seven.
use Rattle.std.specs.Prelude.{ℕ, List, ◌++◌}
use Rattle.theory.specs.declared.Order.{Order}
use Rattle.note.specs.Words.{words}
use Rattle.note.specs.Records.{record_bytes}
use Rattle.note.specs.Writers.{Draft}

-- FORMAT 2.3: its bytes: kind, length, body.
unfoldable pub structured : Order → ℕ → List ℕ → List ℕ → List ℕ
structured o kind ws bytes = record_bytes o (record { word = kind; body = words o ws ++ bytes })

-- A writer of it, of fields with this first fault.
abbrev pub structure_draft : Order → ℕ → ℕ → List ℕ → List ℕ → Draft
structure_draft o fault kind ws bytes = record { fault = fault; bytes = structured o kind ws bytes }
