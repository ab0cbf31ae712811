-- What storing rows leaves, of a walk whose yields are known: the visitor is a walk that drops its first rows and stores the next.
use Rattle.std.specs.Prelude.{ℕ, ◌/◌, ◌≡◌, List, length, take, drop}
use Rattle.theory.specs.Layout.{Row}
use Rattle.note.specs.Limits.{row_width}
use Rattle.rows.specs.Buffers.{stored}
use Rattle.walk.specs.declared.Spot.{Spot}
use Rattle.walk.specs.Steps.{step_of, Yields}

-- FORMAT 8.4: of a walk that stands before rows: as many as the buffer holds, but for the first k, are stored from its beginning on, and n is how
-- many.
abbrev pub Stored : List ℕ → Spot → ℕ → List ℕ → List ℕ → ℕ → Type 0
Stored bs from k old new n =
    (rs : List Row) → Yields bs (step_of bs from) rs
    → (new ≡ stored old 0 (take (length old / row_width) (drop k rs))) × (n ≡ length (take (length old / row_width) (drop k rs)))
