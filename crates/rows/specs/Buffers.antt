-- Rows in a lent buffer: what storing some of them leaves of it.
use Rattle.std.specs.Prelude.{ℕ, ◌*◌, List}
use Rattle.std.proofs.lemmas.List.Edits.{sets}
use Rattle.theory.specs.Layout as Layout
use Rattle.note.specs.Limits.{row_width}
use Rattle.note.specs.Rows.{flat}
use Rattle.rows.specs.declared.Row.{Row}

-- The code's row is the note's.
unfoldable pub row_of : Row → Layout.Row
row_of r = record { kind = r.kind; start = r.start; whole = r.whole; parent = r.parent; one = r.one; two = r.two }

-- FORMAT 7.1: a buffer with rows stored from the index n on.
unfoldable pub stored : List ℕ → ℕ → List Layout.Row → List ℕ
stored old n rs = sets old (n * row_width) (flat rs)
