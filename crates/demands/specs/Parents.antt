-- Which row is a row's parent, by the row's kind. That it is the one container whose bytes hold the row is said for any format, by `OneParent`
-- (theory/specs/Layout); this adds what only this format knows.
use Rattle.std.specs.Prelude.{ℕ, suc, ◌≤◌, ◌<◌, ◌≡◌, List, length}
use Rattle.theory.specs.Layout.{Row, row}

-- FORMAT 7.2, 7.3: row r among the rows all: it is of one of the eleven kinds. A header, a configuration and an event have no parent; a phonon or
-- charge entry has the second row, which is the configuration's; a record has the row of an event.
pub record ParentByKind (all : List Row) (r : Row) : Type 0 where
  pub kind-listed : (1 ≤ r.kind) × (r.kind ≤ 11)
  pub header : r.kind ≡ 1 → r.parent ≡ 0
  pub configuration : r.kind ≡ 2 → r.parent ≡ 0
  pub event : r.kind ≡ 5 → r.parent ≡ 0
  pub entry : 3 ≤ r.kind → r.kind ≤ 4 → (r.parent ≡ 2) × ((row all 1).kind ≡ 2)
  pub inside-event : 6 ≤ r.kind → (p : ℕ) × (r.parent ≡ suc p) × (p < length all) × ((row all p).kind ≡ 5)
