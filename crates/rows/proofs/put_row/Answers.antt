-- `rows::put_row` meets its contract: six stores in the row's part of the buffer.
-- The idea: stores into a lent part, however many, are one law.
use Prim.Native.Nat.{◌+◌, ◌-◌, ◌*◌, ◌≤◌}
use mathlib.Core.Path.{refl}
use mathlib.Core.List.{[], ◌∷◌}
use native.Mathlib.Omega.{arith}
use lib.ListN.{length}
use Rattle.theory.proofs.StoreLaws.{part-stored}
use Rattle.note.specs.Rows.{flat}
use Rattle.rows.specs.Buffers.{row_of, stored}
use Rattle.rows.proofs.put_row.Goals as goal

pub returns : goal.returns
unfolding stored flat row_of
returns c =
    let a = c.args in
    let i = a.n * 6 in
    let room : i + 6 ≤ length a.rows.now = c.requires in
    part-stored a.rows.now i (i + 6 - i) (flat (row_of a.row ∷ [])) _ (omega arith) (omega arith) refl
