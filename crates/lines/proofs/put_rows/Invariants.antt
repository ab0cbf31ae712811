-- `lines::put_rows` meets its contract: each turn stores the line of one row.
-- The idea: what is left of the lines, stored from here on, makes all of them.
use Prim.Native.Nat.{◌+◌, ◌*◌, ◌≤◌}
use mathlib.Core.Path.{◌≡◌}
use lib.ListN.{length, drop}
use Rattle.note.specs.Listing.{lines_text}
use Rattle.lines.specs.Texts.{numbered}
use Rattle.lines.proofs.TextLaws.{Left}
use Rattle.lines.proofs.put_rows.Given as goal

abbrev pub invariant-loop-i : goal.invariant-loop-i
invariant-loop-i l =
    (length l.out ≡ length l.initial.out) × (l.next ≤ l.at + l.i * 87)
    × Left l.initial.out l.at (lines_text (numbered 1 l.rows)) l.out l.next (lines_text (numbered (l.i + 1) (drop l.i l.rows)))
