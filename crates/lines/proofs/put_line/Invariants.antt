-- `lines::put_line` meets its contract: each turn stores a number and the byte behind it.
-- The idea: what is left of the line, stored from here on, makes the line.
use Prim.Native.Nat.{◌+◌, ◌*◌, ◌≤◌}
use mathlib.Core.Path.{◌≡◌}
use lib.ListN.{length, drop}
use Rattle.note.specs.Listing.{line_text}
use Rattle.lines.proofs.TextLaws.{Left}
use Rattle.lines.proofs.put_line.Given as goal

abbrev pub invariant-loop-i : goal.invariant-loop-i
invariant-loop-i l =
    (length l.out ≡ length l.initial.out) × (l.next ≤ l.at + 11 * l.i)
    × Left l.initial.out l.at (line_text l.numbers) l.out l.next (line_text (drop l.i l.numbers))
