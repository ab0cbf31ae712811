-- A turn passes over one row or stores one; at the end, or where the buffer is full, the rows stored are those that it holds.
-- The idea: what is known of the walk's yields is handed on turn by turn (Storing).
use Prim.Native.Nat.{◌+◌, ◌-◌}
use Rattle.visitor.proofs.VisitLaws.{Storing}
use Rattle.visitor.proofs.store.Given as goal

abbrev pub invariant-loop-count : goal.invariant-loop-count
invariant-loop-count l = Storing l.file l.initial.at l.first l.room l.initial.rows l.rows l.at l.passed l.count

abbrev pub decreases-loop-count : goal.decreases-loop-count
decreases-loop-count l = (l.first - l.passed) + (l.room - l.count)
