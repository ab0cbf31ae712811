-- The rows so far are the records' so far, turn by turn.
-- The idea: the part is known to be read, so what stands next was read, and its row is stored behind those before it.
use Rattle.table.proofs.FillLaws.{Filling}
use Rattle.table.proofs.fill_records.Given as goal

abbrev pub invariant-loop-record : goal.invariant-loop-record
invariant-loop-record l =
    goal.iterator-loop-record.can_next l.record-iterator × goal.iterator-loop-record.is_finite l.record-iterator
    × Filling l.order l.from l.part l.initial.rows l.first l.parent l.rows l.record-iterator l.n
