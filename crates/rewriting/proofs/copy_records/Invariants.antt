-- What was written and what is left are the part, turn by turn.
-- The idea: what stands next was read, so its copy is its own bytes.
use Rattle.demands.proofs.Bundles.{record_item}
use Rattle.rewriting.proofs.CopyLoop.{Copying}
use Rattle.rewriting.proofs.copy_records.Given as goal

abbrev pub invariant-loop-record : goal.invariant-loop-record
invariant-loop-record l =
    goal.iterator-loop-record.can_next l.record-iterator × goal.iterator-loop-record.is_finite l.record-iterator
    × Copying (record_item l.order) l.order l.initial.out l.place l.part l.out l.record-iterator
