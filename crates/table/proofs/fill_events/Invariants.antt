-- The rows so far are the events' so far, turn by turn.
-- The idea: the part is known to be read, so what stands next was read; its records' rows are stored first, and then its own before them.
use Rattle.table.proofs.EventFillLaws.{FillingEvents}
use Rattle.table.proofs.fill_events.Given as goal

abbrev pub invariant-loop-event : goal.invariant-loop-event
invariant-loop-event l =
    goal.iterator-loop-event.can_next l.event-iterator × goal.iterator-loop-event.is_finite l.event-iterator
    × FillingEvents l.order l.from l.part l.initial.rows l.first l.rows l.event-iterator l.n
