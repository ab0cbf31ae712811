-- What stands next was read, and each way of a turn keeps the first match.
-- The idea: the inner loop speaks of an event that carries the number, and of the traces behind that event.
use Rattle.std.proofs.Common.{◌≡◌, ℕ, List, None}
use Rattle.theory.specs.declared.Order.{Order}
use Rattle.note.specs.Events.{read_events}
use Rattle.note.specs.Calls.{first_match}
use Rattle.find.specs.Search.{traces_read}
use Rattle.find.proofs.TraceLaws.{Looking}
use Rattle.find.proofs.SearchLaws.{Searching, later_traces}
use Rattle.find.proofs.search.Given as goal

-- What the search is to give.
abbrev pub sought : Order → ℕ → ℕ → ℕ → List ℕ → List ℕ
sought o number code from part = first_match number code (traces_read o from (read_events o from part))

abbrev pub invariant-loop-record : goal.invariant-loop-record
invariant-loop-record l =
    goal.iterator-loop-record.can_next l.record-iterator × goal.iterator-loop-record.is_finite l.record-iterator
    × (l.found ≡ None)
    × Looking l.order l.number l.code (sought l.order l.number l.code l.from l.part) (later_traces l.order l.event-iterator) l.record-iterator

abbrev pub invariant-events : goal.invariant-events
invariant-events l =
    goal.iterator-events.can_next l.event-iterator × goal.iterator-events.is_finite l.event-iterator
    × (l.found ≡ None) × Searching l.order l.number l.code (sought l.order l.number l.code l.from l.part) l.event-iterator
