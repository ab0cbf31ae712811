-- `closings::close_event` meets its contract: the fault of its own word, that word, and contents that aren't empty.
-- The idea: it is a case of any container's closing; the word is the one asked for where it has no fault.
use Rattle.closings.proofs.CloseLaws.{event-ends}
use Rattle.closings.proofs.close_event.Goals as goal

pub returns : goal.returns
returns c =
    let a = c.args in
    let (answer, output) =
    event-ends a.order a.out.now a.place a.end a.class a.category a.event_type c.event_fault-fault.ensures c.event_word-word.ensures
    (c.close.ensures.answer, c.close.ensures.output) in
    record { answer = answer; output = output }
