-- `closings::close_configuration` meets its contract: its own word has no fault, and its contents may be none.
-- The idea: it is a case of any container's closing.
use Rattle.closings.proofs.CloseLaws.{configuration-ends}
use Rattle.closings.proofs.close_configuration.Goals as goal

pub returns : goal.returns
returns c =
    let a = c.args in
    let (answer, output) =
    configuration-ends a.order a.out.now a.place a.end (c.close.ensures.answer, c.close.ensures.output) in
    record { answer = answer; output = output }
