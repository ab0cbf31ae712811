-- The loop's laws answer each goal: so many rows were counted, and the rest is read as from here.
use lib.ListN.{length}
use Rattle.containers.proofs.EventLoop.{Rows}
use Rattle.containers.proofs.events_in.Given as goal

abbrev pub invariant-loop-rest : goal.invariant-loop-rest
invariant-loop-rest l = Rows l.order l.from l.part l.at l.rest l.count

abbrev pub decreases-loop-rest : goal.decreases-loop-rest
decreases-loop-rest l = length l.rest
