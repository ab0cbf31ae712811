-- Two loops' laws answer each goal: a run over records of one length, and runs one behind the other.
use lib.ListN.{length}
use Rattle.record.specs.Steps.{context_of}
use Rattle.containers.proofs.RecordLoop.{Counting}
use Rattle.containers.proofs.RunLaws.{Run}
use Rattle.containers.proofs.records_in.Given as goal

abbrev pub invariant-loop-head : goal.invariant-loop-head
invariant-loop-head l =
    Run l.order l.from l.part (context_of l.initial.state) l.initial.at l.initial.rest l.initial.count l.known
    (context_of l.state) l.at l.rest l.count

abbrev pub decreases-loop-head : goal.decreases-loop-head
decreases-loop-head l = length l.rest

abbrev pub invariant-loop-rest : goal.invariant-loop-rest
invariant-loop-rest l =
    Counting l.order (context_of l.initial.state) l.from l.part (context_of l.state) l.at l.rest l.count

abbrev pub decreases-loop-rest : goal.decreases-loop-rest
decreases-loop-rest l = length l.rest
