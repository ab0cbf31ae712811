-- What was written and what is left are the part, turn by turn.
-- The idea: a container's two words stand in front of its contents when these are written.
use Rattle.rewriting.proofs.CopyLoop.{Copying}
use Rattle.rewriting.proofs.ContainerLoop.{container_item}
use Rattle.rewriting.proofs.copy_containers.Given as goal

abbrev pub invariant-loop-container : goal.invariant-loop-container
invariant-loop-container l =
    goal.iterator-loop-container.can_next l.container-iterator × goal.iterator-loop-container.is_finite l.container-iterator
    × Copying (container_item l.order) l.order l.initial.out l.place l.part l.out l.container-iterator
