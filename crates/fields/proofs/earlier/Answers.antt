-- `fields::earlier` meets its contract: the first fault counts where there is one.
-- The idea: a number that isn't 0 is a successor, at which `first` computes.
use Rattle.theory.proofs.TestLaws.{last, positive}
use Rattle.theory.specs.Tests.{first}
use Rattle.fields.proofs.earlier.Goals as goal

pub returns-then-one-ne0 : goal.returns-then-one-ne0
unfolding first
returns-then-one-ne0 c = rw (positive _ c.if-one-ne0.true)

pub returns-else-one-ne0 : goal.returns-else-one-ne0
unfolding first
returns-else-one-ne0 c = rw c.if-one-ne0.false (last _)
