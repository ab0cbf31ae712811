-- No more children are counted than the container's contents have bytes.
use Rattle.std.proofs.Common.{ap, length, arith}
use Rattle.structures.proofs.StandingLaws.{given_length, given_fits}
use Rattle.walk.proofs.StepLaws.{few_counted}
use Rattle.walk.proofs.container_step.Goals as goal

pub overflow_cast-count : goal.overflow_cast-count
overflow_cast-count c =
    let g = c.in-Some.ensures.steps in
    let part_is = ap (λ r. length r.now) c.structures.ensures.0 in
    let few = few_counted c.args.order c.in-Some.container.body.now in
    omega (arith, c.count_in-count.ensures, few, given_length g, given_fits g, part_is, c.requires.0)
