-- As many as the iterator gave are counted.
use Rattle.std.proofs.Common.{ap₂, ◌∙◌}
use Rattle.walk.specs.Steps.{count_in}
use Rattle.walk.proofs.StepLaws.{drained}
use Rattle.walk.proofs.count_in.Goals as goal

pub returns : goal.returns
returns c =
    let (xs, run, is) = c.count.ensures.ran in
    let (rest_is, at_is, order_is) = c.structures.ensures in
    is ∙ drained _ xs run ∙ ap₂ (λ o b. count_in o b.now) order_is rest_is
