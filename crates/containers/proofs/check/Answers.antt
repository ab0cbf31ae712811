-- Over the limit a file is refused; within it its parts are read, in the order that its first bytes show.
use mathlib.Core.Path.{ap, ◌∙◌}
use Rattle.theory.specs.declared.Order.{Order}
use Rattle.note.specs.Files.{read_parts}
use Rattle.containers.specs.Counts.{part_rows}
use Rattle.containers.proofs.FileLaws.{over, within-limit}
use Rattle.containers.proofs.check.Goals as goal

pub returns-then-file-gt-FILE_LIMIT : goal.returns-then-file-gt-FILE_LIMIT
returns-then-file-gt-FILE_LIMIT c = rw c.at.ensures (over c.args.file.now c.if-file-gt-FILE_LIMIT.true)

pub returns : goal.returns
returns c =
    let file = c.args.file.now in
    c.parts_in.ensures
    ∙ ap (λ (o : Order). part_rows (read_parts o file)) c.order_of.ensures
    ∙ within-limit file c.if-file-gt-FILE_LIMIT.false
