-- Too few rows lent, or filled: each way out is a law of TableLaws, of what check's answer says of the file.
use Rattle.std.proofs.Common.{sym}
use Rattle.table.proofs.TableLaws.{few_answer, few_buffer, fillable, filled_answer, filled_buffer}
use Rattle.table.proofs.table.Goals as goal

pub returns-then-rows-count-clause-answer : goal.returns-then-rows-count-clause-answer
returns-then-rows-count-clause-answer c = rw (few_answer _ _ _ c.in-Ok.ensures c.if-rows-count.true, c.into-then-rows-count.ensures)

pub returns-then-rows-count-clause-buffer : goal.returns-then-rows-count-clause-buffer
returns-then-rows-count-clause-buffer c = sym (few_buffer _ _ _ c.in-Ok.ensures c.if-rows-count.true)

pub fill-requires : goal.fill-requires
fill-requires c = fillable _ _ _ _ c.order_of.ensures c.in-Ok.ensures c.if-rows-count.false

pub returns-else-rows-count-clause-answer : goal.returns-else-rows-count-clause-answer
returns-else-rows-count-clause-answer c = sym (filled_answer _ _ _ c.in-Ok.ensures c.if-rows-count.false)

pub returns-else-rows-count-clause-buffer : goal.returns-else-rows-count-clause-buffer
returns-else-rows-count-clause-buffer c = sym (filled_buffer _ _ _ _ c.in-Ok.ensures c.if-rows-count.false c.fill.ensures)
