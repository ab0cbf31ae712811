-- `lines::put_row` meets its contract: the row's number and a blank, and the line of its values.
use native.Mathlib.Omega.{arith}
use Rattle.lines.proofs.TextLaws.{row_put}
use Rattle.lines.proofs.put_row.Goals as goal

pub returns-clause-put : goal.returns-clause-put
returns-clause-put c =
    let a = c.args in
    row_put a.out.now a.at a.number c.put_number-next.result c.put_line.result a.row.now c.put_number-next.new.out c.put_line.new.out
    (omega arith) c.put_number-next.ensures.put c.put_line.ensures.put
