use Rattle.std.proofs.Common.{ap, arith, length, rules}
use Rattle.table.proofs.FillLaws.{begin, same_rows, sized, valued, row_fits, next, done}
use Rattle.table.proofs.fill_records.Goals as goal

pub loop-record-init : goal.loop-record-init
loop-record-init c =
    let (rest_is, at_is, order_is) = c.structures-record-items.ensures in
    let part_is = ap (λ r. r.now) rest_is in
    rw c.into_iter-record-iterator.ensures.into_iter_gives
    (omega (arith, ap length part_is, at_is, c.requires.within), tt, begin _ _ _ _ _ _ _ part_is at_is order_is)

pub values_in-v-requires : goal.values_in-v-requires
values_in-v-requires c =
    let (holds, limit) = valued c.loop-record.invariant.2 c.requires c.in-Some.ensures.steps in (holds, omega (arith, limit))

pub overflow_cast-row : goal.overflow_cast-row
overflow_cast-row c = omega (arith, sized c.loop-record.invariant.2 c.requires c.in-Some.ensures.steps)

pub overflow_cast-row-in-loop-record : goal.overflow_cast-row-in-loop-record
overflow_cast-row-in-loop-record c = omega (arith, sized c.loop-record.invariant.2 c.requires c.in-Some.ensures.steps)

pub put_row-requires : goal.put_row-requires
put_row-requires c = row_fits c.loop-record.invariant.2 c.requires c.in-Some.ensures.steps

pub overflow_add-n : goal.overflow_add-n
overflow_add-n c =
    omega (arith, row_fits c.loop-record.invariant.2 c.requires c.in-Some.ensures.steps, same_rows c.loop-record.invariant.2 c.requires)

pub loop-record-preserved : goal.loop-record-preserved
loop-record-preserved c =
    (search rules, tt, next c.loop-record.invariant.2 c.in-Some.ensures.steps _ c.values_in-v.ensures _ c.put_row.ensures)

pub returns : goal.returns
returns c = done c.loop-record.invariant.2 c.in-None.ensures.steps.0
