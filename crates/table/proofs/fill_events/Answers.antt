use Rattle.std.proofs.Common.{ap, arith, length, rules, ◌+◌, ◌*◌, ◌≤◌}
use Rattle.theory.proofs.WordLaws.{Bytes-from}
use Rattle.note.specs.Limits.{row_width}
use Rattle.table.proofs.EventFillLaws.{begin, done, sized, fillable, next_row, next-event}
use Rattle.table.proofs.fill_events.Goals as goal
use Rattle.table.proofs.fill_events.Goals.{After-fill_records-next}

-- Where its records were filled: its own row's index lies below the next, which is no more than the place behind it, and its row fits.
rows : (c : After-fill_records-next) → (c.loop-event.n + 1 ≤ c.fill_records-next.result)
    × (c.fill_records-next.result ≤ c.in-Some.event.place + (8 + length c.in-Some.event.body.now))
    × (c.loop-event.n * row_width + row_width ≤ length c.fill_records-next.new.rows)
rows c = next_row c.loop-event.invariant.2 c.requires c.in-Some.ensures.steps _ _ c.fill_records-next.ensures

pub loop-event-init : goal.loop-event-init
loop-event-init c =
    let (rest_is, at_is, order_is) = c.structures-event-items.ensures in
    let part_is = ap (λ r. r.now) rest_is in
    let bytes = Bytes-from c.args.part.now (λ i l. omega (arith, c.type_inv.part i)) in
    rw c.into_iter-event-iterator.ensures.into_iter_gives
    (omega (arith, ap length part_is, at_is, c.requires.within), tt, begin _ _ _ _ _ _ part_is at_is order_is bytes)

pub overflow_add-n : goal.overflow_add-n
overflow_add-n c = omega (arith, sized c.loop-event.invariant.2 c.requires c.in-Some.ensures.steps)

pub overflow_add-n-in-loop-event : goal.overflow_add-n-in-loop-event
overflow_add-n-in-loop-event c = omega (arith, sized c.loop-event.invariant.2 c.requires c.in-Some.ensures.steps)

pub overflow_cast-n : goal.overflow_cast-n
overflow_cast-n c = omega (arith, sized c.loop-event.invariant.2 c.requires c.in-Some.ensures.steps)

pub fill_records-next-requires : goal.fill_records-next-requires
fill_records-next-requires c = fillable c.loop-event.invariant.2 c.requires c.in-Some.ensures.steps

pub overflow_sub-row : goal.overflow_sub-row
overflow_sub-row c = omega (arith, rows (goal.at.overflow_sub-row c).After-fill_records-next)

pub overflow_sub-row-in-loop-event : goal.overflow_sub-row-in-loop-event
overflow_sub-row-in-loop-event c = omega (arith, rows (goal.at.overflow_sub-row-in-loop-event c).After-fill_records-next)

pub overflow_cast-row-in-loop-event-2 : goal.overflow_cast-row-in-loop-event-2
overflow_cast-row-in-loop-event-2 c =
    omega (
      arith,
      rows (goal.at.overflow_cast-row-in-loop-event-2 c).After-fill_records-next,
      sized c.loop-event.invariant.2 c.requires c.in-Some.ensures.steps,
    )

pub put_row-requires : goal.put_row-requires
put_row-requires c = (rows (goal.at.put_row-requires c).After-fill_records-next).2

pub loop-event-preserved : goal.loop-event-preserved
loop-event-preserved c = (
  search rules,
  tt,
  next-event c.loop-event.invariant.2 c.requires c.in-Some.ensures.steps _ _ c.fill_records-next.ensures _ c.put_row.ensures,
)

pub returns : goal.returns
returns c = done c.loop-event.invariant.2 c.requires c.in-None.ensures.steps.0
