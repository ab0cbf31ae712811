use Prim.Native.Nat.{◌+◌, ◌≤◌}
use native.Mathlib.Omega.{arith}
use lib.ListN.{length}
use Rattle.std.proofs.Common.{rules}
use Rattle.record.specs.Steps.{context_of}
use Rattle.containers.proofs.RecordLoop as loop
use Rattle.containers.proofs.RecordLoop.{Counting}
use Rattle.containers.proofs.RunLaws.{refused, fits, more, shorter, next}
use Rattle.containers.proofs.records_in.Goals as goal
use Rattle.containers.proofs.records_in.Goals.{At-loop-head, In_ok-head}

-- What was counted so far, in a run.
counted : (c : At-loop-head) → Counting c.args.order (context_of c.args.context) c.args.from c.args.part.now
    (context_of c.loop-head.state) c.loop-head.at c.loop-head.rest.now c.loop-head.count
counted c = c.loop-head.invariant.counts _ c.loop-rest.invariant

-- The known step over it stays in the rest.
fit : (c : In_ok-head) → 8 + c.length_at-known.result ≤ length c.loop-head.rest.now
fit c = fits c.loop-head.invariant _ _ c.in_ok-head.ensures

pub loop-rest-init : goal.loop-rest-init
loop-rest-init c = let a = c.args in loop.begin a.order (context_of a.context) a.from a.part.now

pub returns-in_err-head : goal.returns-in_err-head
returns-in_err-head c =
    let e = refused c.loop-head.invariant _ c.loop-rest.invariant _ _ c.in_err-head.ensures in search (rules, e)

pub overflow_add-size : goal.overflow_add-size
overflow_add-size c = omega (arith, fit c, loop.place (counted (goal.at.overflow_add-size c).At-loop-head))

pub slice_bounds-rest-count : goal.slice_bounds-rest-count
slice_bounds-rest-count c = fit (goal.at.slice_bounds-rest-count c).In_ok-head

pub slice_bounds-rest-start : goal.slice_bounds-rest-start
slice_bounds-rest-start c = fit (goal.at.slice_bounds-rest-start c).In_ok-head

pub overflow_add-at : goal.overflow_add-at
overflow_add-at c = omega (arith, fit (goal.at.overflow_add-at c).In_ok-head, loop.place (counted (goal.at.overflow_add-at c).At-loop-head))

pub overflow_add-count : goal.overflow_add-count
overflow_add-count c = let i = counted (goal.at.overflow_add-count c).At-loop-head in omega (arith, loop.low i, loop.place i)

pub loop-head-smaller : goal.loop-head-smaller
loop-head-smaller c = omega (arith, fit (goal.at.loop-head-smaller c).In_ok-head)

pub loop-head-preserved : goal.loop-head-preserved
loop-head-preserved c =
    next c.loop-head.invariant _ _ c.in_ok-head.ensures _ c.next_context-state.ensures
    (c.is_alike.ensures (search rules))

pub loop-rest-smaller : goal.loop-rest-smaller
loop-rest-smaller c = shorter c.loop-head.invariant _ _ c.in_ok-head.ensures

pub loop-rest-preserved : goal.loop-rest-preserved
loop-rest-preserved c =
    more c.loop-head.invariant _ _ c.in_ok-head.ensures _ c.loop-rest.invariant _ c.next_context-state.ensures

pub returns : goal.returns
returns c = loop.done c.loop-rest.invariant (search rules)
