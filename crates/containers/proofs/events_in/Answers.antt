use Prim.Native.Nat.{◌+◌, ◌≤◌}
use native.Mathlib.Omega.{arith}
use lib.ListN.{length}
use Rattle.std.proofs.Common.{rules}
use Rattle.theory.proofs.WordLaws.{Bytes-from}
use Rattle.containers.proofs.EventLoop.{begin, place, low, done, stops, fits, next}
use Rattle.containers.proofs.events_in.Goals as goal
use Rattle.containers.proofs.events_in.Goals.{In_ok-event}

-- An event stays in the rest, and has no more records than bytes.
fit : (c : In_ok-event) → (8 + c.in_ok-event.event.length ≤ length c.loop-rest.rest.now) × (c.in_ok-event.event.count ≤ c.in_ok-event.event.length)
fit c = fits c.loop-rest.invariant (search rules) _ c.in_ok-event.ensures

pub loop-rest-init : goal.loop-rest-init
loop-rest-init c =
    let a = c.args in
    begin _ a.from a.part.now (Bytes-from a.part.now (λ i l. omega (arith, c.type_inv.part i)))

pub returns-in_err-event : goal.returns-in_err-event
returns-in_err-event c = let e = stops c.loop-rest.invariant (search rules) _ _ c.in_err-event.ensures in search (rules, e)

pub overflow_add-size : goal.overflow_add-size
overflow_add-size c = omega (arith, fit (goal.at.overflow_add-size c).In_ok-event, place c.loop-rest.invariant)

pub slice_bounds-rest-count : goal.slice_bounds-rest-count
slice_bounds-rest-count c = (fit (goal.at.slice_bounds-rest-count c).In_ok-event).0

pub slice_bounds-rest-start : goal.slice_bounds-rest-start
slice_bounds-rest-start c = (fit (goal.at.slice_bounds-rest-start c).In_ok-event).0

pub overflow_add-at : goal.overflow_add-at
overflow_add-at c = omega (arith, fit (goal.at.overflow_add-at c).In_ok-event, place c.loop-rest.invariant)

pub overflow_add-count : goal.overflow_add-count
overflow_add-count c = omega (arith, fit (goal.at.overflow_add-count c).In_ok-event, place c.loop-rest.invariant)

pub overflow_add-count-in-loop-rest : goal.overflow_add-count-in-loop-rest
overflow_add-count-in-loop-rest c =
    let i = c.loop-rest.invariant in omega (arith, fit (goal.at.overflow_add-count-in-loop-rest c).In_ok-event, low i, place i)

pub loop-rest-smaller : goal.loop-rest-smaller
loop-rest-smaller c = omega (arith, fit (goal.at.loop-rest-smaller c).In_ok-event)

pub loop-rest-preserved : goal.loop-rest-preserved
loop-rest-preserved c = next c.loop-rest.invariant (search rules) _ c.in_ok-event.ensures

pub returns : goal.returns
returns c = done c.loop-rest.invariant (search rules)
