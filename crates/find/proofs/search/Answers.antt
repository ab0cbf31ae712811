-- Each goal by a law of the search: what stands next was read, and fits.
use Rattle.std.proofs.Common.{refl, ap, sym, ◌∙◌, length, arith, rules}
use Rattle.theory.proofs.WordLaws.{Bytes-from}
use Rattle.find.proofs.TraceLaws.{looked, trace_long, hit, past}
use Rattle.find.proofs.SearchLaws.{begin, searched, first_long, event_ends, into, past_event, past_other}
use Rattle.find.proofs.search.Goals as goal
use Rattle.find.proofs.search.Goals.{else-record-eq-TRACE-via-then-record-eq-TRACE+else-word_at-code, else-record-eq-TRACE-via-else-record-eq-TRACE}

pub events-init : goal.events-init
events-init c =
    let (rest_is, at_is, order_is) = c.structures-event-items.ensures in
    let part_is = ap (λ r. r.now) rest_is in
    let bytes = Bytes-from c.args.part.now (λ i l. omega (arith, c.type_inv.part i)) in
    rw c.into_iter-event-iterator.ensures.into_iter_gives
    (omega (arith, ap length part_is, at_is, c.requires.within), tt, refl, begin _ _ _ _ _ c.requires bytes _ part_is at_is order_is)

pub word_at-requires : goal.word_at-requires
word_at-requires c = omega (arith, first_long c.events.invariant.3 c.in-Some.ensures.steps)

pub loop-record-init : goal.loop-record-init
loop-record-init c =
    let (rest_is, at_is, order_is) = c.structures-record-items.ensures in
    let part_is = ap (λ r. r.now) rest_is in
    let i = c.events.invariant in
    let g = c.in-Some.ensures.steps in
    let same = sym c.word_at.ensures ∙ c.if-word_at-number.true in
    rw c.into_iter-record-iterator.ensures.into_iter_gives
    (omega (arith, ap length part_is, at_is, event_ends i.3 g), tt, i.2, into i.3 g same _ part_is at_is order_is)

pub word_at-requires-then-record-eq-TRACE : goal.word_at-requires-then-record-eq-TRACE
word_at-requires-then-record-eq-TRACE c =
    omega (arith, trace_long c.loop-record.invariant.3 c.in-Some-record.ensures.steps c.if-record-eq-TRACE.true)

pub loop-record-preserved : goal.loop-record-preserved
loop-record-preserved c = (
  search rules,
  tt,
  c.loop-record.invariant.2,
  past c.loop-record.invariant.3 c.in-Some-record.ensures.steps
      (elim c.else-record-eq-TRACE.branch [
        | else-record-eq-TRACE-via-then-record-eq-TRACE+else-word_at-code w ↦
            λ k q. w.if-word_at-code.false (w.word_at-then-record-eq-TRACE.ensures ∙ q)
        | else-record-eq-TRACE-via-else-record-eq-TRACE w ↦ λ k q. w.if-record-eq-TRACE.false k
      ]),
)

pub events-preserved-in-None-record : goal.events-preserved-in-None-record
events-preserved-in-None-record c = (
  search rules,
  tt,
  c.loop-record.invariant.2,
  past_event c.events.invariant.3 c.in-Some.ensures.steps (looked c.loop-record.invariant.3 c.in-None-record.ensures.steps.0),
)

pub events-preserved : goal.events-preserved
events-preserved c = (
  search rules,
  tt,
  c.events.invariant.2,
  past_other c.events.invariant.3 c.in-Some.ensures.steps (λ q. c.if-word_at-number.false (c.word_at.ensures ∙ q)),
)

pub returns-in-None : goal.returns-in-None
returns-in-None c = rw c.events.invariant.2 (searched c.events.invariant.3 c.in-None.ensures.steps.0)

pub returns-then-word_at-code : goal.returns-then-word_at-code
returns-then-word_at-code c =
    hit c.loop-record.invariant.3 c.in-Some-record.ensures.steps c.if-record-eq-TRACE.true
    (sym c.word_at-then-record-eq-TRACE.ensures ∙ c.if-word_at-code.true)
