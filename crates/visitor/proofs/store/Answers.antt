use Rattle.visitor.proofs.VisitLaws.{begin, passes, keeps, full, ends}
use Rattle.visitor.proofs.store.Goals as goal

pub loop-count-init : goal.loop-count-init
loop-count-init c = begin _ _ _ _ _

pub loop-count-preserved-then-passed-first : goal.loop-count-preserved-then-passed-first
loop-count-preserved-then-passed-first c = passes c.loop-count.invariant c.step-at.ensures c.in-Row.is c.if-passed-first.true

pub loop-count-preserved : goal.loop-count-preserved
loop-count-preserved c = keeps c.loop-count.invariant c.step-at.ensures c.in-Row.is c.if-passed-first.false c.loop-count-test.true _ c.put_row.ensures

pub returns-in_default : goal.returns-in_default
returns-in_default c = ends c.loop-count.invariant c.step-at.ensures c.in_default.not-Row

pub returns : goal.returns
returns c = full c.loop-count.invariant c.loop-count-test.false
