use mathlib.Core.Path.{refl, sym, ◌∙◌}
use native.Mathlib.Omega.{arith}
use Rattle.note.specs.Gps.{are_digits}
use Rattle.fields.proofs.DigitLaws.{from_first, no_digits_left, digit-passes, digit_fails}
use Rattle.fields.proofs.are_digits.Goals as goal

pub loop-k-init : goal.loop-k-init
loop-k-init c = sym (from_first are_digits c.args.n c.args.w 0 refl)

pub returns-then-nibble-gt9 : goal.returns-then-nibble-gt9
returns-then-nibble-gt9 c =
    let h = rw c.nibble.ensures at c.if-nibble-gt9.true in
    sym (c.loop-k.invariant ∙ digit_fails _ _ c.loop-k.k c.loop-k-test.true h)

pub loop-k-preserved : goal.loop-k-preserved
loop-k-preserved c =
    let h = rw c.nibble.ensures at c.if-nibble-gt9.false in
    c.loop-k.invariant ∙ digit-passes _ _ c.loop-k.k c.loop-k-test.true h

pub returns : goal.returns
returns c = sym (c.loop-k.invariant ∙ no_digits_left _ _ c.loop-k.k c.loop-k-test.false)
