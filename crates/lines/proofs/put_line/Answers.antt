use mathlib.Core.Path.{refl}
use native.Mathlib.Omega.{arith}
use Rattle.note.specs.Listing.{line_text}
use Rattle.lines.proofs.TextLaws.{word_digits, line_turn, line_done}
use Rattle.lines.proofs.put_line.Goals as goal

pub loop-i-preserved : goal.loop-i-preserved
loop-i-preserved c =
    let turn = c.loop-i in
    let a = c.args in
    let r = c.put_number-next in (
      omega (arith, r.auto.out, turn.invariant.0),
      grind (arith, word_digits),
      line_turn a.out.now a.at (line_text a.numbers.now) turn.out a.numbers.now turn.next turn.i _ _ _ r.result r.new.out c.loop-i-test.true
          refl c.separator-behind.ensures c.from.ensures turn.invariant.2 r.ensures.put,
    )

pub returns-clause-put : goal.returns-clause-put
returns-clause-put c =
    let turn = c.loop-i in
    let a = c.args in
    line_done a.out.now a.at (line_text a.numbers.now) turn.out a.numbers.now turn.next turn.i c.loop-i-test.false turn.invariant.2
