use native.Mathlib.Omega.{arith}
use Rattle.note.specs.Listing.{lines_text}
use Rattle.lines.specs.Texts.{numbered}
use Rattle.lines.proofs.TextLaws.{rows_turn, rows_done}
use Rattle.lines.proofs.put_rows.Goals as goal

pub loop-i-preserved : goal.loop-i-preserved
loop-i-preserved c =
    let turn = c.loop-i in
    let a = c.args in
    let r = c.put_row-next in (
      omega (arith, r.auto.out, turn.invariant.0),
      omega (arith, r.ensures.upper_bound, turn.invariant.1),
      rows_turn a.out.now a.at (lines_text (numbered 1 a.rows.now)) turn.out a.rows.now turn.next turn.i r.result r.new.out
          c.loop-i-test.true turn.invariant.2 r.ensures.put,
    )

pub returns-clause-put : goal.returns-clause-put
returns-clause-put c =
    let turn = c.loop-i in
    let a = c.args in
    rows_done a.out.now a.at (lines_text (numbered 1 a.rows.now)) turn.out a.rows.now turn.next turn.i c.loop-i-test.false
    turn.invariant.2
