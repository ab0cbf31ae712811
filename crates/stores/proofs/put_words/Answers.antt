use Rattle.std.proofs.Common.{refl, ◌∙◌}
use native.Mathlib.Omega.{arith}
use lib.Seq.{take_all}
use Rattle.theory.specs.Words.{puts}
use Rattle.stores.proofs.StoreLaws.{word_more}
use Rattle.stores.proofs.put_words.Goals as goal

pub loop-i-init : goal.loop-i-init
unfolding puts
loop-i-init c = refl

pub loop-i-preserved : goal.loop-i-preserved
loop-i-preserved c =
    word_more _ _ _ _ _ c.loop-i-test.true (omega (arith, c.requires)) c.loop-i.invariant (c.copy_from_slice.ensures.after ∙ c.word_bytes.ensures)

pub returns : goal.returns
returns c = rw (← take_all c.loop-i.i c.args.ws.now c.loop-i-test.false) c.loop-i.invariant
