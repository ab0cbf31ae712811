-- `closings::event_word` meets its contract: each part is masked to the bits that it has, and stands below those before it.
-- The idea: a mask of low bits is a remainder.
use native.Mathlib.Omega.{arith}
use lib.Bits.{and_mask}
use Rattle.closings.proofs.event_word.Goals as goal

pub above-requires : goal.above-requires
above-requires c = (omega arith, omega arith, omega (arith, and_mask c.args.class 4))

pub above-front-requires : goal.above-front-requires
above-front-requires c = (omega arith, omega (arith, and_mask c.args.class 4), omega (arith, and_mask c.args.category 4))

pub above-requires-2 : goal.above-requires-2
above-requires-2 c =
    (omega arith, omega (arith, and_mask c.args.class 4, and_mask c.args.category 4), omega (arith, and_mask c.args.event_type 8))

pub returns : goal.returns
returns c = omega (arith, and_mask c.args.class 4, and_mask c.args.category 4, and_mask c.args.event_type 8)
