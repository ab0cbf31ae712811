-- `closings::above` meets its contract: nothing is shifted out, and the two numbers have no bit in common.
-- The idea: bits that don't meet add up.
use Prim.Native.Nat.{ℕ, ◌%◌, ◌≤◌}
use mathlib.Core.Path.{◌≡◌}
use native.Mathlib.Omega.{arith}
use lib.Bits.{or_shifted}
use Rattle.closings.proofs.above.Goals as goal

kept : (n : ℕ) → n ≤ 0xFFFFFFFF → n % 4294967296 ≡ n
kept n h = omega arith

pub returns : goal.returns
returns c = let (k, fits, low) = c.requires in rw (kept _ fits) (or_shifted c.args.high c.args.k c.args.low low)
