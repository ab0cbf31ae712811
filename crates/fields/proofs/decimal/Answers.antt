use Prim.Native.Nat.{ℕ, ◌-◌, ◌*◌, ◌+◌, ◌/◌, ◌%◌, ◌^◌, ◌<◌}
use mathlib.Core.Path.{◌≡◌, sym, ◌∙◌}
use native.Mathlib.Omega.{arith}
use Rattle.note.specs.Gps.{decimal}
use Rattle.fields.proofs.DigitLaws.{from_first, no_value_left, digit_added, decimal-small}
use Rattle.fields.proofs.decimal.Goals as goal
use Rattle.fields.proofs.decimal.Goals.{In-loop-k}

-- What stands from the digit on, and the value that the turn makes.
abbrev from : (c : In-loop-k) → ℕ
from c = c.args.w / 16 ^ (c.loop-k.k - 1)

abbrev made : (c : In-loop-k) → ℕ
made c = c.loop-k.value * 10 + from c % 16

added : (c : In-loop-k) → made c ≡ decimal (c.args.n - (c.loop-k.k - 1)) (from c)
added c = digit_added _ _ (c.loop-k.k - 1) (omega arith) c.loop-k.k c.loop-k.value (omega arith) c.loop-k.invariant

small : (c : In-loop-k) → made c < 2 ^ 31
small c = rw (added c) (decimal-small _ _ (omega arith))

pub loop-k-init : goal.loop-k-init
loop-k-init c = sym (no_value_left c.args.n c.args.w c.args.n (omega arith))

pub overflow_mul-value : goal.overflow_mul-value
overflow_mul-value c = omega (arith, small c)

pub overflow_add-value : goal.overflow_add-value
overflow_add-value c = omega (arith, small (goal.at.overflow_add-value c).In-loop-k)

pub loop-k-preserved : goal.loop-k-preserved
loop-k-preserved c = rw c.nibble.ensures (added (goal.at.loop-k-preserved c).In-loop-k)

pub returns : goal.returns
returns c = c.loop-k.invariant ∙ from_first decimal _ _ c.loop-k.k (omega arith)
