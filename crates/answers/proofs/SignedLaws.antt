-- A signed word is kept as it is by an answer, which holds its 32 bits, or 64.
-- The idea: either half of the words is read as a number that 32 bits hold, so no bound on the word is asked.
use Prim.Native.Nat.{ℕ, suc, ◌-◌, ◌≤◌, ◌^◌}
use mathlib.Core.Path.{◌≡◌, refl}
use mathlib.Core.Bool.{Bool, true, false}
use native.Mathlib.Omega.{arith}
use lib.Dec.{ltb}
use lib.IntN.{pos, negsuc}
use mir.Val.{SFits, hbits, sel}
use mir.Syntax.{Width, w32}
use mir.Facts.{to_z-of_z}
use borrow.Author.Tests.{ltb-true, ltb-false}
use Rattle.note.specs.Words.{signed, unsigned}

pub signed-fits : (w : Width) → 2147483648 ≤ 2 ^ hbits w → (n : ℕ) → SFits w (signed n)
signed-fits w wide n = go (ltb n 2147483648) refl
  where
    go : (low : Bool) → ltb n 2147483648 ≡ low → SFits w (sel low (pos n) (negsuc (4294967296 - suc n)))
    go true e = record { sfits = omega (arith, wide, ltb-true n 2147483648 e) }
    go false e = record { sfits = omega (arith, wide, ltb-false n 2147483648 e) }

pub kept : (w : ℕ) → signed (unsigned (signed w)) ≡ signed w
kept w = to_z-of_z (signed-fits w32 (omega arith) w)
