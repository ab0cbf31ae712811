-- `fields::hundredth` meets its contract. The constant of the code is the definition's 100 as a float.
-- The cast asks nothing, since every 32-bit number is a 64-bit float.
use lib.Ieee.{of_int}
use mir.Facts.{to_z-of_z}
use Rattle.note.specs.Calls.{hundredth}
use Rattle.note.proofs.UnitLaws.{hundred_bits}
use Rattle.fields.proofs.hundredth.Goals as goal

pub returns : goal.returns
unfolding hundredth of_int
returns c = rw (to_z-of_z c.ranges.z, hundred_bits)
