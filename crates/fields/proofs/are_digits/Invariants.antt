-- `fields::are_digits` meets its contract. The digits from k on decide, since those before k have passed.
-- A turn takes digit k off; after the last none is left to fail.
use Prim.Native.Nat.{◌-◌, ◌/◌, ◌^◌}
use mathlib.Core.Path.{◌≡◌}
use Rattle.note.specs.Gps.{are_digits}
use Rattle.fields.proofs.are_digits.Given as goal

abbrev pub invariant-loop-k : goal.invariant-loop-k
invariant-loop-k l = are_digits l.n l.w ≡ are_digits (l.n - l.k) (l.w / 16 ^ l.k)
