-- `fields::decimal` meets its contract. From the highest digit down, the value so far is the number of the digits from k on.
-- A turn adds the next digit below, and eight digits fit a word.
use Prim.Native.Nat.{◌-◌, ◌/◌, ◌^◌}
use mathlib.Core.Path.{◌≡◌}
use Rattle.note.specs.Gps.{decimal}
use Rattle.fields.proofs.decimal.Given as goal

abbrev pub invariant-loop-k : goal.invariant-loop-k
invariant-loop-k l = l.value ≡ decimal (l.n - l.k) (l.w / 16 ^ l.k)
