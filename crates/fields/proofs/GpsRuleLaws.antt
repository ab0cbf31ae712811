-- The note's GPS rule in three parts: the length, the digits of its three words, its fields.
-- The idea: the first fault of a list is the first fault of its parts' first faults.
use Prim.Native.Nat.{ℕ, zero, suc}
use mathlib.Core.Path.{◌≡◌, refl, sym}
use mathlib.Core.List.{List, [], ◌∷◌, ◌++◌}
use lib.Dec.{eqb}
use lib.ListN.{length}
use Rattle.theory.specs.declared.Order.{Order}
use Rattle.theory.specs.Tests.{unless, first}
use Rattle.theory.proofs.TestLaws.{first_of_part}
use Rattle.note.specs.Words.{word}
use Rattle.note.specs.Gps.{gps_of, gps_fault, gps_rule}
use Rattle.fields.specs.Digits.{gps_digits_fault}

pub first_of_parts : (b : ℕ) (cs ds : List ℕ) → first (b ∷ first cs ∷ ds) ≡ first (b ∷ (cs ++ ds))
unfolding first
first_of_parts zero cs ds = first_of_part cs ds
first_of_parts (suc b) cs ds = refl

pub gps_rule_in_parts : (o : Order) (b : List ℕ)
    → gps_rule o b ≡ first (unless (eqb (length b) 12) 6 ∷ gps_digits_fault (word o 0 b) (word o 4 b) (word o 8 b) ∷ gps_fault (gps_of o b) ∷ [])
unfolding gps_rule gps_digits_fault
gps_rule_in_parts o b = sym (first_of_parts _ _ _)
