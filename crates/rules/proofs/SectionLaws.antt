-- A history section that follows its rule: its counts are in the body, and what they span fits a machine number.
-- The idea: the rule's own tests bound the count of times by the body's length and the width by the greatest signed number.
use mathlib.Core.Path.{◌≡◌}
use mathlib.Core.Bool.{Bool}
use mathlib.Core.List.{List}
use Prim.Native.Nat.{ℕ, ◌+◌, ◌*◌, ◌≤◌, ◌<◌}
use native.Mathlib.Nat.{mul-le-mul}
use native.Mathlib.Omega.{arith}
use lib.ListN.{length}
use Rattle.theory.specs.declared.Order.{Order}
use Rattle.theory.proofs.TestLaws.{first-at, most_passed}
use Rattle.note.specs.Words.{word}
use Rattle.note.specs.History.{width_at, width_of, end_at, section_tests, section_rule}

-- Where a section's width stands, its width and its end, open.
unfoldable pub places : ℕ
unfolding width_at width_of end_at
places = 0

pub product : (n w : ℕ) → n ≤ 0x40000000 → w ≤ 0x7FFFFFFF → n * w ≤ 0x40000000 * 0x7FFFFFFF
product n w h k = mul-le-mul h k

module _ (o : Order) (t : Bool) (p : ℕ) (b : List ℕ) (e : section_rule o t p b ≡ 0) where
  pub room : width_at o p b + 4 ≤ length b
  unfolding section_rule
  room = most_passed (width_at o p b + 4) (length b) 5 (first-at (section_tests o t p b) e 2)

  pub thin : width_of o p b ≤ 0x7FFFFFFF
  unfolding section_rule
  thin = most_passed (width_of o p b) 0x7FFFFFFF 9 (first-at (section_tests o t p b) e 3)

  pub small : length b < 0x100000000 → end_at o p b ≤ 0x7FFFFFFFFFFFFFFF
  unfolding end_at width_at
  small l =
      let r : p + 4 + 4 * word o p b + 4 ≤ length b = room in
      let q : word o p b * width_of o p b ≤ 0x40000000 * 0x7FFFFFFF = product (word o p b) (width_of o p b) (omega arith) thin in
      omega (arith, q, r)

-- The three, for the search.
pub ruleset followed = (room, thin, small)
