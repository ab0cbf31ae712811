-- A history's sections as code cuts them out of an accepted body: where they lie.
-- The idea: each section that follows its rule has its count and its width in the body; the second one ends with the body.
use mathlib.Core.Path.{◌≡◌}
use mathlib.Core.List.{List}
use Prim.Native.Nat.{ℕ, ◌+◌, ◌≤◌}
use native.Mathlib.Omega.{arith}
use lib.ListN.{length}
use Rattle.theory.specs.declared.Order.{Order}
use Rattle.theory.proofs.TestLaws.{first-at, equal_passed}
use Rattle.note.specs.History.{width_at, end_at, history_tests, history_rule}
use Rattle.rules.proofs.RoomLaws.{trigger-count}

-- A section ends behind its width.
pub wide : (o : Order) (p : ℕ) (b : List ℕ) → width_at o p b + 4 ≤ end_at o p b
unfolding width_at end_at
wide o p b = omega arith

module _ (o : Order) (b : List ℕ) (e : history_rule o b ≡ 0) where
  pub ends : length b ≡ end_at o (end_at o 0 b) b
  unfolding history_rule
  ends = equal_passed (length b) (end_at o (end_at o 0 b) b) 5 (first-at (history_tests o b) e 4)

  pub middle : end_at o 0 b ≤ length b
  middle = omega (arith, trigger-count o b e)
