-- A history that follows its rule: both of its sections follow theirs, and the second's count lies in the body.
-- The idea: each is one of the history's own tests.
use mathlib.Core.Path.{◌≡◌}
use mathlib.Core.Bool.{true, false}
use mathlib.Core.List.{List}
use Prim.Native.Nat.{ℕ, ◌+◌, ◌≤◌}
use lib.ListN.{length}
use Rattle.theory.specs.declared.Order.{Order}
use Rattle.theory.proofs.TestLaws.{first-at, most_passed}
use Rattle.note.specs.History.{end_at, section_tests, section_rule, history_tests, history_rule}

module _ (o : Order) (b : List ℕ) where
  pub veto-follows : history_rule o b ≡ 0 → section_rule o false 0 b ≡ 0
  unfolding history_rule
  veto-follows e = first-at (history_tests o b) e 2

  pub trigger-follows : history_rule o b ≡ 0 → section_rule o true (end_at o 0 b) b ≡ 0
  unfolding history_rule
  trigger-follows e = first-at (history_tests o b) e 3

  -- Its trigger section's count lies in the body.
  pub trigger-count : history_rule o b ≡ 0 → end_at o 0 b + 4 ≤ length b
  unfolding section_rule
  trigger-count e = most_passed (end_at o 0 b + 4) (length b) 5 (first-at (section_tests o true (end_at o 0 b) b) (trigger-follows e) 0)
