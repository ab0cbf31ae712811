-- One form for the refusals of every call: 1 comes before all else, and the rest is what the call says. So the limit is spoken of once.
use Rattle.std.specs.Prelude.{ℕ, ◌≤◌, ◌<◌, ◌≡◌}
use Rattle.note.specs.Limits.{file_limit}

-- FORMAT 2.2: a refusal c at the place p by a call to which n bytes were lent: over the limit it is 1 at 0, whatever else may be wrong; within the
-- limit it is what `Other` says.
pub data Refusal (n : ℕ) (Other : ℕ → ℕ → Type 0) (c p : ℕ) : Type 0 where
  too_large : file_limit < n → c ≡ 1 → p ≡ 0 → Refusal n Other c p
  within-limit : n ≤ file_limit → Other c p → Refusal n Other c p
