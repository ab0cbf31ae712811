-- What writing a record again asks, and what it leaves: one pair of definitions for all eight kinds, so that Rewrite's loops needn't know the kind.
use Rattle.std.specs.Prelude.{ℕ, ◌+◌, ◌≤◌, ◌≡◌, List, length}
use Rattle.theory.specs.declared.Order.{Order}
use Rattle.theory.specs.Words.{Bytes}
use Rattle.note.specs.Limits.{file_limit}
use Rattle.note.specs.Kinds.{Kind}
use Rattle.note.specs.Writers.{wrapped}
use Rattle.demands.specs.Outputs.{Laid}

-- FORMAT 9.5: the body is bytes that follow their kind's rule; an output of n bytes, within the limit, has room for the record from the place on.
pub record Copyable (o : Order) (k : Kind) (b : List ℕ) (n place : ℕ) : Type 0 where
  pub bytes : Bytes b
  pub follows : k.rule o b ≡ 0
  pub room : place + (8 + length b) ≤ n
  pub limit : n ≤ file_limit

-- FORMAT 9.1: the record stands in the output from the place on; all else is as it was.
abbrev pub Copied : Order → Kind → List ℕ → List ℕ → ℕ → List ℕ → Type 0
Copied o k b old place new = Laid old new place (place + (8 + length b)) (wrapped o k b)
