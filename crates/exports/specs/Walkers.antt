-- A walker for C: its numbers in a lent buffer, any of which are taken, and its yield in lent numbers. C has no private fields, so a step is
-- defined for every six numbers, and what opening made is the case that the promises speak of.
use Rattle.std.specs.Prelude.{ℕ, zero, suc, ◌%◌, List, [], ◌∷◌, get_or}
use Rattle.note.specs.declared.WalkerYield.{WalkerYield}
use Rattle.note.specs.declared.WalkerYield.TheVariants.{Row, End, Refused}
use Rattle.walk.specs.declared.Spot.{Spot}
use Rattle.walk.specs.Steps.{step_of, opened_of}

-- The numbers of a spot, and the spot of numbers: those that are 32 bits wide count modulo 2^32.
unfoldable pub numbers_of : Spot → List ℕ
numbers_of at = at.number ∷ at.fault ∷ at.place ∷ at.end ∷ at.parent ∷ at.rows ∷ []

abbrev pub narrow : ℕ → ℕ
narrow n = n % 4294967296

unfoldable pub spot_of : List ℕ → Spot
spot_of ns = record {
  number = narrow (get_or ns 0 0);
  fault = get_or ns 1 0;
  place = get_or ns 2 0;
  end = get_or ns 3 0;
  parent = narrow (get_or ns 4 0);
  rows = narrow (get_or ns 5 0);
  last = End;
}

-- FORMAT 8.3: the lent row after the call: the row's six numbers, zeros at the end, and on a refusal what stood there.
unfoldable pub row_after : List ℕ → WalkerYield → List ℕ
row_after old (Row kind start whole parent one two) = kind ∷ start ∷ whole ∷ parent ∷ one ∷ two ∷ []
row_after old End = 0 ∷ 0 ∷ 0 ∷ 0 ∷ 0 ∷ 0 ∷ []
row_after old (Refused number place) = old

-- The numbers after opening a file and k steps.
unfoldable pub walker_after : List ℕ → ℕ → List ℕ
walker_after bs zero = numbers_of (opened_of bs)
walker_after bs (suc k) = numbers_of (step_of bs (spot_of (walker_after bs k)))
