-- What stores one after the other ask of the part that they store into.
use Rattle.std.specs.Prelude.{ℕ, zero, suc, ◌<◌, List, length}

-- FORMAT 1.2, 7.1: the list has each of the indices below n: what n stores, one after the other, ask, of a word's bytes or a row's numbers.
abbrev pub HasEach : ℕ → List ℕ → Type 0
HasEach zero l = Unit {0}
HasEach (suc n) l = (n < length l) × HasEach n l
