-- A rule as questions one after the other: each is a statement, with the number that is given where it is the first that isn't so. The
-- definitions compute the same by tests (theory/specs/Tests); here it is said without them, and a law for each rule says that both are one.
use Rattle.std.specs.Prelude.{ℕ, ◌*◌, ◌≡◌, ◌⊎◌, ◌≢◌, List, [], ◌∷◌}
use Rattle.theory.specs.Tests.{Res, bad}

-- FORMAT 2.2: A is so, and the rest is asked; or it isn't, and the number given is n.
abbrev pub asks : Type 0 → ℕ → (ℕ → Type 0) → ℕ → Type 0
asks A n rest c = (A × rest c) ⊎ ((A → ⊥) × (c ≡ n))

-- FORMAT 2.2: nothing more is asked.
abbrev pub fine : ℕ → Type 0
fine c = c ≡ 0

-- FORMAT 2.2: k divides n.
abbrev pub Divides : ℕ → ℕ → Type 0
Divides k n = (q : ℕ) × (n ≡ k * q)

-- FORMAT 2.2, a second time: n is one of these numbers.
abbrev pub OneOf : List ℕ → ℕ → Type 0
OneOf [] n = ⊥
OneOf (x ∷ xs) n = (n ≡ x) ⊎ OneOf xs n

-- FORMAT 2.2: a reader's answer r at a place is what is asked: one number is given, and no other; 0 goes on with the rest, any other is the
-- refusal there.
pub record Answers {A : Type 0} (r : Res A) (place : ℕ) (asked : ℕ → Type 0) (rest : Res A) : Type 0 where
  pub number : ℕ
  pub given : asked number
  pub only : (n : ℕ) → asked n → n ≡ number
  pub passes : number ≡ 0 → r ≡ rest
  pub refuses : number ≢ 0 → r ≡ bad number place
