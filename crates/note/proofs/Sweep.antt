-- A test that antt computes at each number of a range, and what it tells of one of them: the whole range is one `refl`.
use Prim.Native.Nat.{ℕ, zero, suc, ◌+◌, ◌<◌, ◌≤◌}
use mathlib.Core.Path.{◌≡◌, sym, subst}
use mathlib.Core.Bool.{Bool, true, false, not, ◌&&◌, and-eq-true_iff}
use mathlib.Core.Logic.{⊎_elim}
use native.Mathlib.Omega.{arith}
use native.Mathlib.Nat.{eq-or-lt_of_le}
use borrow.Author.Tests.{not-true}

-- f holds at the n numbers from a on.
abbrev pub all : (ℕ → Bool) → ℕ → ℕ → Bool
all f a zero = true
all f a (suc n) = f a && all f (suc a) n

pub all-at : (f : ℕ → Bool) (a n : ℕ) → all f a n ≡ true → (l : ℕ) → a ≤ l → l < a + n → f l ≡ true
all-at f a zero t l h k = absurd (omega arith)
all-at f a (suc n) t l h k =
    let s = (and-eq-true_iff (f a) (all f (suc a) n)).0 t in
    ⊎_elim (λ e. subst (λ (m : ℕ). f m ≡ true) e s.0) (λ u. all-at f (suc a) n s.1 l u (omega arith)) (eq-or-lt_of_le h)

-- f holds at every pair of numbers below n.
abbrev pub all_pairs : (ℕ → ℕ → Bool) → ℕ → Bool
all_pairs f n = all (λ (k : ℕ). all (f k) 0 n) 0 n

pub all_pairs_at : (f : ℕ → ℕ → Bool) (n : ℕ) → all_pairs f n ≡ true → (k c : ℕ) → k < n → c < n → f k c ≡ true
all_pairs_at f n t k c h l =
    let row : all (f k) 0 n ≡ true = all-at (λ (k : ℕ). all (f k) 0 n) 0 n t k (omega arith) (omega arith) in
    all-at (f k) 0 n row c (omega arith) (omega arith)

-- The same as an answer's contract asks it: the test is true, or false, all over the range.
pub yes : (f : ℕ → Bool) (a n : ℕ) → all f a n ≡ true → (l : ℕ) → a ≤ l → l < a + n → true ≡ f l
yes f a n t l h k = sym (all-at f a n t l h k)

pub no : (f : ℕ → Bool) (a n : ℕ) → all (λ (m : ℕ). not (f m)) a n ≡ true → (l : ℕ) → a ≤ l → l < a + n → false ≡ f l
no f a n t l h k = sym (not-true (f l) (all-at (λ (m : ℕ). not (f m)) a n t l h k))
