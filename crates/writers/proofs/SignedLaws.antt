-- The words of signed fields, one for each.
use Prim.Native.Nat.{ℕ, suc, ◌<◌}
use mathlib.Core.Path.{◌≡◌, refl}
use mathlib.Core.List.{List, [], ◌∷◌, map}
use native.Mathlib.Omega.{arith}
use lib.IntN.{ℤ, pos}
use lib.ListN.{length}
use Rattle.std.proofs.Common.{slice_index_or}

-- A list is another's image where it has its length and each element is its element's.
pub image : (f : ℤ → ℕ) (xs : List ℤ) (ys : List ℕ) → length ys ≡ length xs
    → ((i : ℕ) → i < length xs → slice_index_or ys i 0 ≡ f (slice_index_or xs i (pos 0))) → ys ≡ map f xs
image f [] [] e h = refl
image f [] (y ∷ ys) e h = absurd (omega arith)
image f (x ∷ xs) [] e h = absurd (omega arith)
image f (x ∷ xs) (y ∷ ys) e h =
    let first : y ≡ f x = h 0 (omega arith) in
    let others : ys ≡ map f xs = image f xs ys (omega arith) (λ i l. h (suc i) (omega arith)) in
    cc
