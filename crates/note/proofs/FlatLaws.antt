-- Rows one after the other as numbers: how many these are, rows and then more rows, and one row out of them.
use mathlib.Core.Path.{◌≡◌, refl, ap, ◌∙◌}
use mathlib.Core.List.{List, [], ◌∷◌, ◌++◌, append_assoc}
use Prim.Native.Nat.{ℕ, zero, suc, ◌+◌, ◌*◌, ◌<◌}
use native.Mathlib.Nat.{le_of_suc-le-suc, not-suc-le-zero}
use native.Mathlib.Omega.{arith}
use lib.ListN.{length, take, drop}
use lib.Seq.{drop-append-add}
use Rattle.theory.specs.Layout.{Row, row}
use Rattle.note.specs.Limits.{row_width}
use Rattle.note.specs.Rows.{row_numbers, flat}

pub length-flat : (rs : List Row) → length (flat rs) ≡ row_width * length rs
unfolding flat
length-flat [] = refl
length-flat (r ∷ rs) = omega (arith, length-flat rs)

pub flat_append : (xs ys : List Row) → flat (xs ++ ys) ≡ flat xs ++ flat ys
unfolding flat
flat_append [] ys = refl
flat_append (x ∷ xs) ys = rw (flat_append xs ys, append_assoc)

-- The numbers of row k, from 0, whatever stands behind the rows.
pub flat-at : (rs : List Row) (rest : List ℕ) (k : ℕ) → k < length rs
    → take row_width (drop (row_width * k) (flat rs ++ rest)) ≡ row_numbers (row rs k)
unfolding flat
flat-at [] rest k h = absurd (not-suc-le-zero h)
flat-at (r ∷ rs) rest zero h = refl
flat-at (r ∷ rs) rest (suc k) h =
    let e : row_width * suc k ≡ length (row_numbers r) + row_width * k = omega arith in
    ap (λ (m : ℕ). take row_width (drop m ((row_numbers r ++ flat rs) ++ rest))) e
    ∙ ap (λ (x : List ℕ). take row_width (drop (length (row_numbers r) + row_width * k) x)) (append_assoc (row_numbers r) (flat rs) rest)
    ∙ ap (take row_width) (drop-append-add (row_numbers r) (flat rs ++ rest) (row_width * k))
    ∙ flat-at rs rest k (le_of_suc-le-suc h)
