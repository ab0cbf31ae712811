-- Rows in the buffer: rows after rows, and the buffer from its first row on.
-- The idea: rows stored one after the other are one run of numbers, whatever was stored before them.
use Prim.Native.Nat.{ℕ, suc, ◌+◌, ◌*◌, ◌≤◌, ◌<◌}
use native.Mathlib.Omega.{arith}
use mathlib.Core.Path.{◌≡◌, refl, sym, ap, ◌∙◌}
use mathlib.Core.List.{List, [], ◌∷◌, ◌++◌}
use lib.ListN.{length, set, drop}
use lib.Seq.{sets, sets-eq, length-sets, set_comm}
use Rattle.theory.specs.Layout.{Row}
use Rattle.theory.proofs.StoreLaws.{sets-append}
use Rattle.note.specs.Limits.{row_width}
use Rattle.note.specs.Rows.{flat}
use Rattle.note.proofs.FlatLaws.{length-flat, flat_append}
use Rattle.rows.specs.Buffers.{stored}

-- Rows, and then more rows.
pub stored-append : (old : List ℕ) (n : ℕ) (xs ys : List Row) → stored old n (xs ++ ys) ≡ stored (stored old n xs) (n + length xs) ys
unfolding stored
stored-append old n xs ys =
    let e : n * row_width + length (flat xs) ≡ (n + length xs) * row_width = omega (arith, length-flat xs) in
    ap (sets old (n * row_width)) (flat_append xs ys)
    ∙ sym (sets-append old (n * row_width) (flat xs) (flat ys))
    ∙ ap (λ (k : ℕ). sets (sets old (n * row_width) (flat xs)) k (flat ys)) e

pub stored-nil : (old : List ℕ) (n : ℕ) → stored old n [] ≡ old
unfolding stored flat
stored-nil old n = refl

pub length-stored : (old : List ℕ) (n : ℕ) (xs : List Row) → length (stored old n xs) ≡ length old
unfolding stored
length-stored old n xs = length-sets old (n * row_width) (flat xs)

-- Numbers stored past a place, and one below it, in either order.
set-sets : (l : List ℕ) (i v j : ℕ) (vs : List ℕ) → i < j → sets (set l i v) j vs ≡ set (sets l j vs) i v
set-sets l i v j [] h = refl
set-sets l i v j (x ∷ vs) h =
    ap (λ (m : List ℕ). sets m (suc j) vs) (set_comm l i j v x (λ e. omega arith)) ∙ set-sets (set l j x) i v (suc j) vs (omega arith)

sets_swap : (l : List ℕ) (i : ℕ) (us : List ℕ) (j : ℕ) (vs : List ℕ) → i + length us ≤ j
    → sets (sets l i us) j vs ≡ sets (sets l j vs) i us
sets_swap l i [] j vs h = refl
sets_swap l i (u ∷ us) j vs h =
    sets_swap (set l i u) (suc i) us j vs (omega arith) ∙ ap (λ (m : List ℕ). sets m (suc i) us) (set-sets l i u j vs (omega arith))

-- A row stored after the rows behind it: the rows in order.
pub stored-before : (old : List ℕ) (n : ℕ) (x : Row) (xs : List Row) → stored (stored old (n + 1) xs) n (x ∷ []) ≡ stored old n (x ∷ xs)
unfolding stored
stored-before old n x xs =
    let e : n * row_width + length (flat (x ∷ [])) ≡ (n + 1) * row_width = omega (arith, length-flat (x ∷ [])) in
    sym (sets_swap old (n * row_width) (flat (x ∷ [])) ((n + 1) * row_width) (flat xs) (omega arith))
    ∙ ap (λ (k : ℕ). sets (sets old (n * row_width) (flat (x ∷ []))) k (flat xs)) (sym e)
    ∙ sets-append old (n * row_width) (flat (x ∷ [])) (flat xs)
    ∙ ap (sets old (n * row_width)) (sym (flat_append (x ∷ []) xs))

-- From the first row on: the rows, and then the old buffer's rest.
pub stored-first : (old : List ℕ) (xs : List Row) → length xs * row_width ≤ length old
    → stored old 0 xs ≡ flat xs ++ drop (row_width * length xs) old
unfolding stored
stored-first old xs h =
    let e : 0 + length (flat xs) ≡ row_width * length xs = omega (arith, length-flat xs) in
    sets-eq (flat xs) old 0 (omega (arith, length-flat xs)) ∙ ap (λ (k : ℕ). flat xs ++ drop k old) e
