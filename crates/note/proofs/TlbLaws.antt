-- The TLB words said a second time: as a sum of a top byte and a mask of 24 bits, and a ZIP as one binary digit of the mask.
-- The idea: division by a power of two and its remainder are the only split of that shape.
use Prim.Native.Nat.{ℕ, ◌+◌, ◌-◌, ◌*◌, ◌/◌, ◌%◌, ◌^◌, ◌≤◌, ◌<◌}
use mathlib.Core.Path.{◌≡◌, sym}
use mathlib.Core.Logic.{◌↔◌, ◌⊎◌, inl, inr, ⊎_elim}
use mathlib.Core.Bool.{true}
use native.Mathlib.Omega.{arith}
use native.Mathlib.Nat.{one-le-pow, mod-lt, div-add-mod'}
use lib.Arith.{digits_div}
use Rattle.note.specs.Tlb.{is_tower, zip_set}
use Rattle.note.specs.Rules.{BitSet}
use Rattle.note.proofs.BoolLaws.{Tells, both_tell, either_tells, le_tells, eq_tells}

-- Word i is zero, or i above a mask of 24 bits.
pub tower-word : (i w : ℕ) → (is_tower i w ≡ true) ↔ ((w ≡ 0) ⊎ ((m : ℕ) × (m < 2 ^ 24) × (w ≡ i * 2 ^ 24 + m)))
unfolding is_tower
tower-word i w =
    let t : Tells (is_tower i w) ((w ≡ 0) ⊎ (w / 16777216 ≡ i)) = either_tells (eq_tells w 0) (eq_tells (w / 16777216) i) in (
      λ e. ⊎_elim inl (λ h. inr (w % 16777216, omega arith, omega arith)) (t.0 e),
      λ s. t.1 (⊎_elim inl (λ h. let (m, l, e) = h in inr (omega arith)) s),
    )

-- ZIP z, from 1 to 24, is set exactly where the digit of the weight 2 ^ (z - 1) is.
pub zip_is_bit : (w z : ℕ) → (zip_set w z ≡ true) ↔ ((1 ≤ z) × (z ≤ 24) × BitSet (2 ^ (z - 1)) w)
unfolding zip_set
zip_is_bit w z =
    let p : ℕ = 2 ^ (z - 1) in
    let positive : 1 ≤ p = one-le-pow (z - 1) 2 (omega arith) in
    let t : Tells (zip_set w z) (((1 ≤ z) × (z ≤ 24)) × (w / p % 2 ≡ 1)) =
    both_tell (both_tell (le_tells 1 z) (le_tells z 24)) (eq_tells (w / p % 2) 1) in (
      λ e. let h = t.0 e in
          let odd : 2 * (w / p / 2) + 1 ≡ w / p = omega arith in
          (h.0.0, h.0.1, (w / p / 2, w % p, rw odd (sym (div-add-mod' w p)), mod-lt w positive)),
      λ h.
          let (q, r, e, l) = h.2 in
          let d : w / p ≡ 2 * q + 1 = rw e (digits_div (2 * q + 1) l) in
          t.1 ((h.0, h.1), omega arith),
    )
