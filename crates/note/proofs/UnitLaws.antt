-- Working units: a x100 word as a float is its hundredth rounded once, exact at multiples of 25, and zero is plus zero.
-- The idea: the cast of a 32-bit number is exact, so the division is the only rounding; 100 is 25 times a power of two.
use Prim.Native.Nat.{ℕ, suc, ◌*◌, ◌^◌, ◌<◌, ◌≤◌}
use mathlib.Core.Path.{◌≡◌, refl, ap, ◌∙◌}
use mathlib.Core.Bool.{Bool, true, false}
use native.Mathlib.Omega.{arith}
use native.Mathlib.Nat as Nat
use lib.IntN.{ℤ, pos, negsuc, nat_abs}
use lib.Signed.{mag, nat_abs-le}
use lib.Pow.{shl_lt, pow_mono}
use lib.Dec.{lit≤}
use lib.Ieee as Ieee
use lib.Ieee.{Float, nan, inf, fin, binary64, div, of_int, of_bits, round, up, down}
use lib.Ieee.Exact.{HasValue, round_exact}
use lib.Ieee.Scale.{round_same}
use lib.Ieee.Back.{round_whole}
use lib.Ieee.Fits.{down_pos}
use mir.Syntax.{w32}
use mir.Facts.{sfits_to_z}
use Rattle.theory.specs.Words.{Fits}
use Rattle.note.specs.Words.{signed}
use Rattle.note.specs.Sizes.{is_negative}
use Rattle.note.specs.Calls.{hundredth}

pub hundred_bits : of_bits binary64 4636737291354636288 ≡ fin false 25 (pos 2)
unfolding of_bits
hundred_bits = refl

hundred_int : of_int binary64 (pos 100) ≡ fin false 25 (pos 2)
unfolding of_int
hundred_int = refl

-- zero is plus zero
pub zero_is_plus_zero : hundredth (signed 0) ≡ fin false 0 (pos 0)
unfolding hundredth div of_int
zero_is_plus_zero = refl

like : (t : Bool) → Ieee.unlike t false ≡ t
like true = refl
like false = refl

-- a whole number n with the sign s, divided by 100
div-whole : (x : Float) (s : Bool) (n : ℕ) → HasValue x s n 1 → div binary64 x (fin false 25 (pos 2)) ≡ round binary64 s n 100
unfolding div
div-whole nan s n v = absurd v
div-whole (inf t) s n v = absurd v
div-whole (fin t m e) s n v =
    let d = down e in
    let u = m * up e * 1 in
    let h : u * 100 ≡ n * (100 * d) =
    ap (λ (k : ℕ). k * 100) v.1 ∙ Nat.mul_assoc n d 100 ∙ ap (λ (k : ℕ). n * k) (Nat.mul_comm d 100) in
    ap (λ (b : Bool). round binary64 b u (100 * d)) (like t ∙ v.0)
    ∙ round_same binary64 s u (100 * d) n 100 (Nat.mul-pos (omega arith) (down_pos e)) (omega arith) h

-- the quotient is rounded once: the cast before it is exact
rounded : (z : ℤ) → mag z < 2 ^ 31 → hundredth z ≡ round binary64 (is_negative z) (nat_abs z) 100
unfolding hundredth of_int
rounded (pos n) h = rw hundred_int (div-whole _ false n (round_whole binary64 false n (omega arith)))
rounded (negsuc n) h = rw hundred_int (div-whole _ true (suc n) (round_whole binary64 true (suc n) (omega arith)))

-- a multiple of 25 comes out exact
scale : (k p : ℕ) → 25 * k * (4 * p) ≡ k * p * 100
scale k p = Nat.mul-mul-mul_comm 25 k 4 p ∙ Nat.mul_comm 100 (k * p)

quarter : (s : Bool) (k : ℕ) → k < 2 ^ 53 → HasValue (round binary64 s (25 * k) 100) s (25 * k) 100
quarter s k h =
    round_exact binary64 s (25 * k) 100 k 1072 (omega arith) h
    (Nat.lt_of_lt_of_le (shl_lt 53 1072 h) (pow_mono {i = 1125} {j = 2098} (lit≤ tt)))
    (scale k (2 ^ 1072))

-- ---- of every word that a file can hold

-- A word read as signed is a 32-bit number.
bounded : (w : ℕ) → Fits 4 w → mag (signed w) < 2 ^ 31
bounded w h = (sfits_to_z {w = w32} (record { fits = h })).sfits

pub rounded_once : (w : ℕ) → Fits 4 w → hundredth (signed w) ≡ round binary64 (is_negative (signed w)) (nat_abs (signed w)) 100
rounded_once w h = rounded (signed w) (bounded w h)

pub quarters_exact : (w k : ℕ) → Fits 4 w → nat_abs (signed w) ≡ 25 * k
    → HasValue (hundredth (signed w)) (is_negative (signed w)) (nat_abs (signed w)) 100
quarters_exact w k h e =
    let z : ℤ = signed w in
    let l : nat_abs z ≤ 2 ^ 31 = nat_abs-le z (bounded w h) in
    rw (rounded_once w h, e) (quarter (is_negative z) k (omega arith))
