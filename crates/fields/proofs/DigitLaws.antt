-- Digits to the base 16 as the code takes them: digit k by a shift of 4 k bits, BCD digits from digit k on.
-- The idea: the note peels the lowest digit off, so what is left at digit k is w / 16 ^ k with n - k digits.
use Prim.Native.Nat.{ℕ, zero, suc, ◌+◌, ◌-◌, ◌*◌, ◌/◌, ◌%◌, ◌^◌, ◌≤◌, ◌<◌}
use mathlib.Core.Path.{◌≡◌, refl, sym}
use mathlib.Core.Bool.{true, false}
use native.Mathlib.Omega.{arith}
use native.Mathlib.Numerals.{add-one}
use native.Mathlib.Nat.{pow-suc, pow-zero, div-one, div-div-eq-div-mul, div-eq_of_lt, lt_of_lt_of_le, pow-le-pow_right}
use lib.Bits.{bit_and, and_mask}
use lib.Pow.{pow-add}
use borrow.Author.Tests.{le-leb, lt-leb}
use Rattle.note.specs.Gps.{are_digits, decimal}

-- ---- one digit

-- k digits are 4 k bits.
four_bits : (k : ℕ) → 2 ^ (4 * k) ≡ 16 ^ k
four_bits zero = refl
four_bits (suc k) =
    let e : 4 * suc k ≡ 4 * k + 4 = omega arith in
    rw (e, pow-add 2 (4 * k) 4, four_bits k) (sym (pow-suc 16 k))

pub shifted_and_masked : (w k : ℕ) → bit_and (w / 2 ^ (4 * k)) 15 ≡ w / 16 ^ k % 16
shifted_and_masked w k = rw (and_mask (w / 2 ^ (4 * k)) 4, four_bits k)

-- A word has eight digits.
pub past_word : (w k : ℕ) → w < 2 ^ 32 → 7 < k → 0 ≡ w / 16 ^ k % 16
past_word w k h l =
    let p : 16 ^ 8 ≤ 16 ^ k = pow-le-pow_right (omega arith) l in
    let e : w / 16 ^ k ≡ 0 = div-eq_of_lt (lt_of_lt_of_le h p) in
    rw e

-- ---- the digits of a BCD number, from digit k on

-- From digit 0 on they are all there.
pub from_first : {A : Type 0} (f : ℕ → ℕ → A) (n w k : ℕ) → k ≡ 0 → f (n - k) (w / 16 ^ k) ≡ f n w
from_first f n w k e =
    let m : n - k ≡ n = omega arith in
    rw (m, e, pow-zero, div-one)

module _ (n w k : ℕ) where
  -- Past the last none is left.
  module _ (l : n ≤ k) where
    none : n - k ≡ 0
    none = omega arith

    pub no_digits_left : are_digits (n - k) (w / 16 ^ k) ≡ true
    unfolding are_digits
    no_digits_left = rw none

    pub no_value_left : decimal (n - k) (w / 16 ^ k) ≡ 0
    unfolding decimal
    no_value_left = rw none

  -- Before it there is digit k, and what is from the next on.
  module _ (l : k < n) where
    one_more : n - k ≡ suc (n - (k + 1))
    one_more = omega arith

    shorter : w / 16 ^ k / 16 ≡ w / 16 ^ (k + 1)
    shorter = rw (add-one, pow-suc) (div-div-eq-div-mul w (16 ^ k) 16)

    pub digit-passes : w / 16 ^ k % 16 ≤ 9 → are_digits (n - k) (w / 16 ^ k) ≡ are_digits (n - (k + 1)) (w / 16 ^ (k + 1))
    unfolding are_digits
    digit-passes h = rw (one_more, shorter, le-leb (w / 16 ^ k % 16) 9 h)

    pub digit_fails : 9 < w / 16 ^ k % 16 → are_digits (n - k) (w / 16 ^ k) ≡ false
    unfolding are_digits
    digit_fails h = rw (one_more, lt-leb (w / 16 ^ k % 16) 9 h)

    pub digit_added : (m v : ℕ) → m ≡ k + 1 → v ≡ decimal (n - m) (w / 16 ^ m) → v * 10 + w / 16 ^ k % 16 ≡ decimal (n - k) (w / 16 ^ k)
    unfolding decimal
    digit_added m v e f = rw (one_more, shorter, f, e)

-- The number of eight digits of any kind fits a word with room to spare.
most : (n w : ℕ) → decimal n w * 3 + 5 ≤ 5 * 10 ^ n
unfolding decimal
most zero w = omega arith
most (suc n) w = rw pow-suc (omega (arith, most n (w / 16)))

pub decimal-small : (n w : ℕ) → n ≤ 8 → decimal n w < 2 ^ 31
decimal-small n w h =
    let p : 10 ^ n ≤ 10 ^ 8 = pow-le-pow_right (omega arith) h in
    omega (arith, most n w)
