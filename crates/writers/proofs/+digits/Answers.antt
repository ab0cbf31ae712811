-- The idea: one digit more is one step of `bcd` more, and n digits fit in n times four bits.
use Prim.Native.Nat.{ℕ, zero, suc, ◌+◌, ◌-◌, ◌*◌, ◌/◌, ◌%◌, ◌^◌, ◌≤◌, ◌<◌}
use mathlib.Core.Path.{◌≡◌, refl, sym, subst}
use native.Mathlib.Nat.{pow-le-pow_right}
use native.Mathlib.Omega.{arith}
use Rattle.note.specs.Gps.{bcd}
use Rattle.note.proofs.GpsLaws.{digits_fit}
use Rattle.writers.proofs.+digits.Goals as goal

-- r is all digits but the last.
one_more : (n v r : ℕ) → (n ≡ 0 → ⊥) → r ≡ bcd (n - 1) (v / 10) → (r * 16 + v % 10 ≡ bcd n v) × (r * 16 + v % 10 < 16 ^ n)
unfolding bcd
one_more zero v r d e = absurd (d refl)
one_more (suc n) v r d e =
    let k : suc n - 1 ≡ n = omega arith in
    let made : r * 16 + v % 10 ≡ bcd (suc n) v = rw (e, k) in
    (made, subst (λ (x : ℕ). x < 16 ^ suc n) (sym made) (digits_fit (suc n) v))

-- There is room for one more where they are seven at most.
room : {n r : ℕ} → r < 16 ^ n → n ≤ 7 → r < 268435456
room l h = let p = pow-le-pow_right {n = 16} (omega arith) h in omega arith

pub overflow_mul-result : goal.overflow_mul-result
overflow_mul-result t c = let small = room c.digits.ensures.1 (omega arith) in omega arith

pub overflow_add-result : goal.overflow_add-result
overflow_add-result t c = let small = room c.digits.ensures.1 (omega arith) in omega arith

pub returns-else-n-eq0 : goal.returns-else-n-eq0
returns-else-n-eq0 t c = one_more _ _ _ c.if-n-eq0.false c.digits.ensures.0
