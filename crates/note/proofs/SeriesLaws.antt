-- The series words said a second time: a date that exists, by the rule of the knuckles in place of a table, and a time of day.
-- The idea: a test tells its parts; the table agrees with the knuckles at each of the twelve months, which antt computes.
use Prim.Native.Nat.{ℕ, zero, suc, ◌+◌, ◌*◌, ◌/◌, ◌%◌, ◌≤◌}
use mathlib.Core.Path.{◌≡◌, refl, sym, ap, ◌∙◌, subst}
use mathlib.Core.Logic.{◌↔◌, ◌⊎◌, inl, inr, ⊎_elim, ◌≢◌, by_cases}
use mathlib.Core.Bool.{Bool, true, false, cond, ◌&&◌, ◌||◌}
use mathlib.Core.List.{List, [], ◌∷◌, ◌++◌, map}
use native.Mathlib.Omega.{arith}
use native.Mathlib.Decide.{dec_le}
use lib.Dec.{leb, eqb}
use lib.ListN.{get_or, get_or-eq_default}
use borrow.Author.Tests.{eqb-true, eqb-false}
use Rattle.note.specs.Asked.{OneOf}
use Rattle.note.specs.Administrative.{locations, days_of_month, days_in, is_series, is_clock}
use Rattle.note.specs.Series.{ClockTime, sites, Location, DateExists, SeriesDate}
use Rattle.note.proofs.BoolLaws.{Tells, both_tell, either_tells, le_tells, eq_tells, among_tells, one-up-to}
use Rattle.note.proofs.Sweep.{all-at}

-- ---- HHMM

-- A word is a series clock exactly where it is a time of day.
pub clock-is-time : (w : ℕ) → (is_clock w ≡ true) ↔ ClockTime w
unfolding is_clock
clock-is-time w =
    let t : Tells (leb w 2359 && leb (w % 100) 59) ((w ≤ 2359) × (w % 100 ≤ 59)) = both_tell (le_tells w 2359) (le_tells (w % 100) 59) in (
      λ e. let h = t.0 e in (w / 100, w % 100, omega arith, omega arith, omega arith),
      λ c. let (hh, mm, e, h, m) = c in t.1 (omega arith),
    )

-- ---- LLYYMMDD

-- The list of locations is the six and the six plus 50.
one_of_append : (xs ys : List ℕ) (n : ℕ) → OneOf (xs ++ ys) n ↔ (OneOf xs n ⊎ OneOf ys n)
one_of_append [] ys n = (inr, ⊎_elim (λ h. absurd h) (λ h. h))
one_of_append (x ∷ xs) ys n =
    let r = one_of_append xs ys n in (
      ⊎_elim (λ e. inl (inl e)) (λ h. ⊎_elim (λ g. inl (inr g)) inr (r.0 h)),
      ⊎_elim (⊎_elim inl (λ g. inr (r.1 (inl g)))) (λ g. inr (r.1 (inr g))),
    )

one_of_map : (f : ℕ → ℕ) (xs : List ℕ) (n : ℕ) → OneOf (map f xs) n ↔ ((b : ℕ) × OneOf xs b × (n ≡ f b))
one_of_map f [] n = (λ h. absurd h, λ h. absurd h.1)
one_of_map f (x ∷ xs) n =
    let r = one_of_map f xs n in (
      ⊎_elim (λ e. (x, inl refl, e)) (λ h. let (b, o, e) = r.0 h in (b, inr o, e)),
      λ h. ⊎_elim (λ e. inl (h.2 ∙ ap f e)) (λ o. inr (r.1 (h.0, o, h.2))) h.1,
    )

location-listed : (ll : ℕ) → OneOf locations ll ↔ Location ll
location-listed ll =
    let both = one_of_append sites (map (λ (b : ℕ). b + 50) sites) ll in
    let more = one_of_map (λ (b : ℕ). b + 50) sites ll in (
      λ h. ⊎_elim (λ o. (ll, o, inl refl)) (λ o. let (b, p, e) = more.0 o in (b, p, inr e)) (both.0 h),
      λ h. let (b, o, s) = h in both.1 (⊎_elim (λ e. inl (subst (OneOf sites) (sym e) o)) (λ e. inr (more.1 (b, o, e))) s),
    )

-- The table of the months and the knuckles agree.
pub knuckles : (mm : ℕ) → 1 ≤ mm → mm ≤ 12 → mm ≢ 2 → get_or days_of_month mm 0 ≡ 30 + (mm + mm / 8) % 2
knuckles mm l h n =
    let days : ℕ → ℕ = λ m. get_or days_of_month m 0 in
    let knuckle : ℕ → ℕ = λ m. 30 + (m + m / 8) % 2 in
    ⊎_elim (λ e. absurd (n e)) (λ e. e)
    ((either_tells (eq_tells mm 2) (eq_tells (days mm) (knuckle mm))).0
    (all-at (λ (m : ℕ). eqb m 2 || eqb (days m) (knuckle m)) 1 12 refl mm l (omega arith)))

is_month : (mm : ℕ) → 1 ≤ get_or days_of_month mm 0 → (1 ≤ mm) × (mm ≤ 12)
is_month zero h = absurd (omega arith)
is_month (suc m) h = (
  omega arith,
  by_cases (dec_le (suc m) 12)
      (λ l. l)
      (λ g. let l : 13 ≤ suc m = omega arith in absurd (omega (arith, get_or-eq_default days_of_month 0 l))),
)

date_exists : (yy mm dd : ℕ) → ((1 ≤ dd) × (dd ≤ days_in yy mm)) ↔ DateExists yy mm dd
date_exists yy mm dd = go (eqb mm 2) (eqb (yy % 4) 0) refl refl
  where
    go : (a b : Bool) → eqb mm 2 ≡ a → eqb (yy % 4) 0 ≡ b
        → ((1 ≤ dd) × (dd ≤ cond (a && b) 29 (get_or days_of_month mm 0))) ↔ DateExists yy mm dd
    go true true p q =
        let m = eqb-true mm 2 p in
        let y = eqb-true (yy % 4) 0 q in (
          λ h. (omega arith, omega arith, h.0, inr (m, by_cases (dec_le dd 28) inl (λ g. inr (omega arith, (yy / 4, omega arith))))),
          λ h. (h.2, ⊎_elim (λ g. absurd (g.0 m)) (λ g. ⊎_elim (λ s. omega arith) (λ s. omega arith) g.1) h.3),
        )
    go true false p q =
        let m = eqb-true mm 2 p in
        let y = eqb-false (yy % 4) 0 q in
        let d : get_or days_of_month mm 0 ≡ 28 = ap (λ (k : ℕ). get_or days_of_month k 0) m in (
          λ h. (omega arith, omega arith, h.0, inr (m, inl (omega arith))),
          λ h. (h.2, ⊎_elim (λ g. absurd (g.0 m)) (λ g. ⊎_elim (λ s. omega arith) (λ s. absurd (y (omega arith))) g.1) h.3),
        )
    go false b p q =
        let m = eqb-false mm 2 p in (
          λ h. let (l, u) = is_month mm (omega arith) in (l, u, h.0, inl (m, omega (arith, knuckles mm l u m))),
          λ h. (h.2, ⊎_elim (λ g. omega (arith, knuckles mm h.0 h.1 m)) (λ g. absurd (m g.0)) h.3),
        )

at_most : (yy mm dd : ℕ) → DateExists yy mm dd → dd ≤ 31
at_most yy mm dd h = ⊎_elim (λ g. omega arith) (λ g. ⊎_elim (λ s. omega arith) (λ s. omega arith) g.1) h.3

location_at_most : (ll : ℕ) → Location ll → ll ≤ 57
location_at_most ll h =
    let (b, o, s) = h in
    let l = one-up-to 7 sites b refl o in
    ⊎_elim (λ e. omega arith) (λ e. omega arith) s

-- Eight decimal digits, put together and taken apart.
put_together : (w : ℕ) → w ≡ w / 1000000 * 1000000 + w / 10000 % 100 * 10000 + w / 100 % 100 * 100 + w % 100
put_together w =
    let a : w / 100 / 100 ≡ w / 10000 = omega arith in
    let b : w / 10000 / 100 ≡ w / 1000000 = omega arith in
    omega arith

taken_apart : (ll yy mm dd w : ℕ) → w ≡ ll * 1000000 + yy * 10000 + mm * 100 + dd → yy ≤ 99 → mm ≤ 99 → dd ≤ 99
    → (w / 1000000 ≡ ll) × (w / 10000 % 100 ≡ yy) × (w / 100 % 100 ≡ mm) × (w % 100 ≡ dd)
taken_apart ll yy mm dd w e y m d =
    let a : w / 100 ≡ ll * 10000 + yy * 100 + mm = omega arith in
    let b : w / 10000 ≡ ll * 100 + yy = omega arith in
    (omega arith, rw b (omega arith), rw a (omega arith), omega arith)

-- A word is a series date exactly where its digits say a location and a day that exists.
pub series-is-date : (w : ℕ) → (is_series w ≡ true) ↔ SeriesDate w
unfolding is_series
series-is-date w =
    let site : ℕ = w / 1000000 in
    let year : ℕ = w / 10000 % 100 in
    let month : ℕ = w / 100 % 100 in
    let day : ℕ = w % 100 in
    let t : Tells (is_series w) ((((w ≤ 99999999) × OneOf locations site) × (1 ≤ day)) × (day ≤ days_in year month)) =
    both_tell (both_tell (both_tell (le_tells w 99999999) (among_tells locations site)) (le_tells 1 day)) (le_tells day (days_in year month)) in (
      λ e. let h = t.0 e in (
        site,
        year,
        month,
        day,
        put_together w,
        (location-listed site).0 h.0.0.1,
        omega arith,
        (date_exists year month day).0 (h.0.1, h.1),
      ),
      λ s.
          let (ll, yy, mm, dd, e, l, y, d) = s in
          let (a, b, c, r) = taken_apart ll yy mm dd w e y (omega arith) (omega (arith, at_most yy mm dd d)) in
          let (i, j) = (date_exists yy mm dd).1 d in
          t.1 (((omega (arith, location_at_most ll l, at_most yy mm dd d), rw a ((location-listed ll).1 l)), rw r i), rw (b, c, r) j),
    )
