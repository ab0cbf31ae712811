-- The GPS rule said a second time: three words that spell seven numbers in decimal digits, each number within its bounds.
-- The idea: digits are read as decimal digits (`digits_are_decimal`), and a number of several fields is put together and taken apart.
use Prim.Native.Nat.{ℕ, zero, suc, ◌+◌, ◌*◌, ◌/◌, ◌%◌, ◌^◌, ◌≤◌, ◌<◌}
use mathlib.Core.Path.{◌≡◌, refl, sym, ap, ◌∙◌, subst}
use mathlib.Core.Logic.{◌↔◌, ◌⊎◌, inl, inr, ⊎_elim, by_cases}
use mathlib.Core.Bool.{Bool, true, false, cond, ◌&&◌}
use mathlib.Core.List.{List, [], ◌∷◌}
use native.Mathlib.Omega.{arith}
use native.Mathlib.Decide.{dec_le}
use native.Mathlib.Nat.{zero-add, suc-add, pow-zero, pow-suc, pow-succ', div-one, div-div-eq-div-mul, mul_assoc}
use lib.Dec.{leb}
use lib.ListN.{length}
use Rattle.theory.specs.declared.Order.{Order}
use Rattle.note.specs.Words.{word}
use Rattle.note.specs.declared.Gps.{Gps}
use Rattle.note.specs.Gps.{are_digits, decimal, gps_of, is_leap, days_of_year, gps_fault, gps_rule}
use Rattle.note.specs.Rules.{Leap, DayOfYear, GpsMeans, GpsAsked}
use Rattle.note.proofs.BoolLaws.{Tells, both_tell, either_tells, le_tells, eq_tells}
use Rattle.note.proofs.AskedLaws.{no_more, asked, asked_too, said_so, asked_of_part, divides_tells, not_tells}
use Rattle.note.proofs.GpsLaws.{digits_are_decimal, digits_split, digits_above, decimal_above, decimal-fits}

-- ---- the tests

leap_tells : (y : ℕ) → Tells (is_leap y) (Leap y)
leap_tells y = both_tell (divides_tells 4 y) (either_tells (not_tells (divides_tells 100 y)) (divides_tells 400 y))

days_tell : (t : Bool) (A : Type 0) (d : ℕ) → Tells t A → Tells (leb d (cond t 366 365)) ((d ≤ 365) ⊎ ((d ≡ 366) × A))
days_tell true A d told = (
  λ e. by_cases (dec_le d 365) inl (λ g. let l = (le_tells d 366).0 e in inr (omega arith, told.0 refl)),
  λ h. (le_tells d 366).1 (⊎_elim (λ l. omega arith) (λ l. omega arith) h),
)
days_tell false A d told = (
  λ e. inl ((le_tells d 365).0 e),
  λ h. (le_tells d 365).1 (⊎_elim (λ l. l) (λ l. absurd (mathlib.Core.Bool.false≢true (told.1 l.1))) h),
)

pub day_tells : (y d : ℕ) → Tells (leb 1 d && leb d (days_of_year y)) (DayOfYear y d)
day_tells y d = both_tell (le_tells 1 d) (days_tell (is_leap y) (Leap y) d (leap_tells y))

-- n + m digits are m digits above n.
decimal-split : (n m w : ℕ) → decimal (n + m) w ≡ decimal m (w / 16 ^ n) * 10 ^ n + decimal n w
unfolding decimal
decimal-split zero m w = rw (zero-add, pow-zero, div-one) (omega arith)
decimal-split (suc n) m w =
    let q : w / 16 / 16 ^ n ≡ w / 16 ^ suc n = rw pow-succ' (div-div-eq-div-mul w 16 (16 ^ n)) in
    let t : 10 ^ suc n ≡ 10 ^ n * 10 = rw pow-suc in
    let x : ℕ = decimal m (w / 16 ^ suc n) in
    let e : x * 10 ^ n * 10 ≡ x * (10 ^ n * 10) = mul_assoc x (10 ^ n) 10 in
    rw (suc-add, decimal-split n m (w / 16), q, t) (omega arith)

-- Each test tells this much of the body.
abbrev Tested : Order → List ℕ → Type 0
Tested o b =
    (are_digits 8 (word o 0 b) ≡ true) × ((word o 4 b / 16777216 % 16 ≡ 0) × ((are_digits 6 (word o 4 b) ≡ true) × ((are_digits 8 (word o 8 b) ≡ true)
    × (((gps_of o b).year ≤ 9999) × (DayOfYear (gps_of o b).year (gps_of o b).day × (((gps_of o b).status ≤ 15) × (((gps_of o b).hour ≤ 23)
    × (((gps_of o b).minute ≤ 59) × (((gps_of o b).second ≤ 59) × ((gps_of o b).tenths ≤ 9999999))))))))))

module _ (o : Order) (b : List ℕ) where
  -- The digits of a body that passed spell its fields.
  tested_means : Tested o b → GpsMeans o b (gps_of o b)
  unfolding gps_of
  tested_means (date, (gap, (time, (part, (year, (day, (status, (hour, (minute, (second, tenths)))))))))) =
      let w : ℕ = word o 4 b in
      let low : ℕ = w % 16777216 in
      let split : w ≡ w / 16777216 * 16 ^ 6 + low = omega arith in
      let digits : are_digits 6 low ≡ true = sym (digits_above 6 (w / 16777216) low) ∙ ap (are_digits 6) (sym split) ∙ time in
      let same : decimal 6 w ≡ decimal 6 low = ap (decimal 6) split ∙ decimal_above 6 (w / 16777216) low in
      let days : decimal 8 (word o 0 b) ≡ decimal 4 (word o 0 b / 65536) * 10000 + decimal 4 (word o 0 b) = decimal-split 4 4 (word o 0 b) in
      let seconds : decimal 6 w ≡ decimal 4 (w / 256) * 100 + decimal 2 w = decimal-split 2 4 w in
      let minutes : decimal 4 (w / 256) ≡ decimal 2 (w / 256 / 256) * 100 + decimal 2 (w / 256) = decimal-split 2 2 (w / 256) in
      let q : w / 256 / 256 ≡ w / 65536 = omega arith in
      let hours : decimal 2 (w / 256 / 256) ≡ decimal 2 (w / 65536) = ap (decimal 2) q in
      record {
        date = (digits_are_decimal 8 (word o 0 b) _).0 (date, days);
        time = (low, omega arith, omega arith, (digits_are_decimal 6 low _).0 (digits, omega arith));
        part = (digits_are_decimal 8 (word o 8 b) _).0 (part, refl);
        day = day;
        status = status;
        hour = hour;
        minute = minute;
        second = second;
        tenths = omega arith;
      }

  -- And what the digits spell are the body's fields, which then pass.
  module _ (f : Gps) (m : GpsMeans o b f) where
    record Same : Type 0 where
      date : are_digits 8 (word o 0 b) ≡ true
      gap : word o 4 b / 16777216 % 16 ≡ 0
      time : are_digits 6 (word o 4 b) ≡ true
      part : are_digits 8 (word o 8 b) ≡ true
      years : (gps_of o b).year ≤ 9999
      year : (gps_of o b).year ≡ f.year
      day : (gps_of o b).day ≡ f.day
      status : (gps_of o b).status ≡ f.status
      hour : (gps_of o b).hour ≡ f.hour
      minute : (gps_of o b).minute ≡ f.minute
      second : (gps_of o b).second ≡ f.second
      tenths : (gps_of o b).tenths ≡ f.tenths

    day_most : f.day ≤ 366
    day_most = ⊎_elim (λ l. omega arith) (λ l. omega arith) m.day.1

    spelled_same : Same
    unfolding gps_of
    spelled_same =
        let (low, is, small, spelled) = m.time in
        let w : ℕ = word o 4 b in
        let split : w ≡ f.status * 16 * 16 ^ 6 + low = omega arith in
        let (date, days) = (digits_are_decimal 8 (word o 0 b) _).1 m.date in
        let (digits, clock) = (digits_are_decimal 6 low _).1 spelled in
        let (part, tenths) = (digits_are_decimal 8 (word o 8 b) _).1 m.part in
        let time : are_digits 6 w ≡ true = ap (are_digits 6) split ∙ digits_above 6 (f.status * 16) low ∙ digits in
        let same : decimal 6 w ≡ decimal 6 low = ap (decimal 6) split ∙ decimal_above 6 (f.status * 16) low in
        let in_date = (digits_split 4 4 (word o 0 b)).0 date in
        let in_time = (digits_split 2 4 w).0 time in
        let in_hours = (digits_split 2 2 (w / 256)).0 in_time.1 in
        let of_date : decimal 8 (word o 0 b) ≡ decimal 4 (word o 0 b / 65536) * 10000 + decimal 4 (word o 0 b) = decimal-split 4 4 (word o 0 b) in
        let of_time : decimal 6 w ≡ decimal 4 (w / 256) * 100 + decimal 2 w = decimal-split 2 4 w in
        let of_hours : decimal 4 (w / 256) ≡ decimal 2 (w / 256 / 256) * 100 + decimal 2 (w / 256) = decimal-split 2 2 (w / 256) in
        let q : w / 256 / 256 ≡ w / 65536 = omega arith in
        let hours : decimal 2 (w / 256 / 256) ≡ decimal 2 (w / 65536) = ap (decimal 2) q in
        let year_fits : decimal 4 (word o 0 b / 65536) < 10000 = decimal-fits 4 (word o 0 b / 65536) in_date.1 in
        let day_fits : decimal 4 (word o 0 b) < 10000 = decimal-fits 4 (word o 0 b) in_date.0 in
        let minute_fits : decimal 2 (w / 256) < 100 = decimal-fits 2 (w / 256) in_hours.0 in
        let second_fits : decimal 2 w < 100 = decimal-fits 2 w in_time.0 in
        let most = day_most in
        let minute_most = m.minute in
        let second_most = m.second in
        record {
          date = date;
          gap = omega arith;
          time = time;
          part = part;
          years = omega arith;
          year = omega arith;
          day = omega arith;
          status = omega arith;
          hour = omega arith;
          minute = omega arith;
          second = omega arith;
          tenths = tenths;
        }

    pub means_fields : gps_of o b ≡ f
    means_fields =
        let s = spelled_same in
        λ i. record {
          year = s.year i;
          day = s.day i;
          status = s.status i;
          hour = s.hour i;
          minute = s.minute i;
          second = s.second i;
          tenths = s.tenths i;
        }

    means_tested : Tested o b
    means_tested =
        let s = spelled_same in
        let e = means_fields in
        let n = m.tenths in (
          s.date,
          (
            s.gap,
            (
              s.time,
              (
                s.part,
                (
                  s.years,
                  (
                    rw e m.day,
                    (
                      rw e m.status,
                      (
                        rw e m.hour,
                        (rw e m.minute, (rw e m.second, rw e (omega arith))),
                      ),
                    ),
                  ),
                ),
              ),
            ),
          ),
        )

  -- The rule gives what is asked of digits and numbers.
  pub gps_rule_exact : (c : ℕ) → (gps_rule o b ≡ c) ↔ GpsAsked o b c
  unfolding gps_rule gps_fault
  gps_rule_exact =
      let f : Gps = gps_of o b in
      let same : Tested o b ↔ ((f : Gps) × GpsMeans o b f) = (λ t. (gps_of o b, tested_means t), λ h. means_tested h.0 h.1) in
      let digits : (n p : ℕ) → Tells (are_digits n (word o p b)) (are_digits n (word o p b) ≡ true) = λ n p. (λ e. e, λ e. e) in
      (asked (eq_tells (length b) 12) (
      said_so same (
      asked_too (digits 8 0) (
      asked_too (eq_tells (word o 4 b / 16777216 % 16) 0) (
      asked_too (digits 6 4) (
      asked_too (digits 8 8) (
      asked_of_part (_ ∷ _ ∷ _ ∷ _ ∷ _ ∷ _ ∷ _ ∷ []) (
      asked_too (le_tells f.year 9999) (
      asked_too (day_tells f.year f.day) (
      asked_too (le_tells f.status 15) (
      asked_too (le_tells f.hour 23) (
      asked_too (le_tells f.minute 59) (
      asked_too (le_tells f.second 59) (
      asked (le_tells f.tenths 9999999)
      no_more)))))))))))))).exactly

  -- The fields of an accepted body are the numbers that its digits spell, and no others.
  pub gps-fields-spelled : gps_rule o b ≡ 0 → GpsMeans o b (gps_of o b)
  gps-fields-spelled e = ⊎_elim (λ h. ⊎_elim meant (λ g. absurd (omega arith)) h.1) (λ h. absurd (omega arith)) ((gps_rule_exact 0).0 e)
    where
      meant : ((f : Gps) × GpsMeans o b f) × (◌≡◌ {A = ℕ} 0 0) → GpsMeans o b (gps_of o b)
      meant h = subst (GpsMeans o b) (sym (means_fields h.0.0 h.0.1)) h.0.1
