-- The laws of BCD, once over the number of digits; the Gregorian day said a second time; and the GPS record there and back.
-- The idea: one digit more is one more step of division, by 16 in the word and by 10 in the number.
use Prim.Native.Nat.{ℕ, zero, suc, ◌+◌, ◌-◌, ◌*◌, ◌/◌, ◌%◌, ◌^◌, ◌≤◌, ◌<◌}
use mathlib.Core.Path.{◌≡◌, refl, sym, ap, ◌∙◌, subst}
use mathlib.Core.Logic.{◌↔◌}
use mathlib.Core.Bool.{Bool, true, false, cond, ◌&&◌, and-eq-true_iff, and_assoc}
use mathlib.Core.List.{List, [], ◌∷◌}
use native.Mathlib.Omega.{arith}
use native.Mathlib.Nat.{pow-suc, pow-succ', pow-zero, mul_assoc, mod-one, mod-eq_of_lt, div-one, div-div-eq-div-mul, zero-add, suc-add, one-le-pow}
use lib.Arith.{digits_div, digits_mod, digits_lt, mod-mul}
use lib.Dec.{leb, eqb}
use lib.ListN.{length, get_or}
use borrow.Author.Tests.{leb-true, le-leb, eqb-true, eq-eqb}
use Rattle.theory.specs.declared.Order.{Order}
use Rattle.theory.specs.declared.Order.TheVariants.{Little}
use Rattle.theory.specs.Words.{Bytes, AllFit, words_at}
use Rattle.theory.specs.Tests.{first}
use Rattle.theory.proofs.TestLaws.{holds_at}
use Rattle.theory.proofs.WordLaws.{word_fits, puts_fill, length-puts}
use Rattle.note.specs.Words.{word, words}
use Rattle.note.specs.declared.Gps.{Gps}
use Rattle.note.specs.Gps.{are_digits, decimal, bcd, gps_of, gps_words, gps_bytes, is_leap, days_of_year, gps_fault, gps_tests, gps_rule}
use Rattle.note.specs.Rules.{spell, DecimalDigits, Spelled, leaps_before}
use Rattle.note.proofs.FieldLaws.{read, words-read, number_at}
use Rattle.note.proofs.Sweep.{all-at}
use Rattle.note.proofs.Computing.{computing}

-- ---- BCD

-- A number written in digits is read again; its digits are digits, and no more than n.
pub digits_read_back : (n v : ℕ) → v < 10 ^ n → decimal n (bcd n v) ≡ v
unfolding decimal bcd
digits_read_back zero v h = omega (arith, rw pow-zero at h)
digits_read_back (suc n) v h =
    let p : v < 10 ^ n * 10 = rw pow-suc at h in
    let l : v % 10 < 16 = omega arith in
    rw (digits_div (bcd n (v / 10)) l, digits_mod (bcd n (v / 10)) l, digits_read_back n (v / 10) (omega arith)) (omega arith)

pub digits_are_written : (n v : ℕ) → are_digits n (bcd n v) ≡ true
unfolding are_digits bcd
digits_are_written zero v = refl
digits_are_written (suc n) v =
    let l : v % 10 < 16 = omega arith in
    rw (digits_div (bcd n (v / 10)) l, digits_mod (bcd n (v / 10)) l, le-leb (v % 10) 9 (omega arith)) (digits_are_written n (v / 10))

pub digits_fit : (n v : ℕ) → bcd n v < 16 ^ n
unfolding bcd
digits_fit zero v = omega (arith, pow-zero 16)
digits_fit (suc n) v = rw pow-suc (digits_lt (digits_fit n (v / 10)) (omega arith))

mod-digit : (n w : ℕ) → w % 16 ^ suc n ≡ (w / 16 % 16 ^ n) * 16 + w % 16
mod-digit n w = rw pow-suc (mod-mul w (one-le-pow n 16 (omega arith)) (omega arith))

-- Digits that are read are written again: the lowest n digits of w, whatever stands above them.
pub digits_restored : (n w : ℕ) → are_digits n w ≡ true → bcd n (decimal n w) ≡ w % 16 ^ n
unfolding are_digits decimal bcd
digits_restored zero w e = rw (pow-zero, mod-one)
digits_restored (suc n) w e =
    let s = (and-eq-true_iff (leb (w % 16) 9) (are_digits n (w / 16))).0 e in
    let l : w % 16 < 10 = omega (arith, leb-true (w % 16) 9 s.0) in
    rw (digits_div (decimal n (w / 16)) l, digits_mod (decimal n (w / 16)) l, digits_restored n (w / 16) s.1) (sym (mod-digit n w))

pub word_restored : (n w : ℕ) → w < 16 ^ n → are_digits n w ≡ true → bcd n (decimal n w) ≡ w
word_restored n w h e = digits_restored n w e ∙ mod-eq_of_lt h

-- The number of n digits is below 10 ^ n.
pub decimal-fits : (n w : ℕ) → are_digits n w ≡ true → decimal n w < 10 ^ n
unfolding are_digits decimal
decimal-fits zero w e = omega (arith, pow-zero 10)
decimal-fits (suc n) w e =
    let s = (and-eq-true_iff (leb (w % 16) 9) (are_digits n (w / 16))).0 e in
    rw pow-suc (digits_lt (decimal-fits n (w / 16) s.1) (omega (arith, leb-true (w % 16) 9 s.0)))

-- Only the lowest n digits are read, so fields that stand side by side in a word are read apart.
above_digits : (h m l : ℕ) → ((h * (m * 16) + l) / 16 ≡ h * m + l / 16) × ((h * (m * 16) + l) % 16 ≡ l % 16)
above_digits h m l = let e : h * m * 16 ≡ h * (m * 16) = mul_assoc h m 16 in (omega arith, omega arith)

pub decimal_above : (n h l : ℕ) → decimal n (h * 16 ^ n + l) ≡ decimal n l
unfolding decimal
decimal_above zero h l = refl
decimal_above (suc n) h l = rw (pow-suc, (above_digits h (16 ^ n) l).0, (above_digits h (16 ^ n) l).1, decimal_above n h (l / 16))

pub digits_above : (n h l : ℕ) → are_digits n (h * 16 ^ n + l) ≡ are_digits n l
unfolding are_digits
digits_above zero h l = refl
digits_above (suc n) h l = rw (pow-suc, (above_digits h (16 ^ n) l).0, (above_digits h (16 ^ n) l).1, digits_above n h (l / 16))

-- n + m digits are the lowest n and the m above them.
pub digits_split : (n m w : ℕ) → (are_digits (n + m) w ≡ true) ↔ ((are_digits n w ≡ true) × (are_digits m (w / 16 ^ n) ≡ true))
unfolding are_digits
digits_split n m w = subst (λ (t : Bool). (t ≡ true) ↔ ((are_digits n w ≡ true) × (are_digits m (w / 16 ^ n) ≡ true))) (sym (split n m w))
    (and-eq-true_iff (are_digits n w) (are_digits m (w / 16 ^ n)))
  where
    split : (n m w : ℕ) → are_digits (n + m) w ≡ are_digits n w && are_digits m (w / 16 ^ n)
    split zero m w = rw (zero-add, pow-zero, div-one)
    split (suc n) m w =
        let q : w / 16 / 16 ^ n ≡ w / 16 ^ suc n = rw pow-succ' (div-div-eq-div-mul w 16 (16 ^ n)) in
        rw (suc-add, split n m (w / 16), q) (sym (and_assoc (leb (w % 16) 9) (are_digits n (w / 16)) (are_digits m (w / 16 ^ suc n))))

-- BCD said a second time: the digits of a word and of its number are the same.
is_spelled : (n w : ℕ) → are_digits n w ≡ true → Spelled n w (decimal n w)
unfolding are_digits decimal
is_spelled zero w h = ([], refl, tt, rw (pow-zero, mod-one), refl)
is_spelled (suc n) w h =
    let s = (and-eq-true_iff (leb (w % 16) 9) (are_digits n (w / 16))).0 h in
    let (ds, l, small, e, f) = is_spelled n (w / 16) s.1 in
    (w % 16 ∷ ds, ap suc l, (leb-true (w % 16) 9 s.0, small), rw (mod-digit n w, e), rw f)

spelled_is : (ds : List ℕ) (w : ℕ) → DecimalDigits ds → w % 16 ^ length ds ≡ spell 16 ds
    → (are_digits (length ds) w ≡ true) × (decimal (length ds) w ≡ spell 10 ds)
unfolding are_digits decimal
spelled_is [] w small e = (refl, refl)
spelled_is (d ∷ ds) w small e =
    let g : (w / 16 % 16 ^ length ds) * 16 + w % 16 ≡ spell 16 ds * 16 + d = sym (mod-digit (length ds) w) ∙ e in
    let m : w % 16 ≡ d = omega arith in
    let (s, f) = spelled_is ds (w / 16) small.1 (omega arith) in
    (rw (m, le-leb d 9 small.0, s), rw (m, f))

pub digits_are_decimal : (n w v : ℕ) → ((are_digits n w ≡ true) × (decimal n w ≡ v)) ↔ Spelled n w v
digits_are_decimal n w v = (λ h. subst (Spelled n w) h.1 (is_spelled n w h.0), back)
  where
    back : Spelled n w v → (are_digits n w ≡ true) × (decimal n w ≡ v)
    back h =
        let (ds, l, small, e, f) = h in
        let (s, g) = spelled_is ds w small (rw l e) in
        (rw (← l) s, rw (← l) (g ∙ sym f))

-- ---- the Gregorian day

-- A year has 365 days, and one more for each leap year from it to the next.
pub leap_years_counted : (y : ℕ) → y ≤ 9999 → days_of_year y ≡ 365 + (leaps_before (y + 1) - leaps_before y)
leap_years_counted y h =
    eqb-true (days_of_year y) (365 + (leaps_before (y + 1) - leaps_before y))
    (all-at (λ (y : ℕ). eqb (days_of_year y) (365 + (leaps_before (y + 1) - leaps_before y))) 0 10000 refl y (omega arith) (omega arith))

-- ---- the record

-- A number v written in n digits, with h above them, is read there.
field_read_back : (n h v w : ℕ) → v < 10 ^ n → w ≡ h * 16 ^ n + bcd n v → (are_digits n w ≡ true) × (decimal n w ≡ v)
field_read_back n h v w small e =
    (rw (e, digits_above n h (bcd n v)) (digits_are_written n v), rw (e, decimal_above n h (bcd n v)) (digits_read_back n v small))

days_at_most : (b : Bool) → cond b 366 365 ≤ 366
days_at_most true = omega arith
days_at_most false = omega arith

-- Fields without a fault: each fits its digits, the words that they make fit, and each is read where it was written.
module _ (o : Order) (f : Gps) (fine : gps_fault f ≡ 0) where
  record Bounds : Type 0 where
    year : (f.year < 10000) × (bcd 4 f.year < 65536)
    day : (f.day < 10000) × (bcd 4 f.day < 65536)
    status : f.status < 16
    hour : (f.hour < 100) × (bcd 2 f.hour < 256)
    minute : (f.minute < 100) × (bcd 2 f.minute < 256)
    second : (f.second < 100) × (bcd 2 f.second < 256)
    tenths : (f.tenths < 100000000) × (bcd 8 f.tenths < 4294967296)

  bounds : Bounds
  unfolding gps_fault
  bounds =
      let at = holds_at _ fine in
      let d = (and-eq-true_iff (leb 1 f.day) (leb f.day (days_of_year f.year))).0 (at 1 _ 9 refl) in
      record {
        year = (omega (arith, leb-true f.year 9999 (at 0 _ 9 refl)), digits_fit 4 f.year);
        day = (omega (arith, leb-true f.day (days_of_year f.year) d.1, days_at_most (is_leap f.year)), digits_fit 4 f.day);
        status = omega (arith, leb-true f.status 15 (at 2 _ 9 refl));
        hour = (omega (arith, leb-true f.hour 23 (at 3 _ 9 refl)), digits_fit 2 f.hour);
        minute = (omega (arith, leb-true f.minute 59 (at 4 _ 9 refl)), digits_fit 2 f.minute);
        second = (omega (arith, leb-true f.second 59 (at 5 _ 9 refl)), digits_fit 2 f.second);
        tenths = (omega (arith, leb-true f.tenths 9999999 (at 6 _ 9 refl)), digits_fit 8 f.tenths);
      }

  fit : AllFit 4 (gps_words f)
  fit = let b = bounds in (omega arith, (omega arith, (omega arith, tt)))

  read-words : read o 3 (gps_bytes o f) ≡ gps_words f
  unfolding gps_bytes
  read-words = words-read o (gps_words f) fit

  record Read : Type 0 where
    year : (are_digits 4 (word o 0 (gps_bytes o f) / 65536) ≡ true) × (decimal 4 (word o 0 (gps_bytes o f) / 65536) ≡ f.year)
    day : (are_digits 4 (word o 0 (gps_bytes o f)) ≡ true) × (decimal 4 (word o 0 (gps_bytes o f)) ≡ f.day)
    status : (word o 4 (gps_bytes o f) / 16777216 % 16 ≡ 0) × (word o 4 (gps_bytes o f) / 268435456 ≡ f.status)
    hour : (are_digits 2 (word o 4 (gps_bytes o f) / 65536) ≡ true) × (decimal 2 (word o 4 (gps_bytes o f) / 65536) ≡ f.hour)
    minute : (are_digits 2 (word o 4 (gps_bytes o f) / 256) ≡ true) × (decimal 2 (word o 4 (gps_bytes o f) / 256) ≡ f.minute)
    second : (are_digits 2 (word o 4 (gps_bytes o f)) ≡ true) × (decimal 2 (word o 4 (gps_bytes o f)) ≡ f.second)
    tenths : (are_digits 8 (word o 8 (gps_bytes o f)) ≡ true) × (decimal 8 (word o 8 (gps_bytes o f)) ≡ f.tenths)

  fields_read : Read
  unfolding words_at
  fields_read =
      let b = bounds in
      let at : (j : ℕ) → get_or (read o 3 (gps_bytes o f)) j 0 ≡ get_or (gps_words f) j 0 = number_at read-words in
      let date : word o 0 (gps_bytes o f) ≡ bcd 4 f.year * 65536 + bcd 4 f.day = at 0 in
      let time : word o 4 (gps_bytes o f) ≡ f.status * 268435456 + bcd 2 f.hour * 65536 + bcd 2 f.minute * 256 + bcd 2 f.second = at 1 in
      let part : word o 8 (gps_bytes o f) ≡ bcd 8 f.tenths = at 2 in
      record {
        year = field_read_back 4 0 f.year _ b.year.0 (omega arith);
        day = field_read_back 4 (bcd 4 f.year) f.day _ b.day.0 date;
        status = omega arith;
        hour = field_read_back 2 (f.status * 16) f.hour _ b.hour.0 (omega arith);
        minute = field_read_back 2 (f.status * 4096 + bcd 2 f.hour) f.minute _ b.minute.0 (omega arith);
        second = field_read_back 2 (f.status * 1048576 + bcd 2 f.hour * 256 + bcd 2 f.minute) f.second _ b.second.0 (omega arith);
        tenths = field_read_back 8 0 f.tenths _ b.tenths.0 (omega arith);
      }

  fields_back : gps_of o (gps_bytes o f) ≡ f
  unfolding gps_of
  fields_back =
      let r = fields_read in
      λ i. record {
        year = r.year.1 i;
        day = r.day.1 i;
        status = r.status.1 i;
        hour = r.hour.1 i;
        minute = r.minute.1 i;
        second = r.second.1 i;
        tenths = r.tenths.1 i;
      }

  rule-holds : gps_rule o (gps_bytes o f) ≡ 0
  unfolding gps_rule gps_bytes first
  rule-holds =
      let r = fields_read in
      let w : ℕ = word o 4 (gps_bytes o f) in
      let q : w / 256 / 256 ≡ w / 65536 = omega arith in
      let time : are_digits 6 w ≡ true =
      (digits_split 2 4 w).1 (r.second.0, (digits_split 2 2 (w / 256)).1 (r.minute.0, rw q r.hour.0)) in
      rw (
        eq-eqb (length (gps_bytes o f)) 12 (length-puts o 4 (gps_words f)),
        (digits_split 4 4 (word o 0 (gps_bytes o f))).1 (r.day.0, r.year.0),
        eq-eqb (w / 16777216 % 16) 0 r.status.0,
        time,
        r.tenths.0,
        fields_back,
        fine,
      )

-- What a writer accepts is read back: its body passes the rule, and its fields are those that were written.
pub gps_read_back : (o : Order) → (f : Gps) → gps_fault f ≡ 0 → (gps_rule o (gps_bytes o f) ≡ 0) × (gps_of o (gps_bytes o f) ≡ f)
gps_read_back o f fine = (rule-holds o f fine, fields_back o f fine)

-- The second word from its parts, where its seventh digit is 0.
parts_of_time : (w : ℕ) → w / 16777216 % 16 ≡ 0 → w / 268435456 * 268435456 + w / 65536 % 256 * 65536 + w / 256 % 256 * 256 + w % 256 ≡ w
parts_of_time w e =
    let a : w / 256 / 256 ≡ w / 65536 = omega arith in
    let b : w / 65536 / 256 ≡ w / 16777216 = omega arith in
    let c : w / 16777216 / 16 ≡ w / 268435456 = omega arith in
    omega arith

-- What the rule accepts is written again as it was.
pub gps_restored : (o : Order) → (b : List ℕ) → Bytes b → gps_rule o b ≡ 0 → gps_bytes o (gps_of o b) ≡ b
unfolding gps_rule gps_of gps_bytes words_at
gps_restored o b bytes fine =
    let at = holds_at (gps_tests o b) fine in
    let size = eqb-true (length b) 12 (at 0 _ 5 refl) in
    let gap = eqb-true (word o 4 b / 16777216 % 16) 0 (at 2 _ 9 refl) in
    let in_date = (digits_split 4 4 (word o 0 b)).0 (at 1 _ 9 refl) in
    let in_time = (digits_split 2 4 (word o 4 b)).0 (at 3 _ 9 refl) in
    let in_hours = (digits_split 2 2 (word o 4 b / 256)).0 in_time.1 in
    let q : word o 4 b / 256 / 256 ≡ word o 4 b / 65536 = omega arith in
    let year : bcd 4 (gps_of o b).year ≡ word o 0 b / 65536 % 65536 = digits_restored 4 (word o 0 b / 65536) in_date.1 in
    let day : bcd 4 (gps_of o b).day ≡ word o 0 b % 65536 = digits_restored 4 (word o 0 b) in_date.0 in
    let hour : bcd 2 (gps_of o b).hour ≡ word o 4 b / 65536 % 256 = digits_restored 2 (word o 4 b / 65536) (rw q at in_hours).1 in
    let minute : bcd 2 (gps_of o b).minute ≡ word o 4 b / 256 % 256 = digits_restored 2 (word o 4 b / 256) in_hours.0 in
    let second : bcd 2 (gps_of o b).second ≡ word o 4 b % 256 = digits_restored 2 (word o 4 b) in_time.0 in
    let fit : word o 0 b < 4294967296 = word_fits o 4 0 b bytes (omega arith) in
    let date : bcd 4 (gps_of o b).year * 65536 + bcd 4 (gps_of o b).day ≡ word o 0 b = omega arith in
    let f : Gps = gps_of o b in
    let time : f.status * 268435456 + bcd 2 f.hour * 65536 + bcd 2 f.minute * 256 + bcd 2 f.second ≡ word o 4 b =
    rw (hour, minute, second) (parts_of_time (word o 4 b) gap) in
    let part : bcd 8 (gps_of o b).tenths ≡ word o 8 b = word_restored 8 (word o 8 b) (word_fits o 4 8 b bytes (omega arith)) (at 4 _ 9 refl) in
    ap (words o) (λ i. date i ∷ time i ∷ part i ∷ []) ∙ puts_fill o 4 3 b bytes size

-- Day 366 is none in the year 1900 and is one in 2000.
pub century_years : (gps_rule Little (words Little (0x19000366 ∷ 0 ∷ 0 ∷ [])) ≡ 10) × (gps_rule Little (words Little (0x20000366 ∷ 0 ∷ 0 ∷ [])) ≡ 0)
unfolding computing
century_years = (refl, refl)
