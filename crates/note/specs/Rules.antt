-- What each kind's rule asks, a second time: of a body's words, by their places and in order, with the number that is given where it isn't so;
-- of the digits of a GPS record; and of the fields that are handed to a writer. Literal numbers, and no test of the kinds' own files.
use Rattle.std.specs.Prelude.{ℕ, ◌+◌, ◌-◌, ◌*◌, ◌/◌, ◌%◌, ◌^◌, ◌≤◌, ◌<◌, ◌≡◌, ◌↔◌, ◌⊎◌, List, [], ◌∷◌, ◌++◌, length}
use Rattle.theory.specs.declared.Order.{Order}
use Rattle.note.specs.Asked.{asks, fine, Divides}
use Rattle.note.specs.Words.{word, words}
use Rattle.note.specs.Trace.{Trace}
use Rattle.note.specs.History.{Section}
use Rattle.note.specs.declared.Gps.{Gps}
use Rattle.note.specs.ChannelTable.{channel_lines, phonon_lines, charge_lines, CodeListed}
use Rattle.note.specs.Series.{ClockTime, SeriesDate}
use Rattle.note.specs.Places.{times_in, width_in, section_end}

-- ---- the entries

-- FORMAT 4.1, a second time: 44 bytes, whose first word names a phonon channel.
abbrev pub PhononAsked : Order → List ℕ → ℕ → Type 0
PhononAsked o b = asks (length b ≡ 44) 6 (asks (CodeListed phonon_lines (word o 0 b)) 10 fine)

-- FORMAT 4.2, a second time: 32 bytes, whose first word names a charge channel.
abbrev pub ChargeAsked : Order → List ℕ → ℕ → Type 0
ChargeAsked o b = asks (length b ≡ 32) 6 (asks (CodeListed charge_lines (word o 0 b)) 10 fine)

-- ---- administrative

-- FORMAT 5.1, a second time: 24 bytes, whose first two words are a series date and a time of day.
abbrev pub AdministrativeAsked : Order → List ℕ → ℕ → Type 0
AdministrativeAsked o b = asks (length b ≡ 24) 6 (asks (SeriesDate (word o 0 b)) 10 (asks (ClockTime (word o 4 b)) 10 fine))

-- ---- trace

-- FORMAT 5.2, a second time: what is asked of a trace's body, block by block, and of its length last.
abbrev pub TraceAsked : Order → List ℕ → ℕ → Type 0
TraceAsked o b =
    asks (48 ≤ length b) 6 (
    asks (word o 0 b ≡ 0x11) 5 (
    asks (word o 4 b ≡ 12) 6 (
    asks ((1 ≤ word o 12 b) × (word o 12 b ≤ 8)) 10 (
    asks (CodeListed channel_lines (word o 16 b)) 10 (
    asks (word o 20 b ≡ 0x12) 5 (
    asks (word o 24 b ≡ 12) 6 (
    asks (1 ≤ word o 32 b) 10 (
    asks (word o 40 b ≡ 0x13) 5 (
    asks (Divides 2 (word o 44 b)) 11 (
    asks (2 ≤ word o 44 b) 11 (
    asks (word o 44 b ≤ 32768) 11 (
    asks (word o 36 b ≡ word o 44 b) 11 (
    asks (length b ≡ 48 + 2 * word o 44 b) 6
    fine)))))))))))))

-- FORMAT 5.2, a second time, of the fields for a writer: digitizer channel, code, delta t, n, then the part of the samples.
abbrev pub TraceFieldsAsked : Trace → ℕ → Type 0
TraceFieldsAsked f =
    asks ((1 ≤ f.channel) × (f.channel ≤ 8)) 10 (
    asks (CodeListed channel_lines f.code) 10 (
    asks (1 ≤ f.delta) 10 (
    asks (Divides 2 f.n) 11 (
    asks (2 ≤ f.n) 11 (
    asks (f.n ≤ 32768) 11 (
    asks (length f.samples ≡ 2 * f.n) 6
    fine))))))

-- ---- history

-- FORMAT 5.3, a second time: the width w of a veto section of n times.
abbrev pub VetoWidth : ℕ → ℕ → Type 0
VetoWidth n w = (n ≡ 0) ↔ (w ≡ 0)

-- FORMAT 5.3, a second time: the width w of a trigger section of n times.
abbrev pub TriggerWidth : ℕ → ℕ → Type 0
TriggerWidth n w = ((n ≡ 0) × (w ≡ 0)) ⊎ ((0 < n) × (w ≡ 6))

-- FORMAT 5.3, a second time: a section whose count stands at the place p. Each count has its word within the body and isn't negative, and the
-- width is one for that many times.
abbrev pub SectionAsked : Order → (ℕ → ℕ → Type 0) → ℕ → List ℕ → (ℕ → Type 0) → ℕ → Type 0
SectionAsked o Widths p b rest =
    asks (p + 4 ≤ length b) 6 (
    asks (times_in o p b ≤ 0x7FFFFFFF) 10 (
    asks (p + 4 + 4 * times_in o p b + 4 ≤ length b) 6 (
    asks (width_in o p b ≤ 0x7FFFFFFF) 10 (
    asks (Widths (times_in o p b) (width_in o p b)) 10
    rest))))

-- FORMAT 5.3, a second time: a veto section, a trigger section behind it, and the body's end behind that.
abbrev pub HistoryAsked : Order → List ℕ → ℕ → Type 0
HistoryAsked o b =
    asks (16 ≤ length b) 6 (
    asks (Divides 4 (length b)) 6 (
    SectionAsked o VetoWidth 0 b (
    SectionAsked o TriggerWidth (section_end o 0 b) b (
    asks (length b ≡ section_end o (section_end o 0 b) b) 6
    fine))))

-- FORMAT 5.3, a second time: a body that is a veto section and a trigger section and nothing else.
pub record Fills (o : Order) (b : List ℕ) : Type 0 where
  pub nvt : ℕ
  pub nvw : ℕ
  pub ntt : ℕ
  pub ntw : ℕ
  pub veto_times : List ℕ
  pub veto_masks : List ℕ
  pub trigger_times : List ℕ
  pub trigger_masks : List ℕ
  pub filled : b ≡ words o (nvt ∷ []) ++ (veto_times ++ (words o (nvw ∷ []) ++ (veto_masks
      ++ (words o (ntt ∷ []) ++ (trigger_times ++ (words o (ntw ∷ []) ++ trigger_masks))))))
  pub lengths : (length veto_times ≡ 4 * nvt) × (length veto_masks ≡ 4 * (nvt * nvw))
      × (length trigger_times ≡ 4 * ntt) × (length trigger_masks ≡ 4 * (ntt * ntw))
  pub counts : (nvt ≤ 0x7FFFFFFF) × (nvw ≤ 0x7FFFFFFF) × (ntt ≤ 0x7FFFFFFF) × (ntw ≤ 0x7FFFFFFF)
  pub missing : (nvt ≡ 0) ↔ (nvw ≡ 0)
  pub six : ((ntt ≡ 0) × (ntw ≡ 0)) ⊎ ((0 < ntt) × (ntw ≡ 6))

-- FORMAT 5.3, a second time, of the fields for a writer: of each section a count, its list of times, the width, its list of masks.
abbrev pub SectionFieldsAsked : (ℕ → ℕ → Type 0) → Section → (ℕ → Type 0) → ℕ → Type 0
SectionFieldsAsked Widths s rest =
    asks (s.count ≤ 0x7FFFFFFF) 10 (
    asks (length s.times ≡ 4 * s.count) 6 (
    asks (s.width ≤ 0x7FFFFFFF) 10 (
    asks (Widths s.count s.width) 10 (
    asks (length s.masks ≡ 4 * (s.count * s.width)) 6
    rest))))

-- ---- GPS

-- FORMAT 5.4, a second time: what digits mean to a base, the lowest digit first.
abbrev pub spell : ℕ → List ℕ → ℕ
spell base [] = 0
spell base (d ∷ ds) = spell base ds * base + d

-- FORMAT 5.4, a second time: each digit is at most 9.
abbrev pub DecimalDigits : List ℕ → Type 0
DecimalDigits [] = Unit {0}
DecimalDigits (d ∷ ds) = (d ≤ 9) × DecimalDigits ds

-- FORMAT 5.4, a second time: n digits spell the lower part of the word w to the base 16 and the number v to the base 10.
abbrev pub Spelled : ℕ → ℕ → ℕ → Type 0
Spelled n w v = (ds : List ℕ) × (length ds ≡ n) × DecimalDigits ds × (w % 16 ^ n ≡ spell 16 ds) × (v ≡ spell 10 ds)

-- FORMAT 5.4, a second time: a Gregorian leap year.
abbrev pub Leap : ℕ → Type 0
Leap y = Divides 4 y × ((Divides 100 y → ⊥) ⊎ Divides 400 y)

-- FORMAT 5.4, a second time: the leap years before year y, from year 0 on, counted by division alone.
abbrev pub leaps_before : ℕ → ℕ
leaps_before y = (y + 3) / 4 - (y + 99) / 100 + (y + 399) / 400

-- FORMAT 5.4, a second time: year y has a day d, counted from 1.
abbrev pub DayOfYear : ℕ → ℕ → Type 0
DayOfYear y d = (1 ≤ d) × ((d ≤ 365) ⊎ ((d ≡ 366) × Leap y))

-- FORMAT 5.4, a second time: the words are the digits yyyydddd; a status digit, a zero digit, hhmmss; tenths. And these numbers are a time.
pub record GpsMeans (o : Order) (b : List ℕ) (f : Gps) : Type 0 where
  pub date : Spelled 8 (word o 0 b) (f.year * 10000 + f.day)
  pub time : (low : ℕ) × (word o 4 b ≡ f.status * 16 ^ 7 + low) × (low < 16 ^ 6)
      × Spelled 6 low (f.hour * 10000 + f.minute * 100 + f.second)
  pub part : Spelled 8 (word o 8 b) f.tenths
  pub day : DayOfYear f.year f.day
  pub status : f.status ≤ 15
  pub hour : f.hour ≤ 23
  pub minute : f.minute ≤ 59
  pub second : f.second ≤ 59
  pub tenths : f.tenths < 10000000

-- FORMAT 5.4, a second time: 12 bytes, whose digits are such numbers.
abbrev pub GpsAsked : Order → List ℕ → ℕ → Type 0
GpsAsked o b = asks (length b ≡ 12) 6 (asks ((f : Gps) × GpsMeans o b f) 10 fine)

-- ---- trigger and TLB

-- FORMAT 5.5, a second time: 28 bytes, whose first word is 0.
abbrev pub TriggerAsked : Order → List ℕ → ℕ → Type 0
TriggerAsked o b = asks (length b ≡ 28) 6 (asks (word o 0 b ≡ 0) 10 fine)

-- FORMAT 5.6, a second time: zero, or tower i above a mask of 24 bits.
abbrev pub TowerWord : ℕ → ℕ → Type 0
TowerWord i w = (w ≡ 0) ⊎ ((m : ℕ) × (m < 2 ^ 24) × (w ≡ i * 2 ^ 24 + m))

-- FORMAT 5.6, a second time: 24 bytes, a word for each tower in order.
abbrev pub TlbAsked : Order → List ℕ → ℕ → Type 0
TlbAsked o b =
    asks (length b ≡ 24) 6 (
    asks (TowerWord 1 (word o 0 b)) 10 (
    asks (TowerWord 2 (word o 4 b)) 10 (
    asks (TowerWord 3 (word o 8 b)) 10 (
    asks (TowerWord 4 (word o 12 b)) 10 (
    asks (TowerWord 5 (word o 16 b)) 10 (
    asks (TowerWord 6 (word o 20 b)) 10
    fine))))))

-- FORMAT 5.6, a second time: the binary digit of w that has the weight p is 1.
abbrev pub BitSet : ℕ → ℕ → Type 0
BitSet p w = (q : ℕ) × (r : ℕ) × (w ≡ (2 * q + 1) * p + r) × (r < p)

-- ---- any kind

-- FORMAT 6.1, a second time: what is asked of a body, by its kind word.
abbrev pub RuleAsked : Order → ℕ → List ℕ → ℕ → Type 0
RuleAsked o k b c =
    ((k ≡ 0x00010001) × PhononAsked o b c)
    ⊎ (((k ≡ 0x00010002) × ChargeAsked o b c)
    ⊎ (((k ≡ 0x02) × AdministrativeAsked o b c)
    ⊎ (((k ≡ 0x11) × TraceAsked o b c)
    ⊎ (((k ≡ 0x21) × HistoryAsked o b c)
    ⊎ (((k ≡ 0x60) × GpsAsked o b c)
    ⊎ (((k ≡ 0x80) × TriggerAsked o b c)
    ⊎ ((k ≡ 0x81) × TlbAsked o b c)))))))
