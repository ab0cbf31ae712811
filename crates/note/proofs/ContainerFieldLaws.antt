-- An event's class, category and type, and the header's two DAQ bytes: put into their word and read from it they are the same, and read from
-- an admitted word and put together again they are that word.
-- The idea: the numbers that are admitted are smaller than their bits, so that the parts of a word don't overlap.
use mathlib.Core.Path.{◌≡◌, refl, ◌∙◌}
use mathlib.Core.Bool.{true}
use mathlib.Core.List.{List, [], ◌∷◌}
use Prim.Native.Nat.{ℕ, suc, ◌/◌, ◌%◌, ◌≤◌, ◌<◌}
use native.Mathlib.Omega.{arith}
use Rattle.theory.specs.Words.{Fits}
use Rattle.theory.specs.Tests.{unless, among}
use Rattle.theory.proofs.TestLaws.{unless-zero, most_passed, equal_passed, equal_passes, first-at, first_passes}
use Rattle.note.specs.Events.{event_mark, class_of, category_of, event_type_of, event_word, event_fault, event_word_rule}
use Rattle.note.specs.Files.{format, version_word, daq_major_of, daq_minor_of, version_rule}
use Rattle.note.proofs.BoolLaws.{among_tells, up_to, one-up-to}

-- ---- an event's first word

-- A number among those listed is at most the largest of them.
most_among : (m : ℕ) (xs : List ℕ) (n c : ℕ) → up_to m xs ≡ true → unless (among n xs) (suc c) ≡ 0 → n ≤ m
most_among m xs n c u e = one-up-to m xs n u ((among_tells xs n).0 (unless-zero (among n xs) (suc c) (omega arith) e))

-- The word of an admitted class, category and type.
module _ (class category type : ℕ) (e : event_fault class category type ≡ 0) where
  pub admitted : (class ≤ 2) × (category ≤ 6) × (type ≤ 10)
  unfolding event_fault
  admitted = (
    most_among 2 (0 ∷ 2 ∷ []) class 6 refl (first-at _ e 0),
    most_among 6 (0 ∷ 1 ∷ 6 ∷ []) category 6 refl (first-at _ e 1),
    most_passed type 0xA 6 (first-at _ e 2),
  )

  pub event-word-fits : Fits 4 (event_word class category type)
  event-word-fits = let (a, b, c) = admitted in omega arith

  pub event_read_back : (class_of (event_word class category type) ≡ class) × (category_of (event_word class category type) ≡ category)
      × (event_type_of (event_word class category type) ≡ type)
  event_read_back = let (a, b, c) = admitted in (omega arith, omega arith, omega arith)

  -- And it is an event's first word.
  pub event_word_admitted : event_word_rule (event_word class category type) ≡ 0
  unfolding event_word_rule
  event_word_admitted =
      let (a, b, c) = admitted in
      let mark : event_word class category type / 65536 ≡ event_mark = omega arith in
      let (is, ic, it) = event_read_back in
      first_passes _ (equal_passes 5 mark, ((λ i. event_fault (is i) (ic i) (it i)) ∙ e, tt))

-- A row's first value, the low half of an event's word, has all three.
pub low_half_keeps : (w : ℕ) → (class_of (w % 65536) ≡ class_of w) × (category_of (w % 65536) ≡ category_of w)
    × (event_type_of (w % 65536) ≡ event_type_of w)
low_half_keeps w = (omega arith, omega arith, omega arith)

pub event_restored : (w : ℕ) → event_word_rule w ≡ 0
    → (event_fault (class_of w) (category_of w) (event_type_of w) ≡ 0) × (event_word (class_of w) (category_of w) (event_type_of w) ≡ w)
unfolding event_word_rule
event_restored w e =
    let mark : w / 65536 ≡ event_mark = equal_passed (w / 65536) event_mark 4 (first-at _ e 0) in
    (first-at _ e 1, omega arith)

-- ---- the header's version word

module _ (major minor : ℕ) (a : major < 256) (b : minor < 256) where
  pub header_read_back : (daq_major_of (version_word major minor) ≡ major) × (daq_minor_of (version_word major minor) ≡ minor)
      × (version_word major minor % 65536 ≡ format)
  header_read_back = (omega arith, omega arith, omega arith)

  pub header_admitted : (version_rule (version_word major minor) ≡ 0) × Fits 4 (version_word major minor)
  header_admitted = (equal_passes 4 header_read_back.2, omega arith)

pub header_restored : (v : ℕ) → Fits 4 v → version_rule v ≡ 0
    → (daq_major_of v < 256) × (daq_minor_of v < 256) × (version_word (daq_major_of v) (daq_minor_of v) ≡ v)
header_restored v fits e =
    let low : v % 65536 ≡ format = equal_passed (v % 65536) format 3 e in
    (omega (arith, fits), omega arith, omega arith)
