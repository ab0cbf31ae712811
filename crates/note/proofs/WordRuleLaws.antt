-- The first word of an event and the version word, said a second time: by the parts that they are put together from.
-- The idea: a word is the sum of its parts in one way only, so the parts that the rules take by division are these.
use Prim.Native.Nat.{ℕ, ◌+◌, ◌*◌, ◌/◌, ◌%◌, ◌<◌}
use mathlib.Core.Path.{◌≡◌, refl}
use mathlib.Core.Logic.{◌↔◌}
use mathlib.Core.List.{List, [], ◌∷◌}
use native.Mathlib.Omega.{arith}
use lib.Dec.{eqb}
use Rattle.note.specs.Asked.{asks, fine}
use Rattle.note.specs.Events.{class_of, category_of, event_type_of, event_word, event_fault, event_word_rule}
use Rattle.note.specs.Files.{version_word, version_rule}
use Rattle.note.specs.Readings.{VersionParts, VersionAsked, EventParts, EventAsked}
use Rattle.note.proofs.BoolLaws.{Tells, among_tells, le_tells, eq_tells}
use Rattle.note.proofs.AskedLaws.{Gives, no_more, asked, asked_of_part, alone_gives, not_tells}

-- ---- an event's first word

-- Every word has these parts, and an event that is closed with a class, a category and a type has these.
pub event-parts : (w : ℕ) → (mark : ℕ) × (class : ℕ) × (category : ℕ) × (type : ℕ) × EventParts w mark class category type
event-parts w =
    let a : w / 256 / 16 ≡ w / 4096 = omega arith in
    let b : w / 4096 / 16 ≡ w / 65536 = omega arith in (
      w / 65536,
      w / 4096 % 16,
      w / 256 % 16,
      w % 256,
      record { sum = omega arith; class-bits = omega arith; category-bits = omega arith; type-bits = omega arith },
    )

pub closed_parts : (class category type : ℕ) → class < 16 → category < 16 → type < 256
    → EventParts (event_word class category type) 0xA980 class category type
closed_parts class category type c k t = record { sum = refl; class-bits = c; category-bits = k; type-bits = t }

pub event_gives : (class category type : ℕ) {ds : List ℕ} {rest : ℕ → Type 0} → Gives ds rest
    → Gives (event_fault class category type ∷ ds) (EventAsked class category type rest)
unfolding event_fault
event_gives class category type given =
    asked_of_part (_ ∷ _ ∷ _ ∷ _ ∷ []) (
    asked (among_tells (0 ∷ 2 ∷ []) class) (
    asked (among_tells (0 ∷ 1 ∷ 6 ∷ []) category) (
    asked (le_tells type 10) (
    asked (not_tells (eq_tells type 7))
    given))))

pub event_fault_exact : (class category type c : ℕ) → (event_fault class category type ≡ c) ↔ EventAsked class category type fine c
event_fault_exact class category type = alone_gives (event_gives class category type no_more)

taken_apart : (w mark class category type : ℕ) → EventParts w mark class category type
    → (w / 65536 ≡ mark) × (class_of w ≡ class) × (category_of w ≡ category) × (event_type_of w ≡ type)
taken_apart w mark class category type p =
    let e = p.sum in
    let a : w / 256 ≡ mark * 256 + class * 16 + category = omega arith in
    let b : w / 4096 ≡ mark * 16 + class = omega arith in
    (omega arith, rw b (omega arith), rw a (omega arith), omega arith)

-- The rule gives 5 for a word that doesn't begin with 0xA980, and then what is asked of class, category and type.
module _ (w mark class category type : ℕ) (p : EventParts w mark class category type) where
  pub word_gives : {ds : List ℕ} {rest : ℕ → Type 0} → Gives ds rest
      → Gives (event_word_rule w ∷ ds) (asks (mark ≡ 0xA980) 5 (EventAsked class category type rest))
  unfolding event_word_rule
  word_gives given =
      let (m, k, g, t) = taken_apart w mark class category type p in
      asked_of_part (_ ∷ _ ∷ []) (rw (m, k, g, t) (asked (eq_tells mark 0xA980) (event_gives class category type given)))

  pub event_word_exact : (c : ℕ) → (event_word_rule w ≡ c) ↔ asks (mark ≡ 0xA980) 5 (EventAsked class category type fine) c
  event_word_exact = alone_gives (word_gives no_more)

-- ---- the version word

pub version-parts : (v : ℕ) → (daq_major : ℕ) × (daq_minor : ℕ) × (major : ℕ) × (minor : ℕ) × VersionParts v daq_major daq_minor major minor
version-parts v =
    let a : v / 256 / 256 ≡ v / 65536 = omega arith in
    let b : v / 65536 / 256 ≡ v / 16777216 = omega arith in (
      v / 16777216,
      v / 65536 % 256,
      v / 256 % 256,
      v % 256,
      record { sum = omega arith; daq_minor_byte = omega arith; major-byte = omega arith; minor-byte = omega arith },
    )

-- The header's writer writes the DAQ bytes and format 2.0.
pub written-version : (daq_major daq_minor : ℕ) → daq_minor < 256 → VersionParts (version_word daq_major daq_minor) daq_major daq_minor 2 0
written-version daq_major daq_minor h = record { sum = omega arith; daq_minor_byte = h; major-byte = omega arith; minor-byte = omega arith }

format_tells : (v daq_major daq_minor major minor : ℕ) → VersionParts v daq_major daq_minor major minor
    → Tells (eqb (v % 65536) 0x0200) ((major ≡ 2) × (minor ≡ 0))
format_tells v daq_major daq_minor major minor p =
    let e = p.sum in
    let l = p.major-byte in
    let m = p.minor-byte in (
      λ t. let q = (eq_tells (v % 65536) 0x0200).0 t in (omega arith, omega arith),
      λ h. (eq_tells (v % 65536) 0x0200).1 (omega arith),
    )

pub version_gives : (v daq_major daq_minor major minor : ℕ) → VersionParts v daq_major daq_minor major minor
    → Gives (version_rule v ∷ []) (VersionAsked major minor)
version_gives v daq_major daq_minor major minor p = asked (format_tells v daq_major daq_minor major minor p) no_more

pub version_exact : (v daq_major daq_minor major minor : ℕ) → VersionParts v daq_major daq_minor major minor
    → (c : ℕ) → (version_rule v ≡ c) ↔ VersionAsked major minor c
version_exact v daq_major daq_minor major minor p = alone_gives (version_gives v daq_major daq_minor major minor p)
