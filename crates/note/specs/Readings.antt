-- What is asked of a structure where it stands, a second time: the order of what is asked of a record or entry, of the header, of a
-- configuration and of an event, with the number that is given at its first byte where something isn't so; and what is read where all is so.
use Rattle.std.specs.Prelude.{ℕ, ◌+◌, ◌*◌, ◌≤◌, ◌<◌, ◌≡◌, Bool, false, ◌||◌, List, [], ◌∷◌, eqb, length, take, drop}
use Rattle.theory.specs.declared.Order.{Order}
use Rattle.theory.specs.Tests.{Res, ok, bind}
use Rattle.note.specs.Asked.{asks, fine, OneOf}
use Rattle.note.specs.Words.{word}
use Rattle.note.specs.Records.{Record, Seen, Context, read_records}
use Rattle.note.specs.Events.{Container}
use Rattle.note.specs.Rules.{RuleAsked}

-- ---- a record or an entry

-- FORMAT 6.1, a second time: k is among the kinds.
abbrev pub has_kind : ℕ → List ℕ → Bool
has_kind k [] = false
has_kind k (x ∷ xs) = eqb x k || has_kind k xs

-- FORMAT 6.1, a second time: what is kept in mind after records of these kinds, the latest first.
abbrev pub seen_after : List ℕ → Seen
seen_after ks = record {
  administrative = has_kind 0x02 ks;
  history = has_kind 0x21 ks;
  gps = has_kind 0x60 ks;
  trigger = has_kind 0x80 ks;
  tlb = has_kind 0x81 ks;
}

-- FORMAT 2.3, a second time: the body of what stands at the front of bs is what its length says.
abbrev pub body_of : Order → List ℕ → List ℕ
body_of o bs = take (word o 4 bs) (drop 8 bs)

-- FORMAT 6.1, a second time: a record or entry at the front of bs, of a kind that is allowed here (5) and placed as it may (9).
abbrev pub RecordAsked : Order → (ℕ → Type 0) → (ℕ → Type 0) → List ℕ → ℕ → Type 0
RecordAsked o Allowed Placed bs =
    asks (8 ≤ length bs) 2 (
    asks (Allowed (word o 0 bs)) 5 (
    asks (8 + word o 4 bs ≤ length bs) 2 (
    asks (Placed (word o 0 bs)) 9 (
    RuleAsked o (word o 0 bs) (body_of o bs)))))

-- FORMAT 6.1, a second time: what is read then.
abbrev pub record_read : Order → List ℕ → Res Record
record_read o bs = ok (record { word = word o 0 bs; body = body_of o bs })

-- ---- the header

-- FORMAT 6.4, a second time: a word of 32 bits as DAQ major, DAQ minor, format major and format minor, a byte each, from the highest down.
pub record VersionParts (v daq_major daq_minor major minor : ℕ) : Type 0 where
  pub sum : v ≡ daq_major * 0x1000000 + daq_minor * 0x10000 + major * 0x100 + minor
  pub daq_minor_byte : daq_minor < 256
  pub major-byte : major < 256
  pub minor-byte : minor < 256

-- FORMAT 6.4, a second time: the DAQ bytes are free; a format other than 2.0 gives 4.
abbrev pub VersionAsked : ℕ → ℕ → ℕ → Type 0
VersionAsked major minor = asks ((major ≡ 2) × (minor ≡ 0)) 4 fine

-- FORMAT 6.4, a second time: the header's mark, and a version word whose parts are these.
abbrev pub HeaderAsked : Order → ℕ → ℕ → List ℕ → ℕ → Type 0
HeaderAsked o major minor bs = asks (8 ≤ length bs) 2 (asks (word o 0 bs ≡ 0x01020304) 3 (VersionAsked major minor))

-- ---- the containers

-- FORMAT 2.3, a second time: a container's contents, read in their context from behind its eight bytes on.
abbrev pub contents_read : Order → Context → ℕ → List ℕ → Res Container
contents_read o c at bs = bind (read_records o c (at + 8) (body_of o bs)) (λ rs. ok (record { word = word o 0 bs; body = rs }))

-- FORMAT 6.3, a second time: a configuration at the front of bs.
abbrev pub ConfigurationAsked : Order → List ℕ → ℕ → Type 0
ConfigurationAsked o bs = asks (8 ≤ length bs) 2 (asks (word o 0 bs ≡ 0x00010000) 5 (asks (8 + word o 4 bs ≤ length bs) 2 fine))

-- FORMAT 6.2, a second time: a word of 32 bits as 16 bits, a class of 4, a category of 4 and a type of 8.
pub record EventParts (w mark class category type : ℕ) : Type 0 where
  pub sum : w ≡ mark * 0x10000 + class * 0x1000 + category * 0x100 + type
  pub class-bits : class < 16
  pub category-bits : category < 16
  pub type-bits : type < 256

-- FORMAT 6.2, a second time: what is asked of class, category and type before the rest: 7 for each that isn't admitted, then 8 for type 7.
abbrev pub EventAsked : ℕ → ℕ → ℕ → (ℕ → Type 0) → ℕ → Type 0
EventAsked class category type rest =
    asks (OneOf (0 ∷ 2 ∷ []) class) 7 (
    asks (OneOf (0 ∷ 1 ∷ 6 ∷ []) category) 7 (
    asks (type ≤ 10) 7 (
    asks (type ≡ 7 → ⊥) 8
    rest)))

-- FORMAT 6.2, a second time: an event at the front of bs, its first word having these parts: room, 0xA980, class, category and type, its length
-- against the rest, an empty one.
abbrev pub EventOwnAsked : Order → ℕ → ℕ → ℕ → ℕ → List ℕ → ℕ → Type 0
EventOwnAsked o mark class category type bs =
    asks (8 ≤ length bs) 2 (
    asks (mark ≡ 0xA980) 5 (
    EventAsked class category type (
    asks (8 + word o 4 bs ≤ length bs) 2 (
    asks (1 ≤ word o 4 bs) 9
    fine))))
