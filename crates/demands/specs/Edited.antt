-- One byte changed inside a trace's samples: the file is still accepted, with the same rows; the sample that holds the byte has it and keeps its
-- other one; every other sample, field and byte reads as before. Each of these is said of the calls, since that is where a caller would see it.
use Rattle.std.specs.Prelude.{ℕ, ◌+◌, ◌-◌, ◌*◌, ◌/◌, ◌%◌, ◌<◌, ◌≡◌, ◌≢◌, Bool, true, false, List, [], ◌∷◌, eqb, length, take, drop, get_or, set}
use Rattle.theory.specs.declared.Order.{Order}
use Rattle.theory.specs.Tests.{ok}
use Rattle.theory.specs.Layout.{row, own}
use Rattle.note.specs.Words.{byte_at}
use Rattle.note.specs.Answers.{accepted, counts}
use Rattle.note.specs.Files.{File, read_file}
use Rattle.note.specs.Rows.{rows_of, is_box}
use Rattle.note.specs.Calls.{record_at, setting_at, samples_part, samples_at, sample_at}

-- Row k's first byte.
abbrev pub start_of : File → ℕ → ℕ
start_of f k = (row (rows_of f) k).start

-- ---- the sample that holds a byte

-- FORMAT 5.2: byte i of the file, counted from 0 among the samples of the trace that begins at `start`: they begin 56 bytes further on.
abbrev pub offset : ℕ → ℕ → ℕ
offset start i = i - (start + 56)

-- FORMAT 1.2: which byte that is where each word's bytes are counted from its lowest up, as the samples of a word are.
abbrev pub counted : Order → ℕ → ℕ → ℕ
counted o start i = byte_at o (offset start i)

-- FORMAT 8.7: the number, from 1, of the sample that holds byte i.
abbrev pub holder : Order → ℕ → ℕ → ℕ
holder o start i = counted o start i / 2 + 1

-- The number that the two bytes of sample k spell, the lower one first, of samples from byte p on; and of the sample that holds byte i.
abbrev pub pair : Order → List ℕ → ℕ → ℕ → ℕ
pair o bs p k = get_or bs (p + byte_at o (2 * (k - 1))) 0 + 256 * get_or bs (p + byte_at o (2 * (k - 1) + 1)) 0

abbrev pub held : Order → List ℕ → ℕ → ℕ → ℕ
held o bs start i = pair o bs (start + 56) (holder o start i)

-- A sample s with its lower byte (true) or its upper byte replaced by x, the other one kept; of a byte that counts as
-- an even one it is the lower.
abbrev pub half_replaced : Bool → ℕ → ℕ → ℕ
half_replaced true x s = s / 256 * 256 + x
half_replaced false x s = x * 256 + s % 256

abbrev pub replaced : ℕ → ℕ → ℕ → ℕ
replaced m x s = half_replaced (eqb (m % 2) 0) x s

-- FORMAT 8.7: of the trace that begins at `start` and is `whole` bytes long, byte i, inside its samples, becomes x. The sample that holds it is
-- given before and after; a different byte makes a different sample. Samples gives all the trace's bytes behind the first 56, the same part
-- before and after, its bytes with that one replaced.
pub record SampleEdited (o : Order) (bs : List ℕ) (start whole i x : ℕ) : Type 0 where
  pub was : sample_at o bs start (holder o start i) ≡ accepted (counts (held o bs start i ∷ []))
  pub becomes : sample_at o (set bs i x) start (holder o start i) ≡ accepted (counts (replaced (counted o start i) x (held o bs start i) ∷ []))
  pub differs : x ≢ get_or bs i 0 → replaced (counted o start i) x (held o bs start i) ≢ held o bs start i
  pub part : samples_part o bs start ≡ (start + 56, whole - 56)
  pub bytes : samples_at o bs start ≡ take (whole - 56) (drop (start + 56) bs)
  pub part_stays : samples_part o (set bs i x) start ≡ samples_part o bs start
  pub part_bytes : samples_at o (set bs i x) start ≡ set (samples_at o bs start) (offset start i) x

-- ---- what stays

-- FORMAT 5.3: a section of a history, as Record's answer gives it: n times from byte t on, then n masks of w words each from byte m on. The bytes
-- of both lists are the same in bs and in bs'.
abbrev pub SameSection : List ℕ → List ℕ → ℕ → ℕ → ℕ → ℕ → Type 0
SameSection bs bs' n t w m =
    (take (4 * n) (drop t bs') ≡ take (4 * n) (drop t bs)) × (take (4 * (n * w)) (drop m bs') ≡ take (4 * (n * w)) (drop m bs))

-- Where Record finds a history at `start`: veto and trigger section.
abbrev pub SameLists : Order → List ℕ → List ℕ → ℕ → Type 0
SameLists o bs bs' start = (n t w m n' t' w' m' : ℕ)
    → record_at o bs start ≡ accepted (counts (8 ∷ n ∷ t ∷ w ∷ m ∷ n' ∷ t' ∷ w' ∷ m' ∷ []))
    → SameSection bs bs' n t w m × SameSection bs bs' n' t' w' m'

-- In the accepted file f of the bytes bs, row j is a trace, and byte i, inside its samples, becomes x. Calls by place are given the order o.
pub record Edited (o : Order) (bs : List ℕ) (f : File) (j i x : ℕ) : Type 0 where
  pub file : File
  pub accepted : read_file (set bs i x) ≡ ok file
  pub same_rows : rows_of file ≡ rows_of f
  pub sample_changes : SampleEdited o bs (start_of f j) (row (rows_of f) j).whole i x
  pub other_samples_stay : (k n : ℕ) → k < length (rows_of f) → ((k ≡ j) × (n ≡ holder o (start_of f j) i) → ⊥)
      → sample_at o (set bs i x) (start_of f k) n ≡ sample_at o bs (start_of f k) n
  pub other_parts_stay : (k : ℕ) → k < length (rows_of f) → k ≢ j
      → (samples_part o (set bs i x) (start_of f k) ≡ samples_part o bs (start_of f k))
      × (samples_at o (set bs i x) (start_of f k) ≡ samples_at o bs (start_of f k))
  pub fields_stay : (k : ℕ) → k < length (rows_of f) → record_at o (set bs i x) (start_of f k) ≡ record_at o bs (start_of f k)
  pub lists_stay : (k : ℕ) → k < length (rows_of f) → SameLists o bs (set bs i x) (start_of f k)
  pub settings_stay : (k : ℕ) → k < length (rows_of f) → setting_at o (set bs i x) (start_of f k) ≡ setting_at o bs (start_of f k)
  pub other_rows_stay : (k n : ℕ) → k < length (rows_of f) → k ≢ j → n < own is_box (row (rows_of f) k)
      → get_or (set bs i x) (start_of f k + n) 0 ≡ get_or bs (start_of f k + n) 0
  pub same_length : length (set bs i x) ≡ length bs
  pub other_bytes_stay : (m : ℕ) → m ≢ i → get_or (set bs i x) m 0 ≡ get_or bs m 0
