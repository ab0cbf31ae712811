-- Which answer Table gives, and which refusals Record, Setting and a sample by number give, as cases of which only one can be: each says what has
-- to be so for its number and place. Rows and Calls compute the answers; proofs/CallLaws.antt shows that they are these.
use Rattle.std.specs.Prelude.{ℕ, ◌*◌, ◌≤◌, ◌<◌, ◌≡◌, ◌⊎◌, ◌≢◌, List, length, drop}
use Rattle.theory.specs.declared.Order.{Order}
use Rattle.theory.specs.Tests.{ok, bad}
use Rattle.note.specs.Words.{word}
use Rattle.note.specs.Records.{Record, alone, read_record}
use Rattle.note.specs.Files.{File, read_file}
use Rattle.note.specs.Rows.{rows_of}
use Rattle.note.specs.Calls.{record_found}
use Rattle.note.specs.declared.TableAnswer.{TableAnswer}

-- FORMAT 8.2: Table over a file and a buffer of that many numbers: the file's refusal; 0 where the rows fit; else 12. The count is the rows
-- needed, the place the file's length.
pub data TableGives (bs : List ℕ) (capacity : ℕ) (a : TableAnswer) : Type 0 where
  file-refused : (c p : ℕ) → read_file bs ≡ bad c p → a ≡ record { number = c; count = 0; place = p } → TableGives bs capacity a
  rows_fit : (f : File) → read_file bs ≡ ok f → 6 * length (rows_of f) ≤ capacity
      → a ≡ record { number = 0; count = length (rows_of f); place = length bs } → TableGives bs capacity a
  rows_too_many : (f : File) → read_file bs ≡ ok f → capacity < 6 * length (rows_of f)
      → a ≡ record { number = 12; count = length (rows_of f); place = length bs } → TableGives bs capacity a

-- FORMAT 8.5: Record's refusal: 1 at 0 for a file over the limit; else that of what is read alone from the place on.
pub data RecordRefused (o : Order) (bs : List ℕ) (place c p : ℕ) : Type 0 where
  file-over : 16777216 < length bs → c ≡ 1 → p ≡ 0 → RecordRefused o bs place c p
  not-read : length bs ≤ 16777216 → read_record o alone place (drop place bs) ≡ bad c p → RecordRefused o bs place c p

-- FORMAT 8.6: Setting's: Record's, then 5 at the place for what is neither a phonon nor a charge entry.
pub data SettingRefused (o : Order) (bs : List ℕ) (place c p : ℕ) : Type 0 where
  no_record : record_found o bs place ≡ bad c p → SettingRefused o bs place c p
  no_entry : (r : Record) → record_found o bs place ≡ ok r → r.word ≢ 0x00010001 → r.word ≢ 0x00010002 → c ≡ 5 → p ≡ place
      → SettingRefused o bs place c p

-- FORMAT 8.7: sample k's: Record's, then 5 at the place for what is no trace, then 11 there for a k that isn't 1 to n.
pub data SampleRefused (o : Order) (bs : List ℕ) (place k c p : ℕ) : Type 0 where
  nothing-found : record_found o bs place ≡ bad c p → SampleRefused o bs place k c p
  no_trace : (r : Record) → record_found o bs place ≡ ok r → r.word ≢ 0x11 → c ≡ 5 → p ≡ place → SampleRefused o bs place k c p
  no_sample : (r : Record) → record_found o bs place ≡ ok r → r.word ≡ 0x11 → (k ≡ 0) ⊎ (word o 44 r.body < k) → c ≡ 11 → p ≡ place
      → SampleRefused o bs place k c p
