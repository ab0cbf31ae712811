-- What the calls give after one byte is changed inside a trace's samples, in terms of a caller's buffer and answers alone. demands/specs/Edited says
-- the same of the file that was read.
use Rattle.std.specs.Prelude.{ℕ, ◌+◌, ◌≤◌, ◌<◌, ◌≡◌, ◌≢◌, List, length, get_or, set}
use Rattle.note.specs.Files.{order_of}
use Rattle.note.specs.Rows.{table_answer, table_buffer, yield_at}
use Rattle.note.specs.Visitor.{visit_answer, visit_buffer}
use Rattle.note.specs.Calls.{record_at, setting_at, samples_part, samples_at, sample_at, find_at}
use Rattle.demands.specs.Edited.{holder, SampleEdited, SameLists}
use Rattle.promises.specs.Buffers.{table_count, table_row}

-- FORMAT 5.2, 8.2: Table has answered 0 for the bytes bs and the buffer old, and row j of the buffer is a trace; byte i is inside its samples,
-- which begin 56 bytes from its first byte, and x is a byte.
pub record SampleByte (bs old : List ℕ) (j i x : ℕ) : Type 0 where
  pub answered : (table_answer bs (length old)).number ≡ 0
  pub counted : j < table_count bs old
  pub trace : (table_row bs old j).kind ≡ 7
  pub from : (table_row bs old j).start + 56 ≤ i
  pub below : i < (table_row bs old j).start + (table_row bs old j).whole
  pub byte : x < 256

-- Byte i of bs becomes x. Table's and the visitor's answers for every capacity, their buffers, the walker's yields and what Find gives
-- for every number and code are the same. At the start of each row in the buffer Record and Setting answer the same, and where Record
-- finds a history its lists have the same bytes. Of the samples only the one that holds byte i changes, by that byte alone; Samples gives
-- the same parts, and their bytes but for that one. Every other byte of the file reads as before.
pub record EditedCalls (bs old : List ℕ) (j i x : ℕ) : Type 0 where
  pub same_answer : (capacity : ℕ) → table_answer (set bs i x) capacity ≡ table_answer bs capacity
  pub same_buffer : (other : List ℕ) → table_buffer (set bs i x) other ≡ table_buffer bs other
  pub same_yields : (k : ℕ) → yield_at (set bs i x) k ≡ yield_at bs k
  pub same_visits : (k capacity : ℕ) → visit_answer (set bs i x) k capacity ≡ visit_answer bs k capacity
  pub same_visited : (k : ℕ) (other : List ℕ) → visit_buffer (set bs i x) k other ≡ visit_buffer bs k other
  pub same-finds : (number code : ℕ) → find_at (set bs i x) number code ≡ find_at bs number code
  pub same-records : (k : ℕ) → k < table_count bs old
      → record_at (order_of bs) (set bs i x) (table_row bs old k).start ≡ record_at (order_of bs) bs (table_row bs old k).start
  pub same_lists : (k : ℕ) → k < table_count bs old → SameLists (order_of bs) bs (set bs i x) (table_row bs old k).start
  pub same_settings : (k : ℕ) → k < table_count bs old
      → setting_at (order_of bs) (set bs i x) (table_row bs old k).start ≡ setting_at (order_of bs) bs (table_row bs old k).start
  pub sample_changes : SampleEdited (order_of bs) bs (table_row bs old j).start (table_row bs old j).whole i x
  pub other_samples_stay : (k n : ℕ) → k < table_count bs old → ((k ≡ j) × (n ≡ holder (order_of bs) (table_row bs old j).start i) → ⊥)
      → sample_at (order_of bs) (set bs i x) (table_row bs old k).start n ≡ sample_at (order_of bs) bs (table_row bs old k).start n
  pub other_parts_stay : (k : ℕ) → k < table_count bs old → k ≢ j
      → (samples_part (order_of bs) (set bs i x) (table_row bs old k).start ≡ samples_part (order_of bs) bs (table_row bs old k).start)
      × (samples_at (order_of bs) (set bs i x) (table_row bs old k).start ≡ samples_at (order_of bs) bs (table_row bs old k).start)
  pub same_length : length (set bs i x) ≡ length bs
  pub other_bytes_stay : (m : ℕ) → m ≢ i → get_or (set bs i x) m 0 ≡ get_or bs m 0
