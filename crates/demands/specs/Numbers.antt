-- Which numbers each call can refuse with, and at which place. The lists are as short as they can be: no number stands in one that its call never
-- gives (proofs/NumberExamples.antt). 1 stands in none: it is given for a buffer over the limit (Refusals) and nowhere else.
use Rattle.std.specs.Prelude.{ℕ, ◌+◌, ◌*◌, ◌≤◌, ◌<◌, ◌≡◌, true, List, [], ◌∷◌, length}
use Rattle.theory.specs.Tests.{ok, among}
use Rattle.note.specs.Limits.{row_width}
use Rattle.note.specs.Records.{Context, entry, event, alone}
use Rattle.note.specs.Files.{File, read_file}
use Rattle.note.specs.Rows.{rows_of}
use Rattle.note.specs.declared.TableAnswer.{TableAnswer}
use Rattle.demands.specs.Refusals.{Refusal}
use Rattle.demands.specs.Pieces.{Piece, phonon, charge, administrative, trace, history, gps, trigger, tlb}

-- A refusal c at the place p: one of these numbers, at this place; or from this place on.
abbrev pub At : ℕ → List ℕ → ℕ → ℕ → Type 0
At place ns c p = (among c ns ≡ true) × (p ≡ place)

abbrev pub From : ℕ → List ℕ → ℕ → ℕ → Type 0
From place ns c p = (among c ns ≡ true) × (place ≤ p)

-- ---- reading

-- FORMAT 2.1, 6.1: one record or entry, by where it is read: a configuration's entries have no rule that gives 11, and only an event asks for an
-- order (9).
abbrev pub record_numbers : Context → List ℕ
record_numbers entry = 2 ∷ 5 ∷ 6 ∷ 10 ∷ []
record_numbers (event seen) = 2 ∷ 5 ∷ 6 ∷ 9 ∷ 10 ∷ 11 ∷ []
record_numbers alone = 2 ∷ 5 ∷ 6 ∷ 10 ∷ 11 ∷ []

-- FORMAT 2.2: a container at the place: itself, or its contents behind its eight bytes.
pub data ContainerNumbers (place : ℕ) (own contents : List ℕ) (c p : ℕ) : Type 0 where
  itself : At place own c p → ContainerNumbers place own contents c p
  inside : From (place + 8) contents c p → ContainerNumbers place own contents c p

-- FORMAT 6.5: a file: its header at byte 0, its configuration at byte 8, and all that stands behind the configuration's first eight bytes.
abbrev pub header_numbers : List ℕ
header_numbers = 2 ∷ 3 ∷ 4 ∷ []

abbrev pub configuration_numbers : List ℕ
configuration_numbers = 2 ∷ 5 ∷ []

abbrev pub rest_numbers : List ℕ
rest_numbers = 2 ∷ 5 ∷ 6 ∷ 7 ∷ 8 ∷ 9 ∷ 10 ∷ 11 ∷ []

pub data FileNumbers (c p : ℕ) : Type 0 where
  of_header : At 0 header_numbers c p → FileNumbers c p
  of_configuration : At 8 configuration_numbers c p → FileNumbers c p
  of_rest : From 16 rest_numbers c p → FileNumbers c p

-- FORMAT 8.3, 8.4, 8.8: the refusals of a whole file: those of Find, of a walker's yields and of the visitor.
abbrev pub FileRefusal : List ℕ → ℕ → ℕ → Type 0
FileRefusal bs c p = Refusal (length bs) FileNumbers c p

-- FORMAT 8.5, 8.6, 8.7: Record's, Setting's and a sample's, at the place asked.
abbrev pub RecordRefusal : List ℕ → ℕ → ℕ → ℕ → Type 0
RecordRefusal bs place c p = Refusal (length bs) (At place (record_numbers alone)) c p

-- FORMAT 8.2: Table's: the file's, with count 0; or 12 over an accepted file, the count being the rows needed and the place the file's length.
pub data TableRefusal (bs : List ℕ) (capacity : ℕ) (a : TableAnswer) : Type 0 where
  of_file : FileRefusal bs a.number a.place → a.count ≡ 0 → TableRefusal bs capacity a
  few_rows_lem : (f : File) → read_file bs ≡ ok f → capacity < row_width * length (rows_of f)
      → a.number ≡ 12 → a.count ≡ length (rows_of f) → a.place ≡ length bs → TableRefusal bs capacity a

-- ---- writing

-- FORMAT 9.2: what the writer of each kind gives at the place given: its fields' numbers, and 13.
abbrev pub writer_numbers : Piece → List ℕ
writer_numbers (phonon f) = 10 ∷ 13 ∷ []
writer_numbers (charge f) = 10 ∷ 13 ∷ []
writer_numbers (administrative f) = 10 ∷ 13 ∷ []
writer_numbers (trace f) = 6 ∷ 10 ∷ 11 ∷ 13 ∷ []
writer_numbers (history f) = 6 ∷ 10 ∷ 13 ∷ []
writer_numbers (gps f) = 10 ∷ 13 ∷ []
writer_numbers (trigger f) = 13 ∷ []
writer_numbers (tlb f) = 10 ∷ 13 ∷ []

abbrev pub WriterRefusal : List ℕ → ℕ → List ℕ → ℕ → ℕ → Type 0
WriterRefusal out place ns c p = Refusal (length out) (At place ns) c p

-- FORMAT 9.4: a closing's own refusals have the place given; a fault of its contents stands in them.
abbrev pub configuration_closing_numbers : List ℕ
configuration_closing_numbers = 13 ∷ []

abbrev pub event_closing_numbers : List ℕ
event_closing_numbers = 7 ∷ 8 ∷ 9 ∷ 13 ∷ []

abbrev pub ClosingRefusal : List ℕ → ℕ → List ℕ → Context → ℕ → ℕ → Type 0
ClosingRefusal out place own context c p = Refusal (length out) (ContainerNumbers place own (record_numbers context)) c p

-- FORMAT 9.5: Rewrite's: the file's own, or 13, whose place is 0.
pub data RewriteNumbers (bs : List ℕ) (c p : ℕ) : Type 0 where
  of_read : FileRefusal bs c p → RewriteNumbers bs c p
  small_output : At 0 (13 ∷ []) c p → RewriteNumbers bs c p
