-- What a row's kind, start, whole length and both values say of the bytes that stand there, read from the bytes and from Record's answer: so that
-- rows aren't only as many as they should be but tell what the file holds. The parent is told in Parents.
use Rattle.std.specs.Prelude.{ℕ, suc, ◌+◌, ◌/◌, ◌%◌, ◌≤◌, ◌≡◌, ◌≢◌, List}
use Rattle.theory.specs.declared.Order.{Order}
use Rattle.theory.specs.Tests.{ok}
use Rattle.theory.specs.Layout.{Row, child_row, child_count}
use Rattle.note.specs.Words.{word, unsigned}
use Rattle.note.specs.Gps.{gps_bytes}
use Rattle.note.specs.Records.{record_size}
use Rattle.note.specs.Rows.{child_of}
use Rattle.note.specs.Calls.{record_found, record_at}
use Rattle.demands.specs.Pieces.{Piece, phonon, charge, administrative, trace, history, gps, trigger, tlb, record_of, answer_of}

-- FORMAT 6.4, 7.2: the header's row: the file's first eight bytes, the version word.
pub record HeaderRow (o : Order) (bs : List ℕ) (r : Row) : Type 0 where
  pub kind : r.kind ≡ 1
  pub start : r.start ≡ 0
  pub whole : r.whole ≡ 8
  pub first_word : word o 0 bs ≡ 0x01020304
  pub one : r.one ≡ word o 4 bs
  pub two : r.two ≡ 0

-- FORMAT 6.3, 7.2: the configuration's row: it stands at byte 8; its length word; as many entries as rows have it, row number 2, as their parent.
pub record ConfigurationRow (o : Order) (bs : List ℕ) (all : List Row) (r : Row) : Type 0 where
  pub kind : r.kind ≡ 2
  pub start : r.start ≡ 8
  pub first_word : word o r.start bs ≡ 0x00010000
  pub whole : r.whole ≡ 8 + word o (r.start + 4) bs
  pub one : r.one ≡ child_count 2 all
  pub two : r.two ≡ 0

-- FORMAT 6.2, 7.2: an event's row, row j from 0: the halves of its first word; its length word; as many records as rows have it as their parent.
pub record EventRow (o : Order) (bs : List ℕ) (all : List Row) (j : ℕ) (r : Row) : Type 0 where
  pub upper_half : word o r.start bs / 65536 ≡ 0xA980
  pub whole : r.whole ≡ 8 + word o (r.start + 4) bs
  pub one : r.one ≡ word o r.start bs % 65536
  pub two : r.two ≡ child_count (suc j) all

-- FORMAT 7.2: the row kind of a record or an entry, and its row's two values, as fields of Record's answer; of GPS the two words that the fields
-- make.
unfoldable pub row_kind : Piece → ℕ
row_kind (phonon f) = 3
row_kind (charge f) = 4
row_kind (administrative f) = 6
row_kind (trace f) = 7
row_kind (history f) = 8
row_kind (gps f) = 9
row_kind (trigger f) = 10
row_kind (tlb f) = 11

unfoldable pub row_values : Order → Piece → ℕ × ℕ
row_values o (phonon f) = (unsigned f.code, unsigned f.tower)
row_values o (charge f) = (unsigned f.code, unsigned f.tower)
row_values o (administrative f) = (f.number, f.time)
row_values o (trace f) = (f.code, f.n)
row_values o (history f) = (f.veto.count, f.trigger.count)
row_values o (gps f) = (word o 0 (gps_bytes o f), word o 4 (gps_bytes o f))
row_values o (trigger f) = (f.mask1, f.mask2)
row_values o (tlb f) = (f.tower1, f.tower2)

-- FORMAT 7.2, 8.5: the row of a record or an entry: the fields that Record answers at its start, of the record that it finds there; that record's
-- kind and size, which is its length word's; two of those fields. It is the row that the definition of rows makes of that record, in words of its
-- body.
pub record PieceRow (o : Order) (bs : List ℕ) (r : Row) : Type 0 where
  pub fields : Piece
  pub found : record_found o bs r.start ≡ ok (record_of o fields)
  pub answer : record_at o bs r.start ≡ answer_of r.start fields
  pub kind : r.kind ≡ row_kind fields
  pub whole : r.whole ≡ 8 + word o (r.start + 4) bs
  pub size : r.whole ≡ record_size (record_of o fields)
  pub one : r.one ≡ (row_values o fields).0
  pub two : r.two ≡ (row_values o fields).1
  pub by-words : r ≡ child_row r.parent r.start (child_of o (record_of o fields))

-- FORMAT 7.3: row j of the rows all, from 0: the first is the header's, the second the configuration's; behind them a row of kind 5 is an event's,
-- any other that of an entry or a record.
pub record RowRead (o : Order) (bs : List ℕ) (all : List Row) (j : ℕ) (r : Row) : Type 0 where
  pub header : j ≡ 0 → HeaderRow o bs r
  pub configuration : j ≡ 1 → ConfigurationRow o bs all r
  pub event : 2 ≤ j → r.kind ≡ 5 → EventRow o bs all j r
  pub piece : 2 ≤ j → r.kind ≢ 5 → PieceRow o bs r
