-- Table's answer and buffer as a listing's text, and what a lent output must have room for. The listing of FORMAT 8.9 is said of a file; this is
-- the same text, made from what Table leaves.
use Rattle.std.specs.Prelude.{ℕ, zero, suc, ◌+◌, ◌*◌, ◌≡◌, Bool, cond, ◌&&◌, List, [], ◌∷◌, leb, eqb, length, take, drop}
use Rattle.std.proofs.lemmas.List.Edits.{sets}
use Rattle.note.specs.Limits.{row_width}
use Rattle.note.specs.Listing.{lines_text}
use Rattle.note.specs.declared.TableAnswer.{TableAnswer}

-- The lines of a buffer's first k rows, the first of which has the number i.
unfoldable pub buffer_lines : ℕ → ℕ → List ℕ → List (List ℕ)
buffer_lines i zero rows = []
buffer_lines i (suc k) rows = (i ∷ take row_width rows) ∷ buffer_lines (i + 1) k (drop row_width rows)

-- The lines of rows that stand in rows of their own, the first of which has the number i.
unfoldable pub numbered : ℕ → List (List ℕ) → List (List ℕ)
numbered i [] = []
numbered i (row ∷ rows) = (i ∷ row) ∷ numbered (i + 1) rows

-- How many rows are listed: those of an accepted file, none of a refused one.
unfoldable pub listed_rows : ℕ → ℕ → ℕ
listed_rows number count = cond (eqb number 0) count 0

abbrev pub table_lines : TableAnswer → List ℕ → List (List ℕ)
table_lines a rows = (a.number ∷ a.count ∷ a.place ∷ []) ∷ buffer_lines 1 (listed_rows a.number a.count) rows

-- A buffer of `held` numbers has n rows, and an output of `room` bytes has room for any first line (three numbers of 64 bits: 63 bytes)
-- and n lines of any rows (a number of 64 bits and six of 32: 87 bytes).
unfoldable pub has_room : ℕ → ℕ → ℕ → Bool
has_room n held room = leb (n * row_width) held && leb (63 + n * 87) room

-- The text of Table's answer and buffer; nothing where rows or room are too few.
unfoldable pub table_text : TableAnswer → List ℕ → ℕ → List ℕ
table_text a rows room = cond (has_room (listed_rows a.number a.count) (length rows) room) (lines_text (table_lines a rows)) []

-- A text was stored from the place `at` of an output, and `next` is the place behind it.
abbrev pub Put : List ℕ → ℕ → List ℕ → ℕ → List ℕ → Type 0
Put out at text next after = (next ≡ at + length text) × (after ≡ sets out at text)
