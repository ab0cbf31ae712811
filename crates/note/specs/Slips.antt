-- Mistakes that are easily made with a trace's inner words, as files with their listings: a reader that makes one lists something else. Two others
-- need no file here: the side taken from the channel number is shut out by P2 and P3 (and `side_is_listed`), BCD and plain numbers exchanged by
-- P6 and P8 (Examples).
use Rattle.std.specs.Prelude.{ℕ, List, [], ◌∷◌, ◌++◌}
use Rattle.note.specs.Examples.{Example, listed, file_with}

-- FORMAT 10.2: P14's administrative record.
abbrev pub administrative_record : List ℕ
administrative_record = 2 ∷ 24 ∷ 1100115 ∷ 1630 ∷ 7 ∷ 1263573000 ∷ 0 ∷ 0 ∷ []

-- FORMAT 10.2: a trace of four samples of channel 3 of an iZIP, its length word given.
abbrev pub trace_of_four : ℕ → List ℕ
trace_of_four size = 0x11 ∷ size ∷ 0x11 ∷ 12 ∷ 0xF0000000 ∷ 1 ∷ 11017003 ∷ 0x12 ∷ 12 ∷ 0 ∷ 800 ∷ 4 ∷ 0x13 ∷ 4 ∷ []

-- FORMAT 10.2: the two files.
abbrev pub slips : List Example
slips =
    -- The inner 0x11 begins no record: one trace is listed.
    listed (file_with (0xA9800000 ∷ 96 ∷ administrative_record ++ (trace_of_four 56 ++ (0x00020001 ∷ 0x00040003 ∷ [])))) (
    (0 ∷ 5 ∷ 120 ∷ []) ∷
    (1 ∷ 1 ∷ 0 ∷ 8 ∷ 0 ∷ 16777728 ∷ 0 ∷ []) ∷
    (2 ∷ 2 ∷ 8 ∷ 8 ∷ 0 ∷ 0 ∷ 0 ∷ []) ∷
    (3 ∷ 5 ∷ 16 ∷ 104 ∷ 0 ∷ 0 ∷ 2 ∷ []) ∷
    (4 ∷ 6 ∷ 24 ∷ 32 ∷ 3 ∷ 7 ∷ 1263573000 ∷ []) ∷
    (5 ∷ 7 ∷ 56 ∷ 64 ∷ 3 ∷ 11017003 ∷ 4 ∷ []) ∷ [])
    -- The count behind 0x13 counts samples: four bytes are too few for four of them.
    ∷ listed (file_with (0xA9800000 ∷ 92 ∷ administrative_record ++ (trace_of_four 52 ++ (0x00020001 ∷ [])))) ((6 ∷ 0 ∷ 56 ∷ []) ∷ [])
    ∷ []
