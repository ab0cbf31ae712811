-- What the listing program prints, in two steps: lines of numbers, which the examples are held against; then their text, byte by byte.
use Rattle.std.specs.Prelude.{ℕ, zero, suc, ◌+◌, ◌/◌, ◌%◌, cond, List, [], ◌∷◌, ◌++◌, leb, length}
use Rattle.theory.specs.Tests.{Res, ok, bad}
use Rattle.theory.specs.Layout.{Row}
use Rattle.note.specs.Limits.{listing_limit}
use Rattle.note.specs.Files.{File, read_file}
use Rattle.note.specs.Rows.{rows_of, row_numbers}

-- FORMAT 8.9: the lines of rows, the first of which has the number i: a row's number, then its six.
unfoldable pub row_lines : ℕ → List Row → List (List ℕ)
row_lines i [] = []
row_lines i (r ∷ rs) = (i ∷ row_numbers r) ∷ row_lines (i + 1) rs

-- FORMAT 8.9: a line of Table's number, count and place; of an accepted file the lines of its rows behind it.
abbrev pub lines_given : List ℕ → Res File → List (List ℕ)
lines_given bs (bad c p) = (c ∷ 0 ∷ p ∷ []) ∷ []
lines_given bs (ok f) = (0 ∷ length (rows_of f) ∷ length bs ∷ []) ∷ row_lines 1 (rows_of f)

-- FORMAT 8.9: an input over the listing's limit is refused with 1.
unfoldable pub listing : List ℕ → List (List ℕ)
listing bs = cond (leb (length bs) listing_limit) (lines_given bs (read_file bs)) ((1 ∷ 0 ∷ 0 ∷ []) ∷ [])

-- FORMAT 8.9: decimal digits, without a sign: those of a number's tenth and then its last, 48 being the digit 0; none at 0, so that no zero stands
-- in front. The first argument only bounds the steps: a number has no more digits than it counts.
unfoldable pub digits_of : ℕ → ℕ → List ℕ
digits_of zero n = []
digits_of (suc f) zero = []
digits_of (suc f) (suc n) = digits_of f (suc n / 10) ++ ((48 + suc n % 10) ∷ [])

-- FORMAT 8.9: a number's text; 0 is one digit too.
unfoldable pub decimal_text : ℕ → List ℕ
decimal_text zero = 48 ∷ []
decimal_text (suc n) = digits_of (suc n) (suc n)

-- FORMAT 8.9: what stands behind a number, by the numbers that follow it: a blank (32); behind the last the line's end (10).
abbrev pub separator : List ℕ → ℕ
separator [] = 10
separator (n ∷ ns) = 32

-- FORMAT 8.9: a line of numbers.
unfoldable pub line_text : List ℕ → List ℕ
line_text [] = []
line_text (n ∷ ns) = decimal_text n ++ (separator ns ∷ line_text ns)

-- FORMAT 8.9: lines one after the other.
unfoldable pub lines_text : List (List ℕ) → List ℕ
lines_text [] = []
lines_text (l ∷ ls) = line_text l ++ lines_text ls

-- FORMAT 8.9: all that the program prints of a file.
unfoldable pub listing_text : List ℕ → List ℕ
listing_text bs = lines_text (listing bs)
