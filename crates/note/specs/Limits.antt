-- The limits of this format, each named once: a definition that uses one says by its name which limit it means.
use Rattle.std.specs.Prelude.{ℕ}

-- FORMAT 1.1: the most bytes of a lent file and of an output, 2^24.
abbrev pub file_limit : ℕ
file_limit = 16777216

-- FORMAT 1.1: the fewest and the most samples of a trace.
abbrev pub fewest_samples : ℕ
fewest_samples = 2

abbrev pub most_samples : ℕ
most_samples = 32768

-- FORMAT 7.1: how many numbers a row is.
abbrev pub row_width : ℕ
row_width = 6

-- FORMAT 1.1, 8.9: the most bytes that the listing program takes, 2^14.
abbrev pub listing_limit : ℕ
listing_limit = 16384
