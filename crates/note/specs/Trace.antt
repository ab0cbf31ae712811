-- The trace: kind 0x11, a body of 48 + 2n bytes: three inner blocks with kind words of their own, and n samples. Its rule looks at the first 48
-- bytes and at the length alone, so that no sample can make a file wrong.
use Rattle.std.specs.Prelude.{ℕ, ◌+◌, ◌-◌, ◌*◌, ◌/◌, ◌%◌, cond, ◌&&◌, List, [], ◌∷◌, ◌++◌, leb, eqb, ℤ, length, drop}
use Rattle.std.proofs.Common.{SFits}
use Rattle.std.specs.Int.{w32}
use Rattle.theory.specs.declared.Order.{Order}
use Rattle.theory.specs.Words.{Fits}
use Rattle.theory.specs.Tests.{unless, first}
use Rattle.note.specs.Faults.{wrong_kind, wrong_length, wrong_field, wrong_count}
use Rattle.note.specs.Limits.{fewest_samples, most_samples}
use Rattle.note.specs.Words.{word, words, signed, unsigned}
use Rattle.note.specs.Answers.{whole, count}
use Rattle.note.specs.Channels.{names_channel}
use Rattle.note.specs.Kinds.{Kind}

-- FORMAT 5.2: the fields; t0, which is signed, and delta t are nanoseconds. Of the twelve words before the samples five are fixed, the inner kinds
-- and lengths, and n stands twice. The samples are the bytes as they stand.
pub record Trace : Type 0 where
  pub address : ℕ
  pub channel : ℕ
  pub code : ℕ
  pub t0 : ℤ
  pub delta : ℕ
  pub n : ℕ
  pub samples : List ℕ

-- FORMAT 1.2, 5.2: the fields fit their words.
pub record TraceFits (f : Trace) : Type 0 where
  pub address : Fits 4 f.address
  pub channel : Fits 4 f.channel
  pub code : Fits 4 f.code
  pub t0 : SFits w32 f.t0
  pub delta : Fits 4 f.delta
  pub n : Fits 4 f.n

-- FORMAT 5.2: the fields of a body, and the body of fields.
unfoldable pub trace_of : Order → List ℕ → Trace
trace_of o b = record {
  address = word o 8 b;
  channel = word o 12 b;
  code = word o 16 b;
  t0 = signed (word o 28 b);
  delta = word o 32 b;
  n = word o 44 b;
  samples = drop 48 b;
}

abbrev pub trace_words : Trace → List ℕ
trace_words f =
    0x11 ∷ 12 ∷ f.address ∷ f.channel ∷ f.code ∷
    0x12 ∷ 12 ∷ unsigned f.t0 ∷ f.delta ∷ f.n ∷
    0x13 ∷ f.n ∷ []

unfoldable pub trace_bytes : Order → Trace → List ℕ
trace_bytes o f = words o (trace_words f) ++ f.samples

-- FORMAT 5.2: the faults of single words: digitizer channels are 1 to 8, a code names a channel, delta t isn't 0, or 10; n is even and 2 to
-- 32,768, or 11.
abbrev pub channel_fault : ℕ → ℕ
channel_fault c = unless (leb 1 c && leb c 8) wrong_field

abbrev pub code_fault : ℕ → ℕ
code_fault w = unless (names_channel w) wrong_field

abbrev pub delta_fault : ℕ → ℕ
delta_fault d = unless (leb 1 d) wrong_field

unfoldable pub count_fault : ℕ → ℕ
count_fault n = first (unless (eqb (n % 2) 0) wrong_count ∷ unless (leb fewest_samples n) wrong_count ∷ unless (leb n most_samples) wrong_count ∷ [])

-- FORMAT 5.2: the first two blocks, words in order: another inner kind is 5, an inner length other than 12 is 6.
unfoldable pub bookkeeping_rule : Order → List ℕ → ℕ
bookkeeping_rule o b = first (
    unless (eqb (word o 0 b) 0x11) wrong_kind ∷
    unless (eqb (word o 4 b) 12) wrong_length ∷
    channel_fault (word o 12 b) ∷
    code_fault (word o 16 b) ∷ [])

unfoldable pub timebase_rule : Order → List ℕ → ℕ
timebase_rule o b = first (
    unless (eqb (word o 20 b) 0x12) wrong_kind ∷
    unless (eqb (word o 24 b) 12) wrong_length ∷
    delta_fault (word o 32 b) ∷ [])

-- FORMAT 5.2: the third block: its kind, or 5; n, which is tested here and not where it stands first; both counts alike, or 11.
unfoldable pub samples_rule : Order → List ℕ → ℕ
samples_rule o b = first (
    unless (eqb (word o 40 b) 0x13) wrong_kind ∷
    count_fault (word o 44 b) ∷
    unless (eqb (word o 36 b) (word o 44 b)) wrong_count ∷ [])

-- FORMAT 5.2: the tests: 48 bytes at the least, or 6; the three blocks; at the end 48 + 2n bytes, or 6.
abbrev pub trace_tests : Order → List ℕ → List ℕ
trace_tests o b =
    unless (leb 48 (length b)) wrong_length ∷
    bookkeeping_rule o b ∷
    timebase_rule o b ∷
    samples_rule o b ∷
    unless (eqb (length b) (48 + 2 * word o 44 b)) wrong_length ∷ []

unfoldable pub trace_rule : Order → List ℕ → ℕ
trace_rule o b = first (trace_tests o b)

-- FORMAT 5.2, 9.2: what the writer tests, in the same order: the fields, and last the part that holds the samples, which has 2n bytes, or 6.
unfoldable pub trace_fault : Trace → ℕ
trace_fault f = first (
    channel_fault f.channel ∷
    code_fault f.code ∷
    delta_fault f.delta ∷
    count_fault f.n ∷
    unless (eqb (length f.samples) (2 * f.n)) wrong_length ∷ [])

-- FORMAT 8.7: sample k of a part of samples, from 1: two to a word, an odd k in its lower half, an even k in its upper half.
unfoldable pub sample_in : Order → List ℕ → ℕ → ℕ
sample_in o part k = cond (eqb (k % 2) 1) (word o (4 * ((k - 1) / 2)) part % 65536) (word o (4 * ((k - 1) / 2)) part / 65536)

-- FORMAT 5.2, 7.2: row kind 7; its values are the code and n.
abbrev pub trace_kind : Kind
trace_kind = record {
  word = 0x11;
  row = 7;
  rule = trace_rule;
  one = λ o b. (trace_of o b).code;
  two = λ o b. (trace_of o b).n;
  values = λ o place b.
      let f : Trace = trace_of o b in
      count f.address ∷ count f.channel ∷ count f.code ∷ whole f.t0 ∷ count f.delta ∷ count f.n ∷ [];
  again = λ o b. trace_bytes o (trace_of o b);
}
