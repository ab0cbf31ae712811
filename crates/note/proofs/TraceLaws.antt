-- The trace: its fields written and read back, its rule blind to the samples, and its samples one by one. The idea: its first twelve
-- words are known as one list, the samples are the bytes that follow, and a sample is two bytes of the word that holds it.
use mathlib.Core.Path.{◌≡◌, refl, sym, ap, ap₂, ◌∙◌}
use mathlib.Core.Logic.{◌≢◌}
use mathlib.Core.Bool.{Bool, true, false, cond}
use mathlib.Core.List.{List, ◌++◌}
use Prim.Native.Nat.{ℕ, ◌+◌, ◌-◌, ◌*◌, ◌/◌, ◌%◌, ◌≤◌, ◌<◌}
use native.Mathlib.Omega.{arith}
use borrow.Author.Tests.{eqb-true, eqb-false}
use lib.Dec.{eqb}
use lib.ListN.{length, drop, set, get_or, length-append, length-set}
use lib.Seq.{drop_at, get_or-set_other}
use lib.IntN.{ℤ}
use Rattle.theory.specs.declared.Order.{Order}
use Rattle.theory.specs.declared.Order.TheVariants.{Little, Big}
use Rattle.theory.specs.Words.{Bytes, Fits, words_at}
use Rattle.theory.proofs.TestLaws.{first-at, first_passes, equal_passed, equal_passes, most_passed, most_passes}
use Rattle.theory.proofs.WordLaws.{words_of_puts, puts_of_words, length-puts, Bytes-at, Bytes-set, words-set-behind}
use Rattle.note.specs.Words.{word, words, byte_at, signed, unsigned}
use Rattle.note.specs.Trace.{Trace, TraceFits, trace_of, trace_words, trace_bytes, sample_in, trace_kind}
use Rattle.note.specs.Trace.{channel_fault, code_fault, delta_fault, count_fault, trace_fault}
use Rattle.note.specs.Trace.{bookkeeping_rule, timebase_rule, samples_rule, trace_rule}
use Rattle.note.proofs.ByteLaws.{word-by-bytes}
use Rattle.note.proofs.SignedLaws.{word-again, unsigned-again, unsigned-fits}
use Rattle.note.proofs.FieldLaws.{read, number_at}

-- ---- an accepted body

-- What the rule says of a body that it accepts: the fixed words, the number of samples and the length.
pub record AcceptedTrace (o : Order) (b : List ℕ) : Type 0 where
  pub bookkeeping : word o 0 b ≡ 0x11
  pub first-size : word o 4 b ≡ 12
  pub timebase : word o 20 b ≡ 0x12
  pub second-size : word o 24 b ≡ 12
  pub again : word o 36 b ≡ word o 44 b
  pub samples : word o 40 b ≡ 0x13
  pub even : word o 44 b % 2 ≡ 0
  pub fewest : 2 ≤ word o 44 b
  pub most : word o 44 b ≤ 32768
  pub size : length b ≡ 48 + 2 * word o 44 b

pub trace-accepted : (o : Order) (b : List ℕ) → trace_rule o b ≡ 0 → AcceptedTrace o b
unfolding trace_rule bookkeeping_rule timebase_rule samples_rule count_fault
trace-accepted o b e =
    let books : bookkeeping_rule o b ≡ 0 = first-at _ e 1 in
    let base : timebase_rule o b ≡ 0 = first-at _ e 2 in
    let part : samples_rule o b ≡ 0 = first-at _ e 3 in
    let counted : count_fault (word o 44 b) ≡ 0 = first-at _ part 1 in
    record {
      bookkeeping = equal_passed (word o 0 b) 0x11 4 (first-at _ books 0);
      first-size = equal_passed (word o 4 b) 12 5 (first-at _ books 1);
      timebase = equal_passed (word o 20 b) 0x12 4 (first-at _ base 0);
      second-size = equal_passed (word o 24 b) 12 5 (first-at _ base 1);
      again = equal_passed (word o 36 b) (word o 44 b) 10 (first-at _ part 2);
      samples = equal_passed (word o 40 b) 0x13 4 (first-at _ part 0);
      even = equal_passed (word o 44 b % 2) 0 10 (first-at _ counted 0);
      fewest = most_passed 2 (word o 44 b) 10 (first-at _ counted 1);
      most = most_passed (word o 44 b) 32768 10 (first-at _ counted 2);
      size = equal_passed (length b) (48 + 2 * word o 44 b) 5 (first-at _ e 4);
    }

-- An accepted body is its fields, written.
pub trace_restored : (o : Order) (b : List ℕ) → Bytes b → trace_rule o b ≡ 0 → trace_bytes o (trace_of o b) ≡ b
unfolding trace_bytes trace_of words_at
trace_restored o b h e =
    let a : AcceptedTrace o b = trace-accepted o b e in
    let s : unsigned (signed (word o 28 b)) ≡ word o 28 b = word-again o 28 b h (omega arith) in
    let same : trace_words (trace_of o b) ≡ read o 12 b = rw (a.bookkeeping, a.first-size, a.timebase, a.second-size, a.again, a.samples, s) in
    ap (λ (ns : List ℕ). words o ns ++ drop 48 b) same ∙ puts_of_words o 4 12 0 b h (omega arith)

pub trace-length : (o : Order) (b : List ℕ) → trace_rule o b ≡ 0
    → (length b ≡ 48 + 2 * word o 44 b) × (word o 44 b % 2 ≡ 0) × (2 ≤ word o 44 b) × (word o 44 b ≤ 32768)
trace-length o b e = let a : AcceptedTrace o b = trace-accepted o b e in (a.size, a.even, a.fewest, a.most)

-- ---- fields written and read back

-- The fields that stand in the twelve words, with t0 and the samples.
abbrev fields : List ℕ → ℤ → List ℕ → Trace
fields ns t ss = record {
  address = get_or ns 2 0;
  channel = get_or ns 3 0;
  code = get_or ns 4 0;
  t0 = t;
  delta = get_or ns 8 0;
  n = get_or ns 11 0;
  samples = ss;
}

module _ (o : Order) (f : Trace) (h : TraceFits f) where
  twelve_read : read o 12 (trace_bytes o f) ≡ trace_words f
  unfolding trace_bytes
  twelve_read =
      let t : Fits 4 (unsigned f.t0) = unsigned-fits f.t0 h.t0 in
      words_of_puts o 4 (trace_words f) f.samples (omega arith)

  samples-read : drop 48 (trace_bytes o f) ≡ f.samples
  unfolding trace_bytes
  samples-read = drop_at (words o (trace_words f)) f.samples 48 (length-puts o 4 (trace_words f))

  trace-size : length (trace_bytes o f) ≡ 48 + length f.samples
  unfolding trace_bytes
  trace-size = omega (arith, length-append (words o (trace_words f)) f.samples, length-puts o 4 (trace_words f))

  fields_read : trace_of o (trace_bytes o f) ≡ f
  unfolding trace_of words_at
  fields_read =
      ap₂ (λ (ns ss : List ℕ). fields ns (signed (get_or ns 7 0)) ss) twelve_read samples-read
      ∙ ap (λ (t : ℤ). fields (trace_words f) t f.samples) (unsigned-again f.t0 h.t0)

  -- What a writer accepts is read back: its body passes the rule, and its fields are those that were written.
  pub trace_read_back : trace_fault f ≡ 0 → (trace_rule o (trace_bytes o f) ≡ 0) × (trace_of o (trace_bytes o f) ≡ f)
  unfolding trace_fault trace_rule bookkeeping_rule timebase_rule samples_rule words_at
  trace_read_back e =
      let at : (j : ℕ) → get_or (read o 12 (trace_bytes o f)) j 0 ≡ get_or (trace_words f) j 0 = number_at twelve_read in
      let s : length f.samples ≡ 2 * f.n = equal_passed (length f.samples) (2 * f.n) 5 (first-at _ e 4) in
      let channel : channel_fault (word o 12 (trace_bytes o f)) ≡ 0 = ap channel_fault (at 3) ∙ first-at _ e 0 in
      let code : code_fault (word o 16 (trace_bytes o f)) ≡ 0 = ap code_fault (at 4) ∙ first-at _ e 1 in
      let books : bookkeeping_rule o (trace_bytes o f) ≡ 0 =
      first_passes _ (equal_passes 5 (at 0), (equal_passes 6 (at 1), (channel, (code, tt)))) in
      let base : timebase_rule o (trace_bytes o f) ≡ 0 =
      first_passes _ (equal_passes 5 (at 5), (equal_passes 6 (at 6), (ap delta_fault (at 8) ∙ first-at _ e 2, tt))) in
      let counted : samples_rule o (trace_bytes o f) ≡ 0 =
      first_passes _ (equal_passes 5 (at 10), (ap count_fault (at 11) ∙ first-at _ e 3, (equal_passes 11 (at 9 ∙ sym (at 11)), tt))) in
      let room : 48 ≤ length (trace_bytes o f) = omega (arith, trace-size) in
      let whole : length (trace_bytes o f) ≡ 48 + 2 * word o 44 (trace_bytes o f) = omega (arith, trace-size, at 11) in
      (first_passes _ (most_passes 6 room, (books, (base, (counted, (equal_passes 6 whole, tt))))), fields_read)

-- ---- a byte of the samples is changed

module _ (o : Order) (b : List ℕ) (i v : ℕ) (h : 48 ≤ i) where
  -- Word j of the twelve is as before.
  stays : (j : ℕ) → get_or (read o 12 (set b i v)) j 0 ≡ get_or (read o 12 b) j 0
  stays = number_at (words-set-behind o 4 12 0 b i v h)

  -- The rule, the row's values and the answer's values are as before.
  pub trace_blind : trace_rule o (set b i v) ≡ trace_rule o b
  unfolding trace_rule bookkeeping_rule timebase_rule samples_rule words_at
  trace_blind = rw (length-set b i v, stays 0, stays 1, stays 3, stays 4, stays 5, stays 6, stays 8, stays 9, stays 10, stays 11)

  pub trace_row_blind : (trace_kind.one o (set b i v) ≡ trace_kind.one o b) × (trace_kind.two o (set b i v) ≡ trace_kind.two o b)
  unfolding trace_of words_at
  trace_row_blind = (stays 4, stays 11)

  pub trace_values_blind : (place : ℕ) → trace_kind.values o place (set b i v) ≡ trace_kind.values o place b
  unfolding trace_of words_at
  trace_values_blind place = rw (stays 2, stays 3, stays 4, stays 7, stays 8, stays 11)

-- ---- samples

-- The halves of a number that four bytes spell, the lowest first.
halves : (a b c d w : ℕ) → a < 256 → b < 256 → w ≡ a + 256 * (b + 256 * (c + 256 * d)) → (w % 65536 ≡ a + 256 * b) × (w / 65536 ≡ c + 256 * d)
halves a b c d w la lb e = (omega arith, omega arith)

-- Within a word, as behind all the words before it.
in_word : (o : Order) (q m : ℕ) → m < 4 → 4 * q + byte_at o m ≡ byte_at o (4 * q + m)
in_word Little q m s = refl
in_word Big q m s = omega arith

module _ (o : Order) (part : List ℕ) (n : ℕ) (h : Bytes part) (l : length part ≡ 2 * n) (even : n % 2 ≡ 0) where
  abbrev byte : ℕ → ℕ
  byte m = get_or part (byte_at o m) 0

  -- A sample is two bytes: those that count as bytes 2k - 2 and 2k - 1, the lower one first.
  pub sample_is_bytes : (k : ℕ) → 1 ≤ k → k ≤ n → sample_in o part k ≡ byte (2 * (k - 1)) + 256 * byte (2 * (k - 1) + 1)
  unfolding sample_in
  sample_is_bytes k lo hi = go (eqb (k % 2) 1) refl
    where
      p : ℕ
      p = 4 * ((k - 1) / 2)

      at : (m : ℕ) → m < 4 → get_or part (p + byte_at o m) 0 ≡ byte (p + m)
      at m s = ap (λ (q : ℕ). get_or part q 0) (in_word o ((k - 1) / 2) m s)

      two : (word o p part % 65536 ≡ byte (p + 0) + 256 * byte (p + 1)) × (word o p part / 65536 ≡ byte (p + 2) + 256 * byte (p + 3))
      two =
          halves (byte (p + 0)) (byte (p + 1)) (byte (p + 2)) (byte (p + 3)) (word o p part) (Bytes-at part _ h) (Bytes-at part _ h)
          (word-by-bytes o p part (omega arith) ∙ rw (at 0 (omega arith), at 1 (omega arith), at 2 (omega arith), at 3 (omega arith)))

      go : (t : Bool) → eqb (k % 2) 1 ≡ t
          → cond t (word o p part % 65536) (word o p part / 65536) ≡ byte (2 * (k - 1)) + 256 * byte (2 * (k - 1) + 1)
      go true e =
          let odd : k % 2 ≡ 1 = eqb-true (k % 2) 1 e in
          let first : p + 0 ≡ 2 * (k - 1) = omega arith in
          let second : p + 1 ≡ 2 * (k - 1) + 1 = omega arith in
          two.0 ∙ ap₂ (λ (x y : ℕ). byte x + 256 * byte y) first second
      go false e =
          let odd : k % 2 ≢ 1 = eqb-false (k % 2) 1 e in
          let first : p + 2 ≡ 2 * (k - 1) = omega arith in
          let second : p + 3 ≡ 2 * (k - 1) + 1 = omega arith in
          two.1 ∙ ap₂ (λ (x y : ℕ). byte x + 256 * byte y) first second

-- Counted from the lowest byte of each word up, and as they stand: each is the other one's way back.
pub byte_at_twice : (o : Order) (m : ℕ) → byte_at o (byte_at o m) ≡ m
byte_at_twice Little m = refl
byte_at_twice Big m = omega arith

-- In whole words a byte stands inside wherever it counts as one inside.
pub byte_inside : (o : Order) (n m : ℕ) → n % 4 ≡ 0 → m < n → byte_at o m < n
byte_inside Little n m e l = l
byte_inside Big n m e l = omega arith

-- A byte of the samples is changed: every sample is made of the bytes afterwards, and those that don't hold it stay.
module _ (o : Order) (part : List ℕ) (n : ℕ) (h : Bytes part) (l : length part ≡ 2 * n) (even : n % 2 ≡ 0) (i v : ℕ) (b : v < 256) where
  pub changed_is_bytes : (k : ℕ) → 1 ≤ k → k ≤ n
      → sample_in o (set part i v) k
      ≡ get_or (set part i v) (byte_at o (2 * (k - 1))) 0 + 256 * get_or (set part i v) (byte_at o (2 * (k - 1) + 1)) 0
  changed_is_bytes = sample_is_bytes o (set part i v) n (Bytes-set part i v b h) (length-set part i v ∙ l) even

  pub sample_stays : (k : ℕ) → 1 ≤ k → k ≤ n → k ≢ byte_at o i / 2 + 1 → sample_in o (set part i v) k ≡ sample_in o part k
  sample_stays k lo hi d =
      let away : (q : ℕ) → q / 2 + 1 ≡ k → get_or (set part i v) (byte_at o q) 0 ≡ get_or part (byte_at o q) 0 =
      λ q e. get_or-set_other part i (byte_at o q) v 0 (λ w. d (sym e ∙ ap (λ (z : ℕ). z / 2 + 1) (sym (byte_at_twice o q) ∙ ap (byte_at o) w))) in
      changed_is_bytes k lo hi
      ∙ ap₂ (λ (x y : ℕ). x + 256 * y) (away (2 * (k - 1)) (omega arith)) (away (2 * (k - 1) + 1) (omega arith))
      ∙ sym (sample_is_bytes o part n h l even k lo hi)
