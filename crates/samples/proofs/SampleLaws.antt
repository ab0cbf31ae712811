-- What a trace that was found shows: how long its samples are, that they fill whole words, and the calls' answers.
-- The idea: the rule's last test makes the body 48 + 2n bytes, and n is even.
use Prim.Native.Nat.{ℕ, zero, suc, ◌+◌, ◌-◌, ◌*◌, ◌/◌, ◌%◌, ◌≤◌, ◌<◌}
use mathlib.Core.Path.{◌≡◌, refl, sym, ap, ◌∙◌}
use mathlib.Core.Bool.{false}
use mathlib.Core.List.{List, [], ◌∷◌}
use native.Mathlib.Omega.{arith}
use lib.Dec.{eqb}
use lib.ListN.{length, take, drop, length-drop}
use lib.Seq.{drop-drop, length-take-le, take-nil}
use borrow.Author.Tests.{le-leb, lt-leb}
use Rattle.std.proofs.Common.{Ok, Err}
use Rattle.theory.specs.declared.Order.{Order}
use Rattle.note.specs.Words.{word}
use Rattle.note.specs.Trace.{trace_of, sample_in}
use Rattle.note.specs.Records.{kind_of}
use Rattle.note.specs.Faults.{fault_number}
use Rattle.note.specs.declared.Refusal.{Refusal}
use Rattle.note.specs.Answers.{accepted, refused, counts}
use Rattle.note.specs.Calls.{record_found, samples_part, samples_at, sample_at}
use Rattle.note.proofs.TraceLaws.{trace-length}
use Rattle.rules.specs.declared.Kind.{Kind}
use Rattle.rules.specs.Kinds.{kind_word}
use Rattle.record.specs.declared.Head.{Head}
use Rattle.record.specs.Steps.{head_in, step_of}
use Rattle.answers.specs.Bodies.{body_at}
use Rattle.answers.proofs.FoundLaws.{Found, head-found, found-refused}

drop-take : (a n : ℕ) (xs : List ℕ) → drop a (take n xs) ≡ take (n - a) (drop a xs)
drop-take zero n xs = let e : n ≡ n - 0 = omega arith in ap (λ (m : ℕ). take m xs) e
drop-take (suc a) zero xs = let e : 0 ≡ 0 - suc a = omega arith in ap (λ (m : ℕ). take m (drop (suc a) xs)) e
drop-take (suc a) (suc n) [] = sym (take-nil (suc n - suc a))
drop-take (suc a) (suc n) (x ∷ xs) =
    let e : n - a ≡ suc n - suc a = omega arith in
    drop-take a n xs ∙ ap (λ (m : ℕ). take m (drop a xs)) e

-- The part of a trace's samples, as long as its body makes it.
abbrev pub part_of : List ℕ → ℕ → ℕ → List ℕ
part_of bs place n = take (n - 48) (drop (place + 56) bs)

-- ---- another kind, or a refusal

-- No other kind has a trace's word.
other_word : (k : Kind) → (k ≡ Kind.Trace → ⊥) → eqb (kind_word k) 0x11 ≡ false
other_word Kind.Trace other = absurd (other refl)
other_word Kind.Phonon other = refl
other_word Kind.Charge other = refl
other_word Kind.Administrative other = refl
other_word Kind.History other = refl
other_word Kind.Gps other = refl
other_word Kind.Trigger other = refl
other_word Kind.Tlb other = refl

pub refused-part : (o : Order) (bs : List ℕ) (place : ℕ) (r : Refusal) → head_in (Err r) ≡ step_of (record_found o bs place)
    → samples_part o bs place ≡ (0, 0)
unfolding samples_part
refused-part o bs place r e = rw (found-refused o bs place r e)

pub refused-sample : (o : Order) (bs : List ℕ) (place : ℕ) (r : Refusal) → head_in (Err r) ≡ step_of (record_found o bs place)
    → (m : ℕ) → sample_at o bs place m ≡ refused (fault_number r.fault) r.place
unfolding sample_at
refused-sample o bs place r e m = rw (found-refused o bs place r e)

pub empty-part : (o : Order) (bs : List ℕ) (place : ℕ) → samples_part o bs place ≡ (0, 0) → samples_at o bs place ≡ []
unfolding samples_at
empty-part o bs place e = rw e

-- ---- a trace

module _ {o : Order} {bs : List ℕ} {place n : ℕ} (g : Found o bs place 0x11 n) where
  abbrev count : ℕ
  count = word o 44 (body_at bs place n)

  -- What its rule says of its length and of the number of its samples.
  counted : (length (body_at bs place n) ≡ 48 + 2 * count) × (count % 2 ≡ 0) × (2 ≤ count) × (count ≤ 32768)
  unfolding kind_of
  counted = trace-length o (body_at bs place n) g.follows

  size_of_trace : n ≡ 48 + 2 * count
  size_of_trace = sym g.size ∙ counted.0

  pub long : 50 ≤ n
  long = omega (arith, size_of_trace, counted.2)

  pub part-found : samples_part o bs place ≡ (place + 56, n - 48)
  unfolding samples_part
  part-found = rw (g.found, g.size)

  pub part_long : length (part_of bs place n) ≡ n - 48
  part_long = length-take-le (n - 48) (drop (place + 56) bs) (omega (arith, g.fits, long, length-drop (place + 56) bs))

  part_bytes : drop 48 (body_at bs place n) ≡ part_of bs place n
  part_bytes =
      let at : place + 8 + 48 ≡ place + 56 = omega arith in
      drop-take 48 n (drop (place + 8) bs) ∙ ap (take (n - 48)) (drop-drop 48 (place + 8) bs ∙ ap (λ (p : ℕ). drop p bs) at)

  pub part-bytes : samples_at o bs place ≡ part_of bs place n
  unfolding samples_at
  part-bytes = rw part-found

  pub whole_words : (m : ℕ) → 1 ≤ m → m ≤ length (part_of bs place n) / 2 → 4 * ((m - 1) / 2) + 4 ≤ length (part_of bs place n)
  whole_words m l h = omega (arith, part_long, size_of_trace, counted.1, h, l)

  half : length (part_of bs place n) / 2 ≡ count
  half = omega (arith, part_long, size_of_trace)

  pub low : (m : ℕ) → m < 1 → sample_at o bs place m ≡ refused 11 place
  unfolding sample_at
  low m h = rw (g.found, lt-leb 1 m h)

  pub high : (m : ℕ) → 1 ≤ m → length (part_of bs place n) / 2 < m → sample_at o bs place m ≡ refused 11 place
  unfolding sample_at trace_of
  high m l h = rw (g.found, le-leb 1 m l, lt-leb m count (omega (arith, half, h)))

  pub sampled : (m : ℕ) → 1 ≤ m → m ≤ length (part_of bs place n) / 2
      → sample_at o bs place m ≡ accepted (counts (sample_in o (part_of bs place n) m ∷ []))
  unfolding sample_at trace_of
  sampled m l h = rw (g.found, le-leb 1 m l, le-leb m count (omega (arith, half, h)), part_bytes)

-- The same of the head that the code was answered.
module _ (o : Order) (bs : List ℕ) (place : ℕ) (h : Head) (e : head_in (Ok h) ≡ step_of (record_found o bs place)) where
  module _ (trace : h.kind ≡ Kind.Trace) where
    found : Found o bs place 0x11 h.length
    found = rw trace at (head-found o bs place h e)

    pub trace-fits : place + 8 + h.length ≤ length bs
    trace-fits = found.fits

    pub trace-long : 48 ≤ h.length
    trace-long = omega (arith, long found)

    pub trace-part : samples_part o bs place ≡ (place + 56, h.length - 48)
    trace-part = part-found found

    pub trace-bytes : samples_at o bs place ≡ part_of bs place h.length
    trace-bytes = part-bytes found

    pub trace-words : (m : ℕ) → 1 ≤ m → m ≤ length (part_of bs place h.length) / 2
        → 4 * ((m - 1) / 2) + 4 ≤ length (part_of bs place h.length)
    trace-words = whole_words found

    pub trace-low : (m : ℕ) → m < 1 → sample_at o bs place m ≡ refused 11 place
    trace-low = low found

    pub trace-high : (m : ℕ) → 1 ≤ m → length (part_of bs place h.length) / 2 < m → sample_at o bs place m ≡ refused 11 place
    trace-high = high found

    pub trace-sample : (m : ℕ) → 1 ≤ m → m ≤ length (part_of bs place h.length) / 2
        → sample_at o bs place m ≡ accepted (counts (sample_in o (part_of bs place h.length) m ∷ []))
    trace-sample = sampled found

  module _ (other : h.kind ≡ Kind.Trace → ⊥) where
    pub other-part : samples_part o bs place ≡ (0, 0)
    unfolding samples_part
    other-part = rw ((head-found o bs place h e).found, other_word h.kind other)

    pub other-sample : (m : ℕ) → sample_at o bs place m ≡ refused 5 place
    unfolding sample_at
    other-sample m = rw ((head-found o bs place h e).found, other_word h.kind other)

-- These laws, for the search: of Samples and of a sample by number.
pub ruleset parts = (trace-fits, trace-long, trace-part, trace-bytes, other-part, refused-part, empty-part)

pub ruleset numbered = (trace-fits, trace-long, trace-words, trace-low, trace-high, trace-sample, other-sample, refused-sample)
