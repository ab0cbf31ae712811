-- A sample by number, of any bytes and at any place where Record finds a trace: the two bytes of the file that spell it.
-- The idea: the trace's rule fixes how many bytes the samples have, and a byte of the body that was found is a byte of the file.
use mathlib.Core.Path.{◌≡◌, sym, ap, ap₂, ◌∙◌, subst}
use mathlib.Core.List.{List, [], ◌∷◌}
use Prim.Native.Nat.{ℕ, ◌+◌, ◌-◌, ◌*◌, ◌%◌, ◌≤◌, ◌<◌}
use native.Mathlib.Omega.{arith}
use lib.ListN.{length, drop, get_or, length-drop}
use lib.Seq.{get_or-drop}
use borrow.Author.Tests.{eq-eqb, le-leb}
use Rattle.theory.specs.declared.Order.{Order}
use Rattle.theory.specs.Words.{Bytes, word_at}
use Rattle.theory.specs.Tests.{ok}
use Rattle.theory.proofs.WordLaws.{Bytes-drop, Bytes-take}
use Rattle.note.specs.Words.{word, byte_at}
use Rattle.note.specs.Answers.{accepted, counts}
use Rattle.note.specs.Trace.{trace_of, trace_rule, sample_in}
use Rattle.note.specs.Records.{Record, record_rule, kind_of}
use Rattle.note.specs.Calls.{record_found, sample_at}
use Rattle.note.proofs.TraceLaws.{trace-length, sample_is_bytes, byte_inside}
use Rattle.demands.specs.Edited.{pair}
use Rattle.demands.proofs.RecordLaws.{found-body}
use Rattle.demands.proofs.PartLaws.{byte-found, rule_found}

module _ (o : Order) (bs : List ℕ) (place : ℕ) (r : Record) (h : Bytes bs) (found : record_found o bs place ≡ ok r) (trace : r.word ≡ 0x11) where
  abbrev part : List ℕ
  part = drop 48 r.body

  part_bytes : Bytes part
  part_bytes =
      let from : List ℕ = drop place bs in
      let n : ℕ = word_at o 4 4 from in
      Bytes-drop 48 r.body
      (subst Bytes (sym (found-body o bs place r found)) (Bytes-take n (drop 8 from) (Bytes-drop 8 from (Bytes-drop place bs h))))

  rule-passes : trace_rule o r.body ≡ 0
  unfolding kind_of
  rule-passes = subst (λ (w : ℕ). record_rule o w r.body ≡ 0) trace (rule_found o bs place r found)

  sizes : (length part ≡ 2 * word o 44 r.body) × (word o 44 r.body % 2 ≡ 0)
  sizes = let s = trace-length o r.body rule-passes in (omega (arith, s.0, length-drop 48 r.body), s.1)

  -- byte z of the samples is the file's
  in_file : (z : ℕ) → z < length part → get_or part z 0 ≡ get_or bs (place + 56 + z) 0
  in_file z l =
      let far : place + 8 + (48 + z) ≡ place + 56 + z = omega arith in
      get_or-drop 48 r.body z 0
      ∙ byte-found o bs place r found (48 + z) (omega (arith, l, length-drop 48 r.body))
      ∙ ap (λ (q : ℕ). get_or bs q 0) far

  module _ (k : ℕ) (lo : 1 ≤ k) (hi : k ≤ word o 44 r.body) where
    abbrev spelled : List ℕ → ℕ
    spelled s = get_or s (byte_at o (2 * (k - 1))) 0 + 256 * get_or s (byte_at o (2 * (k - 1) + 1)) 0

    pair_in_file : spelled part ≡ pair o bs (place + 56) k
    pair_in_file =
        let q : ℕ = 2 * (k - 1) in
        let whole_words : length part % 4 ≡ 0 = omega (arith, sizes.0, sizes.1) in
        let first : q < length part = omega (arith, lo, hi, sizes.0) in
        let second : q + 1 < length part = omega (arith, lo, hi, sizes.0) in
        ap₂ (λ (a b : ℕ). a + 256 * b)
        (in_file (byte_at o q) (byte_inside o (length part) q whole_words first))
        (in_file (byte_at o (q + 1)) (byte_inside o (length part) (q + 1) whole_words second))

    sample_shown : sample_at o bs place k ≡ accepted (counts (sample_in o part k ∷ []))
    unfolding sample_at trace_of
    sample_shown = rw (found, eq-eqb r.word 0x11 trace, le-leb 1 k lo, le-leb k (word o 44 r.body) hi)

    -- Sample k, from 1, of as many as the trace's last word counts: two bytes, the lower first, behind 56 bytes and the samples before it.
    pub sample_of_trace : sample_at o bs place k ≡ accepted (counts (pair o bs (place + 56) k ∷ []))
    sample_of_trace =
        sample_shown
        ∙ ap (λ (z : ℕ). accepted (counts (z ∷ [])))
        (sample_is_bytes o part (word o 44 r.body) part_bytes sizes.0 sizes.1 k lo hi ∙ pair_in_file)
