-- A row's values stand where the code reads them, and a body that follows its kind's rule holds them.
-- The idea: the choice of a kind is taken apart once (`kind_cases`, or the code's eight kinds), and for each kind both sides compute.
use mathlib.Core.Path.{◌≡◌, refl, ◌∙◌}
use mathlib.Core.Bool.{true, false}
use mathlib.Core.List.{List}
use Prim.Native.Nat.{ℕ, ◌+◌, ◌≤◌}
use native.Mathlib.Omega.{arith}
use lib.Dec.{leb, eqb}
use lib.ListN.{length}
use borrow.Author.Tests.{le-leb, leb-true, eq-eqb, eqb-true}
use Rattle.std.proofs.Common.{Result, Ok, Err}
use Rattle.std.proofs.lemmas.Grind.{common_steps}
use Rattle.std.specs.Result.{is_ok}
use Rattle.theory.specs.declared.Order.{Order}
use Rattle.theory.specs.Words.{Bytes}
use Rattle.note.specs.Faults.{fault_in}
use Rattle.note.specs.declared.Fault.{Fault}
use Rattle.note.specs.Words.{word, signed, unsigned}
use Rattle.note.specs.Phonon.{phonon_kind, phonon_of}
use Rattle.note.specs.Charge.{charge_kind, charge_of}
use Rattle.note.specs.Administrative.{administrative_kind, administrative_of}
use Rattle.note.specs.Trace.{trace_kind, trace_of}
use Rattle.note.specs.History.{history_kind, history_rule, trigger_at, section_of, history_of}
use Rattle.note.specs.Gps.{gps_kind}
use Rattle.note.specs.Trigger.{trigger_kind, trigger_of}
use Rattle.note.specs.Tlb.{tlb_kind, tlb_of}
use Rattle.note.specs.Records.{alone, is_kind, kind_of, record_rule}
use Rattle.note.proofs.KindCases.{kind_cases}
use Rattle.note.proofs.SignedLaws.{word-again}
use Rattle.rules.specs.Kinds.{kind_word}
use Rattle.rules.specs.declared.Kind.{Kind}
use Rattle.rules.proofs.KindLaws.{unnamed}
use Rattle.rules.proofs.LengthLaws.{long_enough}
use Rattle.rows.specs.declared.Standing.{Standing}
use Rattle.rows.specs.declared.Values.{Values}
use Rattle.rows.specs.Values.{standing_of, holds, has_values, values_of}

-- A body that follows its kind's rule holds its row's values.
pub rule_has_values : (o : Order) (k : ℕ) (b : List ℕ) → record_rule o k b ≡ 0 → has_values o k b ≡ true
unfolding has_values kind_of
rule_has_values o k b =
    kind_cases (λ w x. x.rule o b ≡ 0 → holds o x.row b ≡ true) k
    (λ e. le-leb 8 (length b) (omega (arith, long_enough o phonon_kind.word b e)))
    (λ e. le-leb 8 (length b) (omega (arith, long_enough o charge_kind.word b e)))
    (λ e. le-leb 16 (length b) (omega (arith, long_enough o administrative_kind.word b e)))
    (λ e. le-leb 48 (length b) (omega (arith, long_enough o trace_kind.word b e)))
    (λ e. eq-eqb (history_rule o b) 0 e)
    (λ e. le-leb 8 (length b) (omega (arith, long_enough o gps_kind.word b e)))
    (λ e. le-leb 12 (length b) (omega (arith, long_enough o trigger_kind.word b e)))
    (λ e. le-leb 8 (length b) (omega (arith, long_enough o tlb_kind.word b e)))
    (λ e. absurd (omega arith))

-- A rule's result is Ok where it has no fault.
told : (r : Result (Unit {0}) Fault) → is_ok r ≡ eqb (fault_in r) 0
told (Ok u) = refl
told (Err f) = grind (arith, common_steps)

-- A word that names no kind has no row.
pub none_has : (o : Order) (w : ℕ) (b : List ℕ) → is_kind alone w ≡ false → has_values o w b ≡ false
unfolding has_values
none_has o w b e = rw (unnamed w e)

pub second_fits : (k : Kind) → (standing_of (kind_word k)).two ≤ 44
unfolding standing_of kind_of
second_fits k = grind (arith, common_steps)

-- What the code finds of a kind, by the places that it looked up.
module _ (o : Order) (b : List ℕ) where
  abbrev read_at : Standing → Values
  read_at at = record { kind = at.kind; one = word o at.one b; two = word o at.two b }

  -- A history has values where it follows its rule, any other kind where the second ends in the body.
  history_rules : eqb (history_rule o b) 0 ≡ has_values o (kind_word Kind.History) b
  unfolding has_values kind_of
  history_rules = refl

  others_hold : (k : Kind) → (k ≡ Kind.History → ⊥) → leb ((standing_of (kind_word k)).two + 4) (length b) ≡ has_values o (kind_word k) b
  unfolding has_values standing_of kind_of
  others_hold Kind.Phonon n = refl
  others_hold Kind.Charge n = refl
  others_hold Kind.Administrative n = refl
  others_hold Kind.Trace n = refl
  others_hold Kind.History n = absurd (n refl)
  others_hold Kind.Gps n = refl
  others_hold Kind.Trigger n = refl
  others_hold Kind.Tlb n = refl

  -- The first value ends in a body that has values.
  first_ends : (k : Kind) → has_values o (kind_word k) b ≡ true → (standing_of (kind_word k)).one + 4 ≤ length b
  unfolding has_values standing_of kind_of
  first_ends Kind.Phonon h = omega (arith, leb-true 8 (length b) h)
  first_ends Kind.Charge h = omega (arith, leb-true 8 (length b) h)
  first_ends Kind.Administrative h = omega (arith, leb-true 16 (length b) h)
  first_ends Kind.Trace h = omega (arith, leb-true 48 (length b) h)
  first_ends Kind.History h = omega (arith, long_enough o history_kind.word b (eqb-true (history_rule o b) 0 h))
  first_ends Kind.Gps h = omega (arith, leb-true 8 (length b) h)
  first_ends Kind.Trigger h = omega (arith, leb-true 12 (length b) h)
  first_ends Kind.Tlb h = omega (arith, leb-true 8 (length b) h)

  -- The words that stand there are the row's values. An entry's words are signed, and its row has their bits.
  history_words : ◌≡◌ {A = Values} (record { kind = 8; one = word o 0 b; two = word o (trigger_at o b) b })
      (values_of o (kind_word Kind.History) b)
  unfolding values_of kind_of history_of section_of
  history_words = refl

  entry : (n : ℕ) → Bytes b → 8 ≤ length b → read_at (record { kind = n; one = 0; two = 4 })
      ≡ record { kind = n; one = unsigned (signed (word o 0 b)); two = unsigned (signed (word o 4 b)) }
  entry n bytes h = rw (word-again o 0 b bytes (omega arith), word-again o 4 b bytes (omega arith))

  others-words : Bytes b → (k : Kind) → (k ≡ Kind.History → ⊥) → has_values o (kind_word k) b ≡ true
      → read_at (standing_of (kind_word k)) ≡ values_of o (kind_word k) b
  unfolding values_of has_values standing_of kind_of phonon_of charge_of administrative_of trace_of trigger_of tlb_of
  others-words bytes Kind.Phonon n h = entry _ bytes (leb-true 8 (length b) h)
  others-words bytes Kind.Charge n h = entry _ bytes (leb-true 8 (length b) h)
  others-words bytes Kind.Administrative n h = refl
  others-words bytes Kind.Trace n h = refl
  others-words bytes Kind.History n h = absurd (n refl)
  others-words bytes Kind.Gps n h = refl
  others-words bytes Kind.Trigger n h = refl
  others-words bytes Kind.Tlb n h = refl

  -- The same as the code has it: the word w names the kind k, and at is what it looked up for k.
  module _ (k : Kind) {w : ℕ} (names : kind_word k ≡ w) where
    pub history_has : k ≡ Kind.History → (r : Result (Unit {0}) Fault) → fault_in r ≡ history_rule o b → is_ok r ≡ has_values o w b
    history_has q r e = rw (← names, q) (told r ∙ rw e history_rules)

    pub others_have : (k ≡ Kind.History → ⊥) → {at : Standing} → at ≡ standing_of (kind_word k)
        → leb (at.two + 4) (length b) ≡ has_values o w b
    others_have n is = rw (← names, is) (others_hold k n)

    module _ (h : has_values o w b ≡ true) where
      held : has_values o (kind_word k) b ≡ true
      held = rw names h

      pub history_follows : k ≡ Kind.History → history_rule o b ≡ 0
      history_follows q = eqb-true (history_rule o b) 0 (history_rules ∙ (rw q at held))

      pub first_room : {at : Standing} → at ≡ standing_of (kind_word k) → at.one + 4 ≤ length b
      first_room is = rw is (first_ends k held)

      pub second_room : (k ≡ Kind.History → ⊥) → {at : Standing} → at ≡ standing_of (kind_word k) → at.two + 4 ≤ length b
      second_room n is = rw is (leb-true _ _ (others_hold k n ∙ held))

      pub history_read : k ≡ Kind.History → {at : Standing} → at ≡ standing_of (kind_word k) → {x m y : ℕ} → x ≡ word o at.one b
          → m ≡ trigger_at o b → y ≡ word o m b → ◌≡◌ {A = Values} (record { kind = at.kind; one = x; two = y }) (values_of o w b)
      unfolding standing_of kind_of
      history_read q is ex em ey = rw (← names, is, ex, ey, em, is, q) history_words

      pub others_read : (k ≡ Kind.History → ⊥) → Bytes b → {at : Standing} → at ≡ standing_of (kind_word k) → {x y : ℕ}
          → x ≡ word o at.one b → y ≡ word o at.two b
          → ◌≡◌ {A = Values} (record { kind = at.kind; one = x; two = y }) (values_of o w b)
      others_read n bytes is ex ey = rw (← names, ex, ey, is) (others-words bytes k n held)
