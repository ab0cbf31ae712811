-- A record that its kind's rule admits has fields: it is the record that they make, they are what Record answers, and the values of its row
-- are two of them. For every kind.
-- The idea: the fields are those read from the body; that they make the body again is each kind's own law.
use mathlib.Core.Path.{◌≡◌, refl, sym, ap, ◌∙◌}
use mathlib.Core.List.{List, ◌∷◌}
use Prim.Native.Nat.{ℕ}
use native.Mathlib.Omega.{arith}
use Rattle.theory.specs.declared.Order.{Order}
use Rattle.theory.specs.Words.{Bytes}
use Rattle.note.specs.Words.{word}
use Rattle.note.specs.Kinds.{Kind}
use Rattle.note.specs.Answers.{Value, accepted, count}
use Rattle.note.specs.Phonon.{phonon_kind, phonon_of, phonon_rule}
use Rattle.note.specs.Charge.{charge_kind, charge_of, charge_rule}
use Rattle.note.specs.Administrative.{administrative_kind, administrative_of, administrative_rule}
use Rattle.note.specs.Trace.{trace_kind, trace_of, trace_rule}
use Rattle.note.specs.History.{history_kind, history_of, section_of, history_rule}
use Rattle.note.specs.Gps.{gps_kind, gps_of, gps_rule}
use Rattle.note.specs.Trigger.{trigger_kind, trigger_of, trigger_rule}
use Rattle.note.specs.Tlb.{tlb_kind, tlb_of, tlb_rule}
use Rattle.note.specs.Records.{kind_of, record_rule}
use Rattle.note.proofs.KindCases.{kind_cases}
use Rattle.note.proofs.FieldLaws.{phonon_restored, charge_restored, administrative_restored, trigger_restored, tlb_restored}
use Rattle.note.proofs.TraceLaws.{trace_restored}
use Rattle.note.proofs.HistoryLaws.{history-faultless, history_restored}
use Rattle.note.proofs.GpsLaws.{gps_restored}
use Rattle.demands.specs.Pieces.{Piece, phonon, charge, administrative, trace, history, gps, trigger, tlb, of_kind, record_of, answer_of}
use Rattle.demands.specs.RowContents.{row_kind, row_values}
use Rattle.demands.proofs.WriterLaws.{history-answer}

module _ (o : Order) (place : ℕ) (b : List ℕ) (h : Bytes b) where
  -- The body b under the kind word w of kind x, at the place: its fields, what they make, what they answer, what its row says.
  pub record Shown (w : ℕ) (x : Kind) : Type 0 where
    pub fields : Piece
    pub made : record_of o fields ≡ record { word = w; body = b }
    pub answer : accepted (count x.row ∷ x.values o place b) ≡ answer_of place fields
    pub kind : x.row ≡ row_kind fields
    pub one : x.one o b ≡ (row_values o fields).0
    pub two : x.two o b ≡ (row_values o fields).1

  shows : {w : ℕ} {x : Kind} (p : Piece) → record_of o p ≡ record { word = w; body = b }
      → accepted (count x.row ∷ x.values o place b) ≡ answer_of place p
      → x.row ≡ row_kind p → x.one o b ≡ (row_values o p).0 → x.two o b ≡ (row_values o p).1 → Shown w x
  shows p m a k v w = record { fields = p; made = m; answer = a; kind = k; one = v; two = w }

  phonon_shown : phonon_rule o b ≡ 0 → Shown phonon_kind.word phonon_kind
  unfolding record_of answer_of row_kind row_values phonon_of phonon_rule
  phonon_shown e =
      shows (phonon (phonon_of o b)) (ap (of_kind phonon_kind) (phonon_restored o b h e)) refl refl refl refl

  charge_shown : charge_rule o b ≡ 0 → Shown charge_kind.word charge_kind
  unfolding record_of answer_of row_kind row_values charge_of charge_rule
  charge_shown e =
      shows (charge (charge_of o b)) (ap (of_kind charge_kind) (charge_restored o b h e)) refl refl refl refl

  administrative_shown : administrative_rule o b ≡ 0 → Shown administrative_kind.word administrative_kind
  unfolding record_of answer_of row_kind row_values administrative_of
  administrative_shown e =
      shows (administrative (administrative_of o b)) (ap (of_kind administrative_kind) (administrative_restored o b h e)) refl refl refl refl

  trace_shown : trace_rule o b ≡ 0 → Shown trace_kind.word trace_kind
  unfolding record_of answer_of row_kind row_values trace_of
  trace_shown e = shows (trace (trace_of o b)) (ap (of_kind trace_kind) (trace_restored o b h e)) refl refl refl refl

  history_shown : history_rule o b ≡ 0 → Shown history_kind.word history_kind
  unfolding record_of answer_of row_kind row_values history_of section_of
  history_shown e =
      let same = history_restored o b h e in
      shows (history (history_of o b)) (ap (of_kind history_kind) same)
      (ap (λ (vs : List Value). accepted (count 8 ∷ vs))
      (ap (history_kind.values o place) (sym same) ∙ history-answer o place (history_of o b) (history-faultless o b e)))
      refl refl refl

  gps_shown : gps_rule o b ≡ 0 → Shown gps_kind.word gps_kind
  unfolding record_of answer_of row_kind row_values
  gps_shown e =
      let same = gps_restored o b h e in
      shows (gps (gps_of o b)) (ap (of_kind gps_kind) same) refl refl (ap (word o 0) (sym same)) (ap (word o 4) (sym same))

  trigger_shown : trigger_rule o b ≡ 0 → Shown trigger_kind.word trigger_kind
  unfolding record_of answer_of row_kind row_values trigger_of
  trigger_shown e = shows (trigger (trigger_of o b)) (ap (of_kind trigger_kind) (trigger_restored o b h e)) refl refl refl refl

  tlb_shown : tlb_rule o b ≡ 0 → Shown tlb_kind.word tlb_kind
  unfolding record_of answer_of row_kind row_values tlb_of
  tlb_shown e = shows (tlb (tlb_of o b)) (ap (of_kind tlb_kind) (tlb_restored o b h e)) refl refl refl refl

  pub shown : (k : ℕ) → record_rule o k b ≡ 0 → Shown k (kind_of k)
  shown k =
      kind_cases (λ w x. x.rule o b ≡ 0 → Shown w x) k
      phonon_shown charge_shown administrative_shown trace_shown history_shown gps_shown trigger_shown tlb_shown
      (λ e. absurd (omega arith))
