-- The fields of a body that its kind's rule admits, handed to their writer: it finds no fault, and its bytes are the record. For every kind.
-- The idea: the writer's tests are among the reader's, and the fields' body is the body.
use mathlib.Core.Path.{◌≡◌, refl, ap, ◌∙◌}
use mathlib.Core.List.{List}
use Prim.Native.Nat.{ℕ, ◌*◌, ◌≤◌}
use native.Mathlib.Omega.{arith}
use lib.ListN.{length, drop, length-drop}
use Rattle.theory.specs.declared.Order.{Order}
use Rattle.theory.specs.Words.{Bytes}
use Rattle.theory.proofs.TestLaws.{first-at, first_passes, equal_passes, equal_passed}
use Rattle.note.specs.Words.{word, signed, unsigned}
use Rattle.note.specs.Kinds.{Kind}
use Rattle.note.specs.Phonon.{phonon_kind, phonon_of, phonon_bytes, phonon_fault, phonon_rule}
use Rattle.note.specs.Charge.{charge_kind, charge_of, charge_bytes, charge_fault, charge_rule}
use Rattle.note.specs.Administrative.{administrative_kind, administrative_of, administrative_rule}
use Rattle.note.specs.Trace.{trace_kind, trace_of, trace_fault, bookkeeping_rule, timebase_rule, samples_rule, trace_rule}
use Rattle.note.specs.History.{history_kind, history_of, history_rule}
use Rattle.note.specs.Gps.{gps_kind, gps_of, gps_rule}
use Rattle.note.specs.Trigger.{trigger_kind, trigger_of, trigger_rule}
use Rattle.note.specs.Tlb.{tlb_kind, tlb_of, tlb_rule}
use Rattle.note.specs.Writers.{wrapped, phonon_draft, charge_draft, administrative_draft, trace_draft}
use Rattle.note.specs.Writers.{history_draft, gps_draft, trigger_draft, tlb_draft}
use Rattle.note.proofs.SignedLaws.{word-again}
use Rattle.note.proofs.FieldLaws.{phonon_restored, charge_restored, administrative_restored, trigger_restored, tlb_restored}
use Rattle.note.proofs.TraceLaws.{trace-accepted, trace_restored}
use Rattle.note.proofs.HistoryLaws.{history-faultless, history_restored}
use Rattle.note.proofs.GpsLaws.{gps_restored}
use Rattle.demands.specs.Outputs.{Again}

again : (o : Order) (k : Kind) (b body : List ℕ) (fault : ℕ) → fault ≡ 0 → body ≡ b → Again o k b (record { fault = fault; bytes = wrapped o k body })
again o k b body fault e s = record { fine = e; same = ap (wrapped o k) s }

module _ (o : Order) (b : List ℕ) (h : Bytes b) where
  -- A code that was read as signed is asked as the word that it was.
  code-again : 4 ≤ length b → (fault : ℕ → ℕ) → fault (word o 0 b) ≡ 0 → fault (unsigned (signed (word o 0 b))) ≡ 0
  code-again l fault e = ap fault (word-again o 0 b h l) ∙ e

  pub phonon-again : phonon_rule o b ≡ 0 → Again o phonon_kind b (phonon_draft o (phonon_of o b))
  unfolding phonon_draft phonon_of phonon_rule
  phonon-again e =
      let size : length b ≡ 44 = equal_passed (length b) 44 5 (first-at _ e 0) in
      again o phonon_kind b (phonon_bytes o (phonon_of o b)) _ (code-again (omega arith) phonon_fault (first-at _ e 1)) (phonon_restored o b h e)

  pub charge-again : charge_rule o b ≡ 0 → Again o charge_kind b (charge_draft o (charge_of o b))
  unfolding charge_draft charge_of charge_rule
  charge-again e =
      let size : length b ≡ 32 = equal_passed (length b) 32 5 (first-at _ e 0) in
      again o charge_kind b (charge_bytes o (charge_of o b)) _ (code-again (omega arith) charge_fault (first-at _ e 1)) (charge_restored o b h e)

  pub administrative-again : administrative_rule o b ≡ 0 → Again o administrative_kind b (administrative_draft o (administrative_of o b))
  unfolding administrative_draft administrative_of administrative_rule
  administrative-again e = again o administrative_kind b _ _ (first-at _ e 1) (administrative_restored o b h e)

  pub trace-again : trace_rule o b ≡ 0 → Again o trace_kind b (trace_draft o (trace_of o b))
  unfolding trace_draft trace_of trace_fault trace_rule bookkeeping_rule timebase_rule samples_rule
  trace-again e =
      let size : length (drop 48 b) ≡ 2 * word o 44 b = omega (arith, length-drop 48 b, (trace-accepted o b e).size) in
      let book = first-at _ e 1 in
      let base = first-at _ e 2 in
      let samples = first-at _ e 3 in
      again o trace_kind b _ _
      (first_passes _ (first-at _ book 2, (first-at _ book 3, (first-at _ base 2, (first-at _ samples 1, (equal_passes 6 size, tt))))))
      (trace_restored o b h e)

  pub history-again : history_rule o b ≡ 0 → Again o history_kind b (history_draft o (history_of o b))
  unfolding history_draft
  history-again e = again o history_kind b _ _ (history-faultless o b e) (history_restored o b h e)

  pub gps-again : gps_rule o b ≡ 0 → Again o gps_kind b (gps_draft o (gps_of o b))
  unfolding gps_draft gps_rule
  gps-again e = again o gps_kind b _ _ (first-at _ e 5) (gps_restored o b h e)

  pub trigger-again : trigger_rule o b ≡ 0 → Again o trigger_kind b (trigger_draft o (trigger_of o b))
  unfolding trigger_draft
  trigger-again e = again o trigger_kind b _ _ refl (trigger_restored o b h e)

  pub tlb-again : tlb_rule o b ≡ 0 → Again o tlb_kind b (tlb_draft o (tlb_of o b))
  unfolding tlb_draft tlb_rule
  tlb-again e = again o tlb_kind b _ _ (first-at _ e 1) (tlb_restored o b h e)
