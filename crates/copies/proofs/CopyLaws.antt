-- What a writer that is handed a body's own fields leaves: the record, where there is room for it. Once, for every kind.
-- The idea: the fields have no fault and their bytes are the record, so the writer is granted and lays them.
use mathlib.Core.Path.{◌≡◌, sym, ap, ◌∙◌, subst}
use mathlib.Core.List.{List}
use Prim.Native.Nat.{ℕ, ◌+◌, ◌≤◌, ◌<◌}
use native.Mathlib.Omega.{arith}
use lib.ListN.{length}
use Rattle.theory.specs.declared.Order.{Order}
use Rattle.theory.specs.Words.{Bytes}
use Rattle.theory.specs.Tests.{ok}
use Rattle.theory.proofs.StructureLaws.{length-structure}
use Rattle.note.specs.Kinds.{Kind}
use Rattle.note.specs.Phonon.{phonon_of}
use Rattle.note.specs.Charge.{charge_of}
use Rattle.note.specs.Administrative.{administrative_of}
use Rattle.note.specs.Trace.{trace_of}
use Rattle.note.specs.History.{history_of}
use Rattle.note.specs.Gps.{gps_of}
use Rattle.note.specs.Trigger.{trigger_of}
use Rattle.note.specs.Tlb.{tlb_of}
use Rattle.note.specs.Records.{kind_of, unknown_kind}
use Rattle.note.specs.Writers.{Draft, wrapped, record_next, record_output}
use Rattle.note.specs.Writers.{phonon_draft, charge_draft, administrative_draft, trace_draft, history_draft, gps_draft, trigger_draft, tlb_draft}
use Rattle.demands.specs.Outputs.{Laid, Again}
use Rattle.demands.proofs.AgainLaws.{phonon-again, charge-again, administrative-again, trace-again}
use Rattle.demands.proofs.AgainLaws.{history-again, gps-again, trigger-again, tlb-again}
use Rattle.demands.proofs.OutputLaws.{grants}
use Rattle.demands.proofs.WriterLaws.{record_laid}
use Rattle.rules.specs.declared.Kind.{Kind as Named}
use Rattle.rules.specs.declared.Kind.TheVariants.{Phonon, Charge, Administrative, Trace, History, Gps, Trigger, Tlb}
use Rattle.rules.specs.Kinds.{kind_word}
use Rattle.rules.proofs.LengthLaws.{least, long_enough}
use Rattle.copies.specs.Copying.{Copyable, Copied}

-- The record of the body's own fields, of each kind.
abbrev pub draft_of : Named → Order → List ℕ → Draft
draft_of Phonon o b = phonon_draft o (phonon_of o b)
draft_of Charge o b = charge_draft o (charge_of o b)
draft_of Administrative o b = administrative_draft o (administrative_of o b)
draft_of Trace o b = trace_draft o (trace_of o b)
draft_of History o b = history_draft o (history_of o b)
draft_of Gps o b = gps_draft o (gps_of o b)
draft_of Trigger o b = trigger_draft o (trigger_of o b)
draft_of Tlb o b = tlb_draft o (tlb_of o b)

-- Of a body that follows its kind's rule it is the record itself.
again : (o : Order) (kind : Named) (b : List ℕ) → Bytes b → (kind_of (kind_word kind)).rule o b ≡ 0
    → Again o (kind_of (kind_word kind)) b (draft_of kind o b)
unfolding kind_of
again o Phonon = phonon-again o
again o Charge = charge-again o
again o Administrative = administrative-again o
again o Trace = trace-again o
again o History = history-again o
again o Gps = gps-again o
again o Trigger = trigger-again o
again o Tlb = tlb-again o

module _ (o : Order) (kind : Named) {word : ℕ} (named : kind_word kind ≡ word)
    (old : List ℕ) {b : List ℕ} {place : ℕ} (c : Copyable o (kind_of word) b (length old) place) where
  abbrev own_kind : Kind
  own_kind = kind_of (kind_word kind)

  abbrev draft : Draft
  draft = draft_of kind o b

  abbrev next : ℕ
  next = place + (8 + length b)

  own : Copyable o own_kind b (length old) place
  own = subst (λ (w : ℕ). Copyable o (kind_of w) b (length old) place) (sym named) c

  -- The body follows its kind's rule, and is as long as that asks.
  pub follows : own_kind.rule o b ≡ 0
  follows = own.follows

  pub long : least (kind_word kind) ≤ length b
  long = long_enough o (kind_word kind) b own.follows

  pub small : length b < 0x100000000
  small = omega (arith, c.room, c.limit)

  same : draft.bytes ≡ wrapped o own_kind b
  same = (again o kind b own.bytes own.follows).same

  granted : record_next old place draft ≡ ok next
  unfolding record_next
  granted =
      let size : length draft.bytes ≡ 8 + length b =
      ap length same ∙ length-structure o (λ (x : List ℕ). x) (record { word = own_kind.word; body = b }) in
      grants _ place _ _ own.limit (again o kind b own.bytes own.follows).fine (omega (arith, size, own.room)) ∙ ap (λ (n : ℕ). ok (place + n)) size

  -- What the writer leaves that is handed the body's fields is the record.
  pub copied : {new : List ℕ} → new ≡ record_output old place draft → Copied o (kind_of word) b old place new
  copied {new} q =
      subst (λ (w : ℕ). Copied o (kind_of w) b old place new) named
      (subst (λ (x : List ℕ). Laid old x place next (wrapped o own_kind b)) (sym q)
      (subst (λ (bytes : List ℕ). Laid old (record_output old place draft) place next bytes) same (record_laid old place next draft granted)))

-- No kind, no rule that is followed.
pub never : {o : Order} {k : Kind} {b : List ℕ} {n place : ℕ} → Copyable o k b n place → k ≡ unknown_kind → ⊥
never {o} {k} {b} c e = let none : ◌≡◌ {A = ℕ} 5 0 = sym (ap (λ (x : Kind). x.rule o b) e) ∙ c.follows in omega arith
