-- What is handed to a record's writer, for any of the eight kinds, as one type: so that a theorem about writers is said once. Then the record that
-- the writer makes of it, and what Record answers for that record.
use Rattle.std.specs.Prelude.{ℕ, ◌+◌, ◌*◌, ◌≡◌, true, List, [], ◌∷◌, ◌++◌}
use Rattle.theory.specs.declared.Order.{Order}
use Rattle.theory.specs.Words.{Bytes, Fits, AllFit}
use Rattle.note.specs.Words.{AllSigned}
use Rattle.note.specs.Answers.{Given, accepted, whole, count, counts, wholes}
use Rattle.note.specs.declared.Phonon.{Phonon}
use Rattle.note.specs.Phonon.{phonon_kind, phonon_words, phonon_bytes}
use Rattle.note.specs.declared.Charge.{Charge}
use Rattle.note.specs.Charge.{charge_kind, charge_words, charge_bytes}
use Rattle.note.specs.declared.Administrative.{Administrative}
use Rattle.note.specs.Administrative.{administrative_kind, administrative_words, administrative_bytes}
use Rattle.note.specs.Trace.{Trace, TraceFits, trace_kind, trace_bytes}
use Rattle.note.specs.History.{Section, History, history_kind, history_bytes}
use Rattle.note.specs.declared.Gps.{Gps}
use Rattle.note.specs.Gps.{gps_kind, gps_numbers, gps_bytes}
use Rattle.note.specs.declared.Trigger.{Trigger}
use Rattle.note.specs.Trigger.{trigger_kind, trigger_masks, trigger_bytes}
use Rattle.note.specs.declared.Tlb.{Tlb}
use Rattle.note.specs.Tlb.{tlb_kind, tlb_words, tlb_bytes}
use Rattle.note.specs.Kinds.{Kind}
use Rattle.note.specs.Records.{Record, alone, is_kind, record_rule, record_bytes}
use Rattle.note.specs.Writers.{Draft, phonon_draft, charge_draft, administrative_draft, trace_draft}
use Rattle.note.specs.Writers.{history_draft, gps_draft, trigger_draft, tlb_draft}

-- FORMAT 9.2: the fields of one record or entry, as its writer takes them.
pub data Piece : Type 0 where
  phonon : Phonon → Piece
  charge : Charge → Piece
  administrative : Administrative → Piece
  trace : Trace → Piece
  history : History → Piece
  gps : Gps → Piece
  trigger : Trigger → Piece
  tlb : Tlb → Piece

-- What its writer makes of them: the first fault, and the bytes.
unfoldable pub draft_of : Order → Piece → Draft
draft_of o (phonon f) = phonon_draft o f
draft_of o (charge f) = charge_draft o f
draft_of o (administrative f) = administrative_draft o f
draft_of o (trace f) = trace_draft o f
draft_of o (history f) = history_draft o f
draft_of o (gps f) = gps_draft o f
draft_of o (trigger f) = trigger_draft o f
draft_of o (tlb f) = tlb_draft o f

-- The record or entry that these fields are: the kind's word around the body of the fields.
abbrev pub of_kind : Kind → List ℕ → Record
of_kind k body = record { word = k.word; body = body }

unfoldable pub record_of : Order → Piece → Record
record_of o (phonon f) = of_kind phonon_kind (phonon_bytes o f)
record_of o (charge f) = of_kind charge_kind (charge_bytes o f)
record_of o (administrative f) = of_kind administrative_kind (administrative_bytes o f)
record_of o (trace f) = of_kind trace_kind (trace_bytes o f)
record_of o (history f) = of_kind history_kind (history_bytes o f)
record_of o (gps f) = of_kind gps_kind (gps_bytes o f)
record_of o (trigger f) = of_kind trigger_kind (trigger_bytes o f)
record_of o (tlb f) = of_kind tlb_kind (tlb_bytes o f)

-- FORMAT 9.2, a second time: a writer's way to write the record r: its bytes, and, where the fields have no fault, a body that follows the kind's
-- rule.
pub record Writes (o : Order) (w : Draft) (r : Record) : Type 0 where
  pub bytes_are : w.bytes ≡ record_bytes o r
  pub kind-known : is_kind alone r.word ≡ true
  pub kind_fits : Fits 4 r.word
  pub body_bytes : Bytes r.body
  pub body-rule : w.fault ≡ 0 → record_rule o r.word r.body ≡ 0

-- FORMAT 1.2, 9.2: numbers are words, lists and samples are bytes. A caller's types say no less; of a GPS record's numbers nothing is asked, since
-- the writer's own tests bound them.
abbrev pub SectionFits : Section → Type 0
SectionFits s = Bytes s.times × Bytes s.masks

unfoldable pub PieceFits : Piece → Type 0
PieceFits (phonon f) = AllSigned (phonon_words f)
PieceFits (charge f) = AllSigned (charge_words f)
PieceFits (administrative f) = AllFit 4 (administrative_words f)
PieceFits (trace f) = TraceFits f × Bytes f.samples
PieceFits (history f) = SectionFits f.veto × SectionFits f.trigger
PieceFits (gps f) = Unit {0}
PieceFits (trigger f) = AllFit 4 (trigger_masks f)
PieceFits (tlb f) = AllFit 4 (tlb_words f)

-- ---- what Record answers for them

-- FORMAT 5.3: a history's section whose count stands at `from`: where its two lists start, what is answered for it, and how many bytes it has.
abbrev pub times_from : ℕ → Section → ℕ
times_from from s = from + 4

abbrev pub masks_from : ℕ → Section → ℕ
masks_from from s = from + 8 + 4 * s.count

abbrev pub section_answer : ℕ → Section → List ℕ
section_answer from s = s.count ∷ times_from from s ∷ s.width ∷ masks_from from s ∷ []

abbrev pub section_size : Section → ℕ
section_size s = 8 + 4 * s.count + 4 * (s.count * s.width)

-- FORMAT 5.3: the veto section of a history at the place begins its body, the trigger section follows.
abbrev pub veto_from : ℕ → History → ℕ
veto_from place f = place + 8

abbrev pub trigger_from : ℕ → History → ℕ
trigger_from place f = place + 8 + section_size f.veto

-- FORMAT 8.5: Record's answer for a record of these fields: the row kind, and the fields that were handed over.
unfoldable pub answer_of : ℕ → Piece → Given
answer_of place (phonon f) = accepted (count 3 ∷ wholes (phonon_words f))
answer_of place (charge f) = accepted (count 4 ∷ wholes (charge_words f))
answer_of place (administrative f) = accepted (count 6 ∷ counts (administrative_words f))
answer_of place (trace f) =
    accepted
    (count 7 ∷ count f.address ∷ count f.channel ∷ count f.code ∷ whole f.t0 ∷ count f.delta ∷ count f.n ∷ [])
answer_of place (history f) =
    accepted (count 8 ∷ counts (section_answer (veto_from place f) f.veto ++ section_answer (trigger_from place f) f.trigger))
answer_of place (gps f) = accepted (count 9 ∷ counts (gps_numbers f))
answer_of place (trigger f) = accepted (count 10 ∷ counts (trigger_masks f))
answer_of place (tlb f) = accepted (count 11 ∷ counts (tlb_words f))
