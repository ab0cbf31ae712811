-- What a writer wrote, Record reads back the same, at that place, for every kind; all else in the output stays.
-- The idea: the bytes at the place are those of a record that is valid alone; what the fields show is each kind's own round trip.
use mathlib.Core.Path.{◌≡◌, refl, sym, ap, ap₂, ◌∙◌, subst}
use mathlib.Core.Bool.{true}
use mathlib.Core.List.{List, [], ◌∷◌, ◌++◌, append_assoc}
use Prim.Native.Nat.{ℕ, ◌+◌, ◌-◌, ◌*◌, ◌≤◌}
use native.Mathlib.Omega.{arith}
use native.Mathlib.Decide.{dec_le}
use lib.ListN.{length, take, drop, length-drop, take-append-drop, drop_of_length-le}
use lib.Seq.{take_at, drop-drop, drop-append-le, take-nil}
use borrow.Author.Tests.{le-leb}
use Rattle.theory.specs.declared.Order.{Order}
use Rattle.theory.specs.Words.{Bytes, Fits}
use Rattle.theory.specs.Tests.{Res, ok, bad}
use Rattle.theory.proofs.WordLaws.{Bytes-puts, Bytes-append}
use Rattle.theory.proofs.StructureLaws.{drop-two}
use Rattle.note.specs.Limits.{file_limit}
use Rattle.note.specs.Words.{word, words}
use Rattle.note.specs.Kinds.{Kind}
use Rattle.note.specs.declared.Phonon.{Phonon}
use Rattle.note.specs.Phonon.{phonon_kind, phonon_bytes}
use Rattle.note.specs.declared.Charge.{Charge}
use Rattle.note.specs.Charge.{charge_kind, charge_bytes}
use Rattle.note.specs.declared.Administrative.{Administrative}
use Rattle.note.specs.Administrative.{administrative_kind, administrative_bytes}
use Rattle.note.specs.Trace.{Trace, trace_kind, trace_words, trace_bytes, trace_of}
use Rattle.note.specs.History.{Section, History, history_kind, width_at, width_of, end_at, trigger_at, section_of, history_of}
use Rattle.note.specs.History.{section_bytes, history_bytes, history_fault, section_values}
use Rattle.note.specs.declared.Gps.{Gps}
use Rattle.note.specs.Gps.{gps_kind, gps_bytes}
use Rattle.note.specs.declared.Trigger.{Trigger}
use Rattle.note.specs.Trigger.{trigger_kind, trigger_bytes}
use Rattle.note.specs.declared.Tlb.{Tlb}
use Rattle.note.specs.Tlb.{tlb_kind, tlb_bytes}
use Rattle.note.specs.Records.{Record, alone, is_kind, is_allowed, kind_of, record_bytes, read_record}
use Rattle.note.specs.Files.{version_word, header_bytes}
use Rattle.note.specs.Writers.{Draft, wrapped, record_next, record_output, header_next, header_output}
use Rattle.note.specs.Writers.{phonon_draft, charge_draft, administrative_draft, trace_draft, history_draft}
use Rattle.note.specs.Writers.{gps_draft, trigger_draft, tlb_draft}
use Rattle.note.specs.Answers.{Value, accepted, count, counts}
use Rattle.note.specs.Calls.{record_found, record_given, record_at, part_given, samples_part, samples_at}
use Rattle.note.proofs.FieldLaws.{phonon_read_back, charge_read_back, administrative_read_back, trigger_read_back, tlb_read_back}
use Rattle.note.proofs.TraceLaws.{trace_read_back, trace-length}
use Rattle.note.proofs.HistoryLaws.{history_read_back}
use Rattle.note.proofs.GpsLaws.{gps_read_back}
use Rattle.demands.specs.Valid.{ValidRecord}
use Rattle.demands.specs.Pieces.{Piece, phonon, charge, administrative, trace, history, gps, trigger, tlb}
use Rattle.demands.specs.Pieces.{draft_of, of_kind, record_of, Writes, SectionFits, PieceFits, times_from, masks_from}
use Rattle.demands.specs.Pieces.{section_answer, section_size, veto_from, trigger_from, answer_of}
use Rattle.demands.specs.Outputs.{Laid, SectionStands}
use Rattle.demands.proofs.Bundles.{header_item}
use Rattle.demands.proofs.RowLaws.{record_size_lem}
use Rattle.demands.proofs.RecordLaws.{reads_record}
use Rattle.demands.proofs.OutputLaws.{structure_apart, laid_from, put-laid, Granted, granted, refusal_keeps}

-- ---- one record

module _ (out : List ℕ) (place next : ℕ) (w : Draft) (e : record_next out place w ≡ ok next) where
  pub record_granted : Granted (length out) place w.fault (length w.bytes) next
  unfolding record_next
  record_granted = granted (length out) place w.fault (length w.bytes) next e

  -- The record's bytes stand there, and every other byte of the output is as it was (FORMAT 9.1).
  pub record_laid : Laid out (record_output out place w) place next w.bytes
  unfolding record_output
  record_laid =
      let g = record_granted in
      rw (e, ← g.is) (put-laid out w.bytes place (place + length w.bytes) g.room)

-- A refusal leaves the output as it was.
pub record_refused : (out : List ℕ) (place : ℕ) (w : Draft) (c p : ℕ) → record_next out place w ≡ bad c p
    → record_output out place w ≡ out
unfolding record_output
record_refused out place w c p e = refusal_keeps (record_next out place w) out w.bytes place c p e

-- ---- the header

pub header-laid : (o : Order) (out : List ℕ) (major minor next : ℕ) → header_next out ≡ ok next
    → Laid out (header_output o out major minor) 0 next (header_bytes o (version_word major minor))
unfolding header_next header_output
header-laid o out major minor next e =
    let g = granted (length out) 0 0 8 next e in
    let v : ℕ = version_word major minor in
    let eight : 8 ≡ length (header_bytes o v) = (header_item o).sizes v in
    let is : 0 + length (header_bytes o v) ≡ next = ap (λ (n : ℕ). 0 + n) (sym eight) ∙ g.is in
    rw (e, ← is) (put-laid out (header_bytes o v) 0 (0 + length (header_bytes o v)) (omega (arith, eight, g.room)))

pub header_refused : (o : Order) (out : List ℕ) (major minor c p : ℕ) → header_next out ≡ bad c p → header_output o out major minor ≡ out
unfolding header_output
header_refused o out major minor c p e = refusal_keeps (header_next out) out (header_bytes o (version_word major minor)) 0 c p e

-- ---- any record is found

-- What any writer wrote, Record finds there.
module _ (o : Order) (out : List ℕ) (place next : ℕ) (w : Draft) (r : Record) (h : Writes o w r) (e : record_next out place w ≡ ok next) where
  pub written-valid : ValidRecord o alone r
  unfolding is_allowed
  written-valid =
      let g = record_granted out place next w e in
      let size : length w.bytes ≡ 8 + length r.body = ap length h.bytes_are ∙ record_size_lem o r in
      record {
        kind_allowed = h.kind-known;
        place_allowed = refl;
        kind_fits = h.kind_fits;
        length-fits = omega (arith, g.limit, g.room);
        body_bytes = h.body_bytes;
        body-rule = h.body-rule g.fine;
      }

  pub written_from : drop place (record_output out place w) ≡ record_bytes o r ++ drop next out
  written_from =
      laid_from out _ place next w.bytes (record_laid out place next w e) ∙ ap (λ (x : List ℕ). x ++ drop next out) h.bytes_are

  pub record_found_lem : record_found o (record_output out place w) place ≡ ok r
  unfolding record_found
  record_found_lem =
      let g = record_granted out place next w e in
      let l = record_laid out place next w e in
      let limit : length (record_output out place w) ≤ file_limit = omega (arith, l.size, g.limit) in
      rw (le-leb (length (record_output out place w)) file_limit limit)
      (ap (read_record o alone place) written_from ∙ reads_record o alone r place (drop next out) written-valid)

  -- Its body stands eight bytes further on.
  pub body-from : drop (place + 8) (record_output out place w) ≡ r.body ++ drop next out
  body-from =
      let rest : List ℕ = drop next out in
      sym (drop-drop 8 place (record_output out place w))
      ∙ ap (drop 8) (written_from ∙ structure_apart o (λ (b : List ℕ). b) r rest)
      ∙ drop-two o r.word (length r.body) (r.body ++ rest)

-- ---- the eight kinds

-- A kind that its word names, around a body.
writes : (o : Order) (k : Kind) (body : List ℕ) (fault : ℕ) → kind_of k.word ≡ k → is_kind alone k.word ≡ true → Fits 4 k.word
    → Bytes body → (fault ≡ 0 → k.rule o body ≡ 0) → Writes o (record { fault = fault; bytes = wrapped o k body }) (of_kind k body)
writes o k body fault named known fits bytes follows = record {
  bytes_are = refl;
  kind-known = known;
  kind_fits = fits;
  body_bytes = bytes;
  body-rule = λ e. ap (λ (x : Kind). x.rule o body) named ∙ follows e;
}

section_bytes_lem : (o : Order) (s : Section) → SectionFits s → Bytes (section_bytes o s)
unfolding section_bytes
section_bytes_lem o s h =
    Bytes-append (words o (s.count ∷ [])) _ (Bytes-puts o 4 (s.count ∷ []))
    (Bytes-append s.times _ h.0
    (Bytes-append (words o (s.width ∷ [])) _ (Bytes-puts o 4 (s.width ∷ [])) h.1))

pub piece_writes : (o : Order) (p : Piece) → PieceFits p → Writes o (draft_of o p) (record_of o p)
unfolding draft_of record_of PieceFits kind_of is_kind
    phonon_draft charge_draft administrative_draft trace_draft history_draft gps_draft trigger_draft tlb_draft
    phonon_bytes charge_bytes administrative_bytes trace_bytes history_bytes gps_bytes trigger_bytes tlb_bytes
piece_writes o (phonon f) h = writes o phonon_kind (phonon_bytes o f) _ refl refl (omega arith) (Bytes-puts o 4 _) (λ e. (phonon_read_back o f h e).0)
piece_writes o (charge f) h = writes o charge_kind (charge_bytes o f) _ refl refl (omega arith) (Bytes-puts o 4 _) (λ e. (charge_read_back o f h e).0)
piece_writes o (administrative f) h =
    writes o administrative_kind (administrative_bytes o f) _ refl refl (omega arith) (Bytes-puts o 4 _)
    (λ e. (administrative_read_back o f h e).0)
piece_writes o (trace f) h =
    writes o trace_kind (trace_bytes o f) _ refl refl (omega arith)
    (Bytes-append (words o (trace_words f)) f.samples (Bytes-puts o 4 _) h.1) (λ e. (trace_read_back o f h.0 e).0)
piece_writes o (history f) h =
    writes o history_kind (history_bytes o f) _ refl refl (omega arith)
    (Bytes-append (section_bytes o f.veto) _ (section_bytes_lem o f.veto h.0) (section_bytes_lem o f.trigger h.1))
    (λ e. (history_read_back o f e).0)
piece_writes o (gps f) h = writes o gps_kind (gps_bytes o f) _ refl refl (omega arith) (Bytes-puts o 4 _) (λ e. (gps_read_back o f e).0)
piece_writes o (trigger f) h =
    writes o trigger_kind (trigger_bytes o f) _ refl refl (omega arith) (Bytes-puts o 4 _) (λ e. (trigger_read_back o f h).0)
piece_writes o (tlb f) h = writes o tlb_kind (tlb_bytes o f) _ refl refl (omega arith) (Bytes-puts o 4 _) (λ e. (tlb_read_back o f h e).0)

-- ---- their fields

-- A section's part of the answer, from the section that stands at p of the body.
section_answer_lem : (o : Order) (from p : ℕ) (b : List ℕ) (s : Section) → section_of o p b ≡ s
    → section_values o from p b ≡ section_answer (from + p) s
unfolding section_values section_of width_at
section_answer_lem o from p b s e =
    let counted : word o p b ≡ s.count = ap (λ (x : Section). x.count) e in
    let wide : width_of o p b ≡ s.width = ap (λ (x : Section). x.width) e in
    let times : from + (p + 4) ≡ from + p + 4 = omega arith in
    let masks : from + (p + 4 + 4 * word o p b + 4) ≡ from + p + 8 + 4 * s.count = omega arith in
    λ i. counted i ∷ times i ∷ wide i ∷ masks i ∷ []

after_section : (o : Order) (p : ℕ) (b : List ℕ) (s : Section) → section_of o p b ≡ s → end_at o p b ≡ p + section_size s
unfolding end_at section_of width_at
after_section o p b s e =
    let counted : word o p b ≡ s.count = ap (λ (x : Section). x.count) e in
    let wide : width_of o p b ≡ s.width = ap (λ (x : Section). x.width) e in
    rw (counted, wide) (omega arith)

-- The two sections of the body of a history without fault at the place: what they are, and where they stand.
module _ (o : Order) (place : ℕ) (f : History) (e : history_fault f ≡ 0) where
  veto-is : section_of o 0 (history_bytes o f) ≡ f.veto
  unfolding history_of
  veto-is = ap (λ (g : History). g.veto) (history_read_back o f e).1

  trigger-is : section_of o (trigger_at o (history_bytes o f)) (history_bytes o f) ≡ f.trigger
  unfolding history_of
  trigger-is = ap (λ (g : History). g.trigger) (history_read_back o f e).1

  veto-place : place + 8 + 0 ≡ veto_from place f
  veto-place = omega arith

  trigger-place : place + 8 + trigger_at o (history_bytes o f) ≡ trigger_from place f
  trigger-place = omega (arith, after_section o 0 (history_bytes o f) f.veto veto-is)

  pub history-answer : history_kind.values o place (history_bytes o f)
      ≡ counts (section_answer (veto_from place f) f.veto ++ section_answer (trigger_from place f) f.trigger)
  history-answer =
      let b : List ℕ = history_bytes o f in
      ap₂ (λ (x y : List ℕ). counts (x ++ y))
      (section_answer_lem o (place + 8) 0 b f.veto veto-is ∙ ap (λ (n : ℕ). section_answer n f.veto) veto-place)
      (section_answer_lem o (place + 8) (trigger_at o b) b f.trigger trigger-is ∙ ap (λ (n : ℕ). section_answer n f.trigger) trigger-place)

-- The fields of the body of fields are the fields.
fields_are : (o : Order) (place : ℕ) (p : Piece) → PieceFits p → (draft_of o p).fault ≡ 0
    → record_given o place (ok (record_of o p)) ≡ answer_of place p
unfolding draft_of record_of PieceFits answer_of kind_of
    phonon_draft charge_draft administrative_draft trace_draft history_draft gps_draft trigger_draft tlb_draft
fields_are o place (phonon f) h e = ap (λ (g : Phonon). answer_of place (phonon g)) (phonon_read_back o f h e).1
fields_are o place (charge f) h e = ap (λ (g : Charge). answer_of place (charge g)) (charge_read_back o f h e).1
fields_are o place (administrative f) h e = ap (λ (g : Administrative). answer_of place (administrative g)) (administrative_read_back o f h e).1
fields_are o place (trace f) h e = ap (λ (g : Trace). answer_of place (trace g)) (trace_read_back o f h.0 e).1
fields_are o place (history f) h e = ap (λ (vs : List Value). accepted (count 8 ∷ vs)) (history-answer o place f e)
fields_are o place (gps f) h e = ap (λ (g : Gps). answer_of place (gps g)) (gps_read_back o f e).1
fields_are o place (trigger f) h e = ap (λ (g : Trigger). answer_of place (trigger g)) (trigger_read_back o f h).1
fields_are o place (tlb f) h e = ap (λ (g : Tlb). answer_of place (tlb g)) (tlb_read_back o f h e).1

module _ (o : Order) (out : List ℕ) (place next : ℕ) where
  -- For every kind: what the writer wrote, Record reads back the same, at that place.
  pub piece-reads : (p : Piece) → PieceFits p → record_next out place (draft_of o p) ≡ ok next
      → record_at o (record_output out place (draft_of o p)) place ≡ answer_of place p
  unfolding record_at
  piece-reads p h e =
      ap (record_given o place) (record_found_lem o out place next (draft_of o p) (record_of o p) (piece_writes o p h) e)
      ∙ fields_are o place p h (record_granted out place next (draft_of o p) e).fine

  -- A trace's samples, which Samples finds.
  pub samples-read : (f : Trace) → PieceFits (trace f) → record_next out place (trace_draft o f) ≡ ok next
      → samples_at o (record_output out place (trace_draft o f)) place ≡ f.samples
  unfolding draft_of record_of PieceFits trace_draft trace_of samples_at samples_part
  samples-read f h e =
      let w : Draft = trace_draft o f in
      let new : List ℕ = record_output out place w in
      let body : List ℕ = trace_bytes o f in
      let rest : List ℕ = drop next out in
      let r : Record = of_kind trace_kind body in
      let made : Writes o w r = piece_writes o (trace f) h in
      let (rule, fields) = trace_read_back o f h.0 (record_granted out place next w e).fine in
      let same : drop 48 body ≡ f.samples = ap (λ (g : Trace). g.samples) fields in
      let long : 48 ≤ length body = omega (arith, (trace-length o body rule).0) in
      let size : length f.samples ≡ length body - 48 = sym (ap length same) ∙ length-drop 48 body in
      let at : place + 8 + 48 ≡ place + 56 = omega arith in
      let from : drop (place + 56) new ≡ f.samples ++ rest =
      ap (λ (n : ℕ). drop n new) (sym at)
      ∙ sym (drop-drop 48 (place + 8) new)
      ∙ ap (drop 48) (body-from o out place next w r made e)
      ∙ drop-append-le 48 body rest long
      ∙ ap (λ (x : List ℕ). x ++ rest) same in
      ap (λ (x : Res Record). take (part_given place x).1 (drop (part_given place x).0 new)) (record_found_lem o out place next w r made e)
      ∙ ap (take (length body - 48)) from
      ∙ take_at f.samples rest (length body - 48) size

-- A part of a body, where the body stands in front of something.
part-within : (b rest x : List ℕ) (q n : ℕ) → take n (drop q b) ≡ x → take (length x) (drop q (b ++ rest)) ≡ x
part-within b rest x q n e = elim (dec_le q (length b)) [ yes l ↦ inside l | no l ↦ beyond (omega arith) ]
  where
    inside : q ≤ length b → take (length x) (drop q (b ++ rest)) ≡ x
    inside l =
        let y : List ℕ = drop n (drop q b) in
        let split : drop q b ≡ x ++ y = sym (take-append-drop n (drop q b)) ∙ ap (λ (z : List ℕ). z ++ y) e in
        ap (take (length x)) (drop-append-le q b rest l ∙ ap (λ (z : List ℕ). z ++ rest) split ∙ append_assoc x y rest)
        ∙ take_at x (y ++ rest) (length x) refl

    beyond : length b ≤ q → take (length x) (drop q (b ++ rest)) ≡ x
    beyond l = let none : x ≡ [] = sym e ∙ ap (take n) (drop_of_length-le b l) ∙ take-nil n in rw none

module _ (o : Order) (bs b rest : List ℕ) (from p : ℕ) (s : Section) (stands : drop from bs ≡ b ++ rest) (is : section_of o p b ≡ s) where
  -- A section of a body that stands at `from`: its lists stand where the answer says.
  section_stands : SectionStands bs (from + p) s
  unfolding section_of width_at
  section_stands =
      let part : (q n at : ℕ) (x : List ℕ) → from + q ≡ at → take n (drop q b) ≡ x → take (length x) (drop at bs) ≡ x =
      λ q n at x here e.
      ap (λ (m : ℕ). take (length x) (drop m bs)) (sym here)
      ∙ ap (take (length x)) (sym (drop-drop q from bs) ∙ ap (drop q) stands) ∙ part-within b rest x q n e in
      let counted : word o p b ≡ s.count = ap (λ (x : Section). x.count) is in
      let times : from + (p + 4) ≡ times_from (from + p) s = omega arith in
      let masks : from + (p + 4 + 4 * word o p b + 4) ≡ masks_from (from + p) s = omega arith in
      record {
        times = part (p + 4) (4 * word o p b) _ s.times times (ap (λ (x : Section). x.times) is);
        masks = part (p + 4 + 4 * word o p b + 4) (4 * (word o p b * width_of o p b)) _ s.masks masks (ap (λ (x : Section). x.masks) is);
      }

-- A history's lists stand where Record's answer says.
pub lists_stand : (o : Order) (out : List ℕ) (place next : ℕ) (f : History) → PieceFits (history f)
    → record_next out place (history_draft o f) ≡ ok next
    → SectionStands (record_output out place (history_draft o f)) (veto_from place f) f.veto
    × SectionStands (record_output out place (history_draft o f)) (trigger_from place f) f.trigger
unfolding draft_of record_of PieceFits history_draft
lists_stand o out place next f h e =
    let w : Draft = history_draft o f in
    let b : List ℕ = history_bytes o f in
    let rest : List ℕ = drop next out in
    let new : List ℕ = record_output out place w in
    let fine : history_fault f ≡ 0 = (record_granted out place next w e).fine in
    let from : drop (place + 8) new ≡ b ++ rest = body-from o out place next w (of_kind history_kind b) (piece_writes o (history f) h) e in (
      subst (λ (n : ℕ). SectionStands new n f.veto) (veto-place o place f fine)
          (section_stands o new b rest (place + 8) 0 f.veto from (veto-is o place f fine)),
      subst (λ (n : ℕ). SectionStands new n f.trigger) (trigger-place o place f fine)
          (section_stands o new b rest (place + 8) (trigger_at o b) f.trigger from (trigger-is o place f fine)),
    )
